pub mod Changes
pub mod Carried
pub mod Plans
