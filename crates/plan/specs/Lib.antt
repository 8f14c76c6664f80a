pub mod Changes
pub mod Plan
pub mod Carried
