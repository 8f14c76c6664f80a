pub mod Replaced
pub mod Outcomes
