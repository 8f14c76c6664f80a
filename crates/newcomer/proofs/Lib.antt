pub mod Homes
pub mod Outcomes
pub mod Prepared
