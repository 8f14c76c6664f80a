pub mod Outcomes
pub mod Room
pub mod Works
