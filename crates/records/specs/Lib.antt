pub mod Outcome
pub mod Record
pub mod Works
