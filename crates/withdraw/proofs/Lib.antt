pub mod Around
pub mod Known
pub mod Chained
pub mod Outcomes
