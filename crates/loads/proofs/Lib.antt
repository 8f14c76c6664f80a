pub mod Counts
pub mod StartsOfStretches
pub mod Housed
