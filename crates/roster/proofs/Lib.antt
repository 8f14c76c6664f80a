pub mod Blocks
pub mod Contents
pub mod Examples
pub mod Fronts
pub mod Outcomes
pub mod Exactly
pub mod Unchanged
pub mod Turns
