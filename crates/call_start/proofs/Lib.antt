pub mod Checked
pub mod Refusals
pub mod Stays
pub mod Ways
pub mod Unchanged
