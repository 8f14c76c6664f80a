pub mod Holes
pub mod Filled
