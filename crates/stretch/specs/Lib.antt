pub mod Promise
pub mod Bounds
