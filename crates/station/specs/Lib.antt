pub mod Promise
pub mod Handed
