pub mod Most
pub mod Fnv
pub mod Scheme
pub mod Clockwise
