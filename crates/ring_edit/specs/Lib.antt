pub mod Shift
pub mod Homes
