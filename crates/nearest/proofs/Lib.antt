pub mod Nearer
pub mod Homes
