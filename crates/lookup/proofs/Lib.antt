pub mod Halves
pub mod There
