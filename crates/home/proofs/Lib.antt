pub mod Walk
pub mod Arcs
