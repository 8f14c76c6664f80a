pub mod Sinks
pub mod Keys
