pub mod Few
pub mod Sweeps
pub mod Seated
