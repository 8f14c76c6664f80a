pub mod Loops
pub mod Shaped
pub mod Nearest
pub mod Room
pub mod Placed
pub mod Pairs
