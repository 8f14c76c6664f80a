pub mod Skips
pub mod Lines
pub mod Less
pub mod More
pub mod Ahead
pub mod Further
pub mod Rings
pub mod Shifts
