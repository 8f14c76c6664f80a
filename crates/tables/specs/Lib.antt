pub mod Table
pub mod Shape
pub mod Placement
