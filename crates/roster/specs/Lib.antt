pub mod Content
pub mod Reading
pub mod Inner
