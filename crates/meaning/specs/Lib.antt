pub mod Meaning
pub mod Ascending
pub mod Rising
