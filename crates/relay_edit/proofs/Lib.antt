pub mod Bars
pub mod Copies
pub mod OwnTable
pub mod Numbers
pub mod Homes
pub mod Edits
