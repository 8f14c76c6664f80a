pub mod Numbers
pub mod Roster
pub mod Opened
