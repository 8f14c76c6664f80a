pub mod Records
pub mod Attends
