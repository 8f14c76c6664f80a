pub mod Served
pub mod OneAnswer
