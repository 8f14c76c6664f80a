pub mod Begins
pub mod Indices
pub mod Compared
pub mod There
pub mod Outcomes
pub mod OneAnswer
pub mod Content
pub mod Examples
