pub mod Takes
pub mod OneAnswer
pub mod Kept
pub mod Room
pub mod Input
pub mod Sample
