-- What lent numbers mean, each file above those that it cites.
pub mod Places
pub mod More
pub mod Edits
pub mod Words
pub mod Shapes
pub mod Fit
pub mod Keys
pub mod Choice
pub mod Run
pub mod Placed
pub mod Right
