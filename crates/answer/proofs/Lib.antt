pub mod Digits
pub mod Records
pub mod Ends
pub mod Room
pub mod Examples
