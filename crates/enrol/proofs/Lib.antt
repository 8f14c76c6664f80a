pub mod Seated
pub mod Written
