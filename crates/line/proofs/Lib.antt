pub mod Decimals
pub mod Words
pub mod Firsts
pub mod Lengths
pub mod Examples
