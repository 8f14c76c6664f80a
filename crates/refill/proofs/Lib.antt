pub mod Refills
