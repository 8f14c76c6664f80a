pub mod Refilled
