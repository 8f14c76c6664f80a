pub mod Enrol
