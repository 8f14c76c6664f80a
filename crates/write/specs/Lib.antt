pub mod Tables
pub mod Wrote
pub mod Places
