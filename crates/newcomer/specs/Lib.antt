pub mod Newcomer
