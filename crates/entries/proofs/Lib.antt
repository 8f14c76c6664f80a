pub mod Parted
pub mod Tested
