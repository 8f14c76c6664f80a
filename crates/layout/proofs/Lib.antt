pub mod Rows
pub mod Trailers
