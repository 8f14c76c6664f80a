pub mod Places
pub mod MoveList
