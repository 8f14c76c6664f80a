-- What the writing functions' proofs cite, each file above those that it cites.
pub mod Spans
pub mod Shifts
pub mod Written
pub mod Filled
pub mod Listed
