pub mod Promise
pub mod Start
