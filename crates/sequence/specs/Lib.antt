pub mod Start
pub mod Promise
pub mod Exist
