pub mod Putting
pub mod Outcomes
