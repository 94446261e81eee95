pub mod Outcomes
pub mod Meanings
