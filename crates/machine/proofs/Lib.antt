pub mod Below
pub mod Passing
pub mod Meanings
