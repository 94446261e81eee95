pub mod Widths
pub mod TwoTo
pub mod Complement
pub mod Exactly
pub mod Patterns
mod NotNan
