pub mod Attributes
pub mod Answers
pub mod Promises
