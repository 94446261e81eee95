pub mod Format
pub mod Faults
pub mod Searching
pub mod Answers
pub mod Promises
pub mod Limits
