pub mod Patch
pub mod Registers
pub mod Answers
pub mod Promises
