pub mod Step
pub mod Promises
