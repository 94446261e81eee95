pub mod State
pub mod Front
pub mod Promises
