pub mod Whole
pub mod Inner
pub mod Promises
