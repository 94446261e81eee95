pub mod Run
pub mod Promises
pub mod Stretch
