pub mod Command
pub mod Look
pub mod Bounds
pub mod Prefix
pub mod Promises
