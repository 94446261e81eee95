pub mod Pending
pub mod Feeding
pub mod Promises
