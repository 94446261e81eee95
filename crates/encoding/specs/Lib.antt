pub mod Told
pub mod Named
pub mod Promises
