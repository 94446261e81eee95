pub mod Registers
pub mod Promises
