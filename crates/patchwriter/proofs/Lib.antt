pub mod Loads
pub mod Writing
pub mod Execution
pub mod Stream
