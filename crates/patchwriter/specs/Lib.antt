pub mod Commands
pub mod Answers
pub mod Writing
pub mod Stream
