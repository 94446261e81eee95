pub mod Bench
pub mod Stream
