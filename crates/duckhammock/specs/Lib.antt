pub mod Promises
pub mod Recordings
