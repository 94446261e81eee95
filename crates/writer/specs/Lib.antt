pub mod Write
pub mod Heads
pub mod Widths
pub mod Again
pub mod Back
pub mod Promises
