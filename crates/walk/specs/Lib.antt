pub mod Flat
pub mod Walk
pub mod Reads
pub mod Promises
pub mod Moves
