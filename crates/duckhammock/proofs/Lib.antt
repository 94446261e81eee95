pub mod Chained
pub mod Waiting
pub mod Looks
pub mod Wholes
pub mod Recorded
pub mod Earlier
