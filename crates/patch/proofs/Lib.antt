pub mod Faults
pub mod Masked
pub mod LoadedBits
pub mod Algebra
pub mod Meanings
pub mod Promises
