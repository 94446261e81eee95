pub mod Bytes
pub mod Found
