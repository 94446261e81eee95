pub mod Fields
pub mod Components
pub mod Inner
pub mod Promises
