pub mod Advance
pub mod Promise
pub mod Exist
pub mod Begins
pub mod Demand
