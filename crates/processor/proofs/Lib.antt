pub mod Bridge
pub mod Stays
pub mod Valid
pub mod Stepping
pub mod Looks
