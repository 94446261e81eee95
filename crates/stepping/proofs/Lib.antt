pub mod Placed
pub mod Units
