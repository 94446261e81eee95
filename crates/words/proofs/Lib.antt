pub mod Saving
pub mod ReadBack
pub mod Fits
pub mod Places
pub mod Holding
