pub mod Fixed
pub mod Inner
