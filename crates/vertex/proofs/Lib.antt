pub mod Lists
pub mod Refusals
pub mod Promise
pub mod Injective
pub mod Ignored
