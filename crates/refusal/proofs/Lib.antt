pub mod Injective
pub mod Positive
pub mod First
pub mod Outcome
