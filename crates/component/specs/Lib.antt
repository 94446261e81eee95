pub mod Single
pub mod Component
