pub mod Arms
pub mod Four
