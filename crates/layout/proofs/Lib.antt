pub mod Tests
pub mod Bounds
pub mod Meanings
pub mod Ignored
pub mod Present
pub mod Packed
pub mod Weighed
pub mod Sums
