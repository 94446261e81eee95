pub mod Tests
pub mod Bounds
pub mod Modes
pub mod Named
pub mod Normals
pub mod Ignored
