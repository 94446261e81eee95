pub mod Sizes
pub mod Executed
pub mod Told
pub mod Drawn
pub mod Classes
