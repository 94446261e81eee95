pub mod Table
pub mod Cases
pub mod Remainder
pub mod Filled
pub mod Front
pub mod Tests
pub mod Bits
pub mod Pieces
