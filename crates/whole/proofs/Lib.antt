pub mod Tens
pub mod Untold
pub mod Wholly
pub mod Singles
pub mod Ignored
