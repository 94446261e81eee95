pub mod Answers
pub mod Cursor
