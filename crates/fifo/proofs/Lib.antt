pub mod WindowLaws
pub mod Meaning
