pub mod RegisterLaws
pub mod ReadBack
