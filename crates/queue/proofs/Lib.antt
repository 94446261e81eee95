pub mod Moves
pub mod Pending
pub mod Stretches
pub mod FeedLaws
pub mod Cut
pub mod Feeds
