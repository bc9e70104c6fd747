pub mod Feeds
pub mod Keys
