pub mod Meanings
pub mod Reaches
pub mod Upshots
pub mod Replies
pub mod Laws
pub mod Touching
