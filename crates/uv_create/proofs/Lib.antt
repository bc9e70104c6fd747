pub mod NewObjects
pub mod Planning
