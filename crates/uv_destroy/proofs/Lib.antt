pub mod Burials
pub mod Planning
