pub mod Changes
pub mod Leasts
