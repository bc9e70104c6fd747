pub mod Begun
pub mod Pulling
pub mod Turned
