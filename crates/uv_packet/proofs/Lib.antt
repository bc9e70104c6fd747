pub mod Again
pub mod Cutting
