mod Burying
pub mod Choosing
mod Filling
pub mod Homing
pub mod Places
