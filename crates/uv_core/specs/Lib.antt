pub mod Beside
pub mod Devices
pub mod Leads
pub mod Plays
pub mod Roles
pub mod Uses
