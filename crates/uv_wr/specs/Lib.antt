pub mod Statuses
pub mod Works
