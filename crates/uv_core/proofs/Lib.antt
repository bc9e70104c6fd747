pub mod Ending
pub mod Finding
pub mod Leading
pub mod Leaving
pub mod Playing
pub mod Sided
pub mod Sparing
pub mod Sweeping
