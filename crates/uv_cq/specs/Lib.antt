pub mod Rings
pub mod Uses
