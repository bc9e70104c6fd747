pub mod Maps
pub mod Moves
