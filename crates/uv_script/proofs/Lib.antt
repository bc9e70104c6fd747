mod FirstLines
mod FirstWords
mod Fronts
mod InRange
mod Joins
mod Left
mod Namings
mod Silence
mod Taken
mod Values
pub mod AmissLaws
pub mod AmissLoops
