pub mod Asked
pub mod Cuts
pub mod Keys
pub mod Outcome
pub mod Words
