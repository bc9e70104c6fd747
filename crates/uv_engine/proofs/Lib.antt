pub mod Apart
pub mod Finishing
pub mod Framing
pub mod GoingOn
pub mod Ringed
