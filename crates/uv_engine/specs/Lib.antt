pub mod Acting
pub mod GoingOn
pub mod Laws
pub mod Ringing
pub mod Wanting
