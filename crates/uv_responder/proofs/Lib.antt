pub mod Passed
pub mod Settled
pub mod Planned
pub mod Letting
pub mod Carried
pub mod Lasting
pub mod GoingOut
pub mod Ruling
