pub mod Fitting
pub mod Shares
pub mod Going
pub mod Sendable
