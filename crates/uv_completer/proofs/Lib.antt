pub mod Going
pub mod Letting
pub mod Onward
pub mod Staying
pub mod Succeeding
