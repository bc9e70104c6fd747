pub mod Deeds
pub mod Filled
pub mod Homes
pub mod Keys
pub mod Laws
pub mod Plain
