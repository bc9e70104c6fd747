pub mod Bads
pub mod Ends
