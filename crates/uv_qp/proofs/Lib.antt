pub mod Filled
pub mod Growing
pub mod Keeping
pub mod Lasting
pub mod Ledgering
pub mod Posting
pub mod Rows
