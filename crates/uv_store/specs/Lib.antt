pub mod Counts
pub mod Going
pub mod Marks
pub mod Stored
pub mod Tables
pub mod Turning
