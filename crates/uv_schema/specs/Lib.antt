pub mod Methods
pub mod Values
pub mod Check
pub mod Refusals
pub mod Reading
pub mod Calls
pub mod Commands
pub mod RuleNames
