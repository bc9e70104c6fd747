pub mod Fields
pub mod Command
pub mod Reading
pub mod Refusal
pub mod RuleNames
