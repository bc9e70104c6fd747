pub mod Rows
pub mod Cutting
pub mod Again
pub mod RuleLaws
pub mod RuleRows
