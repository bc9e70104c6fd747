pub mod Again
pub mod RuleLaws
