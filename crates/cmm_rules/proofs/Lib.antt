mod RuleLemmas
mod RulesRows
pub mod Shared
