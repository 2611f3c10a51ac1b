-- The lemmas that proofs of other crates may cite.
pub use Rattle.cmm_rules.proofs.RuleLemmas.{each_is_listed, one_rule}
