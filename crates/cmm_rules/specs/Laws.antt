-- Rules are told apart by their numbers, and their texts are lines.
use Rattle.std.specs.Prelude.{◌≡◌, true, ◌&&◌, nat_lt, nat_le, Some, length}
use Rattle.std.specs.List.{list_all}
use Rattle.cmm_rules.specs.declared.rule.Rule.{Rule}
use Rattle.cmm_rules.specs.Rules.{rule_number, rule_text, rule_of}

-- no two rules have the same number
abbrev pub OneRuleANumber : Type 0
OneRuleANumber = (r s : Rule) → rule_number r ≡ rule_number s → r ≡ s

-- each rule is found by its number
abbrev pub EachIsListed : Type 0
EachIsListed = (r : Rule) → rule_of (rule_number r) ≡ Some r

-- each text is a line: one character at least, all of them printed characters of ASCII
abbrev pub TextsAreLines : Type 0
TextsAreLines = (r : Rule) → nat_lt 0 (length (rule_text r)) && list_all (λ c. nat_le 32 c && nat_le c 126) (rule_text r) ≡ true
