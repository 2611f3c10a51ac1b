-- Worked rows: numbers, texts and phases as messages show them.
use Rattle.std.proofs.Common.{◌≡◌, ◌++◌, Some, None, refl, codes, decimal}
use Rattle.cmm_rules.specs.declared.rule.Rule.TheVariants.{Syntax, ArmsOverlap, Limit, NoCut, NotASnapshot, ScriptTooLong, BytesOutsideSegments}
use Rattle.cmm_rules.specs.declared.rule.Phase.TheVariants as phase
use Rattle.cmm_rules.specs.Rules.{rules, rule_of, rule_text, phase_of, shown}

syntax_line : shown Syntax ≡ decimal 10 ++ codes " " ++ codes "syntax"
syntax_line = refl

-- the one text that is longer than its rule's name
arms_text : rule_text ArmsOverlap ≡ codes "arms overlap or leave the range"
arms_text = refl

of_40 : rule_of 40 ≡ Some Limit
unfolding rules
of_40 = refl

-- a number between two rules, and past the last
of_12 : rule_of 12 ≡ None
unfolding rules
of_12 = refl

of_91 : rule_of 91 ≡ None
unfolding rules
of_91 = refl

static_limit : phase_of Limit ≡ phase.Static
static_limit = refl

client_cut : phase_of NoCut ≡ phase.Client
client_cut = refl

snapshot_front : phase_of NotASnapshot ≡ phase.Snapshot
snapshot_front = refl

elf_padding : phase_of BytesOutsideSegments ≡ phase.Elf
elf_padding = refl

script_length : phase_of ScriptTooLong ≡ phase.Script
script_length = refl
