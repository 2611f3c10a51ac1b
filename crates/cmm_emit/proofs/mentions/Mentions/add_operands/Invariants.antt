use Rattle.std.proofs.Common.{take}
use Rattle.std.specs.List.{list_any}
use Rattle.cmm_emit.specs.Mentions.{AddsNamed, operand_names}
use Rattle.cmm_emit.proofs.mentions.Mentions.add_operands.Given as goal

-- what those so far name is added
abbrev pub invariant-loop-operand : goal.invariant-loop-operand
invariant-loop-operand l = AddsNamed (λ r. list_any (λ x. operand_names r x) (take l.operand-index l.operands)) l.initial.self l.self
