use Rattle.std.proofs.Common.{take}
use Rattle.std.specs.List.{list_any}
use Rattle.cmm_emit.specs.Mentions.{AddsNamed, operand_names}
use Rattle.cmm_emit.proofs.mentions.Mentions.add_arguments.Given as goal

-- what those so far name is added
abbrev pub invariant-loop-argument : goal.invariant-loop-argument
invariant-loop-argument l = AddsNamed (λ r. list_any (λ x. operand_names r x.value) (take l.argument-index l.arguments)) l.initial.self l.self
