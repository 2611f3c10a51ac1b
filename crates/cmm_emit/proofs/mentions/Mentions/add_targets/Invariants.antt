use Rattle.std.proofs.Common.{take}
use Rattle.std.specs.List.{list_any}
use Rattle.cmm_emit.specs.Mentions.{AddsNamed, target_names}
use Rattle.cmm_emit.proofs.mentions.Mentions.add_targets.Given as goal

-- what those so far name is added
abbrev pub invariant-loop-target : goal.invariant-loop-target
invariant-loop-target l = AddsNamed (λ r. list_any (λ x. target_names r x) (take l.target-index l.targets)) l.initial.self l.self
