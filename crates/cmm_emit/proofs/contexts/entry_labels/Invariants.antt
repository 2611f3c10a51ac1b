use Rattle.std.proofs.Common.{◌≡◌, take}
use Rattle.cmm_emit.specs.Contexts.{entry_labels}
use Rattle.cmm_emit.proofs.contexts.entry_labels.Given as goal

-- those of the procedures so far
abbrev pub invariant-loop-number : goal.invariant-loop-number
invariant-loop-number l = l.found ≡ entry_labels (take l.number l.contexts) (take l.number l.graphs)
