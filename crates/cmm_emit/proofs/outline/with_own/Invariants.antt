use Rattle.std.proofs.Common.{◌≡◌, ◌++◌, map, take, Some}
use Rattle.cmm_emit.proofs.outline.with_own.Given as goal

-- the labels of the procedures so far
abbrev pub invariant-loop-entry : goal.invariant-loop-entry
invariant-loop-entry l = l.labels ≡ take l.first l.others ++ map Some (take l.entry-index l.entries)
