use Rattle.std.proofs.Common.{◌≡◌, ◌+◌, ◌++◌, map, take}
use Rattle.cmm_link.proofs.joining.add_address_lists.Given as goal

-- those of the procedures so far
abbrev pub invariant-loop-offsets : goal.invariant-loop-offsets
invariant-loop-offsets l = l.found ≡ l.initial.found ++ map (λ offsets. map (λ offset. l.at + offset) offsets) (take l.offsets-index l.lists)
