use Rattle.std.proofs.Common.{◌≡◌, ◌+◌, ◌++◌, map, take}
use Rattle.cmm_link.proofs.joining.add_addresses.Given as goal

-- those of the places so far
abbrev pub invariant-loop-offset : goal.invariant-loop-offset
invariant-loop-offset l = l.found ≡ l.initial.found ++ map (λ offset. l.at + offset) (take l.offset-index l.offsets)
