use Rattle.std.proofs.Common.{◌≡◌, max, drop}
use Rattle.cmm_located.specs.Layouts.{slots_end}
use Rattle.cmm_allocate.proofs.layout.end_of_slots.Given as goal

-- the slots that are left count alone
abbrev pub invariant-loop-place : goal.invariant-loop-place
invariant-loop-place l = max l.end (slots_end (drop l.place-index l.places)) ≡ slots_end l.places
