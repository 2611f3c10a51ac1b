use Rattle.std.proofs.Common.{◌≡◌, ◌≤◌, drop, length}
use Rattle.cmm_image.specs.SecondFormat.{or_places}
use Rattle.cmm_image.proofs.LiveLaws.{or_behind}
use Rattle.cmm_image.proofs.live.add_places.Given as goal

-- the places up to a number are done
abbrev pub invariant-loop-number : goal.invariant-loop-number
invariant-loop-number l = (or_behind l.number l.places.items (drop l.number l.at_site) ≡ or_places l.fn.places.items l.at_site) × (l.number ≤ length l.places.items)
