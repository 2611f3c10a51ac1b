use Rattle.std.proofs.Common.{◌≡◌, drop}
use Rattle.cmm_image.specs.SecondFormat.{are_among}
use Rattle.cmm_image.proofs.live.are_among.Given as goal

abbrev pub invariant-loop-place : goal.invariant-loop-place
invariant-loop-place l = are_among (drop l.place-index l.places) l.rest ≡ are_among l.places l.found
