use Rattle.std.proofs.Common.{◌≡◌, drop}
use Rattle.cmm_image.specs.SecondFormat.{is_mask}
use Rattle.cmm_image.proofs.live.is_mask.Given as goal

abbrev pub invariant-loop-place : goal.invariant-loop-place
invariant-loop-place l = is_mask l.places l.bits ≡ is_mask (drop l.place-index l.places) l.left
