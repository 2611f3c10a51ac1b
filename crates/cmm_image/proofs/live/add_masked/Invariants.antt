use Rattle.std.proofs.Common.{◌≡◌, ◌++◌, drop}
use Rattle.cmm_image.specs.SecondFormat.{masked}
use Rattle.cmm_image.proofs.live.add_masked.Given as goal

abbrev pub invariant-loop-place : goal.invariant-loop-place
invariant-loop-place l = l.to.items ++ masked (drop l.place-index l.places) l.left ≡ l.initial.to.items ++ masked l.places l.bits
