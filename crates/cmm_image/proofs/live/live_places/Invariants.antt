use Rattle.std.proofs.Common.{◌≡◌, length}
use Rattle.cmm_format.proofs.Shared.{with_front}
use Rattle.cmm_image.specs.SecondFormat.{live_places}
use Rattle.cmm_image.proofs.live.live_places.Given as goal

-- the places so far, and those that are left, are all
abbrev pub invariant-loop-rest : goal.invariant-loop-rest
invariant-loop-rest l = with_front l.live.items ((live_places l.rest).at l.reader.rest.now) ≡ (live_places l.places).at l.fn.reader.rest.now

abbrev pub decreases-loop-rest : goal.decreases-loop-rest
decreases-loop-rest l = length l.rest
