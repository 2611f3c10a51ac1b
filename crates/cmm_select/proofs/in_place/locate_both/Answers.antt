use Rattle.std.proofs.Common.{arith}
use Rattle.cmm_effects.proofs.Shared.{adds_then, adds_weaker}
use Rattle.cmm_select.proofs.InPlace.{home_small, locates_both}
use Rattle.cmm_select.proofs.in_place.locate_both.Goals as goal

pub returns-clause-locates : goal.returns-clause-locates
returns-clause-locates c =
    adds_weaker (adds_then c.in_ok-first.ensures.locates c.in_ok-second.ensures.locates) (omega arith)
    (λ x from to does. locates_both x from to c.args.left.now c.args.right.now c.in_ok-first.first c.in_ok-second.second c.args.asm.now.labels c.requires.right c.in_ok-first.ensures.home does)

pub returns-clause-first : goal.returns-clause-first
returns-clause-first c = home_small 5 c.in_ok-first.first (omega arith) c.in_ok-first.ensures.home

pub returns-clause-second : goal.returns-clause-second
returns-clause-second c = home_small 7 c.in_ok-second.second (omega arith) c.in_ok-second.ensures.home
