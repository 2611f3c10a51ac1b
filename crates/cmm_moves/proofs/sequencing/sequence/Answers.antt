use Rattle.std.proofs.Common.{◌≡◌, ◌+◌, List, [], ◌∷◌, length, ap, ◌∙◌, arith, length-append}
use Rattle.cmm_moves.specs.declared.sequencing.Move.{Move}
use Rattle.cmm_moves.specs.Moves.{in_order}
use Rattle.cmm_moves.proofs.Paths.{can_begin, last_is_first, can_skip, first_inside, left_inside, skipped}
use Rattle.cmm_moves.proofs.sequencing.sequence.Goals as goal

pub follow-requires : goal.follow-requires
follow-requires c = can_begin c.args.scratch c.loop-first.waiting.items c.pop.new.self.items c.in-Some.first c.in-Some.ensures.items c.loop-first.invariant.0

pub loop-first-preserved-in-Continue-branch-2 : goal.loop-first-preserved-in-Continue-branch-2
loop-first-preserved-in-Continue-branch-2 c =
    let left : List Move = c.pop.new.self.items in
    let first = c.in-Some.first in
    let count : length c.loop-first.waiting.items ≡ length left + 1 = ap length c.in-Some.ensures.items ∙ length-append left (first ∷ []) in (
      c.in_ok-follow.ensures.left,
      λ has x other. c.in_ok-follow.ensures.values has x other
          ∙ last_is_first c.args.scratch c.loop-first.waiting.items left first (in_order c.loop-first.done has) x c.in-Some.ensures.items c.loop-first.invariant.0
          ∙ c.loop-first.invariant.1 has x other,
      omega (arith, c.in_ok-follow.ensures.few, c.loop-first.invariant.2, count),
      λ test spare given.
          let so_far = c.loop-first.invariant.3 test spare given in
          c.in_ok-follow.ensures.inside test spare (first_inside test c.loop-first.waiting.items left first c.in-Some.ensures.items so_far.1) so_far.0,
    )

pub loop-first-preserved : goal.loop-first-preserved
loop-first-preserved c =
    let left : List Move = c.pop.new.self.items in
    let first = c.in-Some.first in
    let count : length c.loop-first.waiting.items ≡ length left + 1 = ap length c.in-Some.ensures.items ∙ length-append left (first ∷ []) in (
      can_skip c.args.scratch c.loop-first.waiting.items left first c.in-Some.ensures.items c.loop-first.invariant.0,
      λ has x other.
          skipped c.args.scratch c.loop-first.waiting.items left first (in_order c.loop-first.done has) x c.in-Some.ensures.items c.loop-first.invariant.0 c.if-first.false
          ∙ c.loop-first.invariant.1 has x other,
      omega (arith, c.loop-first.invariant.2, count),
      λ test spare given.
          let so_far = c.loop-first.invariant.3 test spare given in
          (so_far.0, left_inside test c.loop-first.waiting.items left first c.in-Some.ensures.items so_far.1),
    )
