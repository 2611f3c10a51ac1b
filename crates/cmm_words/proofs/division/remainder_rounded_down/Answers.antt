use Rattle.std.proofs.Common.{rules, ◌+ℤ◌, to_z-of_z, w64, sym, ◌∙◌, of_z, to_z, SFits}
use Rattle.cmm_words.specs.Integers.{quotient_down}
use Rattle.cmm_words.proofs.Quotients.{remainder_down}
use Rattle.cmm_words.proofs.division.remainder_rounded_down.Goals as goal

pub returns-then-rounds_up : goal.returns-then-rounds_up
returns-then-rounds_up c =
    let x = c.args.dividend in
    let y = c.args.divisor in
    let same_x = to_z-of_z c.ranges.dividend in
    let same_y = to_z-of_z c.ranges.divisor in
    let is_rem = rw (same_x, same_y) at c.wrapping_rem-remainder.ensures in
    let up = rw (same_x, same_y) at c.if-rounds_up.ensures.up in
    let fits : SFits w64 (to_z w64 (of_z w64 c.wrapping_rem-remainder.result) +ℤ to_z w64 (of_z w64 y)) = search rules in
    let rest_fits : SFits w64 c.wrapping_rem-remainder.result = record { sfits = c.wrapping_rem-remainder.type_inv } in
    to_z-of_z fits ∙ rw (to_z-of_z rest_fits, same_y, is_rem) (sym (remainder_down x y (quotient_down x y) up))
