use Rattle.std.proofs.Common.{arith, ◌≢◌, ◌≡◌, pos, to_z-of_z, int_rem, w64, ap, sym, ◌∙◌, of_z, to_z, SFits}
use Rattle.cmm_words.proofs.Quotients.{quotient-exact, quotient-up, int_lt-zero}
use Rattle.cmm_words.proofs.division.rounds_up.Goals as goal

pub returns-then-wrapping_rem-ne0-clause-up : goal.returns-then-wrapping_rem-ne0-clause-up
returns-then-wrapping_rem-ne0-clause-up c =
    let x = c.args.dividend in
    let y = c.args.divisor in
    let same_x = to_z-of_z c.ranges.dividend in
    let same_y = to_z-of_z c.ranges.divisor in
    let nonzero : y ≢ pos 0 = λ e. absurd (omega (arith, rw e at c.requires)) in
    let is_rem = rw (same_x, same_y) at c.wrapping_rem.ensures in
    let rem : int_rem x y ≢ pos 0 = λ e. c.if-wrapping_rem-ne0.true (ap (of_z w64) (is_rem ∙ e)) in
    rw (same_x, same_y, int_lt-zero x, int_lt-zero y) (quotient-up x y nonzero rem)

pub returns-else-wrapping_rem-ne0-clause-same : goal.returns-else-wrapping_rem-ne0-clause-same
returns-else-wrapping_rem-ne0-clause-same c =
    let x = c.args.dividend in
    let y = c.args.divisor in
    let nonzero : y ≢ pos 0 = λ e. absurd (omega (arith, rw e at c.requires)) in
    let is_rem = rw (to_z-of_z c.ranges.dividend, to_z-of_z c.ranges.divisor) at c.wrapping_rem.ensures in
    let fits : SFits w64 c.wrapping_rem.result = record { sfits = c.wrapping_rem.type_inv } in
    let rem : int_rem x y ≡ pos 0 = sym is_rem ∙ sym (to_z-of_z fits) ∙ ap (to_z w64) c.if-wrapping_rem-ne0.false in
    rw c.if-wrapping_rem-ne0.false (quotient-exact x y nonzero rem)
