use Rattle.std.proofs.Common.{◌/◌, get_or, sym, refl, arith}
use Rattle.std.proofs.lemmas.Nat.{and_le_l}
use Rattle.cmm_bitset.proofs.WordBits.{lowest_in_masked, none_after, lowest_after}
use Rattle.cmm_bitset.proofs.words.lowest_from.Goals as goal

pub returns-then-first-ne0 : goal.returns-then-first-ne0
returns-then-first-ne0 c =
    let word = (c.type_inv.words (c.args.from / 64)).fits in
    lowest_in_masked c.args.words.now c.args.from _ refl (omega arith) (omega (arith, and_le_l (get_or c.args.words.now (c.args.from / 64) 0)))

pub returns-in_err-skipped : goal.returns-in_err-skipped
returns-in_err-skipped c =
    rw c.from_residual.ensures (none_after c.args.words.now c.args.from c.requires.within c.if-first-ne0.false (sym c.in_err-skipped.ensures))

pub returns : goal.returns
returns c =
    lowest_after c.args.words.now c.args.from c.in_ok-skipped.skipped c.requires.within c.if-first-ne0.false (sym c.in_ok-skipped.ensures)
    (c.type_inv.words _).fits
