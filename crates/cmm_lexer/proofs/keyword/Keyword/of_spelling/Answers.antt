use Rattle.std.proofs.Common.{◌≡◌, ◌∙◌, ◌<◌, inl, sym, get_or, nat_eq, [], ap, arith, true, false}
use Rattle.std.specs.Cmp.Lexicographic.{pointwise}
use Rattle.std.specs.Prelude.{option_map}
use Rattle.cmm_lexer.specs.Spellings.{keyword_number, reserved}
use Rattle.cmm_lexer.proofs.Beginnings.{no_bytes, no_word, no_word_left, words_within}
use Rattle.cmm_lexer.proofs.Numbering.{keyword-at, none-further, spelled-found, spelled-none}
use Rattle.cmm_lexer.proofs.keyword.Keyword.of_spelling.Goals as goal

pub returns-in_err-first : goal.returns-in_err-first
returns-in_err-first c = ap (option_map keyword_number) c.from_residual.ensures ∙ no_bytes c.args.spelling.now c.in_err-first.ensures.value

pub loop-place-init : goal.loop-place-init
loop-place-init c k low = no_word c.beginning_with-first.result c.in_ok-first.field-0.now c.beginning_with-first.ensures c.args.spelling.now c.in_ok-first.ensures.value k (inl low)

pub bounds-place-place : goal.bounds-place-place
bounds-place-place c = omega (arith, c.loop-place-test.true, words_within c.beginning_with-first.result c.in_ok-first.field-0.now c.beginning_with-first.ensures)

pub loop-place-preserved : goal.loop-place-preserved
loop-place-preserved c =
    let low : c.loop-place.place < 49 = omega (arith, c.loop-place-test.true, words_within c.beginning_with-first.result c.in_ok-first.field-0.now c.beginning_with-first.ensures) in
    let here : pointwise nat_eq c.args.spelling.now c.spelling.result.now ≡ false = rw (← c.as_bytes.ensures.value) (sym c.eq.ensures ∙ c.if-eq.false) in
    none-further (λ k. pointwise nat_eq c.args.spelling.now (get_or reserved k [])) c.loop-place.place c.loop-place.invariant
    (rw (keyword-at c.loop-place.place low) at (rw c.spelling.ensures at here))

pub returns-then-eq : goal.returns-then-eq
unfolding reserved
returns-then-eq c =
    let low : c.loop-place.place < 49 = omega (arith, c.loop-place-test.true, words_within c.beginning_with-first.result c.in_ok-first.field-0.now c.beginning_with-first.ensures) in
    let here : pointwise nat_eq c.args.spelling.now c.spelling.result.now ≡ true = rw (← c.as_bytes.ensures.value) (sym c.eq.ensures ∙ c.if-eq.true) in
    spelled-found reserved c.args.spelling.now c.loop-place.place _ (keyword-at c.loop-place.place low) low c.loop-place.invariant
    (rw (keyword-at c.loop-place.place low) at (rw c.spelling.ensures at here))

pub returns : goal.returns
returns c = spelled-none reserved c.args.spelling.now (λ k h. no_word_left c.beginning_with-first.result c.in_ok-first.field-0.now c.beginning_with-first.ensures c.args.spelling.now
    c.in_ok-first.ensures.value c.loop-place.place (omega (arith, c.loop-place-test.false)) c.loop-place.invariant k)
