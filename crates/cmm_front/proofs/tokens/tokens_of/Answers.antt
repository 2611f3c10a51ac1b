use Rattle.std.proofs.Common.{ℕ, List, [], ap, subst, sym, take, arith, ◌∙◌, ◌+◌, ◌≡◌}
use Rattle.std.specs.List.{AllZip}
use Rattle.std.proofs.lemmas.List.Elements.{All-more}
use Rattle.cmm_lexer.specs.Laws.{AreBytes}
use Rattle.cmm_lexer.specs.Lexing.{Lexes}
use Rattle.cmm_front.specs.Refusing.{BreaksLexis, IsRefused}
use Rattle.cmm_front.specs.Sources.{HasTokens, IsLexicalFault}
use Rattle.cmm_front.proofs.First.{at_any, first_at, handed, have_tokens, refused_for, zip_more}
use Rattle.cmm_front.proofs.tokens.tokens_of.Goals as goal

pub returns-in_err-tokens_in-clause-err : goal.returns-in_err-tokens_in-clause-err
returns-in_err-tokens_in-clause-err c =
    let units = c.args.units.now in
    let k = c.loop-unit.unit-index in
    let same : c.loop-unit.number ≡ 0 + k = let here : c.loop-unit.number ≡ k = c.loop-unit.invariant.0 in omega arith in
    handed (IsRefused (BreaksLexis units)) c.in_err-tokens_in.field-0.0 c.from_residual.result c.from_residual.ensures.1
    (refused_for (IsLexicalFault c.as_slice.result.now c.loop-unit.number) (BreaksLexis units)
    (λ f broken. first_at HasTokens IsLexicalFault 0 k units c.unit-item.result f c.loop-unit-test.true c.unit-item.is
    (have_tokens (take k units) c.loop-unit.all c.loop-unit.invariant.1)
    (subst (λ (n : ℕ). IsLexicalFault c.unit-item.result n f) same (subst (λ (u : List ℕ). IsLexicalFault u c.loop-unit.number f) c.as_slice.ensures broken)))
    c.in_err-tokens_in.field-0.0 c.in_err-tokens_in.ensures.err)

pub loop-unit-preserved : goal.loop-unit-preserved
loop-unit-preserved c = (
  ap (λ n. n + 1) c.loop-unit.invariant.0,
  subst (AllZip Lexes (take (c.loop-unit.unit-index + 1) c.args.units.now)) (sym c.in_ok-push.ensures.ok)
      (zip_more Lexes c.args.units.now c.loop-unit.all c.loop-unit.unit-index c.unit-item.result c.in_ok-tokens_in.field-0 c.loop-unit-test.true c.unit-item.is c.loop-unit.invariant.1
      (subst (λ (u : List ℕ). Lexes u c.in_ok-tokens_in.field-0) c.as_slice.ensures c.in_ok-tokens_in.ensures.ok)),
  All-more AreBytes c.args.units.now c.loop-unit.unit-index [] c.loop-unit-test.true c.loop-unit.invariant.2
      (subst AreBytes (c.unit-item.is ∙ at_any c.args.units.now c.loop-unit.unit-index c.unit-item.result [] c.loop-unit-test.true) (subst AreBytes c.as_slice.ensures c.tokens_in.ensures.bytes)),
)
