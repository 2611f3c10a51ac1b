use Rattle.std.proofs.Common.{◌<◌, ◌^◌, inl, inr, length, subst, sym}
use Rattle.std.specs.List.{AllZip}
use Rattle.cmm_front.specs.Refusing.{BreaksLexis, IsFaultOf, IsOfFirst, IsRefused}
use Rattle.cmm_front.specs.Sources.{HasTree, IsSyntaxFault}
use Rattle.cmm_front.proofs.First.{handed, have_tokens, refused_for, zip_count}
use Rattle.cmm_front.proofs.Read.{AreFew, few_each}
use Rattle.cmm_lexer.specs.Lexing.{Lexes}
use Rattle.cmm_front.proofs.program.trees_in.Goals as goal

pub trees_of-requires-clause-count : goal.trees_of-requires-clause-count
trees_of-requires-clause-count c =
    subst (λ all. length all < 2 ^ 32) (sym c.as_slice.ensures) (subst (λ n. n < 2 ^ 32) (zip_count Lexes c.args.units.now c.in_ok-tokens.tokens c.in_ok-tokens.ensures.ok) c.requires)

pub trees_of-requires-clause-few : goal.trees_of-requires-clause-few
trees_of-requires-clause-few c = subst AreFew (sym c.as_slice.ensures) (few_each c.args.units.now c.in_ok-tokens.tokens c.in_ok-tokens.ensures.ok)

pub returns-in_err-trees-clause-err : goal.returns-in_err-trees-clause-err
returns-in_err-trees-clause-err c =
    handed (IsRefused (IsFaultOf c.args.units.now)) c.in_err-trees.field-0.0 c.from_residual-in_err-trees.result c.from_residual-in_err-trees.ensures.1
    (refused_for (IsOfFirst HasTree IsSyntaxFault 0 c.args.units.now) (IsFaultOf c.args.units.now)
    (λ f broken. inr (inl (have_tokens c.args.units.now c.in_ok-tokens.tokens c.in_ok-tokens.ensures.ok, broken)))
    c.in_err-trees.field-0.0 (c.in_err-trees.ensures.err c.args.units.now (subst (AllZip Lexes c.args.units.now) (sym c.as_slice.ensures) c.in_ok-tokens.ensures.ok)))

pub returns-in_err-tokens-clause-err : goal.returns-in_err-tokens-clause-err
returns-in_err-tokens-clause-err c =
    handed (IsRefused (IsFaultOf c.args.units.now)) c.in_err-tokens.field-0.0 c.from_residual.result c.from_residual.ensures.1
    (refused_for (BreaksLexis c.args.units.now) (IsFaultOf c.args.units.now) (λ f broken. inl broken) c.in_err-tokens.field-0.0 c.in_err-tokens.ensures.err)

pub returns-clause-ok : goal.returns-clause-ok
returns-clause-ok c = c.in_ok-trees.ensures.ok c.args.units.now (subst (AllZip Lexes c.args.units.now) (sym c.as_slice.ensures) c.in_ok-tokens.ensures.ok)
