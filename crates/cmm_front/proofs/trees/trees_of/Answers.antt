use Rattle.std.proofs.Common.{ℕ, [], ap, subst, sym, take, arith, ◌+◌, ◌≡◌, ◌<◌, length}
use Rattle.std.specs.Prelude.{slice_index_or}
use Rattle.std.specs.List.{AllZip}
use Rattle.cmm_lexer.specs.Lexing.{Lexes}
use Rattle.cmm_front.specs.Refusing.{IsOfFirst, IsRefused}
use Rattle.cmm_front.specs.Sources.{HasTree, IsSyntaxFault, IsTreeOf}
use Rattle.cmm_front.proofs.First.{at_any, first_at, handed, have_trees, refused_for, zip_more, zip_whole}
use Rattle.cmm_front.proofs.Read.{lexed_at, lexed_count, lexed_front}
use Rattle.cmm_front.proofs.trees.trees_of.Goals as goal

pub returns-in_err-tree_of-clause-err : goal.returns-in_err-tree_of-clause-err
returns-in_err-tree_of-clause-err c units lexed =
    let k = c.loop-tokens.tokens-index in
    let tokens = c.tokens-item.result in
    let unit = slice_index_or units k [] in
    let within : k < length units = lexed_front units c.args.all.now k lexed c.loop-tokens-test.true in
    let here : Lexes unit tokens = lexed_at units c.args.all.now k tokens lexed c.loop-tokens-test.true c.tokens-item.is in
    let same : c.loop-tokens.number ≡ 0 + k = let here : c.loop-tokens.number ≡ k = c.loop-tokens.invariant.0 in omega arith in
    handed (IsRefused (IsOfFirst HasTree IsSyntaxFault 0 units)) c.in_err-tree_of.field-0.0 c.from_residual.result c.from_residual.ensures.1
    (refused_for (IsSyntaxFault unit c.loop-tokens.number) (IsOfFirst HasTree IsSyntaxFault 0 units)
    (λ f broken. first_at HasTree IsSyntaxFault 0 k units unit f within (at_any units k [] unit within) (have_trees (take k units) c.loop-tokens.trees (c.loop-tokens.invariant.1 units lexed))
    (subst (λ (n : ℕ). IsSyntaxFault unit n f) same broken))
    c.in_err-tree_of.field-0.0 (c.in_err-tree_of.ensures.err unit here))

pub loop-tokens-preserved : goal.loop-tokens-preserved
loop-tokens-preserved c = (
  ap (λ n. n + 1) c.loop-tokens.invariant.0,
  λ units lexed.
      let k = c.loop-tokens.tokens-index in
      let all = c.args.all.now in
      let tokens = c.tokens-item.result in
      let unit = slice_index_or units k [] in
      let within : k < length units = lexed_front units all k lexed c.loop-tokens-test.true in
      let here : Lexes unit tokens = lexed_at units all k tokens lexed c.loop-tokens-test.true c.tokens-item.is in
      subst (AllZip IsTreeOf (take (k + 1) units)) (sym c.in_ok-push.ensures.ok)
      (zip_more IsTreeOf units c.loop-tokens.trees k unit c.in_ok-tree_of.field-0 within (at_any units k [] unit within) (c.loop-tokens.invariant.1 units lexed) (c.in_ok-tree_of.ensures.ok unit here)),
)

pub returns-clause-ok : goal.returns-clause-ok
returns-clause-ok c units lexed =
    zip_whole IsTreeOf units c.loop-tokens.trees c.loop-tokens.tokens-index (lexed_count units c.args.all.now c.loop-tokens.tokens-index lexed c.loop-tokens-test.false) (c.loop-tokens.invariant.1 units lexed)
