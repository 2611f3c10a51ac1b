use Rattle.std.proofs.Common.{◌∙◌, ◌+◌, ◌≡◌, ℕ, [], ◌∷◌, length, ap}
use Rattle.std.proofs.lemmas.List.{length-append}
use Rattle.cmm_digraph.specs.Graphs.{mentions}
use Rattle.cmm_unit_scope.specs.inside.Evaluating.{flag_at}
use Rattle.cmm_unit_scope.proofs.Loops.{waits_next, row_of}
use Rattle.cmm_unit_scope.proofs.waiting.waiting.Goals as goal

pub loop-number-preserved : goal.loop-number-preserved
loop-number-preserved c =
    let k = c.loop-number.number in
    let ds = c.args.declared.now in
    let rows = c.loop-number.waits in
    let row = c.in_ok-waits_for.field-0 in
    let size : length rows ≡ k = c.loop-number.invariant.0 in (
      ap length c.in_ok-push.ensures.ok ∙ length-append rows (row ∷ []) ∙ ap (λ (n : ℕ). n + 1) size,
      λ v below.
          ap (λ q. mentions q v) c.in_ok-push.ensures.ok
          ∙ waits_next ds (flag_at c.args.cyclic.now) rows row c.as_slice.result.now c.is_flagged-flag.result k c.index-declared-number.result size c.loop-number.invariant.1
          c.loop-number-test.true c.index-declared-number.is c.is_flagged-flag.ensures
          (c.as_slice.ensures ∙ row_of c.args.graph.now ds k c.index-graph-number.result c.requires c.index-graph-number.is c.loop-number-test.true) c.in_ok-waits_for.ensures v below,
    )
