use Rattle.std.proofs.Common.{◌≤◌, ◌++◌, ◌∷◌, [], take, IsTrue, arith, sym, ap, ◌∙◌, subst}
use Rattle.std.proofs.lemmas.List.{take_more}
use Rattle.std.specs.List.{list_all}
use Rattle.cmm_program.specs.declared.statement.Arm.{out-Arm}
use Rattle.cmm_program.specs.Bodies.{AtLabel, within}
use Rattle.cmm_flow.specs.Relation.{AreAll, IsAll}
use Rattle.cmm_flow.specs.inside.LayingBlocks.{AreAllArms, has_labels_below}
use Rattle.cmm_flow.specs.inside.Marks.{after_arms, after_list}
use Rattle.cmm_flow.proofs.Covering.{all_arms_at, all_at, if_of, span_of, switch_of}
use Rattle.cmm_flow.proofs.Lacking.{Lacks, lacked_arms_more, lacked_more, lacks_if, lacks_span, lacks_switch}
use Rattle.cmm_flow.proofs.Laying.{if_ok}
use Rattle.cmm_flow.proofs.labels.+labels.Goals as goal

pub labels_in-loop-statement-preserved : goal.labels_in-loop-statement-preserved
labels_in-loop-statement-preserved t c =
    let xs = c.args.statements.now in let i = c.loop-statement.statement-index in let x = c.statement-item.result in (
      λ k more.
          let lacks = c.in_ok-labels_of.ensures.lacks k (omega (arith, c.max-count.ensures, more)) in
          ap (after_list (AtLabel k)) (take_more xs i x c.loop-statement-test.true ∙ ap (λ y. take i xs ++ y ∷ []) (sym c.statement-item.is))
          ∙ lacked_more (AtLabel k) (take i xs) x (c.loop-statement.invariant.0 k (omega (arith, c.max-count.ensures, more))) lacks.0 lacks.1,
      λ limit all.
          let here : IsAll (has_labels_below limit) x =
          subst (IsAll (has_labels_below limit)) (sym c.statement-item.is) (all_at (has_labels_below limit) xs i x c.loop-statement-test.true all) in
          omega (arith, c.max-count.ensures, c.in_ok-labels_of.ensures.least limit here.0 here.1, c.loop-statement.invariant.1 limit all),
    )

pub labels_in_arms-loop-arm-preserved : goal.labels_in_arms-loop-arm-preserved
labels_in_arms-loop-arm-preserved t c =
    let xs = c.args.arms.now in let i = c.loop-arm.arm-index in let x = c.arm-item.result in (
      λ k more.
          ap (after_arms (AtLabel k)) (take_more xs i x c.loop-arm-test.true ∙ ap (λ y. take i xs ++ y ∷ []) (sym c.arm-item.is))
          ∙ lacked_arms_more (AtLabel k) (take i xs) x (c.loop-arm.invariant.0 k (omega (arith, c.max-count.ensures, more)))
          (ap (after_list (AtLabel k)) (sym c.as_slice.ensures) ∙ c.in_ok-labels_in.ensures.lacks k (omega (arith, c.max-count.ensures, more))),
      λ limit all.
          let here = all_arms_at (has_labels_below limit) xs i x c.loop-arm-test.true all in
          let body : AreAll (has_labels_below limit) c.as_slice.result.now =
          subst (AreAll (has_labels_below limit)) (sym c.as_slice.ensures) (subst (λ arm. AreAll (has_labels_below limit) (out-Arm arm).body) (sym c.arm-item.is) here) in
          omega (arith, c.max-count.ensures, c.in_ok-labels_in.ensures.least limit body, c.loop-arm.invariant.1 limit all),
    )

pub labels_of-returns-in_ok-second-in-If : goal.labels_of-returns-in_ok-second-in-If
labels_of-returns-in_ok-second-in-If t c = record {
  lacks = λ k more.
      let one : c.in_ok-first-in-If.first ≤ k = omega (arith, more) in
      let two : c.in_ok-second-in-If.second ≤ k = omega (arith, more) in
      subst (λ f. Lacks (AtLabel k) f) (sym c.in-If.is)
      (lacks_if (AtLabel k) c.in-If.condition c.in-If.then c.in-If.otherwise
      (ap (after_list (AtLabel k)) (sym c.as_slice.ensures) ∙ c.in_ok-first-in-If.ensures.lacks k one)
      (ap (after_list (AtLabel k)) (sym c.as_slice-in-If.ensures) ∙ c.in_ok-second-in-If.ensures.lacks k two));
  least = λ limit own inner.
      let test = has_labels_below limit in
      let both = if_of test c.in-If.condition c.in-If.then c.in-If.otherwise (subst (λ f. IsTrue (list_all test (within f))) c.in-If.is inner) in
      let one = c.in_ok-first-in-If.ensures.least limit (subst (AreAll test) (sym c.as_slice.ensures) both.0) in
      let two = c.in_ok-second-in-If.ensures.least limit (subst (AreAll test) (sym c.as_slice-in-If.ensures) both.1) in
      omega (arith, one, two);
}

pub labels_of-returns-in-Switch : goal.labels_of-returns-in-Switch
labels_of-returns-in-Switch t c = record {
  lacks =
      if_ok c.labels_in_arms.result (λ count lacks k more.
      subst (λ f. Lacks (AtLabel k) f) (sym c.in-Switch.is)
      (lacks_switch (AtLabel k) c.in-Switch.value c.in-Switch.arms (ap (after_arms (AtLabel k)) (sym c.as_slice-in-Switch.ensures) ∙ lacks k more))) c.labels_in_arms.ensures.lacks;
  least =
      if_ok c.labels_in_arms.result (λ count least limit own inner.
      let test = has_labels_below limit in
      let all = switch_of test c.in-Switch.value c.in-Switch.arms (subst (λ f. IsTrue (list_all test (within f))) c.in-Switch.is inner) in
      least limit (subst (AreAllArms test) (sym c.as_slice-in-Switch.ensures) all)) c.labels_in_arms.ensures.least;
}

pub labels_of-returns-in-Span : goal.labels_of-returns-in-Span
labels_of-returns-in-Span t c = record {
  lacks =
      if_ok c.labels_in-in-Span.result (λ count lacks k more.
      subst (λ f. Lacks (AtLabel k) f) (sym c.in-Span.is)
      (lacks_span (AtLabel k) c.in-Span.body (ap (after_list (AtLabel k)) (sym c.as_slice-in-Span.ensures) ∙ lacks k more))) c.labels_in-in-Span.ensures.lacks;
  least =
      if_ok c.labels_in-in-Span.result (λ count least limit own inner.
      let test = has_labels_below limit in
      let all = span_of test c.in-Span.body (subst (λ f. IsTrue (list_all test (within f))) c.in-Span.is inner) in
      least limit (subst (AreAll test) (sym c.as_slice-in-Span.ensures) all)) c.labels_in-in-Span.ensures.least;
}
