use Rattle.std.proofs.Common.{◌≡◌, ℕ, ◌+◌, ◌<◌, refl, sym, ◌∙◌, ap, subst, arith, false, List, [], ◌∷◌, ◌++◌, append_assoc, append-nil, add-zero, length, length-append, Some, slice_get}
use Rattle.std.specs.Prelude.{replicate}
use Rattle.std.proofs.lemmas.List.{length-replicate}
use Rattle.std.proofs.lemmas.Option.{slice_get_within}
use Rattle.rv_asm.specs.declared.part.Meaning.{Meaning}
use Rattle.rv_asm.specs.declared.part.Meaning.TheVariants.{Inner}
use Rattle.cmm_emit.specs.declared.context.Context.{Context}
use Rattle.cmm_emit.specs.Contexts.{IsMadeFor, first_label}
use Rattle.cmm_emit.proofs.Advancing.{few_nodes, first_label_later, first_label_next}
use Rattle.cmm_emit.proofs.Making.{first_label_shift, first_none, made_more, replicate_both, there_is}
use Rattle.cmm_emit.proofs.contexts.contexts.Goals as goal

pub loop-number-init : goal.loop-number-init
loop-number-init c = record {
  count = ap (λ (ps : List Context). length ps) c.new-made.ensures;
  each = λ n q g k p less is also there made. absurd (omega (arith, less));
  labels = sym (ap (λ (m : ℕ). c.args.asm.now.labels ++ replicate m (Inner false)) (first_none 0 c.args.procedures.now c.args.graphs.now) ∙ append-nil c.args.asm.now.labels);
  parts = refl;
}

pub loop-number-preserved : goal.loop-number-preserved
loop-number-preserved c =
    let inv = c.loop-number.invariant in
    let old = c.args.asm.now.labels in
    let qs = c.args.procedures.now in
    let gs = c.args.graphs.now in
    let ks = c.args.places.now in
    let n = c.loop-number.number in
    let q = c.index-procedures-number.result in
    let g = c.index-graphs-number.result in
    let k = c.index-places-number.result in
    let x = c.in_ok-context.field-0 in
    let less : n < length qs = omega (arith, c.loop-number-test.true) in
    let is_q = there_is qs n q less c.index-procedures-number.is in
    let is_g = there_is gs n g (omega (arith, less, c.requires.graphs)) c.index-graphs-number.is in
    let is_k = there_is ks n k (omega (arith, less, c.requires.places)) c.index-places-number.is in
    let total = first_label 0 qs gs n in
    let made = c.in_ok-context.ensures in
    let count : length c.loop-number.asm.labels ≡ length old + total =
    ap (λ (ms : List Meaning). length ms) inv.labels ∙ (length-append old (replicate total (Inner false)) ∙ ap (λ (m : ℕ). length old + m) (length-replicate total (Inner false))) in
    let first : length c.loop-number.asm.labels ≡ first_label (length old) qs gs n =
    count ∙ (sym (first_label_shift (length old) 0 qs gs n) ∙ ap (λ (m : ℕ). first_label m qs gs n) (add-zero (length old))) in
    let this : IsMadeFor q g k (first_label (length old) qs gs n) x = subst (λ (m : ℕ). IsMadeFor q g k m x) first made.made in
    let own = length g.nodes + length q.sites in
    record {
      count = ap (λ (ps : List Context). length ps) c.in_ok-push.ensures.ok ∙ (length-append c.loop-number.made (x ∷ []) ∙ ap (λ (m : ℕ). m + 1) inv.count);
      each = λ n' q' g' k' p' less' at_q at_g at_k at_p.
          made_more (length old) qs gs ks c.loop-number.made x q g k n inv.count inv.each is_q is_g is_k this n' q' g' k' p' less' at_q at_g at_k
          (subst (λ (ps : List Context). slice_get ps n' ≡ Some p') c.in_ok-push.ensures.ok at_p);
      labels = made.labels
          ∙ (ap (λ (ms : List Meaning). ms ++ replicate own (Inner false)) inv.labels
          ∙ (append_assoc old (replicate total (Inner false)) (replicate own (Inner false))
          ∙ (ap (λ (ms : List Meaning). old ++ ms) (replicate_both total own (Inner false)) ∙ ap (λ (m : ℕ). old ++ replicate m (Inner false)) (sym (first_label_next 0 qs gs n q g is_q is_g)))));
      parts = made.parts ∙ inv.parts;
    }

pub returns-clause-made : goal.returns-clause-made
returns-clause-made c =
    let inv = c.loop-number.invariant in
    let done : c.loop-number.number ≡ length c.args.procedures.now = omega (arith, c.loop-number-test.false, c.loop-number.auto.number-end) in
    record {
      count = inv.count ∙ done;
      each = λ n q g k p is also there made. inv.each n q g k p (let less = slice_get_within c.args.procedures.now n q is in omega (arith, less, done)) is also there made;
      few = λ n g is. few_nodes (length c.args.asm.now.labels) c.args.procedures.now c.args.graphs.now n g c.requires.graphs is c.requires.few;
    }

pub context-requires : goal.context-requires
context-requires c =
    let inv = c.loop-number.invariant in
    let old = c.args.asm.now.labels in
    let qs = c.args.procedures.now in
    let gs = c.args.graphs.now in
    let n = c.loop-number.number in
    let q = c.index-procedures-number.result in
    let g = c.index-graphs-number.result in
    let less : n < length qs = omega (arith, c.loop-number-test.true) in
    let is_q = there_is qs n q less c.index-procedures-number.is in
    let is_g = there_is gs n g (omega (arith, less, c.requires.graphs)) c.index-graphs-number.is in
    let total = first_label 0 qs gs n in
    let first : first_label (length old) qs gs n ≡ length old + total = ap (λ (m : ℕ). first_label m qs gs n) (sym (add-zero (length old))) ∙ first_label_shift (length old) 0 qs gs n in
    omega (
      arith,
      ap (λ (ms : List Meaning). length ms) inv.labels,
      length-append old (replicate total (Inner false)),
      length-replicate total (Inner false),
      first,
      first_label_next (length old) qs gs n q g is_q is_g,
      first_label_later (length old) qs gs (n + 1) (length qs) (omega (arith, less)),
      c.requires.few,
    )
