use Rattle.std.proofs.Common.{◌≡◌, ℕ, ◌+◌, ◌∙◌, ap, arith, false, List, [], ◌∷◌, ◌++◌, append_assoc, length, length-append}
use Rattle.std.specs.Prelude.{replicate}
use Rattle.std.proofs.lemmas.List.{length-replicate}
use Rattle.rv_asm.specs.declared.part.Label.{Label}
use Rattle.rv_asm.specs.declared.part.Meaning.{Meaning}
use Rattle.rv_asm.specs.declared.part.Meaning.TheVariants.{Inner}
use Rattle.cmm_emit.specs.Labels.{labels_from}
use Rattle.cmm_emit.proofs.Numbering.{labels_more, replicate_more}
use Rattle.cmm_emit.proofs.labels.labels.Goals as goal

pub loop-preserved : goal.loop-preserved
loop-preserved c =
    let inv = c.loop.invariant in
    let old = c.args.asm.now.labels in
    let n = c.loop.counter in
    let made = c.in_ok-label.ensures in
    let count : length c.loop.asm.labels ≡ length old + n =
    ap (λ (ms : List Meaning). length ms) inv.labels ∙ (length-append old (replicate n (Inner false)) ∙ ap (λ (m : ℕ). length old + m) (length-replicate n (Inner false))) in
    record {
      made = c.in_ok-push.ensures.ok
          ∙ (ap (λ (ls : List Label). ls ++ c.in_ok-label.field-0 ∷ []) inv.made
          ∙ (ap (λ (l : Label). labels_from (length old) n ++ l ∷ []) (made.number ∙ ap (λ (m : ℕ). record { number = m }) count) ∙ labels_more (length old) n));
      labels = made.labels
          ∙ (ap (λ (ms : List Meaning). ms ++ Inner false ∷ []) inv.labels
          ∙ (append_assoc old (replicate n (Inner false)) (Inner false ∷ []) ∙ ap (λ (ms : List Meaning). old ++ ms) (replicate_more n)));
      parts = made.parts ∙ inv.parts;
    }

pub label-requires : goal.label-requires
label-requires c =
    let old = c.args.asm.now.labels in
    let n = c.loop.counter in
    omega (
      arith,
      ap (λ (ms : List Meaning). length ms) c.loop.invariant.labels,
      length-append old (replicate n (Inner false)),
      length-replicate n (Inner false),
      c.requires,
      c.loop-test.true,
    )
