use Rattle.std.proofs.Common.{ℕ, ◌∙◌, ap, arith, false, List, ◌++◌, append_assoc, length, length-append}
use Rattle.std.proofs.lemmas.List.{length-replicate}
use Rattle.std.specs.Prelude.{replicate}
use Rattle.rv_asm.specs.declared.part.Meaning.{Meaning}
use Rattle.rv_asm.specs.declared.part.Meaning.TheVariants.{Inner}
use Rattle.cmm_emit.proofs.Making.{replicate_both}
use Rattle.cmm_emit.proofs.contexts.context.Goals as goal

pub returns-clause-labels : goal.returns-clause-labels
returns-clause-labels c =
    let old = c.args.asm.now.labels in
    let a = length c.args.graph.now.nodes in
    let b = length c.args.procedure.now.sites in
    let sites = ap (λ (n : ℕ). c.labels.new.asm.labels ++ replicate n (Inner false)) c.len-2.ensures in
    let nodes = ap (λ (n : ℕ). (old ++ replicate n (Inner false)) ++ replicate b (Inner false)) c.len.ensures in
    c.in_ok-sites.ensures.labels
    ∙ (sites ∙ (ap (λ (ms : List Meaning). ms ++ replicate b (Inner false)) c.in_ok-nodes.ensures.labels ∙ (nodes
    ∙ (append_assoc old (replicate a (Inner false)) (replicate b (Inner false)) ∙ ap (λ (ms : List Meaning). old ++ ms) (replicate_both a b (Inner false))))))

pub labels-requires : goal.labels-requires
labels-requires c = omega (arith, c.requires, c.len.ensures)

pub labels-requires-2 : goal.labels-requires-2
labels-requires-2 c =
    let old = c.args.asm.now.labels in
    let n = c.len.result in
    omega (
      arith,
      c.requires,
      c.len.ensures,
      c.len-2.ensures,
      ap (λ (ms : List Meaning). length ms) c.in_ok-nodes.ensures.labels,
      length-append old (replicate n (Inner false)),
      length-replicate n (Inner false),
    )
