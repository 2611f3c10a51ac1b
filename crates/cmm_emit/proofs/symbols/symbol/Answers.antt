use Rattle.std.proofs.Common.{◌≡◌, ℕ, ◌++◌, ◌∷◌, [], Bool, List, Option, Some, None, ap, arith, length, sym, ◌∙◌, ◌<◌, true}
use Rattle.std.specs.Prelude.{cond}
use Rattle.rv_asm.specs.declared.part.Label.{Label}
use Rattle.rv_asm.specs.declared.part.Meaning.{Meaning}
use Rattle.rv_asm.specs.declared.part.Meaning.TheVariants.{Outer}
use Rattle.cmm_bitset.specs.Sets.{has}
use Rattle.cmm_unit_code.specs.declared.unit_code.Reference.{Reference}
use Rattle.cmm_emit.specs.Labels.{is_reached, reference_of, symbol_labels}
use Rattle.cmm_emit.proofs.Numbering.{length-symbol_labels, symbols_more}
use Rattle.cmm_emit.proofs.symbols.symbol.Goals as goal

pub outer-requires : goal.outer-requires
outer-requires c =
    let few = c.requires.few in
    omega (arith, few, ap (λ (ms : List Meaning). length ms) c.requires.labels, length-symbol_labels c.args.references.now)

pub returns-clause-made : goal.returns-clause-made
returns-clause-made c =
    let rs = c.args.references.now in
    let had : has c.args.named.now c.args.number ≡ true = cc in
    let number : c.in_ok-made.made.number ≡ length rs =
    c.in_ok-made.ensures.number ∙ (ap (λ (ms : List Meaning). length ms) c.requires.labels ∙ length-symbol_labels rs) in
    ap (λ (n : ℕ). Some (record { number = n })) number ∙ ap (λ (b : Bool). cond b (Some (record { number = length rs })) None) (sym had)

pub returns-clause-labels : goal.returns-clause-labels
returns-clause-labels c =
    let rs = c.args.references.now in
    let r = reference_of c.args.sort c.args.number in
    let place : c.len-place.result ≡ length rs = c.len-place.ensures in
    let reached : c.is_reached.result ≡ is_reached r = c.is_reached.ensures c.args.number in
    c.in_ok-made.ensures.labels
    ∙ (ap (λ (n : ℕ). c.args.asm.now.labels ++ Outer n c.is_reached.result ∷ []) place
    ∙ (ap (λ (b : Bool). c.args.asm.now.labels ++ Outer (length rs) b ∷ []) reached
    ∙ (ap (λ (ms : List Meaning). ms ++ Outer (length rs) (is_reached r) ∷ []) c.requires.labels
    ∙ (symbols_more rs r ∙ ap symbol_labels (sym (c.in_ok-push.ensures.ok ∙ ap (λ (x : Reference). rs ++ x ∷ []) c.reference.ensures))))))
