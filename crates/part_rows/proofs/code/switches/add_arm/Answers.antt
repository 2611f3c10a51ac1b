use Rattle.std.proofs.Common.{◌≡◌, ◌∷◌, ◌++◌, [], true, List, sym, ap, ◌∙◌, subst, arith}
use Rattle.std.specs.Prelude.{slice_set}
use Rattle.rv_asm.specs.Assembly.{IsInner}
use Rattle.rv_asm.specs.Sizes.{all_longest}
use Rattle.rv_asm.specs.declared.part.Meaning.{Meaning}
use Rattle.rv_asm.specs.declared.part.Meaning.TheVariants.{Inner}
use Rattle.part_rows.proofs.Arms.{last_is_fresh, last_is_inner, last_placed}
use Rattle.part_rows.proofs.Fitting.{placed_few}
use Rattle.part_rows.proofs.code.switches.add_arm.Goals as goal

pub place-requires : goal.place-requires
place-requires c = rw c.in_ok-label.ensures.labels (last_is_fresh c.args.asm.now.labels c.in_ok-label.label.number c.in_ok-label.ensures.number)

pub returns : goal.returns
returns c =
    let old = c.args.asm.now.labels in
    let l = c.in_ok-label.label in
    let labels : c.end.new.asm.labels ≡ old ++ Inner true ∷ [] =
    c.in_ok-end.ensures.labels ∙ c.place.ensures.labels ∙ ap (λ (xs : List Meaning). slice_set xs l.number (Inner true)) c.in_ok-label.ensures.labels
    ∙ last_placed old l.number c.in_ok-label.ensures.number in
    record {
      inner = subst (λ (xs : List Meaning). IsInner xs l) (sym labels) (last_is_inner old l c.in_ok-label.ensures.number);
      labels = labels;
      few = omega (arith, c.in_ok-end.ensures.few, placed_few _ _ _ c.place.ensures.parts, ap all_longest c.in_ok-label.ensures.parts);
    }
