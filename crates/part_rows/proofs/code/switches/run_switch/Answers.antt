use Rattle.std.proofs.Common.{◌≡◌, List, sym, ap, ◌∙◌, subst, arith}
use Rattle.std.specs.List.{All}
use Rattle.rv_asm.proofs.Shared.{AreKept, kept_placed}
use Rattle.rv_asm.specs.Assembly.{IsInner}
use Rattle.rv_asm.specs.Sizes.{all_longest}
use Rattle.rv_asm.specs.declared.part.Label.{Label}
use Rattle.rv_asm.specs.declared.part.Meaning.{Meaning}
use Rattle.cmm_select.specs.Switches.{ranges_in}
use Rattle.part_rows.proofs.Arms.{all_inner_kept, start_is_fresh}
use Rattle.part_rows.proofs.Fitting.{placed_few}
use Rattle.part_rows.proofs.code.switches.run_switch.Goals as goal

pub place-requires : goal.place-requires
place-requires c =
    start_is_fresh c.add_arms.new.asm.labels c.go_to.new.asm.labels c.label.new.self.labels c.new-asm.result.labels c.in_ok-start.start.number c.args.count c.new-asm.ensures.labels
    c.in_ok-start.ensures.number c.in_ok-start.ensures.labels c.in_ok-go_to.ensures.labels c.in_ok-labels.ensures.labels

pub switch-requires-clause-inner : goal.switch-requires-clause-inner
switch-requires-clause-inner c =
    let old = c.add_arms.new.asm.labels in
    let new = c.place.new.self.labels in
    let fresh = start_is_fresh old c.go_to.new.asm.labels c.label.new.self.labels c.new-asm.result.labels c.in_ok-start.start.number c.args.count c.new-asm.ensures.labels
    c.in_ok-start.ensures.number c.in_ok-start.ensures.labels c.in_ok-go_to.ensures.labels c.in_ok-labels.ensures.labels in
    let kept = subst (λ (xs : List Meaning). AreKept old xs) (sym c.place.ensures.labels) (kept_placed old c.in_ok-start.start.number fresh) in
    subst (λ (ls : List Label). All (IsInner new) ls) (sym c.deref-2.ensures.value) (all_inner_kept old new c.in_ok-labels.labels.items kept c.in_ok-labels.ensures.inner)

pub new-requires-clause-code : goal.new-requires-clause-code
new-requires-clause-code c =
    let none : all_longest c.new-asm.result.parts ≡ 0 = ap all_longest c.new-asm.ensures.parts in
    let made : all_longest c.label.new.self.parts ≡ all_longest c.new-asm.result.parts = ap all_longest c.in_ok-start.ensures.parts in
    let ranges = ap ranges_in c.deref.ensures.value ∙ c.in_ok-arms.ensures.ranges in
    omega (
      arith,
      none,
      made,
      ranges,
      c.in_ok-go_to.ensures.turns.few,
      c.in_ok-labels.ensures.few,
      placed_few _ _ _ c.place.ensures.parts,
      c.in_ok-switch.ensures.switches.few,
      c.in_ok-end.ensures.few,
    )
