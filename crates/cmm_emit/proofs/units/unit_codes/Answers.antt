use Rattle.std.proofs.Common.{◌≡◌, ◌∙◌, ℕ, ◌+◌, ◌-◌, ◌≤◌, ap, subst, sym, arith, List, [], ◌∷◌, ◌++◌, length, length-append}
use Rattle.cmm_unit_code.specs.declared.unit_code.UnitCode.{UnitCode as CodeOfUnit}
use Rattle.cmm_program.specs.declared.procedure.Proc.{Proc}
use Rattle.cmm_emit.specs.Units.{AreUnits, IsUnitEnd}
use Rattle.cmm_emit.proofs.Grouping.{AreBefore, before_next, still_few, units_more}
use Rattle.cmm_emit.proofs.units.unit_codes.Goals as goal

pub loop-first-preserved : goal.loop-first-preserved
loop-first-preserved c =
    let p = c.args.program.now in
    let graphs = c.args.graphs.now in
    let found = c.args.places.now in
    let inv = c.loop-first.invariant in
    let first = c.loop-first.first in
    let end = c.unit_end-end.result in
    let units = inv.codes.0 in
    let u = c.in_ok-unit_code.field-0 in
    let ends = subst (λ (qs : List Proc). IsUnitEnd qs first end) c.as_slice-procedures.ensures c.unit_end-end.ensures in
    let behind = ends.behind in
    let whole : first + (end - first) ≡ end = omega (arith, behind) in
    let grown : length (units ++ u ∷ []) ≡ length units + 1 = length-append units (u ∷ []) in
    record {
      within = ends.within;
      codes = (
        units ++ u ∷ [],
        c.in_ok-push-2.ensures.ok ∙ ap (λ (us : List CodeOfUnit). us ++ u ∷ []) inv.codes.1,
        subst (λ (n : ℕ). AreUnits p graphs found 0 n (units ++ u ∷ [])) whole (units_more p graphs found 0 first (end - first) units u inv.codes.2 c.in_ok-unit_code.ensures),
        subst (λ (n : ℕ). n ≤ 256) (sym grown) (still_few p c.requires.range c.requires.ascending first end (length units) ends inv.codes.4),
        subst (AreBefore p.procs end) (sym grown) (before_next p c.requires.range c.requires.ascending first end (length units) ends inv.codes.4),
      );
    }
