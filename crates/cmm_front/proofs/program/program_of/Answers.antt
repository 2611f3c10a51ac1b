use Rattle.std.proofs.Common.{◌≡◌, ◌<◌, ◌≤◌, ◌^◌, inr, List, Some, length, map, subst, sym, ◌∙◌}
use Rattle.std.specs.Cmp.Lexicographic.{slice_cmp}
use Rattle.std.specs.List.{All, AllZip}
use Rattle.std.specs.List.Sorted.{IsStrictlySortedBy}
use Rattle.std.specs.Ordering.{nat_cmp}
use Rattle.cmm_static_semantics.specs.Faults.{AreAccepted, first_fault}
use Rattle.cmm_ast.specs.declared.unit.Unit.{Unit as UnitTree}
use Rattle.cmm_elaboration.specs.Laws.{AreRead, TextsAreBytes}
use Rattle.cmm_elaboration.specs.Meaning.{meaning_of}
use Rattle.cmm_elaboration.specs.Room.{KeepsRoom}
use Rattle.cmm_front.proofs.Meant.{derived_within, when_read}
use Rattle.cmm_program.specs.InRange.{IsInRange}
use Rattle.cmm_program.specs.declared.program.Program.{Program}
use Rattle.cmm_front.specs.Programs.{IsProgramOf}
use Rattle.cmm_front.specs.Refusing.{IsFaultOf, IsRefused, of_static}
use Rattle.cmm_front.specs.Sources.{IsTreeOf}
use Rattle.cmm_front.proofs.First.{handed, refused_for, refused_static, zip_count}
use Rattle.cmm_front.proofs.Named.{named_of}
use Rattle.cmm_front.proofs.program.program_of.Goals as goal

pub returns-in_err-trees-clause-err : goal.returns-in_err-trees-clause-err
returns-in_err-trees-clause-err c =
    handed (IsRefused (IsFaultOf c.args.units.now)) c.in_err-trees.field-0.0 c.from_residual.result c.from_residual.ensures.1 c.in_err-trees.ensures.err

pub returns-in_err-trees-clause-named : goal.returns-in_err-trees-clause-named
returns-in_err-trees-clause-named c = named_of c.args.units.now c.from_residual.result (returns-in_err-trees-clause-err c)

pub check_units-requires : goal.check_units-requires
check_units-requires c =
    let units = c.args.units.now in
    subst (λ trees. length trees < 2 ^ 32) (sym c.as_slice.ensures) (subst (λ n. n < 2 ^ 32) (zip_count IsTreeOf units c.in_ok-trees.trees c.in_ok-trees.ensures.ok) c.requires)

pub returns-in_err-checked-clause-err : goal.returns-in_err-checked-clause-err
returns-in_err-checked-clause-err c =
    let units = c.args.units.now in
    handed (IsRefused (IsFaultOf units)) (of_static c.in_err-checked.field-0.0) c.from_residual-in_err-checked.result c.from_residual-in_err-checked.ensures.1
    (refused_for (λ f. first_fault c.as_slice.result.now ≡ Some f) (IsFaultOf units)
    (λ f broken. inr (inr record {
      trees = c.in_ok-trees.trees;
      are_trees = c.in_ok-trees.ensures.ok;
      first = subst (λ trees. first_fault trees ≡ Some f) c.as_slice.ensures broken;
    }))
    (of_static c.in_err-checked.field-0.0) (refused_static c.as_slice.result.now c.in_err-checked.field-0.0 c.in_err-checked.ensures.err))

pub returns-in_err-checked-clause-named : goal.returns-in_err-checked-clause-named
returns-in_err-checked-clause-named c = named_of c.args.units.now c.from_residual-in_err-checked.result (returns-in_err-checked-clause-err c)

pub returns-clause-ok : goal.returns-clause-ok
returns-clause-ok c =
    let units = c.args.units.now in
    let trees = c.in_ok-trees.trees in
    let same : c.in_ok-checked.checked ≡ trees = c.in_ok-checked.ensures.ok ∙ c.as_slice.ensures in
    let are : AllZip IsTreeOf units trees = c.in_ok-trees.ensures.ok in
    let accepted : AreAccepted trees = subst AreAccepted c.as_slice.ensures c.in_ok-checked.ensures.accepted in
    let program = c.in_ok-program.program in
    let is = when_read units trees c.in_ok-trees.ensures.bytes are
    (subst (λ (ts : List UnitTree). AreRead ts → TextsAreBytes ts → program ≡ meaning_of ts) same c.in_ok-program.ensures.program)
    in
    record { trees = trees; are_trees = are; accepted = accepted; is_program = is }

pub returns-clause-range : goal.returns-clause-range
unfolding returns-clause-ok
returns-clause-range c =
    let is : IsProgramOf c.args.units.now c.in_ok-program.program = returns-clause-ok c in
    let same : c.in_ok-checked.checked ≡ c.in_ok-trees.trees = c.in_ok-checked.ensures.ok ∙ c.as_slice.ensures in
    when_read c.args.units.now is.trees c.in_ok-trees.ensures.bytes is.are_trees
    (subst (λ (ts : List UnitTree). AreRead ts → TextsAreBytes ts → IsInRange c.in_ok-program.program) same c.in_ok-program.ensures.range)

pub returns-clause-room : goal.returns-clause-room
returns-clause-room c =
    let is : IsProgramOf c.args.units.now c.in_ok-program.program = returns-clause-ok c in
    subst KeepsRoom (sym is.is_program)
    (when_read c.args.units.now is.trees c.in_ok-trees.ensures.bytes is.are_trees (λ read texts. c.room_is_kept.ensures is.trees is.accepted read))

pub returns-clause-registers : goal.returns-clause-registers
returns-clause-registers c =
    let is : IsProgramOf c.args.units.now c.in_ok-program.program = returns-clause-ok c in
    subst (λ (p : Program). IsStrictlySortedBy (slice_cmp nat_cmp) (map (λ g. g.name) p.globals)) (sym is.is_program) (c.registers_ascend.ensures is.trees)

pub returns-clause-spans : goal.returns-clause-spans
returns-clause-spans c =
    let is : IsProgramOf c.args.units.now c.in_ok-program.program = returns-clause-ok c in
    subst (λ (p : Program). All (λ q. All (λ site. length site.spans ≤ 200) q.sites) p.procs) (sym is.is_program)
    (c.spans_are_few.ensures is.trees (derived_within c.args.units.now is.trees is.are_trees))
