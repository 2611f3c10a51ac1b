use Rattle.std.proofs.Common.{List, map, sym, ap, ◌∙◌, subst}
use Rattle.std.proofs.lemmas.Result.{err_from_is_err_and}
use Rattle.cmm_static_semantics.specs.Declarations.{named_units}
use Rattle.cmm_ast.specs.declared.unit.Unit.{Unit as UnitTree}
use Rattle.cmm_checked.specs.Known.{AreKnown}
use Rattle.cmm_check_units.specs.inside.Units.{AreEarlier, unit_flat}
use Rattle.cmm_check_units.specs.declared.unit_names.UnitNames.{UnitNames}
use Rattle.cmm_check_units.proofs.Known.{all_known}
use Rattle.cmm_check_units.proofs.checking.check_units.Goals as goal

pub unbroken-requires-clause-named : goal.unbroken-requires-clause-named
unbroken-requires-clause-named c = ap (map unit_flat) c.as_slice-2.ensures ∙ c.in_ok-named.ensures

pub unbroken-requires-clause-linkage : goal.unbroken-requires-clause-linkage
unbroken-requires-clause-linkage c = (rw c.as_slice.ensures at c.in_ok-linkage.ensures) (named_units c.args.units.now) c.in_ok-named.ensures

pub returns-in_err-checked-clause-err : goal.returns-in_err-checked-clause-err
returns-in_err-checked-clause-err c =
    let p = err_from_is_err_and c.from_residual-in_err-checked.result c.from_residual-in_err-checked.ensures.1 in rw (p.1, p.2) tt

pub new-requires : goal.new-requires
new-requires c =
    let us = c.args.units.now in
    let program = c.in_ok-linkage.linkage in
    let named = c.in_ok-named.named in
    let e = c.in_ok-known.known in
    let knows = (rw c.as_slice.ensures at c.in_ok-linkage.ensures) (named_units us) c.in_ok-named.ensures in
    let known : AreEarlier program e (map unit_flat named) =
    subst (λ (ns : List UnitNames). AreEarlier program e (map unit_flat ns)) c.as_slice-2.ensures c.in_ok-known.ensures.known in
    let all = all_known us program named e c.in_ok-checked.checked c.requires c.in_ok-known.ensures.accepted c.in_ok-named.ensures knows known c.in_ok-checked.ensures in
    subst (λ (ts : List UnitTree). AreKnown program e.registers ts c.in_ok-checked.checked) (sym all.0) all.1

pub returns-clause-ok : goal.returns-clause-ok
returns-clause-ok c =
    let us = c.args.units.now in
    let program = c.in_ok-linkage.linkage in
    let named = c.in_ok-named.named in
    let e = c.in_ok-known.known in
    let knows = (rw c.as_slice.ensures at c.in_ok-linkage.ensures) (named_units us) c.in_ok-named.ensures in
    let known : AreEarlier program e (map unit_flat named) =
    subst (λ (ns : List UnitNames). AreEarlier program e (map unit_flat ns)) c.as_slice-2.ensures c.in_ok-known.ensures.known in
    let all = all_known us program named e c.in_ok-checked.checked c.requires c.in_ok-known.ensures.accepted c.in_ok-named.ensures knows known c.in_ok-checked.ensures in
    c.new.ensures ∙ all.0
