use Rattle.std.proofs.Common.{◌≡◌, ◌+◌, ◌≤◌, List, length, take, drop, subst, sym, arith}
use Rattle.std.proofs.lemmas.List.{take_all}
use Rattle.std.proofs.lemmas.List.Elements.{All-get_or}
use Rattle.std.proofs.lemmas.Slice.Zip.{AllZip-long}
use Rattle.cmm_static_semantics.specs.Declarations.{NamedUnit}
use Rattle.cmm_checked.specs.Known.{IsKnown, names_of}
use Rattle.cmm_checked.specs.declared.unit.CheckedUnit.{CheckedUnit}
use Rattle.cmm_lower.specs.inside.Made.{AreParts}
use Rattle.cmm_lower.proofs.Known.{parted, zip_at}
use Rattle.cmm_typing.specs.Fitting.{AreWords}
use Rattle.cmm_lower.proofs.whole.parts_of.Goals as goal

pub with_unit-requires : goal.with_unit-requires
with_unit-requires c =
    let unit = c.index-units-number.result in
    subst (λ (n : CheckedUnit). AreWords (names_of n)) (sym c.index-units-number.is)
    (All-get_or (λ (n : CheckedUnit). AreWords (names_of n)) c.args.units.now c.loop-number.number unit c.loop-number-test.true c.requires.words)

pub loop-number-init : goal.loop-number-init
loop-number-init c program us known fit = c.none-parts.ensures program

pub loop-number-preserved : goal.loop-number-preserved
loop-number-preserved c program us known fit =
    let k = c.loop-number.number in
    let unit = c.index-units-number.result in
    let (u, (here, (more, count))) = zip_at (IsKnown program) us c.args.units.now k unit known c.loop-number-test.true c.index-units-number.is in
    subst (λ (q : List NamedUnit). AreParts program q c.in_ok-parts.parts) (sym more)
    (c.in_ok-parts.ensures program (take k us) u (fit (take k us) (drop (k + 1) us) u (parted us k u more)) here count (c.loop-number.invariant program us known fit))

pub returns : goal.returns
returns c program us known fit =
    let k = c.loop-number.number in
    let size : length c.args.units.now ≡ length us = AllZip-long (IsKnown program) us c.args.units.now known in
    let all : length us ≤ k = omega (arith, size, c.loop-number-test.false) in
    subst (λ (q : List NamedUnit). AreParts program q c.loop-number.parts) (take_all k us all) (c.loop-number.invariant program us known fit)
