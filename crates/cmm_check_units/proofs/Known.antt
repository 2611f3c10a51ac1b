-- What is known of units: of one more, and of all that break no rule.
use Rattle.std.proofs.Common.{◌≡◌, ℕ, ◌+◌, ◌<◌, ◌^◌, length, map, refl, sym, ap, ◌∙◌, subst, List, [], ◌∷◌, ◌++◌, Option, None}
use Rattle.std.specs.List.{AllZip, zip}
use Rattle.std.proofs.lemmas.List.{length-map}
use Rattle.cmm_checked.specs.Known.{AreKnown, IsKnown, trees_in}
use Rattle.cmm_checked.specs.declared.unit.CheckedUnit.{CheckedUnit}
use Rattle.cmm_symbols.specs.declared.index.Index.{Index}
use Rattle.cmm_words.specs.declared.width.Width.{Width}
use Rattle.cmm_ast.specs.declared.unit.Unit.{Unit as UnitTree}
use Rattle.cmm_static_semantics.specs.Declarations.{NamedUnit, found, labels_in, named_units, procs_in, sum_of, units_from}
use Rattle.cmm_static_semantics.specs.Items.{items_of}
use Rattle.cmm_static_semantics.specs.declared.fault.Fault.{Fault}
use Rattle.cmm_static_semantics.specs.Faults.{AreAccepted, fault_of_all, first_fault, stands_before}
use Rattle.cmm_static_semantics.specs.Linking.{Program, program_of}
use Rattle.cmm_static_semantics.specs.Scopes.{unit_senses}
use Rattle.cmm_static_semantics.specs.declared.sense.Sense.{Sense}
use Rattle.cmm_static_semantics.specs.Spots.{first_by}
use Rattle.cmm_linkage.specs.Registers.{AreWidths}
use Rattle.cmm_check_units.specs.inside.Flat.{Flat, flat_named, flat_unit, flats_broken, widths_before}
use Rattle.cmm_check_units.specs.inside.Linked.{AreFound}
use Rattle.cmm_check_units.specs.inside.Totals.{AreSums}
use Rattle.cmm_check_units.specs.inside.Units.{AreEarlier, AreSensed, checked_unit, unit_flat}
use Rattle.cmm_check_units.specs.declared.earlier.Earlier.{Earlier}
use Rattle.cmm_check_units.specs.declared.sums.Sums.{Sums}
use Rattle.cmm_check_units.specs.declared.unit_names.UnitNames.{UnitNames}
use Rattle.cmm_check_units.proofs.Checked.{first_found, named_together}
use Rattle.cmm_check_units.proofs.Totals.{sums_of_units}
use Rattle.cmm_check_units.proofs.FlatUnits.{widths_flat}

-- the widths of registers of units laid flat
pub widths_of_units : (us : List NamedUnit) (fs : List Flat) (registers : Index (Option Width)) → fs ≡ map flat_unit us → AreFound registers (widths_before fs) → AreWidths registers us
widths_of_units us fs registers same are name = are name ∙ ap (λ (q : List Flat). found name (widths_before q)) same ∙ sym (ap (found name) (widths_flat us))

-- ---- what is known of one more unit

zip_push : {A B : Type 0} (P : A → B → Type 0) (xs : List A) (ys : List B) (x : A) (y : B) → AllZip P xs ys → P x y → AllZip P (xs ++ x ∷ []) (ys ++ y ∷ [])
zip_push P [] [] x y known here = (here, tt)
zip_push P [] (w ∷ ys) x y known here = absurd known
zip_push P (v ∷ xs) [] x y known here = absurd known
zip_push P (v ∷ xs) (w ∷ ys) x y known here = (known.0, zip_push P xs ys x y known.1 here)

pub senses_next : (program : Program) (before : List Flat) (f : Flat) (old new : List (List Sense)) (ss : List Sense) → new ≡ old ++ ss ∷ [] → AreSensed program f ss →
    AllZip (AreSensed program) before old → AllZip (AreSensed program) (before ++ f ∷ []) new
senses_next program before f old new ss is here known =
    subst (λ (q : List (List Sense)). AllZip (AreSensed program) (before ++ f ∷ []) q) (sym is) (zip_push (AreSensed program) before old f ss known here)

-- ---- units of which none breaks a rule of its own

-- what they break together is the fault that is named of them, if they do
pub named_of_all : (us : List UnitTree) (program : Program) (fs : List Flat) (s : Sums) (fault : Option Fault) → fs ≡ map flat_unit (named_units us) → program ≡ program_of (named_units us) →
    first_by stands_before None (flats_broken program [] 0 fs) ≡ None → AreSums program (map flat_named fs) s →
    ((ns : List NamedUnit) → fs ≡ map flat_unit ns → program ≡ program_of ns → AreSums program ns s → fault ≡ fault_of_all ns) → first_fault us ≡ fault
named_of_all us program fs s fault are knows none sums by_sums =
    named_together us (first_found us fs program None are knows (sym none)) ∙ sym (by_sums (named_units us) are knows (sums_of_units program us fs s are sums))

-- ---- units that break no rule, each with what its names mean

each_known : (program : Program) (us : List NamedUnit) (named : List UnitNames) (senses : List (List Sense)) → map unit_flat named ≡ map flat_unit us →
    AllZip (AreSensed program) (map unit_flat named) senses → AllZip (IsKnown program) us (map checked_unit (zip named senses))
each_known program [] [] senses flat known = tt
each_known program [] (n ∷ ns) senses flat known = cc
each_known program (u ∷ us) [] senses flat known = cc
each_known program (u ∷ us) (n ∷ ns) [] flat known = absurd known
each_known program (u ∷ us) (n ∷ ns) (ss ∷ rest) flat known = (here, each_known program us ns rest flats known.1)
  where
    same : unit_flat n ≡ flat_unit u
    same = cc

    flats : map unit_flat ns ≡ map flat_unit us
    flats = cc

    here : IsKnown program u (checked_unit (n, ss))
    here = record {
      tree = ap (λ (f : Flat). f.tree) same;
      exports = ap (λ (f : Flat). f.exports) same;
      senses = known.0.means ∙ ap (λ (f : Flat). unit_senses program f.entries) same;
      words = known.0.words;
    }

trees_known : (program : Program) (us : List NamedUnit) (cs : List CheckedUnit) → AllZip (IsKnown program) us cs → trees_in cs ≡ map (λ u. u.tree) us
trees_known program [] [] known = refl
trees_known program [] (c ∷ cs) known = absurd known
trees_known program (u ∷ us) [] known = absurd known
trees_known program (u ∷ us) (c ∷ cs) known =
    ap (λ (t : UnitTree). t ∷ trees_in cs) known.0.tree ∙ ap (λ (ts : List UnitTree). u.tree ∷ ts) (trees_known program us cs known.1)

trees_named : (procs labels : ℕ) (us : List UnitTree) → map (λ u. u.tree) (units_from procs labels us) ≡ us
trees_named procs labels [] = refl
trees_named procs labels (u ∷ us) =
    ap (λ (ts : List UnitTree). u ∷ ts) (trees_named (procs + sum_of procs_in (items_of u)) (labels + sum_of labels_in (items_of u)) us)

-- they are the units that were checked, and this is known of them
pub all_known : (us : List UnitTree) (program : Program) (named : List UnitNames) (e : Earlier) (checked : List CheckedUnit) → length us < 2 ^ 32 → AreAccepted us →
    map unit_flat named ≡ map flat_unit (named_units us) → program ≡ program_of (named_units us) → AreEarlier program e (map unit_flat named) →
    checked ≡ map checked_unit (zip named e.senses) → (trees_in checked ≡ us) × AreKnown program e.registers us checked
all_known us program named e checked few accepted flat knows known are = (
  trees,
  record {
    few = subst (λ n. n < 2 ^ 32) (sym (ap length trees) ∙ length-map checked (λ c. c.flat)) few;
    accepted = accepted;
    linkage = knows;
    each = each;
    widths = widths_of_units (named_units us) (map unit_flat named) e.registers flat known.registers;
  },
)
  where
    each : AllZip (IsKnown program) (named_units us) checked
    each = subst (AllZip (IsKnown program) (named_units us)) (sym are) (each_known program (named_units us) named e.senses flat known.senses)

    trees : trees_in checked ≡ us
    trees = trees_known program (named_units us) checked each ∙ trees_named 0 0 us
