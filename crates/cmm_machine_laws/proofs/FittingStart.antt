-- What a run begins with: frames whose parts lie inside them, and data that is bytes.
use Rattle.cmm_machine_laws.proofs.StoredWords.{bytes_of_number}
use Rattle.std.specs.List.{list_all}
use Rattle.std.proofs.lemmas.Bool.Decides.{nat_tests}
use Rattle.std.proofs.lemmas.Slice.Eq.{bytes_eq-Decides}
use Rattle.std.proofs.Common.{◌≢◌, ℕ, ◌+◌, ◌≤◌, Some, None, List, [], ◌∷◌, map, flat_map, All, IsTrue, arith, slice_get, subst, sym, ◌≡◌}
use Rattle.std.proofs.lemmas.List.Elements.{All-nil, All-append, All-replicate, All-map}
use Rattle.cmm_words.specs.declared.constant.Constant.{Constant}
use Rattle.cmm_words.specs.Widths.{bytes}
use Rattle.cmm_program.specs.declared.placement.Placement.{Placement}
use Rattle.cmm_program.specs.declared.procedure.Proc.{Proc}
use Rattle.cmm_program.specs.declared.procedure.StackItem.{StackItem}
use Rattle.cmm_program.specs.declared.program.Datum.{Datum}
use Rattle.cmm_program.specs.declared.program.Program.{Program}
use Rattle.cmm_program.specs.Frames.{place_row}
use Rattle.cmm_program.specs.InRange.{IsInRange, IsProcInRange, is_item}
use Rattle.cmm_program.specs.Layout.{end_of, item_piece, stackdata_labels, stackdata_labels_from, stackdata_size, bytes_of, constant_value, datum_bytes, bytes_from, data_bytes}
use Rattle.rv_table.specs.Memory.{data_base}
use Rattle.cmm_program.specs.Placed.{IsPlaced, are_labels}
use Rattle.cmm_program.specs.State.{Setting}
use Rattle.cmm_program.proofs.Shared.{all_get, end_of-grows}
use Rattle.cmm_machine_laws.specs.Fitting.{CellFits}
use Rattle.cmm_program.specs.Memory.{IsByte}
use Rattle.cmm_machine_laws.proofs.Addresses.{pairs_inside, row_at}
use Rattle.cmm_machine_laws.proofs.FittingStores.{AreUpTo, PartsInside}

-- ---- parts of frames

-- labels lie below a limit if their stackdata does, which need be known only where there is a label
labels_within : (base place limit : ℕ) (items : List StackItem) → IsTrue (list_all is_item items) →
    (slice_get (stackdata_labels_from place items) 0 ≢ None → base + end_of place (map item_piece items) ≤ limit) →
    AreUpTo limit (map (λ label. base + label) (stackdata_labels_from place items))
labels_within base place limit [] are fit n = grind arith
labels_within base place limit (i ∷ is) are fit n =
    grind (arith, nat_tests, end_of-grows, λ (place : ℕ). labels_within base place limit is)

-- where labels have a first one, so have the offsets that stand for them
first_mapped : (f : ℕ → ℕ) (xs : List ℕ) → slice_get xs 0 ≢ None → slice_get (map f xs) 0 ≢ None
first_mapped f [] is = is
first_mapped f (x ∷ xs) is = grind arith

-- so do offsets that are a base plus the labels' places
labels_inside : (base limit : ℕ) (items : List StackItem) (offsets : List ℕ) → IsTrue (list_all is_item items) → IsTrue (are_labels base items offsets) →
    (slice_get offsets 0 ≢ None → slice_get (stackdata_labels items) 0 ≢ None → base + stackdata_size items ≤ limit) → AreUpTo limit offsets
labels_inside base limit items offsets are labels =
    let places = stackdata_labels items in
    let same : offsets ≡ map (λ place. base + place) places = (bytes_eq-Decides offsets _).0 labels in
    subst (λ os. (slice_get os 0 ≢ None → slice_get places 0 ≢ None → base + stackdata_size items ≤ limit) → AreUpTo limit os) (sym same)
    (λ fit. labels_within base 0 limit items are (λ first. fit (first_mapped (λ place. base + place) places first) first))

-- so pairs and labels lie inside the frame of the row that places them
pub parts_inside : (s : Setting) → IsInRange s.program → IsPlaced s.program s.placement → (n : ℕ) → PartsInside (place_row s n)
parts_inside s range placed n =
    let items = λ (p : Proc). all_get (IsProcInRange s.program) s.program.procs n p range.procedures in
    let labels = λ (p : Proc) (base : ℕ). labels_inside base (place_row s n).frame p.stack (place_row s n).stack in
    grind (arith, nat_tests, row_at s.program.procs s.placement.rows, pairs_inside, items, labels)

-- ---- data

-- values, and so a datum, are laid down as bytes
values_bytes : (value : Constant → ℕ) (width : ℕ) (cs : List Constant) → All IsByte (flat_map (λ c. bytes_of width (value c)) cs)
values_bytes value width [] = All-nil IsByte
values_bytes value width (c ∷ cs) = All-append IsByte _ _ (bytes_of_number width (value c)).1 (values_bytes value width cs)

datum_fits : (p : Program) (placement : Placement) (d : Datum) → All IsByte (datum_bytes p placement d)
datum_fits p placement d =
    grind (arith, All-replicate IsByte d.length 0, values_bytes (constant_value p placement) (bytes d.width) d.values)

-- and so are all data, with the zeros between them
data_fits : (p : Program) (placement : Placement) (ds : List Datum) (place : ℕ) → All IsByte (bytes_from p placement place ds)
data_fits p placement [] place = All-nil IsByte
data_fits p placement (d ∷ ds) place =
    search (arith, All-append IsByte, All-replicate IsByte, datum_fits p placement d, data_fits p placement ds)

-- so every cell of data fits
pub data_cells : (s : Setting) → All CellFits (map Some (data_bytes s.program s.placement))
data_cells s = All-map CellFits (λ (b : ℕ). Some b) _ (data_fits s.program s.placement s.program.datums data_base)
