-- Worked rows: an image whose main has called leaf, which has yielded, as it is walked.
use Rattle.std.proofs.Common.{◌≡◌, ℕ, zero, suc, ◌+◌, ◌<◌, ◌≤◌, true, false, IsTrue, List, [], ◌∷◌, Ok, Err, Some, None, refl, sym, ap, subst, slice_get, slice_index_or, arith}
use Rattle.std.specs.Prelude.{codes, replicate}
use Rattle.rv_table.specs.Machine.{State, region_base, stored}
use Rattle.cmm_abi.specs.Registers.{is_callee_saves}
use Rattle.cmm_abi.specs.Regions as regions
use Rattle.cmm_abi.specs.Regions.{Region}
use Rattle.cmm_image_machine.specs.Frames.{first_point, found_at, point_after}
use Rattle.cmm_image_machine.specs.Laws.{IsInStack}
use Rattle.cmm_image_machine.specs.Walks.{element_shown}
use Rattle.cmm_image_machine.proofs.Shared.{yielding}
use Rattle.cmm_program.specs.Commands.{span_value}
use Rattle.cmm_walk.specs.declared.activation.Activation.{Activation}
use Rattle.cmm_walk.specs.declared.activation.Kept.{Kept}
use Rattle.cmm_walk.specs.declared.activation.Kept.TheVariants.{InRegister, At}
use Rattle.cmm_walk.specs.declared.variable.NoVar.{NoVar}
use Rattle.cmm_walk.specs.Activations.{Fits, SavedFit, element_of, kept_place, order_of, places_of, register_in}
use Rattle.cmm_walk.specs.Shown.{label_address, spans_of}
use Rattle.cmm_walk.specs.Texts.{end_text}
use Rattle.cmm_walk.specs.Walking.{found_by}
use Rattle.cmm_walk.proofs.Places.{order_small, register_again, register_saved}

abbrev pub region : Region
region = record { address = region_base; stack_size = 4096 }

-- leaf's frame at 0x60001fa0, main's behind it up to the top; leaf has saved main's register 9, where main's first variable was
abbrev pub memory : ℕ → ℕ
memory = stored (stored (stored (stored (stored (λ at. 0) 0x60001fa0 8 7) 0x60001fc0 8 5) 0x60001fc8 8 0x10048) 0x60001fd8 8 300) 0x60001ff8 8 0x10010

abbrev pub registers : ℕ → ℕ → ℕ → ℕ
registers address frame n = elim (n) [ zero ↦ 0 | suc k ↦ elim k [ zero ↦ address | suc j ↦ elim j [ zero ↦ frame | suc i ↦ 407 ] ] ]

abbrev pub stopped : ℕ → ℕ → State
stopped address frame = record { registers = registers address frame; pc = 0; memory = memory }

abbrev pub at_yield : State
at_yield = stopped 0x10098 0x60001fa0

abbrev pub in_registers : ℕ → List Kept
in_registers count = replicate count InRegister

abbrev pub leaf_activation : Activation
leaf_activation = record { frame = 0x60001fa0; site = 1; proc = 1; saved = in_registers 11 }

abbrev pub main_activation : Activation
main_activation = record { frame = 0x60001fd0; site = 0; proc = 0; saved = At 0x60001fc0 ∷ in_registers 10 }

-- ---- the chain

ends : found_at yielding region (first_point (stopped 0x10010 0x60002000)) ≡ found_by yielding (Ok None)
ends = refl

-- no site has the address; the frame is no multiple of 16, or lies below the stack, or ends above the top
breaks_at_an_address : found_at yielding region (first_point (stopped 0x10050 0x60001fa0)) ≡ found_by yielding (Err record { frame = 0x60001fa0; address = 0x10050 })
breaks_at_an_address = refl

breaks_at_a_frame : found_at yielding region (first_point (stopped 0x10098 0x60001fa8)) ≡ found_by yielding (Err record { frame = 0x60001fa8; address = 0x10098 })
breaks_at_a_frame = refl

breaks_below : found_at yielding region (first_point (stopped 0x10098 0x60000ff0)) ≡ found_by yielding (Err record { frame = 0x60000ff0; address = 0x10098 })
breaks_below = refl

breaks_above : found_at yielding region (first_point (stopped 0x10098 0x60001fe0)) ≡ found_by yielding (Err record { frame = 0x60001fe0; address = 0x10098 })
breaks_above = refl

-- behind main it ends, and behind leaf stands main
behind_main : found_at yielding region (point_after memory (element_of yielding main_activation)) ≡ found_by yielding (Ok None)
behind_main = refl

behind_leaf : (point_after memory (element_of yielding leaf_activation)).address ≡ 0x10048
behind_leaf = refl

saved_by_leaf : (point_after memory (element_of yielding leaf_activation)).places 9 ≡ places_of main_activation.saved 9
saved_by_leaf = refl

kept_by_leaf : (point_after memory (element_of yielding leaf_activation)).places 27 ≡ places_of main_activation.saved 27
kept_by_leaf = refl

-- ---- what is shown

first_of_main : slice_get (element_shown at_yield (element_of yielding main_activation)).variables 0 ≡ Some record { width = 64; kind = []; invariant = false; value = Some 5 }
first_of_main = refl

second_of_main : slice_get (element_shown at_yield (element_of yielding main_activation)).variables 1 ≡ Some record { width = 64; kind = []; invariant = false; value = None }
second_of_main = refl

third_of_main : slice_get (element_shown at_yield (element_of yielding main_activation)).variables 2 ≡ Some record { width = 64; kind = codes "count"; invariant = true; value = Some 300 }
third_of_main = refl

fourth_of_main : slice_get (element_shown at_yield (element_of yielding main_activation)).variables 3 ≡ None
fourth_of_main = refl

-- the low 8 bits of register 9
second_of_leaf : slice_get (element_shown at_yield (element_of yielding leaf_activation)).variables 1 ≡ Some record { width = 8; kind = []; invariant = false; value = Some 151 }
second_of_leaf = refl

inner_span : span_value 2 (spans_of (element_of yielding main_activation)) ≡ 20
inner_span = refl

no_span : span_value 3 (spans_of (element_of yielding main_activation)) ≡ 0
no_span = refl

no_label : label_address (element_of yielding main_activation) 0 ≡ None
no_label = refl

last_line : end_text None ≡ codes "end\n"
last_line = refl

-- ---- an activation that fits

fit_each : (r : Region) (saved : List Kept) → ((k : ℕ) → k < 11 → IsInStack r (kept_place (register_in k) (slice_index_or saved k InRegister))) → SavedFit r saved
fit_each r saved each n is =
    let one = each (order_of n) (order_small n is) in
    let here : IsInStack r (kept_place n (slice_index_or saved (order_of n) InRegister)) =
    subst (λ (m : ℕ). IsInStack r (kept_place m (slice_index_or saved (order_of n) InRegister))) (register_again n is) one in
    let place : places_of saved n ≡ kept_place n (slice_index_or saved (order_of n) InRegister) = rw (places_of, is) refl in
    subst (IsInStack r) (sym place) here

alike : (count k : ℕ) → slice_index_or (in_registers count) k InRegister ≡ InRegister
alike zero k = refl
alike (suc count) zero = refl
alike (suc count) (suc k) = alike count k

fit_main : (k : ℕ) → k < 11 → IsInStack region (kept_place (register_in k) (slice_index_or main_activation.saved k InRegister))
fit_main zero short = (omega arith, omega arith)
fit_main (suc k) short = subst (λ (x : Kept). IsInStack region (kept_place (register_in (suc k)) x)) (sym (alike 10 k)) (register_saved (suc k) short)

main_fits : Fits yielding region main_activation
main_fits = record {
  there = record { site = omega arith; procedure = refl };
  frame = refl;
  room = omega arith;
  places = fit_each region main_activation.saved fit_main;
}

fit_leaf : (k : ℕ) → k < 11 → IsInStack region (kept_place (register_in k) (slice_index_or leaf_activation.saved k InRegister))
fit_leaf k short = subst (λ (x : Kept). IsInStack region (kept_place (register_in k) x)) (sym (alike 11 k)) (register_saved k short)

leaf_fits : Fits yielding region leaf_activation
leaf_fits = record {
  there = record { site = omega arith; procedure = refl };
  frame = refl;
  room = omega arith;
  places = fit_each region leaf_activation.saved fit_leaf;
}
