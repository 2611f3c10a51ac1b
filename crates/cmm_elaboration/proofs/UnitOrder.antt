-- The procedures of a program stand unit by unit, in the order of the units.
use Rattle.std.proofs.Common.{ℕ, zero, suc, ◌<◌, ◌≤◌, List, [], ◌∷◌, ◌++◌, append_assoc, arith, length, subst, sym}
use Rattle.std.specs.Prelude.{flat_map, slice_index_or}
use Rattle.std.specs.List.Sorted.{IsNonDecreasingBy}
use Rattle.cmm_ast.specs.declared.unit.Item.{Item}
use Rattle.cmm_ast.specs.declared.unit.Item.TheVariants as items
use Rattle.cmm_program.specs.declared.procedure.Proc.{Proc}
use Rattle.cmm_static_semantics.specs.Declarations.{NamedUnit, named_units}
use Rattle.cmm_static_semantics.specs.Items.{Within}
use Rattle.cmm_static_semantics.specs.Linking.{Program as Linked, program_of}
use Rattle.cmm_static_semantics.specs.Scopes.{unit_senses}
use Rattle.cmm_static_semantics.specs.Senses.{Senses}
use Rattle.cmm_elaboration.specs.Laws.{ProceduresAscend}
use Rattle.cmm_elaboration.specs.Meaning.{item_procedures, procedures_from}

-- procedures are of units from a number on, none of an earlier one than the procedure before
abbrev RiseFrom : ℕ → List Proc → Type 0
RiseFrom unit [] = Unit {0}
RiseFrom unit (q ∷ qs) = (unit ≤ q.unit) × RiseFrom q.unit qs

from_lower : (lower unit : ℕ) (qs : List Proc) → lower ≤ unit → RiseFrom unit qs → RiseFrom lower qs
from_lower lower unit [] below rise = tt
from_lower lower unit (q ∷ qs) below rise = (omega (arith, below, rise.0), rise.1)

item_before : (names : Senses) (unit : ℕ) (i : Within Item) (what : Item) (rest : List Proc) → RiseFrom unit rest →
    RiseFrom unit (item_procedures names unit record i { what = what } ++ rest)
item_before names unit i (items.Decl d) rest rise = rise
item_before names unit i (items.Proc p) rest rise = (omega arith, rise)
item_before names unit i (items.Datum d) rest rise = rise
item_before names unit i (items.Span' first key value size inside) rest rise = rise

items_before : (names : Senses) (unit : ℕ) (is : List (Within Item)) (rest : List Proc) → RiseFrom unit rest → RiseFrom unit (flat_map (item_procedures names unit) is ++ rest)
items_before names unit [] rest rise = rise
items_before names unit (i ∷ is) rest rise =
    let behind = flat_map (item_procedures names unit) is in
    subst (RiseFrom unit) (sym (append_assoc (item_procedures names unit i) behind rest))
    (item_before names unit i i.what (behind ++ rest) (items_before names unit is rest rise))

units_rise : (program : Linked) (unit : ℕ) (us : List NamedUnit) → RiseFrom unit (procedures_from program unit us)
units_rise program unit [] = tt
units_rise program unit (u ∷ us) =
    let rest = procedures_from program (suc unit) us in
    items_before (unit_senses program u.entries) unit u.items rest (from_lower unit (suc unit) rest (omega arith) (units_rise program (suc unit) us))

-- each is of that unit or a later one
none_lower : (unit : ℕ) (qs : List Proc) → RiseFrom unit qs → (j : ℕ) (d : Proc) → j < length qs → unit ≤ (slice_index_or qs j d).unit
none_lower unit [] rise j d less = absurd (omega (arith, less))
none_lower unit (q ∷ qs) rise zero d less = rise.0
none_lower unit (q ∷ qs) rise (suc j) d less = omega (arith, rise.0, none_lower q.unit qs rise.1 j d (omega (arith, less)))

in_order : (unit : ℕ) (qs : List Proc) → RiseFrom unit qs → IsNonDecreasingBy (λ q. q.unit) qs
in_order unit [] rise i j d before less = absurd (omega (arith, less))
in_order unit (q ∷ qs) rise zero zero d before less = omega arith
in_order unit (q ∷ qs) rise zero (suc j) d before less = none_lower q.unit qs rise.1 j d (omega (arith, less))
in_order unit (q ∷ qs) rise (suc i) zero d before less = absurd (omega (arith, before))
in_order unit (q ∷ qs) rise (suc i) (suc j) d before less = in_order q.unit qs rise.1 i j d (omega (arith, before)) (omega (arith, less))

pub procedures_ascend : ProceduresAscend
procedures_ascend us = let ns = named_units us in let program = program_of ns in in_order 0 (procedures_from program 0 ns) (units_rise program 0 ns)
