-- The faults of an entry by those of its value and that it depends on itself.
use Rattle.std.proofs.Common.{◌≡◌, List, [], ◌++◌, refl, sym, append-nil}
use Rattle.cmm_static_semantics.specs.Senses.{Senses}
use Rattle.cmm_static_semantics.specs.Declarations.{Declared, Entry, Typedef, Const, Register, Import, DataLabel, Procedure}
use Rattle.cmm_static_semantics.specs.Expressions.{type_spots}
use Rattle.cmm_static_semantics.specs.Units.{cycle_spots}
use Rattle.cmm_check_declarations.specs.EntryFaults.{BreaksByValueOrCycle, entry_value_spots}

by_case : (names : Senses) (ds : List (Declared Entry)) (d : Declared Entry) (e : Entry) →
    elim e [
      | Typedef t ↦ entry_value_spots names (Typedef t) ++ cycle_spots ds d
      | Const t x ↦ entry_value_spots names (Const t x) ++ cycle_spots ds d
      | Register t ↦ type_spots names t
      | _ ↦ []
    ]
    ≡ entry_value_spots names e ++ elim e [ Typedef t ↦ cycle_spots ds d | Const t x ↦ cycle_spots ds d | _ ↦ [] ]
by_case names ds d (Typedef t) = refl
by_case names ds d (Const t x) = refl
by_case names ds d (Register t) = sym (append-nil (type_spots names t))
by_case names ds d (Import i) = refl
by_case names ds d (DataLabel n) = refl
by_case names ds d (Procedure n p) = refl

pub value_or_cycle : BreaksByValueOrCycle
value_or_cycle names ds d = by_case names ds d d.as_what
