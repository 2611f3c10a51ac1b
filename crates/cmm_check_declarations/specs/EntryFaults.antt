-- Which rules the types and values of typedefs, constants and registers break; that they depend on themselves stands apart.
use Rattle.std.specs.Prelude.{◌≡◌, List, [], ◌++◌}
use Rattle.cmm_static_semantics.specs.declared.spot.Spot.{Spot}
use Rattle.cmm_static_semantics.specs.Senses.{Senses}
use Rattle.cmm_static_semantics.specs.Declarations.{Declared, Entry, Typedef, Const, Register}
use Rattle.cmm_static_semantics.specs.Expressions.{type_spots}
use Rattle.cmm_static_semantics.specs.Units.{const_spots, cycle_spots, entry_spots}

abbrev pub entry_value_spots : Senses → Entry → List Spot
entry_value_spots names (Typedef t) = type_spots names t
entry_value_spots names (Const t e) = const_spots names t e
entry_value_spots names (Register t) = type_spots names t
entry_value_spots names _ = []

-- the faults of an entry are those of its type and value, and that it depends on itself
abbrev pub BreaksByValueOrCycle : Type 0
BreaksByValueOrCycle = (names : Senses) (ds : List (Declared Entry)) (d : Declared Entry) →
    entry_spots names ds d ≡ entry_value_spots names d.as_what ++ elim d.as_what [ Typedef t ↦ cycle_spots ds d | Const t e ↦ cycle_spots ds d | _ ↦ [] ]
