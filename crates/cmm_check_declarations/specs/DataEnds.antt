-- Where data ends.
use Rattle.std.specs.Prelude.{ℕ, ◌≤◌, List, flat_map, Option}
use Rattle.std.specs.Option.{SomeIff}
use Rattle.cmm_ast.specs.declared.unit.Item.{Item}
use Rattle.cmm_program.specs.Layout.{Piece, end_of}
use Rattle.cmm_program.specs.Limits.{data_limit}
use Rattle.cmm_static_semantics.specs.Senses.{Senses}
use Rattle.cmm_static_semantics.specs.Limits.{item_pieces}

-- the place at which pieces end that are laid from a place on, unless they end past a limit
abbrev pub EndsWithin : ℕ → ℕ → List Piece → Option ℕ → Type 0
EndsWithin limit place pieces r = SomeIff r (end_of place pieces ≤ limit) (end_of place pieces)

-- the same for the limit on the data of all units, 64 MiB
abbrev pub IsEnd : ℕ → List Piece → Option ℕ → Type 0
IsEnd = EndsWithin data_limit

-- the data among what stands in a unit
abbrev pub data_of : Senses → List Item → List Piece
data_of names items = flat_map (item_pieces names) items
