-- Where stackdata ends, unless that is past the limit.
use Rattle.std.specs.Prelude.{ℕ, ◌≤◌, Option}
use Rattle.std.specs.Option.{SomeIff}
use Rattle.cmm_ast.specs.declared.procedure.RoomForm.{RoomForm}
use Rattle.cmm_ast.specs.declared.procedure.RoomForm.TheVariants as rooms
use Rattle.cmm_program.specs.Layout.{Piece}
use Rattle.cmm_program.specs.Limits.{stackdata_limit}
use Rattle.cmm_static_semantics.specs.Limits.{align_piece, bytes_of, piece_of}
use Rattle.cmm_static_semantics.specs.Scopes.{Scope, senses, types}
use Rattle.cmm_check_declarations.specs.Rooms.{words_in}

-- a place, or none where it is past 64 KiB
abbrev pub IsWithin : Option ℕ → ℕ → Type 0
IsWithin o place = SomeIff o (place ≤ stackdata_limit) place

-- the piece that a room is, by its form
abbrev pub form_piece : Scope → RoomForm → Piece
form_piece s (rooms.Label name) = align_piece 1
form_piece s (rooms.Align k) = align_piece k.value
form_piece s (rooms.Data width count) = piece_of (bytes_of (types s) width) (words_in (senses s) count)
