-- Rooms of stackdata from behind.
use Rattle.std.specs.Prelude.{ℕ, max, true}
use Rattle.cmm_ast.specs.declared.procedure.RoomForm.{RoomForm}
use Rattle.cmm_ast.specs.declared.procedure.RoomForm.TheVariants as rooms
use Rattle.cmm_program.specs.declared.procedure.StackItem.{StackItem}
use Rattle.cmm_static_semantics.specs.Scopes.{Scope, senses, types}
use Rattle.cmm_static_semantics.specs.Limits.{align_piece, bytes_of, piece_of}
use Rattle.cmm_check_declarations.specs.Rooms.{words_in}
use Rattle.cmm_elaboration.specs.Procedures.{item_of}

-- an item, before what is aligned so
abbrev pub form_item : Scope → ℕ → RoomForm → StackItem
form_item s behind (rooms.Label name) = record { align = behind; length = 0; label = true }
form_item s behind (rooms.Align k) = item_of (align_piece k.value)
form_item s behind (rooms.Data width count) = item_of (piece_of (bytes_of (types s) width) (words_in (senses s) count))

-- how a label before it is aligned
abbrev pub alignment_before : RoomForm → ℕ → ℕ → ℕ
alignment_before (rooms.Label name) own behind = behind
alignment_before (rooms.Align k) own behind = max own behind
alignment_before (rooms.Data width count) own behind = own
