-- The procedure that a tree means: its variables, stackdata, continuations, call sites and statements (C-- Language Specification 2.0,
-- procedures and stack data).
use Rattle.std.specs.Prelude.{ℕ, ◌-◌, max, Bool, true, false, List, [], ◌∷◌, ◌++◌, map, flat_map, length}
use Rattle.cmm_ast.specs.declared.expression.TypeName.{TypeName}
use Rattle.cmm_ast.specs.declared.procedure.Formal.{Formal}
use Rattle.cmm_ast.specs.declared.procedure.LocalForm.{LocalForm}
use Rattle.cmm_ast.specs.declared.procedure.LocalForm.TheVariants as locals
use Rattle.cmm_ast.specs.declared.procedure.Modifiers.{Modifiers}
use Rattle.cmm_ast.specs.declared.procedure.Modifiers.TheVariants as modifiers
use Rattle.cmm_ast.specs.declared.procedure.Proc.{Proc as ProcTree}
use Rattle.cmm_ast.specs.declared.procedure.Room.{Room}
use Rattle.cmm_ast.specs.declared.procedure.RoomForm.TheVariants as rooms
use Rattle.cmm_ast.specs.declared.statement.Kinded.{Kinded}
use Rattle.cmm_ast.specs.declared.statement.Part.{Part}
use Rattle.cmm_ast.specs.declared.statement.Part.TheVariants as parts
use Rattle.cmm_ast.specs.declared.statement.StmtForm.{StmtForm}
use Rattle.cmm_ast.specs.declared.statement.StmtForm.TheVariants as stmts
use Rattle.cmm_program.specs.declared.procedure.Cont.{Cont}
use Rattle.cmm_program.specs.declared.procedure.Proc.{Proc}
use Rattle.cmm_program.specs.declared.procedure.StackItem.{StackItem}
use Rattle.cmm_program.specs.declared.procedure.VarInfo.{VarInfo}
use Rattle.cmm_program.specs.Layout.{Piece}
use Rattle.cmm_static_semantics.specs.Senses.{Senses}
use Rattle.cmm_static_semantics.specs.Items.{SpanTree, parts_in, parts_of}
use Rattle.cmm_static_semantics.specs.Declarations.{is_variable, number_in}
use Rattle.cmm_static_semantics.specs.Scopes.{Scope, types}
use Rattle.cmm_static_semantics.specs.Statements.{scope_of}
use Rattle.cmm_static_semantics.specs.Limits.{local_rooms, room_piece}
use Rattle.cmm_elaboration.specs.Resolving.{width_at}
use Rattle.cmm_elaboration.specs.Sites.{span_value, sites_among}
use Rattle.cmm_elaboration.specs.Bodies.{statements_from}

-- ---- variables: formals first, then those of the body, in textual order

abbrev pub kind_in : Modifiers → List ℕ
kind_in modifiers.Nothing = []
kind_in (modifiers.Kind kind) = kind.bytes
kind_in (modifiers.KindInvariant kind) = kind.bytes
kind_in (modifiers.Invariant token) = []
kind_in (modifiers.InvariantKind token kind) = kind.bytes

abbrev pub is_invariant : Modifiers → Bool
is_invariant modifiers.Nothing = false
is_invariant (modifiers.Kind kind) = false
is_invariant (modifiers.KindInvariant kind) = true
is_invariant (modifiers.Invariant token) = true
is_invariant (modifiers.InvariantKind token kind) = true

abbrev pub variable_info : Scope → Modifiers → TypeName → VarInfo
variable_info s before width = record { width = width_at (types s) width; kind = kind_in before; invariant = is_invariant before }

abbrev pub formal_info : Scope → Formal → VarInfo
formal_info s f = variable_info s f.modifiers f.width

abbrev pub local_infos : Scope → LocalForm → List VarInfo
local_infos s (locals.Variables before width names) = map (λ i. variable_info s before width) names
local_infos s (locals.Stackdata rooms) = []

abbrev pub part_infos : Scope → Part → List VarInfo
part_infos s (parts.Local l) = local_infos s l.form
part_infos s (parts.Stmt' first past form) = []

abbrev pub variable_infos : Scope → ProcTree → List VarInfo
variable_infos s p = map (formal_info s) p.formals ++ flat_map (part_infos s) (parts_of p.body)

-- ---- stackdata. A label stands where the next datum does, whatever alignments come before that: at the greatest of them and of the
-- datum's own.

abbrev pub label_alignment : Scope → List Room → ℕ
label_alignment s [] = 1
label_alignment s (r ∷ rs) = elim r.form [
  | rooms.Label name ↦ label_alignment s rs
  | rooms.Align k ↦ max (room_piece s r).align (label_alignment s rs)
  | rooms.Data width count ↦ (room_piece s r).align
]

abbrev pub item_of : Piece → StackItem
item_of piece = record { align = piece.align; length = piece.length; label = false }

abbrev pub stack_items : Scope → List Room → List StackItem
stack_items s [] = []
stack_items s (r ∷ rs) = elim r.form [
  | rooms.Label name ↦ record { align = label_alignment s rs; length = 0; label = true }
  | rooms.Align k ↦ item_of (room_piece s r)
  | rooms.Data width count ↦ item_of (room_piece s r)
] ∷ stack_items s rs

-- ---- continuations

abbrev pub parameter_of : Scope → Kinded → ℕ
parameter_of s k = number_in is_variable k.name.name s.own

abbrev pub form_conts : Scope → StmtForm → List Cont
form_conts s (stmts.Continuation name parameters) = record { params = map (parameter_of s) parameters } ∷ []
form_conts s _ = []

abbrev pub part_conts : Scope → Part → List Cont
part_conts s (parts.Local l) = []
part_conts s (parts.Stmt' first past form) = form_conts s form

-- ---- a procedure of a unit, in which names mean what a function says, with the spans around it

abbrev pub procedure_of : Senses → ℕ → List SpanTree → ProcTree → Proc
procedure_of outer unit around p = let s = scope_of outer p in record {
  name = p.name.name;
  unit = unit;
  tokens = p.past - p.name.token;
  formals = length p.formals;
  vars = variable_infos s p;
  stack = stack_items s (flat_map local_rooms (parts_of p.body));
  conts = flat_map (part_conts s) (parts_of p.body);
  sites = sites_among s (map (span_value outer) around) (parts_in [] p.body);
  body = statements_from s 0 p.body.parts;
}
