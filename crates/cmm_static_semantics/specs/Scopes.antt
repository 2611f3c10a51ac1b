-- What a name means in a unit and in a procedure of it: a function of the declarations (C-- Language Specification 2.0, scope of names).
use Rattle.std.specs.Prelude.{ℕ, zero, suc, Bool, false, ◌||◌, List, [], ◌∷◌, length, bytes_eq, map, Option, Some, None, Ok, Err}
use Rattle.std.specs.List.{list_any}
use Rattle.cmm_words.specs.declared.width.Width.{Width}
use Rattle.cmm_words.specs.declared.constant.Constant.TheVariants.{Number, Code, Address}
use Rattle.cmm_ast.specs.declared.expression.TypeName.{TypeName}
use Rattle.cmm_ast.specs.declared.expression.TypeForm.TheVariants.{Bits as OfBits, Named as OfName}
use Rattle.cmm_ast.specs.declared.expression.Expr.{Expr}
use Rattle.cmm_static_semantics.specs.declared.judged.Bits.{Bits}
use Rattle.cmm_static_semantics.specs.declared.known.Known.{Known}
use Rattle.cmm_static_semantics.specs.declared.sense.Sense.{Sense}
use Rattle.cmm_static_semantics.specs.declared.sense.Sense.TheVariants.{Variable, Register, Value, Broken, Stackdata, Continuation, Typedef, CodeLabel, Host}
use Rattle.cmm_static_semantics.specs.Senses.{Senses, host_named}
use Rattle.cmm_static_semantics.specs.Judging.{Judged, if_ok}
use Rattle.cmm_static_semantics.specs.Algebras.{knowns}
use Rattle.cmm_static_semantics.specs.Typing.{type_width, wanted}
use Rattle.cmm_static_semantics.specs.Constants.{as_number, number_alone}
use Rattle.cmm_static_semantics.specs.Mentions.{expr_names, values_alone}
use Rattle.cmm_static_semantics.specs.Declarations.{Declared, Entry, Local, Typedef as IsTypedef, Const, Register as IsRegister, Import, DataLabel, Procedure, Variable as IsVariable, Room, Label, Continuation as IsContinuation, found, entry_of, number_in, is_variable, is_room, is_continuation}
use Rattle.cmm_static_semantics.specs.Linking.{Program, imported, register_number}

-- ---- a unit. Typedefs and constants may name later ones: each step to another declaration takes one of a count of steps, and where none is
-- left there is a cycle.

abbrev pub typedef_sense : (TypeName → Option Width) → Option Entry → Option Sense
typedef_sense width (Some (IsTypedef t)) = Some (Typedef (width t))
typedef_sense width _ = None

abbrev pub type_in : ℕ → List (Declared Entry) → TypeName → Option Width
type_in zero ds t = None
type_in (suc count) ds t = if_ok (type_width (λ name. typedef_sense (type_in count ds) (entry_of name ds)) t)

-- the width of a type of the unit, if it is not broken
abbrev pub width_in : List (Declared Entry) → TypeName → Option Width
width_in ds t = type_in (suc (length ds)) ds t

abbrev pub entry_sense : Program → List (Declared Entry) → (Option TypeName → Expr → Sense) → List ℕ → Entry → Sense
entry_sense program ds value name (IsTypedef t) = Typedef (width_in ds t)
entry_sense program ds value name (Const t e) = value t e
entry_sense program ds value name (IsRegister t) = Register (register_number program name) (width_in ds t)
entry_sense program ds value name (Import link) = imported link program.exports
entry_sense program ds value name (DataLabel number) = Value (Address number 0)
entry_sense program ds value name (Procedure number p) = Value (Code number 0)

-- what a name means, where constants mean what a function says
abbrev pub senses_by : Program → List (Declared Entry) → (Option TypeName → Expr → Sense) → Senses
senses_by program ds value name = elim (host_named name) [
  | Some h ↦ Some (Host h)
  | None ↦ elim (found name ds) [ Some e ↦ Some (entry_sense program ds value name e) | None ↦ None ]
]

-- the value of a constant, and its width where it has no value
abbrev pub valued : Width → Judged ℕ → Sense
valued width (Ok value) = Value (Number value width)
valued width (Err broken) = Broken (Some width)

abbrev pub untyped_sense : ℕ → Judged (Bits Known) → Sense
untyped_sense token (Ok x) = valued x.width (as_number token x)
untyped_sense token (Err broken) = Broken None

abbrev pub typed_sense : Senses → Expr → Option Width → Sense
typed_sense names e (Some width) = valued width (number_alone names (Some width) e)
typed_sense names e None = Broken None

abbrev pub const_sense : Program → List (Declared Entry) → ℕ → Option TypeName → Expr → Sense
const_sense program ds zero t e = Broken None
const_sense program ds (suc count) None e = untyped_sense e.token (wanted knowns (senses_by program ds (const_sense program ds count)) None e)
const_sense program ds (suc count) (Some t) e = typed_sense (senses_by program ds (const_sense program ds count)) e (width_in ds t)

abbrev pub unit_senses : Program → List (Declared Entry) → Senses
unit_senses program ds = senses_by program ds (const_sense program ds (suc (length ds)))

-- ---- 39: what depends on itself

-- what a declaration names: a typedef its type, a constant the constants in its expression
abbrev pub named_by : Option Entry → List (List ℕ)
named_by (Some (IsTypedef t)) = elim t.form [ OfBits width ↦ [] | OfName name ↦ name ∷ [] ]
named_by (Some (Const t e)) = map (λ i. i.name) (expr_names values_alone e)
named_by _ = []

-- some of these names leads to a name, in n steps at most
abbrev pub reaches : ℕ → List (Declared Entry) → List ℕ → List (List ℕ) → Bool
reaches zero ds name from = false
reaches (suc count) ds name from = list_any (λ n. bytes_eq n name || reaches count ds name (named_by (entry_of n ds))) from

abbrev pub depends_on_itself : List (Declared Entry) → Declared Entry → Bool
depends_on_itself ds d = reaches (length ds) ds d.name.name (named_by (Some d.as_what))

-- ---- a procedure, whose names hide those of the unit, also where they stand as types

pub record Scope : Type 0 where
  pub own : List (Declared Local)
  pub outer : Senses

-- the names that are not hidden
abbrev pub types : Scope → Senses
types s name = elim (found name s.own) [ Some l ↦ None | None ↦ s.outer name ]

abbrev pub local_sense : Scope → List ℕ → Local → Sense
local_sense s name (IsVariable t) = Variable (number_in is_variable name s.own) (if_ok (type_width (types s) t))
local_sense s name Room = Stackdata (number_in is_room name s.own)
local_sense s name Label = CodeLabel
local_sense s name IsContinuation = Continuation (number_in is_continuation name s.own)

abbrev pub senses : Scope → Senses
senses s name = elim (found name s.own) [ Some l ↦ Some (local_sense s name l) | None ↦ s.outer name ]
