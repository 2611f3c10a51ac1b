-- Which rules the declarations and the data of a unit break (C-- Language Specification 2.0, compilation units and data sections).
use Rattle.std.specs.Prelude.{ℕ, ◌==◌, Bool, true, false, not, List, [], ◌++◌, flat_map, length, Option, Some, None}
use Rattle.cmm_words.specs.declared.width.Width.{Width}
use Rattle.cmm_words.specs.Widths.{bits}
use Rattle.cmm_ast.specs.declared.expression.Expr.{Expr}
use Rattle.cmm_ast.specs.declared.expression.TypeName.{TypeName}
use Rattle.cmm_ast.specs.declared.declaration.DeclForm.{DeclForm}
use Rattle.cmm_ast.specs.declared.declaration.DeclForm.TheVariants as decls
use Rattle.cmm_ast.specs.declared.declaration.Property.{Property}
use Rattle.cmm_ast.specs.declared.declaration.PropertyForm.{PropertyForm}
use Rattle.cmm_ast.specs.declared.declaration.PropertyForm.TheVariants.{Memsize, Byteorder, Pointersize, Wordsize}
use Rattle.cmm_ast.specs.declared.declaration.ByteOrder.TheVariants.{Little, Big}
use Rattle.cmm_ast.specs.declared.unit.Item.{Item}
use Rattle.cmm_ast.specs.declared.unit.Item.TheVariants as items
use Rattle.cmm_ast.specs.declared.unit.DatumForm.{DatumForm}
use Rattle.cmm_ast.specs.declared.unit.DatumForm.TheVariants as data_forms
use Rattle.cmm_ast.specs.declared.unit.Count.{Count}
use Rattle.cmm_ast.specs.declared.unit.Count.TheVariants as counts
use Rattle.cmm_ast.specs.declared.unit.Initial.{Initial}
use Rattle.cmm_ast.specs.declared.unit.Initial.TheVariants as initials
use Rattle.cmm_rules.specs.declared.rule.Rule.TheVariants.{WidthsDiffer, CountsDiffer, OtherTarget, Cycle}
use Rattle.cmm_static_semantics.specs.declared.spot.Spot.{Spot}
use Rattle.cmm_static_semantics.specs.Spots.{unless}
use Rattle.cmm_static_semantics.specs.Senses.{Senses}
use Rattle.cmm_static_semantics.specs.Judging.{if_ok}
use Rattle.cmm_static_semantics.specs.Typing.{type_width, of_primary}
use Rattle.cmm_static_semantics.specs.Constants.{number_of}
use Rattle.cmm_static_semantics.specs.Declarations.{Declared, Entry, Typedef, Const, Register, found}
use Rattle.cmm_static_semantics.specs.Scopes.{width_in, depends_on_itself}
use Rattle.cmm_static_semantics.specs.Expressions.{alignment_spots, number_spots, number_alone_spots, constant_spots, constant_alone_spots, type_spots}

-- 23: a type is of this width, unless it is broken
abbrev pub width_spots : ℕ → ℕ → Option Width → List Spot
width_spots wanted token (Some width) = unless (bits width == wanted) WidthsDiffer token
width_spots wanted token None = []

-- ---- declarations

-- 23: the type of an import or export is bits64
abbrev pub link_type_spots : Senses → Option TypeName → List Spot
link_type_spots names None = []
link_type_spots names (Some t) = type_spots names t ++ width_spots 64 t.token (if_ok (type_width names t))

-- 37: a property of another machine
abbrev pub is_of_target : PropertyForm → Bool
is_of_target (Memsize n) = n.value == 8
is_of_target (Byteorder Little) = true
is_of_target (Byteorder Big) = false
is_of_target (Pointersize n) = n.value == 64
is_of_target (Wordsize n) = n.value == 64

abbrev pub property_spots : Property → List Spot
property_spots p = unless (is_of_target p.form) OtherTarget p.token

abbrev pub target_decl_spots : Item → List Spot
target_decl_spots (items.Decl d) = elim d.form [ decls.Target ps ↦ flat_map property_spots ps | _ ↦ [] ]
target_decl_spots _ = []

abbrev pub decl_spots : Senses → DeclForm → List Spot
decl_spots names (decls.Import width imports) = link_type_spots names width
decl_spots names (decls.Export width exports) = link_type_spots names width
decl_spots names _ = []

-- a constant has the width of its type
abbrev pub const_spots : Senses → Option TypeName → Expr → List Spot
const_spots names None e = number_alone_spots names None e
const_spots names (Some t) e = type_spots names t ++ number_alone_spots names (if_ok (type_width names t)) e

-- 39: a typedef or constant depends on itself
abbrev pub cycle_spots : List (Declared Entry) → Declared Entry → List Spot
cycle_spots ds d = unless (not (depends_on_itself ds d)) Cycle d.name.token

abbrev pub entry_spots : Senses → List (Declared Entry) → Declared Entry → List Spot
entry_spots names ds d = elim d.as_what [
  | Typedef t ↦ type_spots names t ++ cycle_spots ds d
  | Const t e ↦ const_spots names t e ++ cycle_spots ds d
  | Register t ↦ type_spots names t
  | _ ↦ []
]

-- 23: a register has one width in all units, that of its first declaration
abbrev pub register_spots : List (Declared (Option Width)) → List (Declared Entry) → Declared TypeName → List Spot
register_spots earlier ds d = elim (found d.name.name earlier) [
  | Some width ↦ elim width [ Some w ↦ width_spots (bits w) d.as_what.token (width_in ds d.as_what) | None ↦ [] ]
  | None ↦ []
]

-- ---- data

abbrev pub count_spots : Senses → Count → List Spot
count_spots names (counts.Of e) = number_spots names e
count_spots names _ = []

-- 23: a text is of bits8
abbrev pub initial_spots : Senses → TypeName → Initial → List Spot
initial_spots names t initials.Zeros = []
initial_spots names t (initials.Values values) = flat_map (constant_alone_spots names (if_ok (type_width names t))) values
initial_spots names t (initials.Text text) = width_spots 8 t.token (if_ok (type_width names t))

-- how many values something begins with, if it says
abbrev pub initial_count : Initial → Option ℕ
initial_count initials.Zeros = None
initial_count (initials.Values values) = Some (length values)
initial_count (initials.Text text) = Some (length text.bytes)

abbrev pub is_count : Option ℕ → Option ℕ → Bool
is_count (Some size) (Some count) = size == count
is_count _ _ = true

-- 28: a datum with a size has as many values, if any; and one whose size is left out has some
abbrev pub counts_agree : Senses → Count → Initial → Bool
counts_agree names counts.One i = true
counts_agree names counts.OfInitial i = elim (initial_count i) [ Some count ↦ true | None ↦ false ]
counts_agree names (counts.Of e) i = is_count (if_ok (number_of names e)) (initial_count i)

abbrev pub datum_spots : Senses → ℕ → DatumForm → List Spot
datum_spots names token (data_forms.Label name) = []
datum_spots names token (data_forms.Align k) = alignment_spots k
datum_spots names token (data_forms.Data width count initial) =
    type_spots names width ++ count_spots names count ++ initial_spots names width initial ++ unless (counts_agree names count initial) CountsDiffer token

-- of what stands in a unit, its procedures and the names that it declares left out
abbrev pub item_spots : Senses → Item → List Spot
item_spots names (items.Decl d) = decl_spots names d.form
item_spots names (items.Datum d) = datum_spots names d.token d.form
item_spots names (items.Span' first key value _ inside) = number_spots names (of_primary key) ++ constant_spots names value
item_spots names (items.Proc p) = []
