-- What names are declared as: the first declaration of a name counts (C-- Language Specification 2.0, scope of names).
use Rattle.std.specs.Prelude.{ℕ, suc, ◌+◌, Bool, true, false, ◌||◌, not, List, [], ◌∷◌, ◌++◌, map, flat_map, bytes_eq, Option, Some, None}
use Rattle.cmm_ast.specs.declared.token.Ident.{Ident}
use Rattle.cmm_ast.specs.declared.token.Text.{Text}
use Rattle.cmm_ast.specs.declared.expression.TypeName.{TypeName}
use Rattle.cmm_ast.specs.declared.expression.Expr.{Expr}
use Rattle.cmm_ast.specs.declared.declaration.DeclForm.{DeclForm}
use Rattle.cmm_ast.specs.declared.declaration.DeclForm.TheVariants as decls
use Rattle.cmm_ast.specs.declared.declaration.Import.{Import as ImportTree}
use Rattle.cmm_ast.specs.declared.procedure.Proc.{Proc}
use Rattle.cmm_ast.specs.declared.procedure.Formal.{Formal}
use Rattle.cmm_ast.specs.declared.procedure.LocalForm.{LocalForm}
use Rattle.cmm_ast.specs.declared.procedure.LocalForm.TheVariants as locals
use Rattle.cmm_ast.specs.declared.procedure.Room.{Room as RoomTree}
use Rattle.cmm_ast.specs.declared.procedure.RoomForm.TheVariants as rooms
use Rattle.cmm_ast.specs.declared.statement.Part.{Part}
use Rattle.cmm_ast.specs.declared.statement.Part.TheVariants as parts
use Rattle.cmm_ast.specs.declared.statement.StmtForm.{StmtForm}
use Rattle.cmm_ast.specs.declared.statement.StmtForm.TheVariants as stmts
use Rattle.cmm_ast.specs.declared.unit.Item.{Item}
use Rattle.cmm_ast.specs.declared.unit.Item.TheVariants as items
use Rattle.cmm_ast.specs.declared.unit.DatumForm.{DatumForm}
use Rattle.cmm_ast.specs.declared.unit.DatumForm.TheVariants as data_forms
use Rattle.cmm_ast.specs.declared.unit.Unit.{Unit as UnitTree}
use Rattle.cmm_rules.specs.declared.rule.Rule.TheVariants.{DeclaredTwice}
use Rattle.cmm_static_semantics.specs.declared.spot.Spot.{Spot}
use Rattle.cmm_static_semantics.specs.Spots.{unless}
use Rattle.cmm_static_semantics.specs.Senses.{is_there, is_host}
use Rattle.cmm_static_semantics.specs.Items.{Within, items_of, parts_of}

-- a name where it is declared, and as what
pub record Declared (A : Type 0) : Type 0 where
  pub name : Ident
  pub as_what : A

abbrev pub each_as : {A : Type 0} → A → List Ident → List (Declared A)
each_as a names = map (λ i. record { name = i; as_what = a }) names

-- what a name is first declared as
abbrev pub found : {A : Type 0} → List ℕ → List (Declared A) → Option A
found name [] = None
found name (d ∷ ds) = elim (bytes_eq name d.name.name) [ true ↦ Some d.as_what | false ↦ found name ds ]

-- how many declarations that pass a test stand before the first of a name: its number among those that pass
abbrev pub number_in : {A : Type 0} → (A → Bool) → List ℕ → List (Declared A) → ℕ
number_in test name [] = 0
number_in test name (d ∷ ds) = elim (bytes_eq name d.name.name) [
  | true ↦ 0
  | false ↦ elim (test d.as_what) [ true ↦ suc (number_in test name ds) | false ↦ number_in test name ds ]
]

-- 20: a name is declared again
abbrev pub again : {A : Type 0} → List (Declared A) → List (Declared A) → List Spot
again earlier [] = []
again earlier (d ∷ ds) = unless (not (is_there (found d.name.name earlier))) DeclaredTwice d.name.token ++ again (earlier ++ d ∷ []) ds

-- ---- the names of a unit

pub data Entry : Type 0 where
  Typedef : TypeName → Entry
  Const : Option TypeName → Expr → Entry
  Register : TypeName → Entry
  -- what is exported under this link name
  Import : List ℕ → Entry
  -- a data label, by its number among those of all units
  DataLabel : ℕ → Entry
  -- a procedure, by its number among those of all units
  Procedure : ℕ → Proc → Entry

-- a text in place of a name, where there is one
abbrev pub link_name : Option Text → Ident → List ℕ
link_name (Some t) i = t.bytes
link_name None i = i.name

abbrev pub import_entry : ImportTree → Declared Entry
import_entry i = record { name = i.name; as_what = Import (link_name i.link i.name) }

abbrev pub decl_entries : DeclForm → List (Declared Entry)
decl_entries (decls.Import width imports) = map import_entry imports
decl_entries (decls.Const width name value) = each_as (Const width value) (name ∷ [])
decl_entries (decls.Typedef width names) = each_as (Typedef width) names
decl_entries (decls.Register invariant kind width names) = each_as (Register width) names
decl_entries _ = []

abbrev pub datum_entries : ℕ → DatumForm → List (Declared Entry)
datum_entries labels (data_forms.Label name) = each_as (DataLabel labels) (name ∷ [])
datum_entries labels _ = []

abbrev pub item_entries : ℕ → ℕ → Item → List (Declared Entry)
item_entries procs labels (items.Decl d) = decl_entries d.form
item_entries procs labels (items.Proc p) = each_as (Procedure procs p) (p.name ∷ [])
item_entries procs labels (items.Datum d) = datum_entries labels d.form
item_entries procs labels _ = []

abbrev pub procs_in : Item → ℕ
procs_in (items.Proc p) = 1
procs_in _ = 0

abbrev pub labels_in : Item → ℕ
labels_in (items.Datum d) = elim d.form [ data_forms.Label name ↦ 1 | _ ↦ 0 ]
labels_in _ = 0

-- the names of a unit before which n procedures and data labels stand
abbrev pub entries_from : ℕ → ℕ → List (Within Item) → List (Declared Entry)
entries_from procs labels [] = []
entries_from procs labels (i ∷ is) = item_entries procs labels i.what ++ entries_from (procs + procs_in i.what) (labels + labels_in i.what) is

-- a unit with what stands in it and what its names are declared as
pub record NamedUnit : Type 0 where
  pub tree : UnitTree
  pub items : List (Within Item)
  pub entries : List (Declared Entry)

abbrev pub sum_of : (Item → ℕ) → List (Within Item) → ℕ
sum_of count [] = 0
sum_of count (i ∷ is) = count i.what + sum_of count is

abbrev pub units_from : ℕ → ℕ → List UnitTree → List NamedUnit
units_from procs labels [] = []
units_from procs labels (u ∷ us) = let is = items_of u in
    record { tree = u; items = is; entries = entries_from procs labels is } ∷ units_from (procs + sum_of procs_in is) (labels + sum_of labels_in is) us

abbrev pub named_units : List UnitTree → List NamedUnit
named_units us = units_from 0 0 us

-- a name of the host is none of the unit's own
abbrev pub entry_of : List ℕ → List (Declared Entry) → Option Entry
entry_of name ds = elim (is_host name) [ true ↦ None | false ↦ found name ds ]

abbrev pub is_own_import : Declared Entry → Bool
is_own_import d = elim d.as_what [ Import link ↦ bytes_eq link d.name.name | _ ↦ false ]

-- 20: a name of the host is declared, and not as an import of itself
abbrev pub host_again : Declared Entry → List Spot
host_again d = unless (not (is_host d.name.name) || is_own_import d) DeclaredTwice d.name.token

-- the declarations that count
abbrev pub firsts : List (Declared Entry) → List (Declared Entry) → List (Declared Entry)
firsts earlier [] = []
firsts earlier (d ∷ ds) = elim (is_host d.name.name || is_there (found d.name.name earlier)) [
  | true ↦ firsts earlier ds
  | false ↦ d ∷ firsts (earlier ++ d ∷ []) ds
]

-- ---- the names of a procedure, in its whole body

pub data Local : Type 0 where
  Variable : TypeName → Local
  Room : Local
  Label : Local
  Continuation : Local

abbrev pub formal_name : Formal → Declared Local
formal_name f = record { name = f.name; as_what = Variable f.width }

abbrev pub room_names : RoomTree → List (Declared Local)
room_names r = elim r.form [ rooms.Label name ↦ each_as Room (name ∷ []) | _ ↦ [] ]

abbrev pub local_names : LocalForm → List (Declared Local)
local_names (locals.Variables before width names) = each_as (Variable width) names
local_names (locals.Stackdata rooms) = flat_map room_names rooms

abbrev pub stmt_names : StmtForm → List (Declared Local)
stmt_names (stmts.Label name) = each_as Label (name ∷ [])
stmt_names (stmts.Continuation name parameters) = each_as Continuation (name ∷ [])
stmt_names _ = []

abbrev pub part_names : Part → List (Declared Local)
part_names (parts.Local l) = local_names l.form
part_names (parts.Stmt' first past form) = stmt_names form

-- formals first, then what its body declares, in textual order
abbrev pub own_names : Proc → List (Declared Local)
own_names p = map formal_name p.formals ++ flat_map part_names (parts_of p.body)

abbrev pub is_variable : Local → Bool
is_variable (Variable t) = true
is_variable _ = false

abbrev pub is_room : Local → Bool
is_room Room = true
is_room _ = false

abbrev pub is_label : Local → Bool
is_label Label = true
is_label _ = false

abbrev pub is_continuation : Local → Bool
is_continuation Continuation = true
is_continuation _ = false

-- a name is declared, and as what passes a test
abbrev pub is_declared : {A : Type 0} → (A → Bool) → List ℕ → List (Declared A) → Bool
is_declared test name ds = elim (found name ds) [ Some a ↦ test a | None ↦ false ]
