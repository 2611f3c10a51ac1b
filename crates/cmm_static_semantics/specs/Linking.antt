-- What units export and import, and the registers that they share (C-- Language Specification 2.0, imports and exports, global registers).
use Rattle.std.specs.Prelude.{ℕ, Bool, true, false, ◌&&◌, ◌||◌, not, List, [], ◌∷◌, ◌++◌, map, flat_map, position, unwrap_or, bytes_eq, codes, Option, Some, None}
use Rattle.std.specs.Cmp.Lexicographic.{slice_cmp}
use Rattle.std.specs.Ordering.{nat_cmp}
use Rattle.std.specs.declared.cmp.Ordering.TheVariants.{Less, Equal, Greater}
use Rattle.cmm_words.specs.declared.constant.Constant.{Constant}
use Rattle.cmm_words.specs.declared.constant.Constant.TheVariants.{Code, Address}
use Rattle.cmm_ast.specs.declared.expression.TypeName.{TypeName}
use Rattle.cmm_ast.specs.declared.declaration.DeclForm.{DeclForm}
use Rattle.cmm_ast.specs.declared.declaration.DeclForm.TheVariants as decls
use Rattle.cmm_ast.specs.declared.declaration.Export.{Export}
use Rattle.cmm_ast.specs.declared.unit.Item.{Item}
use Rattle.cmm_ast.specs.declared.unit.Item.TheVariants as items
use Rattle.cmm_rules.specs.declared.rule.Rule.TheVariants.{Undeclared, NotExported, ExportedTwice}
use Rattle.cmm_static_semantics.specs.declared.spot.Spot.{Spot}
use Rattle.cmm_static_semantics.specs.declared.sense.Sense.{Sense}
use Rattle.cmm_static_semantics.specs.declared.sense.Sense.TheVariants.{Value, Host}
use Rattle.cmm_static_semantics.specs.Spots.{unless}
use Rattle.cmm_static_semantics.specs.Senses.{is_there, is_host, host_named}
use Rattle.cmm_static_semantics.specs.Declarations.{Declared, Entry, Register, Import, DataLabel, Procedure, NamedUnit, entry_of, firsts, link_name}

abbrev pub is_among : List ℕ → List (List ℕ) → Bool
is_among name [] = false
is_among name (n ∷ ns) = bytes_eq name n || is_among name ns

-- ---- exports

abbrev pub decl_exports : DeclForm → List Export
decl_exports (decls.Export width exports) = exports
decl_exports _ = []

abbrev pub item_exports : Item → List Export
item_exports (items.Decl d) = decl_exports d.form
item_exports _ = []

abbrev pub exports_of : NamedUnit → List Export
exports_of u = flat_map (λ i. item_exports i.what) u.items

abbrev pub export_link : Export → List ℕ
export_link e = link_name e.link e.name

abbrev pub export_links : NamedUnit → List (List ℕ)
export_links u = map export_link (exports_of u)

-- the address of what can be exported
abbrev pub address_of : Option Entry → Option Constant
address_of (Some (Procedure number p)) = Some (Code number 0)
address_of (Some (DataLabel number)) = Some (Address number 0)
address_of _ = None

-- 21: an exported name is no procedure or data label of the unit
abbrev pub export_spots : List (Declared Entry) → Export → List Spot
export_spots ds e = unless (is_there (address_of (entry_of e.name.name ds))) Undeclared e.name.token

-- 35: a link name is exported a second time
abbrev pub twice : List (List ℕ) → List Export → List Spot
twice earlier [] = []
twice earlier (e ∷ es) = unless (not (is_among (export_link e) earlier)) ExportedTwice e.name.token ++ twice (earlier ++ export_link e ∷ []) es

-- ---- imports

-- 34: an import's link name is exported by no unit, and is no name of the host
abbrev pub import_spots : List (List ℕ) → Declared Entry → List Spot
import_spots links d = elim d.as_what [ Import link ↦ unless (is_host link || is_among link links) NotExported d.name.token | _ ↦ [] ]

-- a link name, and the address that stands under it where that is not broken
pub record Published : Type 0 where
  pub link : List ℕ
  pub address : Option Constant

abbrev pub published : NamedUnit → List Published
published u = map (λ e. record { link = export_link e; address = address_of (entry_of e.name.name u.entries) }) (exports_of u)

abbrev pub published_as : List ℕ → List Published → Option Constant
published_as link [] = None
published_as link (p ∷ ps) = elim (bytes_eq link p.link) [ true ↦ p.address | false ↦ published_as link ps ]

-- what is imported is an address, some address where nothing is exported
abbrev pub imported : List ℕ → List Published → Sense
imported link ps = elim (host_named link) [ Some h ↦ Host h | None ↦ Value (unwrap_or (published_as link ps) (Code 0 0)) ]

-- ---- registers: those of one name are one register, and they are numbered by their names

abbrev pub register_entry : Declared Entry → List (Declared TypeName)
register_entry d = elim d.as_what [ Register t ↦ record { name = d.name; as_what = t } ∷ [] | _ ↦ [] ]

abbrev pub registers_of : NamedUnit → List (Declared TypeName)
registers_of u = flat_map register_entry (firsts [] u.entries)

-- a name put among names that ascend by bytes
abbrev pub put_among : List ℕ → List (List ℕ) → List (List ℕ)
put_among name [] = name ∷ []
put_among name (n ∷ ns) = elim (slice_cmp nat_cmp name n) [ Less ↦ name ∷ n ∷ ns | Equal ↦ n ∷ ns | Greater ↦ n ∷ put_among name ns ]

-- each name once, ascending by bytes
abbrev pub in_order : List (List ℕ) → List (List ℕ)
in_order [] = []
in_order (name ∷ names) = put_among name (in_order names)

-- ---- what units know of each other

pub record Program : Type 0 where
  pub exports : List Published
  -- the names of registers, each once, ascending by bytes
  pub registers : List (List ℕ)

abbrev pub register_names : List NamedUnit → List (List ℕ)
register_names us = in_order (flat_map (λ u. map (λ d. d.name.name) (registers_of u)) us)

abbrev pub program_of : List NamedUnit → Program
program_of us = record { exports = flat_map published us; registers = register_names us }

abbrev pub register_number : Program → List ℕ → ℕ
register_number program name = unwrap_or (position (bytes_eq name) program.registers) 0

-- ---- where a program starts

-- 36: some unit exports a procedure without formals as `main`
abbrev pub is_start : Option Entry → Bool
is_start (Some (Procedure number p)) = elim p.formals [ [] ↦ true | _ ∷ _ ↦ false ]
is_start _ = false

abbrev pub starts : List (Declared Entry) → List Export → Bool
starts ds [] = false
starts ds (e ∷ es) = (bytes_eq (export_link e) (codes "main") && is_start (entry_of e.name.name ds)) || starts ds es

abbrev pub has_main : List NamedUnit → Bool
has_main [] = false
has_main (u ∷ us) = starts u.entries (exports_of u) || has_main us
