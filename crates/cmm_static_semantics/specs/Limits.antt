-- The limits on a procedure, and those on sums over all units.
use Rattle.std.specs.Prelude.{ℕ, suc, ◌+◌, ◌-◌, ◌*◌, ◌==◌, ◌&&◌, ◌||◌, nat_le, Bool, true, false, List, [], ◌∷◌, ◌++◌, map, flat_map, filter, length, unwrap_or, Some, None}
use Rattle.cmm_words.specs.Widths.{bytes}
use Rattle.cmm_ast.specs.declared.expression.TypeName.{TypeName}
use Rattle.cmm_ast.specs.declared.expression.Expr.{Expr}
use Rattle.cmm_ast.specs.declared.procedure.Proc.{Proc}
use Rattle.cmm_ast.specs.declared.procedure.LocalForm.TheVariants as locals
use Rattle.cmm_ast.specs.declared.procedure.Room.{Room}
use Rattle.cmm_ast.specs.declared.procedure.RoomForm.TheVariants as rooms
use Rattle.cmm_ast.specs.declared.statement.Part.{Part}
use Rattle.cmm_ast.specs.declared.statement.Part.TheVariants as parts
use Rattle.cmm_ast.specs.declared.statement.StmtForm.{StmtForm}
use Rattle.cmm_ast.specs.declared.statement.StmtForm.TheVariants as stmts
use Rattle.cmm_ast.specs.declared.unit.Item.{Item}
use Rattle.cmm_ast.specs.declared.unit.Item.TheVariants as items
use Rattle.cmm_ast.specs.declared.unit.DatumForm.{DatumForm}
use Rattle.cmm_ast.specs.declared.unit.DatumForm.TheVariants as data_forms
use Rattle.cmm_ast.specs.declared.unit.Count.{Count}
use Rattle.cmm_ast.specs.declared.unit.Count.TheVariants as counts
use Rattle.cmm_ast.specs.declared.unit.Initial.{Initial}
use Rattle.cmm_program.specs.Layout.{Piece, end_of}
use Rattle.cmm_program.specs.Typing.{is_alignment}
use Rattle.cmm_program.specs.Limits.{data_limit, procedure_limit, procedure_token_limit, register_limit, site_span_limit, site_variable_limit, stackdata_limit, token_limit, unit_limit, variable_limit}
use Rattle.cmm_rules.specs.declared.rule.Rule.TheVariants.{Limit}
use Rattle.cmm_static_semantics.specs.declared.spot.Spot.{Spot}
use Rattle.cmm_static_semantics.specs.Spots.{unless}
use Rattle.cmm_static_semantics.specs.Senses.{Senses}
use Rattle.cmm_static_semantics.specs.Judging.{if_ok}
use Rattle.cmm_static_semantics.specs.Typing.{type_width, of_primary}
use Rattle.cmm_static_semantics.specs.Constants.{number_of}
use Rattle.cmm_static_semantics.specs.Declarations.{Declared, Local, NamedUnit, own_names, is_variable, procs_in, sum_of}
use Rattle.cmm_static_semantics.specs.Items.{Within, SpanTree, parts_in, parts_of}
use Rattle.cmm_static_semantics.specs.Linking.{Program, register_names}
use Rattle.cmm_static_semantics.specs.Scopes.{Scope, senses, types, unit_senses}
use Rattle.cmm_static_semantics.specs.Expressions.{past_limit}
use Rattle.cmm_static_semantics.specs.Statements.{scope_of}
use Rattle.cmm_static_semantics.specs.Units.{initial_count}

-- ---- pieces of data and stackdata. What is broken elsewhere takes no room.

abbrev pub bytes_of : Senses → TypeName → ℕ
bytes_of names t = elim (if_ok (type_width names t)) [ Some width ↦ bytes width | None ↦ 1 ]

abbrev pub number_or_zero : Senses → Expr → ℕ
number_or_zero names e = unwrap_or (if_ok (number_of names e)) 0

abbrev pub piece_of : ℕ → ℕ → Piece
piece_of size count = record { align = size; length = count * size }

abbrev pub align_piece : ℕ → Piece
align_piece k = record { align = elim (is_alignment k) [ true ↦ k | false ↦ 1 ]; length = 0 }

-- ---- a procedure

abbrev pub variables : Proc → List (Declared Local)
variables p = filter (λ d. is_variable d.as_what) (own_names p)

abbrev pub local_rooms : Part → List Room
local_rooms (parts.Local l) = elim l.form [ locals.Stackdata rooms ↦ rooms | _ ↦ [] ]
local_rooms _ = []

abbrev pub room_piece : Scope → Room → Piece
room_piece s r = elim r.form [
  | rooms.Label name ↦ align_piece 1
  | rooms.Align k ↦ align_piece k.value
  | rooms.Data width count ↦ piece_of (bytes_of (types s) width) (elim count [ Some e ↦ number_or_zero (senses s) e | None ↦ 1 ])
]

-- 40: the stackdata of a procedure has more than 64 KiB, at each room that ends past them
abbrev pub room_limits : Scope → ℕ → List Room → List Spot
room_limits s place [] = []
room_limits s place (r ∷ rs) = let end_ = end_of place (room_piece s r ∷ []) in unless (nat_le end_ stackdata_limit) Limit r.token ++ room_limits s end_ rs

-- 40: a procedure has more than 131,072 tokens, from its name to its closing brace, at the one after them; or more than 1,024 variables, or
-- too much stackdata
abbrev pub proc_limits : Senses → Proc → List Spot
proc_limits outer p = unless (nat_le (p.past - p.name.token) procedure_token_limit) Limit (p.name.token + procedure_token_limit) ++ past_limit Limit variable_limit (λ d. d.name.token) (variables p) ++ room_limits (scope_of outer p) 0 (flat_map local_rooms (parts_of p.body))

-- ---- call sites, and the spans in force at them

-- a call that is not foreign, or a checked operator
abbrev pub is_site : StmtForm → Bool
is_site (stmts.Call results None callee actuals flows) = true
is_site (stmts.Checked result operator left right flows) = true
is_site _ = false

abbrev pub sites_of : Part → ℕ
sites_of (parts.Local l) = 0
sites_of (parts.Stmt' first past form) = elim (is_site form) [ true ↦ 1 | false ↦ 0 ]

abbrev pub site_count : List Part → ℕ
site_count [] = 0
site_count (p ∷ ps) = sites_of p + site_count ps

-- how many different numbers there are
abbrev pub is_in : ℕ → List ℕ → Bool
is_in n [] = false
is_in n (m ∷ ms) = (n == m) || is_in n ms

abbrev pub different : List ℕ → ℕ
different [] = 0
different (n ∷ ns) = elim (is_in n ns) [ true ↦ different ns | false ↦ suc (different ns) ]

abbrev pub tokens_of : Senses → List SpanTree → List ℕ
tokens_of names spans = map (λ s. number_or_zero names (of_primary s.key)) spans

-- the different tokens in force at each site, added up
abbrev pub site_tokens : Scope → List ℕ → List (Within Part) → ℕ
site_tokens s around [] = 0
site_tokens s around (p ∷ ps) = sites_of p.what * different (tokens_of (senses s) p.spans ++ around) + site_tokens s around ps

-- ---- sums over all units

-- a number for each unit, from what its names mean, added up
abbrev pub over_units : Program → (Senses → NamedUnit → ℕ) → List NamedUnit → ℕ
over_units program count [] = 0
over_units program count (u ∷ us) = count (unit_senses program u.entries) u + over_units program count us

abbrev pub over_procs : (List SpanTree → Proc → ℕ) → List (Within Item) → ℕ
over_procs count [] = 0
over_procs count (i ∷ is) = elim i.what [ items.Proc p ↦ count i.spans p | _ ↦ 0 ] + over_procs count is

-- its tokens; the last place is the end of the unit
abbrev pub token_count : Senses → NamedUnit → ℕ
token_count names u = length u.tree.places - 1

abbrev pub proc_count : Senses → NamedUnit → ℕ
proc_count names u = sum_of procs_in u.items

-- for each site the variables of its procedure
abbrev pub site_variables : Senses → NamedUnit → ℕ
site_variables names u = over_procs (λ spans p. site_count (parts_of p.body) * length (variables p)) u.items

-- for each site the tokens that have a span there
abbrev pub site_spans : Senses → NamedUnit → ℕ
site_spans names u = over_procs (λ spans p. site_tokens (scope_of names p) (tokens_of names spans) (parts_in [] p.body)) u.items

abbrev pub data_count : Senses → Count → Initial → ℕ
data_count names counts.One i = unwrap_or (initial_count i) 1
data_count names counts.OfInitial i = unwrap_or (initial_count i) 0
data_count names (counts.Of e) i = number_or_zero names e

abbrev pub datum_pieces : Senses → DatumForm → List Piece
datum_pieces names (data_forms.Label name) = []
datum_pieces names (data_forms.Align k) = align_piece k.value ∷ []
datum_pieces names (data_forms.Data width count initial) = piece_of (bytes_of names width) (data_count names count initial) ∷ []

abbrev pub item_pieces : Senses → Item → List Piece
item_pieces names (items.Datum d) = datum_pieces names d.form
item_pieces names _ = []

-- the data of all units, one after another
abbrev pub data_pieces : Program → List NamedUnit → List Piece
data_pieces program [] = []
data_pieces program (u ∷ us) = flat_map (λ i. item_pieces (unit_senses program u.entries) i.what) u.items ++ data_pieces program us

-- 40, for all units: 256 units, 1,000,000 tokens, 65,535 procedures, 64 MiB of data with its padding, 256 registers, 8,000,000 variables
-- and 1,000,000 tokens of spans over all sites
abbrev pub sums_are_within : Program → List NamedUnit → Bool
sums_are_within program us =
    nat_le (length us) unit_limit && nat_le (over_units program token_count us) token_limit && nat_le (over_units program proc_count us) procedure_limit
    && nat_le (end_of 0 (data_pieces program us)) data_limit && nat_le (length (register_names us)) register_limit
    && nat_le (over_units program site_variables us) site_variable_limit && nat_le (over_units program site_spans us) site_span_limit
