-- The names and kinds that stand in a unit, each with its token: none has more than 255 bytes.
use Rattle.std.specs.Prelude.{nat_le, List, [], ◌∷◌, ◌++◌, map, flat_map, length, Option, Some, None}
use Rattle.cmm_ast.specs.declared.token.Ident.{Ident}
use Rattle.cmm_ast.specs.declared.token.Text.{Text}
use Rattle.cmm_ast.specs.declared.expression.Expr.{Expr}
use Rattle.cmm_ast.specs.declared.declaration.Export.{Export as ExportTree}
use Rattle.cmm_ast.specs.declared.declaration.DeclForm.{DeclForm}
use Rattle.cmm_ast.specs.declared.declaration.DeclForm.TheVariants as decls
use Rattle.cmm_ast.specs.declared.procedure.Proc.{Proc}
use Rattle.cmm_ast.specs.declared.procedure.Formal.{Formal}
use Rattle.cmm_ast.specs.declared.procedure.Modifiers.{Modifiers}
use Rattle.cmm_ast.specs.declared.procedure.Modifiers.TheVariants as modifiers
use Rattle.cmm_ast.specs.declared.procedure.LocalForm.{LocalForm}
use Rattle.cmm_ast.specs.declared.procedure.LocalForm.TheVariants as locals
use Rattle.cmm_ast.specs.declared.procedure.Room.{Room}
use Rattle.cmm_ast.specs.declared.procedure.RoomForm.TheVariants as rooms
use Rattle.cmm_ast.specs.declared.statement.Actual.{Actual}
use Rattle.cmm_ast.specs.declared.statement.Callee.{Callee}
use Rattle.cmm_ast.specs.declared.statement.CalleeForm.TheVariants as callees
use Rattle.cmm_ast.specs.declared.statement.Exit.{Exit}
use Rattle.cmm_ast.specs.declared.statement.Kinded.{Kinded}
use Rattle.cmm_ast.specs.declared.statement.Lvalue.{Lvalue}
use Rattle.cmm_ast.specs.declared.statement.Lvalue.TheVariants as lvalues
use Rattle.cmm_ast.specs.declared.statement.Case.TheVariants.{Ranges, Default}
use Rattle.cmm_ast.specs.declared.statement.Range.{Range}
use Rattle.cmm_ast.specs.declared.statement.Span.{Span}
use Rattle.cmm_ast.specs.declared.statement.Part.{Part}
use Rattle.cmm_ast.specs.declared.statement.Part.TheVariants as parts
use Rattle.cmm_ast.specs.declared.statement.StmtForm.{StmtForm}
use Rattle.cmm_ast.specs.declared.statement.StmtForm.TheVariants as stmts
use Rattle.cmm_ast.specs.declared.unit.Item.{Item}
use Rattle.cmm_ast.specs.declared.unit.Item.TheVariants as items
use Rattle.cmm_ast.specs.declared.unit.DatumForm.{DatumForm}
use Rattle.cmm_ast.specs.declared.unit.DatumForm.TheVariants as data_forms
use Rattle.cmm_ast.specs.declared.unit.Count.{Count}
use Rattle.cmm_ast.specs.declared.unit.Count.TheVariants as counts
use Rattle.cmm_ast.specs.declared.unit.Initial.{Initial}
use Rattle.cmm_ast.specs.declared.unit.Initial.TheVariants as initials
use Rattle.cmm_rules.specs.declared.rule.Rule.TheVariants.{Limit}
use Rattle.cmm_static_semantics.specs.declared.spot.Spot.{Spot}
use Rattle.cmm_static_semantics.specs.Spots.{unless}
use Rattle.cmm_static_semantics.specs.Mentions.{ident, listed, expr_names, primary_names, memory_names, type_names, all_names}
use Rattle.cmm_static_semantics.specs.Items.{Within, parts_of}
use Rattle.cmm_static_semantics.specs.Switches.{Head, heads}
use Rattle.cmm_static_semantics.specs.Calls.{flow_names}
use Rattle.cmm_program.specs.Limits.{name_limit}

-- 40: a name or a kind has more than 255 bytes
abbrev pub long_spots : Ident → List Spot
long_spots i = unless (nat_le (length i.name) name_limit) Limit i.token

abbrev pub of_text : Text → Ident
of_text t = ident t.bytes t.token

abbrev pub of_expr : Expr → List Ident
of_expr e = expr_names all_names e

-- ---- statements

abbrev pub of_kinded : Kinded → List Ident
of_kinded k = map of_text (listed k.kind) ++ k.name ∷ []

abbrev pub of_actual : Actual → List Ident
of_actual a = map of_text (listed a.kind) ++ of_expr a.value

abbrev pub of_callee : Callee → List Ident
of_callee c = elim c.form [ callees.Name i ↦ i ∷ [] | callees.Memory m ↦ memory_names all_names m | callees.Bracketed e ↦ of_expr e ]

abbrev pub of_lvalue : Lvalue → List Ident
of_lvalue (lvalues.Name i) = i ∷ []
of_lvalue (lvalues.Memory m) = memory_names all_names m

abbrev pub of_range : Range → List Ident
of_range r = of_expr r.from ++ flat_map of_expr (listed r.to)

abbrev pub of_head : Head → List Ident
of_head h = elim h.case_ [ Ranges rs ↦ flat_map of_range rs | Default ↦ [] ]

abbrev pub of_span : Span → List Ident
of_span s = of_expr s.from ++ of_expr s.to

abbrev pub of_exit : Exit → List Ident
of_exit x = primary_names all_names x.index ++ primary_names all_names x.count

abbrev pub of_passed : Option (List Actual) → List Ident
of_passed (Some values) = flat_map of_actual values
of_passed None = []

abbrev pub of_stmt : StmtForm → List Ident
of_stmt stmts.Empty = []
of_stmt (stmts.If' condition _ body otherwise) = of_expr condition
of_stmt (stmts.Switch' range value _ arms) = flat_map of_span (listed range) ++ of_expr value ++ flat_map of_head (heads arms)
of_stmt (stmts.Span' key value _ body) = primary_names all_names key ++ of_expr value
of_stmt (stmts.Assign to values) = flat_map of_lvalue to ++ flat_map of_expr values
of_stmt (stmts.Checked result operator left right flows) = result ∷ of_expr left ++ of_expr right ++ flat_map flow_names flows
of_stmt (stmts.Call results convention callee actuals flows) =
    flat_map of_kinded results ++ of_callee callee ++ flat_map of_actual actuals ++ flat_map flow_names flows
of_stmt (stmts.Jump callee actuals) = of_callee callee ++ flat_map of_actual actuals
of_stmt (stmts.Return exit values) = flat_map of_exit (listed exit) ++ of_passed values
of_stmt (stmts.Label name) = name ∷ []
of_stmt (stmts.Continuation name parameters) = name ∷ flat_map of_kinded parameters
of_stmt (stmts.Goto name) = name ∷ []
of_stmt (stmts.Cut callee actuals flows) = of_callee callee ++ flat_map of_actual actuals ++ flat_map flow_names flows

-- ---- procedures

abbrev pub of_modifiers : Modifiers → List Ident
of_modifiers (modifiers.Kind kind) = of_text kind ∷ []
of_modifiers (modifiers.KindInvariant kind) = of_text kind ∷ []
of_modifiers (modifiers.InvariantKind token kind) = of_text kind ∷ []
of_modifiers _ = []

abbrev pub of_formal : Formal → List Ident
of_formal f = of_modifiers f.modifiers ++ type_names f.width ++ f.name ∷ []

abbrev pub of_room : Room → List Ident
of_room r = elim r.form [ rooms.Label name ↦ name ∷ [] | rooms.Align k ↦ [] | rooms.Data width count ↦ type_names width ++ flat_map of_expr (listed count) ]

abbrev pub of_local : LocalForm → List Ident
of_local (locals.Variables before width names) = of_modifiers before ++ type_names width ++ names
of_local (locals.Stackdata rooms) = flat_map of_room rooms

abbrev pub of_part : Part → List Ident
of_part (parts.Local l) = of_local l.form
of_part (parts.Stmt' first past form) = of_stmt form

abbrev pub of_proc : Proc → List Ident
of_proc p = p.name ∷ flat_map of_formal p.formals ++ flat_map of_part (parts_of p.body)

-- ---- units. The text after `as` of an import and the name of a section have no limit.

abbrev pub of_export : ExportTree → List Ident
of_export e = e.name ∷ map of_text (listed e.link)

abbrev pub of_decl : DeclForm → List Ident
of_decl (decls.Import width imports) = flat_map type_names (listed width) ++ map (λ i. i.name) imports
of_decl (decls.Export width exports) = flat_map type_names (listed width) ++ flat_map of_export exports
of_decl (decls.Const width name value) = flat_map type_names (listed width) ++ name ∷ of_expr value
of_decl (decls.Typedef width names) = type_names width ++ names
of_decl (decls.Register invariant kind width names) = map of_text (listed kind) ++ type_names width ++ names
of_decl (decls.Target properties) = []

abbrev pub of_count : Count → List Ident
of_count (counts.Of e) = of_expr e
of_count _ = []

abbrev pub of_initial : Initial → List Ident
of_initial (initials.Values values) = flat_map of_expr values
of_initial _ = []

abbrev pub of_datum : DatumForm → List Ident
of_datum (data_forms.Label name) = name ∷ []
of_datum (data_forms.Align k) = []
of_datum (data_forms.Data width count initial) = type_names width ++ of_count count ++ of_initial initial

abbrev pub of_item : Item → List Ident
of_item (items.Decl d) = of_decl d.form
of_item (items.Proc p) = of_proc p
of_item (items.Datum d) = of_datum d.form
of_item (items.Span' first key value _ inside) = primary_names all_names key ++ of_expr value

abbrev pub names_in : List (Within Item) → List Ident
names_in is = flat_map (λ i. of_item i.what) is
