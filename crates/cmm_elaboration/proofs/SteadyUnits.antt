-- Statements, procedures and what stands in a unit take tokens from the front, as many as they count.
use Rattle.std.proofs.Common.{◌≡◌, Bool, true, false, List, [], ◌∷◌, Some, None}
use Rattle.cmm_lexer.specs.declared.keyword.Keyword.{Keyword}
use Rattle.cmm_lexer.specs.declared.keyword.Keyword.TheVariants.{Aborts, Align, Also, As, Big, Byteorder, Const, Cut, Cuts, Default as DefaultWord, Else, Export as ExportWord, Foreign, Goto, If, Import as ImportWord, Invariant, Jump, Little, Memsize, Never, Pointersize, Register, Return, Returns, Section as SectionWord, Span as SpanWord, Stackdata, Switch, Target, To, Typedef, Unwinds, Wordsize}
use Rattle.cmm_lexer.specs.declared.keyword.Keyword.TheVariants as word
use Rattle.cmm_lexer.specs.declared.symbol.Symbol.TheVariants as sign
use Rattle.cmm_ast.specs.declared.token.Ident.{Ident}
use Rattle.cmm_ast.specs.declared.declaration.ByteOrder.{ByteOrder}
use Rattle.cmm_ast.specs.declared.declaration.ByteOrder.TheVariants as orders
use Rattle.cmm_ast.specs.declared.declaration.Decl.{Decl}
use Rattle.cmm_ast.specs.declared.declaration.DeclForm.{DeclForm}
use Rattle.cmm_ast.specs.declared.declaration.DeclForm.TheVariants as decls
use Rattle.cmm_ast.specs.declared.declaration.Export.{Export}
use Rattle.cmm_ast.specs.declared.declaration.Import.{Import}
use Rattle.cmm_ast.specs.declared.declaration.PropertyForm.{PropertyForm}
use Rattle.cmm_ast.specs.declared.declaration.PropertyForm.TheVariants as properties
use Rattle.cmm_ast.specs.declared.procedure.Formal.{Formal}
use Rattle.cmm_ast.specs.declared.procedure.LocalForm.{LocalForm}
use Rattle.cmm_ast.specs.declared.procedure.LocalForm.TheVariants as locals
use Rattle.cmm_ast.specs.declared.procedure.Modifiers.{Modifiers}
use Rattle.cmm_ast.specs.declared.procedure.Modifiers.TheVariants.{Nothing, Kind, KindInvariant, Invariant as Unchanged, InvariantKind}
use Rattle.cmm_ast.specs.declared.procedure.Proc.{Proc}
use Rattle.cmm_ast.specs.declared.procedure.RoomForm.{RoomForm}
use Rattle.cmm_ast.specs.declared.procedure.RoomForm.TheVariants as rooms
use Rattle.cmm_ast.specs.declared.statement.Actual.{Actual}
use Rattle.cmm_ast.specs.declared.statement.Block.{Row_of-Part, end_of-Part, more_of-Part}
use Rattle.cmm_ast.specs.declared.statement.Callee.{Callee}
use Rattle.cmm_ast.specs.declared.statement.CalleeForm.{CalleeForm}
use Rattle.cmm_ast.specs.declared.statement.CalleeForm.TheVariants as callees
use Rattle.cmm_ast.specs.declared.statement.Case.{Case}
use Rattle.cmm_ast.specs.declared.statement.Case.TheVariants as cases
use Rattle.cmm_ast.specs.declared.statement.Exit.{Exit}
use Rattle.cmm_ast.specs.declared.statement.Flow.{Flow}
use Rattle.cmm_ast.specs.declared.statement.FlowForm.{FlowForm}
use Rattle.cmm_ast.specs.declared.statement.FlowForm.TheVariants as flows
use Rattle.cmm_ast.specs.declared.statement.Kinded.{Kinded}
use Rattle.cmm_ast.specs.declared.statement.Lvalue.{Lvalue}
use Rattle.cmm_ast.specs.declared.statement.Lvalue.TheVariants as lvalues
use Rattle.cmm_ast.specs.declared.statement.Otherwise.{Otherwise, more_of-Stmt}
use Rattle.cmm_ast.specs.declared.statement.Otherwise.TheVariants.{Nothing as NoElse, Else as ElseBlock, Else', ElseIf'}
use Rattle.cmm_ast.specs.declared.statement.Part.{Part}
use Rattle.cmm_ast.specs.declared.statement.Part.TheVariants as parts
use Rattle.cmm_ast.specs.declared.statement.Range.{Range}
use Rattle.cmm_ast.specs.declared.statement.Span.{Span as SwitchSpan}
use Rattle.cmm_ast.specs.declared.statement.StmtForm.{StmtForm, Row_of-Arm, end_of-Arm, more_of-Arm}
use Rattle.cmm_ast.specs.declared.statement.StmtForm.TheVariants as stmts
use Rattle.cmm_ast.specs.declared.unit.Count.{Count}
use Rattle.cmm_ast.specs.declared.unit.Count.TheVariants as counts
use Rattle.cmm_ast.specs.declared.unit.DatumForm.{DatumForm}
use Rattle.cmm_ast.specs.declared.unit.DatumForm.TheVariants as data_forms
use Rattle.cmm_ast.specs.declared.unit.Initial.{Initial}
use Rattle.cmm_ast.specs.declared.unit.Initial.TheVariants as initials
use Rattle.cmm_ast.specs.declared.unit.Item.{Item, Row_of-Item, end_of-Item, more_of-Item}
use Rattle.cmm_ast.specs.declared.unit.Item.TheVariants as items
use Rattle.cmm_ast.specs.declared.unit.TopLevel.{TopLevel}
use Rattle.cmm_ast.specs.declared.unit.TopLevel.TheVariants as tops
use Rattle.cmm_ast.specs.declared.unit.Unit.{Unit as UnitTree}
use Rattle.cmm_grammar.specs.Taking.{Takes, ◌⨾◌, token, is_checked, keyword, symbol, here, nothing, opening, enclosed, round, square, braces, optional, many, commas, listed, may_list, may_comma}
use Rattle.cmm_grammar.specs.ExpressionGrammar.{ident, text, int, type_name, whole, whole_prim}
use Rattle.cmm_grammar.specs.StatementGrammar.{modifiers, formal, room_form, local_form, kinded, actual, arguments, lvalue, callee_form, callee, names_to, flow_form, annotated, exit, results, range, case, switch_span, checked, stmt_form, otherwise_, chained, part_row, part_, arm_row, inside, block, proc}
use Rattle.cmm_grammar.specs.UnitGrammar.{import_name, export_name, byte_order, property_form, if_invariant, decl_form, decl, count, initial, datum_form, item, item_row, top_level, unit}
use Rattle.cmm_elaboration.proofs.Steady.{IsSteady, steady_then, steady_nothing, steady_token, steady_here, steady_keyword, steady_symbol, steady_opening, steady_enclosed, steady_outermost, steady_round, steady_square, steady_braces, steady_optional, steady_many, steady_commas, steady_comma, steady_listed, steady_list, steady_ident, steady_text, steady_int, steady_type, steady_whole, steady_primary, steady_place}

steady_modifiers : (m : Modifiers) → IsSteady (modifiers m)
steady_modifiers Nothing = steady_nothing
steady_modifiers (Kind kind) = steady_text kind
steady_modifiers (KindInvariant kind) = steady_then (text kind) (keyword Invariant) (steady_text kind) (steady_keyword Invariant)
steady_modifiers (Unchanged first) = steady_then (here first) (keyword Invariant) (steady_here first) (steady_keyword Invariant)
steady_modifiers (InvariantKind first kind) =
    steady_then (here first) (keyword Invariant ⨾ text kind) (steady_here first) (steady_then (keyword Invariant) (text kind) (steady_keyword Invariant) (steady_text kind))

pub steady_formal : (f : Formal) → IsSteady (formal f)
steady_formal f =
    steady_then (modifiers f.modifiers) (type_name f.width ⨾ ident f.name) (steady_modifiers f.modifiers) (steady_then (type_name f.width) (ident f.name) (steady_type f.width) (steady_ident f.name))

-- ends with a symbol
ends : (p : Takes) (x : _) → IsSteady p → IsSteady (p ⨾ symbol x)
ends p x h = steady_then p (symbol x) h (steady_symbol x)

-- begins with a word
begins : (k : Keyword) (p : Takes) → IsSteady p → IsSteady (keyword k ⨾ p)
begins k p h = steady_then (keyword k) p (steady_keyword k) h

steady_room : (form : RoomForm) → IsSteady (room_form form)
steady_room (rooms.Label name) = ends (ident name) sign.Colon (steady_ident name)
steady_room (rooms.Align bytes) = begins Align (int bytes ⨾ symbol sign.Semicolon) (ends (int bytes) sign.Semicolon (steady_int bytes))
steady_room (rooms.Data width count) =
    steady_then (type_name width) (optional (λ e. square (whole e)) count ⨾ symbol sign.Semicolon) (steady_type width)
    (ends (optional (λ e. square (whole e)) count) sign.Semicolon (steady_optional (λ e. square (whole e)) (λ e. steady_square (whole e) (steady_whole e)) count))

pub steady_local : (form : LocalForm) → IsSteady (local_form form)
steady_local (locals.Variables before width names) =
    steady_then (modifiers before) (type_name width ⨾ listed ident names ⨾ symbol sign.Semicolon) (steady_modifiers before)
    (steady_then (type_name width) (listed ident names ⨾ symbol sign.Semicolon) (steady_type width) (ends (listed ident names) sign.Semicolon (steady_listed ident steady_ident names)))
steady_local (locals.Stackdata rs) =
    begins Stackdata (braces (many (λ r. here r.token ⨾ room_form r.form) rs))
    (steady_braces (many (λ r. here r.token ⨾ room_form r.form) rs)
    (steady_many (λ r. here r.token ⨾ room_form r.form) (λ r. steady_then (here r.token) (room_form r.form) (steady_here r.token) (steady_room r.form)) rs))

steady_kinded : (k : Kinded) → IsSteady (kinded k)
steady_kinded k = steady_then (optional text k.kind) (ident k.name) (steady_optional text steady_text k.kind) (steady_ident k.name)

steady_actual : (a : Actual) → IsSteady (actual a)
steady_actual a = steady_then (optional text a.kind) (whole a.value) (steady_optional text steady_text a.kind) (steady_whole a.value)

steady_arguments : (as_ : List Actual) → IsSteady (arguments as_)
steady_arguments as_ = steady_outermost (round (may_list actual as_)) (steady_round (may_list actual as_) (steady_list actual steady_actual as_))

steady_lvalue : (l : Lvalue) → IsSteady (lvalue l)
steady_lvalue (lvalues.Name name) = steady_ident name
steady_lvalue (lvalues.Memory m) = steady_place m

steady_callee_form : (form : CalleeForm) → IsSteady (callee_form form)
steady_callee_form (callees.Name name) = steady_ident name
steady_callee_form (callees.Memory m) = steady_place m
steady_callee_form (callees.Bracketed e) = steady_round (whole e) (steady_whole e)

steady_callee : (c : Callee) → IsSteady (callee c)
steady_callee c = steady_then (here c.token) (callee_form c.form) (steady_here c.token) (steady_callee_form c.form)

steady_names : (verb : Keyword) (names : List Ident) → IsSteady (names_to verb names)
steady_names verb names =
    begins Also (keyword verb ⨾ keyword To ⨾ commas ident names) (begins verb (keyword To ⨾ commas ident names) (begins To (commas ident names) (steady_commas ident steady_ident names)))

steady_flow : (form : FlowForm) → IsSteady (flow_form form)
steady_flow (flows.CutsTo names) = steady_names Cuts names
steady_flow (flows.UnwindsTo names) = steady_names Unwinds names
steady_flow (flows.ReturnsTo names) = steady_names Returns names
steady_flow flows.Aborts = begins Also (keyword Aborts) (steady_keyword Aborts)
steady_flow flows.NeverReturns = begins Never (keyword Returns) (steady_keyword Returns)

steady_annotated : (fs : List Flow) → IsSteady (annotated fs)
steady_annotated fs = steady_many (λ f. here f.token ⨾ flow_form f.form ⨾ may_comma)
    (λ f. steady_then (here f.token) (flow_form f.form ⨾ may_comma) (steady_here f.token) (steady_then (flow_form f.form) may_comma (steady_flow f.form) steady_comma)) fs

steady_exit : (e : Exit) → IsSteady (exit e)
steady_exit e =
    steady_then (here e.token) (symbol sign.Less ⨾ whole_prim e.index ⨾ symbol sign.Slash ⨾ whole_prim e.count ⨾ symbol sign.Greater) (steady_here e.token)
    (steady_then (symbol sign.Less) (whole_prim e.index ⨾ symbol sign.Slash ⨾ whole_prim e.count ⨾ symbol sign.Greater) (steady_symbol sign.Less)
    (steady_then (whole_prim e.index) (symbol sign.Slash ⨾ whole_prim e.count ⨾ symbol sign.Greater) (steady_primary e.index)
    (steady_then (symbol sign.Slash) (whole_prim e.count ⨾ symbol sign.Greater) (steady_symbol sign.Slash) (ends (whole_prim e.count) sign.Greater (steady_primary e.count)))))

steady_results : (ks : List Kinded) → IsSteady (results ks)
steady_results [] = steady_nothing
steady_results (k ∷ ks) = ends (commas kinded (k ∷ ks)) sign.Assign (steady_commas kinded steady_kinded (k ∷ ks))

steady_range : (r : Range) → IsSteady (range r)
steady_range r = steady_then (whole r.from) (optional (λ e. symbol sign.Range ⨾ whole e) r.to) (steady_whole r.from)
    (steady_optional (λ e. symbol sign.Range ⨾ whole e) (λ e. steady_then (symbol sign.Range) (whole e) (steady_symbol sign.Range) (steady_whole e)) r.to)

pub steady_case : (c : Case) → IsSteady (case c)
steady_case (cases.Ranges rs) = begins word.Case (commas range rs ⨾ symbol sign.Colon) (ends (commas range rs) sign.Colon (steady_commas range steady_range rs))
steady_case cases.Default = begins DefaultWord (symbol sign.Colon) (steady_symbol sign.Colon)

pub steady_span : (s : SwitchSpan) → IsSteady (switch_span s)
steady_span s = steady_square (whole s.from ⨾ symbol sign.Range ⨾ whole s.to)
    (steady_then (whole s.from) (symbol sign.Range ⨾ whole s.to) (steady_whole s.from) (steady_then (symbol sign.Range) (whole s.to) (steady_symbol sign.Range) (steady_whole s.to)))

-- ---- statements

mutual
  pub steady_stmt : (form : StmtForm) → IsSteady (stmt_form form)
  steady_stmt stmts.Empty = steady_symbol sign.Semicolon
  steady_stmt (stmts.If' condition _ body otherwise) =
      begins If (whole condition ⨾ braces (part_row body) ⨾ otherwise_ otherwise)
      (steady_then (whole condition) (braces (part_row body) ⨾ otherwise_ otherwise) (steady_whole condition)
      (steady_then (braces (part_row body)) (otherwise_ otherwise) (steady_braces (part_row body) (steady_row _ body)) (steady_otherwise otherwise)))
  steady_stmt (stmts.Switch' over value _ arms) =
      begins Switch (optional switch_span over ⨾ whole value ⨾ braces (arm_row arms))
      (steady_then (optional switch_span over) (whole value ⨾ braces (arm_row arms)) (steady_optional switch_span steady_span over)
      (steady_then (whole value) (braces (arm_row arms)) (steady_whole value) (steady_braces (arm_row arms) (steady_arms _ arms))))
  steady_stmt (stmts.Span' key value _ body) =
      begins SpanWord (whole_prim key ⨾ whole value ⨾ braces (part_row body))
      (steady_then (whole_prim key) (whole value ⨾ braces (part_row body)) (steady_primary key) (steady_then (whole value) (braces (part_row body)) (steady_whole value) (steady_braces (part_row body) (steady_row _ body))))
  steady_stmt (stmts.Assign to values) =
      steady_then (commas lvalue to) (symbol sign.Assign ⨾ listed whole values ⨾ symbol sign.Semicolon) (steady_commas lvalue steady_lvalue to)
      (steady_then (symbol sign.Assign) (listed whole values ⨾ symbol sign.Semicolon) (steady_symbol sign.Assign) (ends (listed whole values) sign.Semicolon (steady_listed whole steady_whole values)))
  steady_stmt (stmts.Checked result op left right annotations) =
      steady_then (ident result) (symbol sign.Assign ⨾ checked op ⨾ round (whole left ⨾ symbol sign.Comma ⨾ whole right) ⨾ annotated annotations ⨾ symbol sign.Semicolon) (steady_ident result)
      (steady_then (symbol sign.Assign) (checked op ⨾ round (whole left ⨾ symbol sign.Comma ⨾ whole right) ⨾ annotated annotations ⨾ symbol sign.Semicolon) (steady_symbol sign.Assign)
      (steady_then (checked op) (round (whole left ⨾ symbol sign.Comma ⨾ whole right) ⨾ annotated annotations ⨾ symbol sign.Semicolon)
      (steady_then (here op.token) (token (is_checked op.name)) (steady_here op.token) (steady_token (is_checked op.name)))
      (steady_then (round (whole left ⨾ symbol sign.Comma ⨾ whole right)) (annotated annotations ⨾ symbol sign.Semicolon)
      (steady_round (whole left ⨾ symbol sign.Comma ⨾ whole right)
      (steady_then (whole left) (symbol sign.Comma ⨾ whole right) (steady_whole left) (steady_then (symbol sign.Comma) (whole right) (steady_symbol sign.Comma) (steady_whole right))))
      (ends (annotated annotations) sign.Semicolon (steady_annotated annotations)))))
  steady_stmt (stmts.Call to convention what actuals annotations) =
      steady_then (results to) (optional (λ t. keyword Foreign ⨾ text t) convention ⨾ callee what ⨾ arguments actuals ⨾ annotated annotations ⨾ symbol sign.Semicolon) (steady_results to)
      (steady_then (optional (λ t. keyword Foreign ⨾ text t) convention) (callee what ⨾ arguments actuals ⨾ annotated annotations ⨾ symbol sign.Semicolon)
      (steady_optional (λ t. keyword Foreign ⨾ text t) (λ t. begins Foreign (text t) (steady_text t)) convention)
      (steady_then (callee what) (arguments actuals ⨾ annotated annotations ⨾ symbol sign.Semicolon) (steady_callee what)
      (steady_then (arguments actuals) (annotated annotations ⨾ symbol sign.Semicolon) (steady_arguments actuals) (ends (annotated annotations) sign.Semicolon (steady_annotated annotations)))))
  steady_stmt (stmts.Jump what actuals) =
      begins Jump (callee what ⨾ arguments actuals ⨾ symbol sign.Semicolon)
      (steady_then (callee what) (arguments actuals ⨾ symbol sign.Semicolon) (steady_callee what) (ends (arguments actuals) sign.Semicolon (steady_arguments actuals)))
  steady_stmt (stmts.Return by values) =
      begins Return (optional exit by ⨾ optional arguments values ⨾ symbol sign.Semicolon)
      (steady_then (optional exit by) (optional arguments values ⨾ symbol sign.Semicolon) (steady_optional exit steady_exit by)
      (ends (optional arguments values) sign.Semicolon (steady_optional arguments steady_arguments values)))
  steady_stmt (stmts.Label name) = ends (ident name) sign.Colon (steady_ident name)
  steady_stmt (stmts.Continuation name parameters) =
      begins word.Continuation (ident name ⨾ round (may_list kinded parameters) ⨾ symbol sign.Colon)
      (steady_then (ident name) (round (may_list kinded parameters) ⨾ symbol sign.Colon) (steady_ident name)
      (ends (round (may_list kinded parameters)) sign.Colon (steady_round (may_list kinded parameters) (steady_list kinded steady_kinded parameters))))
  steady_stmt (stmts.Goto name) = begins Goto (ident name ⨾ symbol sign.Semicolon) (ends (ident name) sign.Semicolon (steady_ident name))
  steady_stmt (stmts.Cut what actuals annotations) =
      begins Cut (keyword To ⨾ callee what ⨾ arguments actuals ⨾ annotated annotations ⨾ symbol sign.Semicolon)
      (begins To (callee what ⨾ arguments actuals ⨾ annotated annotations ⨾ symbol sign.Semicolon)
      (steady_then (callee what) (arguments actuals ⨾ annotated annotations ⨾ symbol sign.Semicolon) (steady_callee what)
      (steady_then (arguments actuals) (annotated annotations ⨾ symbol sign.Semicolon) (steady_arguments actuals) (ends (annotated annotations) sign.Semicolon (steady_annotated annotations)))))

  pub steady_chained : (form : StmtForm) → IsSteady (chained form)
  steady_chained (stmts.If' condition _ body otherwise) =
      steady_then (opening (keyword If)) (whole condition ⨾ braces (part_row body) ⨾ otherwise_ otherwise) (steady_opening (keyword If) (steady_keyword If))
      (steady_then (whole condition) (braces (part_row body) ⨾ otherwise_ otherwise) (steady_whole condition)
      (steady_then (braces (part_row body)) (otherwise_ otherwise) (steady_braces (part_row body) (steady_row _ body)) (steady_otherwise otherwise)))
  steady_chained form = λ r s is. let bad : None ≡ Some s = is in cc

  pub steady_otherwise : (o : Otherwise) → IsSteady (otherwise_ o)
  steady_otherwise NoElse = steady_nothing
  steady_otherwise (Else' _ body) = begins Else (braces (part_row body)) (steady_braces (part_row body) (steady_row _ body))
  steady_otherwise (ElseIf' _ (more_of-Stmt first past form rest)) =
      begins Else (enclosed (here first ⨾ chained form ⨾ here past))
      (steady_enclosed (here first ⨾ chained form ⨾ here past)
      (steady_then (here first) (chained form ⨾ here past) (steady_here first) (steady_then (chained form) (here past) (steady_chained form) (steady_here past))))

  pub steady_part : (p : Part) → IsSteady (part_ p)
  steady_part (parts.Local l) =
      steady_then (here l.token) (local_form l.form ⨾ here l.past) (steady_here l.token) (steady_then (local_form l.form) (here l.past) (steady_local l.form) (steady_here l.past))
  steady_part (parts.Stmt' first past form) =
      steady_then (here first) (stmt_form form ⨾ here past) (steady_here first) (steady_then (stmt_form form) (here past) (steady_stmt form) (steady_here past))

  pub steady_row : (n : _) (row : Row_of-Part n) → IsSteady (part_row row)
  steady_row n end_of-Part = steady_nothing
  steady_row n (more_of-Part {n = m} p rest) = steady_then (part_ p) (part_row rest) (steady_part p) (steady_row m rest)

  pub steady_arms : (n : _) (row : Row_of-Arm n) → IsSteady (arm_row row)
  steady_arms n end_of-Arm = steady_nothing
  steady_arms n (more_of-Arm {n = m} first what _ body rest) =
      steady_then (here first) (case what ⨾ braces (part_row body) ⨾ arm_row rest) (steady_here first)
      (steady_then (case what) (braces (part_row body) ⨾ arm_row rest) (steady_case what)
      (steady_then (braces (part_row body)) (arm_row rest) (steady_braces (part_row body) (steady_row _ body)) (steady_arms m rest)))

-- ---- procedures, declarations and data

pub steady_inside : (o : Otherwise) → IsSteady (inside o)
steady_inside NoElse = λ r s is. let bad : None ≡ Some s = is in cc
steady_inside (Else' _ body) = steady_braces (part_row body) (steady_row _ body)
steady_inside (ElseIf' _ row) = λ r s is. let bad : None ≡ Some s = is in cc

pub steady_proc : (p : Proc) → IsSteady (proc p)
steady_proc p =
    steady_then (ident p.name) (round (may_list formal p.formals) ⨾ block p.body ⨾ here p.past) (steady_ident p.name)
    (steady_then (round (may_list formal p.formals)) (block p.body ⨾ here p.past) (steady_round (may_list formal p.formals) (steady_list formal steady_formal p.formals))
    (steady_then (block p.body) (here p.past) (steady_inside (ElseBlock p.body)) (steady_here p.past)))

steady_import : (i : Import) → IsSteady (import_name i)
steady_import i = steady_then (optional (λ t. text t ⨾ keyword As) i.link) (ident i.name)
    (steady_optional (λ t. text t ⨾ keyword As) (λ t. steady_then (text t) (keyword As) (steady_text t) (steady_keyword As)) i.link) (steady_ident i.name)

steady_export : (e : Export) → IsSteady (export_name e)
steady_export e = steady_then (ident e.name) (optional (λ t. keyword As ⨾ text t) e.link) (steady_ident e.name)
    (steady_optional (λ t. keyword As ⨾ text t) (λ t. begins As (text t) (steady_text t)) e.link)

steady_order : (o : ByteOrder) → IsSteady (byte_order o)
steady_order orders.Little = steady_keyword Little
steady_order orders.Big = steady_keyword Big

steady_property : (f : PropertyForm) → IsSteady (property_form f)
steady_property (properties.Memsize n) = begins Memsize (int n) (steady_int n)
steady_property (properties.Byteorder o) = begins Byteorder (byte_order o) (steady_order o)
steady_property (properties.Pointersize n) = begins Pointersize (int n) (steady_int n)
steady_property (properties.Wordsize n) = begins Wordsize (int n) (steady_int n)

steady_invariant : (b : Bool) → IsSteady (if_invariant b)
steady_invariant true = steady_keyword Invariant
steady_invariant false = steady_nothing

steady_decl_form : (form : DeclForm) → IsSteady (decl_form form)
steady_decl_form (decls.Import width imports) =
    begins ImportWord (optional type_name width ⨾ listed import_name imports ⨾ symbol sign.Semicolon)
    (steady_then (optional type_name width) (listed import_name imports ⨾ symbol sign.Semicolon) (steady_optional type_name steady_type width)
    (ends (listed import_name imports) sign.Semicolon (steady_listed import_name steady_import imports)))
steady_decl_form (decls.Export width exports) =
    begins ExportWord (optional type_name width ⨾ listed export_name exports ⨾ symbol sign.Semicolon)
    (steady_then (optional type_name width) (listed export_name exports ⨾ symbol sign.Semicolon) (steady_optional type_name steady_type width)
    (ends (listed export_name exports) sign.Semicolon (steady_listed export_name steady_export exports)))
steady_decl_form (decls.Const width name value) =
    begins Const (optional type_name width ⨾ ident name ⨾ symbol sign.Assign ⨾ whole value ⨾ symbol sign.Semicolon)
    (steady_then (optional type_name width) (ident name ⨾ symbol sign.Assign ⨾ whole value ⨾ symbol sign.Semicolon) (steady_optional type_name steady_type width)
    (steady_then (ident name) (symbol sign.Assign ⨾ whole value ⨾ symbol sign.Semicolon) (steady_ident name)
    (steady_then (symbol sign.Assign) (whole value ⨾ symbol sign.Semicolon) (steady_symbol sign.Assign) (ends (whole value) sign.Semicolon (steady_whole value)))))
steady_decl_form (decls.Typedef width names) =
    begins Typedef (type_name width ⨾ listed ident names ⨾ symbol sign.Semicolon)
    (steady_then (type_name width) (listed ident names ⨾ symbol sign.Semicolon) (steady_type width) (ends (listed ident names) sign.Semicolon (steady_listed ident steady_ident names)))
steady_decl_form (decls.Register invariant kind width names) =
    steady_then (if_invariant invariant) (keyword Register ⨾ optional text kind ⨾ type_name width ⨾ listed ident names ⨾ symbol sign.Semicolon) (steady_invariant invariant)
    (begins Register (optional text kind ⨾ type_name width ⨾ listed ident names ⨾ symbol sign.Semicolon)
    (steady_then (optional text kind) (type_name width ⨾ listed ident names ⨾ symbol sign.Semicolon) (steady_optional text steady_text kind)
    (steady_then (type_name width) (listed ident names ⨾ symbol sign.Semicolon) (steady_type width) (ends (listed ident names) sign.Semicolon (steady_listed ident steady_ident names)))))
steady_decl_form (decls.Target ps) =
    begins Target (many (λ p. here p.token ⨾ property_form p.form) ps ⨾ symbol sign.Semicolon)
    (ends (many (λ p. here p.token ⨾ property_form p.form) ps) sign.Semicolon
    (steady_many (λ p. here p.token ⨾ property_form p.form) (λ p. steady_then (here p.token) (property_form p.form) (steady_here p.token) (steady_property p.form)) ps))

pub steady_decl : (d : Decl) → IsSteady (decl d)
steady_decl d = steady_then (here d.token) (decl_form d.form) (steady_here d.token) (steady_decl_form d.form)

pub steady_count : (c : Count) → IsSteady (count c)
steady_count counts.One = steady_nothing
steady_count counts.OfInitial = steady_square nothing steady_nothing
steady_count (counts.Of e) = steady_square (whole e) (steady_whole e)

pub steady_initial : (i : Initial) → IsSteady (initial i)
steady_initial initials.Zeros = steady_nothing
steady_initial (initials.Values values) = steady_braces (listed whole values) (steady_listed whole steady_whole values)
steady_initial (initials.Text t) = steady_text t

steady_datum : (form : DatumForm) → IsSteady (datum_form form)
steady_datum (data_forms.Label name) = ends (ident name) sign.Colon (steady_ident name)
steady_datum (data_forms.Align bytes) = begins Align (int bytes ⨾ symbol sign.Semicolon) (ends (int bytes) sign.Semicolon (steady_int bytes))
steady_datum (data_forms.Data width many_ first) =
    steady_then (type_name width) (count many_ ⨾ initial first ⨾ symbol sign.Semicolon) (steady_type width)
    (steady_then (count many_) (initial first ⨾ symbol sign.Semicolon) (steady_count many_) (ends (initial first) sign.Semicolon (steady_initial first)))

mutual
  pub steady_item : (i : Item) → IsSteady (item i)
  steady_item (items.Decl d) = steady_decl d
  steady_item (items.Proc p) = steady_proc p
  steady_item (items.Datum d) = steady_then (here d.token) (datum_form d.form) (steady_here d.token) (steady_datum d.form)
  steady_item (items.Span' first key value _ inner) =
      steady_then (here first) (keyword SpanWord ⨾ whole_prim key ⨾ whole value ⨾ braces (item_row inner)) (steady_here first)
      (begins SpanWord (whole_prim key ⨾ whole value ⨾ braces (item_row inner))
      (steady_then (whole_prim key) (whole value ⨾ braces (item_row inner)) (steady_primary key)
      (steady_then (whole value) (braces (item_row inner)) (steady_whole value) (steady_braces (item_row inner) (steady_items _ inner)))))

  pub steady_items : (n : _) (row : Row_of-Item n) → IsSteady (item_row row)
  steady_items n end_of-Item = steady_nothing
  steady_items n (more_of-Item {n = m} i rest) = steady_then (item i) (item_row rest) (steady_item i) (steady_items m rest)

pub steady_top : (t : TopLevel) → IsSteady (top_level t)
steady_top (tops.Section s) =
    steady_then (here s.token) (keyword SectionWord ⨾ text s.name ⨾ braces (many item s.items)) (steady_here s.token)
    (begins SectionWord (text s.name ⨾ braces (many item s.items))
    (steady_then (text s.name) (braces (many item s.items)) (steady_text s.name) (steady_braces (many item s.items) (steady_many item steady_item s.items))))
steady_top (tops.Decl d) = steady_decl d
steady_top (tops.Proc p) = steady_proc p

pub steady_unit : (u : UnitTree) → IsSteady (unit u)
steady_unit u = steady_many top_level steady_top u.parts
