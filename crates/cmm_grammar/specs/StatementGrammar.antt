-- The grammar of statements, of bodies and of procedures (C-- Language Specification 2.0, syntax): a line for each
-- alternative.
use Rattle.std.specs.Prelude.{List, [], ◌∷◌, None}
use Rattle.cmm_ast.specs.declared.token.Ident.{Ident}
use Rattle.cmm_lexer.specs.declared.keyword.Keyword.{Keyword}
use Rattle.cmm_lexer.specs.declared.keyword.Keyword.TheVariants.{Aborts, Align, Also, Cut, Cuts, Default, Else, Foreign, Goto, If, Invariant, Jump, Never, Return, Returns, Span, Stackdata, Switch, To, Unwinds}
use Rattle.cmm_lexer.specs.declared.keyword.Keyword.TheVariants as word
use Rattle.cmm_lexer.specs.declared.symbol.Symbol.TheVariants.{Assign, Colon, Comma, Less, Greater, Semicolon, Slash}
use Rattle.cmm_lexer.specs.declared.symbol.Symbol.TheVariants as sign
use Rattle.cmm_ast.specs.declared.procedure.Proc.{Proc}
use Rattle.cmm_ast.specs.declared.procedure.Formal.{Formal}
use Rattle.cmm_ast.specs.declared.procedure.Modifiers.{Modifiers}
use Rattle.cmm_ast.specs.declared.procedure.Modifiers.TheVariants.{Nothing, Kind, KindInvariant, Invariant as Unchanged, InvariantKind}
use Rattle.cmm_ast.specs.declared.procedure.LocalForm.{LocalForm}
use Rattle.cmm_ast.specs.declared.procedure.LocalForm.TheVariants as locals
use Rattle.cmm_ast.specs.declared.procedure.RoomForm.{RoomForm}
use Rattle.cmm_ast.specs.declared.procedure.RoomForm.TheVariants as rooms
use Rattle.cmm_ast.specs.declared.statement.Actual.{Actual}
use Rattle.cmm_ast.specs.declared.statement.Block.{Block, Row_of-Part, end_of-Part, more_of-Part}
use Rattle.cmm_ast.specs.declared.statement.Callee.{Callee}
use Rattle.cmm_ast.specs.declared.statement.CalleeForm.{CalleeForm}
use Rattle.cmm_ast.specs.declared.statement.CalleeForm.TheVariants as callees
use Rattle.cmm_ast.specs.declared.statement.Case.{Case}
use Rattle.cmm_ast.specs.declared.statement.Case.TheVariants as cases
use Rattle.cmm_ast.specs.declared.statement.Exit.{Exit}
use Rattle.cmm_ast.specs.declared.statement.Flow.{Flow}
use Rattle.cmm_ast.specs.declared.statement.FlowForm.{FlowForm}
use Rattle.cmm_ast.specs.declared.statement.FlowForm.TheVariants as flows
use Rattle.cmm_ast.specs.declared.statement.Kinded.{Kinded}
use Rattle.cmm_ast.specs.declared.statement.Lvalue.{Lvalue}
use Rattle.cmm_ast.specs.declared.statement.Lvalue.TheVariants as lvalues
use Rattle.cmm_ast.specs.declared.statement.Otherwise.{Otherwise, more_of-Stmt}
use Rattle.cmm_ast.specs.declared.statement.Otherwise.TheVariants.{Nothing as NoElse, Else as ElseBlock, Else', ElseIf'}
use Rattle.cmm_ast.specs.declared.statement.Part.{Part}
use Rattle.cmm_ast.specs.declared.statement.Part.TheVariants as parts
use Rattle.cmm_ast.specs.declared.statement.Range.{Range}
use Rattle.cmm_ast.specs.declared.statement.Span.{Span as SwitchSpan}
use Rattle.cmm_ast.specs.declared.statement.StmtForm.{StmtForm, Row_of-Arm, end_of-Arm, more_of-Arm}
use Rattle.cmm_ast.specs.declared.statement.StmtForm.TheVariants as stmts
use Rattle.cmm_grammar.specs.Taking.{Takes, ◌⨾◌, token, is_checked, keyword, symbol, here, nothing, opening, enclosed, outermost, round, square, braces, optional, many, commas, listed, may_list, may_comma}
use Rattle.cmm_grammar.specs.ExpressionGrammar.{ident, text, int, type_name, whole, whole_prim, whole_memory}

-- ---- variables and stackdata

abbrev pub modifiers : Modifiers → Takes
modifiers Nothing = nothing
modifiers (Kind kind) = text kind
modifiers (KindInvariant kind) = text kind ⨾ keyword Invariant
modifiers (Unchanged first) = here first ⨾ keyword Invariant
modifiers (InvariantKind first kind) = here first ⨾ keyword Invariant ⨾ text kind

abbrev pub formal : Formal → Takes
formal f = modifiers f.modifiers ⨾ type_name f.width ⨾ ident f.name

abbrev pub room_form : RoomForm → Takes
room_form (rooms.Label name) = ident name ⨾ symbol Colon
room_form (rooms.Align bytes) = keyword Align ⨾ int bytes ⨾ symbol Semicolon
room_form (rooms.Data width count) = type_name width ⨾ optional (λ e. square (whole e)) count ⨾ symbol Semicolon

abbrev pub local_form : LocalForm → Takes
local_form (locals.Variables before width names) = modifiers before ⨾ type_name width ⨾ listed ident names ⨾ symbol Semicolon
local_form (locals.Stackdata rooms) = keyword Stackdata ⨾ braces (many (λ r. here r.token ⨾ room_form r.form) rooms)

-- ---- parts of statements

abbrev pub kinded : Kinded → Takes
kinded k = optional text k.kind ⨾ ident k.name

abbrev pub actual : Actual → Takes
actual a = optional text a.kind ⨾ whole a.value

-- operators are counted anew from here on
abbrev pub arguments : List Actual → Takes
arguments actuals = outermost (round (may_list actual actuals))

abbrev pub lvalue : Lvalue → Takes
lvalue (lvalues.Name name) = ident name
lvalue (lvalues.Memory m) = whole_memory m

abbrev pub callee_form : CalleeForm → Takes
callee_form (callees.Name name) = ident name
callee_form (callees.Memory m) = whole_memory m
callee_form (callees.Bracketed e) = round (whole e)

abbrev pub callee : Callee → Takes
callee c = here c.token ⨾ callee_form c.form

abbrev pub names_to : Keyword → List Ident → Takes
names_to verb names = keyword Also ⨾ keyword verb ⨾ keyword To ⨾ commas ident names

abbrev pub flow_form : FlowForm → Takes
flow_form (flows.CutsTo names) = names_to Cuts names
flow_form (flows.UnwindsTo names) = names_to Unwinds names
flow_form (flows.ReturnsTo names) = names_to Returns names
flow_form flows.Aborts = keyword Also ⨾ keyword Aborts
flow_form flows.NeverReturns = keyword Never ⨾ keyword Returns

-- a comma may follow each annotation
abbrev pub annotated : List Flow → Takes
annotated fs = many (λ f. here f.token ⨾ flow_form f.form ⨾ may_comma) fs

abbrev pub exit : Exit → Takes
exit e = here e.token ⨾ symbol Less ⨾ whole_prim e.index ⨾ symbol Slash ⨾ whole_prim e.count ⨾ symbol Greater

abbrev pub results : List Kinded → Takes
results [] = nothing
results (k ∷ ks) = commas kinded (k ∷ ks) ⨾ symbol Assign

abbrev pub range : Range → Takes
range r = whole r.from ⨾ optional (λ e. symbol sign.Range ⨾ whole e) r.to

abbrev pub case : Case → Takes
case (cases.Ranges ranges) = keyword word.Case ⨾ commas range ranges ⨾ symbol Colon
case cases.Default = keyword Default ⨾ symbol Colon

abbrev pub switch_span : SwitchSpan → Takes
switch_span s = square (whole s.from ⨾ symbol sign.Range ⨾ whole s.to)

abbrev pub checked : Ident → Takes
checked op = here op.token ⨾ token (is_checked op.name)

-- ---- statements

abbrev mutual
  pub stmt_form : StmtForm → Takes
  stmt_form stmts.Empty = symbol Semicolon
  stmt_form (stmts.If' condition _ body otherwise) = keyword If ⨾ whole condition ⨾ braces (part_row body) ⨾ otherwise_ otherwise
  stmt_form (stmts.Switch' over value _ arms) = keyword Switch ⨾ optional switch_span over ⨾ whole value ⨾ braces (arm_row arms)
  stmt_form (stmts.Span' key value _ body) = keyword Span ⨾ whole_prim key ⨾ whole value ⨾ braces (part_row body)
  stmt_form (stmts.Assign to values) = commas lvalue to ⨾ symbol Assign ⨾ listed whole values ⨾ symbol Semicolon
  stmt_form (stmts.Checked result op left right annotations) =
      ident result ⨾ symbol Assign ⨾ checked op ⨾ round (whole left ⨾ symbol Comma ⨾ whole right) ⨾ annotated annotations ⨾ symbol Semicolon
  stmt_form (stmts.Call to convention what actuals annotations) =
      results to ⨾ optional (λ t. keyword Foreign ⨾ text t) convention ⨾ callee what ⨾ arguments actuals ⨾ annotated annotations ⨾ symbol Semicolon
  stmt_form (stmts.Jump what actuals) = keyword Jump ⨾ callee what ⨾ arguments actuals ⨾ symbol Semicolon
  stmt_form (stmts.Return by values) = keyword Return ⨾ optional exit by ⨾ optional arguments values ⨾ symbol Semicolon
  stmt_form (stmts.Label name) = ident name ⨾ symbol Colon
  stmt_form (stmts.Continuation name parameters) = keyword word.Continuation ⨾ ident name ⨾ round (may_list kinded parameters) ⨾ symbol Colon
  stmt_form (stmts.Goto name) = keyword Goto ⨾ ident name ⨾ symbol Semicolon
  stmt_form (stmts.Cut what actuals annotations) = keyword Cut ⨾ keyword To ⨾ callee what ⨾ arguments actuals ⨾ annotated annotations ⨾ symbol Semicolon

  -- an `if` after `else` counts as an open bracket until its chain ends
  pub otherwise_ : Otherwise → Takes
  otherwise_ NoElse = nothing
  otherwise_ (Else' _ body) = keyword Else ⨾ braces (part_row body)
  otherwise_ (ElseIf' _ (more_of-Stmt first past form rest)) = keyword Else ⨾ enclosed (here first ⨾ chained form ⨾ here past)

  pub chained : StmtForm → Takes
  chained (stmts.If' condition _ body otherwise) = opening (keyword If) ⨾ whole condition ⨾ braces (part_row body) ⨾ otherwise_ otherwise
  chained _ = λ r. None

  pub part_row : {n : _} → Row_of-Part n → Takes
  part_row end_of-Part = nothing
  part_row (more_of-Part p rest) = part_ p ⨾ part_row rest

  pub part_ : Part → Takes
  part_ (parts.Local l) = here l.token ⨾ local_form l.form ⨾ here l.past
  part_ (parts.Stmt' first past form) = here first ⨾ stmt_form form ⨾ here past

  pub arm_row : {n : _} → Row_of-Arm n → Takes
  arm_row end_of-Arm = nothing
  arm_row (more_of-Arm first what _ body rest) = here first ⨾ case what ⨾ braces (part_row body) ⨾ arm_row rest

-- the braces and what is between them
abbrev pub inside : Otherwise → Takes
inside (Else' _ parts) = braces (part_row parts)
inside _ = λ r. None

abbrev pub block : Block → Takes
block b = inside (ElseBlock b)

-- ---- procedures

abbrev pub proc : Proc → Takes
proc p = ident p.name ⨾ round (may_list formal p.formals) ⨾ block p.body ⨾ here p.past
