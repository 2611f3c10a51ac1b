-- The statements of a body, with numbers for names: call sites, labels and continuations are numbered in textual order (C-- Language
-- Specification 2.0, statements).
use Rattle.std.specs.Prelude.{ℕ, ◌+◌, ◌-◌, true, false, List, [], ◌∷◌, ◌++◌, map, option_map, Option, Some, None}
use Rattle.cmm_words.specs.declared.width.Width.{Width}
use Rattle.cmm_words.specs.declared.width.Width.TheVariants.{W64}
use Rattle.cmm_words.specs.declared.operators.Op2.{Op2}
use Rattle.cmm_words.specs.declared.operators.Op2.TheVariants.{Divu}
use Rattle.cmm_ast.specs.declared.token.Ident.{Ident}
use Rattle.cmm_ast.specs.declared.expression.Expr.{Expr}
use Rattle.cmm_ast.specs.declared.statement.Block.{Row_of-Part, end_of-Part, more_of-Part}
use Rattle.cmm_ast.specs.declared.statement.Callee.{Callee}
use Rattle.cmm_ast.specs.declared.statement.Case.{Case as CaseTree}
use Rattle.cmm_ast.specs.declared.statement.Case.TheVariants.{Ranges, Default}
use Rattle.cmm_ast.specs.declared.statement.Exit.{Exit}
use Rattle.cmm_ast.specs.declared.statement.Kinded.{Kinded}
use Rattle.cmm_ast.specs.declared.statement.Otherwise.{Otherwise, more_of-Stmt}
use Rattle.cmm_ast.specs.declared.statement.Otherwise.TheVariants.{Nothing as NoElse, Else', ElseIf'}
use Rattle.cmm_ast.specs.declared.statement.Part.{Part}
use Rattle.cmm_ast.specs.declared.statement.Part.TheVariants as parts
use Rattle.cmm_ast.specs.declared.statement.Range.{Range as RangeTree}
use Rattle.cmm_ast.specs.declared.statement.StmtForm.{StmtForm, Row_of-Arm, end_of-Arm, more_of-Arm}
use Rattle.cmm_ast.specs.declared.statement.StmtForm.TheVariants as stmts
use Rattle.cmm_program.specs.declared.expression.Expression.{Expression}
use Rattle.cmm_program.specs.declared.statement.Arm.{Arm, roll-Arm}
use Rattle.cmm_program.specs.declared.statement.Case.{Case}
use Rattle.cmm_program.specs.declared.statement.Case.TheVariants as cases
use Rattle.cmm_program.specs.declared.statement.Form.{Form}
use Rattle.cmm_program.specs.declared.statement.Form.TheVariants as forms
use Rattle.cmm_program.specs.declared.statement.Range.{Range}
use Rattle.cmm_program.specs.declared.statement.Statement.{Statement}
use Rattle.cmm_static_semantics.specs.declared.operator.Operator.{Operator}
use Rattle.cmm_static_semantics.specs.declared.operator.Operator.TheVariants.{Binary}
use Rattle.cmm_static_semantics.specs.declared.sense.Host.{Host}
use Rattle.cmm_static_semantics.specs.declared.sense.Host.TheVariants.{Yield, PutByte, GetByte}
use Rattle.cmm_static_semantics.specs.Operators.{checked_named}
use Rattle.cmm_static_semantics.specs.Judging.{if_ok}
use Rattle.cmm_static_semantics.specs.Algebras.{knowns}
use Rattle.cmm_static_semantics.specs.Typing.{wanted, of_primary}
use Rattle.cmm_static_semantics.specs.Items.{parts_row, part_within}
use Rattle.cmm_static_semantics.specs.Declarations.{is_label, number_in}
use Rattle.cmm_static_semantics.specs.Scopes.{Scope, senses}
use Rattle.cmm_static_semantics.specs.Calls.{foreign_callee}
use Rattle.cmm_static_semantics.specs.Statements.{passed}
use Rattle.cmm_static_semantics.specs.Switches.{range_extent}
use Rattle.cmm_static_semantics.specs.Limits.{number_or_zero, site_count}
use Rattle.cmm_elaboration.specs.Resolving.{no_value, value_of, values_of, condition_of, callee_of, target_of, place_of}
use Rattle.cmm_elaboration.specs.Sites.{cut_names, continuation_of, continuations_by, is_yield}

-- ---- counts of tokens: those of a statement without what stands in the blocks inside it, whose braces are its own

abbrev pub part_length : Part → ℕ
part_length (parts.Local l) = l.past - l.token
part_length (parts.Stmt' first past form) = past - first

abbrev pub row_length : {n : _} → Row_of-Part n → ℕ
row_length end_of-Part = 0
row_length (more_of-Part p rest) = part_length p + row_length rest

abbrev pub arms_length : {n : _} → Row_of-Arm n → ℕ
arms_length end_of-Arm = 0
arms_length (more_of-Arm first what _ body rest) = row_length body + arms_length rest

abbrev pub otherwise_length : Otherwise → ℕ
otherwise_length NoElse = 0
otherwise_length (Else' _ body) = row_length body
otherwise_length (ElseIf' _ (more_of-Stmt first past form rest)) = past - first

abbrev pub blocks_length : StmtForm → ℕ
blocks_length (stmts.If' condition _ body otherwise) = row_length body + otherwise_length otherwise
blocks_length (stmts.Switch' range value _ arms) = arms_length arms
blocks_length (stmts.Span' key value _ body) = row_length body
blocks_length _ = 0

-- a statement between two tokens, the second left out
abbrev pub counted : ℕ → ℕ → StmtForm → Form → Statement
counted first past tree form = record { tokens = past - first - blocks_length tree; form = form }

-- ---- how many call sites stand in blocks

abbrev pub sites_in_row : {n : _} → Row_of-Part n → ℕ
sites_in_row row = site_count (map (λ p. p.what) (parts_row [] row))

abbrev pub sites_in_part : Part → ℕ
sites_in_part p = site_count (map (λ q. q.what) (part_within [] p))

-- ---- statements without blocks

abbrev pub label_of : Scope → Ident → ℕ
label_of s i = number_in is_label i.name s.own

-- a call of `yield`, or of another procedure, at a site
abbrev pub call_form : Scope → ℕ → Callee → List Expression → Form
call_form s site callee values = elim (is_yield s callee) [
  | true ↦ forms.Yield site values
  | false ↦ forms.Call site (callee_of (senses s) callee) values
]

abbrev pub put_byte : List Expression → Form
put_byte [] = forms.PutByte no_value
put_byte (e ∷ es) = forms.PutByte e

abbrev pub get_byte : Scope → List Kinded → Form
get_byte s [] = forms.Empty
get_byte s (k ∷ ks) = forms.GetByte (target_of (senses s) k.name)

-- a foreign call, by the procedure of the host
abbrev pub host_form : Scope → Option Host → List Kinded → List Expression → Form
host_form s (Some PutByte) results values = put_byte values
host_form s (Some GetByte) results values = get_byte s results
host_form s (Some Yield) results values = forms.Empty
host_form s None results values = forms.Empty

-- the width of a value, where it has one
abbrev pub value_width : Scope → Expr → Option Width
value_width s e = option_map (λ x. x.width) (if_ok (wanted knowns (senses s) None e))

abbrev pub width_or : Option Width → Width
width_or (Some width) = width
width_or None = W64

abbrev pub division : Option Operator → Op2
division (Some (Binary op)) = op
division _ = Divu

abbrev pub checked_form : Scope → ℕ → Ident → Expr → Expr → Form
checked_form s site operator left right =
    forms.Checked site (division (checked_named operator.name)) (width_or (value_width s left)) (value_of (senses s) left) (value_of (senses s) right)

-- a plain `return` leaves by the normal exit of a site without alternates
abbrev pub return_form : Scope → Option Exit → List Expression → Form
return_form s None values = forms.Return 0 0 values
return_form s (Some x) values =
    forms.Return (number_or_zero (senses s) (of_primary x.index)) (number_or_zero (senses s) (of_primary x.count)) values

-- ---- the arms of a switch, on values of a width

abbrev pub range_of : Scope → Option Width → RangeTree → Range
range_of s width r = elim (range_extent (senses s) width r) [ Some x ↦ record { from = x.low; to = x.high } | None ↦ record { from = 0; to = 0 } ]

abbrev pub case_of : Scope → Option Width → CaseTree → Case
case_of s width (Ranges rs) = cases.In (map (range_of s width) rs)
case_of s width Default = cases.Default

-- ---- statements, before each of which there are n call sites

module _ (s : Scope) where
  abbrev mutual
    pub form_of : ℕ → StmtForm → Form
    form_of n (stmts.If' condition _ body otherwise) =
        forms.If (condition_of (senses s) condition) (row_of n body) (otherwise_of (n + sites_in_row body) otherwise)
    form_of n (stmts.Switch' range value _ arms) = forms.Switch (value_of (senses s) value) (arms_of n (value_width s value) arms)
    form_of n (stmts.Span' key value _ body) = forms.Span (row_of n body)
    form_of n (stmts.Assign to values) = forms.Assign (map (place_of (senses s)) to) (map (value_of (senses s)) values)
    form_of n (stmts.Checked result operator left right flows) = checked_form s n operator left right
    form_of n (stmts.Call results None callee actuals flows) = call_form s n callee (values_of (senses s) actuals)
    form_of n (stmts.Call results (Some convention) callee actuals flows) = host_form s (foreign_callee s callee) results (values_of (senses s) actuals)
    form_of n (stmts.Jump callee actuals) = forms.Jump (callee_of (senses s) callee) (values_of (senses s) actuals)
    form_of n (stmts.Return exit values) = return_form s exit (values_of (senses s) (passed values))
    form_of n (stmts.Label name) = forms.Label (label_of s name)
    form_of n (stmts.Continuation name parameters) = forms.Continuation (continuation_of s name)
    form_of n (stmts.Goto name) = forms.Goto (label_of s name)
    form_of n (stmts.Cut callee actuals flows) =
        forms.Cut (callee_of (senses s) callee) (values_of (senses s) actuals) (continuations_by s cut_names flows)
    form_of n stmts.Empty = forms.Empty

    pub otherwise_of : ℕ → Otherwise → List Statement
    otherwise_of n NoElse = []
    otherwise_of n (Else' _ body) = row_of n body
    otherwise_of n (ElseIf' _ (more_of-Stmt first past tree rest)) = counted first past tree (form_of n tree) ∷ []

    pub arms_of : {k : _} → ℕ → Option Width → Row_of-Arm k → List Arm
    arms_of n width end_of-Arm = []
    arms_of n width (more_of-Arm first what _ body rest) =
        roll-Arm record { case = case_of s width what; body = row_of n body } ∷ arms_of (n + sites_in_row body) width rest

    -- a declaration is no statement
    pub part_of : ℕ → Part → List Statement
    part_of n (parts.Local l) = []
    part_of n (parts.Stmt' first past tree) = counted first past tree (form_of n tree) ∷ []

    pub row_of : {k : _} → ℕ → Row_of-Part k → List Statement
    row_of n end_of-Part = []
    row_of n (more_of-Part p rest) = part_of n p ++ row_of (n + sites_in_part p) rest

  -- the statements of a block
  abbrev pub statements_from : ℕ → List Part → List Statement
  statements_from n [] = []
  statements_from n (p ∷ ps) = part_of n p ++ statements_from (n + sites_in_part p) ps
