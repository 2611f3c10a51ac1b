-- How many tokens the statements and declarations of a procedure have at least: those of their shortest texts
-- (C-- Language Specification 2.0, syntax).
use Rattle.std.specs.Prelude.{ℕ, zero, suc, ◌+◌, ◌==◌, ◌&&◌, not, nat_lt, Bool, true, false, List, [], ◌∷◌, take, drop, length, sum_by, slice_get, Some, None}
use Rattle.std.specs.Str.{bytes_eq}
use Rattle.cmm_program.specs.declared.expression.Expression.{Expression}
use Rattle.cmm_program.specs.declared.statement.Form.{Form}
use Rattle.cmm_program.specs.declared.statement.Form.TheVariants.{Empty, If', Switch', Span', Assign, Call, Yield, Checked, PutByte, GetByte, Jump, Return, Label, Goto, Continuation, Cut}
use Rattle.cmm_program.specs.declared.statement.Statement.{Statement}
use Rattle.cmm_program.specs.declared.statement.Lvalue.{Lvalue}
use Rattle.cmm_program.specs.declared.statement.Lvalue.TheVariants as lvalue
use Rattle.cmm_program.specs.declared.statement.Case.{Case}
use Rattle.cmm_program.specs.declared.statement.Case.TheVariants.{In, Default}
use Rattle.cmm_program.specs.declared.procedure.Proc.{Proc}
use Rattle.cmm_program.specs.declared.procedure.Site.{Site}
use Rattle.cmm_program.specs.declared.procedure.VarInfo.{VarInfo}
use Rattle.cmm_program.specs.declared.procedure.StackItem.{StackItem}
use Rattle.cmm_program.specs.Bodies.{statements, branches, body_statements}
use Rattle.cmm_program.specs.Frames.{parameters}
use Rattle.cmm_program.specs.ExpressionTokens.{alone, callee, memory_tokens, expression_tokens, condition_tokens}
use Rattle.cmm_program.specs.Typing.{same_width}

-- a list with commas between its elements
abbrev pub with_commas : {A : Type 0} → (A → ℕ) → List A → ℕ
with_commas size [] = 0
with_commas size (a ∷ as_) = sum_by size (a ∷ as_) + length as_

-- a list of names
abbrev pub names : {A : Type 0} → List A → ℕ
names list = with_commas (λ _. 1) list

-- a list of expressions in brackets
abbrev pub bracketed : List Expression → ℕ
bracketed es = 2 + with_commas (expression_tokens alone) es

abbrev pub lvalue_tokens : Lvalue → ℕ
lvalue_tokens (lvalue.Target target) = 1
lvalue_tokens (lvalue.Memory width aligned address) = memory_tokens width aligned (expression_tokens alone address)

-- `also`, a verb, `to` and the names
abbrev pub annotation : List ℕ → ℕ
annotation [] = 0
annotation (k ∷ ks) = 3 + names (k ∷ ks)

abbrev pub when : Bool → ℕ → ℕ
when test n = elim test [ true ↦ n | false ↦ 0 ]

abbrev pub site_tokens : Site → ℕ
site_tokens site =
    annotation site.returns + annotation site.unwinds + annotation site.cuts + when site.aborts 2 + when site.never 2

-- the names of results, and `=`
abbrev pub result_tokens : Site → ℕ
result_tokens site = elim site.results [ [] ↦ 0 | _ ∷ _ ↦ names site.results + 1 ]

abbrev pub at_site : Proc → ℕ → (Site → ℕ) → ℕ
at_site q n size = elim (slice_get q.sites n) [ Some site ↦ size site | None ↦ 0 ]

-- `if` after an `else` stands without braces
abbrev pub else_tokens : List Statement → ℕ
else_tokens [] = 0
else_tokens (s ∷ []) = elim s.form [ If' condition _ then_ _ otherwise ↦ 1 | _ ↦ 3 ]
else_tokens _ = 3

abbrev pub case_tokens : Case → ℕ
case_tokens (In ranges) = 4 + with_commas (λ r. elim (r.from == r.to) [ true ↦ 1 | false ↦ 3 ]) ranges
case_tokens Default = 4

-- a plain `return` stands for the exit 0 of 0; without values the brackets may be left out
abbrev pub return_tokens : ℕ → List Expression → ℕ
return_tokens alternates [] = 2 + when (nat_lt 0 alternates) 5
return_tokens alternates (e ∷ es) = 2 + when (nat_lt 0 alternates) 5 + bracketed (e ∷ es)

-- the least count of a statement's own tokens, those of the blocks inside it left out
abbrev pub own_tokens : Proc → Form → ℕ
own_tokens q Empty = 1
own_tokens q (If' condition _ then_ _ otherwise) = 3 + condition_tokens condition + else_tokens (statements otherwise)
own_tokens q (Switch' value _ arms) = 3 + expression_tokens alone value + sum_by (λ b. case_tokens b.case) (branches arms)
own_tokens q (Span' _ body) = 5
own_tokens q (Assign to values) = 2 + with_commas lvalue_tokens to + with_commas (expression_tokens alone) values
own_tokens q (Call site to actuals) = at_site q site (λ s. result_tokens s + site_tokens s) + expression_tokens callee to + bracketed actuals + 1
own_tokens q (Yield site values) = at_site q site (λ s. result_tokens s + site_tokens s) + 1 + bracketed values + 1
own_tokens q (Checked site op width left right) = 3 + bracketed (left ∷ right ∷ []) + at_site q site site_tokens + 1
own_tokens q (PutByte value) = 3 + bracketed (value ∷ []) + 1
own_tokens q (GetByte target) = 8
own_tokens q (Jump to actuals) = 1 + expression_tokens callee to + bracketed actuals + 1
own_tokens q (Return exit alternates values) = return_tokens alternates values
own_tokens q (Label n) = 2
own_tokens q (Goto n) = 3
own_tokens q (Continuation n) = 5 + names (parameters q n)
own_tokens q (Cut to values own) = 2 + expression_tokens callee to + bracketed values + annotation own + 1

-- ---- declarations

-- what stands before a variable's name: its kind, `invariant` and its type
abbrev pub before_name : VarInfo → ℕ
before_name v = elim v.kind [ [] ↦ 0 | _ ∷ _ ↦ 1 ] + when v.invariant 1 + 1

-- one declaration may have both
abbrev pub declared_alike : VarInfo → VarInfo → Bool
declared_alike v w =
    same_width v.width w.width && bytes_eq v.kind w.kind && elim v.invariant [ true ↦ w.invariant | false ↦ not w.invariant ]

-- variables that are not formals, in their order: each name has a comma or a semicolon behind it
abbrev pub local_tokens : List VarInfo → ℕ
local_tokens [] = 0
local_tokens (v ∷ []) = before_name v + 2
local_tokens (v ∷ w ∷ rest) = when (not (declared_alike v w)) (before_name v) + 2 + local_tokens (w ∷ rest)

-- a label, an alignment, a word without a count, or words with one
abbrev pub item_tokens : StackItem → ℕ
item_tokens i = elim i.label [
  | true ↦ 2
  | false ↦ elim i.length [ zero ↦ 3 | suc _ ↦ elim (i.length == i.align) [ true ↦ 2 | false ↦ 5 ] ]
]

-- all in one `stackdata` block
abbrev pub stackdata_tokens : List StackItem → ℕ
stackdata_tokens [] = 0
stackdata_tokens (i ∷ is) = 3 + sum_by item_tokens (i ∷ is)

-- ---- procedures

-- a procedure without the statements of its body: its name, brackets and braces, its formals, and its declarations
abbrev pub heading_tokens : Proc → ℕ
heading_tokens q =
    5 + with_commas (λ v. before_name v + 1) (take q.formals q.vars) + local_tokens (drop q.formals q.vars) + stackdata_tokens q.stack

-- the least count of a whole procedure, from its name to its closing brace
abbrev pub procedure_tokens : Proc → ℕ
procedure_tokens q = heading_tokens q + sum_by (λ s. own_tokens q s.form) (body_statements q)
