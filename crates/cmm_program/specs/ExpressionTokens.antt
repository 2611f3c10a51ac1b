-- How many tokens an expression or a condition has at least: those of its shortest text. An operand that binds less tightly
-- than its place asks for stands in brackets there (C-- Language Specification 2.0, syntax of expressions).
use Rattle.std.specs.Prelude.{ℕ, zero, suc, ◌+◌, ◌==◌, min, nat_le, true, false, Option, Some, None}
use Rattle.cmm_words.specs.declared.width.Width.{Width}
use Rattle.cmm_words.specs.declared.constant.Constant.{Constant}
use Rattle.cmm_words.specs.declared.constant.Constant.TheVariants.{Number, Code, Address}
use Rattle.cmm_words.specs.declared.operators.Op2.{Op2}
use Rattle.cmm_words.specs.declared.operators.Op2.TheVariants.{Add, Sub, Mul, And, Or, Xor, Shl, Shrl, Divu, Modu}
use Rattle.cmm_words.specs.declared.operators.Cmp.{Cmp}
use Rattle.cmm_words.specs.declared.operators.Cmp.TheVariants.{Lt, Le, Gt, Ge}
use Rattle.cmm_words.specs.Widths.{bytes}
use Rattle.cmm_program.specs.declared.expression.Expression.{Expression, Expression-F}
use Rattle.cmm_program.specs.declared.expression.Expression.TheOpen as e
use Rattle.cmm_program.specs.declared.expression.Condition.{Condition, Condition-F}
use Rattle.cmm_program.specs.declared.expression.Condition.TheOpen as c
use Rattle.cmm_program.specs.Folds.{fold_expression, fold_condition}

-- ---- how tightly texts bind: a comparison least (0), then the infix operators from `|` on (1 to 6), and unary and named
-- operators (7). Behind these, what is called stands in brackets, unless it is a name or a word in memory (8).

-- where nothing else is an operand beside it
abbrev pub alone : ℕ
alone = 0

abbrev pub comparable : ℕ
comparable = 1

abbrev pub unary : ℕ
unary = 7

abbrev pub callee : ℕ
callee = 8

-- the level of an operator that has a sign between its operands; the others are written by name
abbrev pub sign_level : Op2 → Option ℕ
sign_level Or = Some 1
sign_level Xor = Some 2
sign_level And = Some 3
sign_level Shl = Some 4
sign_level Shrl = Some 4
sign_level Add = Some 5
sign_level Sub = Some 5
sign_level Mul = Some 6
sign_level Divu = Some 6
sign_level Modu = Some 6
sign_level _ = None

-- the least count of a text that binds at least so tightly
abbrev pub Shortest : Type 0
Shortest = ℕ → ℕ

-- a text of n tokens that binds as tightly as its level; in brackets where more is asked for
abbrev pub at_level : ℕ → ℕ → Shortest
at_level level tokens asked = elim (nat_le asked level) [ true ↦ tokens | false ↦ 2 + tokens ]

-- an operator by its name, with its operands in brackets
abbrev pub named : ℕ → Shortest
named operands asked = at_level unary (3 + operands) asked

abbrev pub two : Shortest → Shortest → ℕ
two a b = a alone + 1 + b alone

-- infix operators group to the left
abbrev pub binary : Option ℕ → Shortest → Shortest → Shortest
binary None a b asked = named (two a b) asked
binary (Some level) a b asked = min (at_level level (a level + 1 + b (suc level)) asked) (named (two a b) asked)

-- ---- expressions

-- a constant may have a name; the address of a procedure or a label n bytes on is a sum
abbrev pub address_tokens : ℕ → Shortest
address_tokens zero asked = 1
address_tokens (suc _) asked = at_level 5 3 asked

abbrev pub known_tokens : Constant → Shortest
known_tokens (Number n width) asked = 1
known_tokens (Code proc plus) asked = address_tokens plus asked
known_tokens (Address label plus) asked = address_tokens plus asked

-- a type, and an address in brackets; `aligned` and a number where it is not the width's own
abbrev pub memory_tokens : Width → ℕ → ℕ → ℕ
memory_tokens width aligned address = 3 + address + elim (aligned == bytes width) [ true ↦ 0 | false ↦ 2 ]

abbrev pub token_step : Expression-F Shortest → Shortest
token_step (e.Known known) asked = known_tokens known asked
token_step (e.Variable n width) asked = 1
token_step (e.Register n width) asked = 1
token_step (e.Stackdata n) asked = 1
token_step (e.Continuation n) asked = 1
token_step (e.Load width aligned address) asked = memory_tokens width aligned (address alone)
token_step (e.Unary op width a) asked = at_level unary (min (1 + a unary) (3 + a alone)) asked
token_step (e.Binary op width a b) asked = binary (sign_level op) a b asked
token_step (e.SignExtend from to a) asked = named (a alone) asked
token_step (e.ZeroExtend from to a) asked = named (a alone) asked
token_step (e.LowBits from to a) asked = named (a alone) asked

-- the least count of an expression in a place that asks for so much
abbrev pub expression_tokens : ℕ → Expression → ℕ
expression_tokens asked e = fold_expression token_step e asked

-- ---- conditions

-- a signed comparison has no sign
abbrev pub compare_tokens : Cmp → Expression → Expression → ℕ
compare_tokens Lt a b = 3 + two (λ asked. expression_tokens asked a) (λ asked. expression_tokens asked b)
compare_tokens Le a b = 3 + two (λ asked. expression_tokens asked a) (λ asked. expression_tokens asked b)
compare_tokens Gt a b = 3 + two (λ asked. expression_tokens asked a) (λ asked. expression_tokens asked b)
compare_tokens Ge a b = 3 + two (λ asked. expression_tokens asked a) (λ asked. expression_tokens asked b)
compare_tokens _ a b = expression_tokens comparable a + 1 + expression_tokens comparable b

abbrev pub test_token_step : Condition-F ℕ → ℕ
test_token_step (c.Compare cmp width a b) = compare_tokens cmp a b
test_token_step (c.Not a) = 3 + a
test_token_step (c.Both a b) = 3 + (a + 1 + b)
test_token_step (c.Either a b) = 3 + (a + 1 + b)

abbrev pub condition_tokens : Condition → ℕ
condition_tokens c = fold_condition test_token_step c
