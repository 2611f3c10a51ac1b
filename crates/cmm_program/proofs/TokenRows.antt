-- Worked rows: the counts of shortest texts, which were counted in the texts above them.
use Rattle.std.proofs.Common.{◌≡◌, ℕ, true, false, refl, List, [], ◌∷◌}
use Rattle.std.specs.Prelude.{codes}
use Rattle.cmm_words.specs.declared.width.Width.TheVariants.{W8, W32, W64}
use Rattle.cmm_words.specs.declared.operators.Op1.TheVariants.{Neg, Com}
use Rattle.cmm_words.specs.declared.operators.Op2.TheVariants.{Add, Sub, Mul, And, Shl, Shra}
use Rattle.cmm_words.specs.declared.operators.Cmp.TheVariants.{Eq, Lt, Ltu}
use Rattle.cmm_words.specs.declared.constant.Constant.TheVariants.{Address}
use Rattle.cmm_program.specs.declared.expression.Expression.{Expression}
use Rattle.cmm_program.specs.declared.expression.Expression.TheVariants as e
use Rattle.cmm_program.specs.declared.expression.Condition.TheVariants as c
use Rattle.cmm_program.specs.declared.statement.Form.TheVariants as f
use Rattle.cmm_program.specs.declared.statement.Case.TheVariants.{In, Default}
use Rattle.cmm_program.specs.declared.statement.Lvalue.TheVariants as lvalue
use Rattle.cmm_program.specs.declared.procedure.Target.TheVariants.{Variable}
use Rattle.cmm_program.specs.declared.procedure.Proc.{Proc}
use Rattle.cmm_program.specs.ExpressionTokens.{alone, callee, expression_tokens}
use Rattle.cmm_program.specs.Tokens.{own_tokens, heading_tokens}
use Rattle.cmm_program.proofs.Samples.{opened, num, local, op, test, is, from_to, arm, plain, variable, stack_label, stack_bytes, procedure}

abbrev a : Expression
a = local 0

abbrev b : Expression
b = local 1

-- the counts of an expression that stands alone, and of one that is called
abbrev counts : Expression → List ℕ
counts x = expression_tokens alone x ∷ expression_tokens callee x ∷ []

--     5     and     (5)
name_or_number : counts (num 5) ≡ 1 ∷ 1 ∷ []
unfolding opened
name_or_number = refl

--     label + 8     (label + 8)
address : counts (e.Known (Address 0 8)) ≡ 3 ∷ 5 ∷ []
unfolding opened
address = refl

--     a - b - a     (a - b - a)
to_the_left : counts (op Sub (op Sub a b) a) ≡ 5 ∷ 7 ∷ []
unfolding opened
to_the_left = refl

--     a - (b - a)
to_the_right : counts (op Sub a (op Sub b a)) ≡ 7 ∷ 9 ∷ []
unfolding opened
to_the_right = refl

--     a + b * a     a * (b + a)
tighter : expression_tokens alone (op Add a (op Mul b a)) ≡ 5
unfolding opened
tighter = refl

looser : expression_tokens alone (op Mul a (op Add b a)) ≡ 7
unfolding opened
looser = refl

--     %mul(a + b, b + a)
by_name : expression_tokens alone (op Mul (op Add a b) (op Add b a)) ≡ 10
unfolding opened
by_name = refl

--     %shra(a, b) & a << b
without_sign : expression_tokens alone (op And (op Shra a b) (op Shl a b)) ≡ 10
unfolding opened
without_sign = refl

--     -~a     -(a + b)
unary_operators : expression_tokens alone (e.Unary Neg W64 (e.Unary Com W64 a)) ≡ 3
unfolding opened
unary_operators = refl

unary_of_sum : expression_tokens alone (e.Unary Neg W64 (op Add a b)) ≡ 6
unfolding opened
unary_of_sum = refl

--     bits64[a]     bits32[a aligned 2]
word : counts (e.Load W64 8 a) ≡ 4 ∷ 4 ∷ []
unfolding opened
word = refl

word_aligned : counts (e.Load W32 2 a) ≡ 6 ∷ 6 ∷ []
unfolding opened
word_aligned = refl

--     %lobits8(a + b)     (%lobits8(a + b))
low_bits : counts (e.LowBits W64 W8 (op Add a b)) ≡ 6 ∷ 8 ∷ []
unfolding opened
low_bits = refl

-- ---- statements

-- a procedure of two variables, with nothing else
abbrev bare : Proc
bare = procedure (codes "f") 40 0 2 [] []

--     if %lt(a, a) { }
signed_comparison : own_tokens bare (f.If (test Lt a a) [] []) ≡ 9
unfolding opened
signed_comparison = refl

--     if %not(%conjoin(a < b, a == b)) { }
nested_condition : own_tokens bare (f.If (c.Not (c.Both (test Ltu a b) (test Eq a b))) [] []) ≡ 16
unfolding opened
nested_condition = refl

--     if a == b { } else if a == b { }     the inner one apart
else_if : own_tokens bare (f.If (test Eq a b) [] (is 6 (f.If (test Eq a b) [] []) ∷ [])) ≡ 7
unfolding opened
else_if = refl

--     switch a { case 1, 3 .. 4: { } default: { } }
switch : own_tokens bare (f.Switch a (
    arm (In (from_to 1 1 ∷ from_to 3 4 ∷ [])) [] ∷ arm Default [] ∷ [])) ≡ 17
unfolding opened
switch = refl

--     bits64[a aligned 1], b = b, a;
assignment : own_tokens bare (f.Assign (lvalue.Memory W64 1 a ∷ lvalue.Target (Variable 1 W64) ∷ []) (b ∷ a ∷ [])) ≡ 13
unfolding opened
assignment = refl

--     jump (a + b)();
jump : own_tokens bare (f.Jump (op Add a b) []) ≡ 9
unfolding opened
jump = refl

-- ---- declarations

--     f(bits64 a, "kind" bits64 b) {
--       bits64 c, d;
--       invariant bits32 e;
--       stackdata { l: bits64; align 8; bits8[5]; }
--     }
declarations : heading_tokens record bare {
  formals = 2;
  vars = plain W64 ∷ variable W64 (codes "kind") false ∷ plain W64 ∷ plain W64 ∷ variable W32 [] true ∷ [];
  stack = stack_label 8 ∷ stack_bytes 8 8 ∷ stack_bytes 8 0 ∷ stack_bytes 1 5 ∷ [];
} ≡ 35
unfolding opened
declarations = refl
