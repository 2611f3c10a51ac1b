-- Operands of expressions: what they give, which temporaries they rest on, and how many nodes there are.
use Rattle.std.proofs.Common.{◌≡◌, ℕ, suc, ◌+◌, ◌-◌, ◌<◌, ◌≤◌, ◌&&◌, ◌||◌, nat_lt, Bool, true, false, Ok, refl, ap, ◌∙◌, arith}
use Rattle.cmm_words.specs.declared.width.Width.{Width}
use Rattle.cmm_words.specs.Widths.{bits}
use Rattle.cmm_program.specs.declared.expression.Expression.{Expression, Row_of-Expression, more_of-Expression}
use Rattle.cmm_program.specs.declared.expression.Expression.TheVariants.{Known, Variable, Register, Stackdata, Continuation, Load', Unary', Binary', SignExtend', ZeroExtend', LowBits'}
use Rattle.cmm_program.specs.Values.{Reads, value_of}
use mathlib.Core.Former.{one_more}
use Rattle.cmm_graph.specs.declared.number.Temporary.{Temporary}
use Rattle.cmm_graph.specs.declared.operand.Local.TheVariants as local
use Rattle.cmm_graph.specs.declared.operand.Operand.{Operand}
use Rattle.cmm_graph.specs.declared.operand.Operand.TheVariants as operand
use Rattle.cmm_graph.specs.GraphControl.{held_by}
use Rattle.cmm_graph.specs.Values.{operand_value}
use Rattle.cmm_graph.specs.Covering.{extra_tokens, is_constant_operand, is_label_operand, operator_tokens}
use Rattle.cmm_flow.specs.Operands.{is_plain, nodes, nodes_in, operand_in, operand_of, temporary}

-- what an expression that is an operand itself gives
pub plain_value : (temporaries : Temporary → ℕ) (base : ℕ) (r : Reads) (e : Expression) → is_plain e ≡ true →
    operand_value (held_by temporaries) (operand_of base e) r ≡ value_of e r
plain_value temporaries base r (Known value) is = refl
plain_value temporaries base r (Variable number width) is = refl
plain_value temporaries base r (Stackdata number) is = refl
plain_value temporaries base r (Continuation number) is = refl
plain_value temporaries base r (ZeroExtend' from to _ (more_of-Expression a rest)) is = plain_value temporaries base r a is
plain_value temporaries base r e is = grind (arith, is)

-- an operand rests on no temporary but that of the base
abbrev pub RestsOn : ℕ → Operand → Type 0
RestsOn base (operand.Local (local.Temporary t)) = t.number ≡ base
RestsOn base _ = Unit {0}

pub rests : (base : ℕ) (e : Expression) → RestsOn base (operand_of base e)
rests base (Known value) = tt
rests base (Variable number width) = tt
rests base (Stackdata number) = tt
rests base (Continuation number) = tt
rests base (ZeroExtend' from to _ (more_of-Expression a rest)) = rests base a
rests base e = refl

-- the temporaries below a number are the same
abbrev pub AreSameBelow : ℕ → (Temporary → ℕ) → (Temporary → ℕ) → Type 0
AreSameBelow limit temporaries others = (u : Temporary) → u.number < limit → others u ≡ temporaries u

-- so an operand gives the same once temporaries above its base have changed
operand_kept : (base limit : ℕ) (temporaries others : Temporary → ℕ) (r : Reads) (o : Operand) → RestsOn base o → base < limit →
    AreSameBelow limit temporaries others → operand_value (held_by others) o r ≡ operand_value (held_by temporaries) o r
operand_kept base limit temporaries others r (operand.Constant c) on less same = refl
operand_kept base limit temporaries others r (operand.Local (local.Variable v)) on less same = refl
operand_kept base limit temporaries others r (operand.Local (local.Temporary t)) on less same = ap Ok (same t (omega (arith, on, less)))
operand_kept base limit temporaries others r (operand.Stackdata label) on less same = refl
operand_kept base limit temporaries others r (operand.Continuation k) on less same = refl

pub value_kept : (base limit : ℕ) (temporaries others : Temporary → ℕ) (r : Reads) (e : Expression) → base < limit →
    AreSameBelow limit temporaries others →
    operand_value (held_by others) (operand_of base e) r ≡ operand_value (held_by temporaries) (operand_of base e) r
value_kept base limit temporaries others r e less same = operand_kept base limit temporaries others r (operand_of base e) (rests base e) less same

-- ---- tokens of operators

some_or_two : (b : Bool) → (1 ≤ elim b as (λ _. ℕ) [ true ↦ 2 | false ↦ 1 ]) × (elim b as (λ _. ℕ) [ true ↦ 2 | false ↦ 1 ] ≤ 2)
some_or_two true = (omega arith, omega arith)
some_or_two false = (omega arith, omega arith)

-- an operator has one token or two
pub operator_some : (width : Width) (a b : Operand) → 1 ≤ operator_tokens width a b
operator_some width a b =
    (some_or_two ((is_constant_operand a && is_constant_operand b) || (nat_lt (bits width) 64 && (is_label_operand a || is_label_operand b)))).0

pub operator_most : (width : Width) (a b : Operand) → operator_tokens width a b ≤ 2
operator_most width a b =
    (some_or_two ((is_constant_operand a && is_constant_operand b) || (nat_lt (bits width) 64 && (is_label_operand a || is_label_operand b)))).1

-- a constant has a token of its own in the text, and no node
abbrev pub spare : Operand → ℕ
spare o = elim (is_constant_operand o) [ true ↦ 1 | false ↦ 0 ]

spare_few : (o : Operand) → spare o ≤ 1
spare_few o = by (is_constant_operand o) where
  by : (b : Bool) → elim b as (λ _. ℕ) [ true ↦ 1 | false ↦ 0 ] ≤ 1
  by true = omega arith
  by false = omega arith

label_constant : (o : Operand) → is_label_operand o ≡ true → is_constant_operand o ≡ true
label_constant (operand.Constant c) is = refl
label_constant (operand.Local l) is = absurd (cc)
label_constant (operand.Stackdata label) is = absurd (cc)
label_constant (operand.Continuation k) is = absurd (cc)

spare_by : (c d narrow x y : Bool) → (x ≡ true → c ≡ true) → (y ≡ true → d ≡ true) →
    elim ((c && d) || (narrow && (x || y))) as (λ _. ℕ) [ true ↦ 2 | false ↦ 1 ]
    ≤ elim c as (λ _. ℕ) [ true ↦ 1 | false ↦ 0 ] + elim d as (λ _. ℕ) [ true ↦ 1 | false ↦ 0 ] + 1
spare_by true d narrow x y left right = omega (arith, (some_or_two ((true && d) || (narrow && (x || y)))).1)
spare_by false true narrow x y left right = omega (arith, (some_or_two ((false && true) || (narrow && (x || y)))).1)
spare_by false false narrow true y left right = absurd (let is = left refl in cc)
spare_by false false narrow false true left right = absurd (let is = right refl in cc)
spare_by false false true false false left right = omega arith
spare_by false false false false false left right = omega arith

-- so the tokens of an operator are those that its constants have, and one
pub operator_spare : (width : Width) (a b : Operand) → operator_tokens width a b ≤ spare a + spare b + 1
operator_spare width a b =
    spare_by (is_constant_operand a) (is_constant_operand b) (nat_lt (bits width) 64) (is_label_operand a) (is_label_operand b) (label_constant a) (label_constant b)

-- an operand is a constant, or a label, at each base
same_constant : (base other : ℕ) (e : Expression) → is_constant_operand (operand_of base e) ≡ is_constant_operand (operand_of other e)
same_constant base other (ZeroExtend' from to _ (more_of-Expression a rest)) = same_constant base other a
same_constant base other e = refl

same_label : (base other : ℕ) (e : Expression) → is_label_operand (operand_of base e) ≡ is_label_operand (operand_of other e)
same_label base other (ZeroExtend' from to _ (more_of-Expression a rest)) = same_label base other a
same_label base other e = refl

-- so operators have as many tokens at each base
pub operator_alike : {i j : _} (width : Width) (base : ℕ) (a : Row_of-Expression (one_more i)) (b : Row_of-Expression (one_more j)) →
    operator_tokens width (operand_in base a) (operand_in (suc base) b) ≡ operator_tokens width (operand_in 0 a) (operand_in 1 b)
operator_alike width base (more_of-Expression a rest) (more_of-Expression b more) =
    let narrow = nat_lt (bits width) 64 in
    let count : Bool → Bool → Bool → Bool → ℕ = λ c d x y. elim ((c && d) || (narrow && (x || y))) as (λ _. ℕ) [ true ↦ 2 | false ↦ 1 ] in
    let a_constant = is_constant_operand (operand_of base a) in
    let b_constant = is_constant_operand (operand_of (suc base) b) in
    let a_label = is_label_operand (operand_of base a) in
    let b_label = is_label_operand (operand_of (suc base) b) in
    ap (λ c. count c b_constant a_label b_label) (same_constant base 0 a)
    ∙ ap (λ d. count (is_constant_operand (operand_of 0 a)) d a_label b_label) (same_constant (suc base) 1 b)
    ∙ ap (λ x. count (is_constant_operand (operand_of 0 a)) (is_constant_operand (operand_of 1 b)) x b_label) (same_label base 0 a)
    ∙ ap (λ y. count (is_constant_operand (operand_of 0 a)) (is_constant_operand (operand_of 1 b)) (is_label_operand (operand_of 0 a)) y) (same_label (suc base) 1 b)

-- ---- counts

abbrev mutual
  -- the nodes of an expression's value but the last one
  pub inner : Expression → ℕ
  inner (Load' width aligned _ address) = nodes_in address + extra_tokens width aligned
  inner (Unary' op width _ a) = nodes_in a
  inner (Binary' op width _ a _ b) = nodes_in a + nodes_in b + (operator_tokens width (operand_in 0 a) (operand_in 1 b) - 1)
  inner (SignExtend' from to _ a) = nodes_in a
  inner (ZeroExtend' from to _ a) = inner_in a
  inner (LowBits' from to _ a) = nodes_in a
  inner _ = 0

  pub inner_in : {n : _} → Row_of-Expression (one_more n) → ℕ
  inner_in (more_of-Expression a rest) = inner a

pub nodes_inner : (e : Expression) → is_plain e ≡ false → inner e + 1 ≡ nodes e
nodes_inner (Known value) is = grind (arith, is)
nodes_inner (Variable number width) is = grind (arith, is)
nodes_inner (Stackdata number) is = grind (arith, is)
nodes_inner (Continuation number) is = grind (arith, is)
nodes_inner (ZeroExtend' from to _ (more_of-Expression a rest)) is = nodes_inner a is
nodes_inner (Register number width) is = refl
nodes_inner (Load' width aligned _ (more_of-Expression a rest)) is = omega arith
nodes_inner (Unary' op width _ (more_of-Expression a rest)) is = refl
nodes_inner (Binary' op width _ (more_of-Expression a rest) _ (more_of-Expression b more)) is = omega (arith, operator_some width (operand_of 0 a) (operand_of 1 b))
nodes_inner (SignExtend' from to _ (more_of-Expression a rest)) is = refl
nodes_inner (LowBits' from to _ (more_of-Expression a rest)) is = refl

-- the nodes of the value itself are at most one more than those of the operand
pub inner_nodes : (e : Expression) → inner e ≤ nodes e
inner_nodes (ZeroExtend' from to _ (more_of-Expression a rest)) = inner_nodes a
inner_nodes (Load' width aligned _ (more_of-Expression a rest)) = omega arith
inner_nodes (Unary' op width _ (more_of-Expression a rest)) = omega arith
inner_nodes (Binary' op width _ (more_of-Expression a rest) _ (more_of-Expression b more)) = omega arith
inner_nodes (SignExtend' from to _ (more_of-Expression a rest)) = omega arith
inner_nodes (LowBits' from to _ (more_of-Expression a rest)) = omega arith
inner_nodes e = omega arith

-- the value of an expression that is no operand itself is in the temporary at the base
pub in_temporary : (base : ℕ) (e : Expression) → is_plain e ≡ false → operand_of base e ≡ temporary base
in_temporary base (Known value) is = grind (arith, is)
in_temporary base (Variable number width) is = grind (arith, is)
in_temporary base (Stackdata number) is = grind (arith, is)
in_temporary base (Continuation number) is = grind (arith, is)
in_temporary base (ZeroExtend' from to _ (more_of-Expression a rest)) is = in_temporary base a is
in_temporary base e is = refl

-- an expression that is an operand itself has no node
pub plain_nodes : (e : Expression) → is_plain e ≡ true → nodes e ≡ 0
plain_nodes (Known value) is = refl
plain_nodes (Variable number width) is = refl
plain_nodes (Stackdata number) is = refl
plain_nodes (Continuation number) is = refl
plain_nodes (ZeroExtend' from to _ (more_of-Expression a rest)) is = plain_nodes a is
plain_nodes e is = grind (arith, is)

-- the nodes of an operand, with the token that a constant has, are at most those of its value
pub operand_nodes : (base : ℕ) (e : Expression) → nodes e + spare (operand_of base e) ≤ inner e + 1
operand_nodes base e = by (is_plain e) refl
  where
    by : (plain : Bool) → is_plain e ≡ plain → nodes e + spare (operand_of base e) ≤ inner e + 1
    by true plain = omega (arith, plain_nodes e plain, spare_few (operand_of base e))
    by false plain = omega (arith, nodes_inner e plain, ap spare (in_temporary base e plain))
