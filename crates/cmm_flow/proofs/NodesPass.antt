-- The nodes that are laid for an expression pass a test, where something holds of the expression and of its parts that gives it.
use Rattle.std.proofs.Common.{◌≡◌, ℕ, suc, IsTrue, Bool, true, false, List, [], ◌∷◌, ◌++◌, refl}
use Rattle.std.specs.List.{list_all}
use mathlib.Core.Former.{one_more}
use Rattle.cmm_words.specs.declared.operators.Op1.{Op1}
use Rattle.cmm_words.specs.declared.operators.Op2.{Op2}
use Rattle.cmm_words.specs.declared.width.Width.{Width}
use Rattle.cmm_program.specs.declared.expression.Expression.{Expression, Row_of-Expression, more_of-Expression}
use Rattle.cmm_program.specs.declared.expression.Expression.TheVariants.{Known, Variable, Register, Stackdata, Continuation, Load', Unary', Binary', SignExtend', ZeroExtend', LowBits'}
use Rattle.cmm_graph.specs.declared.node.Node.{Node}
use Rattle.cmm_graph.specs.declared.operand.Destination.{Destination}
use Rattle.cmm_flow.specs.Code.{to_temporary}
use Rattle.cmm_flow.specs.Operands.{is_plain}
use Rattle.cmm_flow.specs.inside.Nodes.{assigned, nodes_of_operand, nodes_of_operands, nodes_of_part, nodes_of_parts, nodes_of_same, nodes_of_value}
use Rattle.cmm_flow.specs.inside.Parts.{rvalue_of}
use Rattle.cmm_flow.proofs.Laying.{and_both, both_pass}

-- of an operand behind its box
abbrev pub In : (ℕ → Expression → Type 0) → {i : _} → ℕ → Row_of-Expression (one_more i) → Type 0
In Fits base (more_of-Expression a rest) = Fits base a

-- what holds of an operator over temporaries from a base on holds of its operands
pub record HoldsOfParts (Fits : ℕ → Expression → Type 0) : Type 0 where
  pub load : (base : ℕ) (width : Width) (aligned : ℕ) (i a : _) → Fits base (Load' width aligned i a) → In Fits base a
  pub unary : (base : ℕ) (op : Op1) (width : Width) (i a : _) → Fits base (Unary' op width i a) → In Fits base a
  pub binary : (base : ℕ) (op : Op2) (width : Width) (i a j b : _) →
      Fits base (Binary' op width i a j b) → In Fits base a × In Fits (suc base) b
  pub sign_extend : (base : ℕ) (from to : Width) (i a : _) → Fits base (SignExtend' from to i a) → In Fits base a
  pub zero_extend : (base : ℕ) (from to : Width) (i a : _) → Fits base (ZeroExtend' from to i a) → In Fits base a
  pub low_bits : (base : ℕ) (from to : Width) (i a : _) → Fits base (LowBits' from to i a) → In Fits base a

-- of several operands, each with its base
abbrev pub FitAll : (ℕ → Expression → Type 0) → ℕ → List Expression → Type 0
FitAll Fits base [] = Unit {0}
FitAll Fits base (e ∷ es) = Fits base e × FitAll Fits (suc base) es

module _ (test : Node → Bool) (Fits : ℕ → Expression → Type 0) (parts : HoldsOfParts Fits)
    (assigns : (base : ℕ) (e : Expression) → Fits base e → is_plain e ≡ false → IsTrue (test (assigned (to_temporary base) (rvalue_of base e)))) where
  abbrev pub Pass : List Node → Type 0
  Pass nodes = IsTrue (list_all test nodes)

  -- one more behind others
  pub last_passes : (xs : List Node) (x : Node) → Pass xs → IsTrue (test x) → Pass (xs ++ x ∷ [])
  last_passes xs x first last = both_pass test xs (x ∷ []) first (and_both (test x) true last refl)

  mutual
    pub parts_pass : (base : ℕ) (e : Expression) → Fits base e → Pass (nodes_of_parts base e)
    parts_pass base (Load' width aligned i a) fits = part_passes base a (parts.load base width aligned i a fits)
    parts_pass base (Unary' op width i a) fits = part_passes base a (parts.unary base op width i a fits)
    parts_pass base (Binary' op width i a j b) fits =
        let both = parts.binary base op width i a j b fits in
        both_pass test (nodes_of_part base a) (nodes_of_part (suc base) b) (part_passes base a both.0) (part_passes (suc base) b both.1)
    parts_pass base (SignExtend' from to i a) fits = part_passes base a (parts.sign_extend base from to i a fits)
    parts_pass base (ZeroExtend' from to i a) fits = same_passes base a (parts.zero_extend base from to i a fits)
    parts_pass base (LowBits' from to i a) fits = part_passes base a (parts.low_bits base from to i a fits)
    parts_pass base (Known value) fits = refl
    parts_pass base (Variable number width) fits = refl
    parts_pass base (Register number width) fits = refl
    parts_pass base (Stackdata number) fits = refl
    parts_pass base (Continuation number) fits = refl

    part_passes : {i : _} (base : ℕ) (row : Row_of-Expression (one_more i)) → In Fits base row → Pass (nodes_of_part base row)
    part_passes base (more_of-Expression a rest) fits = by (parts_pass base a fits) (is_plain a) refl
      where
        by : Pass (nodes_of_parts base a) → (b : Bool) → is_plain a ≡ b → Pass (elim b as (λ _. List Node) [ true ↦ [] | false ↦ nodes_of_value base (to_temporary base) a ])
        by inner true plain = refl
        by inner false other = last_passes (nodes_of_parts base a) (assigned (to_temporary base) (rvalue_of base a)) inner (assigns base a fits other)

    same_passes : {i : _} (base : ℕ) (row : Row_of-Expression (one_more i)) → In Fits base row → Pass (nodes_of_same base row)
    same_passes base (more_of-Expression a rest) fits = parts_pass base a fits

  pub value_passes : (base : ℕ) (to : Destination) (e : Expression) → Fits base e → IsTrue (test (assigned to (rvalue_of base e))) → Pass (nodes_of_value base to e)
  value_passes base to e fits last = last_passes (nodes_of_parts base e) (assigned to (rvalue_of base e)) (parts_pass base e fits) last

  pub operand_passes : (base : ℕ) (e : Expression) → Fits base e → Pass (nodes_of_operand base e)
  operand_passes base e fits = by (is_plain e) refl
    where
      by : (b : Bool) → is_plain e ≡ b → Pass (elim b as (λ _. List Node) [ true ↦ [] | false ↦ nodes_of_value base (to_temporary base) e ])
      by true plain = refl
      by false other = value_passes base (to_temporary base) e fits (assigns base e fits other)

  pub operands_pass : (base : ℕ) (es : List Expression) → FitAll Fits base es → Pass (nodes_of_operands base es)
  operands_pass base [] fit = refl
  operands_pass base (e ∷ es) (first, rest) =
      both_pass test (nodes_of_operand base e) (nodes_of_operands (suc base) es) (operand_passes base e first) (operands_pass (suc base) es rest)
