-- What is laid for expressions, conditions and assignments passes a test that each of their nodes passes.
use Rattle.std.proofs.Common.{ℕ, suc, IsTrue, Bool, true, List, [], ◌∷◌, ◌++◌, length, refl}
use Rattle.std.specs.List.{list_all}
use mathlib.Core.Former.{one_more}
use Rattle.cmm_words.specs.declared.operators.Cmp.{Cmp}
use Rattle.cmm_words.specs.declared.width.Width.{Width}
use Rattle.cmm_program.specs.declared.expression.Condition.{Condition, Row_of-Condition, more_of-Condition}
use Rattle.cmm_program.specs.declared.expression.Condition.TheVariants.{Compare, Not', Both', Either'}
use Rattle.cmm_program.specs.declared.expression.Expression.{Expression, Row_of-Expression, more_of-Expression}
use Rattle.cmm_program.specs.declared.statement.Lvalue.{Lvalue}
use Rattle.cmm_program.specs.declared.statement.Lvalue.TheVariants as lvalue
use Rattle.cmm_graph.specs.declared.node.Node.{Node}
use Rattle.cmm_graph.specs.declared.operand.Destination.{Destination}
use Rattle.cmm_graph.specs.declared.operand.Destination.TheVariants as destination
use Rattle.cmm_graph.specs.declared.operand.Operand.{Operand}
use Rattle.cmm_graph.specs.declared.operand.Rvalue.{Rvalue}
use Rattle.cmm_flow.specs.Code.{to_temporary}
use Rattle.cmm_flow.specs.Operands.{operand_of, temporary}
use Rattle.cmm_flow.specs.inside.Nodes.{assigned, branch, goto, nodes_of_addresses, nodes_of_assignment, nodes_of_operand, nodes_of_operands, nodes_of_passing, nodes_of_stores, nodes_of_test, nodes_of_test_part, nodes_of_two, nodes_of_value, nodes_of_values, stored}
use Rattle.cmm_flow.specs.inside.Parts.{rvalue_of}
use Rattle.cmm_flow.proofs.Laying.{and_both, both_pass}
use Rattle.cmm_flow.proofs.NodesPass.{FitAll, HoldsOfParts, In, operand_passes, operands_pass, value_passes}

-- ---- nothing is required of expressions

abbrev Any : ℕ → Expression → Type 0
Any base e = Unit {0}

any : {i : _} (base : ℕ) (row : Row_of-Expression (one_more i)) → In Any base row
any base (more_of-Expression a rest) = tt

parts : HoldsOfParts Any
parts = record {
  load = λ base width aligned i a fits. any base a;
  unary = λ base op width i a fits. any base a;
  binary = λ base op width i a j b fits. (any base a, any (suc base) b);
  sign_extend = λ base from to i a fits. any base a;
  zero_extend = λ base from to i a fits. any base a;
  low_bits = λ base from to i a fits. any base a;
}

all : (base : ℕ) (es : List Expression) → FitAll Any base es
all base [] = tt
all base (e ∷ es) = (tt, all (suc base) es)

-- ---- one node behind others, or in front of them

module _ (test : Node → Bool) where
  abbrev pub Passes : List Node → Type 0
  Passes nodes = IsTrue (list_all test nodes)

  pub behind : (xs : List Node) (x : Node) → Passes xs → IsTrue (test x) → Passes (xs ++ x ∷ [])
  behind xs x first last = both_pass test xs (x ∷ []) first (and_both (test x) true last refl)

  pub in_front : (x : Node) (xs : List Node) → IsTrue (test x) → Passes xs → Passes (x ∷ xs)
  in_front x xs first rest = and_both (test x) (list_all test xs) first rest

-- a test that each node of these passes
pub record HoldsOfNodes (test : Node → Bool) : Type 0 where
  pub right : (to : Destination) (value : Rvalue) → IsTrue (test (assigned to value))
  pub into : (l : Lvalue) (address value : Operand) → IsTrue (test (stored l address value))
  pub tests : (operator : Cmp) (width : Width) (a b : Expression) → IsTrue (test (branch operator width a b))
  pub goes : IsTrue (test goto)

module _ (test : Node → Bool) (holds : HoldsOfNodes test) where
  -- ---- expressions

  value : (base : ℕ) (to : Destination) (e : Expression) → Passes test (nodes_of_value base to e)
  value base to e =
      value_passes test Any parts (λ base e fits other. holds.right (to_temporary base) (rvalue_of base e)) base to e tt (holds.right to (rvalue_of base e))

  pub operand : (base : ℕ) (e : Expression) → Passes test (nodes_of_operand base e)
  operand base e = operand_passes test Any parts (λ base e fits other. holds.right (to_temporary base) (rvalue_of base e)) base e tt

  pub operands : (base : ℕ) (es : List Expression) → Passes test (nodes_of_operands base es)
  operands base es = operands_pass test Any parts (λ base e fits other. holds.right (to_temporary base) (rvalue_of base e)) base es (all base es)

  pub two : (a b : Expression) → Passes test (nodes_of_two a b)
  two a b = both_pass test (nodes_of_operand 0 a) (nodes_of_operand 1 b) (operand 0 a) (operand 1 b)

  values : (base : ℕ) (es : List Expression) → Passes test (nodes_of_values base es)
  values base [] = refl
  values base (e ∷ es) =
      both_pass test (nodes_of_value base (to_temporary base) e) (nodes_of_values (suc base) es) (value base (to_temporary base) e) (values (suc base) es)

  pub passing : (to : Expression) (es : List Expression) → Passes test (nodes_of_passing to es)
  passing to es = both_pass test (nodes_of_operand 0 to) (nodes_of_operands 1 es) (operand 0 to) (operands 1 es)

  -- ---- conditions

  mutual
    pub condition : (c : Condition) → Passes test (nodes_of_test c)
    condition (Compare operator width a b) = behind test (nodes_of_two a b) (branch operator width a b) (two a b) (holds.tests operator width a b)
    condition (Not' _ a) = part a
    condition (Both' _ a _ b) = both_pass test (nodes_of_test_part a) (nodes_of_test_part b) (part a) (part b)
    condition (Either' _ a _ b) = both_pass test (nodes_of_test_part a) (nodes_of_test_part b) (part a) (part b)

    part : {i : _} (row : Row_of-Condition (one_more i)) → Passes test (nodes_of_test_part row)
    part (more_of-Condition a rest) = condition a

  -- ---- assignments

  addresses : (base : ℕ) (ls : List Lvalue) → Passes test (nodes_of_addresses base ls)
  addresses base [] = refl
  addresses base (lvalue.Target target ∷ ls) = addresses (suc base) ls
  addresses base (lvalue.Memory width aligned address ∷ ls) =
      both_pass test (nodes_of_value base (to_temporary base) address) (nodes_of_addresses (suc base) ls) (value base (to_temporary base) address) (addresses (suc base) ls)

  stores : (ls : List Lvalue) (es : List Expression) (address from : ℕ) → Passes test (nodes_of_stores ls es address from)
  stores [] es address from = refl
  stores (l ∷ ls) [] address from = refl
  stores (l ∷ ls) (e ∷ es) address from =
      in_front test (stored l (temporary address) (temporary from)) (nodes_of_stores ls es (suc address) (suc from)) (holds.into l (temporary address) (temporary from))
      (stores ls es (suc address) (suc from))

  pub assignment : (to : List Lvalue) (es : List Expression) → Passes test (nodes_of_assignment to es)
  assignment to [] = in_front test goto [] holds.goes refl
  assignment (lvalue.Target target ∷ []) (e ∷ []) = value 0 (destination.Target target) e
  assignment (lvalue.Memory width aligned address ∷ []) (e ∷ []) =
      let l : Lvalue = lvalue.Memory width aligned address in
      behind test (nodes_of_two address e) (stored l (operand_of 0 address) (operand_of 1 e)) (two address e) (holds.into l (operand_of 0 address) (operand_of 1 e))
  assignment to (e ∷ es) =
      both_pass test (nodes_of_addresses 0 to) (nodes_of_values (length to) (e ∷ es) ++ nodes_of_stores to (e ∷ es) 0 (length to)) (addresses 0 to)
      (both_pass test (nodes_of_values (length to) (e ∷ es)) (nodes_of_stores to (e ∷ es) 0 (length to)) (values (length to) (e ∷ es)) (stores to (e ∷ es) 0 (length to)))
