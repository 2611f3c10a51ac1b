-- What a node asks for depends on the locals that it reads alone: by cases on operands, lists of them, right sides and nodes.
use Rattle.std.proofs.Common.{◌≡◌, ℕ, List, [], ◌∷◌, flat_map, refl, arith}
use Rattle.std.proofs.lemmas.List.Elements.{Contains-append_left, Contains-append_right}
use Rattle.cmm_program.specs.Values.{Reads, Value}
use Rattle.cmm_program.specs.Acts.{values_of, words_of}
use Rattle.cmm_graph.specs.declared.operand.Local.{Local}
use Rattle.cmm_graph.specs.declared.operand.Operand.{Operand}
use Rattle.cmm_graph.specs.declared.operand.Operand.TheVariants.{Constant, Local as OfLocal, Stackdata, Continuation}
use Rattle.cmm_graph.specs.declared.operand.Argument.{Argument}
use Rattle.cmm_graph.specs.declared.operand.Comparison.{Comparison}
use Rattle.cmm_graph.specs.declared.operand.Rvalue.{Rvalue}
use Rattle.cmm_graph.specs.declared.operand.Rvalue.TheVariants.{Copy, Register, Load, Unary, Binary, Compare, SignExtend, LowBits}
use Rattle.cmm_graph.specs.declared.node.HostCall.TheVariants.{PutByte, GetByte}
use Rattle.cmm_graph.specs.declared.node.NodeKind.TheVariants.{Entry, CopyIn, Assign, Store, Branch, Switch, Call, Yield, Jump, Cut, Return, Host, Goto, Stop}
use Rattle.cmm_graph.specs.Laws.{HoldAlike, ValueIsByReads, OrderIsByReads}
use Rattle.cmm_graph.specs.Paths.{read_by, values_of as argument_values, operands_of_rvalue}
use Rattle.cmm_graph.specs.Values.{operand_value, operand_values, passed, test_value, rvalue_value}

module _ (held other : Local → Value) (r : Reads) (variables : ℕ → ℕ) where
  abbrev t : Reads
  t = record r { variable = variables }

  -- both hold the same in each local that these operands read
  abbrev Alike : List Operand → Type 0
  Alike os = HoldAlike held other r variables (flat_map read_by os)

  first_alike : (o : Operand) (os : List Operand) → Alike (o ∷ os) → HoldAlike held other r variables (read_by o)
  first_alike o os alike v c = alike v (Contains-append_left (read_by o) (flat_map read_by os) v c)

  others_alike : (o : Operand) (os : List Operand) → Alike (o ∷ os) → Alike os
  others_alike o os alike v c = alike v (Contains-append_right (read_by o) (flat_map read_by os) v c)

  operand_alike : (o : Operand) → HoldAlike held other r variables (read_by o) → operand_value held o r ≡ operand_value other o t
  operand_alike (Constant c) alike = refl
  operand_alike (OfLocal l) alike = alike l (0, omega arith, refl)
  operand_alike (Stackdata label) alike = refl
  operand_alike (Continuation k) alike = refl

  one_alike : (o : Operand) (os : List Operand) → Alike (o ∷ os) → operand_value held o r ≡ operand_value other o t
  one_alike o os alike = operand_alike o (first_alike o os alike)

  two_alike : (a b : Operand) (os : List Operand) → Alike (a ∷ b ∷ os) → operand_value held b r ≡ operand_value other b t
  two_alike a b os alike = one_alike b os (others_alike a (b ∷ os) alike)

  operands_alike : (os : List Operand) → Alike os → values_of r (operand_values held os) ≡ values_of t (operand_values other os)
  operands_alike [] alike = refl
  operands_alike (o ∷ os) alike = grind (arith, one_alike o os alike, operands_alike os (others_alike o os alike))

  arguments_alike : (arguments : List Argument) → Alike (argument_values arguments) → words_of r (passed held arguments) ≡ words_of t (passed other arguments)
  arguments_alike [] alike = refl
  arguments_alike (a ∷ arguments) alike =
      grind (arith, one_alike a.value (argument_values arguments) alike, arguments_alike arguments (others_alike a.value (argument_values arguments) alike))

  test_alike : (c : Comparison) → Alike (c.left ∷ c.right ∷ []) → test_value held c r ≡ test_value other c t
  test_alike c alike = grind (arith, one_alike c.left (c.right ∷ []) alike, two_alike c.left c.right [] alike)

  rvalue_alike : (value : Rvalue) → Alike (operands_of_rvalue value) → rvalue_value held value r ≡ rvalue_value other value t
  rvalue_alike (Copy o) alike = grind (arith, one_alike o [] alike)
  rvalue_alike (Register n) alike = refl
  rvalue_alike (Load width aligned o) alike = grind (arith, one_alike o [] alike)
  rvalue_alike (Unary operator width o) alike = grind (arith, one_alike o [] alike)
  rvalue_alike (Binary operator width a b) alike = grind (arith, one_alike a (b ∷ []) alike, two_alike a b [] alike)
  rvalue_alike (Compare c) alike = grind (arith, test_alike c alike)
  rvalue_alike (SignExtend from to o) alike = grind (arith, one_alike o [] alike)
  rvalue_alike (LowBits from to o) alike = grind (arith, one_alike o [] alike)

-- the value of a right side
pub value_is_by_reads : ValueIsByReads
value_is_by_reads held other r variables value alike = rvalue_alike held other r variables value alike

-- and the order of a node
pub order_is_by_reads : OrderIsByReads
order_is_by_reads k l r variables (Assign to value next) alike is = grind (arith, is)
order_is_by_reads k l r variables (Store width aligned a b next) alike is =
    grind (arith, one_alike k.held l.held r variables a (b ∷ []) alike, two_alike k.held l.held r variables a b [] alike)
order_is_by_reads k l r variables (Branch test then_ otherwise) alike is = grind (arith, test_alike k.held l.held r variables test alike)
order_is_by_reads k l r variables (Switch value arms otherwise) alike is = grind (arith, one_alike k.held l.held r variables value [] alike)
order_is_by_reads k l r variables (Call site callee arguments exits) alike is =
    grind (
      arith,
      one_alike k.held l.held r variables callee (argument_values arguments) alike,
      arguments_alike k.held l.held r variables arguments (others_alike k.held l.held r variables callee (argument_values arguments) alike),
    )
order_is_by_reads k l r variables (Yield site values exits) alike is = grind (arith, operands_alike k.held l.held r variables values alike)
order_is_by_reads k l r variables (Jump callee arguments) alike is =
    grind (
      arith,
      one_alike k.held l.held r variables callee (argument_values arguments) alike,
      arguments_alike k.held l.held r variables arguments (others_alike k.held l.held r variables callee (argument_values arguments) alike),
    )
order_is_by_reads k l r variables (Cut to arguments own) alike is =
    grind (
      arith,
      one_alike k.held l.held r variables to (argument_values arguments) alike,
      arguments_alike k.held l.held r variables arguments (others_alike k.held l.held r variables to (argument_values arguments) alike),
    )
order_is_by_reads k l r variables (Return exit alternates results) alike is = grind (arith, arguments_alike k.held l.held r variables results alike)
order_is_by_reads k l r variables (Host (PutByte value) next) alike is = grind (arith, one_alike k.held l.held r variables value [] alike)
order_is_by_reads k l r variables (Host (GetByte to) next) alike is = refl
order_is_by_reads k l r variables (Entry formals next) alike is = refl
order_is_by_reads k l r variables (CopyIn to next) alike is = refl
order_is_by_reads k l r variables (Goto next) alike is = refl
order_is_by_reads k l r variables Stop alike is = refl
