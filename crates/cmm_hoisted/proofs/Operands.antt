-- The operands of a node in range are in range, and so are the locals that they read.
use Rattle.std.proofs.Common.{◌≡◌, inl, inr, refl, subst, arith, List, [], ◌∷◌, flat_map}
use Rattle.std.proofs.lemmas.Bool.{and_parts}
use Rattle.std.proofs.lemmas.List.Elements.{Contains-append_cases}
use Rattle.std.specs.Prelude.{IsTrue, Contains}
use Rattle.std.specs.List.{list_all}
use Rattle.cmm_graph.specs.Paths.{operands, operands_of_rvalue, read_by, values_of}
use Rattle.cmm_graph.specs.Ranges.{is_argument, is_kind, is_local, is_operand, is_rvalue}
use Rattle.cmm_graph.specs.declared.graph.Graph.{Graph}
use Rattle.cmm_graph.specs.declared.node.HostCall.TheVariants.{PutByte, GetByte}
use Rattle.cmm_graph.specs.declared.node.NodeKind.{NodeKind}
use Rattle.cmm_graph.specs.declared.node.NodeKind.TheVariants.{Assign, Store as StoreNode, Branch, Switch, Call, Yield, Jump, Cut, Return, Host}
use Rattle.cmm_graph.specs.declared.operand.Argument.{Argument}
use Rattle.cmm_graph.specs.declared.operand.Local.{Local}
use Rattle.cmm_graph.specs.declared.operand.Operand.{Operand}
use Rattle.cmm_graph.specs.declared.operand.Operand.TheVariants as operand
use Rattle.cmm_graph.specs.declared.operand.Rvalue.{Rvalue}
use Rattle.cmm_graph.specs.declared.operand.Rvalue.TheVariants as rvalue

module _ (g : Graph) where
  all_values : (arguments : List Argument) → IsTrue (list_all (is_argument g) arguments) → IsTrue (list_all (is_operand g) (values_of arguments))
  all_values [] all = refl
  all_values (a ∷ arguments) all = grind (arith, all, all_values arguments)

  pub rvalue_operands : (value : Rvalue) → IsTrue (is_rvalue g value) → IsTrue (list_all (is_operand g) (operands_of_rvalue value))
  rvalue_operands (rvalue.Copy o) is = grind (arith, is)
  rvalue_operands (rvalue.Register r) is = refl
  rvalue_operands (rvalue.Load width aligned address) is = grind (arith, is)
  rvalue_operands (rvalue.Unary operator width o) is = grind (arith, is)
  rvalue_operands (rvalue.Binary operator width left right) is = grind (arith, is)
  rvalue_operands (rvalue.Compare c) is = grind (arith, is)
  rvalue_operands (rvalue.SignExtend from to o) is = grind (arith, is)
  rvalue_operands (rvalue.LowBits from to o) is = grind (arith, is)

  pub kind_operands : (kind : NodeKind) → IsTrue (is_kind g kind) → IsTrue (list_all (is_operand g) (operands kind))
  kind_operands (Assign to value next) is = rvalue_operands value (grind (arith, is))
  kind_operands (StoreNode width aligned address value next) is = grind (arith, is)
  kind_operands (Branch test then_ otherwise) is = grind (arith, is)
  kind_operands (Switch value arms otherwise) is = grind (arith, is)
  kind_operands (Call site callee arguments exits) is = grind (arith, is, all_values arguments)
  kind_operands (Yield site values exits) is = grind (arith, is)
  kind_operands (Jump callee arguments) is = grind (arith, is, all_values arguments)
  kind_operands (Cut to arguments own) is = grind (arith, is, all_values arguments)
  kind_operands (Return exit alternates results) is = grind (arith, is, all_values results)
  kind_operands (Host (PutByte value) next) is = grind (arith, is)
  kind_operands (Host (GetByte to) next) is = refl
  kind_operands kind is = refl

  one_local : (o : Operand) → IsTrue (is_operand g o) → (l : Local) → Contains (read_by o) l → IsTrue (is_local g l)
  one_local (operand.Local m) is l among = let same : m ≡ l = grind (arith, among) in subst (λ (x : Local). IsTrue (is_local g x)) same is
  one_local (operand.Constant c) is l among = absurd (grind (arith, among))
  one_local (operand.Stackdata label) is l among = absurd (grind (arith, among))
  one_local (operand.Continuation k) is l among = absurd (grind (arith, among))

  -- so are the locals that they read
  pub locals_read : (os : List Operand) → IsTrue (list_all (is_operand g) os) → (l : Local) → Contains (flat_map read_by os) l → IsTrue (is_local g l)
  locals_read [] all l among = absurd (grind (arith, among))
  locals_read (o ∷ os) all l among =
      let parts = and_parts (is_operand g o) (list_all (is_operand g) os) all in
      elim (Contains-append_cases (read_by o) (flat_map read_by os) l among) [
        | inl here ↦ one_local o parts.0 l here
        | inr later ↦ locals_read os parts.1 l later
      ]
