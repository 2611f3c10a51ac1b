-- What a node asks for of a store where temporaries keep some of its constants.
use Rattle.std.proofs.Common.{◌≡◌, ℕ, ◌<◌, inl, inr, refl, sym, ◌∙◌, ap, arith, List, flat_map}
use Rattle.std.proofs.lemmas.Bool.{and_parts}
use Rattle.std.proofs.lemmas.Bool.Decides.{nat_tests}
use Rattle.std.specs.Prelude.{◌&&◌, slice_get, IsTrue, Ok, Some}
use Rattle.std.specs.List.{list_all}
use Rattle.cmm_words.specs.declared.constant.Constant.{Constant}
use Rattle.cmm_program.specs.Acts.{evaluated}
use Rattle.cmm_program.specs.Layout.{constant_value}
use Rattle.cmm_program.specs.State.{Setting, Store}
use Rattle.cmm_program.specs.Values.{Reads, Value}
use Rattle.cmm_program.specs.Typing.{is_alignment}
use Rattle.cmm_program.specs.Writes.{reads_of}
use Rattle.cmm_graph.specs.Acting.{Keeping, act_of}
use Rattle.cmm_graph.specs.GraphControl.{held_by, put_to}
use Rattle.cmm_graph.specs.Laws.{HoldAlike, OrderIsByReads, ValueIsByReads}
use Rattle.cmm_graph.specs.Paths.{operands, operands_of_rvalue, read_by, reads}
use Rattle.cmm_graph.specs.Ranges.{is_kind, is_local, is_operand, is_rvalue, is_step, is_test, leads_to}
use Rattle.cmm_graph.specs.Values.{operand_value, rvalue_value, test_value}
use Rattle.cmm_graph.specs.declared.graph.Graph.{Graph}
use Rattle.cmm_graph.specs.declared.node.NodeKind.{NodeKind}
use Rattle.cmm_graph.specs.declared.node.NodeKind.TheVariants.{Assign}
use Rattle.cmm_graph.specs.declared.number.Temporary.{Temporary}
use Rattle.cmm_graph.specs.declared.operand.Comparison.{Comparison}
use Rattle.cmm_graph.specs.declared.operand.Destination.{Destination}
use Rattle.cmm_graph.specs.declared.operand.Destination.TheVariants as destination
use Rattle.cmm_graph.specs.declared.operand.Local.{Local}
use Rattle.cmm_graph.specs.declared.operand.Local.TheVariants as local
use Rattle.cmm_graph.specs.declared.operand.Operand.{Operand}
use Rattle.cmm_graph.specs.declared.operand.Operand.TheVariants as operand
use Rattle.cmm_graph.specs.declared.operand.Rvalue.{Rvalue}
use Rattle.cmm_hoist.specs.Keeping.{KindStandsFor, OperandStandsFor, RvalueStandsFor, TestStandsFor, keeper}
use Rattle.cmm_hoist.specs.Keeping.{Assigns, Stores, Branches, SameKind}
use Rattle.cmm_hoist.specs.Keeping.{Copies, Loads, Computes, Tests, SameRvalue}
use Rattle.cmm_hoist.specs.Keeping.{Compares}
use Rattle.cmm_hoisted.proofs.Operands.{kind_operands, locals_read, rvalue_operands}

-- ---- temporaries that agree below, and keep constants

module _ (g : Graph) (kept : List Constant) (s : Setting) (store : Store) (before now : Temporary → ℕ)
    (below : (t : Temporary) → t.number < g.temporaries → now t ≡ before t)
    (keeps : (k : ℕ) (constant : Constant) → slice_get kept k ≡ Some constant →
    now (keeper g.temporaries k) ≡ constant_value s.program s.placement constant) where
  abbrev r : Reads
  r = reads_of s store

  -- what is held before, and now
  abbrev was : Local → Value
  was = held_by before

  abbrev is_held : Local → Value
  is_held = held_by now

  local_same : (l : Local) → IsTrue (is_local g l) → is_held l r ≡ was l r
  local_same (local.Variable v) is = refl
  local_same (local.Temporary t) is = ap (λ (x : ℕ). Ok x) (below t (grind (arith, nat_tests, is)))

  -- what a node reads is the same
  hold_alike : (os : List Operand) → IsTrue (list_all (is_operand g) os) → HoldAlike is_held was r r.variable (flat_map read_by os)
  hold_alike os all l among = local_same l (locals_read g os all l among)

  operand_same : (o : Operand) → IsTrue (is_operand g o) → operand_value is_held o r ≡ operand_value was o r
  operand_same (operand.Constant c) is = refl
  operand_same (operand.Local l) is = local_same l is
  operand_same (operand.Stackdata label) is = refl
  operand_same (operand.Continuation k) is = refl

  -- an operand that stands for one in range has the same value
  stands_same : (o p : Operand) → OperandStandsFor g.temporaries kept o p → IsTrue (is_operand g o) → operand_value is_held p r ≡ operand_value was o r
  stands_same o p (inl same) is = ap (λ (x : Operand). operand_value is_held x r) same ∙ operand_same o is
  stands_same o p (inr k) is =
      ap (λ (x : Operand). operand_value is_held x r) k.is
      ∙ (ap (λ (x : ℕ). Ok x) (keeps k.index k.constant k.is_kept) ∙ sym (ap (λ (x : Operand). operand_value was x r) k.was))

  test_same : (a b : Comparison) → TestStandsFor g.temporaries kept a b → IsTrue (is_test g a) → test_value is_held b r ≡ test_value was a r
  test_same a b (Compares c left right first second) is =
      let parts = and_parts (is_operand g c.left) (is_operand g c.right) is in
      grind (arith, stands_same c.left left first parts.0, stands_same c.right right second parts.1)

  module _ (by_values : ValueIsByReads) (by_reads : OrderIsByReads) where
    value_same : (a b : Rvalue) → RvalueStandsFor g.temporaries kept a b → IsTrue (is_rvalue g a) → rvalue_value is_held b r ≡ rvalue_value was a r
    value_same a b (Copies o p first) is = grind (arith, stands_same o p first is)
    value_same a b (Loads width aligned o p first) is = grind (arith, stands_same o p first (and_parts (is_alignment aligned) (is_operand g o) is).1)
    value_same a b (Computes operator width o p x y first second) is =
        let parts = and_parts (is_operand g o) (is_operand g p) is in
        grind (arith, stands_same o x first parts.0, stands_same p y second parts.1)
    value_same a b (Tests c d test) is = grind (arith, test_same c d test is)
    value_same a b (SameRvalue value) is =
        by_values is_held was r r.variable value (hold_alike (operands_of_rvalue value) (rvalue_operands g value is))

    abbrev keep : (Temporary → ℕ) → Keeping
    keep temporaries = record { held = held_by temporaries; put = put_to }

    put_same : (to : Destination) (v w : Value) → w r ≡ v r → evaluated r (put_to to w) ≡ evaluated r (put_to to v)
    put_same (destination.Target target) v w e = rw e refl
    put_same (destination.Temporary t) v w e = rw e refl

    -- a node that stands for one in range asks for the same
    pub order_same : (a b : NodeKind) → KindStandsFor g.temporaries kept a b → IsTrue (is_kind g a) →
        evaluated r (act_of (keep now) b) ≡ evaluated r (act_of (keep before) a)
    order_same a b (Assigns to v w next value) is = put_same to (rvalue_value was v) (rvalue_value is_held w) (value_same v w value (grind (arith, is)))
    order_same a b (Stores width aligned address value place stored next first second) is =
        let three = (and_parts (is_alignment aligned && is_operand g address && is_operand g value) (leads_to g is_step next) is).0 in
        let two = and_parts (is_alignment aligned && is_operand g address) (is_operand g value) three in
        let one = (and_parts (is_alignment aligned) (is_operand g address) two.0).1 in
        grind (arith, stands_same address place first one, stands_same value stored second two.1)
    order_same a b (Branches t u then_ otherwise test) is =
        let two = (and_parts (is_test g t && leads_to g is_step then_) (leads_to g is_step otherwise) is).0 in
        grind (arith, test_same t u test (and_parts (is_test g t) (leads_to g is_step then_) two).0)
    order_same a b (SameKind kind) is = by kind is (hold_alike (operands kind) (kind_operands g kind is))
      where
        by : (kind : NodeKind) → IsTrue (is_kind g kind) → HoldAlike is_held was r r.variable (reads kind) →
            evaluated r (act_of (keep now) kind) ≡ evaluated r (act_of (keep before) kind)
        by (Assign to value next) is alike =
            put_same to (rvalue_value was value) (rvalue_value is_held value) (by_values is_held was r r.variable value alike)
        by kind is alike = by_reads (keep now) (keep before) r r.variable kind alike refl
