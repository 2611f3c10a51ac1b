-- In a graph in range a node leads only to nodes where a run may stand, and so does each landing.
use Rattle.std.proofs.Common.{◌≡◌, ℕ, zero, suc, ◌&&◌, nat_lt, refl, arith, Bool, false, IsTrue, List, slice_get, Option, Some, None}
use Rattle.std.proofs.lemmas.Bool.{and_parts}
use Rattle.std.specs.List.{list_all}
use Rattle.cmm_program.proofs.Shared.{list_all_get}
use Rattle.cmm_graph.specs.Acting.{led}
use Rattle.cmm_graph.specs.GraphControl.{behind, normal_of}
use Rattle.cmm_graph.specs.Paths.{landing_of, node_of}
use Rattle.cmm_graph.specs.Ranges.{IsValid, are_exits, is_arm, is_copy_in, is_kind, is_node, is_operand, is_step, leads_to}
use Rattle.cmm_graph.specs.declared.graph.Graph.{Graph}
use Rattle.cmm_graph.specs.declared.node.Arm.{Arm}
use Rattle.cmm_graph.specs.declared.node.Exits.{Exits}
use Rattle.cmm_graph.specs.declared.node.Node.{Node}
use Rattle.cmm_graph.specs.declared.node.NodeKind.{NodeKind}
use Rattle.cmm_graph.specs.declared.node.NodeKind.TheVariants.{CopyIn, Assign, Store, Branch, Switch, Call, Yield, Host, Goto}
use Rattle.cmm_graph.specs.declared.number.ContinuationId.{ContinuationId}
use Rattle.cmm_graph.specs.declared.number.NodeId.{NodeId}

module _ (g : Graph) where
  -- a node to which another leads
  pub record IsThere (test : NodeKind → Bool) (n : NodeId) : Type 0 where
    pub node : Node
    pub is : node_of g n ≡ Some node
    pub passes : IsTrue (test node.kind)

  pub led_there : (test : NodeKind → Bool) (n : NodeId) → IsTrue (leads_to g test n) → IsThere test n
  led_there test n leads = by (node_of g n) refl leads
    where
      by : (o : Option Node) → node_of g n ≡ o → IsTrue (elim o as (λ _. Bool) [ Some node ↦ test node.kind | None ↦ false ]) → IsThere test n
      by (Some node) is passes = record { node = node; is = is; passes = passes }
      by None is passes = absurd (cc (passes))

  -- one of the arms, or behind them all
  to_arm : (way : ℕ) (arms : List Arm) (otherwise n : NodeId) → IsTrue (list_all (is_arm g) arms) → IsTrue (leads_to g is_step otherwise) →
      elim (slice_get arms way) [ Some arm ↦ Some arm.to | None ↦ Some otherwise ] ≡ Some n → IsTrue (leads_to g is_step n)
  to_arm way arms otherwise n all last is = by (slice_get arms way) refl is
    where
      by : (o : Option Arm) → slice_get arms way ≡ o → elim o [ Some arm ↦ Some arm.to | None ↦ Some otherwise ] ≡ Some n →
          IsTrue (leads_to g is_step n)
      by (Some arm) found is = grind (arith, is, list_all_get (is_arm g) arms way arm all found)
      by None found is = grind (arith, is, last)

  -- where a node leads by a way, a run may stand
  pub led_to_step : (way : ℕ) (kind : NodeKind) (n : NodeId) → IsTrue (is_kind g kind) → led way kind ≡ Some n → IsTrue (leads_to g is_step n)
  led_to_step zero (Branch test then_ otherwise) n range is = grind (arith, range, is)
  led_to_step (suc way) (Branch test then_ otherwise) n range is = grind (arith, range, is)
  led_to_step way (Assign to value next) n range is = grind (arith, range, is)
  led_to_step way (Store width aligned address value next) n range is = grind (arith, range, is)
  led_to_step way (Switch value arms otherwise) n range is =
      let parts = and_parts (is_operand g value && list_all (is_arm g) arms) (leads_to g is_step otherwise) range in
      to_arm way arms otherwise n (and_parts (is_operand g value) (list_all (is_arm g) arms) parts.0).1 parts.1 is
  led_to_step way (Host call next) n range is = grind (arith, range, is)
  led_to_step way (Goto next) n range is = grind (arith, range, is)
  led_to_step way kind n range is = absurd (cc)

  -- the normal exit of a site leads to a CopyIn
  exits_lead : (exits : Exits) (n : NodeId) → IsTrue (are_exits g exits) → exits.normal ≡ Some n → IsTrue (leads_to g is_copy_in n)
  exits_lead exits n range is = grind (arith, range, is)

  pub normal_to_copy : (kind : NodeKind) (n : NodeId) → IsTrue (is_kind g kind) → normal_of kind ≡ Some n → IsTrue (leads_to g is_copy_in n)
  normal_to_copy (Call site callee arguments exits) n range is = exits_lead exits n (grind (arith, range)) is
  normal_to_copy (Yield site values exits) n range is = exits_lead exits n (grind (arith, range)) is
  normal_to_copy kind n range is = absurd (cc)

  -- behind a CopyIn a run may stand
  pub behind_copy : (kind : NodeKind) (n : NodeId) → IsTrue (is_kind g kind) → IsTrue (is_copy_in kind) → IsTrue (leads_to g is_step (behind kind n))
  behind_copy (CopyIn to next) n range is = grind (arith, range)
  behind_copy kind n range is = absurd (cc (is))

  module _ (valid : IsValid g) where
    -- a node that is there is in range
    pub kind_in_range : (n : NodeId) (node : Node) → node_of g n ≡ Some node → IsTrue (is_kind g node.kind)
    kind_in_range n node is = (and_parts (nat_lt 0 node.tokens) (is_kind g node.kind) (list_all_get (is_node g) g.nodes n.number node valid.nodes is)).1

    -- the landing of a continuation is a CopyIn
    pub landing_to_copy : (k : ContinuationId) (n : NodeId) → landing_of g k ≡ Some n → IsTrue (leads_to g is_copy_in n)
    landing_to_copy k n is = list_all_get (leads_to g is_copy_in) g.continuations k.number n valid.continuations is
