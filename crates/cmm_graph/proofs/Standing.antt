-- In graphs in range no activation stands at an Entry or a CopyIn: a node leads only to nodes where a run may stand, and so do
-- Entries and CopyIns, behind which landings are done.
use Rattle.std.proofs.Common.{◌≡◌, ℕ, zero, suc, ◌&&◌, nat_lt, Bool, false, List, slice_get, All, IsTrue, Option, Some, None, refl, arith}
use Rattle.std.specs.List.{list_all}
use Rattle.std.proofs.lemmas.Bool.{and_parts}
use Rattle.std.proofs.lemmas.List.Elements.{All-from_recursion}
use Rattle.cmm_program.specs.Errors.{with_some}
use Rattle.cmm_graph.specs.declared.number.NodeId.{NodeId}
use Rattle.cmm_graph.specs.declared.node.Arm.{Arm}
use Rattle.cmm_graph.specs.declared.node.Node.{Node}
use Rattle.cmm_graph.specs.declared.node.NodeKind.{NodeKind}
use Rattle.cmm_graph.specs.declared.node.NodeKind.TheVariants.{Entry, CopyIn, Assign, Store, Branch, Switch, Call, Yield, Host, Goto, Stop}
use Rattle.cmm_graph.specs.declared.graph.Graph.{Graph}
use Rattle.cmm_graph.specs.Paths.{node_of, landing_of}
use Rattle.cmm_program.specs.Typing.{is_alignment}
use Rattle.cmm_graph.specs.declared.node.Exits.{Exits}
use Rattle.cmm_graph.specs.Ranges.{IsValid, are_exits, is_argument, is_arm, is_continuation, is_copy_in, is_destination, is_entry, is_host, is_kind, is_landing, is_node, is_normal, is_operand, is_rvalue, is_step, is_target, is_test, is_variable, leads_to}
use Rattle.cmm_graph.specs.Acting.{led}
use Rattle.cmm_graph.specs.GraphControl.{Position, graph_control, in_graph, kind_at, kind_here, behind, normal_of, moved_to, landed_at}
use Rattle.cmm_graph.specs.Laws.{RunsStandAtSteps}
use Rattle.cmm_program.proofs.Shared.{IsKept, in_runs, list_all_get, all_get}

-- ---- in one graph

module _ (g : Graph) where
  -- a node that is led to is there
  there : (test : NodeKind → Bool) (n : NodeId) → IsTrue (leads_to g test n) → (node : Node) × (node_of g n ≡ Some node) × IsTrue (test node.kind)
  there test n leads = by (node_of g n) refl leads where
    by : (o : Option Node) → node_of g n ≡ o → IsTrue (elim o [ Some node ↦ test node.kind | None ↦ false ]) → (node : Node) × (node_of g n ≡ Some node) × IsTrue (test node.kind)
    by (Some node) is holds = (node, is, holds)
    by None is holds = grind (arith, holds)

  to_arm : (way : ℕ) (arms : List Arm) (otherwise n : NodeId) → IsTrue (list_all (is_arm g) arms) → IsTrue (leads_to g is_step otherwise) →
      elim (slice_get arms way) [ Some arm ↦ Some arm.to | None ↦ Some otherwise ] ≡ Some n → IsTrue (leads_to g is_step n)
  to_arm way arms otherwise n all other is = by (slice_get arms way) refl is where
    by : (o : Option Arm) → slice_get arms way ≡ o → elim o [ Some arm ↦ Some arm.to | None ↦ Some otherwise ] ≡ Some n → IsTrue (leads_to g is_step n)
    by (Some arm) found is = grind (arith, is, list_all_get (is_arm g) arms way arm all found)
    by None found is = grind (arith, is, other)

  to_branch : (way : ℕ) (then_ otherwise n : NodeId) → IsTrue (leads_to g is_step then_) → IsTrue (leads_to g is_step otherwise) →
      elim way [ zero ↦ Some then_ | suc _ ↦ Some otherwise ] ≡ Some n → IsTrue (leads_to g is_step n)
  to_branch zero then_ otherwise n first second is = grind (arith, is, first)
  to_branch (suc way) then_ otherwise n first second is = grind (arith, is, second)

  -- where a node leads by a way, a run may stand
  led_to_step : (way : ℕ) (kind : NodeKind) (n : NodeId) → IsTrue (is_kind g kind) → led way kind ≡ Some n → IsTrue (leads_to g is_step n)
  led_to_step way (Assign to value next) n valid is =
      let leads = (and_parts (is_destination g to && is_rvalue g value) (leads_to g is_step next) valid).1 in grind (arith, is, leads)
  led_to_step way (Store width aligned address value next) n valid is =
      let leads = (and_parts (is_alignment aligned && is_operand g address && is_operand g value) (leads_to g is_step next) valid).1 in grind (arith, is, leads)
  led_to_step way (Branch test then_ otherwise) n valid is =
      let both = and_parts (is_test g test && leads_to g is_step then_) (leads_to g is_step otherwise) valid in
      to_branch way then_ otherwise n (and_parts (is_test g test) (leads_to g is_step then_) both.0).1 both.1 is
  led_to_step way (Switch value arms otherwise) n valid is =
      let both = and_parts (is_operand g value && list_all (is_arm g) arms) (leads_to g is_step otherwise) valid in
      to_arm way arms otherwise n (and_parts (is_operand g value) (list_all (is_arm g) arms) both.0).1 both.1 is
  led_to_step way (Host call next) n valid is =
      let leads = (and_parts (is_host g call) (leads_to g is_step next) valid).1 in grind (arith, is, leads)
  led_to_step way (Goto next) n valid is = grind (arith, is, valid)
  led_to_step way kind n valid is = grind (arith, is)

  -- and behind an Entry or a CopyIn
  behind_landing : (kind : NodeKind) (n : NodeId) → IsTrue (is_kind g kind) → IsTrue (is_landing kind) → IsTrue (leads_to g is_step (behind kind n))
  behind_landing (Entry formals next) n valid is = (and_parts (list_all (is_variable g) formals) (leads_to g is_step next) valid).1
  behind_landing (CopyIn to next) n valid is = (and_parts (list_all (is_target g) to) (leads_to g is_step next) valid).1
  behind_landing kind n valid is = grind (arith, is)

  -- the normal exit of a site in range leads to a CopyIn
  normal_leads : (normal : Option NodeId) (n : NodeId) → IsTrue (is_normal g normal) → normal ≡ Some n → IsTrue (leads_to g is_copy_in n)
  normal_leads (Some m) n holds is = grind (arith, holds, is)
  normal_leads None n holds is = grind (arith, is)

  exits_lead : (exits : Exits) (n : NodeId) → IsTrue (are_exits g exits) → exits.normal ≡ Some n → IsTrue (leads_to g is_copy_in n)
  exits_lead exits n valid is =
      let three = (and_parts (is_normal g exits.normal && list_all (is_continuation g) exits.returns && list_all (is_continuation g) exits.unwinds) (list_all (is_continuation g) exits.cuts) valid).0 in
      let two = (and_parts (is_normal g exits.normal && list_all (is_continuation g) exits.returns) (list_all (is_continuation g) exits.unwinds) three).0 in
      normal_leads exits.normal n (and_parts (is_normal g exits.normal) (list_all (is_continuation g) exits.returns) two).0 is

  normal_copies_in : (kind : NodeKind) (n : NodeId) → IsTrue (is_kind g kind) → normal_of kind ≡ Some n → IsTrue (leads_to g is_copy_in n)
  normal_copies_in (Call site callee arguments exits) n valid is =
      exits_lead exits n (and_parts (is_operand g callee && list_all (is_argument g) arguments) (are_exits g exits) valid).1 is
  normal_copies_in (Yield site values exits) n valid is =
      exits_lead exits n (and_parts (list_all (is_operand g) values) (are_exits g exits) valid).1 is
  normal_copies_in kind n valid is = grind (arith, is)

-- ---- in the graphs of a program

module _ (graphs : List Graph) (valid : All IsValid graphs) where
  abbrev Stands : ℕ → NodeId → Type 0
  Stands q n = IsTrue (is_step (kind_at graphs q n))

  -- what a node that is there is, is in range
  kind_in_range : (q : ℕ) (g : Graph) (n : NodeId) (node : Node) → slice_get graphs q ≡ Some g → node_of g n ≡ Some node → IsTrue (is_kind g node.kind)
  kind_in_range q g n node is_graph is_node_there =
      let holds = list_all_get (is_node g) g.nodes n.number node (all_get IsValid graphs q g valid is_graph).nodes is_node_there in
      (and_parts (nat_lt 0 node.tokens) (is_kind g node.kind) holds).1

  -- the kind of a node in a graph that is there
  kind_there : (q : ℕ) (g : Graph) (n : NodeId) (node : Node) → slice_get graphs q ≡ Some g → node_of g n ≡ Some node → kind_at graphs q n ≡ node.kind
  kind_there q g n node is_graph is_node_there = grind (arith, is_graph, is_node_there)

  -- by what a node is
  by_kind : (q : ℕ) (n : NodeId) (Q : NodeKind → Type 0) → Q Stop →
      ((g : Graph) (node : Node) → slice_get graphs q ≡ Some g → node_of g n ≡ Some node → Q node.kind) → Q (kind_at graphs q n)
  by_kind q n Q stop found = by_graph (slice_get graphs q) refl where
    by_node : (g : Graph) → slice_get graphs q ≡ Some g → (o : Option Node) → node_of g n ≡ o → Q (elim o [ Some node ↦ node.kind | None ↦ Stop ])
    by_node g is_graph (Some node) is = found g node is_graph is
    by_node g is_graph None is = stop

    by_graph : (o : Option Graph) → slice_get graphs q ≡ o → Q (elim (with_some o (λ g. node_of g n)) [ Some node ↦ node.kind | None ↦ Stop ])
    by_graph (Some g) is = by_node g is (node_of g n) refl
    by_graph None is = stop

  -- where a node leads in its graph
  stands_there : (q : ℕ) (g : Graph) (n : NodeId) → slice_get graphs q ≡ Some g → IsTrue (leads_to g is_step n) → Stands q n
  stands_there q g n is_graph leads = let found = there g is_step n leads in grind (arith, kind_there q g n found.0 is_graph found.1, found.2)

  -- a position that is moved to where a run may stand, or stays
  moved_stands : (to : Option NodeId) (c : Position) → Stands c.procedure c.node → ((n : NodeId) → to ≡ Some n → Stands c.procedure n) →
      IsTrue (is_step (kind_here graphs (moved_to to c)))
  moved_stands (Some n) c here moves = moves n refl
  moved_stands None c here moves = here

  -- a landing in a graph that is there
  landing_stands : (q : ℕ) (g : Graph) (test : NodeKind → Bool) (n : NodeId) → slice_get graphs q ≡ Some g →
      ((kind : NodeKind) → IsTrue (test kind) → IsTrue (is_landing kind)) → IsTrue (leads_to g test n) → Stands q (behind (kind_at graphs q n) n)
  landing_stands q g test n is_graph lands leads =
      let found = there g test n leads in
      let behind_it = behind_landing g found.0.kind n (kind_in_range q g n found.0 is_graph found.1) (lands found.0.kind found.2) in
      stands_there q g (behind (kind_at graphs q n) n) is_graph (rw (kind_there q g n found.0 is_graph found.1) behind_it)

  entry_lands : (kind : NodeKind) → IsTrue (is_entry kind) → IsTrue (is_landing kind)
  entry_lands (Entry formals next) is = is
  entry_lands kind is = grind (arith, is)

  copy_in_lands : (kind : NodeKind) → IsTrue (is_copy_in kind) → IsTrue (is_landing kind)
  copy_in_lands (CopyIn to next) is = is
  copy_in_lands kind is = grind (arith, is)

  -- where a landing leads, if to a node at all
  landed_stands : (to : Option NodeId) (c : Position) → Stands c.procedure c.node →
      ((n : NodeId) → to ≡ Some n → Stands c.procedure (behind (kind_at graphs c.procedure n) n)) →
      IsTrue (is_step (kind_here graphs (landed_at graphs to c)))
  landed_stands (Some n) c here lands = lands n refl
  landed_stands None c here lands = here

  -- the landing of a continuation, and the first node of a graph
  continuation_stands : (q k : ℕ) (n : NodeId) → in_graph graphs q (λ g. landing_of g record { number = k }) ≡ Some n →
      Stands q (behind (kind_at graphs q n) n)
  continuation_stands q k n is = by (slice_get graphs q) refl is where
    by : (o : Option Graph) → slice_get graphs q ≡ o → with_some o (λ g. landing_of g record { number = k }) ≡ Some n → Stands q (behind (kind_at graphs q n) n)
    by (Some g) is_graph is =
        landing_stands q g is_copy_in n is_graph copy_in_lands
        (list_all_get (leads_to g is_copy_in) g.continuations k n (all_get IsValid graphs q g valid is_graph).continuations is)
    by None is_graph is = grind (arith, is)

  first_stands : (q : ℕ) (n : NodeId) → in_graph graphs q (λ g. Some g.first) ≡ Some n → Stands q (behind (kind_at graphs q n) n)
  first_stands q n is = by (slice_get graphs q) refl is where
    by : (o : Option Graph) → slice_get graphs q ≡ o → with_some o (λ g. Some g.first) ≡ Some n → Stands q (behind (kind_at graphs q n) n)
    by (Some g) is_graph is = landing_stands q g is_entry n is_graph entry_lands (grind (arith, is, (all_get IsValid graphs q g valid is_graph).first))
    by None is_graph is = grind (arith, is)

  -- a procedure without a graph has no node, so that a run stands there as at the end of a body
  begins_stands : (q : ℕ) (n : NodeId) → in_graph graphs q (λ g. Some g.first) ≡ None → Stands q n
  begins_stands q n is = by (slice_get graphs q) refl is where
    by : (o : Option Graph) → slice_get graphs q ≡ o → with_some o (λ g. Some g.first) ≡ None → Stands q n
    by (Some g) is_graph is = grind (arith, is)
    by None is_graph is = grind (arith, is_graph)

  -- where a new activation begins
  begins : (q : ℕ) (to : Option NodeId) → in_graph graphs q (λ g. Some g.first) ≡ to →
      IsTrue (is_step (kind_here graphs (landed_at graphs to record { procedure = q; node = record { number = 0 }; temporaries = λ t. 0 })))
  begins q (Some n) is = first_stands q n is
  begins q None is = begins_stands q record { number = 0 } is

  -- each operation of the control keeps it so
  kept : IsKept (graph_control graphs) (λ c. IsTrue (is_step (kind_here graphs c)))
  kept = record {
    on = λ way c here. moved_stands (led way (kind_here graphs c)) _ here
        (λ n is. by_kind c.procedure c.node (λ kind. led way kind ≡ Some n → Stands c.procedure n) (λ is. grind (arith, is))
        (λ g node is_graph is_there is. stands_there c.procedure g n is_graph
        (led_to_step g way node.kind n (kind_in_range c.procedure g c.node node is_graph is_there) is)) is);
    later = λ c here. here;
    back = λ c here. landed_stands (normal_of (kind_here graphs c)) c here
        (λ n is. by_kind c.procedure c.node (λ kind. normal_of kind ≡ Some n → Stands c.procedure (behind (kind_at graphs c.procedure n) n)) (λ is. grind (arith, is))
        (λ g node is_graph is_there is. landing_stands c.procedure g is_copy_in n is_graph copy_in_lands
        (normal_copies_in g node.kind n (kind_in_range c.procedure g c.node node is_graph is_there) is)) is);
    resume = λ k c here. landed_stands (in_graph graphs c.procedure (λ g. landing_of g record { number = k })) c here (continuation_stands c.procedure k);
    begin = λ q. begins q (in_graph graphs q (λ g. Some g.first)) refl;
  }

-- so in each state of a run
pub runs_stand_at_steps : RunsStandAtSteps
runs_stand_at_steps graphs s input m valid = All-from_recursion _ _ (in_runs (kept graphs valid) s input m)
