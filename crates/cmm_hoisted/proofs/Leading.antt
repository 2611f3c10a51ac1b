-- The nodes of a graph in range lead to nodes that are there.
use Rattle.std.proofs.Common.{◌≡◌, ◌<◌, ◌&&◌, refl, Bool, false, IsTrue, Contains, Option, Some, None, List, [], ◌∷◌, ◌++◌, length, nat_lt}
use Rattle.std.proofs.lemmas.Bool.{and_parts}
use Rattle.std.proofs.lemmas.List.Elements.{All-append, All-cons, All-contains, All-nil}
use Rattle.std.proofs.lemmas.Option.{slice_get_within}
use Rattle.std.specs.List.{All, list_all}
use Rattle.cmm_program.specs.Typing.{is_alignment}
use Rattle.cmm_program.proofs.Shared.{list_all_get}
use Rattle.cmm_graph.specs.declared.graph.Graph.{Graph}
use Rattle.cmm_graph.specs.declared.node.Arm.{Arm}
use Rattle.cmm_graph.specs.declared.node.Exits.{Exits}
use Rattle.cmm_graph.specs.declared.node.Node.{Node}
use Rattle.cmm_graph.specs.declared.node.NodeKind.{NodeKind}
use Rattle.cmm_graph.specs.declared.node.NodeKind.TheVariants.{Entry, CopyIn, Assign, Store, Branch, Switch, Call, Yield, Jump, Cut, Return, Host, Goto, Stop}
use Rattle.cmm_graph.specs.declared.number.ContinuationId.{ContinuationId}
use Rattle.cmm_graph.specs.declared.number.NodeId.{NodeId}
use Rattle.cmm_graph.specs.Paths.{arm_nodes, exit_nodes, if_there, landing_of, landings, node_of, successors}
use Rattle.cmm_graph.specs.Ranges.{IsValid, are_exits, is_argument, is_arm, is_continuation, is_copy_in, is_destination, is_host, is_kind, is_node, is_normal, is_operand, is_rvalue, is_step, is_target, is_test, is_variable, leads_to}
use Rattle.cmm_live.specs.Sites.{cut_nodes}

module _ (g : Graph) (valid : IsValid g) where
  abbrev pub IsWithin : NodeId → Type 0
  IsWithin n = n.number < length g.nodes

  abbrev AreWithin : List NodeId → Type 0
  AreWithin ns = All IsWithin ns

  none : AreWithin []
  none = All-nil IsWithin

  led : (test : NodeKind → Bool) (n : NodeId) → IsTrue (leads_to g test n) → IsWithin n
  led test n leads = by (node_of g n) refl leads
    where
      by : (o : Option Node) → node_of g n ≡ o → IsTrue (elim o as (λ _. Bool) [ Some node ↦ test node.kind | None ↦ false ]) → IsWithin n
      by (Some node) is passes = slice_get_within g.nodes n.number node is
      by None is passes = absurd (cc (passes))

  one : (n : NodeId) → IsTrue (leads_to g is_step n) → AreWithin (n ∷ [])
  one n leads = All-cons IsWithin n [] (led is_step n leads) none

  -- where a test of two parts has the second
  last : (b : Bool) (n : NodeId) → IsTrue (b && leads_to g is_step n) → AreWithin (n ∷ [])
  last b n both = one n (and_parts b (leads_to g is_step n) both).1

  -- a continuation is landed at in a CopyIn
  landings_within : (ks : List ContinuationId) → AreWithin (landings g ks)
  landings_within [] = none
  landings_within (k ∷ ks) = All-append IsWithin (if_there (landing_of g k)) (landings g ks) (by (landing_of g k) refl) (landings_within ks)
    where
      by : (o : Option NodeId) → landing_of g k ≡ o → AreWithin (if_there o)
      by (Some n) is = All-cons IsWithin n [] (led is_copy_in n (list_all_get (leads_to g is_copy_in) g.continuations k.number n valid.continuations is)) none
      by None is = none

  exits_within : (exits : Exits) → IsTrue (are_exits g exits) → AreWithin (exit_nodes g exits)
  exits_within exits are =
      let normal = if_there exits.normal in
      let returns = landings g exits.returns in
      let unwinds = landings g exits.unwinds in
      let cuts = landings g exits.cuts in
      All-append IsWithin (normal ++ returns ++ unwinds) cuts
      (All-append IsWithin (normal ++ returns) unwinds
      (All-append IsWithin normal returns (by exits.normal (is_normal_there are)) (landings_within exits.returns)) (landings_within exits.unwinds))
      (landings_within exits.cuts)
    where
      is_normal_there : IsTrue (are_exits g exits) → IsTrue (is_normal g exits.normal)
      is_normal_there are =
          let all = list_all (is_continuation g) in
          let three = and_parts (is_normal g exits.normal && all exits.returns && all exits.unwinds) (all exits.cuts) are in
          let two = and_parts (is_normal g exits.normal && all exits.returns) (all exits.unwinds) three.0 in
          (and_parts (is_normal g exits.normal) (all exits.returns) two.0).0

      by : (normal : Option NodeId) → IsTrue (is_normal g normal) → AreWithin (if_there normal)
      by (Some n) leads = All-cons IsWithin n [] (led is_copy_in n leads) none
      by None leads = none

  arms_within : (arms : List Arm) → IsTrue (list_all (is_arm g) arms) → AreWithin (arm_nodes arms)
  arms_within [] are = none
  arms_within (arm ∷ arms) are =
      let parts = and_parts (is_arm g arm) (list_all (is_arm g) arms) are in
      All-cons IsWithin arm.to (arm_nodes arms) (led is_step arm.to parts.0) (arms_within arms parts.1)

  successors_within : (kind : NodeKind) → IsTrue (is_kind g kind) → AreWithin (successors g kind)
  successors_within (Entry formals next) is = last (list_all (is_variable g) formals) next is
  successors_within (CopyIn to next) is = last (list_all (is_target g) to) next is
  successors_within (Assign to value next) is = last (is_destination g to && is_rvalue g value) next is
  successors_within (Store width aligned address value next) is = last (is_alignment aligned && is_operand g address && is_operand g value) next is
  successors_within (Branch test then_ otherwise) is =
      let parts = and_parts (is_test g test && leads_to g is_step then_) (leads_to g is_step otherwise) is in
      All-append IsWithin (then_ ∷ []) (otherwise ∷ []) (last (is_test g test) then_ parts.0) (one otherwise parts.1)
  successors_within (Switch value arms otherwise) is =
      let parts = and_parts (is_operand g value && list_all (is_arm g) arms) (leads_to g is_step otherwise) is in
      All-append IsWithin (arm_nodes arms) (otherwise ∷ []) (arms_within arms (and_parts (is_operand g value) (list_all (is_arm g) arms) parts.0).1)
      (one otherwise parts.1)
  successors_within (Call site callee arguments exits) is =
      exits_within exits (and_parts (is_operand g callee && list_all (is_argument g) arguments) (are_exits g exits) is).1
  successors_within (Yield site values exits) is = exits_within exits (and_parts (list_all (is_operand g) values) (are_exits g exits) is).1
  successors_within (Jump callee arguments) is = none
  successors_within (Cut to arguments own) is = landings_within own
  successors_within (Return exit alternates results) is = none
  successors_within (Host call next) is = last (is_host g call) next is
  successors_within (Goto next) is = one next is
  successors_within Stop is = none

  cuts_within : (kind : NodeKind) → AreWithin (cut_nodes g kind)
  cuts_within (Call site callee arguments exits) = landings_within exits.cuts
  cuts_within (Yield site values exits) = landings_within exits.cuts
  cuts_within kind = none

  -- by a path, and by a cut exit
  pub leads_within : (n : NodeId) (node : Node) → node_of g n ≡ Some node → (m : NodeId) → Contains (successors g node.kind) m → IsWithin m
  leads_within n node is m leads =
      let right = list_all_get (is_node g) g.nodes n.number node valid.nodes is in
      All-contains IsWithin (successors g node.kind) m (successors_within node.kind (and_parts (nat_lt 0 node.tokens) (is_kind g node.kind) right).1) leads

  pub cuts_lead_within : (node : Node) (m : NodeId) → Contains (cut_nodes g node.kind) m → IsWithin m
  cuts_lead_within node m leads = All-contains IsWithin (cut_nodes g node.kind) m (cuts_within node.kind) leads
