-- Where the exits of sites lead: to a CopyIn.
use Rattle.std.proofs.Common.{◌≡◌, ℕ, ◌≤◌, ◌∙◌, sym, subst, refl, true, false, List, Option, Some, None, IsTrue, slice_get, arith}
use Rattle.std.specs.Prelude.{◌&&◌, find}
use Rattle.std.specs.List.{list_all}
use Rattle.std.proofs.lemmas.Bool.{and_parts}
use Rattle.std.proofs.lemmas.List.Folds.{find_at}
use Rattle.cmm_program.proofs.Shared.{list_all_get}
use Rattle.cmm_program.specs.Errors.{with_some}
use Rattle.cmm_graph.specs.declared.number.NodeId.{NodeId}
use Rattle.cmm_graph.specs.declared.node.Exits.{Exits}
use Rattle.cmm_graph.specs.declared.node.Node.{Node}
use Rattle.cmm_graph.specs.declared.node.NodeKind.{NodeKind}
use Rattle.cmm_graph.specs.declared.node.NodeKind.TheVariants.{Call, CopyIn, Entry, Yield}
use Rattle.cmm_graph.specs.declared.graph.Graph.{Graph}
use Rattle.cmm_graph.specs.GraphControl.{in_graph}
use Rattle.cmm_graph.specs.Paths.{landing_of, node_of}
use Rattle.cmm_graph.specs.Ranges.{IsValid, are_exits, is_argument, is_continuation, is_copy_in, is_entry, is_kind, is_node, is_normal, is_operand, leads_to}
use Rattle.cmm_located.specs.Compiled.{Located, exits_of, landing_in, site_exits, waits_at}
use Rattle.cmm_emit_laws.proofs.Nodes.{found_in, found_there, led_to, node_holds}
use Rattle.cmm_emit_laws.specs.Standing.{IsInside, IsYoungest}

-- at an Entry, nothing is required of activations
pub inside_entry : (kind : NodeKind) → IsTrue (is_entry kind) → (at : Located) → IsInside kind at
inside_entry (Entry formals next) is at = tt
inside_entry kind is at = let e : false ≡ true = grind (arith, is) in absurd (cc)

-- at a CopyIn, its activation is the youngest
pub inside_copy : (kind : NodeKind) → IsTrue (is_copy_in kind) → (at : Located) → IsYoungest at → IsInside kind at
inside_copy (CopyIn to next) is at youngest = youngest
inside_copy kind is at youngest = let e : false ≡ true = grind (arith, is) in absurd (cc)

-- the exits of a node in range
kind_exits : (g : Graph) (kind : NodeKind) (exits : Exits) → IsTrue (is_kind g kind) → exits_of kind ≡ Some exits → IsTrue (are_exits g exits)
kind_exits g (Call site callee arguments own) exits fine is =
    let e : own ≡ exits = cc in
    subst (λ (z : Exits). IsTrue (are_exits g z)) e (and_parts (is_operand g callee && list_all (is_argument g) arguments) (are_exits g own) fine).1
kind_exits g (Yield site values own) exits fine is =
    let e : own ≡ exits = cc in
    subst (λ (z : Exits). IsTrue (are_exits g z)) e (and_parts (list_all (is_operand g) values) (are_exits g own) fine).1
kind_exits g kind exits fine is = absurd (cc)

module _ (graphs : List Graph) (q : ℕ) (valid : (g : Graph) → slice_get graphs q ≡ Some g → IsValid g) where
  -- the exits of a site are in range
  pub exits_hold : (site : ℕ) (exits : Exits) → site_exits graphs q site ≡ Some exits → (g : Graph) × (slice_get graphs q ≡ Some g) × IsTrue (are_exits g exits)
  exits_hold site exits is = (found.0, found.1, by (find (λ node. waits_at site node.kind) found.0.nodes) refl found.2)
    where
      found : (g : Graph) × (slice_get graphs q ≡ Some g) × (with_some (find (λ node. waits_at site node.kind) g.nodes) (λ node. exits_of node.kind) ≡ Some exits)
      found = found_in graphs q (λ g. with_some (find (λ node. waits_at site node.kind) g.nodes) (λ node. exits_of node.kind)) exits is

      by : (o : Option Node) → find (λ node. waits_at site node.kind) found.0.nodes ≡ o → with_some o (λ node. exits_of node.kind) ≡ Some exits → IsTrue (are_exits found.0 exits)
      by (Some node) there e =
          let fine = list_all_get (is_node found.0) found.0.nodes _ node (valid found.0 found.1).nodes (sym (find_at (λ node. waits_at site node.kind) found.0.nodes) ∙ there) in
          kind_exits found.0 node.kind exits (and_parts _ (is_kind found.0 node.kind) fine).1 e
      by None there e = absurd (cc)

  -- a continuation lands at a CopyIn
  pub landing_holds : (k : ℕ) (n : NodeId) → landing_in graphs q k ≡ Some n → (node : Node) × (in_graph graphs q (λ g. node_of g n) ≡ Some node) × IsTrue (is_copy_in node.kind)
  landing_holds k n is =
      let found = found_in graphs q (λ g. landing_of g (record { number = k })) n is in
      let leads = list_all_get (leads_to found.0 is_copy_in) found.0.continuations k n (valid found.0 found.1).continuations found.2 in
      let node = led_to found.0 is_copy_in n leads in
      (node.0, found_there graphs q (λ g. node_of g n) found.0 found.1 ∙ node.1, node.2)

  -- the normal exit of a site leads to a CopyIn
  pub normal_holds : (site : ℕ) (exits : Exits) (n : NodeId) → site_exits graphs q site ≡ Some exits → exits.normal ≡ Some n →
      (node : Node) × (in_graph graphs q (λ g. node_of g n) ≡ Some node) × IsTrue (is_copy_in node.kind)
  normal_holds site exits n is normal =
      let found = exits_hold site exits is in
      let g = found.0 in
      let first = (and_parts (is_normal g exits.normal && list_all (is_continuation g) exits.returns && list_all (is_continuation g) exits.unwinds) (list_all (is_continuation g) exits.cuts) found.2).0 in
      let second = (and_parts (is_normal g exits.normal && list_all (is_continuation g) exits.returns) (list_all (is_continuation g) exits.unwinds) first).0 in
      let third = (and_parts (is_normal g exits.normal) (list_all (is_continuation g) exits.returns) second).0 in
      let leads : IsTrue (leads_to g is_copy_in n) = subst (λ (o : Option NodeId). IsTrue (is_normal g o)) normal third in
      let node = led_to g is_copy_in n leads in
      (node.0, found_there graphs q (λ g. node_of g n) g found.1 ∙ node.1, node.2)

  -- a procedure begins at its Entry
  pub first_holds : (n : NodeId) → in_graph graphs q (λ g. Some g.first) ≡ Some n → (node : Node) × (in_graph graphs q (λ g. node_of g n) ≡ Some node) × IsTrue (is_entry node.kind)
  first_holds n is =
      let found = found_in graphs q (λ g. Some g.first) n is in
      let same : found.0.first ≡ n = let e = found.2 in cc in
      let node = led_to found.0 is_entry n (subst (λ (m : NodeId). IsTrue (leads_to found.0 is_entry m)) same (valid found.0 found.1).first) in
      (node.0, found_there graphs q (λ g. node_of g n) found.0 found.1 ∙ node.1, node.2)

  -- a node that is there has a token
  pub has_tokens : (n : NodeId) (node : Node) → in_graph graphs q (λ g. node_of g n) ≡ Some node → 1 ≤ node.tokens
  has_tokens n node is =
      let found = found_in graphs q (λ g. node_of g n) node is in
      (node_holds found.0 n node (valid found.0 found.1) found.2).0
