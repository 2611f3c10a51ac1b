-- A graph that stands for one of a procedure is one of it: in range, with its landings and its sites, and it names only what is there.
use Rattle.std.proofs.Common.{◌≡◌, inl, inr, refl, sym, ◌∙◌, ap, subst, Bool, true, false, length, map}
use Rattle.std.proofs.Math.Path.{fun_ext}
use Rattle.std.proofs.lemmas.Bool.{and_parts}
use Rattle.std.specs.Prelude.{◌&&◌, nat_le, nat_lt, IsTrue, Option, Some, None}
use Rattle.std.specs.List.{list_all}
use Rattle.cmm_words.specs.Widths.{bits}
use Rattle.cmm_program.specs.declared.procedure.Proc.{Proc}
use Rattle.cmm_program.specs.declared.procedure.Target.{Target}
use Rattle.cmm_program.specs.declared.procedure.Target.TheVariants as target
use Rattle.cmm_program.specs.declared.program.Program.{Program}
use Rattle.cmm_program.specs.Errors.{with_some}
use Rattle.cmm_program.specs.Typing.{is_alignment}
use Rattle.cmm_program.specs.Typing as typing
use Rattle.cmm_graph.specs.declared.graph.Graph.{Graph}
use Rattle.cmm_graph.specs.declared.node.Exits.{Exits}
use Rattle.cmm_graph.specs.declared.node.HostCall.{HostCall}
use Rattle.cmm_graph.specs.declared.node.HostCall.TheVariants.{PutByte, GetByte}
use Rattle.cmm_graph.specs.declared.node.Node.{Node}
use Rattle.cmm_graph.specs.declared.node.NodeKind.{NodeKind}
use Rattle.cmm_graph.specs.declared.node.NodeKind.TheVariants.{Entry, CopyIn, Assign, Store, Branch, Switch, Call, Yield, Jump, Cut, Return, Host, Goto, Stop}
use Rattle.cmm_graph.specs.declared.number.NodeId.{NodeId}
use Rattle.cmm_graph.specs.declared.number.SiteId.{SiteId}
use Rattle.cmm_graph.specs.declared.operand.Destination.{Destination}
use Rattle.cmm_graph.specs.declared.operand.Destination.TheVariants as destination
use Rattle.cmm_graph.specs.declared.operand.Local.{Local}
use Rattle.cmm_graph.specs.declared.operand.Local.TheVariants as local
use Rattle.cmm_graph.specs.declared.operand.Operand.{Operand}
use Rattle.cmm_graph.specs.declared.operand.Operand.TheVariants as operand
use Rattle.cmm_graph.specs.declared.operand.Rvalue.{Rvalue}
use Rattle.cmm_graph.specs.declared.operand.Rvalue.TheVariants as rvalue
use Rattle.cmm_graph.specs.Counterpart.{AreExitsOf, HasSite, IsGraphOf, formals_of, names_operand, names_rvalue, names_there, taken_at, taken_by, targets_of_destination}
use Rattle.cmm_graph.specs.Paths.{node_of, operands_of_rvalue}
use Rattle.cmm_graph.specs.Ranges.{IsValid, are_exits, is_argument, is_arm, is_continuation, is_copy_in, is_destination, is_entry, is_host, is_kind, is_local, is_node, is_normal, is_operand, is_rvalue, is_step, is_target, is_test, is_variable, leads_to}
use Rattle.cmm_fold.specs.Graphs.{GraphStandsFor, KindStandsFor, NodeStandsFor}
use Rattle.cmm_folded.proofs.Nodes.{IsBlind, MayStand, facts_through, kind_same, node_stands, tests_through}

-- a node keeps its site where landings stay what they were
module _ (old new : Graph) (same : taken_at new ≡ taken_at old) where
  exits_of_same : (q : Proc) (n : SiteId) (e : Exits) → AreExitsOf q old n e → AreExitsOf q new n e
  exits_of_same q n e is = record {
    site = is.site;
    is_site = is.is_site;
    normal = ap (λ f. with_some e.normal f) same ∙ is.normal;
    returns = is.returns;
    unwinds = is.unwinds;
    cuts = is.cuts;
  }

  pub site_of_same : (q : Proc) (kind : NodeKind) → HasSite q old kind → HasSite q new kind
  site_of_same q (Call site callee arguments exits) has = exits_of_same q site exits has
  site_of_same q (Yield site values exits) has = exits_of_same q site exits has
  site_of_same q kind has = tt

module _ (old new : Graph) (stands : GraphStandsFor old new) where
  -- ---- what stands at a node

  leads_same : (test : NodeKind → Bool) → IsBlind test → leads_to new test ≡ leads_to old test
  leads_same test blind = fun_ext (λ n. by (node_of old n) (node_of new n) (node_stands old new stands n))
    where
      by : (a b : Option Node) → MayStand NodeStandsFor a b → ◌≡◌ {A = Bool} (elim b [ Some node ↦ test node.kind | None ↦ false ]) (elim a [ Some node ↦ test node.kind | None ↦ false ])
      by None None may = refl
      by None (Some b) may = absurd may
      by (Some a) None may = absurd may
      by (Some a) (Some b) may = kind_same test blind a.kind b.kind may.kind

  taken_same : taken_at new ≡ taken_at old
  taken_same = fun_ext (λ n. by (node_of old n) (node_of new n) (node_stands old new stands n))
    where
      by : (a b : Option Node) → MayStand NodeStandsFor a b → with_some b (λ node. taken_by node.kind) ≡ with_some a (λ node. taken_by node.kind)
      by None None may = refl
      by None (Some b) may = absurd may
      by (Some a) None may = absurd may
      by (Some a) (Some b) may = kind_same taken_by (λ to value folded next. refl) a.kind b.kind may.kind

  formals_same : (n : NodeId) → with_some (node_of new n) (λ node. formals_of node.kind) ≡ with_some (node_of old n) (λ node. formals_of node.kind)
  formals_same n = by (node_of old n) (node_of new n) (node_stands old new stands n)
    where
      by : (a b : Option Node) → MayStand NodeStandsFor a b → with_some b (λ node. formals_of node.kind) ≡ with_some a (λ node. formals_of node.kind)
      by None None may = refl
      by None (Some b) may = absurd may
      by (Some a) None may = absurd may
      by (Some a) (Some b) may = kind_same formals_of (λ to value folded next. refl) a.kind b.kind may.kind

  -- ---- ranges: they are by the counts of locals and continuations, and by what stands at nodes

  step_same : leads_to new is_step ≡ leads_to old is_step
  step_same = leads_same is_step (λ to value folded next. refl)

  copy_same : leads_to new is_copy_in ≡ leads_to old is_copy_in
  copy_same = leads_same is_copy_in (λ to value folded next. refl)

  variable_same : is_variable new ≡ is_variable old
  variable_same = fun_ext (λ v. ap (λ k. nat_lt v.number k) stands.variables)

  local_same : (l : Local) → is_local new l ≡ is_local old l
  local_same (local.Variable v) = ap (λ k. nat_lt v.number k) stands.variables
  local_same (local.Temporary t) = ap (λ k. nat_lt t.number k) stands.temporaries

  continuation_same : is_continuation new ≡ is_continuation old
  continuation_same = fun_ext (λ k. ap (λ ns. nat_lt k.number (length ns)) stands.continuations)

  operand_same : is_operand new ≡ is_operand old
  operand_same = fun_ext by
    where
      by : (o : Operand) → is_operand new o ≡ is_operand old o
      by (operand.Constant c) = refl
      by (operand.Local l) = local_same l
      by (operand.Stackdata l) = refl
      by (operand.Continuation k) = ap (λ f. f k) continuation_same

  argument_same : is_argument new ≡ is_argument old
  argument_same = fun_ext (λ a. ap (λ f. f a.value) operand_same)

  target_same : is_target new ≡ is_target old
  target_same = fun_ext by
    where
      by : (t : Target) → is_target new t ≡ is_target old t
      by (target.Variable number width) = ap (λ k. nat_lt number k) stands.variables
      by (target.Register number width) = refl

  arm_same : is_arm new ≡ is_arm old
  arm_same = fun_ext (λ arm. ap (λ f. f arm.to) step_same)

  destination_same : (to : Destination) → is_destination new to ≡ is_destination old to
  destination_same (destination.Target t) = ap (λ f. f t) target_same
  destination_same (destination.Temporary t) = ap (λ k. nat_lt t.number k) stands.temporaries

  both_same : (a b c d : Bool) → a ≡ b → c ≡ d → (a && c) ≡ (b && d)
  both_same a b c d one two = rw (one, two) refl

  value_same : (r : Rvalue) → is_rvalue new r ≡ is_rvalue old r
  value_same (rvalue.Copy o) = ap (λ f. f o) operand_same
  value_same (rvalue.Register r) = refl
  value_same (rvalue.Load width aligned address) = ap (λ f. is_alignment aligned && f address) operand_same
  value_same (rvalue.Unary operator width o) = ap (λ f. f o) operand_same
  value_same (rvalue.Binary operator width left right) = ap (λ f. f left && f right) operand_same
  value_same (rvalue.Compare c) = ap (λ f. f c.left && f c.right) operand_same
  value_same (rvalue.SignExtend from to o) = ap (λ f. nat_le (bits from) (bits to) && f o) operand_same
  value_same (rvalue.LowBits from to o) = ap (λ f. nat_le (bits to) (bits from) && f o) operand_same

  normal_same : (o : Option NodeId) → is_normal new o ≡ is_normal old o
  normal_same (Some n) = ap (λ f. f n) copy_same
  normal_same None = refl

  exits_same : (e : Exits) → are_exits new e ≡ are_exits old e
  exits_same e =
      ap (λ b. b && list_all (is_continuation new) e.returns && list_all (is_continuation new) e.unwinds && list_all (is_continuation new) e.cuts) (normal_same e.normal)
      ∙ ap (λ f. is_normal old e.normal && list_all f e.returns && list_all f e.unwinds && list_all f e.cuts) continuation_same

  host_same : (call : HostCall) → is_host new call ≡ is_host old call
  host_same (PutByte value) = ap (λ f. f value) operand_same
  host_same (GetByte to) = ap (λ f. f to) target_same

  kind_range_same : (kind : NodeKind) → is_kind new kind ≡ is_kind old kind
  kind_range_same (Entry formals next) = ap (λ f. list_all f formals && leads_to new is_step next) variable_same ∙ ap (λ f. list_all (is_variable old) formals && f next) step_same
  kind_range_same (CopyIn to next) = ap (λ f. list_all f to && leads_to new is_step next) target_same ∙ ap (λ f. list_all (is_target old) to && f next) step_same
  kind_range_same (Assign to value next) =
      ap (λ b. b && is_rvalue new value && leads_to new is_step next) (destination_same to)
      ∙ (ap (λ b. is_destination old to && b && leads_to new is_step next) (value_same value)
      ∙ ap (λ f. is_destination old to && is_rvalue old value && f next) step_same)
  kind_range_same (Store width aligned address value next) =
      ap (λ f. is_alignment aligned && f address && f value && leads_to new is_step next) operand_same
      ∙ ap (λ f. is_alignment aligned && is_operand old address && is_operand old value && f next) step_same
  kind_range_same (Branch test then_ otherwise) =
      ap (λ f. (f test.left && f test.right) && leads_to new is_step then_ && leads_to new is_step otherwise) operand_same
      ∙ ap (λ f. is_test old test && f then_ && f otherwise) step_same
  kind_range_same (Switch value arms otherwise) =
      ap (λ f. f value && list_all (is_arm new) arms && leads_to new is_step otherwise) operand_same
      ∙ (ap (λ f. is_operand old value && list_all f arms && leads_to new is_step otherwise) arm_same
      ∙ ap (λ f. is_operand old value && list_all (is_arm old) arms && f otherwise) step_same)
  kind_range_same (Call site callee arguments exits) =
      ap (λ f. f callee && list_all (is_argument new) arguments && are_exits new exits) operand_same
      ∙ (ap (λ f. is_operand old callee && list_all f arguments && are_exits new exits) argument_same
      ∙ ap (λ b. is_operand old callee && list_all (is_argument old) arguments && b) (exits_same exits))
  kind_range_same (Yield site values exits) =
      ap (λ f. list_all f values && are_exits new exits) operand_same ∙ ap (λ b. list_all (is_operand old) values && b) (exits_same exits)
  kind_range_same (Jump callee arguments) =
      ap (λ f. f callee && list_all (is_argument new) arguments) operand_same ∙ ap (λ f. is_operand old callee && list_all f arguments) argument_same
  kind_range_same (Cut to arguments own) =
      ap (λ f. f to && list_all (is_argument new) arguments && list_all (is_continuation new) own) operand_same
      ∙ (ap (λ f. is_operand old to && list_all f arguments && list_all (is_continuation new) own) argument_same
      ∙ ap (λ f. is_operand old to && list_all (is_argument old) arguments && list_all f own) continuation_same)
  kind_range_same (Return exit alternates results) = ap (λ f. nat_le exit alternates && list_all f results) argument_same
  kind_range_same (Host call next) = ap (λ b. b && leads_to new is_step next) (host_same call) ∙ ap (λ f. is_host old call && f next) step_same
  kind_range_same (Goto next) = ap (λ f. f next) step_same
  kind_range_same Stop = refl

  -- a right side that is in range in the middle of a test
  middle : (a b c d : Bool) → (IsTrue b → IsTrue c) → IsTrue (a && b && d) → IsTrue (a && c && d)
  middle true true true d on is = is
  middle true true false d on is = absurd (cc (on refl))
  middle true false c d on is = absurd (cc)
  middle false b c d on is = absurd (cc)

  kind_in_range : (a b : NodeKind) → KindStandsFor a b → IsTrue (is_kind old a) → IsTrue (is_kind old b)
  kind_in_range a b (inl e) is = ap (is_kind old) e ∙ is
  kind_in_range a b (inr s) is =
      let was : IsTrue (is_kind old (Assign s.to s.value s.next)) = sym (ap (is_kind old) s.was) ∙ is in
      ap (is_kind old) s.is
      ∙ middle (is_destination old s.to) (is_rvalue old s.value) (is_rvalue old s.folded) (leads_to old is_step s.next) (s.stands.range old) was

  node_in_range : (a b : Node) → NodeStandsFor a b → IsTrue (is_node old a) → IsTrue (is_node new b)
  node_in_range a b node is =
      let parts = and_parts (nat_lt 0 a.tokens) (is_kind old a.kind) is in
      both_same (nat_lt 0 b.tokens) true (is_kind new b.kind) true (ap (λ k. nat_lt 0 k) node.tokens ∙ parts.0)
      (kind_range_same b.kind ∙ kind_in_range a.kind b.kind node.kind parts.1)

  valid_after : IsValid old → IsValid new
  valid_after valid = record {
    first = ap (λ n. leads_to new is_entry n) stands.first ∙ (ap (λ f. f old.first) (leads_same is_entry (λ to value folded next. refl)) ∙ valid.first);
    nodes = tests_through (is_node old) (is_node new) node_in_range old.nodes new.nodes stands.nodes valid.nodes;
    continuations =
        ap (λ ns. list_all (leads_to new is_copy_in) ns) stands.continuations ∙ (ap (λ f. list_all f old.continuations) copy_same ∙ valid.continuations);
  }

  -- ---- sites and names

  pub has_site : (q : Proc) (a b : Node) → NodeStandsFor a b → HasSite q old a.kind → HasSite q new b.kind
  has_site q a b node has = by node.kind
    where
      by : KindStandsFor a.kind b.kind → HasSite q new b.kind
      by (inl e) = subst (HasSite q new) (sym e) (site_of_same old new taken_same q a.kind has)
      by (inr s) = subst (HasSite q new) (sym s.is) tt

  -- a test that is made weaker before another, and one that is the same after it
  first_weaker : (a b c d e : Bool) → (IsTrue a → IsTrue b) → e ≡ d → IsTrue (a && c && d) → IsTrue (b && c && e)
  first_weaker true true c d e on same is = ap (λ x. c && x) same ∙ is
  first_weaker true false c d e on same is = absurd (cc (on refl))
  first_weaker false b c d e on same is = absurd (cc)

  names_after : (p : Program) (q : Proc) (a b : Node) → NodeStandsFor a b → IsTrue (names_there p q a.kind) → IsTrue (names_there p q b.kind)
  names_after p q a b node is = by node.kind
    where
      by : KindStandsFor a.kind b.kind → IsTrue (names_there p q b.kind)
      by (inl e) = ap (names_there p q) e ∙ is
      by (inr s) =
          let was : IsTrue (names_there p q (Assign s.to s.value s.next)) = sym (ap (names_there p q) s.was) ∙ is in
          ap (names_there p q) s.is
          ∙ first_weaker (list_all (names_operand p q) (operands_of_rvalue s.value)) (list_all (names_operand p q) (operands_of_rvalue s.folded))
          (list_all (typing.is_target p q) (targets_of_destination s.to)) (names_rvalue p s.value) (names_rvalue p s.folded) (s.stands.names p q) (s.stands.registers p) was

  -- ---- the graph

  pub graph_after : (p : Program) (q : Proc) → IsGraphOf p q old → IsGraphOf p q new
  graph_after p q is = record {
    valid = valid_after is.valid;
    variables = stands.variables ∙ is.variables;
    formals = ap (λ n. with_some (node_of new n) (λ node. formals_of node.kind)) stands.first ∙ (formals_same old.first ∙ is.formals);
    continuations = ap (λ ns. map (taken_at new) ns) stands.continuations ∙ (ap (λ f. map f old.continuations) taken_same ∙ is.continuations);
    sites = facts_through (λ node. HasSite q old node.kind) (λ node. HasSite q new node.kind) (has_site q) old.nodes new.nodes stands.nodes is.sites;
    names = tests_through (λ node. names_there p q node.kind) (λ node. names_there p q node.kind) (names_after p q) old.nodes new.nodes stands.nodes is.names;
  }
