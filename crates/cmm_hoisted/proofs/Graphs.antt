-- A graph whose constants are hoisted is one of its procedure: in range, with its landings and its sites, and it names only what is there.
use Rattle.std.proofs.Common.{◌≡◌, ◌⊎◌, ℕ, zero, suc, ◌+◌, ◌<◌, ◌≤◌, inl, inr, refl, ◌∙◌, ap, arith, Bool, true, List, [], ◌∷◌, length, map}
use Rattle.std.proofs.Math.Path.{fun_ext}
use Rattle.std.proofs.lemmas.Bool.{and_from, and_parts}
use Rattle.std.proofs.lemmas.Bool.Decides.{nat_tests}
use Rattle.std.proofs.lemmas.Option.{slice_get_within}
use Rattle.std.specs.Prelude.{◌&&◌, nat_lt, slice_get, Contains, IsTrue, Option, Some}
use Rattle.std.specs.List.{All, list_all}
use Rattle.cmm_words.specs.declared.constant.Constant.{Constant}
use Rattle.cmm_program.specs.declared.procedure.Proc.{Proc}
use Rattle.cmm_program.specs.declared.program.Program.{Program}
use Rattle.cmm_program.specs.Errors.{with_some}
use Rattle.cmm_program.specs.Typing as typing
use Rattle.cmm_program.proofs.Shared.{all_get, list_all_get}
use Rattle.cmm_graph.specs.declared.graph.Graph.{Graph}
use Rattle.cmm_graph.specs.declared.node.Node.{Node}
use Rattle.cmm_graph.specs.declared.node.NodeKind.{NodeKind}
use Rattle.cmm_graph.specs.declared.number.NodeId.{NodeId}
use Rattle.cmm_graph.specs.declared.operand.Comparison.{Comparison}
use Rattle.cmm_graph.specs.declared.operand.Operand.{Operand}
use Rattle.cmm_graph.specs.declared.operand.Operand.TheVariants as operand
use Rattle.cmm_graph.specs.declared.operand.Rvalue.{Rvalue}
use Rattle.cmm_graph.specs.Counterpart.{HasSite, IsGraphOf, formals_of, names_operand, names_rvalue, names_there, reads_registers, taken_at, taken_by, targets, targets_of_destination}
use Rattle.cmm_graph.specs.Paths.{node_of, operands, operands_of_rvalue, operands_of_test}
use Rattle.cmm_graph.specs.Ranges.{IsValid, is_constant, is_copy_in, is_entry, is_kind, is_node, is_operand, is_step, is_variable, leads_to}
use Rattle.cmm_hoist.specs.Graphs.{EntryIsCovered, IsHoistedFrom, all_operands, chain_start, keeping_node}
use Rattle.cmm_hoist.specs.Keeping.{Assigns, Branches, Compares, Computes, Copies, KindStandsFor, Loads, NodeStandsFor, SameKind, SameRvalue, Stores, TestStandsFor, Tests}
use Rattle.cmm_hoisted.proofs.Lists.{get_within, list_all-flat_map, list_all_contains, list_all_from}
use Rattle.cmm_hoisted.proofs.Nodes.{IsBlind, facts_through, keeper_there, lead, may_same, new_entry, old_entry, start_is, tests_through}
use Rattle.cmm_hoisted.proofs.Ranges.{Operands, Values, copy_same, entry_same, kept_below, kind_after, seen_same, step_more, steps, variable_same}
use Rattle.cmm_hoisted.proofs.Tests.{both_more}
use Rattle.cmm_folded.proofs.Shared.{site_of_same}
use Rattle.cmm_hoisted.proofs.Operands.{kind_operands}

only : (b : Bool) → IsTrue b → IsTrue (b && true)
only b is = and_from b true is refl

-- ---- constants that are kept

module _ (old new : Graph) (is : IsHoistedFrom old new) where
  -- a test of all operands before holds of each
  kept_holds : (test : Operand → Bool) → ((n : ℕ) (node : Node) → slice_get old.nodes n ≡ Some node → IsTrue (list_all test (operands node.kind))) →
      (k : ℕ) (constant : Constant) → slice_get is.kept k ≡ Some constant → IsTrue (test (operand.Constant constant))
  kept_holds test each k constant kept =
      list_all_contains test (all_operands old) (operand.Constant constant)
      (list_all-flat_map test (λ (node : Node). operands node.kind) old.nodes (list_all_from (λ node. list_all test (operands node.kind)) old.nodes each))
      (all_get (λ c. Contains (all_operands old) (operand.Constant c)) is.kept k constant is.named kept)

  -- ---- the graph is in range

  module _ (valid : IsValid old) where
    kind_there : (n : ℕ) (node : Node) → slice_get old.nodes n ≡ Some node → IsTrue (nat_lt 0 node.tokens) × IsTrue (is_kind old node.kind)
    kind_there n node there = and_parts (nat_lt 0 node.tokens) (is_kind old node.kind) (list_all_get (is_node old) old.nodes n node valid.nodes there)

    constant_there : (k : ℕ) (constant : Constant) → slice_get is.kept k ≡ Some constant → IsTrue (is_constant constant)
    constant_there = kept_holds (is_operand old) (λ n node there. kind_operands old node.kind (kind_there n node there).1)

    -- a run may stand at the nodes of the chain, and where it goes on
    lead_steps : (k : ℕ) → k ≤ length is.kept → IsTrue (leads_to new is_step (lead old new is k))
    lead_steps zero within =
        let entry = kind_there old.first.number (old_entry old new is) is.was in
        step_more old new is is.next (and_parts (list_all (is_variable old) is.formals) (leads_to old is_step is.next) entry.1).1
    lead_steps (suc k) within =
        let constant = get_within is.kept k (omega (arith, within)) in
        ap (steps old new is) (keeper_there old new is k constant.0 constant.1)

    node_after : (a b : Node) → NodeStandsFor old.temporaries is.kept a b → IsTrue (is_node old a) → IsTrue (is_node new b)
    node_after a b stands =
        both_more (nat_lt 0 a.tokens) (is_kind old a.kind) (nat_lt 0 b.tokens) (is_kind new b.kind) (λ some. ap (λ k. nat_lt 0 k) stands.tokens ∙ some)
        (kind_after old new is a.kind b.kind stands.kind)

    -- the Entry leads to the last of the chain
    abbrev new_next : NodeId
    new_next = chain_start (length old.nodes) is.next is.kept

    entry_after : IsTrue (is_node old (old_entry old new is)) → IsTrue (is_node new (new_entry old new is))
    entry_after there =
        let parts = and_parts (nat_lt 0 is.before) (is_kind old (old_entry old new is).kind) there in
        let before = (and_parts (list_all (is_variable old) is.formals) (leads_to old is_step is.next) parts.1).0 in
        let formals : IsTrue (list_all (is_variable new) is.formals) = ap (λ f. list_all f is.formals) (variable_same old new is) ∙ before in
        let step : IsTrue (leads_to new is_step new_next) = ap (leads_to new is_step) (start_is old new is) ∙ lead_steps (length is.kept) (omega arith) in
        and_from (nat_lt 0 is.tokens) (is_kind new (new_entry old new is).kind) (some is.covered parts.0)
        (and_from (list_all (is_variable new) is.formals) (leads_to new is_step new_next) formals step)
      where
        some : ((is.tokens ≡ is.before) × (is.kept ≡ [])) ⊎ EntryIsCovered new is.tokens is.formals → IsTrue (nat_lt 0 is.before) → IsTrue (nat_lt 0 is.tokens)
        some (inl none) before = ap (nat_lt 0) none.0 ∙ before
        some (inr covered) before = let five = covered.some in let now : 0 < is.tokens = omega (arith, five) in grind (arith, nat_tests, now)

    keeper_in_range : (k : ℕ) (constant : Constant) → slice_get is.kept k ≡ Some constant →
        IsTrue (is_node new (keeping_node (old.temporaries + k) constant (lead old new is k)))
    keeper_in_range k constant kept =
        let within = slice_get_within is.kept k constant kept in
        let below = nat_lt (old.temporaries + k) new.temporaries in
        and_from (below && is_constant constant) (leads_to new is_step (lead old new is k))
        (and_from below (is_constant constant) (kept_below old new is k constant kept) (constant_there k constant kept))
        (lead_steps k (omega (arith, within)))

    valid_after : IsValid new
    valid_after = record {
      first = ap (leads_to new is_entry) is.first ∙ (ap (λ f. f old.first) (entry_same old new is) ∙ valid.first);
      nodes = tests_through old new is (is_node old) (is_node new) node_after entry_after keeper_in_range valid.nodes;
      continuations =
          ap (λ ns. list_all (leads_to new is_copy_in) ns) is.continuations
          ∙ (ap (λ f. list_all f old.continuations) (copy_same old new is) ∙ valid.continuations);
    }

  -- ---- landings and sites

  taken_blind : IsBlind taken_by
  taken_blind = record { assigns = λ to v w next. refl; stores = λ width aligned a b c d next. refl; branches = λ t u then_ otherwise. refl }

  formals_blind : IsBlind formals_of
  formals_blind = record { assigns = λ to v w next. refl; stores = λ width aligned a b c d next. refl; branches = λ t u then_ otherwise. refl }

  taken_same : taken_at new ≡ taken_at old
  taken_same =
      fun_ext (seen_same old new is (λ (o : Option Node). with_some o (λ node. taken_by node.kind)) (may_same old new is taken_by taken_blind refl)
      (λ number constant next. refl))

  formals_same : (n : NodeId) → with_some (node_of new n) (λ node. formals_of node.kind) ≡ with_some (node_of old n) (λ node. formals_of node.kind)
  formals_same =
      seen_same old new is (λ (o : Option Node). with_some o (λ node. formals_of node.kind)) (may_same old new is formals_of formals_blind refl)
      (λ number constant next. refl)

  site_after : (q : Proc) (a b : NodeKind) → KindStandsFor old.temporaries is.kept a b → HasSite q old a → HasSite q new b
  site_after q _ _ (Assigns to a b next stands) has = tt
  site_after q _ _ (Stores width aligned a b c d next one two) has = tt
  site_after q _ _ (Branches a b then_ otherwise stands) has = tt
  site_after q _ _ (SameKind kind) has = site_of_same old new taken_same q kind has

  pub sites_after : (q : Proc) → All (λ node. HasSite q old node.kind) old.nodes → All (λ node. HasSite q new node.kind) new.nodes
  sites_after q =
      facts_through old new is (λ node. HasSite q old node.kind) (λ node. HasSite q new node.kind) (λ a b stands. site_after q a.kind b.kind stands.kind)
      (λ has. tt) (λ k constant kept. tt)

  -- ---- names: a temporary names nothing of the program

  module _ (p : Program) (q : Proc) where
    abbrev Named : List Operand → Type 0
    Named os = IsTrue (list_all (names_operand p q) os)

    operand_named : (a b : Operand) → Operands old new is a b → IsTrue (names_operand p q a) → IsTrue (names_operand p q b)
    operand_named a b (inl e) named = ap (names_operand p q) e ∙ named
    operand_named a b (inr k) named = ap (names_operand p q) k.is

    one_named : (a b : Operand) → Operands old new is a b → Named (a ∷ []) → Named (b ∷ [])
    one_named a b stands = both_more (names_operand p q a) true (names_operand p q b) true (operand_named a b stands) (λ is. is)

    two_named : (a b c d : Operand) → Operands old new is a c → Operands old new is b d → Named (a ∷ b ∷ []) → Named (c ∷ d ∷ [])
    two_named a b c d one two =
        both_more (names_operand p q a) (names_operand p q b && true) (names_operand p q c) (names_operand p q d && true) (operand_named a c one)
        (one_named b d two)

    test_named : (a b : Comparison) → TestStandsFor old.temporaries is.kept a b → Named (operands_of_test a) → Named (operands_of_test b)
    test_named _ _ (Compares test left right one two) = two_named test.left test.right left right one two

    value_named : (a b : Rvalue) → Values old new is a b → Named (operands_of_rvalue a) → Named (operands_of_rvalue b)
    value_named _ _ (Copies a b stands) named = one_named a b stands named
    value_named _ _ (Loads width aligned a b stands) named = one_named a b stands named
    value_named _ _ (Computes operator width a b c d one two) named = two_named a b c d one two named
    value_named _ _ (Tests a b stands) named = test_named a b stands named
    value_named _ _ (SameRvalue r) named = named

    registers_same : (a b : Rvalue) → Values old new is a b → names_rvalue p b ≡ names_rvalue p a
    registers_same _ _ (Copies a b stands) = refl
    registers_same _ _ (Loads width aligned a b stands) = refl
    registers_same _ _ (Computes operator width a b c d one two) = refl
    registers_same _ _ (Tests a b stands) = refl
    registers_same _ _ (SameRvalue r) = refl

    -- operands that are named, where the targets are, and the registers
    rest_named : (a b c d e : Bool) → (IsTrue a → IsTrue b) → e ≡ d → IsTrue (a && c && d) → IsTrue (b && c && e)
    rest_named a b c d e more same = both_more (a && c) d (b && c) e (both_more a c b c more (λ is. is)) (λ is. same ∙ is)

    names_after : (a b : NodeKind) → KindStandsFor old.temporaries is.kept a b → IsTrue (names_there p q a) → IsTrue (names_there p q b)
    names_after _ _ (Assigns to a b next stands) =
        rest_named (list_all (names_operand p q) (operands_of_rvalue a)) (list_all (names_operand p q) (operands_of_rvalue b))
        (list_all (typing.is_target p q) (targets_of_destination to)) (names_rvalue p a) (names_rvalue p b) (value_named a b stands) (registers_same a b stands)
    names_after _ _ (Stores width aligned a b c d next one two) =
        rest_named (list_all (names_operand p q) (a ∷ b ∷ [])) (list_all (names_operand p q) (c ∷ d ∷ [])) true true true (two_named a b c d one two) refl
    names_after _ _ (Branches a b then_ otherwise stands) =
        rest_named (list_all (names_operand p q) (operands_of_test a)) (list_all (names_operand p q) (operands_of_test b)) true true true
        (test_named a b stands) refl
    names_after _ _ (SameKind kind) = λ named. named

    names_whole : IsTrue (list_all (λ node. names_there p q node.kind) old.nodes) → IsTrue (list_all (λ node. names_there p q node.kind) new.nodes)
    names_whole named =
        tests_through old new is (λ node. names_there p q node.kind) (λ node. names_there p q node.kind) (λ a b stands. names_after a.kind b.kind stands.kind)
        (λ there. there) keeper_named named
      where
        operands_named : (n : ℕ) (node : Node) → slice_get old.nodes n ≡ Some node → Named (operands node.kind)
        operands_named n node there =
            let its = list_all (names_operand p q) (operands node.kind) in
            let others = list_all (typing.is_target p q) (targets node.kind) in
            let all = list_all_get (λ node. names_there p q node.kind) old.nodes n node named there in
            (and_parts its others (and_parts (its && others) (reads_registers p node.kind) all).0).0

        keeper_named : (k : ℕ) (constant : Constant) → slice_get is.kept k ≡ Some constant →
            IsTrue (names_there p q (keeping_node (old.temporaries + k) constant (lead old new is k)).kind)
        keeper_named k constant kept =
            let named_one = kept_holds (names_operand p q) operands_named k constant kept in
            only _ (only _ (only (names_operand p q (operand.Constant constant)) named_one))

    -- ---- the graph

    pub graph_after : IsGraphOf p q old → IsGraphOf p q new
    graph_after of = record {
      valid = valid_after of.valid;
      variables = is.variables ∙ of.variables;
      formals = ap (λ n. with_some (node_of new n) (λ node. formals_of node.kind)) is.first ∙ (formals_same old.first ∙ of.formals);
      continuations = ap (λ ns. map (taken_at new) ns) is.continuations ∙ (ap (λ f. map f old.continuations) taken_same ∙ of.continuations);
      sites = sites_after q of.sites;
      names = names_whole of.names;
    }
