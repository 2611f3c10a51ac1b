-- The same variables are live in a graph and where its constants are hoisted: the temporaries that keep these are no variables.
use Rattle.std.proofs.Common.{◌≡◌, ◌⊎◌, ◌↔◌, ℕ, zero, suc, ◌+◌, ◌<◌, ◌≤◌, inl, inr, refl, sym, ◌∙◌, ap, subst, arith, List, [], ◌∷◌, ◌++◌, flat_map, length}
use Rattle.std.proofs.lemmas.List.Elements.{Contains-append_cases, Contains-append_left, Contains-append_right}
use Rattle.std.proofs.lemmas.Option.{slice_get_within}
use Rattle.std.specs.Prelude.{slice_get, Contains, Some}
use Rattle.std.specs.List.{AllZip}
use Rattle.cmm_words.specs.declared.constant.Constant.{Constant}
use Rattle.cmm_graph.specs.declared.graph.Graph.{Graph}
use Rattle.cmm_graph.specs.declared.node.Node.{Node}
use Rattle.cmm_graph.specs.declared.node.NodeKind.{NodeKind}
use Rattle.cmm_graph.specs.declared.number.NodeId.{NodeId}
use Rattle.cmm_graph.specs.declared.number.SiteId.{SiteId}
use Rattle.cmm_graph.specs.declared.number.Temporary.{Temporary}
use Rattle.cmm_graph.specs.declared.number.Variable.{Variable}
use Rattle.cmm_graph.specs.declared.operand.Comparison.{Comparison}
use Rattle.cmm_graph.specs.declared.operand.Local.{Local}
use Rattle.cmm_graph.specs.declared.operand.Local.TheVariants as local
use Rattle.cmm_graph.specs.declared.operand.Operand.{Operand}
use Rattle.cmm_graph.specs.declared.operand.Rvalue.{Rvalue}
use Rattle.cmm_graph.specs.Liveness.{IsLiveBefore, Here, Onward}
use Rattle.cmm_graph.specs.Paths.{node_of, operands, operands_of_rvalue, operands_of_test, read_by, reads, successors, writes}
use Rattle.cmm_graph.specs.Ranges.{IsValid}
use Rattle.cmm_hoist.specs.Graphs.{IsHoistedFrom, chain_start, keeping_node}
use Rattle.cmm_hoist.specs.Keeping.{Assigns, Branches, Compares, Computes, Copies, KindStandsFor, Loads, NodeStandsFor, OperandStandsFor, RvalueStandsFor, SameKind, SameRvalue, Stores, TestStandsFor, Tests, keeper}
use Rattle.cmm_live.specs.Sites.{IsLiveAt, IsLiveOn, IsLiveOnCut, cut_nodes, site_of}
use Rattle.cmm_folded.proofs.Shared.{cut_nodes_same, successors_same}
use Rattle.cmm_hoisted.proofs.Leading.{cuts_lead_within, leads_within}
use Rattle.cmm_hoisted.proofs.Nodes.{AreEntries, IsBlind, KeepsAt, MayStand, NewNode, OldNode, keeper_there, kind_same, lead, new_node, old_node, start_is}

-- ---- members of lists

element : {X : Type 0} (xs : List X) (k : ℕ) → k < length xs → (x : X) × (slice_get xs k ≡ Some x)
element [] k less = absurd (omega arith)
element (x ∷ xs) zero less = (x, refl)
element (x ∷ xs) (suc k) less = element xs k (omega arith)

contains_none : {X : Type 0} (x : X) → ¬ Contains [] x
contains_none x found = omega (arith, found.1)

contains_one : {X : Type 0} (x y : X) → Contains (x ∷ []) y → x ≡ y
contains_one x y (zero, less, is) = is
contains_one x y (suc k, less, is) = absurd (omega arith)

one_contained : {X : Type 0} (x : X) → Contains (x ∷ []) x
one_contained x = (zero, omega arith, refl)

append_more : {X : Type 0} (xs ys us vs : List X) (x : X) → (Contains xs x → Contains us x) → (Contains ys x → Contains vs x) →
    Contains (xs ++ ys) x → Contains (us ++ vs) x
append_more xs ys us vs x left right found = by (Contains-append_cases xs ys x found)
  where
    by : Contains xs x ⊎ Contains ys x → Contains (us ++ vs) x
    by (inl here) = Contains-append_left us vs x (left here)
    by (inr later) = Contains-append_right us vs x (right later)

no_variable : (t : Temporary) (v : Variable) → local.Temporary t ≡ local.Variable v → ⊥
no_variable t v same = absurd (cc (same))

-- ---- what a node reads

module _ (first : ℕ) (kept : List Constant) where
  abbrev AllStand : List Operand → List Operand → Type 0
  AllStand = AllZip (OperandStandsFor first kept)

  all_same : (os : List Operand) → AllStand os os
  all_same [] = tt
  all_same (o ∷ os) = (inl refl, all_same os)

  test_operands : (old new : Comparison) → TestStandsFor first kept old new → AllStand (operands_of_test old) (operands_of_test new)
  test_operands _ _ (Compares old left right one two) = (one, (two, tt))

  rvalue_operands : (old new : Rvalue) → RvalueStandsFor first kept old new → AllStand (operands_of_rvalue old) (operands_of_rvalue new)
  rvalue_operands _ _ (Copies old new stands) = (stands, tt)
  rvalue_operands _ _ (Loads width aligned old new stands) = (stands, tt)
  rvalue_operands _ _ (Computes operator width left right one two stands also) = (stands, (also, tt))
  rvalue_operands _ _ (Tests old new stands) = test_operands old new stands
  rvalue_operands _ _ (SameRvalue value) = all_same (operands_of_rvalue value)

  kind_operands : (old new : NodeKind) → KindStandsFor first kept old new → AllStand (operands old) (operands new)
  kind_operands _ _ (Assigns to old new next stands) = rvalue_operands old new stands
  kind_operands _ _ (Stores width aligned address value place stored next stands also) = (stands, (also, tt))
  kind_operands _ _ (Branches old new then_ otherwise stands) = test_operands old new stands
  kind_operands _ _ (SameKind kind) = all_same (operands kind)

  module _ (v : Variable) where
    abbrev Has : List Local → Type 0
    Has locals = Contains locals (local.Variable v)

    -- a variable is read by an operand just where it is read by one that stands for it
    one_read : (old new : Operand) → OperandStandsFor first kept old new → Has (read_by old) ↔ Has (read_by new)
    one_read old new (inl same) = (λ read. subst (λ o. Has (read_by o)) (sym same) read, λ read. subst (λ o. Has (read_by o)) same read)
    one_read old new (inr k) = (
      λ read. absurd (contains_none (local.Variable v) (subst (λ o. Has (read_by o)) k.was read)),
      λ read. let it = local.Temporary (keeper first k.index) in
          absurd (no_variable (keeper first k.index) v (contains_one it (local.Variable v) (subst (λ o. Has (read_by o)) k.is read))),
    )

    -- so it is by operands
    all_read : (old new : List Operand) → AllStand old new → Has (flat_map read_by old) ↔ Has (flat_map read_by new)
    all_read [] [] all = (λ read. read, λ read. read)
    all_read [] (b ∷ new) all = absurd all
    all_read (a ∷ old) [] all = absurd all
    all_read (a ∷ old) (b ∷ new) all =
        let one = one_read a b all.0 in
        let rest = all_read old new all.1 in (
          append_more (read_by a) (flat_map read_by old) (read_by b) (flat_map read_by new) (local.Variable v) one.0 rest.0,
          append_more (read_by b) (flat_map read_by new) (read_by a) (flat_map read_by old) (local.Variable v) one.1 rest.1,
        )

-- ---- where a node waits

site_blind : IsBlind site_of
site_blind = record { assigns = λ to v w next. refl; stores = λ width aligned a b c d next. refl; branches = λ t u then_ otherwise. refl }

waiting_same : (first : ℕ) (kept : List Constant) (a b : Node) → NodeStandsFor first kept a b → site_of b.kind ≡ site_of a.kind
waiting_same first kept a b stands = kind_same site_of site_blind first kept a.kind b.kind stands.kind

-- ---- the nodes of both graphs

module _ (old new : Graph) (is : IsHoistedFrom old new) (valid : IsValid old) (v : Variable) where
  abbrev l : Local
  l = local.Variable v

  abbrev Stands : Node → Node → Type 0
  Stands = NodeStandsFor old.temporaries is.kept

  -- a node reads the variable where one does that stands for it, and writes and leads as that one does
  record IsAlike (a b : Node) : Type 0 where
    read : Contains (reads a.kind) l ↔ Contains (reads b.kind) l
    written : writes b.kind ≡ writes a.kind
    leads : successors new b.kind ≡ successors old a.kind
    cuts : cut_nodes new b.kind ≡ cut_nodes old a.kind
    site : site_of b.kind ≡ site_of a.kind

  alike : (a b : Node) → Stands a b → IsAlike a b
  alike a b stands = record {
    read = all_read old.temporaries is.kept v (operands a.kind) (operands b.kind) (kind_operands old.temporaries is.kept a.kind b.kind stands.kind);
    written = same writes record { assigns = λ to v w next. refl; stores = λ width aligned a b c d next. refl; branches = λ t u then_ otherwise. refl };
    leads =
        successors_same old new is.continuations b.kind
        ∙ same (successors old) record { assigns = λ to v w next. refl; stores = λ width aligned a b c d next. refl; branches = λ t u then_ otherwise. refl };
    cuts =
        cut_nodes_same old new is.continuations b.kind
        ∙ same (cut_nodes old) record { assigns = λ to v w next. refl; stores = λ width aligned a b c d next. refl; branches = λ t u then_ otherwise. refl };
    site = waiting_same old.temporaries is.kept a b stands;
  }
    where
      same : {A : Type 0} (f : NodeKind → A) → IsBlind f → f b.kind ≡ f a.kind
      same f blind = kind_same f blind old.temporaries is.kept a.kind b.kind stands.kind

  -- the Entry writes its formals before and after
  entries_write : (n : NodeId) (a b : Node) → AreEntries old new is n a b → writes b.kind ≡ writes a.kind
  entries_write n a b entry = ap (λ (z : Node). writes z.kind) entry.now ∙ sym (ap (λ (z : Node). writes z.kind) entry.was)

  -- ---- from the one to the other

  -- what is live where the Entry led is live at each node of the chain
  live_along : IsLiveBefore new l is.next → (k : ℕ) → k ≤ length is.kept → IsLiveBefore new l (lead old new is k)
  live_along live zero within = live
  live_along live (suc k) within =
      let there = element is.kept k within in
      let next = lead old new is k in
      let to = keeper old.temporaries k in
      Onward (lead old new is (suc k)) next (keeping_node (old.temporaries + k) there.0 next) (keeper_there old new is k there.0 there.1)
      (λ written. no_variable to v (contains_one (local.Temporary to) l written)) (one_contained next) (live_along live k (omega arith))

  here : (n : NodeId) (a b : Node) → node_of new n ≡ Some b → MayStand old new is n a b → Contains (reads a.kind) l → IsLiveBefore new l n
  here n a b there (inl entry) read = absurd (contains_none l (subst (λ (a : Node). Contains (reads a.kind) l) entry.was read))
  here n a b there (inr stands) read = Here n b there ((alike a b stands).read.0 read)

  onward : (n m : NodeId) (a b : Node) → node_of new n ≡ Some b → MayStand old new is n a b → ¬ Contains (writes a.kind) l →
      Contains (successors old a.kind) m → IsLiveBefore new l m → IsLiveBefore new l n
  onward n m a b there (inl entry) fresh leads live =
      let next : is.next ≡ m = contains_one is.next m (subst (λ (a : Node). Contains (successors old a.kind) m) entry.was leads) in
      let start = chain_start (length old.nodes) is.next is.kept in
      Onward n start b there (λ written. fresh (subst (λ ls. Contains ls l) (entries_write n a b entry) written))
      (subst (λ (b : Node). Contains (successors new b.kind) start) (sym entry.now) (one_contained start))
      (subst (IsLiveBefore new l) (sym (start_is old new is)) (live_along (subst (IsLiveBefore new l) (sym next) live) (length is.kept) (omega arith)))
  onward n m a b there (inr stands) fresh leads live =
      let both = alike a b stands in
      Onward n m b there (λ written. fresh (subst (λ ls. Contains ls l) both.written written)) (subst (λ ns. Contains ns m) (sym both.leads) leads) live

  still_live : (n : NodeId) → IsLiveBefore old l n → IsLiveBefore new l n
  still_live _ (Here n node there read) = let b = new_node old new is n node there in here n node b.other b.is_there b.stands read
  still_live _ (Onward n m node there fresh leads live) =
      let b = new_node old new is n node there in onward n m node b.other b.is_there b.stands fresh leads (still_live m live)

  -- ---- and back

  within : (n : NodeId) → IsLiveBefore old l n → n.number < length old.nodes
  within _ (Here n node there read) = slice_get_within old.nodes n.number node there
  within _ (Onward n m node there fresh leads live) = slice_get_within old.nodes n.number node there

  -- what is live before a node of the chain is live where the Entry led
  abbrev WasLive : NodeId → Type 0
  WasLive n = IsLiveBefore old l n ⊎ (IsLiveBefore old l is.next × (length old.nodes ≤ n.number))

  was_live : (n : NodeId) → n.number < length old.nodes → WasLive n → IsLiveBefore old l n
  was_live n less (inl live) = live
  was_live n less (inr later) = absurd (omega (arith, less, later.1))

  past_chain : (k : ℕ) → WasLive (lead old new is k) → IsLiveBefore old l is.next
  past_chain zero (inl live) = live
  past_chain (suc k) (inl live) = let less = within (lead old new is (suc k)) live in absurd (omega (arith, less))
  past_chain k (inr later) = later.0

  here_before : (n : NodeId) (b : Node) → Contains (reads b.kind) l → OldNode old new is n b ⊎ KeepsAt old new is n b → WasLive n
  here_before n b read (inl o) = by o.stands
    where
      by : MayStand old new is n o.other b → WasLive n
      by (inl entry) = absurd (contains_none l (subst (λ (b : Node). Contains (reads b.kind) l) entry.now read))
      by (inr stands) = inl (Here n o.other o.is_there ((alike o.other b stands).read.1 read))
  here_before n b read (inr keeps) = absurd (contains_none l (subst (λ (b : Node). Contains (reads b.kind) l) keeps.node read))

  onward_before : (n m : NodeId) (b : Node) → ¬ Contains (writes b.kind) l → Contains (successors new b.kind) m → WasLive m →
      OldNode old new is n b ⊎ KeepsAt old new is n b → WasLive n
  onward_before n m b fresh leads live (inl o) = by o.stands
    where
      by : MayStand old new is n o.other b → WasLive n
      by (inl entry) =
          let start = chain_start (length old.nodes) is.next is.kept in
          let last : m ≡ lead old new is (length is.kept) =
          sym (contains_one start m (subst (λ (b : Node). Contains (successors new b.kind) m) entry.now leads)) ∙ start_is old new is in
          inl (Onward n is.next o.other o.is_there (λ written. fresh (subst (λ ls. Contains ls l) (sym (entries_write n o.other b entry)) written))
          (subst (λ (a : Node). Contains (successors old a.kind) is.next) (sym entry.was) (one_contained is.next))
          (past_chain (length is.kept) (subst WasLive last live)))
      by (inr stands) =
          let both = alike o.other b stands in
          let led = subst (λ ns. Contains ns m) both.leads leads in
          inl (Onward n m o.other o.is_there (λ written. fresh (subst (λ ls. Contains ls l) (sym both.written) written)) led
          (was_live m (leads_within old valid n o.other o.is_there m led) live))
  onward_before n m b fresh leads live (inr keeps) =
      let next : m ≡ lead old new is keeps.number =
      sym (contains_one (lead old new is keeps.number) m (subst (λ (b : Node). Contains (successors new b.kind) m) keeps.node leads)) in
      inr (past_chain keeps.number (subst WasLive next live), omega (arith, keeps.at))

  live_before : (n : NodeId) → IsLiveBefore new l n → WasLive n
  live_before _ (Here n node there read) = here_before n node read (old_node old new is n node there)
  live_before _ (Onward n m node there fresh leads live) = onward_before n m node fresh leads (live_before m live) (old_node old new is n node there)

  -- the variable is live before a node of the one graph just where it is before that of the other
  live_same : (n : NodeId) → n.number < length old.nodes → IsLiveBefore old l n ↔ IsLiveBefore new l n
  live_same n less = (still_live n, λ live. was_live n less (live_before n live))

  -- ---- at sites

  module _ (exits : Graph → NodeKind → List NodeId) (same : (a b : Node) → Stands a b → exits new b.kind ≡ exits old a.kind)
      (there : (n : NodeId) (node : Node) → node_of old n ≡ Some node → (m : NodeId) → Contains (exits old node.kind) m → m.number < length old.nodes)
      (s : SiteId) where
    on_after : IsLiveOn old exits l s → IsLiveOn new exits l s
    on_after live = let b = new_node old new is live.at live.node live.is_there in by b b.stands
      where
        by : (b : NewNode old new is live.at live.node) → MayStand old new is live.at live.node b.other → IsLiveOn new exits l s
        by b (inl entry) = let waits = subst (λ (a : Node). site_of a.kind ≡ Some s) entry.was live.waits in absurd (cc (waits))
        by b (inr stands) = record {
          at = live.at;
          node = b.other;
          is_there = b.is_there;
          waits = (alike live.node b.other stands).site ∙ live.waits;
          next = live.next;
          leads = subst (λ ns. Contains ns live.next) (sym (same live.node b.other stands)) live.leads;
          live = (live_same live.next (there live.at live.node live.is_there live.next live.leads)).0 live.live;
        }

    on_before : IsLiveOn new exits l s → IsLiveOn old exits l s
    on_before live = by (old_node old new is live.at live.node live.is_there)
      where
        stood : (a : OldNode old new is live.at live.node) → MayStand old new is live.at a.other live.node → IsLiveOn old exits l s
        stood a (inl entry) = let waits = subst (λ (b : Node). site_of b.kind ≡ Some s) entry.now live.waits in absurd (cc (waits))
        stood a (inr stands) =
            let leads = subst (λ ns. Contains ns live.next) (same a.other live.node stands) live.leads in
            record {
              at = live.at;
              node = a.other;
              is_there = a.is_there;
              waits = sym (alike a.other live.node stands).site ∙ live.waits;
              next = live.next;
              leads = leads;
              live = (live_same live.next (there live.at a.other a.is_there live.next leads)).1 live.live;
            }

        by : OldNode old new is live.at live.node ⊎ KeepsAt old new is live.at live.node → IsLiveOn old exits l s
        by (inl a) = stood a a.stands
        by (inr keeps) = let waits = subst (λ (b : Node). site_of b.kind ≡ Some s) keeps.node live.waits in absurd (cc (waits))

    on_same : IsLiveOn old exits l s ↔ IsLiveOn new exits l s
    on_same = (on_after, on_before)

  pub live_at_same : (s : SiteId) → IsLiveAt old l s ↔ IsLiveAt new l s
  live_at_same = on_same successors (λ a b stands. (alike a b stands).leads) (leads_within old valid)

  pub live_on_cut_same : (s : SiteId) → IsLiveOnCut old l s ↔ IsLiveOnCut new l s
  live_on_cut_same = on_same cut_nodes (λ a b stands. (alike a b stands).cuts) (λ n node there. cuts_lead_within old valid node)
