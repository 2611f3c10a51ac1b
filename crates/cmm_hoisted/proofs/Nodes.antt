-- The nodes of a graph whose constants are hoisted, beside those of the graph before.
use Rattle.std.proofs.Common.{◌≡◌, ◌⊎◌, ℕ, zero, suc, ◌+◌, ◌-◌, ◌<◌, ◌≤◌, ◌≢◌, inl, inr, refl, sym, ◌∙◌, ap, subst, arith, List, ◌++◌, length}
use Rattle.std.proofs.lemmas.Bool.{cases_eq, cases_lt}
use Rattle.std.proofs.lemmas.List.{length-append, length-set}
use Rattle.std.proofs.lemmas.Option.{slice_get_within}
use Rattle.std.proofs.lemmas.Slice.Zip.{AllZip-long}
use Rattle.std.specs.Prelude.{slice_get, slice_set, Bool, IsTrue, Some}
use Rattle.std.specs.List.{All, list_all}
use Rattle.cmm_program.proofs.Shared.{all_get, list_all_get}
use Rattle.cmm_words.specs.declared.constant.Constant.{Constant}
use Rattle.cmm_words.specs.declared.width.Width.{Width}
use Rattle.cmm_graph.specs.declared.graph.Graph.{Graph}
use Rattle.cmm_graph.specs.declared.node.Node.{Node}
use Rattle.cmm_graph.specs.declared.node.NodeKind.{NodeKind}
use Rattle.cmm_graph.specs.declared.node.NodeKind.TheVariants.{Assign, Branch, Entry, Store}
use Rattle.cmm_graph.specs.declared.number.NodeId.{NodeId}
use Rattle.cmm_graph.specs.declared.operand.Comparison.{Comparison}
use Rattle.cmm_graph.specs.declared.operand.Destination.{Destination}
use Rattle.cmm_graph.specs.declared.operand.Operand.{Operand}
use Rattle.cmm_graph.specs.declared.operand.Rvalue.{Rvalue}
use Rattle.cmm_graph.specs.Paths.{node_of}
use Rattle.cmm_hoist.specs.Graphs.{IsHoistedFrom, chain, chain_start, keeping_node}
use Rattle.cmm_hoist.specs.Keeping.{Assigns, Branches, KindStandsFor, NodeStandsFor, SameKind, Stores}
use Rattle.cmm_hoisted.proofs.Chain.{chain_start_is, chain_there, in_chain, lead_from, length-chain}
use Rattle.cmm_hoisted.proofs.Lists.{all_from, before, beside, get-append_left, get-append_right, get-set_other, get-set_same, list_all_from}

-- ---- what looks at no operand

-- what looks at no operand of an assignment, a store or a branch
pub record IsBlind {A : Type 0} (f : NodeKind → A) : Type 0 where
  pub assigns : (to : Destination) (v w : Rvalue) (next : NodeId) → f (Assign to w next) ≡ f (Assign to v next)
  pub stores : (width : Width) (aligned : ℕ) (a b c d : Operand) (next : NodeId) → f (Store width aligned c d next) ≡ f (Store width aligned a b next)
  pub branches : (t u : Comparison) (then_ otherwise : NodeId) → f (Branch u then_ otherwise) ≡ f (Branch t then_ otherwise)

-- is the same of a node that stands for another
pub kind_same : {A : Type 0} (f : NodeKind → A) → IsBlind f → (first : ℕ) (kept : List Constant) (old new : NodeKind) →
    KindStandsFor first kept old new → f new ≡ f old
kind_same f blind first kept _ _ (Assigns to old new next value) = blind.assigns to old new next
kind_same f blind first kept _ _ (Stores width aligned a b c d next first_stands second_stands) = blind.stores width aligned a b c d next
kind_same f blind first kept _ _ (Branches t u then_ otherwise tests) = blind.branches t u then_ otherwise
kind_same f blind first kept _ _ (SameKind kind) = refl

-- ---- the nodes of a graph

module _ (old new : Graph) (is : IsHoistedFrom old new) where
  abbrev count : ℕ
  count = length old.nodes

  -- where the node of the constant with this number leads: to that of the one before, or on
  abbrev pub lead : ℕ → NodeId
  lead zero = is.next
  lead (suc k) = record { number = count + k }

  -- the Entry before and after
  abbrev pub old_entry : Node
  old_entry = record { tokens = is.before; kind = Entry is.formals is.next }

  abbrev pub new_entry : Node
  new_entry = record { tokens = is.tokens; kind = Entry is.formals (chain_start count is.next is.kept) }

  -- the nodes are those before, where the Entry is another, and a chain
  abbrev pub behind : List Node
  behind = slice_set is.others old.first.number new_entry

  abbrev pub keepers : List Node
  keepers = chain old.temporaries count is.next is.kept

  long : length behind ≡ count
  long =
      length-set is.others old.first.number new_entry ∙ AllZip-long (NodeStandsFor old.temporaries is.kept) old.nodes is.others is.stand

  node_at : (n : ℕ) → slice_get new.nodes n ≡ slice_get (behind ++ keepers) n
  node_at n = ap (λ nodes. slice_get nodes n) is.nodes

  within_at : (n : ℕ) → n < count → slice_get new.nodes n ≡ slice_get behind n
  within_at n less = node_at n ∙ get-append_left behind keepers n (omega (arith, less, long))

  beyond_at : (k : ℕ) → slice_get new.nodes (count + k) ≡ slice_get keepers k
  beyond_at k = node_at (count + k) ∙ (ap (λ (m : ℕ). slice_get (behind ++ keepers) (m + k)) (sym long) ∙ get-append_right behind keepers k)

  pub first_within : old.first.number < count
  first_within = slice_get_within old.nodes old.first.number old_entry is.was

  pub count_new : length new.nodes ≡ count + length is.kept
  count_new =
      let whole = ap (λ nodes. length nodes) is.nodes in
      let joined = length-append behind keepers in
      let chained = length-chain old.temporaries count is.next is.kept in
      omega (arith, whole, joined, chained, long)

  lead_is : (k : ℕ) → lead_from count is.next k ≡ lead k
  lead_is zero = refl
  lead_is (suc k) = refl

  pub start_is : chain_start count is.next is.kept ≡ lead (length is.kept)
  start_is = chain_start_is count is.next is.kept ∙ lead_is (length is.kept)

  pub entry_there : node_of new new.first ≡ Some new_entry
  entry_there =
      ap (λ (n : NodeId). node_of new n) is.first ∙ (within_at old.first.number first_within
      ∙ get-set_same is.others old.first.number new_entry
      (let within = first_within in let same = length-set is.others old.first.number new_entry in omega (arith, within, long, same)))

  -- the one node is the Entry, or stands for the other
  pub record AreEntries (n : NodeId) (a b : Node) : Type 0 where
    pub at : n ≡ old.first
    pub was : a ≡ old_entry
    pub now : b ≡ new_entry

  abbrev pub MayStand : NodeId → Node → Node → Type 0
  MayStand n a b = AreEntries n a b ⊎ NodeStandsFor old.temporaries is.kept a b

  -- where they are those of both graphs, at one number
  entries_at : (n : NodeId) → n.number ≡ old.first.number → (a b : Node) → node_of old n ≡ Some a → node_of new n ≡ Some b → AreEntries n a b
  entries_at n same a b was now =
      let at : n ≡ old.first = ap (λ (k : ℕ). record { number = k }) same in
      let before_ : node_of old n ≡ Some old_entry = ap (node_of old) at ∙ is.was in
      let after : node_of new n ≡ Some new_entry = ap (node_of new) (at ∙ sym is.first) ∙ entry_there in
      record { at = at; was = cc; now = cc }

  -- what looks at no operand, and not at where an Entry leads, is the same of both
  pub may_same : {A : Type 0} (f : NodeKind → A) → IsBlind f → f new_entry.kind ≡ f old_entry.kind → (n : NodeId) (a b : Node) →
      MayStand n a b → f b.kind ≡ f a.kind
  may_same f blind entry n a b (inl are) = ap (λ (node : Node). f node.kind) are.now ∙ (entry ∙ sym (ap (λ (node : Node). f node.kind) are.was))
  may_same f blind entry n a b (inr stands) = kind_same f blind old.temporaries is.kept a.kind b.kind stands.kind

  pub record NewNode (n : NodeId) (a : Node) : Type 0 where
    pub other : Node
    pub is_there : node_of new n ≡ Some other
    pub stands : MayStand n a other

  pub new_node : (n : NodeId) (a : Node) → node_of old n ≡ Some a → NewNode n a
  new_node n a there = by (cases_eq n.number old.first.number)
    where
      within : n.number < count
      within = slice_get_within old.nodes n.number a there

      by : (n.number ≡ old.first.number) ⊎ (n.number ≢ old.first.number) → NewNode n a
      by (inl same) =
          let at : n.number ≡ new.first.number = same ∙ sym (ap (λ (m : NodeId). m.number) is.first) in
          let now : node_of new n ≡ Some new_entry = ap (slice_get new.nodes) at ∙ entry_there in
          record { other = new_entry; is_there = now; stands = inl (entries_at n same a new_entry there now) }
      by (inr other) =
          let b = beside (NodeStandsFor old.temporaries is.kept) old.nodes is.others is.stand n.number a there in
          let same = get-set_other is.others old.first.number n.number new_entry other in
          let here : node_of new n ≡ slice_get is.others n.number = within_at n.number within ∙ same in
          record { other = b.other; is_there = here ∙ b.is_there; stands = inr b.stands }

  -- the node of a constant that is kept
  pub keeper_there : (k : ℕ) (constant : Constant) → slice_get is.kept k ≡ Some constant →
      node_of new (record { number = count + k }) ≡ Some (keeping_node (old.temporaries + k) constant (lead k))
  keeper_there k constant kept =
      beyond_at k ∙ (chain_there old.temporaries count is.next is.kept k constant kept
      ∙ ap (λ to. Some (keeping_node (old.temporaries + k) constant to)) (lead_is k))

  -- a node is one of those before, or keeps a constant
  pub record OldNode (n : NodeId) (b : Node) : Type 0 where
    pub other : Node
    pub is_there : node_of old n ≡ Some other
    pub stands : MayStand n other b

  pub record KeepsAt (n : NodeId) (b : Node) : Type 0 where
    pub number : ℕ
    pub constant : Constant
    pub kept : slice_get is.kept number ≡ Some constant
    pub at : n.number ≡ count + number
    pub node : b ≡ keeping_node (old.temporaries + number) constant (lead number)

  pub old_node : (n : NodeId) (b : Node) → node_of new n ≡ Some b → OldNode n b ⊎ KeepsAt n b
  old_node n b there = by (cases_lt n.number count)
    where
      keeps : (k : ℕ) → n.number ≡ count + k → KeepsAt n b
      keeps k at =
          let made = keeping_node (old.temporaries + k) in
          let of = in_chain old.temporaries count is.next is.kept k b (sym (ap (slice_get new.nodes) at ∙ beyond_at k) ∙ there) in
          record { number = k; constant = of.constant; kept = of.is_kept; at = at; node = of.is ∙ ap (made of.constant) (lead_is k) }

      stood : n.number < count → (n.number ≡ old.first.number) ⊎ (n.number ≢ old.first.number) → OldNode n b
      stood less (inl same) =
          let was : node_of old n ≡ Some old_entry = ap (slice_get old.nodes) same ∙ is.was in
          record { other = old_entry; is_there = was; stands = inl (entries_at n same old_entry b was there) }
      stood less (inr other) =
          let is_other : slice_get is.others n.number ≡ Some b =
          sym (within_at n.number less ∙ get-set_other is.others old.first.number n.number new_entry other) ∙ there in
          let a = before (NodeStandsFor old.temporaries is.kept) old.nodes is.others is.stand n.number b is_other in
          record { other = a.other; is_there = a.is_there; stands = inr a.stands }

      by : (n.number < count) ⊎ (count ≤ n.number) → OldNode n b ⊎ KeepsAt n b
      by (inl less) = inl (stood less (cases_eq n.number old.first.number))
      by (inr more) = inr (keeps (n.number - count) (omega (arith, more)))

  -- ---- what holds of all nodes

  -- a test of all nodes before, another of all nodes now
  pub tests_through : (f h : Node → Bool) → ((a b : Node) → NodeStandsFor old.temporaries is.kept a b → IsTrue (f a) → IsTrue (h b)) → (IsTrue (f old_entry) → IsTrue (h new_entry)) →
      ((k : ℕ) (constant : Constant) → slice_get is.kept k ≡ Some constant → IsTrue (h (keeping_node (old.temporaries + k) constant (lead k)))) →
      IsTrue (list_all f old.nodes) → IsTrue (list_all h new.nodes)
  tests_through f h each entry keeping all = list_all_from h new.nodes (λ n b there. by n b (old_node (record { number = n }) b there))
    where
      stood : (n : NodeId) (a b : Node) → IsTrue (f a) → MayStand n a b → IsTrue (h b)
      stood n a b holds (inl are) = subst (λ z. IsTrue (h z)) (sym are.now) (entry (subst (λ z. IsTrue (f z)) are.was holds))
      stood n a b holds (inr stands) = each a b stands holds

      by : (n : ℕ) (b : Node) → OldNode (record { number = n }) b ⊎ KeepsAt (record { number = n }) b → IsTrue (h b)
      by n b (inl a) = stood (record { number = n }) a.other b (list_all_get f old.nodes n a.other all a.is_there) a.stands
      by n b (inr k) = subst (λ z. IsTrue (h z)) (sym k.node) (keeping k.number k.constant k.kept)

  pub facts_through : (P Q : Node → Type 0) → ((a b : Node) → NodeStandsFor old.temporaries is.kept a b → P a → Q b) → (P old_entry → Q new_entry) →
      ((k : ℕ) (constant : Constant) → slice_get is.kept k ≡ Some constant → Q (keeping_node (old.temporaries + k) constant (lead k))) →
      All P old.nodes → All Q new.nodes
  facts_through P Q each entry keeping all = all_from Q new.nodes (λ n b there. by n b (old_node (record { number = n }) b there))
    where
      stood : (n : NodeId) (a b : Node) → P a → MayStand n a b → Q b
      stood n a b holds (inl are) = subst Q (sym are.now) (entry (subst P are.was holds))
      stood n a b holds (inr stands) = each a b stands holds

      by : (n : ℕ) (b : Node) → OldNode (record { number = n }) b ⊎ KeepsAt (record { number = n }) b → Q b
      by n b (inl a) = stood (record { number = n }) a.other b (all_get P old.nodes n a.other all a.is_there) a.stands
      by n b (inr k) = subst Q (sym k.node) (keeping k.number k.constant k.kept)
