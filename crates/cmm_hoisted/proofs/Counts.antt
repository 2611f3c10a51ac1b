-- Tokens of the nodes of a graph whose constants are hoisted: its Entry gives up as many as there are nodes that write the temporaries.
use Rattle.std.proofs.Common.{◌≡◌, ◌⊎◌, ℕ, zero, suc, ◌+◌, ◌*◌, ◌≤◌, inl, inr, refl, sym, ◌∙◌, ap, arith, Bool, true, false, List, [], ◌∷◌, length}
use Rattle.std.proofs.lemmas.Bool.Decides.{nat_tests}
use Rattle.std.proofs.lemmas.List.Sums.{sum_by-append, sum_by-cons}
use Rattle.std.specs.Prelude.{◌&&◌, ◌||◌, max, nat_lt, slice_get, slice_set, IsTrue, Option, Some, None}
use Rattle.std.specs.List.{AllZip, list_all}
use Rattle.cmm_words.specs.declared.constant.Constant.{Constant}
use Rattle.cmm_words.specs.declared.width.Width.{Width}
use Rattle.cmm_words.specs.Widths.{bits}
use Rattle.cmm_program.specs.declared.procedure.Proc.{Proc}
use Rattle.cmm_graph.specs.declared.graph.Graph.{Graph}
use Rattle.cmm_graph.specs.declared.node.Node.{Node}
use Rattle.cmm_graph.specs.declared.node.NodeKind.{NodeKind}
use Rattle.cmm_graph.specs.declared.node.NodeKind.TheVariants.{Entry}
use Rattle.cmm_graph.specs.declared.number.NodeId.{NodeId}
use Rattle.cmm_graph.specs.declared.operand.Comparison.{Comparison}
use Rattle.cmm_graph.specs.declared.operand.Operand.{Operand}
use Rattle.cmm_graph.specs.declared.operand.Rvalue.{Rvalue}
use Rattle.cmm_graph.specs.Covering.{covers, is_constant_operand, is_label_operand, least_for, least_tokens, operator_tokens}
use Rattle.cmm_hoist.specs.Graphs.{EntryIsCovered, IsHoistedFrom, chain, keeping_node}
use Rattle.cmm_hoist.specs.Keeping.{Assigns, Branches, Compares, Computes, Copies, KindStandsFor, Loads, NodeStandsFor, OperandStandsFor, RvalueStandsFor, SameKind, SameRvalue, Stores, TestStandsFor, Tests}
use Rattle.cmm_flow.specs.Flow.{AreCovered, IsBounded, IsShort, all_tokens}
use Rattle.cmm_folded.specs.Laws.{HasEntry}
use Rattle.cmm_hoisted.specs.Flow.{entry_tokens}
use Rattle.cmm_hoisted.specs.Laws.{HasEntry as BeginsAt, HasRoom}
use Rattle.cmm_hoisted.proofs.Nodes.{behind, entry_there, keepers, new_entry, old_entry, tests_through}
use Rattle.cmm_hoisted.proofs.Tests.{both_more, either_more}

-- ---- the least that a node has

-- a test in an operator's count that is no weaker
count_falls : (x y : Bool) → (IsTrue y → IsTrue x) → elim y [ true ↦ 2 | false ↦ 1 ] ≤ elim x [ true ↦ 2 | false ↦ 1 ]
count_falls true true weaker = omega arith
count_falls true false weaker = omega arith
count_falls false true weaker = absurd (cc (weaker refl))
count_falls false false weaker = omega arith

module _ (first : ℕ) (kept : List Constant) where
  constant_before : (a b : Operand) → OperandStandsFor first kept a b → IsTrue (is_constant_operand b) → IsTrue (is_constant_operand a)
  constant_before a b (inl e) holds = sym (ap is_constant_operand e) ∙ holds
  constant_before a b (inr k) holds = let none : is_constant_operand b ≡ false = ap is_constant_operand k.is in absurd (cc)

  label_before : (a b : Operand) → OperandStandsFor first kept a b → IsTrue (is_label_operand b) → IsTrue (is_label_operand a)
  label_before a b (inl e) holds = sym (ap is_label_operand e) ∙ holds
  label_before a b (inr k) holds = let none : is_label_operand b ≡ false = ap is_label_operand k.is in absurd (cc)

  operator_falls : (width : Width) (a b c d : Operand) → OperandStandsFor first kept a c → OperandStandsFor first kept b d →
      operator_tokens width c d ≤ operator_tokens width a b
  operator_falls width a b c d left right =
      let narrow = nat_lt (bits width) 64 in
      let constants = is_constant_operand a && is_constant_operand b in
      let constants_now = is_constant_operand c && is_constant_operand d in
      let labels = is_label_operand a || is_label_operand b in
      let labels_now = is_label_operand c || is_label_operand d in
      count_falls (constants || (narrow && labels)) (constants_now || (narrow && labels_now))
      (either_more constants_now (narrow && labels_now) constants (narrow && labels)
      (both_more (is_constant_operand c) (is_constant_operand d) (is_constant_operand a) (is_constant_operand b)
      (constant_before a c left) (constant_before b d right))
      (both_more narrow labels_now narrow labels (λ is. is)
      (either_more (is_label_operand c) (is_label_operand d) (is_label_operand a) (is_label_operand b) (label_before a c left) (label_before b d right))))

  test_falls : (a b : Comparison) → TestStandsFor first kept a b → operator_tokens b.width b.left b.right ≤ operator_tokens a.width a.left a.right
  test_falls _ _ (Compares old left right one two) = operator_falls old.width old.left old.right left right one two

  value_falls : (a b : Rvalue) → RvalueStandsFor first kept a b → least_for b ≤ least_for a
  value_falls _ _ (Copies old new stands) = omega arith
  value_falls _ _ (Loads width aligned old new stands) = omega arith
  value_falls _ _ (Computes operator width left right one two three four) = operator_falls width left right one two three four
  value_falls _ _ (Tests old new stands) = test_falls old new stands
  value_falls _ _ (SameRvalue value) = omega arith

  -- only an Entry looks at the whole
  least_below : (whole less : ℕ) → less ≤ whole → (kind : NodeKind) → least_tokens less kind ≤ least_tokens whole kind
  least_below whole less below (Entry formals next) = omega (arith, below)
  least_below whole less below kind = omega arith

  least_falls : (whole less : ℕ) → less ≤ whole → (a b : NodeKind) → KindStandsFor first kept a b → least_tokens less b ≤ least_tokens whole a
  least_falls whole less below _ _ (Assigns to old new next stands) = value_falls old new stands
  least_falls whole less below _ _ (Stores width aligned a b c d next one two) = omega arith
  least_falls whole less below _ _ (Branches old new then_ otherwise stands) = omega arith
  least_falls whole less below _ _ (SameKind kind) = least_below whole less below kind

  covered_still : (whole less : ℕ) → less ≤ whole → (a b : Node) → NodeStandsFor first kept a b → IsTrue (covers whole a) → IsTrue (covers less b)
  covered_still whole less below a b node is =
      let enough : least_tokens whole a.kind ≤ a.tokens = grind (arith, nat_tests, is) in
      let least = least_falls whole less below a.kind b.kind node.kind in
      let tokens = node.tokens in
      let holds : least_tokens less b.kind ≤ b.tokens = omega (arith, enough, least, tokens) in
      grind (arith, nat_tests, holds)

-- ---- all tokens

tokens_same : (first : ℕ) (kept : List Constant) (xs ys : List Node) → AllZip (NodeStandsFor first kept) xs ys → all_tokens ys ≡ all_tokens xs
tokens_same first kept [] [] all = refl
tokens_same first kept [] (b ∷ ys) all = absurd all
tokens_same first kept (a ∷ xs) [] all = absurd all
tokens_same first kept (a ∷ xs) (b ∷ ys) all =
    let one = sum_by-cons (λ (node : Node). node.tokens) a xs in
    let other = sum_by-cons (λ (node : Node). node.tokens) b ys in
    let rest = tokens_same first kept xs ys all.1 in
    let here = all.0.tokens in
    omega (arith, one, other, rest, here)

-- where one of the nodes is another
tokens_set : (first : ℕ) (kept : List Constant) (xs ys : List Node) → AllZip (NodeStandsFor first kept) xs ys → (n : ℕ) (a b : Node) → slice_get xs n ≡ Some a →
    all_tokens (slice_set ys n b) + a.tokens ≡ all_tokens xs + b.tokens
tokens_set first kept [] ys all n a b is = absurd (cc)
tokens_set first kept (x ∷ xs) [] all n a b is = absurd all
tokens_set first kept (x ∷ xs) (y ∷ ys) all zero a b is =
    let one = sum_by-cons (λ (node : Node). node.tokens) x xs in
    let other = sum_by-cons (λ (node : Node). node.tokens) b ys in
    let rest = tokens_same first kept xs ys all.1 in
    let same : x ≡ a = cc in
    let here = ap (λ (node : Node). node.tokens) same in
    omega (arith, one, other, rest, here)
tokens_set first kept (x ∷ xs) (y ∷ ys) all (suc n) a b is =
    let one = sum_by-cons (λ (node : Node). node.tokens) x xs in
    let other = sum_by-cons (λ (node : Node). node.tokens) y (slice_set ys n b) in
    let rest = tokens_set first kept xs ys all.1 n a b is in
    let here = all.0.tokens in
    omega (arith, one, other, rest, here)

chain_tokens : (first at : ℕ) (next : NodeId) (kept : List Constant) → all_tokens (chain first at next kept) ≡ length kept
chain_tokens first at next [] = refl
chain_tokens first at next (constant ∷ kept) =
    let one = sum_by-cons (λ (node : Node). node.tokens) (keeping_node first constant next) (chain (suc first) (suc at) (record { number = at }) kept) in
    let rest = chain_tokens (suc first) (suc at) (record { number = at }) kept in
    omega (arith, one, rest)

module _ (q : Proc) (old new : Graph) (is : IsHoistedFrom old new) where
  pub short_after : IsShort q old → IsShort q new
  short_after short =
      let whole = ap (λ nodes. all_tokens nodes) is.nodes in
      let joined = sum_by-append (λ (node : Node). node.tokens) (behind old new is) (keepers old new is) in
      let one = tokens_set old.temporaries is.kept old.nodes is.others is.stand old.first.number (old_entry old new is) (new_entry old new is) is.was in
      let other = chain_tokens old.temporaries (length old.nodes) is.next is.kept in
      let shared = is.shared in
      omega (arith, short, whole, joined, one, other, shared)

  -- ---- the Entry

  pub entry_tokens_are : entry_tokens new ≡ is.tokens
  entry_tokens_are = ap (λ (o : Option Node). elim o as (λ _. ℕ) [ Some node ↦ node.tokens | None ↦ 0 ]) (entry_there old new is)

  pub begins_after : BeginsAt new
  begins_after =
      let kind = (new_entry old new is).kind in
      let there = entry_there old new is ∙ ap (λ (t : ℕ). Some (record { tokens = t; kind = kind })) (sym entry_tokens_are) in
      record { formals = is.formals; next = _; node = there }

  module _ (entry : HasEntry q old) where
    before_is : is.before ≡ q.tokens
    before_is =
        let was = is.was in
        let there = entry.node in
        let same : old_entry old new is ≡ record { tokens = q.tokens; kind = Entry entry.formals entry.next } = cc in
        ap (λ (node : Node). node.tokens) same

    fewer : entry_tokens new ≤ q.tokens
    fewer = let shared = is.shared in let whole = before_is in let same = entry_tokens_are in omega (arith, shared, whole, same)

    -- it has as many as before where no constant is kept, and otherwise enough for its words and its formals
    abbrev Covers : Type 0
    Covers = ((is.tokens ≡ is.before) × (is.kept ≡ [])) ⊎ EntryIsCovered new is.tokens is.formals

    pub room_after : 5 ≤ q.tokens → IsBounded q old → HasRoom q new
    room_after least bounded = record { frame = frame is.covered; fewer = fewer; some = some is.covered }
      where
        frame : Covers → 8 * (new.variables + new.temporaries) + 16 * length new.continuations ≤ 8 * entry_tokens new
        frame (inl none) =
            let same = entry_tokens_are in
            let whole = before_is in
            let variables = is.variables in
            let temporaries = is.temporaries in
            let kept = ap (λ ks. length ks) none.1 in
            let continuations = ap (λ ks. length ks) is.continuations in
            omega (arith, bounded, same, whole, none.0, variables, temporaries, kept, continuations)
        frame (inr covered) = let same = entry_tokens_are in let words = covered.words in omega (arith, same, words)

        some : Covers → 5 ≤ entry_tokens new
        some (inl none) = let same = entry_tokens_are in let whole = before_is in omega (arith, least, same, whole, none.0)
        some (inr covered) = let same = entry_tokens_are in let five = covered.some in omega (arith, same, five)

    pub covered_after : AreCovered q old → IsTrue (list_all (covers (entry_tokens new)) new.nodes)
    covered_after =
        tests_through old new is (covers q.tokens) (covers (entry_tokens new)) (covered_still old.temporaries is.kept q.tokens (entry_tokens new) fewer)
        (entry_still is.covered) (λ k constant kept. refl)
      where
        entry_still : Covers → IsTrue (covers q.tokens (old_entry old new is)) → IsTrue (covers (entry_tokens new) (new_entry old new is))
        entry_still (inl none) holds =
            let enough : max q.tokens (length is.formals + 3) ≤ is.before = grind (arith, nat_tests, holds) in
            let same = entry_tokens_are in
            let now : max (entry_tokens new) (length is.formals + 3) ≤ is.tokens = omega (arith, enough, same, none.0) in
            grind (arith, nat_tests, now)
        entry_still (inr covered) holds =
            let formals = covered.formals in
            let same = entry_tokens_are in
            let now : max (entry_tokens new) (length is.formals + 3) ≤ is.tokens = omega (arith, formals, same) in
            grind (arith, nat_tests, now)
