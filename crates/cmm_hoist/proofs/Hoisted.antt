-- A graph with its nodes put over the temporaries, the chain behind them and its Entry leading there is hoisted; so is a graph from itself.
use Rattle.std.proofs.Common.{◌≡◌, ℕ, zero, suc, ◌+◌, ◌*◌, ◌<◌, ◌≤◌, inl, inr, refl, sym, ◌∙◌, ap, subst, append-nil, arith, List, [], ◌∷◌, ◌++◌, get_or, length, Some}
use Rattle.std.specs.Prelude.{Contains, slice_get, slice_set}
use Rattle.std.specs.List.{All, AllZip}
use Rattle.std.proofs.lemmas.List.{set-append_left, set-get_or}
use Rattle.std.proofs.lemmas.List.Elements.{All-head, All-nil, All-tail}
use Rattle.std.proofs.lemmas.Option.{get_or_from_slice_get, same_Some, slice_get_within}
use Rattle.std.proofs.lemmas.Slice.Zip.{AllZip-long}
use Rattle.cmm_words.specs.declared.constant.Constant.{Constant}
use Rattle.cmm_graph.specs.declared.graph.Graph.{Graph}
use Rattle.cmm_graph.specs.declared.node.Node.{Node}
use Rattle.cmm_graph.specs.declared.node.NodeKind.{NodeKind}
use Rattle.cmm_graph.specs.declared.node.NodeKind.TheVariants.{Entry}
use Rattle.cmm_graph.specs.declared.number.NodeId.{NodeId}
use Rattle.cmm_graph.specs.declared.number.Variable.{Variable}
use Rattle.cmm_graph.specs.declared.operand.Operand.TheVariants as operand
use Rattle.cmm_hoist.specs.declared.hoisting.Beginning.{Beginning}
use Rattle.cmm_hoist.specs.declared.hoisting.TheConstants.{MOST_KEPT}
use Rattle.cmm_hoist.specs.Graphs.{AreHoistedWithin, BeginsAtEntry, HasTokensWithin, IsHoistedFrom, IsHoistedWithin, all_operands, chain, chain_start}
use Rattle.cmm_hoist.specs.Keeping.{KindStandsFor, NodeStandsFor, SameKind}
use Rattle.cmm_hoist.specs.inside.Room.{IsBeginningOf, IsEnough, OthersHaveWithin, with_entry}
use Rattle.cmm_hoist.specs.inside.Worth.{AreNamed}
use Rattle.cmm_hoist.proofs.Walk.{stand_for_themselves}
use Rattle.cmm_hoist.proofs.Within.{tokens_within}

-- ---- the Entry stands where it stood

kind_of_entry : {first : ℕ} {kept : List Constant} (formals : List Variable) (next : NodeId) (kind : NodeKind) →
    KindStandsFor first kept (Entry formals next) kind → kind ≡ Entry formals next
kind_of_entry formals next _ (SameKind _) = refl

entry_stands : (first : ℕ) (kept : List Constant) (tokens : ℕ) (formals : List Variable) (next : NodeId) (new : Node) →
    NodeStandsFor first kept record { tokens = tokens; kind = Entry formals next } new → new ≡ record { tokens = tokens; kind = Entry formals next }
entry_stands first kept tokens formals next new stands =
    let kind : new.kind ≡ Entry formals next = kind_of_entry formals next new.kind stands.kind in
    ap (λ (n : ℕ). record { tokens = n; kind = new.kind }) stands.tokens ∙ ap (λ (k : NodeKind). record { tokens = tokens; kind = k }) kind

module _ (first : ℕ) (kept : List Constant) (entry : Node) (stays : (new : Node) → NodeStandsFor first kept entry new → new ≡ entry) where
  entry_there : (old others : List Node) (n : ℕ) → AllZip (NodeStandsFor first kept) old others → slice_get old n ≡ Some entry →
      slice_get others n ≡ Some entry
  entry_there [] [] n all is = is
  entry_there [] (y ∷ others) n all is = absurd all
  entry_there (x ∷ old) [] n all is = absurd all
  entry_there (x ∷ old) (y ∷ others) zero all is = ap Some (stays y (subst (λ (it : Node). NodeStandsFor first kept it y) (same_Some x entry is) all.0))
  entry_there (x ∷ old) (y ∷ others) (suc n) all is = entry_there old others n all.1 is

get-append_left : {A : Type 0} (xs ys : List A) (n : ℕ) (x : A) → slice_get xs n ≡ Some x → slice_get (xs ++ ys) n ≡ Some x
get-append_left [] ys n x is = absurd (cc)
get-append_left (y ∷ xs) ys zero x is = is
get-append_left (y ∷ xs) ys (suc n) x is = get-append_left xs ys n x is

abbrev pub begins_at_entry : (g : Graph) (found : Beginning) → IsBeginningOf g found → BeginsAtEntry g
begins_at_entry g found begins = record { tokens = found.tokens; formals = begins.variables; next = found.next; node = begins.node }

pub same_formals : (g : Graph) (a b : Beginning) → IsBeginningOf g a → IsBeginningOf g b → a.formals ≡ b.formals
same_formals g a b first second =
    let one : Node = record { tokens = a.tokens; kind = Entry first.variables a.next } in
    let other : Node = record { tokens = b.tokens; kind = Entry second.variables b.next } in
    let same : one ≡ other = same_Some one other (sym first.node ∙ second.node) in
    let kind : Entry first.variables a.next ≡ Entry second.variables b.next = ap (λ (n : Node). n.kind) same in
    let variables : first.variables ≡ second.variables = cc in
    first.formals ∙ (ap (λ (vs : List Variable). length vs) variables ∙ sym second.formals)

-- ---- what `keep` makes

module _ (old : Graph) (found : Beginning) (begins : IsBeginningOf old found) (kept : List Constant) (others nodes : List Node)
    (stand : AllZip (NodeStandsFor old.temporaries kept) old.nodes others)
    (pushed : nodes ≡ others ++ chain old.temporaries (length others) found.next kept) where
  abbrev entry : Node
  entry = record { tokens = found.tokens; kind = Entry begins.variables found.next }

  entry_is : slice_get others old.first.number ≡ Some entry
  entry_is =
      let stays = entry_stands old.temporaries kept found.tokens begins.variables found.next in
      entry_there old.temporaries kept entry stays old.nodes others old.first.number stand begins.node

  -- before the Entry is written it is the one that was there
  pub entry_stays : slice_get nodes old.first.number ≡ Some entry
  entry_stays = rw pushed (get-append_left others (chain old.temporaries (length others) found.next kept) old.first.number entry entry_is)

  module _ (tokens : ℕ) (start : NodeId) (made : Graph) (starts : start ≡ chain_start (length others) found.next kept)
      (is : made ≡ with_entry (record old { temporaries = old.temporaries + length kept; nodes = nodes }) tokens begins.variables start) where
    nodes_are : made.nodes
        ≡ slice_set others old.first.number record { tokens = tokens; kind = Entry begins.variables (chain_start (length old.nodes) found.next kept) }
        ++ chain old.temporaries (length old.nodes) found.next kept
    nodes_are =
        let long : length others ≡ length old.nodes = AllZip-long (NodeStandsFor old.temporaries kept) old.nodes others stand in
        let added = chain old.temporaries (length others) found.next kept in
        let new : Node = record { tokens = tokens; kind = Entry begins.variables (chain_start (length others) found.next kept) } in
        let less : old.first.number < length others = slice_get_within others old.first.number entry entry_is in
        ap (λ (g : Graph). g.nodes) is ∙ rw (pushed, starts, set-append_left others added old.first.number new less, long)

    pub hoisted : AreNamed (all_operands old) kept → length kept ≤ MOST_KEPT → tokens + length kept ≤ found.tokens → IsEnough old found.formals tokens →
        (it : IsHoistedFrom old made) × (it.kept ≡ kept) × (it.tokens ≡ tokens)
    hoisted named few shared enough =
        let variables : made.variables ≡ old.variables = ap (λ (g : Graph). g.variables) is in
        let temporaries : made.temporaries ≡ old.temporaries + length kept = ap (λ (g : Graph). g.temporaries) is in
        let continuations : made.continuations ≡ old.continuations = ap (λ (g : Graph). g.continuations) is in
        let pairs : length made.continuations ≡ length old.continuations = ap (λ (ks : List NodeId). length ks) continuations in
        let it : IsHoistedFrom old made = record {
          kept = kept;
          variables = variables;
          temporaries = temporaries;
          first = ap (λ (g : Graph). g.first) is;
          continuations = continuations;
          named = named;
          formals = begins.variables;
          next = found.next;
          before = found.tokens;
          tokens = tokens;
          was = begins.node;
          shared = shared;
          covered =
              inr (record {
                words = omega (arith, variables, temporaries, pairs, enough.words, few);
                formals = omega (arith, begins.formals, enough.formals);
                some = enough.some;
              });
          others = others;
          stand = stand;
          nodes = nodes_are;
        } in
        (it, refl, refl)

-- ---- a graph that is left as it is

pub itself : (g : Graph) (b : BeginsAtEntry g) → (is : IsHoistedFrom g g) × (is.kept ≡ []) × (is.tokens ≡ b.tokens)
itself g b =
    let entry : Node = record { tokens = b.tokens; kind = Entry b.formals b.next } in
    let here : get_or g.nodes g.first.number entry ≡ entry = get_or_from_slice_get g.nodes g.first.number entry entry b.node in
    let written : slice_set g.nodes g.first.number entry ≡ g.nodes =
    ap (λ (n : Node). slice_set g.nodes g.first.number n) (sym here) ∙ set-get_or g.nodes g.first.number entry in
    let is : IsHoistedFrom g g = record {
      kept = [];
      variables = refl;
      temporaries = omega arith;
      first = refl;
      continuations = refl;
      named = All-nil (λ (constant : Constant). Contains (all_operands g) (operand.Constant constant));
      formals = b.formals;
      next = b.next;
      before = b.tokens;
      tokens = b.tokens;
      was = b.node;
      shared = omega arith;
      covered = inl (refl, refl);
      others = g.nodes;
      stand = stand_for_themselves (NodeStandsFor g.temporaries []) (λ node. record { tokens = refl; kind = SameKind node.kind }) g.nodes;
      nodes = sym written ∙ sym (append-nil (slice_set g.nodes g.first.number entry));
    } in
    (is, refl, refl)

-- ---- the tokens of its nodes

pub left_within : (most longest : ℕ) (g : Graph) → BeginsAtEntry g → HasTokensWithin most g → most ≤ longest → IsHoistedWithin most longest g g
left_within most longest g b within less =
    let is = itself g b in
    let none : length is.0.kept ≡ 0 = ap (λ (ks : List Constant). length ks) is.1 in
    record { hoisted = is.0; tokens = within; spared = omega (arith, none, less) }

pub hoisted_within : (most longest : ℕ) (g made : Graph) (is : IsHoistedFrom g made) → OthersHaveWithin most g → 1 ≤ most → is.tokens ≤ most →
    length is.kept ≤ MOST_KEPT → most + 2 * MOST_KEPT ≤ longest → IsHoistedWithin most longest g made
hoisted_within most longest g made is others some less few spared = record {
  hoisted = is;
  tokens = tokens_within most g made is others some less;
  spared = omega (arith, few, spared);
}

-- all graphs are left as they are
pub all_left : (longest : ℕ) (graphs : List Graph) → All BeginsAtEntry graphs → All (HasTokensWithin longest) graphs → AreHoistedWithin longest graphs graphs
all_left longest graphs begin within = record { most = longest; all = each graphs begin within }
  where
    each : (gs : List Graph) → All BeginsAtEntry gs → All (HasTokensWithin longest) gs → AllZip (IsHoistedWithin longest longest) gs gs
    each [] begin within = tt
    each (g ∷ gs) begin within = (
      left_within longest longest g (All-head BeginsAtEntry g gs begin) (All-head (HasTokensWithin longest) g gs within) (omega arith),
      each gs (All-tail BeginsAtEntry g gs begin) (All-tail (HasTokensWithin longest) g gs within),
    )
