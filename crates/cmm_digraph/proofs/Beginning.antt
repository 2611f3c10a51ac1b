-- A search begins, and ends.
use Rattle.std.proofs.Common.{◌≡◌, ℕ, suc, zero, ◌+◌, ◌<◌, ◌≤◌, ◌==◌, Bool, true, false, ◌||◌, inl, inr, ◌⊎◌, List, [], ◌∷◌, ◌++◌, length, get_or, replicate, reverse, refl, sym, ◌∙◌, ap, subst, arith}
use Rattle.std.proofs.lemmas.Bool.{cases_lt, eqb-true, eq-eqb, or_right}
use Rattle.std.proofs.lemmas.List.{length-replicate, reverse-append}
use Rattle.cmm_digraph.specs.Graphs.{is_among}
use Rattle.cmm_digraph.specs.declared.search.State.{State}
use Rattle.cmm_digraph.specs.declared.search.State.TheVariants.{New, Open, Closed}
use Rattle.cmm_digraph.specs.declared.search.Step.{Step}
use Rattle.cmm_digraph.specs.declared.search.Step.TheVariants.{Enter}
use Rattle.cmm_digraph.specs.Reaching.{comes_back}
use Rattle.cmm_digraph.specs.inside.Components.{state_of}
use Rattle.cmm_digraph.specs.inside.Searched.{is_new, on_path, AreDue, IsSearched}

-- steps that enter all nodes below a number, the last first
unfoldable pub entered_to : ℕ → List Step
entered_to zero = []
entered_to (suc n) = Enter n ∷ entered_to n

path_none : (n : ℕ) → on_path (entered_to n) ≡ []
unfolding entered_to
path_none zero = refl
path_none (suc n) = path_none n

-- all nodes from a number on are asked for, and the steps ask for those below it
due_to : (graph : List (List ℕ)) (states : List State) (n : ℕ) (asked : List ℕ) → n ≤ length graph → ((v : ℕ) → n ≤ v → v < length graph → is_among v asked ≡ true) →
    ((v : ℕ) → is_among v asked ≡ true → v < length graph) → AreDue graph states [] (entered_to n) asked 0
unfolding entered_to
due_to graph states zero asked le all only = record { all = λ v lt young. all v (omega arith) lt; only = only }
due_to graph states (suc n) asked le all only = due_to graph states n (n ∷ asked) (omega arith) (λ v from lt. here v from lt (cases_lt n v)) (λ v there. below v there (cases_lt n v))
  where
    here : (v : ℕ) → n ≤ v → v < length graph → (n < v) ⊎ (v ≤ n) → is_among v (n ∷ asked) ≡ true
    here v from lt (inl more) = or_right (n == v) (is_among v asked) (all v (omega arith) lt)
    here v from lt (inr most) = let e : n ≡ v = omega arith in ap (λ b. b || is_among v asked) (eq-eqb n v e)

    below : (v : ℕ) → is_among v (n ∷ asked) ≡ true → (n < v) ⊎ (v ≤ n) → v < length graph
    below v there (inl more) = only v (other (n == v) refl there)
      where
        other : (b : Bool) → (n == v) ≡ b → (b || is_among v asked) ≡ true → is_among v asked ≡ true
        other true e h = let s : n ≡ v = eqb-true n v e in absurd (omega arith)
        other false e h = h
    below v there (inr most) = omega arith

all_new : (n v : ℕ) → state_of (replicate n New) v ≡ New
all_new zero v = refl
all_new (suc n) zero = refl
all_new (suc n) (suc v) = all_new n v

search_begins : (graph : List (List ℕ)) (steps : List Step) → steps ≡ entered_to (length graph) →
    IsSearched graph (replicate (length graph) New) [] [] steps (replicate (length graph) false)
search_begins graph steps is = record {
  size = length-replicate (length graph) New;
  flags = length-replicate (length graph) false;
  due = ap_due;
  places = λ i lt. absurd (omega arith);
  opened = λ v i at. let e : New ≡ Open i = sym (all_new (length graph) v) ∙ at in cc;
  closed = λ v m at among. let e : New ≡ Closed = sym (all_new (length graph) v) ∙ at in cc;
  along = λ i j le lt. absurd (omega arith);
  back = λ start i lt now. absurd (omega arith);
  ascending = λ i j lt within. absurd (omega arith);
  first = λ some. absurd (omega arith);
  starting = λ start there. cc;
  left = λ i lt off m among. absurd (omega arith);
  told = λ i lt off. absurd (omega arith);
  known = λ v at. let e : New ≡ Closed = sym (all_new (length graph) v) ∙ at in cc;
}
  where
    ap_due : AreDue graph (replicate (length graph) New) [] steps [] 0
    ap_due = subst (λ (q : List Step). AreDue graph (replicate (length graph) New) [] q [] 0) (sym is)
        (due_to graph (replicate (length graph) New) (length graph) [] (omega arith) (λ v from lt. absurd (omega arith)) (λ v there. cc))

-- where no step is left, no node is open or new
pub search_ends : (graph : List (List ℕ)) (states : List State) (open_ starts : List ℕ) (cyclic : List Bool) → IsSearched graph states open_ starts [] cyclic →
    (node : ℕ) → node < length graph → get_or cyclic node false ≡ comes_back graph node
search_ends graph states open_ starts cyclic s node lt = by (state_of states node) refl
  where
    none_open : 0 < length open_ → ⊥
    none_open some = let f : false ≡ true = s.starting 0 (s.first some) in cc

    by : (state : State) → state_of states node ≡ state → get_or cyclic node false ≡ comes_back graph node
    by New at = let f : false ≡ true = s.due.all node lt (ap is_new at) in cc
    by (Open i) at = let opened : i < length open_ = (s.opened node i at).0 in absurd (none_open (omega arith))
    by Closed at = s.known node at

-- a step more
pub entered_next : (n : ℕ) (steps steps' : List Step) → steps' ≡ steps ++ Enter n ∷ [] → reverse steps ≡ entered_to n → reverse steps' ≡ entered_to (n + 1)
unfolding entered_to
entered_next n steps steps' is before =
    let e : n + 1 ≡ suc n = omega arith in ap reverse is ∙ reverse-append steps (Enter n ∷ []) ∙ ap (λ q. Enter n ∷ q) before ∙ sym (ap entered_to e)

pub search_first : (graph : List (List ℕ)) (n : ℕ) (states : List State) (open_ starts : List ℕ) (steps : List Step) (cyclic : List Bool) → n ≡ length graph → states ≡ replicate n New → open_ ≡ [] →
    starts ≡ [] → steps ≡ entered_to n → cyclic ≡ replicate n false → IsSearched graph states open_ starts steps cyclic
search_first graph n states open_ starts steps cyclic all new none no_starts entered flags =
    subst (λ (q : List State). IsSearched graph q open_ starts steps cyclic) (sym (new ∙ ap (λ (k : ℕ). replicate k New) all))
    (subst (λ (q : List ℕ). IsSearched graph (replicate (length graph) New) q starts steps cyclic) (sym none)
    (subst (λ (q : List ℕ). IsSearched graph (replicate (length graph) New) [] q steps cyclic) (sym no_starts)
    (subst (λ (q : List Bool). IsSearched graph (replicate (length graph) New) [] [] steps q) (sym (flags ∙ ap (λ (k : ℕ). replicate k false) all))
    (search_begins graph steps (entered ∙ ap entered_to all)))))
