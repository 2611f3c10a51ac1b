-- What is noted of declarations that don't count comes before what would be noted of their cycles.
use Rattle.std.proofs.Common.{◌≡◌, ℕ, suc, ◌+◌, ◌<◌, Bool, true, false, not, inl, inr, List, [], ◌∷◌, ◌++◌, length, map, take, drop, get_or, Option, Some, None, option_map, refl, sym, ◌∙◌, ap, subst, append_assoc, arith}
use Rattle.std.proofs.lemmas.Bool.{false_from_ne_true}
use Rattle.std.specs.Prelude.{bytes_eq, flat_map, unwrap_or}
use Rattle.std.proofs.lemmas.Slice.Eq.{bytes_eq-Decides}
use Rattle.std.proofs.lemmas.Grind.{flat_map-append}
use Rattle.std.proofs.lemmas.List.{length-map, length-take-le, map-append, take-append-drop}
use Rattle.cmm_rules.specs.declared.rule.Rule.TheVariants.{DeclaredTwice, Cycle}
use Rattle.cmm_static_semantics.specs.declared.spot.Spot.{Spot}
use Rattle.cmm_static_semantics.specs.Spots.{comes_before, first_of, at, unless}
use Rattle.cmm_static_semantics.specs.Senses.{is_there, is_host}
use Rattle.cmm_static_semantics.specs.Units.{cycle_spots}
use Rattle.cmm_static_semantics.specs.Scopes.{depends_on_itself}
use Rattle.cmm_static_semantics.specs.Declarations.{Declared, Entry, Typedef, Const, Register, Import, DataLabel, Procedure, found, again, host_again, is_own_import}
use Rattle.cmm_ast.specs.declared.token.Ident.{Ident}
use Rattle.cmm_symbols.specs.Shown.{shown, entry_shown, with_what}
use Rattle.cmm_symbols.specs.declared.table.Named.{Named}
use Rattle.cmm_symbols.specs.declared.entry.Entry.{Entry as EntryTree}
use Rattle.cmm_static_semantics.proofs.Shared.{first_of_append, rest_next}
use Rattle.cmm_symbols.proofs.Shared.{found_with, again_append, spot_order}
use Rattle.cmm_symbols.specs.Numbering.{numbering, number_in}
use Rattle.cmm_unit_scope.specs.Numbers.{entry_at}
use Rattle.cmm_check_units.specs.inside.Cyclic.{is_dependent, IsNoted, CountsOrIsNoted, AreNoted}
use Rattle.cmm_check_units.proofs.FirstUnit.{in_one}

-- ---- what comes after what is noted changes nothing, then and later

abbrev IsPast : Spot → Option Spot → Type 0
IsPast s best = first_of best (s ∷ []) ≡ best

abbrev chosen : Bool → Spot → Spot → Option Spot
chosen b s t = elim b [ true ↦ Some s | false ↦ Some t ]

abbrev not_before : Spot → Option Spot → Type 0
not_before s None = ⊥
not_before s (Some t) = comes_before s t ≡ false

past_of : (s : Spot) (best : Option Spot) → not_before s best → IsPast s best
past_of s None h = absurd h
past_of s (Some t) h = ap (λ b. chosen b s t) h

-- the one that is chosen of two has none of them before it
later_chosen : (s t u : Spot) → comes_before s t ≡ false → not_before s (chosen (comes_before u t) u t)
later_chosen s t u h = by (comes_before u t) refl
  where
    by : (b : Bool) → comes_before u t ≡ b → not_before s (chosen b u t)
    by true sooner_ = false_from_ne_true (comes_before s u) (λ before. let e : true ≡ false = sym (spot_order.through s u t before sooner_) ∙ h in cc)
    by false other = h

later_all : (s : Spot) (best : Option Spot) (ss : List Spot) → not_before s best → not_before s (first_of best ss)
later_all s best [] h = h
later_all s None (u ∷ ss) h = absurd h
later_all s (Some t) (u ∷ ss) h = later_all s (chosen (comes_before u t) u t) ss (later_chosen s t u h)

after_chosen : (s t u : Spot) → comes_before u s ≡ true → not_before s (chosen (comes_before u t) u t)
after_chosen s t u first = by (comes_before u t) refl
  where
    by : (b : Bool) → comes_before u t ≡ b → not_before s (chosen b u t)
    by true sooner_ = false_from_ne_true (comes_before s u) (λ before. spot_order.itself s (spot_order.through s u s before first))
    by false other = false_from_ne_true (comes_before s t) (λ before. let e : true ≡ false = sym (spot_order.through u s t first before) ∙ other in cc)

-- a spot that is in the list comes before another
after_one : (s u : Spot) (best : Option Spot) → comes_before u s ≡ true → not_before s (first_of best (u ∷ []))
after_one s u None first = false_from_ne_true (comes_before s u) (λ before. let h : not_before s (chosen (comes_before u u) u u) = after_chosen s u u first in itself h before)
  where
    itself : not_before s (chosen (comes_before u u) u u) → comes_before s u ≡ true → ⊥
    itself h before = by (comes_before u u) h
      where
        by : (b : Bool) → not_before s (chosen b u u) → ⊥
        by true i = let e : true ≡ false = sym before ∙ i in cc
        by false i = let e : true ≡ false = sym before ∙ i in cc
after_one s u (Some t) first = after_chosen s t u first

-- rule 20 is named before 39 at one place
twice_first : (token : ℕ) → comes_before (record { token = token; rule = DeclaredTwice }) (record { token = token; rule = Cycle }) ≡ true
twice_first token = in_one token true

abbrev cycle_at : ℕ → Spot
cycle_at token = record { token = token; rule = Cycle }

noted_in : (token : ℕ) (best : Option Spot) (xs ys : List Spot) → not_before (cycle_at token) (first_of best (xs ++ (at DeclaredTwice token ++ ys)))
noted_in token best xs ys =
    subst (not_before (cycle_at token)) (sym (first_of_append best xs (at DeclaredTwice token ++ ys) ∙ first_of_append (first_of best xs) (at DeclaredTwice token) ys))
    (later_all (cycle_at token) (first_of (first_of best xs) (at DeclaredTwice token)) ys (after_one (cycle_at token) (record { token = token; rule = DeclaredTwice }) (first_of best xs) (twice_first token)))

-- ---- the number of a declaration that counts

elim_false : (b : Bool) (o p : Option ℕ) → b ≡ false → elim b as (λ _. Option ℕ) [ true ↦ o | false ↦ p ] ≡ p
elim_false b o p h = rw h refl

found_here : (name : List ℕ) (xs ys : List (Declared Entry)) (d : Declared Entry) → name ≡ d.name.name → is_there (found name xs) ≡ false → found name (numbering (xs ++ d ∷ ys)) ≡ Some (length xs)
found_here name [] ys d same none =
    ap (λ (b : Bool). elim b as (λ _. Option ℕ) [ true ↦ Some 0 | false ↦ found name (map (with_what (λ n. suc n)) (numbering ys)) ]) ((bytes_eq-Decides name d.name.name).1 same)
found_here name (x ∷ xs) ys d same none = by (bytes_eq name x.name.name) none (λ none. found_here name xs ys d same none)
  where
    by : (b : Bool) → is_there (elim b as (λ _. Option Entry) [ true ↦ Some x.as_what | false ↦ found name xs ]) ≡ false →
        (is_there (found name xs) ≡ false → found name (numbering (xs ++ d ∷ ys)) ≡ Some (length xs)) →
        elim b as (λ _. Option ℕ) [ true ↦ Some 0 | false ↦ found name (map (with_what (λ n. suc n)) (numbering (xs ++ d ∷ ys))) ] ≡ Some (suc (length xs))
    by true h rest = cc
    by false h rest = found_with (λ n. suc n) name (numbering (xs ++ d ∷ ys)) ∙ ap (option_map (λ n. suc n)) (rest h)

pub entry_here : (xs ys : List (Declared Entry)) (d : Declared Entry) → entry_at (xs ++ d ∷ ys) (length xs) ≡ Some d.as_what
entry_here [] ys d = refl
entry_here (x ∷ xs) ys d = entry_here xs ys d

number_here : (ds xs ys : List (Declared Entry)) (d : Declared Entry) → ds ≡ xs ++ d ∷ ys → is_host d.name.name ≡ false → is_there (found d.name.name xs) ≡ false →
    number_in (numbering ds) d.name.name ≡ Some (length xs)
number_here ds xs ys d is own none =
    elim_false (is_host d.name.name) None (found d.name.name (numbering ds)) own ∙ ap (λ q. found d.name.name (numbering q)) is ∙ found_here d.name.name xs ys d refl none

-- ---- declarations that don't count are noted

not_own : (name : _) (e : Entry) → is_dependent e ≡ true → is_own_import (record { name = name; as_what = e }) ≡ false
not_own name (Typedef t) h = refl
not_own name (Const t e) h = refl
not_own name (Register t) h = cc
not_own name (Import link) h = cc
not_own name (DataLabel n) h = cc
not_own name (Procedure n p) h = cc

host_spot : (d : Declared Entry) → is_dependent d.as_what ≡ true → is_host d.name.name ≡ true → host_again d ≡ at DeclaredTwice d.name.token
host_spot d dependent host = rw (host, not_own d.name d.as_what dependent) refl

again_spot : (xs ys : List (Declared Entry)) (d : Declared Entry) → is_there (found d.name.name xs) ≡ true → again [] (xs ++ d ∷ ys) ≡ again [] xs ++ (at DeclaredTwice d.name.token ++ again (xs ++ d ∷ []) ys)
again_spot xs ys d there = again_append [] xs (d ∷ ys) ∙ ap (λ b. again [] xs ++ (unless (not b) DeclaredTwice d.name.token ++ again (xs ++ d ∷ []) ys)) there

hosts_spot : (xs ys : List (Declared Entry)) (d : Declared Entry) → host_again d ≡ at DeclaredTwice d.name.token →
    flat_map host_again (xs ++ d ∷ ys) ≡ flat_map host_again xs ++ (at DeclaredTwice d.name.token ++ flat_map host_again ys)
hosts_spot xs ys d spot = flat_map-append host_again xs (d ∷ ys) ∙ ap (λ t. flat_map host_again xs ++ (t ++ flat_map host_again ys)) spot

-- what stands within a list does so within a longer one
into : (a m z more : List Spot) → a ++ (m ++ z) ++ more ≡ a ++ (m ++ (z ++ more))
into a m z more = append_assoc a (m ++ z) more ∙ ap (λ t. a ++ t) (append_assoc m z more)

-- so they are after the names of a unit
pub are_noted : (ds : List (Declared Entry)) (more : List Spot) → AreNoted (first_of None (again [] ds ++ flat_map host_again ds ++ more)) ds
are_noted ds more xs ys d is dependent = by (is_host d.name.name) (is_there (found d.name.name xs)) refl refl
  where
    best : Option Spot
    best = first_of None (again [] ds ++ flat_map host_again ds ++ more)

    twice : List Spot
    twice = at DeclaredTwice d.name.token

    again_in : is_there (found d.name.name xs) ≡ true → not_before (cycle_at d.name.token) best
    again_in there =
        let after = again (xs ++ d ∷ []) ys in
        let hosts = flat_map host_again ds in
        let e : again [] ds ≡ again [] xs ++ (twice ++ after) = ap (again []) is ∙ again_spot xs ys d there in
        let all : again [] ds ++ hosts ++ more ≡ again [] xs ++ (twice ++ (after ++ hosts ++ more)) =
        ap (λ q. q ++ hosts ++ more) e ∙ ap (λ q. q ++ more) (into (again [] xs) twice after hosts) ∙ into (again [] xs) twice (after ++ hosts) more in
        subst (not_before (cycle_at d.name.token)) (sym (ap (first_of None) all)) (noted_in d.name.token None (again [] xs) (after ++ hosts ++ more))

    host_in : is_host d.name.name ≡ true → not_before (cycle_at d.name.token) best
    host_in host =
        let first = again [] ds in
        let hosts = flat_map host_again xs in
        let after = flat_map host_again ys in
        let e : flat_map host_again ds ≡ hosts ++ (twice ++ after) = ap (flat_map host_again) is ∙ hosts_spot xs ys d (host_spot d dependent host) in
        let all : first ++ flat_map host_again ds ++ more ≡ (first ++ hosts) ++ (twice ++ (after ++ more)) =
        ap (λ q. first ++ q ++ more) e ∙ ap (λ q. q ++ more) (sym (append_assoc first hosts (twice ++ after))) ∙ into (first ++ hosts) twice after more in
        subst (not_before (cycle_at d.name.token)) (sym (ap (first_of None) all)) (noted_in d.name.token None (first ++ hosts) (after ++ more))

    by : (host there : Bool) → is_host d.name.name ≡ host → is_there (found d.name.name xs) ≡ there → CountsOrIsNoted ds (length xs) d.name best
    by true there h t = inr (past_of (cycle_at d.name.token) best (host_in h))
    by false true h t = inr (past_of (cycle_at d.name.token) best (again_in t))
    by false false h t = inl (number_here ds xs ys d is h t)

-- ---- and stay so

past_is : (s : Spot) (best : Option Spot) → IsPast s best → not_before s best
past_is s None h = let f : true ≡ false = ap (λ (o : Option Spot). is_there o) h in cc
past_is s (Some t) h = by (comes_before s t) refl h
  where
    by : (b : Bool) → comes_before s t ≡ b → chosen b s t ≡ Some t → b ≡ false
    by true before e = let same : s ≡ t = ap (λ (o : Option Spot). unwrap_or o s) e in let f : true ≡ false = sym before ∙ ap (comes_before s) (sym same) ∙ itself in cc
      where
        itself : comes_before s s ≡ false
        itself = false_from_ne_true (comes_before s s) (spot_order.itself s)
    by false before e = refl

pub noted_later : (token : ℕ) (best : Option Spot) (ss : List Spot) → IsNoted token best → IsNoted token (first_of best ss)
noted_later token best ss h = past_of (cycle_at token) (first_of best ss) (later_all (cycle_at token) best ss (past_is (cycle_at token) best h))

-- ---- what is noted of a declaration

unless_past : (token : ℕ) (best : Option Spot) (b : Bool) → IsNoted token best → first_of best (unless b Cycle token) ≡ best
unless_past token best true h = refl
unless_past token best false h = h

pub noted_here : (ds : List (Declared Entry)) (number : ℕ) (d : Declared Entry) (depends : Bool) (best new : Option Spot) → CountsOrIsNoted ds number d.name best →
    (number_in (numbering ds) d.name.name ≡ Some number → depends ≡ depends_on_itself ds d) → new ≡ first_of best (unless (not depends) Cycle d.name.token) → new ≡ first_of best (cycle_spots ds d)
noted_here ds number d depends best new (inl counts) tells is = is ∙ ap (λ b. first_of best (unless (not b) Cycle d.name.token)) (tells counts)
noted_here ds number d depends best new (inr noted) tells is =
    is ∙ unless_past d.name.token best (not depends) noted ∙ sym (unless_past d.name.token best (not (depends_on_itself ds d)) noted)

count_kept : (ds : List (Declared Entry)) (n k : ℕ) (name : Ident) (best : Option Spot) (ss : List Spot) → n ≡ k → CountsOrIsNoted ds n name best → CountsOrIsNoted ds k name (first_of best ss)
count_kept ds n k name best ss same (inl counts) = inl (counts ∙ ap (λ (m : ℕ). Some m) same)
count_kept ds n k name best ss same (inr noted) = inr (noted_later name.token best ss noted)

-- a turn of the loop over declarations
pub counted_now : (best now : Option Spot) (ss : List Spot) (ds : List (Named EntryTree)) (k : ℕ) (d : Named EntryTree) → AreNoted best (map shown ds) → now ≡ first_of best ss → k < length ds → d ≡ get_or ds k d →
    is_dependent (entry_shown d.what) ≡ true → CountsOrIsNoted (map shown ds) k d.name.now now
counted_now best now ss ds k d noted is_now within is dependent =
    subst (CountsOrIsNoted (map shown ds) k d.name.now) (sym is_now)
    (count_kept (map shown ds) (length (map shown (take k ds))) k d.name.now best ss (length-map (take k ds) shown ∙ length-take-le k ds (omega arith))
    (noted (map shown (take k ds)) (map shown (drop (k + 1) ds)) (shown d)
    (ap (map shown) (sym (take-append-drop k ds)) ∙ map-append shown (take k ds) (drop k ds) ∙ ap (λ t. map shown (take k ds) ++ t) (rest_next shown ds k d within is)) dependent))
