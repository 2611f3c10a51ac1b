-- The registers of a unit, one declaration after the other.
use Rattle.std.proofs.Common.{◌≡◌, ℕ, suc, ◌+◌, ◌<◌, Bool, true, false, ◌||◌, not, length, map, take, drop, get_or, refl, ap, sym, ◌∙◌, List, [], ◌∷◌, ◌++◌, Option, Some, None, option_map, append_assoc, append-nil, arith}
use Rattle.std.specs.Prelude.{bytes_eq, flat_map}
use Rattle.std.proofs.lemmas.Bool.Decides.{nat_tests}
use Rattle.std.proofs.lemmas.Grind.{flat_map-append}
use Rattle.std.proofs.lemmas.List.{length-map, length-take-le, map-append, take-append-drop}
use Rattle.std.proofs.lemmas.Slice.Eq.{bytes_eq-Decides}
use Rattle.cmm_static_semantics.specs.Senses.{is_there, is_host}
use Rattle.cmm_static_semantics.specs.Declarations.{Declared, Entry, found, firsts}
use Rattle.cmm_static_semantics.specs.Linking.{register_entry}
use Rattle.cmm_symbols.specs.Numbering.{numbering, number_in}
use Rattle.cmm_symbols.specs.Shown.{shown, with_what}
use Rattle.cmm_symbols.specs.declared.table.Named.{Named}
use Rattle.cmm_symbols.specs.declared.entry.Entry.{Entry as EntryTree}
use Rattle.cmm_static_semantics.proofs.Shared.{mapped_next, rest_next}
use Rattle.cmm_symbols.proofs.Shared.{found_with}
use Rattle.cmm_linkage.specs.Registers.{registers_in}
use Rattle.cmm_linkage.specs.inside.Counted.{is_numbered, counted}

-- ---- declarations that count

abbrev one_unless : {A : Type 0} → Bool → A → List A
one_unless b a = elim b [ true ↦ [] | false ↦ a ∷ [] ]

-- a declaration, unless it is one of the host's or its name is declared before
abbrev own_after : List (Declared Entry) → Declared Entry → List (Declared Entry)
own_after before d = one_unless (is_host d.name.name || is_there (found d.name.name before)) d

firsts_last : (earlier ds : List (Declared Entry)) (d : Declared Entry) → firsts earlier (ds ++ d ∷ []) ≡ firsts earlier ds ++ own_after (earlier ++ firsts earlier ds) d
firsts_last earlier [] d = ap (λ q. own_after q d) (sym (append-nil earlier))
firsts_last earlier (x ∷ ds) d = by (is_host x.name.name || is_there (found x.name.name earlier)) (firsts_last earlier ds d) (firsts_last (earlier ++ x ∷ []) ds d)
  where
    by : (b : Bool) → firsts earlier (ds ++ d ∷ []) ≡ firsts earlier ds ++ own_after (earlier ++ firsts earlier ds) d →
        firsts (earlier ++ x ∷ []) (ds ++ d ∷ []) ≡ firsts (earlier ++ x ∷ []) ds ++ own_after ((earlier ++ x ∷ []) ++ firsts (earlier ++ x ∷ []) ds) d →
        elim b as (λ _. List (Declared Entry)) [ true ↦ firsts earlier (ds ++ d ∷ []) | false ↦ x ∷ firsts (earlier ++ x ∷ []) (ds ++ d ∷ []) ]
        ≡ elim b as (λ _. List (Declared Entry)) [ true ↦ firsts earlier ds | false ↦ x ∷ firsts (earlier ++ x ∷ []) ds ]
        ++ own_after (earlier ++ elim b as (λ _. List (Declared Entry)) [ true ↦ firsts earlier ds | false ↦ x ∷ firsts (earlier ++ x ∷ []) ds ]) d
    by true left kept = left
    by false left kept =
        ap (λ t. x ∷ t) (kept ∙ ap (λ q. firsts (earlier ++ x ∷ []) ds ++ own_after q d) (append_assoc earlier (x ∷ []) (firsts (earlier ++ x ∷ []) ds)))

-- ---- a name of a unit is there among all declarations where it is there among those that count

there_after : {A : Type 0} (o : Option A) (p : Option A) → is_there (elim o as (λ _. Option A) [ Some a ↦ Some a | None ↦ p ]) ≡ (is_there o || is_there p)
there_after None p = refl
there_after (Some a) p = refl

found_after : {A : Type 0} (x : List ℕ) (es ds : List (Declared A)) → is_there (found x (es ++ ds)) ≡ (is_there (found x es) || is_there (found x ds))
found_after x [] ds = refl
found_after {A} x (e ∷ es) ds = by (bytes_eq x e.name.name) (found_after x es ds)
  where
    by : (b : Bool) → is_there (found x (es ++ ds)) ≡ (is_there (found x es) || is_there (found x ds)) →
        is_there (elim b as (λ _. Option A) [ true ↦ Some e.as_what | false ↦ found x (es ++ ds) ]) ≡ (is_there (elim b as (λ _. Option A) [ true ↦ Some e.as_what | false ↦ found x es ]) || is_there (found x ds))
    by true h = refl
    by false h = h

-- one declaration is left out, which is there before, or is one of the host's
left_out : (x : List ℕ) (earlier ds : List (Declared Entry)) (d : Declared Entry) (t : Bool) → (bytes_eq x d.name.name ≡ true → is_there (found x earlier) ≡ true) →
    (is_there (found x earlier) || t) ≡ (is_there (found x earlier) || is_there (found x ds)) →
    (is_there (found x earlier) || t) ≡ (is_there (found x earlier) || is_there (found x (d ∷ ds)))
left_out x earlier ds d t known rest = by (bytes_eq x d.name.name) (is_there (found x earlier)) known rest
  where
    by : (b e : Bool) → (b ≡ true → e ≡ true) → (e || t) ≡ (e || is_there (found x ds)) →
        (e || t) ≡ (e || is_there (elim b as (λ _. Option Entry) [ true ↦ Some d.as_what | false ↦ found x ds ]))
    by true true known rest = refl
    by true false known rest = let f : false ≡ true = known refl in absurd (cc)
    by false e known rest = rest

taken_in : (x : List ℕ) (earlier ds : List (Declared Entry)) (d : Declared Entry) (fs : List (Declared Entry)) →
    (is_there (found x (earlier ++ d ∷ [])) || is_there (found x fs)) ≡ (is_there (found x (earlier ++ d ∷ [])) || is_there (found x ds)) →
    (is_there (found x earlier) || is_there (found x (d ∷ fs))) ≡ (is_there (found x earlier) || is_there (found x (d ∷ ds)))
taken_in x earlier ds d fs rest =
    by (bytes_eq x d.name.name) (is_there (found x earlier)) (sym (ap (λ q. q || is_there (found x fs)) (found_after x earlier (d ∷ []))) ∙ rest ∙ ap (λ q. q || is_there (found x ds)) (found_after x earlier (d ∷ [])))
  where
    by : (b e : Bool) →
        ((e || is_there (elim b as (λ _. Option Entry) [ true ↦ Some d.as_what | false ↦ None ])) || is_there (found x fs))
        ≡ ((e || is_there (elim b as (λ _. Option Entry) [ true ↦ Some d.as_what | false ↦ None ])) || is_there (found x ds)) →
        (e || is_there (elim b as (λ _. Option Entry) [ true ↦ Some d.as_what | false ↦ found x fs ])) ≡ (e || is_there (elim b as (λ _. Option Entry) [ true ↦ Some d.as_what | false ↦ found x ds ]))
    by true true h = refl
    by true false h = refl
    by false true h = refl
    by false false h = h

firsts_there : (x : List ℕ) (earlier ds : List (Declared Entry)) → is_host x ≡ false →
    (is_there (found x earlier) || is_there (found x (firsts earlier ds))) ≡ (is_there (found x earlier) || is_there (found x ds))
firsts_there x earlier [] own = refl
firsts_there x earlier (d ∷ ds) own = by (is_host d.name.name || is_there (found d.name.name earlier)) refl (firsts_there x earlier ds own) (firsts_there x (earlier ++ d ∷ []) ds own)
  where
    known : (h e : Bool) → (h || e) ≡ true → h ≡ false → e ≡ true
    known true e i j = cc
    known false e i j = i

    by : (b : Bool) → (is_host d.name.name || is_there (found d.name.name earlier)) ≡ b →
        (is_there (found x earlier) || is_there (found x (firsts earlier ds))) ≡ (is_there (found x earlier) || is_there (found x ds)) →
        (is_there (found x (earlier ++ d ∷ [])) || is_there (found x (firsts (earlier ++ d ∷ []) ds))) ≡ (is_there (found x (earlier ++ d ∷ [])) || is_there (found x ds)) →
        (is_there (found x earlier) || is_there (found x (elim b as (λ _. List (Declared Entry)) [ true ↦ firsts earlier ds | false ↦ d ∷ firsts (earlier ++ d ∷ []) ds ])))
        ≡ (is_there (found x earlier) || is_there (found x (d ∷ ds)))
    by true skipped left kept =
        left_out x earlier ds d (is_there (found x (firsts earlier ds)))
        (λ same. ap (λ n. is_there (found n earlier)) ((bytes_eq-Decides x d.name.name).0 same)
        ∙ known (is_host d.name.name) (is_there (found d.name.name earlier)) skipped (sym (ap is_host ((bytes_eq-Decides x d.name.name).0 same)) ∙ own))
        left
    by false taken left kept = taken_in x earlier ds d (firsts (earlier ++ d ∷ []) ds) kept

-- ---- a declaration has its own number where its name is not declared before

later : (number : ℕ) (o : Option ℕ) → is_numbered (suc number) (option_map (λ n. suc n) o) ≡ is_numbered number o
later number None = refl
later number (Some n) = grind (arith, nat_tests)

first_apart : (number : ℕ) → is_numbered (suc number) (Some 0) ≡ false
first_apart number = grind (arith, nat_tests)

numbered_here : (x : List ℕ) (xs ys : List (Declared Entry)) (d : Declared Entry) → x ≡ d.name.name → is_there (found x xs) ≡ not (is_numbered (length xs) (found x (numbering (xs ++ d ∷ ys))))
numbered_here x [] ys d same =
    sym (ap (λ (b : Bool). not (is_numbered 0 (elim b as (λ _. Option ℕ) [ true ↦ Some 0 | false ↦ found x (map (with_what (λ n. suc n)) (numbering ys)) ]))) ((bytes_eq-Decides x d.name.name).1 same))
numbered_here x (e ∷ xs) ys d same = by (bytes_eq x e.name.name) (numbered_here x xs ys d same)
  where
    by : (b : Bool) → is_there (found x xs) ≡ not (is_numbered (length xs) (found x (numbering (xs ++ d ∷ ys)))) →
        is_there (elim b as (λ _. Option Entry) [ true ↦ Some e.as_what | false ↦ found x xs ])
        ≡ not (is_numbered (suc (length xs)) (elim b as (λ _. Option ℕ) [ true ↦ Some 0 | false ↦ found x (map (with_what (λ n. suc n)) (numbering (xs ++ d ∷ ys))) ]))
    by true rest = sym (ap not (first_apart (length xs)))
    by false rest =
        rest ∙ sym (ap (λ o. not (is_numbered (suc (length xs)) o)) (found_with (λ n. suc n) x (numbering (xs ++ d ∷ ys))) ∙ ap not (later (length xs) (found x (numbering (xs ++ d ∷ ys)))))

-- the two ways to say that a declaration counts
counts_both : (host there : Bool) (o : Option ℕ) (number : ℕ) (d : Declared Entry) → (host ≡ false → there ≡ not (is_numbered number o)) →
    one_unless (host || there) d ≡ elim (is_numbered number (elim host as (λ _. Option ℕ) [ true ↦ None | false ↦ o ])) as (λ _. List (Declared Entry)) [ true ↦ d ∷ [] | false ↦ [] ]
counts_both true there o number d h = refl
counts_both false there o number d h = ap (λ t. one_unless t d) (h refl) ∙ by (is_numbered number o)
  where
    by : (b : Bool) → one_unless (not b) d ≡ elim b as (λ _. List (Declared Entry)) [ true ↦ d ∷ [] | false ↦ [] ]
    by true = refl
    by false = refl

own_is_counted : (xs ys : List (Declared Entry)) (d : Declared Entry) → own_after (firsts [] xs) d ≡ counted (xs ++ d ∷ ys) (length xs) d
own_is_counted xs ys d =
    counts_both (is_host d.name.name) (is_there (found d.name.name (firsts [] xs))) (found d.name.name (numbering (xs ++ d ∷ ys))) (length xs) d
    (λ own. firsts_there d.name.name [] xs own ∙ numbered_here d.name.name xs ys d refl)

pub registers_next : (ds : List (Named EntryTree)) (k : ℕ) (d : Named EntryTree) → k < length ds → d ≡ get_or ds k d →
    registers_in (map shown (take (k + 1) ds)) ≡ registers_in (map shown (take k ds)) ++ flat_map register_entry (counted (map shown ds) k (shown d))
registers_next ds k d within is =
    let xs = map shown (take k ds) in
    let ys = map shown (drop (k + 1) ds) in
    let whole : map shown ds ≡ xs ++ shown d ∷ ys =
    sym (ap (map shown) (take-append-drop k ds)) ∙ map-append shown (take k ds) (drop k ds) ∙ ap (λ t. xs ++ t) (rest_next shown ds k d within is) in
    let number : length xs ≡ k = length-map (take k ds) shown ∙ length-take-le k ds (omega arith) in
    ap (λ q. flat_map register_entry (firsts [] q)) (mapped_next shown ds k d within is)
    ∙ ap (flat_map register_entry) (firsts_last [] xs (shown d) ∙ ap (λ q. firsts [] xs ++ q) (own_is_counted xs ys (shown d)))
    ∙ flat_map-append register_entry (firsts [] xs) (counted (xs ++ shown d ∷ ys) (length xs) (shown d))
    ∙ ap (λ q. registers_in xs ++ flat_map register_entry (counted q (length xs) (shown d))) (sym whole)
    ∙ ap (λ n. registers_in xs ++ flat_map register_entry (counted (map shown ds) n (shown d))) number

-- what is added of a declaration: nothing, where it is no register or doesn't count, and else the register
pub none_counted : (ds : List (Declared Entry)) (number : ℕ) (d : Declared Entry) → register_entry d ≡ [] → flat_map register_entry (counted ds number d) ≡ []
none_counted ds number d none = by (is_numbered number (number_in (numbering ds) d.name.name))
  where
    by : (b : Bool) → flat_map register_entry (elim b as (λ _. List (Declared Entry)) [ true ↦ d ∷ [] | false ↦ [] ]) ≡ []
    by true = ap (λ t. t ++ []) none
    by false = refl

pub one_counted : (ds : List (Declared Entry)) (number : ℕ) (d : Declared Entry) → is_numbered number (number_in (numbering ds) d.name.name) ≡ true →
    flat_map register_entry (counted ds number d) ≡ register_entry d
one_counted ds number d is =
    ap (λ (b : Bool). flat_map register_entry (elim b as (λ _. List (Declared Entry)) [ true ↦ d ∷ [] | false ↦ [] ])) is ∙ append-nil (register_entry d)

pub not_counted : (ds : List (Declared Entry)) (number : ℕ) (d : Declared Entry) → is_numbered number (number_in (numbering ds) d.name.name) ≡ false →
    flat_map register_entry (counted ds number d) ≡ []
not_counted ds number d is = ap (λ (b : Bool). flat_map register_entry (elim b as (λ _. List (Declared Entry)) [ true ↦ d ∷ [] | false ↦ [] ])) is
