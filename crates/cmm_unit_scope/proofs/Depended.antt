-- A declaration that leads back to itself by numbers does so by names.
use Rattle.std.proofs.Common.{◌≡◌, ℕ, suc, zero, ◌==◌, Bool, true, false, ◌||◌, List, [], ◌∷◌, ◌++◌, length, map, Option, Some, None, option_map, refl, sym, ◌∙◌, ap}
use Rattle.std.proofs.Math.Bool.{or-false}
use Rattle.std.specs.Prelude.{option_and_then, bytes_eq, nat_lt, unwrap_or}
use Rattle.std.specs.List.{list_any, list_all}
use Rattle.std.proofs.lemmas.Bool.{lt-ltb, eqb-true, eq-eqb}
use Rattle.std.proofs.lemmas.Slice.Eq.{bytes_eq-Decides}
use Rattle.std.proofs.lemmas.List.{length-map}
use Rattle.std.proofs.lemmas.List.Folds.{list_all-append}
use Rattle.cmm_static_semantics.specs.Senses.{is_host, is_there}
use Rattle.cmm_static_semantics.specs.Declarations.{Declared, Entry, found, entry_of}
use Rattle.cmm_static_semantics.specs.Mentions.{listed}
use Rattle.cmm_static_semantics.specs.Scopes.{named_by, depends_on_itself, reaches as names_reach}
use Rattle.cmm_symbols.specs.Shown.{with_what}
use Rattle.cmm_symbols.proofs.Shared.{found_with}
use Rattle.cmm_digraph.specs.Graphs.{is_graph, are_below, mentions}
use Rattle.cmm_digraph.specs.Reaching.{reaches, comes_back}
use Rattle.cmm_symbols.specs.Numbering.{numbering, number_in}
use Rattle.cmm_unit_scope.specs.Numbers.{entry_at}
use Rattle.cmm_unit_scope.proofs.Numbering.{found_numbering, found_below, IsBelow, host_below}
use Rattle.cmm_unit_scope.specs.Depending.{numbers_of, mentioned_by, graph_by, graph_of}

-- ---- the name of a declaration with a number

abbrev name_at : List (Declared Entry) → ℕ → List ℕ
name_at [] number = []
name_at (d ∷ ds) zero = d.name.name
name_at (d ∷ ds) (suc number) = name_at ds number

some_same : (a b : ℕ) → Some a ≡ Some b → a ≡ b
some_same a b e = ap (λ (o : Option ℕ). unwrap_or o 0) e

none_some : (i : ℕ) → None ≡ Some i → ⊥
none_some i e = let f : false ≡ true = ap (λ (o : Option ℕ). is_there o) e in cc

some_is : (o : Option ℕ) (i : ℕ) → option_map (λ n. suc n) o ≡ Some i → (j : ℕ) × (o ≡ Some j) × (i ≡ suc j)
some_is None i e = absurd (none_some i e)
some_is (Some j) i e = (j, refl, sym (some_same (suc j) i e))

found_name : (n : List ℕ) (ds : List (Declared Entry)) (i : ℕ) → found n (numbering ds) ≡ Some i → n ≡ name_at ds i
found_name n [] i e = absurd (none_some i e)
found_name n (d ∷ ds) i e = by (bytes_eq n d.name.name) refl e (λ j. λ f. found_name n ds j f)
  where
    by : (b : Bool) → bytes_eq n d.name.name ≡ b → elim b as (λ _. Option ℕ) [ true ↦ Some 0 | false ↦ found n (map (with_what (λ n. suc n)) (numbering ds)) ] ≡ Some i →
        ((j : ℕ) → found n (numbering ds) ≡ Some j → n ≡ name_at ds j) → n ≡ name_at (d ∷ ds) i
    by true same is rest = let first : i ≡ 0 = sym (some_same 0 i is) in (bytes_eq-Decides n d.name.name).0 same ∙ sym (ap (name_at (d ∷ ds)) first)
    by false other is rest =
        let at : (j : ℕ) × (found n (numbering ds) ≡ Some j) × (i ≡ suc j) = some_is (found n (numbering ds)) i (sym (found_with (λ n. suc n) n (numbering ds)) ∙ is) in
        rest at.0 at.1 ∙ sym (ap (name_at (d ∷ ds)) at.2)

own_found : (host : Bool) (o : Option ℕ) (i : ℕ) → elim host as (λ _. Option ℕ) [ true ↦ None | false ↦ o ] ≡ Some i → o ≡ Some i
own_found true o i e = absurd (none_some i e)
own_found false o i e = e

number_name : (ds : List (Declared Entry)) (n : List ℕ) (i : ℕ) → number_in (numbering ds) n ≡ Some i → n ≡ name_at ds i
number_name ds n i e = found_name n ds i (own_found (is_host n) (found n (numbering ds)) i e)

-- ---- what a name is declared as, by its number

entry_number : (host : Bool) (ds : List (Declared Entry)) (o : Option ℕ) (e : Option Entry) → option_and_then (entry_at ds) o ≡ e →
    elim host as (λ _. Option Entry) [ true ↦ None | false ↦ e ] ≡ option_and_then (entry_at ds) (elim host as (λ _. Option ℕ) [ true ↦ None | false ↦ o ])
entry_number true ds o e is = refl
entry_number false ds o e is = sym is

entry_numbered : (ds : List (Declared Entry)) (n : List ℕ) → entry_of n ds ≡ option_and_then (entry_at ds) (number_in (numbering ds) n)
entry_numbered ds n = entry_number (is_host n) ds (found n (numbering ds)) (found n ds) (found_numbering n ds)

-- ---- the graph

pub mentions_is : (numbers : List (Declared ℕ)) (ds : List (Declared Entry)) (v : ℕ) → mentions (graph_by numbers ds) v ≡ mentioned_by numbers (entry_at ds v)
mentions_is numbers [] v = refl
mentions_is numbers (d ∷ ds) zero = refl
mentions_is numbers (d ∷ ds) (suc v) = mentions_is numbers ds v

pub graph_size : (ds : List (Declared Entry)) → length (graph_of ds) ≡ length ds
graph_size ds = length-map ds (λ d. mentioned_by (numbering ds) (Some d.as_what))

listed_below : (size : ℕ) (o : Option ℕ) → IsBelow size o → are_below size (listed o) ≡ true
listed_below size None h = refl
listed_below size (Some j) h = rw (lt-ltb j size h) refl

names_below : (ds : List (Declared Entry)) (names : List (List ℕ)) → are_below (length ds) (numbers_of (numbering ds) names) ≡ true
names_below ds [] = refl
names_below ds (n ∷ names) =
    list_all-append (λ v. nat_lt v (length ds)) (listed (number_in (numbering ds) n)) (numbers_of (numbering ds) names)
    ∙ rw (listed_below (length ds) (number_in (numbering ds) n) (host_below (is_host n) (length ds) (found n (numbering ds)) (found_below n ds)), names_below ds names) refl

rows_below : (ds rest : List (Declared Entry)) → list_all (are_below (length ds)) (graph_by (numbering ds) rest) ≡ true
rows_below ds [] = refl
rows_below ds (d ∷ rest) = rw (names_below ds (named_by (Some d.as_what)), rows_below ds rest) refl

pub graph_is : (ds : List (Declared Entry)) → is_graph (graph_of ds) ≡ true
graph_is ds = ap (λ n. list_all (are_below n) (graph_of ds)) (graph_size ds) ∙ rows_below ds ds

-- ---- steps

any_listed : (p : ℕ → Bool) (o : Option ℕ) (rest : List ℕ) → list_any p (listed o ++ rest) ≡ (list_any p (listed o) || list_any p rest)
any_listed p None rest = refl
any_listed p (Some j) rest = by (p j)
  where
    by : (b : Bool) → (b || list_any p rest) ≡ ((b || false) || list_any p rest)
    by true = refl
    by false = refl

nowhere : (count : ℕ) (ds : List (Declared Entry)) (x : List ℕ) → names_reach count ds x [] ≡ false
nowhere zero ds x = refl
nowhere (suc count) ds x = refl

module _ (ds : List (Declared Entry)) (x : List ℕ) (i : ℕ) (is : number_in (numbering ds) x ≡ Some i) where
  not_same : (n : List ℕ) → number_in (numbering ds) n ≡ None → (b : Bool) → bytes_eq n x ≡ b → b ≡ false
  not_same n none true same = absurd (none_some i (sym (sym is ∙ ap (number_in (numbering ds)) (sym ((bytes_eq-Decides n x).0 same)) ∙ none)))
  not_same n none false other = refl

  same_number : (n : List ℕ) (j : ℕ) → number_in (numbering ds) n ≡ Some j → (b c : Bool) → bytes_eq n x ≡ b → (j == i) ≡ c → c ≡ b
  same_number n j number true true same e = refl
  same_number n j number false false other e = refl
  same_number n j number true false same e =
      let s : Some j ≡ Some i = sym number ∙ ap (number_in (numbering ds)) ((bytes_eq-Decides n x).0 same) ∙ is in
      let t : j ≡ i = some_same j i s in let u : (j == i) ≡ true = eq-eqb j i t in let f : true ≡ false = sym u ∙ e in cc
  same_number n j number false true other e =
      let t : j ≡ i = eqb-true j i e in
      let s : n ≡ x = number_name ds n j number ∙ ap (name_at ds) t ∙ sym (number_name ds x i is) in
      let u : bytes_eq n x ≡ true = (bytes_eq-Decides n x).1 s in let f : true ≡ false = sym u ∙ other in cc

  abbrev by_number : ℕ → ℕ → Bool
  by_number count v = (v == i) || reaches (graph_of ds) count i (mentions (graph_of ds) v)

  abbrev by_name : ℕ → List ℕ → Bool
  by_name count n = bytes_eq n x || names_reach count ds x (named_by (entry_of n ds))

  one_name : (count : ℕ) → ((names : List (List ℕ)) → reaches (graph_of ds) count i (numbers_of (numbering ds) names) ≡ names_reach count ds x names) → (n : List ℕ) (o : Option ℕ) →
      number_in (numbering ds) n ≡ o → list_any (by_number count) (listed o) ≡ by_name count n
  one_name count later n None none =
      sym (rw (not_same n none (bytes_eq n x) refl, entry_numbered ds n, none, nowhere count ds x) refl)
  one_name count later n (Some j) number =
      or-false (by_number count j)
      ∙ ap (λ b. b || reaches (graph_of ds) count i (mentions (graph_of ds) j)) (same_number n j number (bytes_eq n x) (j == i) refl refl)
      ∙ ap (λ b. bytes_eq n x || b) (ap (reaches (graph_of ds) count i) (mentions_is (numbering ds) ds j) ∙ later (named_by (entry_at ds j))
      ∙ ap (λ e. names_reach count ds x (named_by e)) (sym (entry_numbered ds n ∙ ap (option_and_then (entry_at ds)) number)))

  reaches_names : (count : ℕ) (names : List (List ℕ)) → reaches (graph_of ds) count i (numbers_of (numbering ds) names) ≡ names_reach count ds x names
  reaches_names zero names = refl
  reaches_names (suc count) [] = refl
  reaches_names (suc count) (n ∷ names) =
      any_listed (by_number count) (number_in (numbering ds) n) (numbers_of (numbering ds) names)
      ∙ ap (λ b. b || list_any (by_number count) (numbers_of (numbering ds) names)) (one_name count (reaches_names count) n (number_in (numbering ds) n) refl)
      ∙ ap (λ b. by_name count n || b) (reaches_names (suc count) names)

-- the first declaration of a name, by its number
pub depends_is : (ds : List (Declared Entry)) (d : Declared Entry) (i : ℕ) → number_in (numbering ds) d.name.name ≡ Some i → entry_at ds i ≡ Some d.as_what →
    comes_back (graph_of ds) i ≡ depends_on_itself ds d
depends_is ds d i number at =
    ap (λ n. reaches (graph_of ds) n i (mentions (graph_of ds) i)) (graph_size ds)
    ∙ ap (reaches (graph_of ds) (length ds) i) (mentions_is (numbering ds) ds i ∙ ap (mentioned_by (numbering ds)) at)
    ∙ reaches_names ds d.name.name i number (length ds) (named_by (Some d.as_what))
