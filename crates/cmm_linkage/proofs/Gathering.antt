-- What units export and the names of their registers, one after the other.
use Rattle.std.proofs.Math.Bool.{or_assoc, or-false}
use Rattle.std.proofs.Common.{◌≡◌, ℕ, ◌+◌, ◌<◌, Bool, true, false, ◌||◌, not, cond, length, map, take, get_or, refl, ap, sym, ◌∙◌, subst, List, [], ◌∷◌, ◌++◌, Option, Some, None, option_map, append_assoc, append-nil, arith}
use Rattle.std.specs.Prelude.{bytes_eq, flat_map, is_some, unwrap_or, position, nat_lt, IsPermutation}
use Rattle.std.specs.Cmp.Lexicographic.{slice_cmp}
use Rattle.std.specs.List.{AllByRecursion, IsDistinct, list_any, prefix_len}
use Rattle.std.specs.List.Sorted.{IsSorted, IsStrictlySortedBy}
use Rattle.std.specs.Ordering.{nat_cmp, is_eq, is_lt, ordering_reverse}
use Rattle.std.specs.declared.cmp.Ordering.{Ordering}
use Rattle.std.specs.declared.cmp.Ordering.TheVariants.{Less, Equal, Greater}
use Rattle.std.proofs.lemmas.Cmp.{nat_list_cmp_total, on_total}
use Rattle.std.proofs.lemmas.Grind.{flat_map-append}
use Rattle.std.proofs.lemmas.List.{length-map, map-append}
use Rattle.std.proofs.lemmas.List.Sorted.{list_any-IsPermutation}
use Rattle.std.proofs.lemmas.Map.Keys.{apart_from_distinct, sorted_from_all_adjacent}
use Rattle.std.proofs.lemmas.Map.Text.{is_eq-slice_cmp}
use Rattle.std.proofs.lemmas.Simd.{map-map}
use Rattle.std.proofs.lemmas.Slice.Eq.{bytes_eq-Decides}
use denote.Ref.{Bor}
use Rattle.cmm_words.specs.declared.constant.Constant.{Constant}
use Rattle.cmm_words.specs.declared.constant.Constant.TheVariants.{Code}
use Rattle.cmm_ast.specs.declared.declaration.Export.{Export}
use Rattle.cmm_static_semantics.specs.declared.sense.Host.{Host}
use Rattle.cmm_static_semantics.specs.declared.sense.Sense.{Sense}
use Rattle.cmm_static_semantics.specs.declared.sense.Sense.TheVariants as senses
use Rattle.cmm_static_semantics.specs.Senses.{host_named}
use Rattle.cmm_static_semantics.specs.Declarations.{Declared, Entry as UnitEntry, NamedUnit}
use Rattle.cmm_static_semantics.specs.Linking.{Program, Published, address_of, exports_of, export_links, imported, published, published_as, is_among, in_order, register_names, registers_of, program_of}
use Rattle.cmm_static_semantics.proofs.Shared.{among_append, among_in_order, is_in_order, same_order, mapped_next}
use Rattle.cmm_symbols.specs.Indexed.{indexed, or_else}
use Rattle.cmm_symbols.specs.Shown.{entry_shown}
use Rattle.cmm_symbols.specs.declared.entry.Entry.{Entry}
use Rattle.cmm_symbols.specs.declared.index.Index.{Index}
use Rattle.cmm_linkage.specs.declared.linkage.Exported.{Exported}
use Rattle.cmm_linkage.specs.declared.register.Register.{Register}
use Rattle.cmm_linkage.specs.Exports.{exported_links}
use Rattle.cmm_linkage.specs.Registers.{registers_in, register_shown}
use Rattle.cmm_linkage.specs.inside.Linkages.{exported_shown, publication, first_under, AreAdded, AreLinks}

-- ---- what is exported

pushed : {A : Type 0} (b : Bool) (a : A) (o p : Option A) (t : Bool) (n : A) → p ≡ or_else o t n →
    elim b as (λ _. Option A) [ true ↦ Some a | false ↦ p ] ≡ or_else (elim b as (λ _. Option A) [ true ↦ Some a | false ↦ o ]) t n
pushed true a o p t n e = refl
pushed false a o p t n e = e

first_push : (x : List ℕ) (es : List Exported) (e : Exported) → first_under x (es ++ e ∷ []) ≡ or_else (first_under x es) (bytes_eq x e.link.now) e.entry
first_push x [] e = refl
first_push x (d ∷ es) e = pushed (bytes_eq x d.link.now) d.entry (first_under x es) (first_under x (es ++ e ∷ [])) (bytes_eq x e.link.now) e.entry (first_push x es e)

pub links_added : (old new : Index (Option Entry)) (es more : List Exported) (e : Exported) → more ≡ es ++ e ∷ [] →
    ((x : List ℕ) → indexed new x ≡ or_else (indexed old x) (bytes_eq x e.link.now) e.entry) → AreLinks old es → AreLinks new more
links_added old new es more e is added are x =
    added x ∙ ap (λ o. or_else o (bytes_eq x e.link.now) e.entry) (are x) ∙ sym (ap (first_under x) is ∙ first_push x es e)

chosen : (b : Bool) (e : Exported) (o : Option (Option Entry)) (p : Option Constant) → p ≡ address_of (option_map entry_shown (unwrap_or o None)) →
    elim b as (λ _. Option Constant) [ true ↦ (exported_shown e).address | false ↦ p ]
    ≡ address_of (option_map entry_shown (unwrap_or (elim b as (λ _. Option (Option Entry)) [ true ↦ Some e.entry | false ↦ o ]) None))
chosen true e o p is = refl
chosen false e o p is = is

-- the address of what is first exported
published_first : (x : List ℕ) (es : List Exported) → published_as x (map exported_shown es) ≡ address_of (option_map entry_shown (unwrap_or (first_under x es) None))
published_first x [] = refl
published_first x (e ∷ es) = chosen (bytes_eq x e.link.now) e (first_under x es) (published_as x (map exported_shown es)) (published_first x es)

some_chosen : (b : Bool) (e : Option Entry) (o : Option (Option Entry)) (t : Bool) → is_some o ≡ t → is_some (elim b as (λ _. Option (Option Entry)) [ true ↦ Some e | false ↦ o ]) ≡ (b || t)
some_chosen true e o t is = refl
some_chosen false e o t is = is

-- whether something is exported
pub under_among : (x : List ℕ) (es : List Exported) → is_some (first_under x es) ≡ is_among x (map (λ p. p.link) (map exported_shown es))
under_among x [] = refl
under_among x (e ∷ es) = some_chosen (bytes_eq x e.link.now) e.entry (first_under x es) (is_among x (map (λ p. p.link) (map exported_shown es))) (under_among x es)

-- what is imported, where it is no procedure of the host
pub imported_is : (link : List ℕ) (es : List Exported) (links : Index (Option Entry)) (ps : List Published) (there : Option (Option Entry)) (entry : Option Entry) (value : Constant) →
    None ≡ host_named link → AreLinks links es → ps ≡ map exported_shown es → there ≡ indexed links link → entry ≡ unwrap_or there None →
    value ≡ unwrap_or (address_of (option_map entry_shown entry)) (Code 0 0) → senses.Value value ≡ imported link ps
imported_is link es links ps there entry value own are is found_ first_ valued =
    ap (λ (v : Constant). senses.Value v)
    (valued ∙ ap (λ (e : Option Entry). unwrap_or (address_of (option_map entry_shown e)) (Code 0 0)) (first_ ∙ ap (λ (o : Option (Option Entry)). unwrap_or o None) (found_ ∙ are link))
    ∙ ap (λ (a : Option Constant). unwrap_or a (Code 0 0)) (sym (ap (published_as link) is ∙ published_first link es)))
    ∙ ap (λ (h : Option Host). elim h as (λ _. Sense) [ Some n ↦ senses.Host n | None ↦ senses.Value (unwrap_or (published_as link ps) (Code 0 0)) ]) own

-- a turn of a loop over what is listed
pub listed_next : {A B C : Type 0} (h : A → B) (f : B → C) (before : List C) (xs : List A) (i : ℕ) (e : A) → i < length xs → e ≡ get_or xs i e →
    (before ++ map f (map h (take i xs))) ++ f (h e) ∷ [] ≡ before ++ map f (map h (take (i + 1) xs))
listed_next h f before xs i e within is =
    append_assoc before (map f (map h (take i xs))) (f (h e) ∷ [])
    ∙ ap (λ t. before ++ t) (sym (ap (map f) (mapped_next h xs i e within is) ∙ map-append f (map h (take i xs)) (h e ∷ [])))

-- ---- names of registers

among_any : (k : List ℕ) (ks : List (Bor (List ℕ))) → list_any (λ j. bytes_eq k j.now) ks ≡ is_among k (map (λ j. j.now) ks)
among_any k [] = refl
among_any k (j ∷ ks) = ap (λ b. bytes_eq k j.now || b) (among_any k ks)

or_known : (p q : Bool) → (q ≡ true → p ≡ true) → p ≡ (p || (q || false))
or_known true q known = refl
or_known false true known = known refl
or_known false false known = refl

-- the names after one more
pub name_added : (ks : List (Bor (List ℕ))) (k : Bor (List ℕ)) →
    AreAdded (k.now ∷ []) (map (λ j. j.now) ks) (map (λ j. j.now) (cond (list_any (λ j. bytes_eq k.now j.now) ks) ks (ks ++ k ∷ [])))
name_added ks k x = by (list_any (λ j. bytes_eq k.now j.now) ks) (among_any k.now ks)
  where
    by : (b : Bool) → b ≡ is_among k.now (map (λ j. j.now) ks) →
        is_among x (map (λ (j : Bor (List ℕ)). j.now) (cond b ks (ks ++ k ∷ []))) ≡ (is_among x (map (λ j. j.now) ks) || (bytes_eq x k.now || false))
    by true there = or_known (is_among x (map (λ j. j.now) ks)) (bytes_eq x k.now) (λ same. ap (λ n. is_among n (map (λ j. j.now) ks)) ((bytes_eq-Decides x k.now).0 same) ∙ sym there)
    by false new = ap (is_among x) (map-append (λ j. j.now) ks (k ∷ [])) ∙ among_append x (map (λ j. j.now) ks) (k.now ∷ [])

-- where none are added
pub none_added : (names : List (List ℕ)) → AreAdded [] names names
none_added names x = sym (or-false (is_among x names))

-- and where some are, and then more
pub both_added : (some more first now next : List (List ℕ)) → AreAdded some first now → AreAdded more now next → AreAdded (some ++ more) first next
both_added some more first now next before after x =
    after x ∙ ap (λ b. b || is_among x more) (before x) ∙ or_assoc (is_among x first) (is_among x some) (is_among x more)
    ∙ ap (λ b. is_among x first || b) (sym (among_append x some more))

-- ---- their order

abbrev by_bytes : Bor (List ℕ) → Bor (List ℕ) → Ordering
by_bytes j k = slice_cmp nat_cmp j.now k.now

-- of two neighbours that differ the first is below
below : (j k : List ℕ) → is_lt (slice_cmp nat_cmp k j) ≡ false → bytes_eq j k ≡ false → slice_cmp nat_cmp j k ≡ Less
below j k not_after differ = by (slice_cmp nat_cmp j k) refl
  where
    by : (o : Ordering) → slice_cmp nat_cmp j k ≡ o → o ≡ Less
    by Less is = refl
    by Equal is = let bad : true ≡ false = sym (ap is_eq is) ∙ is_eq-slice_cmp j k ∙ differ in absurd (cc)
    by Greater is = let bad : true ≡ false = sym (ap is_lt (nat_list_cmp_total.antisymm k j ∙ ap (λ o. ordering_reverse o) is)) ∙ not_after in absurd (cc)

keys_ascend : (ks : List (Bor (List ℕ))) → IsSorted by_bytes ks → IsDistinct (λ j k. bytes_eq j.now k.now) ks → IsStrictlySortedBy by_bytes ks
unfolding IsStrictlySortedBy
keys_ascend [] sorted distinct = tt
keys_ascend (j ∷ ks) sorted distinct =
    sorted_from_all_adjacent (on_total (λ (k : Bor (List ℕ)). k.now) nat_list_cmp_total) (j ∷ ks) j
    (λ k inside. below (get_or (j ∷ ks) k j).now (get_or (j ∷ ks) (k + 1) j).now (sorted k j (omega arith) inside)
    (apart_from_distinct (λ j k. bytes_eq j.now k.now) (j ∷ ks) k (k + 1) j distinct (omega arith) inside))

all_names : (n : List ℕ) (ks : List (Bor (List ℕ))) → AllByRecursion (λ k. slice_cmp nat_cmp n k.now ≡ Less) ks → AllByRecursion (λ m. slice_cmp nat_cmp n m ≡ Less) (map (λ k. k.now) ks)
all_names n [] all = tt
all_names n (k ∷ ks) all = (all.0, all_names n ks all.1)

names_ascend : (ks : List (Bor (List ℕ))) → IsStrictlySortedBy by_bytes ks → IsStrictlySortedBy (slice_cmp nat_cmp) (map (λ k. k.now) ks)
unfolding IsStrictlySortedBy
names_ascend [] up = tt
names_ascend (k ∷ ks) up = (all_names k.now ks up.0, names_ascend ks up.1)

-- keys that are sorted, each once, have their names in order
pub names_sorted : (old new : List (Bor (List ℕ))) → IsPermutation old new → IsSorted by_bytes new → IsDistinct (λ j k. bytes_eq j.now k.now) new →
    map (λ k. k.now) new ≡ in_order (map (λ k. k.now) old)
names_sorted old new moved sorted distinct =
    is_in_order (map (λ k. k.now) new) (map (λ k. k.now) old) (names_ascend new (keys_ascend new sorted distinct))
    (λ x. sym (among_any x new) ∙ sym (list_any-IsPermutation (λ j. bytes_eq x j.now) old new moved) ∙ among_any x old)

prefix_map : {A B : Type 0} (h : A → B) (p : B → Bool) (xs : List A) → prefix_len p (map h xs) ≡ prefix_len (λ x. p (h x)) xs
prefix_map h p [] = refl
prefix_map h p (x ∷ xs) = ap (λ n. cond (p (h x)) (1 + n) 0) (prefix_map h p xs)

pub position_map : {A B : Type 0} (h : A → B) (p : B → Bool) (xs : List A) → position p (map h xs) ≡ position (λ x. p (h x)) xs
position_map h p xs =
    ap (λ n. cond (nat_lt n (length (map h xs))) (Some n) None) (prefix_map h (λ y. not (p y)) xs)
    ∙ ap (λ m. cond (nat_lt (prefix_len (λ x. not (p (h x))) xs) m) (Some (prefix_len (λ x. not (p (h x))) xs)) None) (length-map xs h)

-- ---- one more unit

flat_last : {A B : Type 0} (f : A → List B) (xs : List A) (x : A) → flat_map f (xs ++ x ∷ []) ≡ flat_map f xs ++ f x
flat_last f xs x = flat_map-append f xs (x ∷ []) ∙ ap (λ t. flat_map f xs ++ t) (append-nil (f x))

abbrev own_names : NamedUnit → List (List ℕ)
own_names u = map (λ d. d.name.name) (registers_of u)

program_next : (us : List NamedUnit) (u : NamedUnit) (exports : List Published) (registers : List (List ℕ)) → exports ≡ (program_of us).exports ++ published u →
    registers ≡ register_names (us ++ u ∷ []) → let p : Program = record { exports = exports; registers = registers } in p ≡ program_of (us ++ u ∷ [])
program_next us u exports registers e r = rw (r, e, flat_last published us u) refl

-- names in order, where those of one more unit were added to some that had the names of units in order
names_grown : (us : List NamedUnit) (u : NamedUnit) (old new : List (List ℕ)) → in_order old ≡ register_names us → AreAdded (own_names u) old new → in_order new ≡ register_names (us ++ u ∷ [])
names_grown us u old new are added =
    same_order new (flat_map own_names (us ++ u ∷ []))
    (λ x. added x ∙ ap (λ b. b || is_among x (own_names u)) (sym (among_in_order x old) ∙ ap (is_among x) are ∙ among_in_order x (flat_map own_names us))
    ∙ sym (ap (is_among x) (flat_last own_names us u) ∙ among_append x (flat_map own_names us) (own_names u)))

pub program_grown : (us : List NamedUnit) (u : NamedUnit) (old : Program) (ds : List (Declared UnitEntry)) (es : List Export) (exports : List Published) (before after : List (List ℕ)) (rs : List Register) →
    old ≡ program_of us → ds ≡ u.entries → es ≡ exports_of u → exports ≡ old.exports ++ map (publication ds) es → in_order before ≡ old.registers → map register_shown rs ≡ registers_in ds →
    AreAdded (map (λ r. r.name.now.name) rs) before after →
    let p : Program = record { exports = exports; registers = in_order after } in p ≡ program_of (us ++ u ∷ [])
program_grown us u old ds es exports before after rs is declared exported e r own added =
    let names : map (λ q. q.name.now.name) rs ≡ own_names u =
    sym (map-map (λ d. d.name.name) register_shown rs) ∙ ap (map (λ d. d.name.name)) (own ∙ ap registers_in declared) in
    program_next us u exports (in_order after)
    (e ∙ ap (λ (p : Program). p.exports ++ map (publication ds) es) is ∙ ap (λ (q : List (Declared UnitEntry)). (program_of us).exports ++ map (publication q) es) declared
    ∙ ap (λ (q : List Export). (program_of us).exports ++ map (publication u.entries) q) exported)
    (names_grown us u before after (r ∙ ap (λ (p : Program). p.registers) is) (subst (λ (q : List (List ℕ)). AreAdded q before after) names added))

-- the link names of units are those under which each exports something
pub links_of_all : (us : List NamedUnit) → exported_links (program_of us) ≡ flat_map export_links us
links_of_all [] = refl
links_of_all (u ∷ us) =
    map-append (λ p. p.link) (published u) (flat_map published us) ∙ ap (λ t. t ++ map (λ p. p.link) (flat_map published us)) (map-map (λ p. p.link) (publication u.entries) (exports_of u))
    ∙ ap (λ t. export_links u ++ t) (links_of_all us)
