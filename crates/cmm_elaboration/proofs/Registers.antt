-- The registers of accepted units stand in their program once for each name, with one width in all units.
use Rattle.std.proofs.Common.{◌≡◌, ℕ, suc, ◌+◌, ◌<◌, refl, sym, ap, ◌∙◌, subst, Bool, true, false, cond, List, [], ◌∷◌, ◌++◌, Option, Some, None, arith, length}
use Rattle.std.specs.Prelude.{map, flat_map, option_map, unwrap_or, not, bytes_eq, slice_get, position, ◌||◌}
use Rattle.std.specs.List.{prefix_len}
use Rattle.std.proofs.lemmas.Bool.{lt-ltb}
use Rattle.cmm_words.specs.declared.width.Width.{Width}
use Rattle.cmm_ast.specs.declared.token.Ident.{Ident}
use Rattle.cmm_ast.specs.declared.expression.TypeName.{TypeName}
use Rattle.cmm_static_semantics.specs.Senses.{host_named, is_host, is_there}
use Rattle.cmm_static_semantics.specs.Declarations.{Declared, Entry, Typedef, Const, Register, Import, DataLabel, Procedure, NamedUnit, found, firsts}
use Rattle.cmm_static_semantics.specs.Linking.{is_among, register_entry, registers_of}
use Rattle.cmm_static_semantics.specs.Scopes.{width_in}
use Rattle.cmm_elaboration.proofs.Cycles.{one_name}

abbrev Name : Type 0
Name = List ℕ

-- ---- the number of a name among names

record Numbered (name : Name) (names : List Name) (n : ℕ) : Type 0 where
  pub inside : n < length names
  pub there : slice_get names n ≡ Some name

number_by : (name x : Name) (xs : List Name) (same : Bool) (n : ℕ) → bytes_eq name x ≡ same → (same || is_among name xs) ≡ true →
    (is_among name xs ≡ true → Numbered name xs n) → Numbered name (x ∷ xs) (cond (not same) (1 + n) 0)
number_by name x xs true n eq among later = record { inside = omega arith; there = ap Some (sym (one_name name x eq)) }
number_by name x xs false n eq among later = let rest = later among in
    subst (λ m. Numbered name (x ∷ xs) m) (let e : suc n ≡ 1 + n = omega arith in e) record { inside = let h : n < length xs = rest.inside in omega arith; there = rest.there }

number_at : (name : Name) (xs : List Name) → is_among name xs ≡ true → Numbered name xs (prefix_len (λ y. not (bytes_eq name y)) xs)
number_at name [] among = let bad : false ≡ true = among in cc
number_at name (x ∷ xs) among = number_by name x xs (bytes_eq name x) (prefix_len (λ y. not (bytes_eq name y)) xs) refl among (number_at name xs)

pub name_at : (name : Name) (xs : List Name) → is_among name xs ≡ true → slice_get xs (unwrap_or (position (bytes_eq name) xs) 0) ≡ Some name
name_at name xs among = let n = prefix_len (λ y. not (bytes_eq name y)) xs in let at_ = number_at name xs among in
    ap (λ b. slice_get xs (unwrap_or (cond b (Some n) None) 0)) (lt-ltb n (length xs) at_.inside) ∙ at_.there

-- ---- what is found among some and more

module _ {A : Type 0} where
  left_by : (same : Bool) (x a : A) (o p : Option A) → ◌≡◌ {A = Option A} (elim same [ true ↦ Some x | false ↦ o ]) (Some a) → (o ≡ Some a → p ≡ Some a) →
      ◌≡◌ {A = Option A} (elim same [ true ↦ Some x | false ↦ p ]) (Some a)
  left_by true x a o p is later = is
  left_by false x a o p is later = later is

  pub found_left : (name : Name) (a : A) (xs ys : List (Declared A)) → found name xs ≡ Some a → found name (xs ++ ys) ≡ Some a
  found_left name a [] ys is = let bad : None ≡ Some a = is in cc
  found_left name a (x ∷ xs) ys is = left_by (bytes_eq name x.name.name) x.as_what a (found name xs) (found name (xs ++ ys)) is (found_left name a xs ys)

  right_by : (same : Bool) (x : A) (o p q : Option A) → ◌≡◌ {A = Option A} (elim same [ true ↦ Some x | false ↦ o ]) None → (o ≡ None → p ≡ q) →
      ◌≡◌ {A = Option A} (elim same [ true ↦ Some x | false ↦ p ]) q
  right_by true x o p q is later = let bad : Some x ≡ None = is in cc
  right_by false x o p q is later = later is

  pub found_right : (name : Name) (xs ys : List (Declared A)) → found name xs ≡ None → found name (xs ++ ys) ≡ found name ys
  found_right name [] ys is = refl
  found_right name (x ∷ xs) ys is = right_by (bytes_eq name x.name.name) x.as_what (found name xs) (found name (xs ++ ys)) (found name ys) is (found_right name xs ys)

  among_by : (same : Bool) (x a : A) (o : Option A) (b : Bool) → ◌≡◌ {A = Option A} (elim same [ true ↦ Some x | false ↦ o ]) (Some a) → (o ≡ Some a → b ≡ true) → (same || b) ≡ true
  among_by true x a o b is later = refl
  among_by false x a o b is later = later is

  pub found_among : (name : Name) (a : A) (ds : List (Declared A)) → found name ds ≡ Some a → is_among name (map (λ d. d.name.name) ds) ≡ true
  found_among name a [] is = let bad : None ≡ Some a = is in cc
  found_among name a (d ∷ ds) is = among_by (bytes_eq name d.name.name) d.as_what a (found name ds) (is_among name (map (λ e. e.name.name) ds)) is (found_among name a ds)

-- ---- the registers of a unit

firsts_by : (name : Name) (d : Declared Entry) (e : Entry) (earlier ds kept next : List (Declared Entry)) (same known : Bool) → bytes_eq name d.name.name ≡ same →
    (is_host d.name.name || is_there (found d.name.name earlier)) ≡ known →
    ◌≡◌ {A = Option Entry} (elim same [ true ↦ Some d.as_what | false ↦ found name ds ]) (Some e) → is_host name ≡ false → found name earlier ≡ None →
    (found name ds ≡ Some e → found name kept ≡ Some e) → (found name ds ≡ Some e → found name (earlier ++ d ∷ []) ≡ None → found name next ≡ Some e) →
    found name (elim known as (λ b. List (Declared Entry)) [ true ↦ kept | false ↦ d ∷ next ]) ≡ Some e
firsts_by name d e earlier ds kept next true true eq test is own new skip more =
    let free : (is_host d.name.name || is_there (found d.name.name earlier)) ≡ false =
    subst (λ n. (is_host n || is_there (found n earlier)) ≡ false) (one_name name d.name.name eq) (ap (λ b. b || is_there (found name earlier)) own ∙ ap is_there new) in
    let bad : false ≡ true = sym free ∙ test in cc
firsts_by name d e earlier ds kept next false true eq test is own new skip more = skip is
firsts_by name d e earlier ds kept next true false eq test is own new skip more =
    ap (λ b. elim b as (λ c. Option Entry) [ true ↦ Some d.as_what | false ↦ found name next ]) eq ∙ is
firsts_by name d e earlier ds kept next false false eq test is own new skip more =
    ap (λ b. elim b as (λ c. Option Entry) [ true ↦ Some d.as_what | false ↦ found name next ]) eq
    ∙ more is (found_right name earlier (d ∷ []) new ∙ ap (λ b. elim b as (λ c. Option Entry) [ true ↦ Some d.as_what | false ↦ None ]) eq)

firsts_keep : (name : Name) (e : Entry) (earlier ds : List (Declared Entry)) → found name ds ≡ Some e → is_host name ≡ false → found name earlier ≡ None →
    found name (firsts earlier ds) ≡ Some e
firsts_keep name e earlier [] is own new = is
firsts_keep name e earlier (d ∷ ds) is own new =
    firsts_by name d e earlier ds (firsts earlier ds) (firsts (earlier ++ d ∷ []) ds) (bytes_eq name d.name.name) (is_host d.name.name || is_there (found d.name.name earlier)) refl refl
    is own new (λ later. firsts_keep name e earlier ds later own new) (λ later free. firsts_keep name e (earlier ++ d ∷ []) ds later own free)

entry_by : (name : Name) (i : Ident) (e : Entry) (t : TypeName) (rest : List (Declared TypeName)) (o : Option Entry) (same : Bool) → bytes_eq name i.name ≡ same →
    ◌≡◌ {A = Option Entry} (elim same [ true ↦ Some e | false ↦ o ]) (Some (Register t)) → (o ≡ Some (Register t) → found name rest ≡ Some t) →
    found name (register_entry (record { name = i; as_what = e }) ++ rest) ≡ Some t
entry_by name i (Register u) t rest o true eq is later = let one : u ≡ t = let e : Some (Register u) ≡ Some (Register t) = is in cc in
    ap (λ b. elim b as (λ c. Option TypeName) [ true ↦ Some u | false ↦ found name rest ]) eq ∙ ap Some one
entry_by name i (Register u) t rest o false eq is later = ap (λ b. elim b as (λ c. Option TypeName) [ true ↦ Some u | false ↦ found name rest ]) eq ∙ later is
entry_by name i (Typedef u) t rest o true eq is later = let bad : Some (Typedef u) ≡ Some (Register t) = is in cc
entry_by name i (Typedef u) t rest o false eq is later = later is
entry_by name i (Const u x) t rest o true eq is later = let bad : Some (Const u x) ≡ Some (Register t) = is in cc
entry_by name i (Const u x) t rest o false eq is later = later is
entry_by name i (Import l) t rest o true eq is later = let bad : Some (Import l) ≡ Some (Register t) = is in cc
entry_by name i (Import l) t rest o false eq is later = later is
entry_by name i (DataLabel n) t rest o true eq is later = let bad : Some (DataLabel n) ≡ Some (Register t) = is in cc
entry_by name i (DataLabel n) t rest o false eq is later = later is
entry_by name i (Procedure n p) t rest o true eq is later = let bad : Some (Procedure n p) ≡ Some (Register t) = is in cc
entry_by name i (Procedure n p) t rest o false eq is later = later is

entries_keep : (name : Name) (t : TypeName) (ds : List (Declared Entry)) → found name ds ≡ Some (Register t) → found name (flat_map register_entry ds) ≡ Some t
entries_keep name t [] is = let bad : None ≡ Some (Register t) = is in cc
entries_keep name t (d ∷ ds) is =
    entry_by name d.name d.as_what t (flat_map register_entry ds) (found name ds) (bytes_eq name d.name.name) refl is (entries_keep name t ds)

pub register_found : (name : Name) (t : TypeName) (u : NamedUnit) → host_named name ≡ None → found name u.entries ≡ Some (Register t) → found name (registers_of u) ≡ Some t
register_found name t u host is = entries_keep name t (firsts [] u.entries) (firsts_keep name (Register t) [] u.entries is (ap is_there host) refl)

-- ---- widths

widths_by : (same : Bool) (o : Option TypeName) (t : TypeName) (f : TypeName → Option Width) (p : Option (Option Width)) → p ≡ option_map f o →
    ◌≡◌ {A = Option (Option Width)} (elim same [ true ↦ Some (f t) | false ↦ p ]) (option_map f (elim same [ true ↦ Some t | false ↦ o ]))
widths_by true o t f p is = refl
widths_by false o t f p is = is

pub found_width : (name : Name) (ds : List (Declared Entry)) (rs : List (Declared TypeName)) →
    found name (map (λ d. record { name = d.name; as_what = width_in ds d.as_what }) rs) ≡ option_map (width_in ds) (found name rs)
found_width name ds [] = refl
found_width name ds (r ∷ rs) =
    widths_by (bytes_eq name r.name.name) (found name rs) r.as_what (width_in ds) (found name (map (λ d. record { name = d.name; as_what = width_in ds d.as_what }) rs)) (found_width name ds rs)
