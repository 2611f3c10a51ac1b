-- Where no rule on types is broken, no type of a unit is broken: a chain of typedefs that is longer than there are declarations comes back to one of
-- them, and that one breaks a rule.
use Rattle.std.proofs.Common.{◌≡◌, ℕ, zero, suc, ◌+◌, ◌<◌, refl, sym, ap, ◌∙◌, subst, Bool, true, false, List, [], ◌∷◌, ◌++◌, Option, Some, None, arith, length, length-append, inl, inr, ◌⊎◌}
use Rattle.std.specs.Prelude.{flat_map, bytes_eq, ◌||◌}
use Rattle.std.specs.List.{list_any}
use Rattle.std.proofs.lemmas.Bool.{or_cases, or_left, or_right}
use Rattle.std.proofs.lemmas.Bool.Decides.{nat_tests}
use Rattle.std.proofs.lemmas.Slice.Eq.{bytes_eq-Decides}
use Rattle.cmm_words.specs.declared.width.Width.{Width}
use Rattle.cmm_ast.specs.declared.token.Ident.{Ident}
use Rattle.cmm_ast.specs.declared.expression.TypeName.{TypeName}
use Rattle.cmm_ast.specs.declared.expression.TypeForm.{TypeForm}
use Rattle.cmm_ast.specs.declared.expression.TypeForm.TheVariants.{Bits as OfBits, Named as OfName}
use Rattle.cmm_static_semantics.specs.declared.spot.Spot.{Spot}
use Rattle.cmm_static_semantics.specs.declared.sense.Sense.{Sense}
use Rattle.cmm_static_semantics.specs.declared.sense.Sense.TheVariants as meanings
use Rattle.cmm_static_semantics.specs.Senses.{Senses, is_host}
use Rattle.cmm_static_semantics.specs.Judging.{spots, if_ok}
use Rattle.cmm_static_semantics.specs.Typing.{typedef_width}
use Rattle.cmm_static_semantics.specs.Declarations.{Declared, Entry, Typedef, Const, Register, Import, DataLabel, Procedure, found, entry_of}
use Rattle.cmm_static_semantics.specs.Scopes.{typedef_sense, type_in, width_in, named_by, reaches}
use Rattle.cmm_static_semantics.specs.Expressions.{type_spots}
use Rattle.cmm_elaboration.proofs.Nothing.{no_left, no_right}
use Rattle.cmm_elaboration.proofs.Naming.{same_name}

-- ---- names among names

abbrev pub Name : Type 0
Name = List ℕ

pub one_name : (a b : Name) → bytes_eq a b ≡ true → a ≡ b
one_name a b is = grind (arith, nat_tests, bytes_eq-Decides a b)

other_name : (a b : Name) → bytes_eq a b ≡ false → a ≡ b → ⊥
other_name a b is same = let e : bytes_eq a b ≡ true = subst (λ c. bytes_eq a c ≡ true) same (same_name a) in let bad : false ≡ true = sym is ∙ e in cc

abbrev pub is_key : Name → List Name → Bool
is_key n [] = false
is_key n (k ∷ ks) = bytes_eq n k || is_key n ks

-- a name stands a second time behind where it stands first
pub record Twice (xs : List Name) : Type 0 where
  pub before : List Name
  pub name : Name
  pub between : List Name
  pub behind : List Name
  pub is : xs ≡ before ++ name ∷ (between ++ name ∷ behind)

record Stands (n : Name) (xs : List Name) : Type 0 where
  pub before : List Name
  pub behind : List Name
  pub is : xs ≡ before ++ n ∷ behind

abbrev Others : Name → List Name → Type 0
Others n [] = Unit {0}
Others n (x ∷ xs) = (n ≡ x → ⊥) × Others n xs

abbrev pub Keys : List Name → List Name → Type 0
Keys ks [] = Unit {0}
Keys ks (x ∷ xs) = (is_key x ks ≡ true) × Keys ks xs

stands_next : (n x : Name) (xs : List Name) (same : Bool) → bytes_eq n x ≡ same → Stands n xs ⊎ Others n xs → Stands n (x ∷ xs) ⊎ Others n (x ∷ xs)
stands_next n x xs true is rest = inl record { before = []; behind = xs; is = ap (λ y. y ∷ xs) (sym (one_name n x is)) }
stands_next n x xs false is (inl s) = inl record { before = x ∷ s.before; behind = s.behind; is = ap (λ ys. x ∷ ys) s.is }
stands_next n x xs false is (inr others) = inr (other_name n x is, others)

stands : (n : Name) (xs : List Name) → Stands n xs ⊎ Others n xs
stands n [] = inr tt
stands n (x ∷ xs) = stands_next n x xs (bytes_eq n x) refl (stands n xs)

abbrev without : Name → List Name → List Name
without n [] = []
without n (k ∷ ks) = elim (bytes_eq n k) [ true ↦ ks | false ↦ k ∷ without n ks ]

one_less : (same : Bool) (k : Name) (ks more : List Name) (n : Name) → (same || is_key n ks) ≡ true → (is_key n ks ≡ true → suc (length more) ≡ length ks) →
    suc (length (elim same as (λ b. List Name) [ true ↦ ks | false ↦ k ∷ more ])) ≡ suc (length ks)
one_less true k ks more n is later = refl
one_less false k ks more n is later = ap suc (later is)

shorter : (n : Name) (ks : List Name) → is_key n ks ≡ true → suc (length (without n ks)) ≡ length ks
shorter n [] is = let bad : false ≡ true = is in cc
shorter n (k ∷ ks) is = one_less (bytes_eq n k) k ks (without n ks) n is (shorter n ks)

still_key : (n m k : Name) (ks more : List Name) (here there : Bool) → (n ≡ m → ⊥) → bytes_eq n k ≡ here → bytes_eq m k ≡ there → (there || is_key m ks) ≡ true →
    (is_key m ks ≡ true → is_key m more ≡ true) → is_key m (elim here as (λ b. List Name) [ true ↦ ks | false ↦ k ∷ more ]) ≡ true
still_key n m k ks more true true apart x y is later = absurd (apart (one_name n k x ∙ sym (one_name m k y)))
still_key n m k ks more true false apart x y is later = is
still_key n m k ks more false true apart x y is later = or_left (bytes_eq m k) (is_key m more) y
still_key n m k ks more false false apart x y is later = or_right (bytes_eq m k) (is_key m more) (later is)

kept_key : (n m : Name) (ks : List Name) → (n ≡ m → ⊥) → is_key m ks ≡ true → is_key m (without n ks) ≡ true
kept_key n m [] apart is = is
kept_key n m (k ∷ ks) apart is = still_key n m k ks (without n ks) (bytes_eq n k) (bytes_eq m k) apart refl refl is (kept_key n m ks apart)

kept_keys : (n : Name) (ks xs : List Name) → Others n xs → Keys ks xs → Keys (without n ks) xs
kept_keys n ks [] others keys = tt
kept_keys n ks (x ∷ xs) others keys = (kept_key n x ks others.0 keys.0, kept_keys n ks xs others.1 keys.1)

-- more names than keys
pub twice : (xs ks : List Name) → Keys ks xs → length ks < length xs → Twice xs
twice [] ks keys many = absurd (omega arith)
twice (x ∷ xs) ks keys many = elim (stands x xs) [
  | inl s ↦ record { before = []; name = x; between = s.before; behind = s.behind; is = ap (λ ys. x ∷ ys) s.is }
  | inr others ↦
      let t : Twice xs = twice xs (without x ks) (kept_keys x ks xs others keys.1) (let e : suc (length (without x ks)) ≡ length ks = shorter x ks keys.0 in omega arith) in
      record { before = x ∷ t.before; name = t.name; between = t.between; behind = t.behind; is = ap (λ ys. x ∷ ys) t.is }
]

-- ---- what is reached in some steps is reached in more

any_more : (f g : Name → Bool) (xs : List Name) → ((x : Name) → f x ≡ true → g x ≡ true) → list_any f xs ≡ true → list_any g xs ≡ true
any_more f g [] each is = is
any_more f g (x ∷ xs) each is = elim (or_cases (f x) (list_any f xs) is) [
  | inl here ↦ or_left (g x) (list_any g xs) (each x here)
  | inr later ↦ or_right (g x) (list_any g xs) (any_more f g xs each later)
]

reaches_more : (ds : List (Declared Entry)) (n : Name) (count : ℕ) (from : List Name) → reaches count ds n from ≡ true → reaches (suc count) ds n from ≡ true
reaches_more ds n zero from is = let bad : false ≡ true = is in cc
reaches_more ds n (suc count) from is =
    any_more (λ m. bytes_eq m n || reaches count ds n (named_by (entry_of m ds))) (λ m. bytes_eq m n || reaches (suc count) ds n (named_by (entry_of m ds))) from
    (λ m h. elim (or_cases (bytes_eq m n) (reaches count ds n (named_by (entry_of m ds))) h) [
      | inl here ↦ or_left (bytes_eq m n) (reaches (suc count) ds n (named_by (entry_of m ds))) here
      | inr later ↦ or_right (bytes_eq m n) (reaches (suc count) ds n (named_by (entry_of m ds))) (reaches_more ds n count (named_by (entry_of m ds)) later)
    ]) is

pub reaches_in : (ds : List (Declared Entry)) (n : Name) (more count : ℕ) (from : List Name) → reaches count ds n from ≡ true → reaches (more + count) ds n from ≡ true
reaches_in ds n zero count from is = subst (λ c. reaches c ds n from ≡ true) (let e : count ≡ 0 + count = omega arith in e) is
reaches_in ds n (suc more) count from is =
    subst (λ c. reaches c ds n from ≡ true) (let e : suc (more + count) ≡ suc more + count = omega arith in e) (reaches_more ds n (more + count) from (reaches_in ds n more count from is))

-- ---- what is found among declarations that break nothing breaks nothing

pub record IsAt {A : Type 0} (f : Declared A → List Spot) (name : Name) (a : A) : Type 0 where
  pub ident : Ident
  pub named : ident.name ≡ name
  pub nothing : f (record { name = ident; as_what = a }) ≡ []

is_at : {A : Type 0} (f : Declared A → List Spot) (name : Name) (a : A) (same : Bool) (d : Declared A) (ds : List (Declared A)) → bytes_eq name d.name.name ≡ same →
    ◌≡◌ {A = Option A} (elim same [ true ↦ Some d.as_what | false ↦ found name ds ]) (Some a) → f d ++ flat_map f ds ≡ [] →
    (flat_map f ds ≡ [] → found name ds ≡ Some a → IsAt f name a) → IsAt f name a
is_at f name a true d ds same is none later = let one : d.as_what ≡ a = let e : Some d.as_what ≡ Some a = is in cc in
    record { ident = d.name; named = sym (one_name name d.name.name same); nothing = subst (λ x. f (record { name = d.name; as_what = x }) ≡ []) one (no_left (f d) (flat_map f ds) none) }
is_at f name a false d ds same is none later = later (no_right (f d) (flat_map f ds) none) is

pub found_at : {A : Type 0} (f : Declared A → List Spot) (name : Name) (a : A) (ds : List (Declared A)) → flat_map f ds ≡ [] → found name ds ≡ Some a → IsAt f name a
found_at f name a [] none is = let bad : None ≡ Some a = is in cc
found_at f name a (d ∷ ds) none is = is_at f name a (bytes_eq name d.name.name) d ds refl is none (found_at f name a ds)

abbrev pub keys_of : List (Declared Entry) → List Name
keys_of [] = []
keys_of (d ∷ ds) = d.name.name ∷ keys_of ds

pub keys_length : (ds : List (Declared Entry)) → length (keys_of ds) ≡ length ds
keys_length [] = refl
keys_length (d ∷ ds) = ap suc (keys_length ds)

key_by : (same : Bool) (x e : Entry) (o : Option Entry) (rest : Bool) → ◌≡◌ {A = Option Entry} (elim same [ true ↦ Some x | false ↦ o ]) (Some e) → (o ≡ Some e → rest ≡ true) → (same || rest) ≡ true
key_by true x e o rest is later = refl
key_by false x e o rest is later = later is

pub found_key : (name : Name) (e : Entry) (ds : List (Declared Entry)) → found name ds ≡ Some e → is_key name (keys_of ds) ≡ true
found_key name e [] is = let bad : None ≡ Some e = is in cc
found_key name e (d ∷ ds) is = key_by (bytes_eq name d.name.name) d.as_what e (found name ds) (is_key name (keys_of ds)) is (found_key name e ds)

pub own_is : (host : Bool) (o : Option Entry) (e : Entry) → ◌≡◌ {A = Option Entry} (elim host [ true ↦ None | false ↦ o ]) (Some e) → o ≡ Some e
own_is true o e is = let bad : None ≡ Some e = is in cc
own_is false o e is = is

-- ---- a chain of typedefs

module _ (ds : List (Declared Entry)) where
  abbrev along : (TypeName → List Name) → Option Entry → List Name
  along names (Some (Typedef t)) = names t
  along names (Some (Const t e)) = []
  along names (Some (Register t)) = []
  along names (Some (Import link)) = []
  along names (Some (DataLabel n)) = []
  along names (Some (Procedure n p)) = []
  along names None = []

  -- the names from a type on, n at most
  abbrev names_along : ℕ → TypeName → List Name
  names_along zero t = []
  names_along (suc k) t = elim t.form [ OfBits w ↦ [] | OfName n ↦ n ∷ along (names_along k) (entry_of n ds) ]

  not_empty : (xs ys : List Name) (n : Name) → [] ≡ xs ++ n ∷ ys → ⊥
  not_empty [] ys n e = let bad : [] ≡ n ∷ ys = e in cc
  not_empty (x ∷ xs) ys n e = let bad : [] ≡ x ∷ (xs ++ n ∷ ys) = e in cc

  entry_back : (k : ℕ) (n : Name) (o : Option Entry) (b behind : List Name) → along (names_along k) o ≡ b ++ n ∷ behind →
      ((t : TypeName) → names_along k t ≡ b ++ n ∷ behind → reaches (suc (length b)) ds n (named_by (Some (Typedef t))) ≡ true) → reaches (suc (length b)) ds n (named_by o) ≡ true
  entry_back k n (Some (Typedef t)) b behind is later = later t is
  entry_back k n (Some (Const t e)) b behind is later = absurd (not_empty b behind n is)
  entry_back k n (Some (Register t)) b behind is later = absurd (not_empty b behind n is)
  entry_back k n (Some (Import link)) b behind is later = absurd (not_empty b behind n is)
  entry_back k n (Some (DataLabel m)) b behind is later = absurd (not_empty b behind n is)
  entry_back k n (Some (Procedure m p)) b behind is later = absurd (not_empty b behind n is)
  entry_back k n None b behind is later = absurd (not_empty b behind n is)

  form_back : (k token : ℕ) (form : TypeForm) (n : Name) (b behind : List Name) →
      ((t : TypeName) (c : List Name) → names_along k t ≡ c ++ n ∷ behind → reaches (suc (length c)) ds n (named_by (Some (Typedef t))) ≡ true) →
      names_along (suc k) record { token = token; form = form } ≡ b ++ n ∷ behind →
      reaches (suc (length b)) ds n (named_by (Some (Typedef record { token = token; form = form }))) ≡ true
  form_back k token (OfBits w) n b behind later is = absurd (not_empty b behind n is)
  form_back k token (OfName m) n [] behind later is =
      let one : m ≡ n = let e : m ∷ along (names_along k) (entry_of m ds) ≡ n ∷ behind = is in cc in
      or_left (bytes_eq m n || false) false (or_left (bytes_eq m n) false (subst (λ x. bytes_eq m x ≡ true) one (same_name m)))
  form_back k token (OfName m) n (x ∷ b) behind later is =
      let rest : along (names_along k) (entry_of m ds) ≡ b ++ n ∷ behind = let e : m ∷ along (names_along k) (entry_of m ds) ≡ x ∷ (b ++ n ∷ behind) = is in cc in
      let inner = reaches (suc (length b)) ds n (named_by (entry_of m ds)) in
      or_left (bytes_eq m n || inner) false (or_right (bytes_eq m n) inner (entry_back k n (entry_of m ds) b behind rest (λ t. later t b)))

  comes_back : (k : ℕ) (t : TypeName) (n : Name) (b behind : List Name) → names_along k t ≡ b ++ n ∷ behind → reaches (suc (length b)) ds n (named_by (Some (Typedef t))) ≡ true
  comes_back zero t n b behind is = absurd (not_empty b behind n is)
  comes_back (suc k) t n b behind is = form_back k t.token t.form n b behind (λ u c. comes_back k u n c behind) is

  -- a name of the chain behind which others stand is a typedef, from which they follow
  record Follows (n : Name) (rest : List Name) : Type 0 where
    pub type_ : TypeName
    pub entry : entry_of n ds ≡ Some (Typedef type_)
    pub steps : ℕ
    pub along_is : names_along steps type_ ≡ rest

  follows_entry : (k : ℕ) (m : Name) (o : Option Entry) (n : Name) (b behind : List Name) → entry_of m ds ≡ o → along (names_along k) o ≡ b ++ n ∷ behind → Follows m (b ++ n ∷ behind)
  follows_entry k m (Some (Typedef t)) n b behind e is = record { type_ = t; entry = e; steps = k; along_is = is }
  follows_entry k m (Some (Const t x)) n b behind e is = absurd (not_empty b behind n is)
  follows_entry k m (Some (Register t)) n b behind e is = absurd (not_empty b behind n is)
  follows_entry k m (Some (Import link)) n b behind e is = absurd (not_empty b behind n is)
  follows_entry k m (Some (DataLabel i)) n b behind e is = absurd (not_empty b behind n is)
  follows_entry k m (Some (Procedure i p)) n b behind e is = absurd (not_empty b behind n is)
  follows_entry k m None n b behind e is = absurd (not_empty b behind n is)

  later_follows : (k : ℕ) (o : Option Entry) (m n : Name) (before b behind : List Name) → along (names_along k) o ≡ before ++ m ∷ (b ++ n ∷ behind) →
      ((t : TypeName) → names_along k t ≡ before ++ m ∷ (b ++ n ∷ behind) → Follows m (b ++ n ∷ behind)) → Follows m (b ++ n ∷ behind)
  later_follows k (Some (Typedef t)) m n before b behind is later = later t is
  later_follows k (Some (Const t e)) m n before b behind is later = absurd (not_empty before (b ++ n ∷ behind) m is)
  later_follows k (Some (Register t)) m n before b behind is later = absurd (not_empty before (b ++ n ∷ behind) m is)
  later_follows k (Some (Import link)) m n before b behind is later = absurd (not_empty before (b ++ n ∷ behind) m is)
  later_follows k (Some (DataLabel i)) m n before b behind is later = absurd (not_empty before (b ++ n ∷ behind) m is)
  later_follows k (Some (Procedure i p)) m n before b behind is later = absurd (not_empty before (b ++ n ∷ behind) m is)
  later_follows k None m n before b behind is later = absurd (not_empty before (b ++ n ∷ behind) m is)

  form_follows : (k token : ℕ) (form : TypeForm) (m n : Name) (before b behind : List Name) →
      ((t : TypeName) (c : List Name) → names_along k t ≡ c ++ m ∷ (b ++ n ∷ behind) → Follows m (b ++ n ∷ behind)) →
      names_along (suc k) record { token = token; form = form } ≡ before ++ m ∷ (b ++ n ∷ behind) → Follows m (b ++ n ∷ behind)
  form_follows k token (OfBits w) m n before b behind later is = absurd (not_empty before (b ++ n ∷ behind) m is)
  form_follows k token (OfName x) m n [] b behind later is =
      let one : x ≡ m = let e : x ∷ along (names_along k) (entry_of x ds) ≡ m ∷ (b ++ n ∷ behind) = is in cc in
      let rest : along (names_along k) (entry_of x ds) ≡ b ++ n ∷ behind = let e : x ∷ along (names_along k) (entry_of x ds) ≡ m ∷ (b ++ n ∷ behind) = is in cc in
      subst (λ y. Follows y (b ++ n ∷ behind)) one (follows_entry k x (entry_of x ds) n b behind refl rest)
  form_follows k token (OfName x) m n (y ∷ before) b behind later is =
      let rest : along (names_along k) (entry_of x ds) ≡ before ++ m ∷ (b ++ n ∷ behind) =
      let e : x ∷ along (names_along k) (entry_of x ds) ≡ y ∷ (before ++ m ∷ (b ++ n ∷ behind)) = is in cc in
      later_follows k (entry_of x ds) m n before b behind rest (λ t. later t before)

  follows : (k : ℕ) (t : TypeName) (m n : Name) (before b behind : List Name) → names_along k t ≡ before ++ m ∷ (b ++ n ∷ behind) → Follows m (b ++ n ∷ behind)
  follows zero t m n before b behind is = absurd (not_empty before (b ++ n ∷ behind) m is)
  follows (suc k) t m n before b behind is = form_follows k t.token t.form m n before b behind (λ u c. follows k u m n c b behind) is

  -- ---- and one that goes on as long as a type has no width

  -- types that name typedefs, which name typedefs, and come back to none
  pub record AreSound (names : Senses) : Type 0 where
    pub types : (name : Name) (t : TypeName) → entry_of name ds ≡ Some (Typedef t) → type_spots names t ≡ []
    pub acyclic : (name : Name) (t : TypeName) → entry_of name ds ≡ Some (Typedef t) → reaches (length ds) ds name (named_by (Some (Typedef t))) ≡ false
    pub typedefs : (name : Name) (w : Option Width) → names name ≡ Some (meanings.Typedef w) → (t : TypeName) × (entry_of name ds ≡ Some (Typedef t))

  typedef_is : (token : ℕ) (sense : Option Sense) → spots (typedef_width token sense) ≡ [] → (w : Option Width) × (sense ≡ Some (meanings.Typedef w))
  typedef_is token (Some (meanings.Typedef (Some w))) none = (Some w, refl)
  typedef_is token (Some (meanings.Typedef None)) none = (None, refl)
  typedef_is token (Some (meanings.Variable n w)) none = cc
  typedef_is token (Some (meanings.Register n w)) none = cc
  typedef_is token (Some (meanings.Value c)) none = cc
  typedef_is token (Some (meanings.Broken w)) none = cc
  typedef_is token (Some (meanings.Stackdata n)) none = cc
  typedef_is token (Some (meanings.Continuation n)) none = cc
  typedef_is token (Some meanings.CodeLabel) none = cc
  typedef_is token (Some (meanings.Host h)) none = cc
  typedef_is token None none = cc

  inner_none : (token : ℕ) (o : Option Width) → if_ok (typedef_width token (Some (meanings.Typedef o))) ≡ None → o ≡ None
  inner_none token None e = refl
  inner_none token (Some w) e = let bad : Some w ≡ None = e in cc

  module _ (names : Senses) (sound : AreSound names) where
    abbrev IsLong : ℕ → List Name → Type 0
    IsLong k ns = (length ns ≡ k) × Keys (keys_of ds) ns

    form_long : (k token : ℕ) (form : TypeForm) → ((t : TypeName) → type_spots names t ≡ [] → type_in k ds t ≡ None → IsLong k (names_along k t)) →
        type_spots names record { token = token; form = form } ≡ [] → type_in (suc k) ds record { token = token; form = form } ≡ None →
        IsLong (suc k) (names_along (suc k) record { token = token; form = form })
    form_long k token (OfBits w) later none broken = let bad : Some w ≡ None = broken in cc
    form_long k token (OfName n) later none broken =
        let sense = typedef_is token (names n) none in
        let entry = sound.typedefs n sense.0 sense.1 in
        let inner : type_in k ds entry.0 ≡ None =
        inner_none token (type_in k ds entry.0) (sym (ap (λ o. if_ok (typedef_width token (typedef_sense (type_in k ds) o))) entry.1) ∙ broken) in
        let rest = later entry.0 (sound.types n entry.0 entry.1) inner in
        let key : is_key n (keys_of ds) ≡ true = found_key n (Typedef entry.0) ds (own_is (is_host n) (found n ds) (Typedef entry.0) entry.1) in
        subst (λ o. IsLong (suc k) (n ∷ along (names_along k) o)) (sym entry.1) (ap suc rest.0, (key, rest.1))

    long : (k : ℕ) (t : TypeName) → type_spots names t ≡ [] → type_in k ds t ≡ None → IsLong k (names_along k t)
    long zero t none broken = (refl, tt)
    long (suc k) t none broken = form_long k t.token t.form (long k) none broken

    -- a type that breaks no rule has a width
    pub has_width : (t : TypeName) → type_spots names t ≡ [] → width_in ds t ≡ None → ⊥
    has_width t none broken =
        let l = long (suc (length ds)) t none broken in let ns = names_along (suc (length ds)) t in
        let many : length (keys_of ds) < length ns = let e : length (keys_of ds) ≡ length ds = keys_length ds in let f : length ns ≡ suc (length ds) = l.0 in omega arith in
        let tw : Twice ns = twice ns (keys_of ds) l.1 many in
        let fo : Follows tw.name (tw.between ++ tw.name ∷ tw.behind) = follows (suc (length ds)) t tw.name tw.name tw.before tw.between tw.behind tw.is in
        let back : reaches (suc (length tw.between)) ds tw.name (named_by (Some (Typedef fo.type_))) ≡ true = comes_back fo.steps fo.type_ tw.name tw.between tw.behind fo.along_is in
        let sum : length ns ≡ length tw.before + suc (length tw.between + suc (length tw.behind)) =
        ap length tw.is ∙ length-append tw.before (tw.name ∷ (tw.between ++ tw.name ∷ tw.behind))
        ∙ ap (λ m. length tw.before + suc m) (length-append tw.between (tw.name ∷ tw.behind)) in
        let more = length tw.before + length tw.behind in
        let all : more + suc (length tw.between) ≡ length ds = let f : length ns ≡ suc (length ds) = l.0 in omega arith in
        let found_ : reaches (length ds) ds tw.name (named_by (Some (Typedef fo.type_))) ≡ true =
        subst (λ c. reaches c ds tw.name (named_by (Some (Typedef fo.type_))) ≡ true) all (reaches_in ds tw.name more (suc (length tw.between)) (named_by (Some (Typedef fo.type_))) back) in
        let bad : true ≡ false = sym found_ ∙ sound.acyclic tw.name fo.type_ fo.entry in cc
