-- The constants of accepted units are not broken: where one is, in n steps, a chain of as many constants that name one another begins at it, and
-- one that is longer than there are declarations comes back to one of them, which breaks a rule.
use Rattle.std.proofs.Common.{◌≡◌, ℕ, zero, suc, ◌+◌, ◌-◌, ◌<◌, ◌≤◌, refl, sym, ap, ◌∙◌, subst, Bool, true, false, List, [], ◌∷◌, ◌++◌, Option, Some, None, Ok, Err, arith, length, length-append, inl, inr, ◌⊎◌}
use Rattle.std.specs.Prelude.{map, flat_map, bytes_eq, not, ◌||◌}
use Rattle.std.specs.List.{list_any}
use Rattle.std.proofs.lemmas.Bool.{not-true, or_cases, or_left, or_right}
use Rattle.cmm_words.specs.declared.width.Width.{Width}
use Rattle.cmm_words.specs.declared.constant.Constant.{Constant}
use Rattle.cmm_ast.specs.declared.token.Ident.{Ident}
use Rattle.cmm_ast.specs.declared.expression.Expr.{Expr}
use Rattle.cmm_ast.specs.declared.expression.TypeName.{TypeName}
use Rattle.cmm_ast.specs.declared.expression.TypeForm.{TypeForm}
use Rattle.cmm_ast.specs.declared.expression.TypeForm.TheVariants.{Bits as OfBits, Named as OfName}
use Rattle.cmm_rules.specs.declared.rule.Rule.TheVariants.{Undeclared, Cycle}
use Rattle.cmm_static_semantics.specs.declared.judged.Bits.{Bits}
use Rattle.cmm_static_semantics.specs.declared.known.Known.{Known}
use Rattle.cmm_static_semantics.specs.declared.known.Known.TheVariants as known
use Rattle.cmm_static_semantics.specs.declared.sense.Host.{Host}
use Rattle.cmm_static_semantics.specs.declared.sense.Sense.{Sense}
use Rattle.cmm_static_semantics.specs.declared.sense.Sense.TheVariants as meanings
use Rattle.cmm_static_semantics.specs.Senses.{Senses, host_named, is_host, is_there}
use Rattle.cmm_static_semantics.specs.Algebras.{knowns}
use Rattle.cmm_static_semantics.specs.Judging.{Judged, faulty, with_ok, as_wanted, spots, if_ok}
use Rattle.cmm_static_semantics.specs.Mentions.{values_alone, expr_names}
use Rattle.cmm_static_semantics.specs.Typing.{typedef_width, type_width, expr_type, wanted}
use Rattle.cmm_static_semantics.specs.Constants.{Alone, alone, alone_or, wanted_alone, number_known, as_number, number_alone}
use Rattle.cmm_static_semantics.specs.Declarations.{Declared, Entry, Typedef, Const, Register, Import, DataLabel, Procedure, found, entry_of}
use Rattle.cmm_static_semantics.specs.Linking.{Program as Linked}
use Rattle.cmm_static_semantics.specs.Scopes.{typedef_sense, type_in, width_in, senses_by, valued, untyped_sense, typed_sense, const_sense, unit_senses, named_by, reaches, depends_on_itself}
use Rattle.cmm_static_semantics.specs.Expressions.{inner_spots, type_spots, number_alone_spots}
use Rattle.cmm_static_semantics.specs.Units.{const_spots, cycle_spots, entry_spots}
use Rattle.cmm_elaboration.proofs.Nothing.{no_left, no_right, no_unless}
use Rattle.cmm_elaboration.proofs.Naming.{same_name}
use Rattle.cmm_elaboration.proofs.Cycles.{Name, one_name, is_key, Twice, Keys, twice, reaches_in, IsAt, found_at, keys_of, keys_length, found_key, own_is}
use Rattle.cmm_elaboration.proofs.Declaring.{meant, entry_by, type_wide}
use Rattle.cmm_elaboration.proofs.Wide.{steps_wide}
use Rattle.cmm_elaboration.proofs.Mentioned.{EachName, judged_same}
use Rattle.cmm_elaboration.proofs.Whole.{Whole, Present, IsUnbroken, whole_with, BitsWhole, wanted_alone_whole}

-- ---- numbers

number_whole : (token : ℕ) (a : Known) → Whole (λ n. Unit {0}) (number_known token a)
number_whole token (known.Number a) = tt
number_whole token (known.Symbol c) = tt
number_whole token (known.Sum c) = tt
number_whole token known.Nothing = tt

pub as_number_whole : (token : ℕ) (w : Width) (o : Option Known) → Present o → Whole (λ n. Unit {0}) (as_number token record { width = w; value = o })
as_number_whole token w (Some a) h = number_whole token a
as_number_whole token w None h = h

-- what breaks no rule and is not broken is judged
pub whole_ok : {A : Type 0} (P : A → Type 0) (j : Judged A) → Whole P j → spots j ≡ [] → (a : A) × (j ≡ Ok a)
whole_ok P (Ok a) h none = (a, refl)
whole_ok P (Err (Some s)) h none = cc
whole_ok P (Err None) h none = absurd h

valued_unbroken : (w : Width) (j : Judged ℕ) (a : ℕ) → j ≡ Ok a → IsUnbroken (Some (valued w j))
valued_unbroken w (Ok b) a is = tt
valued_unbroken w (Err x) a is = let bad : Err x ≡ Ok a = is in cc

untyped_unbroken : (token : ℕ) (j : Judged (Bits Known)) (a : ℕ) → with_ok j (as_number token) ≡ Ok a → IsUnbroken (Some (untyped_sense token j))
untyped_unbroken token (Ok x) a is = valued_unbroken x.width (as_number token x) a is
untyped_unbroken token (Err x) a is = let bad : Err x ≡ Ok a = is in cc

-- ---- a constant is no type, however many steps it has

valued_no_type : (token : ℕ) (w : Width) (j : Judged ℕ) → typedef_width token (Some (valued w j)) ≡ faulty Undeclared token
valued_no_type token w (Ok a) = refl
valued_no_type token w (Err x) = refl

untyped_no_type : (token at_ : ℕ) (j : Judged (Bits Known)) → typedef_width token (Some (untyped_sense at_ j)) ≡ faulty Undeclared token
untyped_no_type token at_ (Ok x) = valued_no_type token x.width (as_number at_ x)
untyped_no_type token at_ (Err x) = refl

typed_no_type : (token : ℕ) (names : Senses) (x : Expr) (o : Option Width) → typedef_width token (Some (typed_sense names x o)) ≡ faulty Undeclared token
typed_no_type token names x (Some w) = valued_no_type token w (number_alone names (Some w) x)
typed_no_type token names x None = refl

typedef_of : (token : ℕ) (o p : Option Width) (w : Width) → if_ok (typedef_width token (Some (meanings.Typedef o))) ≡ Some w → (o ≡ Some w → p ≡ Some w) →
    if_ok (typedef_width token (Some (meanings.Typedef p))) ≡ Some w
typedef_of token (Some v) p w is later = ap (λ q. if_ok (typedef_width token (Some (meanings.Typedef q)))) (later is)
typedef_of token None p w is later = let bad : None ≡ Some w = is in cc

module _ (program : Linked) (ds : List (Declared Entry)) where
  abbrev names_in : ℕ → Senses
  names_in count = senses_by program ds (const_sense program ds count)

  const_no_type : (token count : ℕ) (t : Option TypeName) (x : Expr) → typedef_width token (Some (const_sense program ds count t x)) ≡ faulty Undeclared token
  const_no_type token zero t x = refl
  const_no_type token (suc count) None x = untyped_no_type token x.token (wanted knowns (names_in count) None x)
  const_no_type token (suc count) (Some t) x = typed_no_type token (names_in count) x (width_in ds t)

  meant_type : (token i j : ℕ) (name : Name) (h : Option Host) (o : Option Entry) →
      typedef_width token (meant program ds (const_sense program ds i) name h o) ≡ typedef_width token (meant program ds (const_sense program ds j) name h o)
  meant_type token i j name (Some x) o = refl
  meant_type token i j name None None = refl
  meant_type token i j name None (Some (Typedef t)) = refl
  meant_type token i j name None (Some (Const t x)) = const_no_type token i t x ∙ sym (const_no_type token j t x)
  meant_type token i j name None (Some (Register t)) = refl
  meant_type token i j name None (Some (Import link)) = refl
  meant_type token i j name None (Some (DataLabel n)) = refl
  meant_type token i j name None (Some (Procedure n p)) = refl

  type_by : (i j : ℕ) (form : TypeForm) (token : ℕ) → type_width (names_in i) record { token = token; form = form } ≡ type_width (names_in j) record { token = token; form = form }
  type_by i j (OfBits w) token = refl
  type_by i j (OfName n) token = meant_type token i j n (host_named n) (found n ds)

  types_same : (i j : ℕ) (t : TypeName) → type_width (names_in i) t ≡ type_width (names_in j) t
  types_same i j t = type_by i j t.form t.token

  -- ---- a type has the width in the unit that the names of the unit give it

  entry_more : (k token : ℕ) (o : Option Entry) (w : Width) → ((t : TypeName) → type_in k ds t ≡ Some w → type_in (suc k) ds t ≡ Some w) →
      if_ok (typedef_width token (typedef_sense (type_in k ds) o)) ≡ Some w → if_ok (typedef_width token (typedef_sense (type_in (suc k) ds) o)) ≡ Some w
  entry_more k token (Some (Typedef t)) w later is = typedef_of token (type_in k ds t) (type_in (suc k) ds t) w is (later t)
  entry_more k token (Some (Const t x)) w later is = let bad : None ≡ Some w = is in cc
  entry_more k token (Some (Register t)) w later is = let bad : None ≡ Some w = is in cc
  entry_more k token (Some (Import link)) w later is = let bad : None ≡ Some w = is in cc
  entry_more k token (Some (DataLabel n)) w later is = let bad : None ≡ Some w = is in cc
  entry_more k token (Some (Procedure n p)) w later is = let bad : None ≡ Some w = is in cc
  entry_more k token None w later is = let bad : None ≡ Some w = is in cc

  form_more : (k : ℕ) (form : TypeForm) (token : ℕ) (w : Width) → ((t : TypeName) → type_in k ds t ≡ Some w → type_in (suc k) ds t ≡ Some w) →
      type_in (suc k) ds record { token = token; form = form } ≡ Some w → type_in (suc (suc k)) ds record { token = token; form = form } ≡ Some w
  form_more k (OfBits v) token w later is = is
  form_more k (OfName n) token w later is = entry_more k token (entry_of n ds) w later is

  -- more steps leave it as it is
  type_more : (k : ℕ) (t : TypeName) (w : Width) → type_in k ds t ≡ Some w → type_in (suc k) ds t ≡ Some w
  type_more zero t w is = let bad : None ≡ Some w = is in cc
  type_more (suc k) t w is = form_more k t.form t.token w (λ u. type_more k u w) is

  entry_width : (k token : ℕ) (n : Name) (h : Option Host) (o : Option Entry) (w : Width) →
      if_ok (typedef_width token (typedef_sense (type_in (length ds) ds) (elim (is_there h) as (λ b. Option Entry) [ true ↦ None | false ↦ o ]))) ≡ Some w →
      if_ok (typedef_width token (meant program ds (const_sense program ds k) n h o)) ≡ Some w
  entry_width k token n (Some x) o w is = let bad : None ≡ Some w = is in cc
  entry_width k token n None None w is = let bad : None ≡ Some w = is in cc
  entry_width k token n None (Some (Typedef t)) w is = typedef_of token (type_in (length ds) ds t) (width_in ds t) w is (type_more (length ds) t w)
  entry_width k token n None (Some (Const t x)) w is = let bad : None ≡ Some w = is in cc
  entry_width k token n None (Some (Register t)) w is = let bad : None ≡ Some w = is in cc
  entry_width k token n None (Some (Import link)) w is = let bad : None ≡ Some w = is in cc
  entry_width k token n None (Some (DataLabel m)) w is = let bad : None ≡ Some w = is in cc
  entry_width k token n None (Some (Procedure m p)) w is = let bad : None ≡ Some w = is in cc

  form_width : (k : ℕ) (form : TypeForm) (token : ℕ) (w : Width) → width_in ds record { token = token; form = form } ≡ Some w →
      if_ok (type_width (names_in k) record { token = token; form = form }) ≡ Some w
  form_width k (OfBits v) token w is = is
  form_width k (OfName n) token w is = entry_width k token n (host_named n) (found n ds) w is

  width_agrees : (k : ℕ) (t : TypeName) (w : Width) → width_in ds t ≡ Some w → if_ok (type_width (names_in k) t) ≡ Some w
  width_agrees k t w is = form_width k t.form t.token w is

  -- ---- a chain of constants, each of which names the next

  abbrev names_of : Expr → List Name
  names_of x = map (λ i. i.name) (expr_names values_alone x)

  abbrev IsChain : Expr → List Name → Type 0
  IsChain x [] = Unit {0}
  IsChain x (n ∷ ns) = (is_key n (names_of x) ≡ true) × ((t : Option TypeName) × ((y : Expr) × ((entry_of n ds ≡ Some (Const t y)) × IsChain y ns)))

  record IsLong (k : ℕ) (x : Expr) : Type 0 where
    pub names : List Name
    pub many : length names ≡ k
    pub keys : Keys (keys_of ds) names
    pub chain : IsChain x names

  -- from a name of it on
  record Goes (n : Name) (rest : List Name) : Type 0 where
    pub type_ : Option TypeName
    pub value : Expr
    pub entry : entry_of n ds ≡ Some (Const type_ value)
    pub chain : IsChain value rest

  goes : (x : Expr) (before : List Name) (n : Name) (rest : List Name) → IsChain x (before ++ n ∷ rest) → Goes n rest
  goes x [] n rest c = record { type_ = c.1.0; value = c.1.1.0; entry = c.1.1.1.0; chain = c.1.1.1.1 }
  goes x (m ∷ before) n rest c = goes c.1.1.0 before n rest c.1.1.1.1

  any_key : (f : Name → Bool) (n : Name) (xs : List Name) → is_key n xs ≡ true → f n ≡ true → list_any f xs ≡ true
  any_key f n [] is holds = let bad : false ≡ true = is in cc
  any_key f n (x ∷ xs) is holds = elim (or_cases (bytes_eq n x) (is_key n xs) is) [
    | inl same ↦ or_left (f x) (list_any f xs) (subst (λ m. f m ≡ true) (one_name n x same) holds)
    | inr later ↦ or_right (f x) (list_any f xs) (any_key f n xs later holds)
  ]

  comes_back : (x : Expr) (between : List Name) (n : Name) (behind : List Name) → IsChain x (between ++ n ∷ behind) → reaches (suc (length between)) ds n (names_of x) ≡ true
  comes_back x [] n behind c =
      any_key (λ m. bytes_eq m n || reaches zero ds n (named_by (entry_of m ds))) n (names_of x) c.0 (or_left (bytes_eq n n) false (same_name n))
  comes_back x (m ∷ between) n behind c =
      let later : reaches (suc (length between)) ds n (named_by (entry_of m ds)) ≡ true =
      ap (λ o. reaches (suc (length between)) ds n (named_by o)) c.1.1.1.0 ∙ comes_back c.1.1.0 between n behind c.1.1.1.1 in
      any_key (λ k. bytes_eq k n || reaches (suc (length between)) ds n (named_by (entry_of k ds))) m (names_of x) c.0 (or_right (bytes_eq m n) _ later)

  module _ (none : flat_map (entry_spots (unit_senses program ds) ds) ds ≡ []) where
    const_at : (name : Name) (t : Option TypeName) (x : Expr) → entry_of name ds ≡ Some (Const t x) → IsAt (entry_spots (unit_senses program ds) ds) name (Const t x)
    const_at name t x is = found_at (entry_spots (unit_senses program ds) ds) name (Const t x) ds none (own_is (is_host name) (found name ds) (Const t x) is)

    acyclic : (name : Name) (t : Option TypeName) (x : Expr) → IsAt (entry_spots (unit_senses program ds) ds) name (Const t x) → reaches (length ds) ds name (names_of x) ≡ false
    acyclic name t x at_ =
        let d : Declared Entry = record { name = at_.ident; as_what = Const t x } in
        let free : depends_on_itself ds d ≡ false =
        not-true (depends_on_itself ds d) (no_unless (not (depends_on_itself ds d)) Cycle at_.ident.token (no_right (const_spots (unit_senses program ds) t x) (cycle_spots ds d) at_.nothing)) in
        subst (λ n. reaches (length ds) ds n (names_of x) ≡ false) at_.named free

    -- no chain is longer than there are declarations
    never_long : (x : Expr) → IsLong (suc (length ds)) x → ⊥
    never_long x l =
        let many : length (keys_of ds) < length l.names = let e : length (keys_of ds) ≡ length ds = keys_length ds in let f : length l.names ≡ suc (length ds) = l.many in omega arith in
        let tw : Twice l.names = twice l.names (keys_of ds) l.keys many in
        let go : Goes tw.name (tw.between ++ tw.name ∷ tw.behind) = goes x tw.before tw.name (tw.between ++ tw.name ∷ tw.behind) (subst (IsChain x) tw.is l.chain) in
        let back : reaches (suc (length tw.between)) ds tw.name (names_of go.value) ≡ true = comes_back go.value tw.between tw.name tw.behind go.chain in
        let sum : length l.names ≡ length tw.before + suc (length tw.between + suc (length tw.behind)) =
        ap length tw.is ∙ length-append tw.before (tw.name ∷ (tw.between ++ tw.name ∷ tw.behind))
        ∙ ap (λ m. length tw.before + suc m) (length-append tw.between (tw.name ∷ tw.behind)) in
        let more = length tw.before + length tw.behind in
        let all : more + suc (length tw.between) ≡ length ds = let f : length l.names ≡ suc (length ds) = l.many in omega arith in
        let found_ : reaches (length ds) ds tw.name (names_of go.value) ≡ true =
        subst (λ c. reaches c ds tw.name (names_of go.value) ≡ true) all (reaches_in ds tw.name more (suc (length tw.between)) (names_of go.value) back) in
        let bad : true ≡ false = sym found_ ∙ acyclic tw.name go.type_ go.value (const_at tw.name go.type_ go.value go.entry) in cc

    -- ---- after n steps a constant stays as it is, or such a chain begins at it

    record IsSettled (k : ℕ) (t : Option TypeName) (x : Expr) : Type 0 where
      pub stays : (j : ℕ) → const_sense program ds (k + j) t x ≡ const_sense program ds k t x
      pub unbroken : IsUnbroken (Some (const_sense program ds k t x))

    record StaysName (k : ℕ) (sense : ℕ → Option Sense) : Type 0 where
      pub stays : (j : ℕ) → sense (k + j) ≡ sense k
      pub unbroken : IsUnbroken (sense k)

    abbrev Stays : ℕ → Ident → Type 0
    Stays k i = StaysName k (λ m. names_in m i.name)

    each_stays : (k j : ℕ) (is : List Ident) → EachName (Stays k) is → EachName (λ i. names_in (k + j) i.name ≡ names_in k i.name) is
    each_stays k j [] h = tt
    each_stays k j (i ∷ is) h = (h.0.stays j, each_stays k j is h.1)

    each_unbroken : (k : ℕ) (is : List Ident) → EachName (Stays k) is → EachName (λ i. IsUnbroken (names_in k i.name)) is
    each_unbroken k [] h = tt
    each_unbroken k (i ∷ is) h = (h.0.unbroken, each_unbroken k is h.1)

    module _ (k : ℕ) (x : Expr) (each : EachName (Stays k) (expr_names values_alone x)) where
      same_judged : (j : ℕ) → expr_type knowns (names_in (k + j)) x ≡ expr_type knowns (names_in k) x
      same_judged j = judged_same knowns (names_in (k + j)) (names_in k) (types_same (k + j) k) x (each_stays k j (expr_names values_alone x) each)

      same_wanted : (j : ℕ) (o : Option Width) → wanted knowns (names_in (k + j)) o x ≡ wanted knowns (names_in k) o x
      same_wanted j o = ap (λ t. with_ok t (as_wanted o x.token)) (same_judged j)

      same_or : (j : ℕ) (w : Width) (o : Option Alone) → alone_or knowns (names_in (k + j)) w x o ≡ alone_or knowns (names_in k) w x o
      same_or j w (Some a) = refl
      same_or j w None = same_wanted j (Some w)

      same_alone : (j : ℕ) (o : Option Width) → number_alone (names_in (k + j)) o x ≡ number_alone (names_in k) o x
      same_alone j None = ap (λ t. with_ok t (as_number x.token)) (same_wanted j None)
      same_alone j (Some w) = ap (λ t. with_ok t (as_number x.token)) (same_or j w (alone x.form))

      same_typed : (j : ℕ) (o : Option Width) → typed_sense (names_in (k + j)) x o ≡ typed_sense (names_in k) x o
      same_typed j (Some w) = ap (valued w) (same_alone j (Some w))
      same_typed j None = refl

      same_next : (j : ℕ) (t : Option TypeName) → const_sense program ds (suc (k + j)) t x ≡ const_sense program ds (suc k) t x
      same_next j None = ap (untyped_sense x.token) (same_wanted j None)
      same_next j (Some t) = same_typed j (width_in ds t)

      -- it breaks no rule with the names of the unit, so it breaks none here, and is a number
      module _ (few : k ≤ suc (length ds)) where
        number_there : (o : Option Width) → number_alone_spots (unit_senses program ds) o x ≡ [] → (a : ℕ) × (number_alone (names_in k) o x ≡ Ok a)
        number_there o free =
            let rest : k + (suc (length ds) - k) ≡ suc (length ds) = omega arith in
            let here : spots (number_alone (names_in (k + (suc (length ds) - k))) o x) ≡ [] =
            subst (λ m. spots (number_alone (names_in m) o x) ≡ []) (sym rest) (no_left (spots (number_alone (unit_senses program ds) o x)) (inner_spots (unit_senses program ds) x) free) in
            whole_ok (λ n. Unit {0}) (number_alone (names_in k) o x)
            (whole_with (BitsWhole knowns) (λ n. Unit {0}) (wanted_alone knowns (names_in k) o x) (as_number x.token)
            (wanted_alone_whole knowns (names_in k) (steps_wide program ds none k) o x (each_unbroken k (expr_names values_alone x) each))
            (λ b present. as_number_whole x.token b.width b.value present))
            (sym (ap spots (same_alone (suc (length ds) - k) o)) ∙ here)

        typed_next : (t : TypeName) (o : Option Width) → width_in ds t ≡ o → type_spots (unit_senses program ds) t ≡ [] → number_alone_spots (unit_senses program ds) (if_ok (type_width (unit_senses program ds) t)) x ≡ [] →
            IsUnbroken (Some (typed_sense (names_in k) x o))
        typed_next t (Some w) is good free =
            let n = number_there (Some w) (subst (λ o. number_alone_spots (unit_senses program ds) o x ≡ []) (width_agrees (suc (length ds)) t w is) free) in
            valued_unbroken w (number_alone (names_in k) (Some w) x) n.0 n.1
        typed_next t None is good free = absurd (type_wide program ds none t good is)

        next_unbroken : (t : Option TypeName) → const_spots (unit_senses program ds) t x ≡ [] → IsUnbroken (Some (const_sense program ds (suc k) t x))
        next_unbroken None free = let n = number_there None free in untyped_unbroken x.token (wanted knowns (names_in k) None x) n.0 n.1
        next_unbroken (Some t) free = typed_next t (width_in ds t) refl (no_left (type_spots (unit_senses program ds) t) _ free) (no_right (type_spots (unit_senses program ds) t) _ free)

    -- by what a name of the expression is declared as
    record Leads (k : ℕ) (name : Name) : Type 0 where
      pub type_ : Option TypeName
      pub value : Expr
      pub entry : entry_of name ds ≡ Some (Const type_ value)
      pub key : is_key name (keys_of ds) ≡ true
      pub long : IsLong k value

    imported_unbroken : (h : Option Host) (c : Constant) → IsUnbroken (Some (elim h as (λ x. Sense) [ Some x ↦ meanings.Host x | None ↦ meanings.Value c ]))
    imported_unbroken (Some x) c = tt
    imported_unbroken None c = tt

    settled_name : (k : ℕ) (name : Name) (t : Option TypeName) (x : Expr) → IsSettled k t x →
        StaysName k (λ m. meant program ds (const_sense program ds m) name None (Some (Const t x)))
    settled_name k name t x s = record { stays = λ j. ap Some (s.stays j); unbroken = s.unbroken }

    by_entry : (k : ℕ) (name : Name) (h : Option Host) (o : Option Entry) → host_named name ≡ h → found name ds ≡ o →
        ((t : Option TypeName) (x : Expr) → entry_of name ds ≡ Some (Const t x) → IsSettled k t x ⊎ IsLong k x) →
        StaysName k (λ m. meant program ds (const_sense program ds m) name h o) ⊎ Leads k name
    by_entry k name (Some x) o host is each = inl (record { stays = λ j. refl; unbroken = tt })
    by_entry k name None None host is each = inl (record { stays = λ j. refl; unbroken = tt })
    by_entry k name None (Some (Typedef t)) host is each = inl (record { stays = λ j. refl; unbroken = tt })
    by_entry k name None (Some (Register t)) host is each = inl (record { stays = λ j. refl; unbroken = tt })
    by_entry k name None (Some (Import link)) host is each = inl (record { stays = λ j. refl; unbroken = imported_unbroken (host_named link) _ })
    by_entry k name None (Some (DataLabel n)) host is each = inl (record { stays = λ j. refl; unbroken = tt })
    by_entry k name None (Some (Procedure n p)) host is each = inl (record { stays = λ j. refl; unbroken = tt })
    by_entry k name None (Some (Const t x)) host is each = let entry = entry_by program ds name (Const t x) host is in
        elim (each t x entry) [
          | inl settled ↦ inl (settled_name k name t x settled)
          | inr long ↦ inr (record { type_ = t; value = x; entry = entry; key = found_key name (Const t x) ds is; long = long })
        ]

    -- of the names of an expression, all stay or one leads on
    record SomeLeads (k : ℕ) (is : List Ident) : Type 0 where
      pub name : Name
      pub among : is_key name (map (λ i. i.name) is) ≡ true
      pub leads : Leads k name

    each_name : (k : ℕ) (is : List Ident) → ((i : Ident) → Stays k i ⊎ Leads k i.name) → EachName (Stays k) is ⊎ SomeLeads k is
    each_name k [] each = inl tt
    each_name k (i ∷ is) each = elim (each i) [
      | inl stays ↦ elim (each_name k is each) [
        | inl rest ↦ inl (stays, rest)
        | inr some ↦ inr (record { name = some.name; among = or_right (bytes_eq some.name i.name) (is_key some.name (map (λ j. j.name) is)) some.among; leads = some.leads })
      ]
      | inr leads ↦ inr (record { name = i.name; among = or_left (bytes_eq i.name i.name) (is_key i.name (map (λ j. j.name) is)) (same_name i.name); leads = leads })
    ]

    settled : (k : ℕ) → k ≤ suc (length ds) → (name : Name) (t : Option TypeName) (x : Expr) → entry_of name ds ≡ Some (Const t x) → IsSettled k t x ⊎ IsLong k x
    settled zero few name t x is = inr (record { names = []; many = refl; keys = tt; chain = tt })
    settled (suc k) few name t x is =
        let fewer : k ≤ suc (length ds) = omega arith in
        elim (each_name k (expr_names values_alone x) (λ i. by_entry k i.name (host_named i.name) (found i.name ds) refl refl (λ u y. settled k fewer i.name u y))) [
          | inl each ↦ inl (record {
            stays = λ j. subst (λ m. const_sense program ds m t x ≡ const_sense program ds (suc k) t x) (let e : suc (k + j) ≡ suc k + j = omega arith in e) (same_next k x each j t);
            unbroken = next_unbroken k x each fewer t (no_left (const_spots (unit_senses program ds) t x) _ (const_at name t x is).nothing);
          })
          | inr some ↦ inr (record {
            names = some.name ∷ some.leads.long.names;
            many = ap suc some.leads.long.many;
            keys = (some.leads.key, some.leads.long.keys);
            chain = (some.among, (some.leads.type_, (some.leads.value, (some.leads.entry, some.leads.long.chain))));
          })
        ]

    const_unbroken : (name : Name) (t : Option TypeName) (x : Expr) → entry_of name ds ≡ Some (Const t x) → IsUnbroken (Some (const_sense program ds (suc (length ds)) t x))
    const_unbroken name t x is = elim (settled (suc (length ds)) (omega arith) name t x is) [ inl s ↦ s.unbroken | inr long ↦ absurd (never_long x long) ]

    by_declared : (name : Name) (h : Option Host) (o : Option Entry) → host_named name ≡ h → found name ds ≡ o →
        IsUnbroken (meant program ds (const_sense program ds (suc (length ds))) name h o)
    by_declared name (Some x) o host is = tt
    by_declared name None None host is = tt
    by_declared name None (Some (Typedef t)) host is = tt
    by_declared name None (Some (Const t x)) host is = const_unbroken name t x (entry_by program ds name (Const t x) host is)
    by_declared name None (Some (Register t)) host is = tt
    by_declared name None (Some (Import link)) host is = imported_unbroken (host_named link) _
    by_declared name None (Some (DataLabel n)) host is = tt
    by_declared name None (Some (Procedure n p)) host is = tt

    -- no name of a unit that keeps the rules is a broken constant
    pub unit_unbroken : (name : Name) → IsUnbroken (unit_senses program ds name)
    unit_unbroken name = by_declared name (host_named name) (found name ds) refl refl
