-- A constant hangs on those alone that it waits for; and where one of those is broken, so is it.
use Rattle.std.proofs.Common.{◌≡◌, ℕ, ◌==◌, Bool, true, false, ◌||◌, List, [], ◌∷◌, ◌++◌, Option, Some, None, Ok, Err, option_map, refl, sym, ◌∙◌, ap, subst, ◌⊎◌, inl, inr}
use Rattle.std.specs.Prelude.{option_and_then}
use Rattle.std.proofs.lemmas.Bool.{or_cases, eqb-true}
use Rattle.cmm_words.specs.declared.width.Width.{Width}
use Rattle.cmm_ast.specs.declared.token.Ident.{Ident}
use Rattle.cmm_ast.specs.declared.expression.Expr.{Expr}
use Rattle.cmm_ast.specs.declared.expression.ExprForm.{ExprForm, more_of-Expr}
use Rattle.cmm_ast.specs.declared.expression.ExprForm.TheVariants.{Infix', Prefix', Prim, Memory as InMemory, Named'}
use Rattle.cmm_ast.specs.declared.expression.Prefix.TheVariants.{Negate, Complement}
use Rattle.cmm_ast.specs.declared.expression.PrimForm.{PrimForm}
use Rattle.cmm_ast.specs.declared.expression.PrimForm.TheVariants.{Literal, Name as NameOf, Bracketed'}
use Rattle.cmm_ast.specs.declared.expression.TypeName.{TypeName}
use Rattle.cmm_ast.specs.declared.expression.TypeForm.{TypeForm}
use Rattle.cmm_ast.specs.declared.expression.TypeForm.TheVariants.{Bits as OfBits, Named as OfName}
use Rattle.cmm_rules.specs.declared.rule.Rule.TheVariants.{Undeclared}
use Rattle.cmm_static_semantics.specs.declared.judged.Bits.{Bits}
use Rattle.cmm_static_semantics.specs.declared.known.Known.{Known}
use Rattle.cmm_static_semantics.specs.declared.sense.Host.{Host}
use Rattle.cmm_static_semantics.specs.declared.sense.Sense.{Sense}
use Rattle.cmm_static_semantics.specs.declared.sense.Sense.TheVariants as meanings
use Rattle.cmm_static_semantics.specs.Senses.{Senses, host_named, is_there}
use Rattle.cmm_static_semantics.specs.Judging.{Judged, faulty, with_ok, as_wanted}
use Rattle.cmm_static_semantics.specs.Algebras.{knowns}
use Rattle.cmm_static_semantics.specs.Mentions.{values_alone, form_names, row_names, prim_names, expr_names, listed}
use Rattle.cmm_static_semantics.specs.Typing.{typedef_width, type_width, wanted}
use Rattle.cmm_static_semantics.specs.Constants.{Alone, alone, prim_alone, form_alone, negative_alone, alone_or, as_number}
use Rattle.cmm_static_semantics.specs.Declarations.{Declared, Entry, Typedef, Const, Register, Import, DataLabel, Procedure, found}
use Rattle.cmm_static_semantics.specs.Scopes.{entry_sense, valued, untyped_sense, typed_sense, width_in}
use Rattle.cmm_static_semantics.specs.Linking.{Program}
use Rattle.cmm_digraph.specs.Graphs.{is_among}
use Rattle.cmm_digraph.proofs.Shared.{among_first, among_later}
use Rattle.cmm_symbols.specs.Numbering.{numbering, number_in}
use Rattle.cmm_unit_scope.specs.Depending.{mentioned_by}
use Rattle.cmm_unit_scope.proofs.Listed.{const_numbers}
use Rattle.cmm_unit_scope.specs.inside.Numbered.{numbers_in}
use Rattle.cmm_elaboration.proofs.Shared.{Holds, EachName, judged_same}
use Rattle.cmm_unit_scope.specs.inside.Evaluating.{declared_at, waits_for}
use Rattle.cmm_unit_scope.proofs.Outcomes.{Outcome, Number, Gone, sense_of, outcome_of, declared_sense, number_sense, senses_at, or_host, after, none_some}
use Rattle.cmm_unit_scope.proofs.Lacking.{SomeName, some_parts, no_rest, no_type, IsGone, Absent, BitsLack, wanted_is_lacking}

-- ---- a literal that stands alone names nothing

prim_alone_names : (P : Ident → Type 0) (token : ℕ) (prim : PrimForm) (value : ℕ) → prim_alone prim ≡ Some value → SomeName P (prim_names values_alone token prim) → ⊥
prim_alone_names P token (Literal n t) value is h = no_type P token n t h
prim_alone_names P token (NameOf name) value is h = none_some value is
prim_alone_names P token (Bracketed' _ row) value is h = none_some value is

form_alone_names : (P : Ident → Type 0) (token : ℕ) (form : ExprForm) (value : ℕ) → form_alone form ≡ Some value → SomeName P (form_names values_alone token form) → ⊥
form_alone_names P token (Prim prim) value is h = prim_alone_names P token prim value is h
form_alone_names P token (Infix' _ left o _ right) value is h = none_some value is
form_alone_names P token (Prefix' o _ a) value is h = none_some value is
form_alone_names P token (InMemory m) value is h = none_some value is
form_alone_names P token (Named' o _ given) value is h = none_some value is

prim_by : (P : Ident → Type 0) (token : ℕ) (prim : PrimForm) (o : Option ℕ) (a : Alone) → prim_alone prim ≡ o → alone (Prim prim) ≡ Some a → SomeName P (prim_names values_alone token prim) → ⊥
prim_by P token prim (Some value) a e is h = prim_alone_names P token prim value e h
prim_by P token (Literal n t) None a e is h = no_type P token n t h
prim_by P token (NameOf name) None a e is h = none_some a is
prim_by P token (Bracketed' _ row) None a e is h = none_some a is

negative_by : (P : Ident → Type 0) (own token : ℕ) (form : ExprForm) (o : Option ℕ) (a : Alone) → form_alone form ≡ o → negative_alone own o ≡ Some a →
    SomeName P (form_names values_alone token form) → ⊥
negative_by P own token form (Some value) a e is h = form_alone_names P token form value e h
negative_by P own token form None a e is h = none_some a is

alone_names : (P : Ident → Type 0) (token : ℕ) (form : ExprForm) (a : Alone) → alone form ≡ Some a → SomeName P (form_names values_alone token form) → ⊥
alone_names P token (Prim prim) a is h = prim_by P token prim (prim_alone prim) a refl is h
alone_names P token (Prefix' Negate _ (more_of-Expr own form rest)) a is h =
    elim (some_parts P (form_names values_alone own form) (row_names values_alone rest) h) [
      | inl first ↦ negative_by P own own form (form_alone form) a refl is first
      | inr later ↦ no_rest P rest later
    ]
alone_names P token (Prefix' Complement _ row) a is h = none_some a is
alone_names P token (Infix' _ left o _ right) a is h = none_some a is
alone_names P token (InMemory m) a is h = none_some a is
alone_names P token (Named' o _ given) a is h = none_some a is

-- ---- a constant that names a broken one

by_number : (token : ℕ) (x : Option Known) (w width : Width) → Absent false x → valued width (as_number token (record { width = w; value = x })) ≡ meanings.Broken (Some width)
by_number token (Some k) w width h = absurd h
by_number token None w width h = refl

lacking_number : (token : ℕ) (width : Width) (j : Judged (Bits Known)) → Holds (BitsLack false knowns) j → valued width (with_ok j (as_number token)) ≡ meanings.Broken (Some width)
lacking_number token width (Ok x) h = by_number token x.value x.width width h
lacking_number token width (Err broken) h = refl

module _ (names : Senses) (e : Expr) where
  typed_or : (h : SomeName (λ i. IsGone false (names i.name)) (expr_names values_alone e)) (width : Width) (o : Option Alone) → alone e.form ≡ o →
      valued width (with_ok (alone_or knowns names width e o) (as_number e.token)) ≡ meanings.Broken (Some width)
  typed_or h width (Some a) is = absurd (alone_names (λ i. IsGone false (names i.name)) e.token e.form a is h)
  typed_or h width None is = lacking_number e.token width (wanted knowns names (Some width) e) (wanted_is_lacking false knowns names (Some width) e h)

  -- with a type it has its width alone
  pub typed_gone : (width : Option Width) → SomeName (λ i. IsGone false (names i.name)) (expr_names values_alone e) → typed_sense names e width ≡ meanings.Broken width
  typed_gone (Some width) h = typed_or h width (alone e.form) refl
  typed_gone None h = refl

  untyped_lacks : (j : Judged (Bits Known)) → Holds (BitsLack false knowns) j → IsGone false (Some (untyped_sense e.token j))
  untyped_lacks (Ok x) h = let gone = by_number e.token x.value x.width x.width h in let P : Sense → Type 0 = λ s. IsGone false (Some s) in subst P (sym gone) tt
  untyped_lacks (Err broken) h = tt

  -- without a type it is broken
  pub untyped_gone : SomeName (λ i. IsGone false (names i.name)) (expr_names values_alone e) → IsGone false (Some (untyped_sense e.token (wanted knowns names None e)))
  untyped_gone h = untyped_lacks (wanted knowns names None e) (wanted_is_lacking false knowns names None e h)

  hard_absent : {A : Type 0} (x : Option A) → Absent true x → ⊥
  hard_absent (Some k) h = h
  hard_absent None h = h

  untyped_breaks : (j : Judged (Bits Known)) → Holds (BitsLack true knowns) j → untyped_sense e.token j ≡ meanings.Broken None
  untyped_breaks (Ok x) h = absurd (hard_absent x.value h)
  untyped_breaks (Err broken) h = refl

  -- and without a width too, where the other has none
  pub untyped_nothing : SomeName (λ i. IsGone true (names i.name)) (expr_names values_alone e) → untyped_sense e.token (wanted knowns names None e) ≡ meanings.Broken None
  untyped_nothing h = untyped_breaks (wanted knowns names None e) (wanted_is_lacking true knowns names None e h)

-- ---- names by numbers

number_own : (numbers : List (Declared ℕ)) (name : List ℕ) → host_named name ≡ None → number_in numbers name ≡ found name numbers
number_own numbers name none = ap (λ (h : Option Host). elim (is_there h) as (λ _. Option ℕ) [ true ↦ None | false ↦ found name numbers ]) none

number_host : (numbers : List (Declared ℕ)) (name : List ℕ) (h : Host) → host_named name ≡ Some h → number_in numbers name ≡ None
number_host numbers name h is = ap (λ (h : Option Host). elim (is_there h) as (λ _. Option ℕ) [ true ↦ None | false ↦ found name numbers ]) is

among_own : (o : Option ℕ) (j : ℕ) (rest : List ℕ) → o ≡ Some j → is_among j (listed o ++ rest) ≡ true
among_own o j rest is = ap (λ (p : Option ℕ). is_among j (listed p ++ rest)) is ∙ among_first j rest

among_rest : (o : Option ℕ) (m : ℕ) (rest : List ℕ) → is_among m rest ≡ true → is_among m (listed o ++ rest) ≡ true
among_rest None m rest h = h
among_rest (Some j) m rest h = among_later m j rest h

-- a constant with a number
pub record IsConst (ds : List (Declared Entry)) (m : ℕ) : Type 0 where
  pub decl : Declared Entry
  pub at_ : declared_at ds m ≡ Some decl
  pub type_ : Option TypeName
  pub value : Expr
  pub is : decl.as_what ≡ Const type_ value

module _ (program : Program) (ds : List (Declared Entry)) where
  -- ---- types

  outcome_no_type : (token : ℕ) (o : Outcome) → typedef_width token (Some (sense_of o)) ≡ faulty Undeclared token
  outcome_no_type token (Number value width) = refl
  outcome_no_type token (Gone width) = refl

  entry_type : (token : ℕ) (o p : Outcome) (name : List ℕ) (e : Entry) →
      typedef_width token (Some (entry_sense program ds (λ t x. sense_of o) name e)) ≡ typedef_width token (Some (entry_sense program ds (λ t x. sense_of p) name e))
  entry_type token o p name (Const t e) = outcome_no_type token o ∙ sym (outcome_no_type token p)
  entry_type token o p name (Typedef t) = refl
  entry_type token o p name (Register t) = refl
  entry_type token o p name (Import link) = refl
  entry_type token o p name (DataLabel n) = refl
  entry_type token o p name (Procedure n q) = refl

  declared_type : (token : ℕ) (o p : Outcome) (d : Option (Declared Entry)) → typedef_width token (option_map (declared_sense program ds o) d) ≡ typedef_width token (option_map (declared_sense program ds p) d)
  declared_type token o p None = refl
  declared_type token o p (Some d) = entry_type token o p d.name.name d.as_what

  module _ (w w' : ℕ → Outcome) where
    number_type : (token : ℕ) (o : Option ℕ) → typedef_width token (option_and_then (number_sense program ds w) o) ≡ typedef_width token (option_and_then (number_sense program ds w') o)
    number_type token None = refl
    number_type token (Some j) = declared_type token (w j) (w' j) (declared_at ds j)

    host_type : (token : ℕ) (h : Option Host) (o : Option ℕ) →
        typedef_width token (or_host h (option_and_then (number_sense program ds w) o))
        ≡ typedef_width token (or_host h (option_and_then (number_sense program ds w') o))
    host_type token (Some x) o = refl
    host_type token None o = number_type token o

    form_type_same : (token : ℕ) (f : TypeForm) → type_width (senses_at program ds w) (record { token = token; form = f }) ≡ type_width (senses_at program ds w') (record { token = token; form = f })
    form_type_same token (OfBits width) = refl
    form_type_same token (OfName name) = host_type token (host_named name) (found name (numbering ds))

    types_same : (t : TypeName) → type_width (senses_at program ds w) t ≡ type_width (senses_at program ds w') t
    types_same t = form_type_same t.token t.form

    -- ---- names of an expression

    abbrev SameAt : List ℕ → Type 0
    SameAt name = senses_at program ds w name ≡ senses_at program ds w' name

    name_same : (name : List ℕ) (h : Option Host) (o : Option ℕ) → host_named name ≡ h → found name (numbering ds) ≡ o → ((j : ℕ) → number_in (numbering ds) name ≡ Some j → w j ≡ w' j) →
        or_host h (option_and_then (number_sense program ds w) o)
        ≡ or_host h (option_and_then (number_sense program ds w') o)
    name_same name (Some x) o host is same = refl
    name_same name None None host is same = refl
    name_same name None (Some j) host is same = ap (λ (q : Outcome). option_map (declared_sense program ds q) (declared_at ds j)) (same j (number_own (numbering ds) name host ∙ is))

    each_same : (is : List Ident) → ((m : ℕ) → is_among m (numbers_in (numbering ds) is) ≡ true → w m ≡ w' m) → EachName (λ i. SameAt i.name) is
    each_same [] same = tt
    each_same (i ∷ is) same = (
      name_same i.name (host_named i.name) (found i.name (numbering ds)) refl refl
          (λ j e. same j (among_own (number_in (numbering ds) i.name) j (numbers_in (numbering ds) is) e)),
      each_same is (λ m h. same m (among_rest (number_in (numbering ds) i.name) m (numbers_in (numbering ds) is) h)),
    )

    module _ (e : Expr) (each : EachName (λ i. SameAt i.name) (expr_names values_alone e)) where
      wanted_same : (o : Option Width) → wanted knowns (senses_at program ds w) o e ≡ wanted knowns (senses_at program ds w') o e
      wanted_same o = ap (λ t. with_ok t (as_wanted o e.token)) (judged_same knowns (senses_at program ds w) (senses_at program ds w') types_same e each)

      or_same : (width : Width) (o : Option Alone) → alone_or knowns (senses_at program ds w) width e o ≡ alone_or knowns (senses_at program ds w') width e o
      or_same width (Some a) = refl
      or_same width None = wanted_same (Some width)

      typed_same : (o : Option Width) → typed_sense (senses_at program ds w) e o ≡ typed_sense (senses_at program ds w') e o
      typed_same None = refl
      typed_same (Some width) = ap (λ t. valued width (with_ok t (as_number e.token))) (or_same width (alone e.form))

    abbrev SameFor : List ℕ → Type 0
    SameFor ms = (m : ℕ) → is_among m ms ≡ true → w m ≡ w' m

    named_same : (t : Option TypeName) (e : Expr) → SameFor (mentioned_by (numbering ds) (Some (Const t e))) → EachName (λ i. SameAt i.name) (expr_names values_alone e)
    named_same t e same = each_same (expr_names values_alone e) (λ m h. same m (ap (is_among m) (const_numbers (numbering ds) e) ∙ h))

    or_width : (cyclic : Bool) (t : TypeName) (e : Expr) → SameFor (waits_for cyclic (Const (Some t) e) (mentioned_by (numbering ds) (Some (Const (Some t) e)))) →
        after program ds cyclic w (Const (Some t) e) ≡ after program ds cyclic w' (Const (Some t) e)
    or_width true t e same = refl
    or_width false t e same = ap outcome_of (typed_same e (named_same (Some t) e same) (width_in ds t))

    -- what a constant comes to hangs on what it waits for
    pub entry_local : (cyclic : Bool) (e : Entry) → SameFor (waits_for cyclic e (mentioned_by (numbering ds) (Some e))) → after program ds cyclic w e ≡ after program ds cyclic w' e
    entry_local cyclic (Const None e) same = ap (λ j. outcome_of (untyped_sense e.token j)) (wanted_same e (named_same None e same) None)
    entry_local cyclic (Const (Some t) e) same = or_width cyclic t e same
    entry_local cyclic (Typedef t) same = refl
    entry_local cyclic (Register t) same = refl
    entry_local cyclic (Import link) same = refl
    entry_local cyclic (DataLabel n) same = refl
    entry_local cyclic (Procedure n p) same = refl

  -- ---- a name of a broken constant

  module _ (hard : Bool) (w : ℕ → Outcome) (m : ℕ) (const : IsConst ds m) (gone : IsGone hard (Some (sense_of (w m)))) where
    abbrev GoneName : List ℕ → Type 0
    GoneName name = IsGone hard (senses_at program ds w name)

    const_sense_is : number_sense program ds w m ≡ Some (sense_of (w m))
    const_sense_is =
        ap (option_map (declared_sense program ds (w m))) const.at_
        ∙ ap (λ (e : Entry). Some (entry_sense program ds (λ t x. sense_of (w m)) const.decl.name.name e)) const.is

    name_gone : (name : List ℕ) → host_named name ≡ None → found name (numbering ds) ≡ Some m → GoneName name
    name_gone name host is =
        let e : senses_at program ds w name ≡ Some (sense_of (w m)) =
        ap (λ (h : Option Host). or_host h (option_and_then (number_sense program ds w) (found name (numbering ds)))) host
        ∙ ap (option_and_then (number_sense program ds w)) is ∙ const_sense_is in
        let P : Option Sense → Type 0 = λ s. IsGone hard s in
        subst P (sym e) gone

    abbrev Among : Option ℕ → List ℕ → Type 0
    Among o rest = is_among m (listed o ++ rest) ≡ true

    first_or : (name : List ℕ) (h : Option Host) (o : Option ℕ) (rest : List ℕ) → host_named name ≡ h → found name (numbering ds) ≡ o → Among (number_in (numbering ds) name) rest →
        GoneName name ⊎ (is_among m rest ≡ true)
    first_or name (Some x) o rest host is h = inr (ap (λ (p : Option ℕ). is_among m (listed p ++ rest)) (sym (number_host (numbering ds) name x host)) ∙ h)
    first_or name None None rest host is h = inr (ap (λ (p : Option ℕ). is_among m (listed p ++ rest)) (sym (number_own (numbering ds) name host ∙ is)) ∙ h)
    first_or name None (Some j) rest host is h =
        let g : ((j == m) || is_among m rest) ≡ true = ap (λ (p : Option ℕ). is_among m (listed p ++ rest)) (sym (number_own (numbering ds) name host ∙ is)) ∙ h in
        elim (or_cases (j == m) (is_among m rest) g) [
          | inl same ↦ inl (name_gone name host (is ∙ ap (λ (n : ℕ). Some n) (eqb-true j m same)))
          | inr later ↦ inr later
        ]

    some_gone : (is : List Ident) → is_among m (numbers_in (numbering ds) is) ≡ true → SomeName (λ i. GoneName i.name) is
    some_gone [] h = cc
    some_gone (i ∷ is) h =
        elim (first_or i.name (host_named i.name) (found i.name (numbering ds)) (numbers_in (numbering ds) is) refl refl h) [
          | inl here ↦ inl here
          | inr there ↦ inr (some_gone is there)
        ]

    pub named_gone : (t : Option TypeName) (e : Expr) → is_among m (mentioned_by (numbering ds) (Some (Const t e))) ≡ true → SomeName (λ i. GoneName i.name) (expr_names values_alone e)
    named_gone t e h = some_gone (expr_names values_alone e) (ap (is_among m) (sym (const_numbers (numbering ds) e)) ∙ h)
