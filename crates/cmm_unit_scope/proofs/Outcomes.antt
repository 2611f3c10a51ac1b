-- What constants come to: a number of a width, or nothing, with a width where there is one.
use Rattle.std.proofs.Common.{◌≡◌, ℕ, zero, suc, Bool, true, false, List, [], ◌∷◌, map, Option, Some, None, Ok, Err, option_map, refl, sym, ◌∙◌, ap, subst}
use Rattle.std.specs.Prelude.{option_and_then, bytes_eq}
use Rattle.std.proofs.Math.Path.{fun_ext}
use Rattle.std.proofs.lemmas.Slice.Eq.{bytes_eq-Decides}
use Rattle.cmm_words.specs.declared.width.Width.{Width}
use Rattle.cmm_words.specs.declared.constant.Constant.TheVariants as constants
use Rattle.cmm_ast.specs.declared.expression.Expr.{Expr}
use Rattle.cmm_ast.specs.declared.expression.TypeName.{TypeName}
use Rattle.cmm_static_semantics.specs.declared.known.Known.{Known}
use Rattle.cmm_static_semantics.specs.declared.judged.Bits.{Bits}
use Rattle.cmm_static_semantics.specs.declared.sense.Host.{Host}
use Rattle.cmm_static_semantics.specs.declared.sense.Sense.{Sense}
use Rattle.cmm_static_semantics.specs.declared.sense.Sense.TheVariants as meanings
use Rattle.cmm_static_semantics.specs.Senses.{Senses, host_named}
use Rattle.cmm_static_semantics.specs.Judging.{Judged}
use Rattle.cmm_static_semantics.specs.Algebras.{knowns}
use Rattle.cmm_static_semantics.specs.Typing.{wanted}
use Rattle.cmm_static_semantics.specs.Constants.{as_number, number_alone}
use Rattle.cmm_static_semantics.specs.Declarations.{Declared, Entry, Typedef, Const, Register, Import, DataLabel, Procedure, found}
use Rattle.cmm_static_semantics.specs.Scopes.{senses_by, entry_sense, const_sense, valued, untyped_sense, typed_sense, width_in}
use Rattle.cmm_static_semantics.specs.Linking.{Program}
use Rattle.cmm_symbols.specs.Shown.{with_what}
use Rattle.cmm_symbols.proofs.Shared.{found_with}
use Rattle.cmm_symbols.specs.Numbering.{numbering}
use Rattle.cmm_unit_scope.specs.Numbers.{entry_at}
use Rattle.cmm_unit_scope.proofs.Numbering.{found_numbering}
use Rattle.cmm_digraph.proofs.Shared.{AreSteps}
use Rattle.cmm_unit_scope.specs.inside.Evaluating.{declared_at, sense_after}

pub data Outcome : Type 0 where
  Number : ℕ → Width → Outcome
  Gone : Option Width → Outcome

abbrev pub nothing : Outcome
nothing = Gone None

abbrev pub sense_of : Outcome → Sense
sense_of (Number value width) = meanings.Value (constants.Number value width)
sense_of (Gone width) = meanings.Broken width

abbrev pub outcome_of : Sense → Outcome
outcome_of (meanings.Value (constants.Number value width)) = Number value width
outcome_of (meanings.Value (constants.Code proc plus)) = nothing
outcome_of (meanings.Value (constants.Address label plus)) = nothing
outcome_of (meanings.Broken width) = Gone width
outcome_of (meanings.Variable n w) = nothing
outcome_of (meanings.Register n w) = nothing
outcome_of (meanings.Typedef w) = nothing
outcome_of (meanings.Stackdata n) = nothing
outcome_of (meanings.Continuation n) = nothing
outcome_of meanings.CodeLabel = nothing
outcome_of (meanings.Host h) = nothing

-- what a constant comes to; nothing else comes to anything
abbrev pub entry_outcome : Entry → Sense → Outcome
entry_outcome (Const t e) s = outcome_of s
entry_outcome (Typedef t) s = nothing
entry_outcome (Register t) s = nothing
entry_outcome (Import link) s = nothing
entry_outcome (DataLabel n) s = nothing
entry_outcome (Procedure n p) s = nothing

valued_exact : (width : Width) (j : Judged ℕ) → sense_of (outcome_of (valued width j)) ≡ valued width j
valued_exact width (Ok value) = refl
valued_exact width (Err broken) = refl

pub untyped_exact : (token : ℕ) (j : Judged (Bits Known)) → sense_of (outcome_of (untyped_sense token j)) ≡ untyped_sense token j
untyped_exact token (Ok x) = valued_exact x.width (as_number token x)
untyped_exact token (Err broken) = refl

pub typed_exact : (names : Senses) (e : Expr) (width : Option Width) → sense_of (outcome_of (typed_sense names e width)) ≡ typed_sense names e width
typed_exact names e (Some width) = valued_exact width (number_alone names (Some width) e)
typed_exact names e None = refl

-- ---- names, where constants come to something by their numbers

-- what a declaration means
abbrev pub declared_sense : Program → List (Declared Entry) → Outcome → Declared Entry → Sense
declared_sense program ds o d = entry_sense program ds (λ t e. sense_of o) d.name.name d.as_what

abbrev pub number_sense : Program → List (Declared Entry) → (ℕ → Outcome) → ℕ → Option Sense
number_sense program ds w j = option_map (declared_sense program ds (w j)) (declared_at ds j)

abbrev pub senses_at : Program → List (Declared Entry) → (ℕ → Outcome) → Senses
senses_at program ds w name = elim (host_named name) [ Some h ↦ Some (meanings.Host h) | None ↦ option_and_then (number_sense program ds w) (found name (numbering ds)) ]

-- what a name means: a procedure of the host, or else this
abbrev pub or_host : Option Host → Option Sense → Option Sense
or_host h s = elim h [ Some x ↦ Some (meanings.Host x) | None ↦ s ]

-- the first declaration of a name
pub record IsFirst (name : List ℕ) (ds : List (Declared Entry)) (j : ℕ) : Type 0 where
  pub decl : Declared Entry
  pub at_ : declared_at ds j ≡ Some decl
  pub named : name ≡ decl.name.name

pub none_some : {A : Type 0} (x : A) → None ≡ Some x → ⊥
none_some x e = cc

pub same_some : {A : Type 0} (x y : A) → Some x ≡ Some y → x ≡ y
same_some x y e = cc

pub first_at : (name : List ℕ) (ds : List (Declared Entry)) (j : ℕ) → found name (numbering ds) ≡ Some j → IsFirst name ds j
first_at name [] j e = absurd (none_some j e)
first_at name (d ∷ ds) j e = by (bytes_eq name d.name.name) refl e (λ i. λ f. first_at name ds i f)
  where
    later : (o : Option ℕ) → found name (numbering ds) ≡ o → option_map (λ n. suc n) o ≡ Some j → ((i : ℕ) → found name (numbering ds) ≡ Some i → IsFirst name ds i) → IsFirst name (d ∷ ds) j
    later None f is rest = absurd (none_some j is)
    later (Some i) f is rest =
        let r = rest i f in let next : suc i ≡ j = same_some (suc i) j is in
        subst (IsFirst name (d ∷ ds)) next (record { decl = r.decl; at_ = r.at_; named = r.named })

    by : (b : Bool) → bytes_eq name d.name.name ≡ b → elim b as (λ _. Option ℕ) [ true ↦ Some 0 | false ↦ found name (map (with_what (λ n. suc n)) (numbering ds)) ] ≡ Some j →
        ((i : ℕ) → found name (numbering ds) ≡ Some i → IsFirst name ds i) → IsFirst name (d ∷ ds) j
    by true same is rest = let first : 0 ≡ j = same_some 0 j is in subst (IsFirst name (d ∷ ds)) first (record { decl = d; at_ = refl; named = (bytes_eq-Decides name d.name.name).0 same })
    by false other is rest = later (found name (numbering ds)) refl (sym (found_with (λ n. suc n) name (numbering ds)) ∙ is) rest

pub entry_is : (ds : List (Declared Entry)) (j : ℕ) → entry_at ds j ≡ option_map (λ d. d.as_what) (declared_at ds j)
entry_is [] j = refl
entry_is (d ∷ ds) zero = refl
entry_is (d ∷ ds) (suc j) = entry_is ds j

-- ---- what constants come to in n steps

abbrev pub entry_in : Program → List (Declared Entry) → ℕ → Entry → Outcome
entry_in program ds c (Const t e) = outcome_of (const_sense program ds c t e)
entry_in program ds c (Typedef t) = nothing
entry_in program ds c (Register t) = nothing
entry_in program ds c (Import link) = nothing
entry_in program ds c (DataLabel n) = nothing
entry_in program ds c (Procedure n p) = nothing

abbrev pub of_declared : {A : Type 0} → A → (Entry → A) → Option (Declared Entry) → A
of_declared none f (Some d) = f d.as_what
of_declared none f None = none

abbrev pub value_in : Program → List (Declared Entry) → ℕ → ℕ → Outcome
value_in program ds c v = of_declared nothing (entry_in program ds c) (declared_at ds v)

abbrev pub after : Program → List (Declared Entry) → Bool → (ℕ → Outcome) → Entry → Outcome
after program ds cyclic w e = entry_outcome e (sense_after (senses_at program ds w) (width_in ds) cyclic (meanings.Broken None) e)

abbrev pub next : Program → List (Declared Entry) → (ℕ → Bool) → (ℕ → Outcome) → ℕ → Outcome
next program ds cyclic w v = of_declared nothing (after program ds (cyclic v) w) (declared_at ds v)

module _ (program : Program) (ds : List (Declared Entry)) where
  const_exact : (c : ℕ) (t : Option TypeName) (e : Expr) → sense_of (outcome_of (const_sense program ds c t e)) ≡ const_sense program ds c t e
  const_exact zero t e = refl
  const_exact (suc c) None e = untyped_exact e.token (wanted knowns (senses_by program ds (const_sense program ds c)) None e)
  const_exact (suc c) (Some t) e = typed_exact (senses_by program ds (const_sense program ds c)) e (width_in ds t)

  entry_exact : (c : ℕ) (name : List ℕ) (e : Entry) → entry_sense program ds (const_sense program ds c) name e ≡ entry_sense program ds (λ t x. sense_of (entry_in program ds c e)) name e
  entry_exact c name (Const t e) = sym (const_exact c t e)
  entry_exact c name (Typedef t) = refl
  entry_exact c name (Register t) = refl
  entry_exact c name (Import link) = refl
  entry_exact c name (DataLabel n) = refl
  entry_exact c name (Procedure n p) = refl

  abbrev meant : ℕ → List ℕ → Option Entry → Option Sense
  meant c name o = elim o [ Some e ↦ Some (entry_sense program ds (const_sense program ds c) name e) | None ↦ None ]

  by_first : (c : ℕ) (name : List ℕ) (j : ℕ) → found name (numbering ds) ≡ Some j → IsFirst name ds j → meant c name (found name ds) ≡ number_sense program ds (value_in program ds c) j
  by_first c name j f r =
      let entry : found name ds ≡ Some r.decl.as_what =
      sym (found_numbering name ds) ∙ ap (option_and_then (entry_at ds)) f ∙ entry_is ds j ∙ ap (option_map (λ (d : Declared Entry). d.as_what)) r.at_ in
      let value : entry_in program ds c r.decl.as_what ≡ value_in program ds c j = ap (of_declared nothing (entry_in program ds c)) (sym r.at_) in
      ap (meant c name) entry
      ∙ ap (λ (n : List ℕ). Some (entry_sense program ds (const_sense program ds c) n r.decl.as_what)) r.named
      ∙ ap (λ (s : Sense). Some s) (entry_exact c r.decl.name.name r.decl.as_what)
      ∙ ap (λ (o : Outcome). Some (declared_sense program ds o r.decl)) value
      ∙ ap (option_map (declared_sense program ds (value_in program ds c j))) (sym r.at_)

  by_number : (c : ℕ) (name : List ℕ) (o : Option ℕ) → found name (numbering ds) ≡ o → meant c name (found name ds) ≡ option_and_then (number_sense program ds (value_in program ds c)) o
  by_number c name None f = ap (meant c name) (sym (found_numbering name ds) ∙ ap (option_and_then (entry_at ds)) f)
  by_number c name (Some j) f = by_first c name j f (first_at name ds j f)

  -- the names of the definition are those by numbers
  pub names_in : (c : ℕ) (name : List ℕ) → senses_by program ds (const_sense program ds c) name ≡ senses_at program ds (value_in program ds c) name
  names_in c name = ap (or_host (host_named name)) (by_number c name (found name (numbering ds)) refl)

  all_names_in : (c : ℕ) → senses_by program ds (const_sense program ds c) ≡ senses_at program ds (value_in program ds c)
  all_names_in c = fun_ext (λ (name : List ℕ). names_in c name)

  entry_step : (c : ℕ) (e : Entry) → entry_in program ds (suc c) e ≡ after program ds false (value_in program ds c) e
  entry_step c (Const None e) = ap (λ (n : Senses). outcome_of (untyped_sense e.token (wanted knowns n None e))) (all_names_in c)
  entry_step c (Const (Some t) e) = ap (λ (n : Senses). outcome_of (typed_sense n e (width_in ds t))) (all_names_in c)
  entry_step c (Typedef t) = refl
  entry_step c (Register t) = refl
  entry_step c (Import link) = refl
  entry_step c (DataLabel n) = refl
  entry_step c (Procedure n p) = refl

  declared_step : (c : ℕ) (o : Option (Declared Entry)) → of_declared nothing (entry_in program ds (suc c)) o ≡ of_declared nothing (after program ds false (value_in program ds c)) o
  declared_step c None = refl
  declared_step c (Some d) = entry_step c d.as_what

  pub steps : AreSteps (next program ds (λ v. false)) (value_in program ds)
  steps c v = declared_step c (declared_at ds v)

  entry_begun : (e : Entry) → entry_in program ds 0 e ≡ nothing
  entry_begun (Const t e) = refl
  entry_begun (Typedef t) = refl
  entry_begun (Register t) = refl
  entry_begun (Import link) = refl
  entry_begun (DataLabel n) = refl
  entry_begun (Procedure n p) = refl

  declared_begun : (o : Option (Declared Entry)) → of_declared nothing (entry_in program ds 0) o ≡ nothing
  declared_begun None = refl
  declared_begun (Some d) = entry_begun d.as_what

  pub begun : (v : ℕ) → value_in program ds 0 v ≡ nothing
  begun v = declared_begun (declared_at ds v)
