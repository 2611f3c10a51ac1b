-- Where each name is declared once, those that pass a test are numbered in their order.
use Rattle.std.proofs.Common.{◌≡◌, ℕ, suc, ◌+◌, refl, sym, ap, ◌∙◌, subst, List, [], ◌∷◌, ◌++◌, append_assoc, append-nil, arith, Bool, true, false, Option, Some, None}
use Rattle.std.specs.Prelude.{flat_map, not, bytes_eq}
use Rattle.std.specs.List.{range_with_len}
use Rattle.std.proofs.lemmas.Grind.{flat_map-append}
use Rattle.std.proofs.lemmas.Slice.Eq.{bytes_eq-Decides}
use Rattle.std.proofs.lemmas.Bool.Decides.{nat_tests}
use Rattle.cmm_rules.specs.declared.rule.Rule.TheVariants.{DeclaredTwice}
use Rattle.cmm_ast.specs.declared.statement.Part.{Part}
use Rattle.cmm_program.specs.declared.statement.Form.{Form}
use Rattle.cmm_static_semantics.specs.Spots.{unless}
use Rattle.cmm_static_semantics.specs.Senses.{is_there}
use Rattle.cmm_static_semantics.specs.Declarations.{Declared, Local, found, number_in, again, part_names}
use Rattle.cmm_static_semantics.specs.Scopes.{Scope}
use Rattle.cmm_static_semantics.specs.Limits.{sites_of}
use Rattle.cmm_elaboration.specs.Bodies.{part_of}
use Rattle.cmm_elaboration.proofs.Flat.{flat_from}
use Rattle.cmm_elaboration.proofs.Counting.{numbers_in}
use Rattle.cmm_elaboration.proofs.Nothing.{no_left, no_right, no_unless}
use Rattle.cmm_elaboration.proofs.Ranges.{range_append}

-- how many declarations pass a test
abbrev pub how_many : {A : Type 0} → (A → Bool) → List (Declared A) → ℕ
how_many test [] = 0
how_many test (d ∷ ds) = elim (test d.as_what) [ true ↦ suc (how_many test ds) | false ↦ how_many test ds ]

one_more_of : (b : Bool) (m n : ℕ) → elim b [ true ↦ suc (m + n) | false ↦ m + n ] ≡ elim b [ true ↦ suc m | false ↦ m ] + n
one_more_of true m n = omega arith
one_more_of false m n = refl

pub how_many_append : {A : Type 0} (test : A → Bool) (xs ys : List (Declared A)) → how_many test (xs ++ ys) ≡ how_many test xs + how_many test ys
how_many_append test [] ys = let e : how_many test ys ≡ 0 + how_many test ys = omega arith in e
how_many_append test (x ∷ xs) ys =
    ap (λ n. elim (test x.as_what) [ true ↦ suc n | false ↦ n ]) (how_many_append test xs ys) ∙ one_more_of (test x.as_what) (how_many test xs) (how_many test ys)

-- ---- the number of a name that is declared once

number_past : {A : Type 0} (b t : Bool) (x : A) (o : Option A) (m n : ℕ) → ◌≡◌ {A = Option A} (elim b [ true ↦ Some x | false ↦ o ]) None → (o ≡ None → m ≡ n) →
    ◌≡◌ {A = ℕ} (elim b [ true ↦ 0 | false ↦ elim t [ true ↦ suc m | false ↦ m ] ]) (elim t [ true ↦ suc n | false ↦ n ])
number_past true t x o m n none same = absurd (let bad : Some x ≡ None = none in cc)
number_past false true x o m n none same = ap suc (same none)
number_past false false x o m n none same = same none

pub same_name : (name : List ℕ) → bytes_eq name name ≡ true
same_name name = grind (arith, nat_tests, bytes_eq-Decides name name)

-- a name stands behind others as the first of its kind
pub number_here : {A : Type 0} (test : A → Bool) (d : Declared A) (earlier rest : List (Declared A)) → found d.name.name earlier ≡ None →
    number_in test d.name.name (earlier ++ d ∷ rest) ≡ how_many test earlier
number_here test d [] rest none =
    ap (λ b. elim b [ true ↦ 0 | false ↦ elim (test d.as_what) [ true ↦ suc (number_in test d.name.name rest) | false ↦ number_in test d.name.name rest ] ]) (same_name d.name.name)
number_here test d (e ∷ es) rest none =
    number_past (bytes_eq d.name.name e.name.name) (test e.as_what) e.as_what (found d.name.name es) (number_in test d.name.name (es ++ d ∷ rest)) (how_many test es)
    none (number_here test d es rest)

-- ---- what is declared once

is_none : {A : Type 0} (o : Option A) → not (is_there o) ≡ true → o ≡ None
is_none None e = refl
is_none (Some a) e = cc

pub again_head : {A : Type 0} (earlier : List (Declared A)) (d : Declared A) (ds : List (Declared A)) → again earlier (d ∷ ds) ≡ [] → found d.name.name earlier ≡ None
again_head earlier d ds e = let test = not (is_there (found d.name.name earlier)) in
    is_none (found d.name.name earlier) (no_unless test DeclaredTwice d.name.token (no_left (unless test DeclaredTwice d.name.token) (again (earlier ++ d ∷ []) ds) e))

pub again_tail : {A : Type 0} (earlier : List (Declared A)) (d : Declared A) (ds : List (Declared A)) → again earlier (d ∷ ds) ≡ [] → again (earlier ++ d ∷ []) ds ≡ []
again_tail earlier d ds e = let test = not (is_there (found d.name.name earlier)) in
    no_right (unless test DeclaredTwice d.name.token) (again (earlier ++ d ∷ []) ds) e

pub again_rest : {A : Type 0} (earlier xs ys : List (Declared A)) → again earlier (xs ++ ys) ≡ [] → again (earlier ++ xs) ys ≡ []
again_rest earlier [] ys e = subst (λ zs. again zs ys ≡ []) (sym (append-nil earlier)) e
again_rest earlier (x ∷ xs) ys e =
    subst (λ zs. again zs ys ≡ []) (append_assoc earlier (x ∷ []) xs) (again_rest (earlier ++ x ∷ []) xs ys (again_tail earlier x (xs ++ ys) e))

-- ---- the numbers that a kind of statement has

-- a part declares nothing of the kind and its statement has no number, or it declares one name, which its statement has the number of
pub data IsNumbering (test : Local → Bool) (names : List (Declared Local)) (own : List (Declared Local)) (numbers : List ℕ) : Type 0 where
  WithNone : how_many test names ≡ 0 → numbers ≡ [] → IsNumbering test names own numbers
  WithOne : (d : Declared Local) → names ≡ d ∷ [] → test d.as_what ≡ true → numbers ≡ number_in test d.name.name own ∷ [] → IsNumbering test names own numbers

module _ (test : Local → Bool) (number : Form → List ℕ) (s : Scope)
    (each : (n : ℕ) (p : Part) → IsNumbering test (part_names p) s.own (numbers_in number (part_of s n p))) where
  part_numbers : (names own earlier rest : List (Declared Local)) (numbers : List ℕ) → IsNumbering test names own numbers →
      own ≡ earlier ++ (names ++ rest) → again earlier (names ++ rest) ≡ [] → numbers ≡ range_with_len (how_many test earlier) (how_many test names)
  part_numbers names own earlier rest numbers (WithNone none empty) is once = rw (none, empty) refl
  part_numbers names own earlier rest numbers (WithOne d one passes has) is once =
      has ∙ ap (λ n. n ∷ []) (ap (number_in test d.name.name) (is ∙ ap (λ ns. earlier ++ (ns ++ rest)) one)
      ∙ number_here test d earlier rest (again_head earlier d rest (subst (λ ns. again earlier (ns ++ rest) ≡ []) one once)))
      ∙ sym (ap (λ ns. range_with_len (how_many test earlier) (how_many test ns)) one
      ∙ ap (λ b. range_with_len (how_many test earlier) (elim b [ true ↦ 1 | false ↦ 0 ])) passes)

  pub numbers_ascend : (n : ℕ) (earlier : List (Declared Local)) (ps : List Part) → s.own ≡ earlier ++ flat_map part_names ps → again earlier (flat_map part_names ps) ≡ [] →
      numbers_in number (flat_from s n ps) ≡ range_with_len (how_many test earlier) (how_many test (flat_map part_names ps))
  numbers_ascend n earlier [] is once = refl
  numbers_ascend n earlier (p ∷ ps) is once =
      let names = part_names p in let rest = flat_map part_names ps in
      flat_map-append (λ st. number st.form) (part_of s n p) (flat_from s (n + sites_of p) ps)
      ∙ ap (λ t. t ++ numbers_in number (flat_from s (n + sites_of p) ps)) (part_numbers names s.own earlier rest (numbers_in number (part_of s n p)) (each n p) is once)
      ∙ ap (λ t. range_with_len (how_many test earlier) (how_many test names) ++ t)
      (numbers_ascend (n + sites_of p) (earlier ++ names) ps (is ∙ sym (append_assoc earlier names rest)) (again_rest earlier names rest once)
      ∙ ap (λ m. range_with_len m (how_many test rest)) (how_many_append test earlier names))
      ∙ sym (range_append (how_many test earlier) (how_many test names) (how_many test rest))
      ∙ ap (range_with_len (how_many test earlier)) (sym (how_many_append test names rest))
