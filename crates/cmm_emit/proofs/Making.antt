-- Contexts that are made one after another.
use Rattle.std.proofs.Common.{◌≡◌, ◌⊎◌, inl, inr, ℕ, zero, suc, ◌+◌, ◌<◌, refl, sym, ◌∙◌, ap, subst, arith, false, List, [], ◌∷◌, ◌++◌, append_assoc, Bool, true, get_or, length, length-append, take, Some, slice_get}
use Rattle.std.specs.Prelude.{replicate}
use Rattle.std.proofs.lemmas.Option.{slice_get-get_or}
use Rattle.rv_asm.specs.declared.part.Label.{Label}
use Rattle.rv_asm.specs.declared.part.Meaning.{Meaning}
use Rattle.rv_asm.specs.declared.part.Meaning.TheVariants.{Inner}
use Rattle.cmm_unit_code.specs.declared.unit_code.Reference.{Reference}
use Rattle.cmm_emit.specs.Labels.{symbol_labels}
use Rattle.cmm_emit.proofs.Numbering.{length-symbol_labels}
use Rattle.cmm_program.specs.declared.procedure.Proc.{Proc}
use Rattle.cmm_graph.specs.declared.graph.Graph.{Graph}
use Rattle.cmm_allocate.specs.declared.procedure.ProcedurePlaces.{ProcedurePlaces}
use Rattle.cmm_emit.specs.declared.context.Context.{Context}
use Rattle.cmm_emit.specs.Naming.{label_at}
use Rattle.cmm_emit.specs.Contexts.{IsMadeFor, entry_labels, first_label}

-- what is so of the first contexts
abbrev pub AreMadeBelow : ℕ → ℕ → List Proc → List Graph → List ProcedurePlaces → List Context → Type 0
AreMadeBelow count base qs gs ks made = (n : ℕ) (q : Proc) (g : Graph) (k : ProcedurePlaces) (p : Context) → n < count → slice_get qs n ≡ Some q → slice_get gs n ≡ Some g →
    slice_get ks n ≡ Some k → slice_get made n ≡ Some p → IsMadeFor q g k (first_label base qs gs n) p

pub last_or_before : {A : Type 0} (xs : List A) (x y : A) (n : ℕ) → slice_get (xs ++ x ∷ []) n ≡ Some y → n < suc (length xs) →
    ((n < length xs) × (slice_get xs n ≡ Some y)) ⊎ ((n ≡ length xs) × (x ≡ y))
last_or_before [] x y zero is less = inr (refl, cc)
last_or_before [] x y (suc n) is less = absurd (omega (arith, less))
last_or_before (z ∷ xs) x y zero is less = inl (omega arith, is)
last_or_before (z ∷ xs) x y (suc n) is less =
    elim (last_or_before xs x y n is (omega (arith, less))) [
      | inl before ↦ inl ((let h = before.0 in omega (arith, h)), before.1)
      | inr here ↦ inr ((let h = here.0 in omega (arith, h)), here.1)
    ]

some_same : {A : Type 0} {x y : A} → Some x ≡ Some y → x ≡ y
some_same e = cc

-- one context more
pub made_more : (base : ℕ) (qs : List Proc) (gs : List Graph) (ks : List ProcedurePlaces) (made : List Context) (x : Context) (q : Proc) (g : Graph) (k : ProcedurePlaces)
    (count : ℕ) → length made ≡ count → AreMadeBelow count base qs gs ks made → slice_get qs count ≡ Some q → slice_get gs count ≡ Some g → slice_get ks count ≡ Some k →
    IsMadeFor q g k (first_label base qs gs count) x → AreMadeBelow (count + 1) base qs gs ks (made ++ x ∷ [])
made_more base qs gs ks made x q g k count size below is_q is_g is_k is n q' g' k' p less at_q at_g at_k at_p =
    by (last_or_before made x p n at_p (omega (arith, less, size)))
  where
    by : ((n < length made) × (slice_get made n ≡ Some p)) ⊎ ((n ≡ length made) × (x ≡ p)) → IsMadeFor q' g' k' (first_label base qs gs n) p
    by (inl before) = below n q' g' k' p (let h = before.0 in omega (arith, h, size)) at_q at_g at_k before.1
    by (inr here) =
        let same : count ≡ n = sym size ∙ sym here.0 in
        let same_q : q ≡ q' = some_same (sym is_q ∙ (ap (λ (m : ℕ). slice_get qs m) same ∙ at_q)) in
        let same_g : g ≡ g' = some_same (sym is_g ∙ (ap (λ (m : ℕ). slice_get gs m) same ∙ at_g)) in
        let same_k : k ≡ k' = some_same (sym is_k ∙ (ap (λ (m : ℕ). slice_get ks m) same ∙ at_k)) in
        subst (λ (z : Context). IsMadeFor q' g' k' (first_label base qs gs n) z) here.1
        (subst (λ (m : ℕ). IsMadeFor q' g' k' (first_label base qs gs m) x) same
        (subst (λ (z : ProcedurePlaces). IsMadeFor q' g' z (first_label base qs gs count) x) same_k
        (subst (λ (z : Graph). IsMadeFor q' z k (first_label base qs gs count) x) same_g
        (subst (λ (z : Proc). IsMadeFor z g k (first_label base qs gs count) x) same_q is))))

pub replicate_both : (a b : ℕ) (x : Meaning) → replicate a x ++ replicate b x ≡ replicate (a + b) x
replicate_both zero b x = let e : 0 + b ≡ b = omega arith in rw e refl
replicate_both (suc a) b x = let e : suc a + b ≡ suc (a + b) = omega arith in rw e (ap (λ (xs : List Meaning). x ∷ xs) (replicate_both a b x))

-- the labels of the first procedures
pub entries_more : (ps : List Context) (gs : List Graph) (n : ℕ) (p : Context) (g : Graph) → slice_get ps n ≡ Some p → slice_get gs n ≡ Some g →
    entry_labels (take (n + 1) ps) (take (n + 1) gs) ≡ entry_labels (take n ps) (take n gs) ++ label_at p.nodes g.first.number ∷ []
entries_more [] gs n p g is also = absurd (cc)
entries_more (q ∷ ps) [] n p g is also = absurd (cc (also))
entries_more (q ∷ ps) (h ∷ gs) zero p g is also =
    let one : q ≡ p = cc in
    let two : h ≡ g = cc in
    ap (λ (z : Context). label_at z.nodes h.first.number ∷ []) one ∙ ap (λ (z : Graph). label_at p.nodes z.first.number ∷ []) two
entries_more (q ∷ ps) (h ∷ gs) (suc n) p g is also =
    let e : suc n + 1 ≡ suc (n + 1) = omega arith in
    rw e (ap (λ (ls : List Label). label_at q.nodes h.first.number ∷ ls) (entries_more ps gs n p g is also))

-- an element that was read is there
pub there_is : {A : Type 0} (xs : List A) (n : ℕ) (x : A) → n < length xs → x ≡ get_or xs n x → slice_get xs n ≡ Some x
there_is xs n x less is = slice_get-get_or xs n x less ∙ ap Some (sym is)

-- no labels come before the first procedure
pub first_none : (first : ℕ) (qs : List Proc) (gs : List Graph) → first_label first qs gs 0 ≡ first
first_none first [] gs = refl
first_none first (q ∷ qs) [] = refl
first_none first (q ∷ qs) (g ∷ gs) = refl

-- where they begin later, all come as much later
pub first_label_shift : (a b : ℕ) (qs : List Proc) (gs : List Graph) (n : ℕ) → first_label (a + b) qs gs n ≡ a + first_label b qs gs n
first_label_shift a b [] gs n = refl
first_label_shift a b (q ∷ qs) [] n = refl
first_label_shift a b (q ∷ qs) (g ∷ gs) zero = refl
first_label_shift a b (q ∷ qs) (g ∷ gs) (suc n) =
    let e : a + b + (length g.nodes + length q.sites) ≡ a + (b + (length g.nodes + length q.sites)) = omega arith in
    rw e (first_label_shift a (b + (length g.nodes + length q.sites)) qs gs n)

-- ---- the labels of a unit, in the order in which they are made

pub one_more_counted : (old new : List Meaning) → new ≡ old ++ Inner false ∷ [] → length new ≡ length old + 1
one_more_counted old new is = ap (λ (ms : List Meaning). length ms) is ∙ length-append old (Inner false ∷ [])

module _ (rs : List Reference) (t : ℕ) (l1 l2 l3 l4 : List Meaning) (e1 : l1 ≡ symbol_labels rs) (e2 : l2 ≡ l1 ++ Inner false ∷ []) (e3 : l3 ≡ l2 ++ Inner false ∷ [])
    (e4 : l4 ≡ l3 ++ replicate t (Inner false)) where
  pub symbols_counted : length l1 ≡ length rs
  symbols_counted = ap (λ (ms : List Meaning). length ms) e1 ∙ length-symbol_labels rs

  pub limit_counted : length l2 ≡ length rs + 1
  limit_counted = one_more_counted l1 l2 e2 ∙ ap (λ (n : ℕ). n + 1) symbols_counted

  pub client_counted : length l3 ≡ length rs + 2
  client_counted = omega (arith, one_more_counted l2 l3 e3, limit_counted)

  pub outline_labels : l4 ≡ symbol_labels rs ++ replicate (2 + t) (Inner false)
  outline_labels =
      let inner = replicate t (Inner false) in
      let both : replicate (2 + t) (Inner false) ≡ Inner false ∷ Inner false ∷ inner = let n : 2 + t ≡ suc (suc t) = omega arith in rw n refl in
      e4 ∙ (ap (λ (ms : List Meaning). ms ++ inner) (e3 ∙ ap (λ (ms : List Meaning). ms ++ Inner false ∷ []) (e2 ∙ ap (λ (ms : List Meaning). ms ++ Inner false ∷ []) e1))
      ∙ (append_assoc (symbol_labels rs ++ Inner false ∷ []) (Inner false ∷ []) inner
      ∙ (append_assoc (symbol_labels rs) (Inner false ∷ []) (Inner false ∷ inner)
      ∙ ap (λ (ms : List Meaning). symbol_labels rs ++ ms) (sym both))))
