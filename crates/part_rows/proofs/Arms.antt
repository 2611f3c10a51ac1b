-- Labels and arms of a switch, one after the other.
use Rattle.std.proofs.Common.{◌≡◌, ℕ, zero, suc, ◌+◌, ◌<◌, true, false, List, [], ◌∷◌, ◌++◌, length, length-append, get_or, refl, sym, ◌∙◌, ap, subst, arith, append_assoc, append-nil, Some}
use Rattle.std.specs.Prelude.{flat_map, slice_get, slice_set, IsTrue}
use Rattle.std.specs.List.{All}
use Rattle.std.proofs.lemmas.Grind.{flat_map-append}
use Rattle.std.proofs.lemmas.List.Elements.{All-append}
use Rattle.cmm_graph.specs.declared.node.Arm.{Arm}
use Rattle.cmm_program.specs.declared.statement.Range.{Range}
use Rattle.rv_asm.proofs.Shared.{AreKept, kept_more}
use Rattle.rv_asm.specs.Assembly.{IsInner}
use Rattle.rv_asm.specs.declared.part.Label.{Label}
use Rattle.rv_asm.specs.declared.part.Meaning.{Meaning}
use Rattle.rv_asm.specs.declared.part.Meaning.TheVariants.{Inner}
use Rattle.cmm_select.specs.Switches.{ranges_in}
use Rattle.part_rows.specs.Labels.{placed}

-- a label that is kept is an inner one as before
pub inner_kept : (xs ys : List Meaning) (l : Label) → AreKept xs ys → IsInner xs l → IsInner ys l
inner_kept xs ys l kept inner = (omega (arith, kept.count, inner.0), subst IsTrue (sym (kept.inner l inner.0)) inner.1)

pub all_inner_kept : (xs ys : List Meaning) (ls : List Label) → AreKept xs ys → All (IsInner xs) ls → All (IsInner ys) ls
all_inner_kept xs ys ls kept all k d within = inner_kept xs ys (get_or ls k d) kept (all k d within)

-- the label that was made last gets its place
pub last_placed : (xs : List Meaning) (n : ℕ) → n ≡ length xs → slice_set (xs ++ Inner false ∷ []) n (Inner true) ≡ xs ++ Inner true ∷ []
last_placed [] n is = rw is refl
last_placed (x ∷ xs) n is = rw is (ap (λ rest. x ∷ rest) (last_placed xs (length xs) refl))

pub last_is_fresh : (xs : List Meaning) (n : ℕ) → n ≡ length xs → slice_get (xs ++ Inner false ∷ []) n ≡ Some (Inner false)
last_is_fresh [] n is = rw is refl
last_is_fresh (x ∷ xs) n is = rw is (last_is_fresh xs (length xs) refl)

pub last_is_inner : (xs : List Meaning) (l : Label) → l.number ≡ length xs → IsInner (xs ++ Inner true ∷ []) l
last_is_inner xs l is = (rw is (simp length-append (omega arith)), rw (is, meaning_of xs) refl)
  where
    meaning_of : (xs : List Meaning) → get_or (xs ++ Inner true ∷ []) (length xs) (Inner false) ≡ Inner true
    meaning_of [] = refl
    meaning_of (x ∷ xs) = meaning_of xs

pub placed_more : (xs ys zs : List Meaning) (i : ℕ) → ys ≡ xs ++ placed i → zs ≡ ys ++ Inner true ∷ [] → zs ≡ xs ++ placed (i + 1)
placed_more xs ys zs i front last = last ∙ ap (λ (ms : List Meaning). ms ++ Inner true ∷ []) front ∙ append_assoc xs (placed i) (Inner true ∷ []) ∙ ap (λ (n : ℕ). xs ++ placed n) one
  where
    one : suc i ≡ i + 1
    one = omega arith

-- ---- arms

pub ranges_in-append : (xs : List Arm) (arm : Arm) → ranges_in (xs ++ arm ∷ []) ≡ ranges_in xs + length arm.ranges
ranges_in-append xs arm =
    let f : Arm → List Range = λ arm. arm.ranges in
    ap (λ (rs : List Range). length rs) (flat_map-append f xs (arm ∷ [])) ∙ length-append (flat_map f xs) (arm.ranges ++ [])
    ∙ ap (λ (rs : List Range). length (flat_map f xs) + length rs) (append-nil arm.ranges)

pub arms_more : (xs : List Arm) (arm : Arm) (i n : ℕ) → arm.to.number ≡ i → i < n → All (λ a. a.to.number < i) xs → All (λ a. a.to.number < n) (xs ++ arm ∷ [])
arms_more xs arm i n is below all =
    All-append (λ a. a.to.number < n) xs (arm ∷ []) (λ k d within. omega (arith, all k d within, below)) (λ k d within. last k d within)
  where
    last : (k : ℕ) (d : Arm) → k < 1 → (get_or (arm ∷ []) k d).to.number < n
    last zero d within = omega (arith, is, below)
    last (suc k) d within = absurd (omega (arith, within))

-- ---- one more

pub inner_more : (old new : List Meaning) (ls : List Label) (l : Label) → new ≡ old ++ Inner true ∷ [] → All (IsInner old) ls → IsInner new l → All (IsInner new) (ls ++ l ∷ [])
inner_more old new ls l is all one =
    All-append (IsInner new) ls (l ∷ []) (all_inner_kept old new ls (rw is (kept_more old (Inner true ∷ []))) all) (λ k d within. last k d within)
  where
    last : (k : ℕ) (d : Label) → k < 1 → IsInner new (get_or (l ∷ []) k d)
    last zero d within = one
    last (suc k) d within = absurd (omega (arith, within))

-- the label that was made first is there as it was
pub first_is_fresh : (labels : List Meaning) (n i : ℕ) → n ≡ 0 → labels ≡ (Inner false ∷ []) ++ placed i → slice_get labels n ≡ Some (Inner false)
first_is_fresh labels n i first is = rw (is, first) refl

pub start_is_fresh : (a b d e : List Meaning) (n i : ℕ) → e ≡ [] → n ≡ length e → d ≡ e ++ Inner false ∷ [] → b ≡ d → a ≡ b ++ placed i → slice_get a n ≡ Some (Inner false)
start_is_fresh a b d e n i is number made same more =
    first_is_fresh a n i (number ∙ ap length is)
    (more ∙ ap (λ (xs : List Meaning). xs ++ placed i) (same ∙ made ∙ ap (λ (xs : List Meaning). xs ++ Inner false ∷ []) is))
