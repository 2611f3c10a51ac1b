-- Places of callee-saves registers: as a list of eleven, and as a function.
use Rattle.std.proofs.Common.{◌≡◌, ◌⊎◌, ℕ, zero, suc, ◌+◌, ◌-◌, ◌<◌, ◌≤◌, ◌==◌, Bool, true, false, IsTrue, List, [], ◌∷◌, find, length, slice_get, slice_index_or, slice_set, Option, Some, None, inl, inr, refl, sym, ap, subst, ◌∙◌, arith}
use Rattle.std.proofs.lemmas.Bool.{cases_lt}
use Rattle.std.proofs.Math.Path.{fun_ext}
use Rattle.std.proofs.lemmas.Bool.Decides.{nat_tests}
use Rattle.cmm_image.specs.declared.parts.ImageParts.{ImageParts}
use Rattle.cmm_image.specs.declared.rows.ProcRow.{ProcRow}
use Rattle.cmm_image.specs.declared.rows.SavedRegister.{SavedRegister}
use Rattle.cmm_image.specs.ImageFormat.{procedure_at}
use Rattle.cmm_image.specs.Bounds.{BoundsProcedure}
use Rattle.cmm_abi.specs.Registers.{is_callee_saves}
use Rattle.cmm_image_machine.specs.Frames.{places_before}
use Rattle.cmm_abi.specs.Regions as regions
use Rattle.cmm_walk.specs.declared.activation.Activation.{Activation}
use Rattle.cmm_walk.specs.declared.activation.Kept.{Kept}
use Rattle.cmm_walk.specs.declared.activation.Kept.TheVariants.{InRegister, At}
use Rattle.cmm_walk.specs.Activations.{element_of, kept_place, order_of, places_of, register_in}
use Rattle.cmm_walk.specs.inside.Points.{kept_behind}
use Rattle.cmm_walk.proofs.Tables.{saved_is}

-- ---- the order of the registers

register_order : (n : ℕ) → IsTrue (is_callee_saves n) → (order_of n < 11) × (register_in (order_of n) ≡ n)
register_order n is = of_order (n - 17) refl
  where
    of_order : (k : ℕ) → n - 17 ≡ k → (k < 11) × (register_in k ≡ n)
    of_order zero e = (omega arith, grind (arith, nat_tests))
    of_order (suc k) e = (grind (arith, nat_tests), grind (arith, nat_tests))

pub order_small : (n : ℕ) → IsTrue (is_callee_saves n) → order_of n < 11
order_small n is = (register_order n is).0

pub register_again : (n : ℕ) → IsTrue (is_callee_saves n) → register_in (order_of n) ≡ n
register_again n is = (register_order n is).1

pub register_saved : (k : ℕ) → k < 11 → IsTrue (is_callee_saves (register_in k))
register_saved zero short = refl
register_saved (suc k) short = grind (arith, nat_tests)

-- ---- all in their registers

all_alike : (saved : List Kept) (k : ℕ) → ((j : ℕ) → j < length saved → slice_get saved j ≡ Some InRegister) → slice_index_or saved k InRegister ≡ InRegister
all_alike [] k each = refl
all_alike (x ∷ xs) zero each = let first = each 0 (omega arith) in cc
all_alike (x ∷ xs) (suc k) each = all_alike xs k (λ j short. each (suc j) (omega arith))

pub in_registers-at : (saved : List Kept) → ((j : ℕ) → j < length saved → slice_get saved j ≡ Some InRegister) → (n : ℕ) → places_of saved n ≡ regions.InRegister n
in_registers-at saved each n = by (is_callee_saves n) refl
  where
    by : (b : Bool) → is_callee_saves n ≡ b → places_of saved n ≡ regions.InRegister n
    by true is = rw (places_of, is, all_alike saved (order_of n) each) refl
    by false is = rw (places_of, is) refl

pub in_registers : (saved : List Kept) → ((j : ℕ) → j < length saved → slice_get saved j ≡ Some InRegister) → places_of saved ≡ regions.InRegister
in_registers saved each = fun_ext (in_registers-at saved each)

-- ---- behind an activation

got : (saved : List Kept) (k : ℕ) (x : Kept) → slice_get saved k ≡ Some x → slice_index_or saved k InRegister ≡ x
got [] k x is = absurd cc
got (y ∷ ys) zero x is = cc
got (y ∷ ys) (suc k) x is = got ys k x is

pub behind_some : (a : Activation) (p : ProcRow) (n : ℕ) (s : SavedRegister) → find (λ s. s.register == n) p.saved ≡ Some s → kept_behind a p n ≡ At (a.frame + s.offset)
behind_some a p n s is = rw (kept_behind, is) refl

pub behind_none : (a : Activation) (p : ProcRow) (n : ℕ) → find (λ s. s.register == n) p.saved ≡ None → kept_behind a p n ≡ slice_index_or a.saved (order_of n) InRegister
behind_none a p n is = rw (kept_behind, is) refl

-- what is kept behind it is where it was, or in its frame
kept_is : (a : Activation) (p : ProcRow) (n : ℕ) (o : Option SavedRegister) → find (λ s. s.register == n) p.saved ≡ o →
    kept_place n (kept_behind a p n)
    ≡ elim o [ Some s ↦ regions.InMemory (a.frame + s.offset) | None ↦ kept_place n (slice_index_or a.saved (order_of n) InRegister) ]
kept_is a p n (Some s) is = ap (kept_place n) (behind_some a p n s is)
kept_is a p n None is = ap (kept_place n) (behind_none a p n is)

saved_place : (saved : List Kept) (n : ℕ) → is_callee_saves n ≡ true → places_of saved n ≡ kept_place n (slice_index_or saved (order_of n) InRegister)
saved_place saved n is = rw (places_of, is) refl

other_place : (saved : List Kept) (n : ℕ) → is_callee_saves n ≡ false → places_of saved n ≡ regions.InRegister n
other_place saved n is = rw (places_of, is) refl

kept_or : (o : Option SavedRegister) (frame : ℕ) (x y : regions.Place) → x ≡ y →
    ◌≡◌ {A = regions.Place} (elim o [ Some s ↦ regions.InMemory (frame + s.offset) | None ↦ x ]) (elim o [ Some s ↦ regions.InMemory (frame + s.offset) | None ↦ y ])
kept_or (Some s) frame x y same = refl
kept_or None frame x y same = same

module _ (i : ImageParts) (a : Activation) (p : ProcRow) (same : p ≡ procedure_at i.procs a.proc) (bounds : BoundsProcedure p) (saved : List Kept)
    (each : (k : ℕ) → k < 11 → slice_get saved k ≡ Some (kept_behind a p (register_in k))) where
  behind_saved : (n : ℕ) (o : Option SavedRegister) → is_callee_saves n ≡ true → find (λ s. s.register == n) p.saved ≡ o →
      places_of saved n ≡ elim o [ Some s ↦ regions.InMemory (a.frame + s.offset) | None ↦ places_of a.saved n ]
  behind_saved n o is found =
      let again = register_again n is in
      let here : slice_index_or saved (order_of n) InRegister ≡ kept_behind a p n =
      got saved (order_of n) (kept_behind a p (register_in (order_of n))) (each (order_of n) (order_small n is)) ∙ ap (kept_behind a p) again in
      saved_place saved n is ∙ ap (kept_place n) here ∙ kept_is a p n o found
      ∙ kept_or o a.frame (kept_place n (slice_index_or a.saved (order_of n) InRegister)) (places_of a.saved n) (sym (saved_place a.saved n is))

  behind_other : (n : ℕ) (o : Option SavedRegister) → is_callee_saves n ≡ false → find (λ s. s.register == n) p.saved ≡ o →
      places_of saved n ≡ elim o [ Some s ↦ regions.InMemory (a.frame + s.offset) | None ↦ places_of a.saved n ]
  behind_other n None is found = other_place saved n is ∙ sym (other_place a.saved n is)
  behind_other n (Some s) is found = absurd (let saved_one = saved_is p.saved bounds.registers n s found in cc (saved_one, is))

  behind_by : (n : ℕ) (b : Bool) → is_callee_saves n ≡ b →
      places_of saved n ≡ elim (find (λ s. s.register == n) p.saved) [ Some s ↦ regions.InMemory (a.frame + s.offset) | None ↦ places_of a.saved n ]
  behind_by n true is = behind_saved n (find (λ s. s.register == n) p.saved) is refl
  behind_by n false is = behind_other n (find (λ s. s.register == n) p.saved) is refl

  behind-at : (n : ℕ) → places_of saved n ≡ places_before (element_of i a) n
  behind-at n = rw (← same) (behind_by n (is_callee_saves n) refl)

  pub behind : places_of saved ≡ places_before (element_of i a)
  behind = fun_ext behind-at

-- ---- one after the other

at_set : (xs : List Kept) (n : ℕ) (v : Kept) → n < length xs → slice_get (slice_set xs n v) n ≡ Some v
at_set [] n v short = absurd (omega arith)
at_set (x ∷ xs) zero v short = refl
at_set (x ∷ xs) (suc n) v short = at_set xs n v (omega arith)

beside_set : (xs : List Kept) (n j : ℕ) (v : Kept) → j < n → slice_get (slice_set xs n v) j ≡ slice_get xs j
beside_set [] n j v other = refl
beside_set (x ∷ xs) zero j v other = absurd (omega arith)
beside_set (x ∷ xs) (suc n) zero v other = refl
beside_set (x ∷ xs) (suc n) (suc j) v other = beside_set xs n j v (omega arith)

pub set_each : (xs : List Kept) (n : ℕ) (v : Kept) (f : ℕ → Kept) → n < length xs → v ≡ f n → ((j : ℕ) → j < n → slice_get xs j ≡ Some (f j)) →
    (j : ℕ) → j < n + 1 → slice_get (slice_set xs n v) j ≡ Some (f j)
set_each xs n v f short is each j below = by (cases_lt j n)
  where
    by : (j < n) ⊎ (n ≤ j) → slice_get (slice_set xs n v) j ≡ Some (f j)
    by (inl before) = beside_set xs n j v before ∙ each j before
    by (inr here) = let same : n ≡ j = omega arith in subst (λ (k : ℕ). slice_get (slice_set xs n v) k ≡ Some (f k)) same (at_set xs n v short ∙ ap Some is)
