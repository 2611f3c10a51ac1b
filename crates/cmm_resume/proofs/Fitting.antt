-- Values that fit widths, one after the other.
use Rattle.std.proofs.Common.{◌≡◌, ℕ, zero, suc, ◌+◌, ◌<◌, ◌==◌, ◌&&◌, ◌^◌, nat_lt, Bool, true, false, List, [], ◌∷◌, length, drop, get_or, map, slice_get, Some, Err, refl, ap, ◌∙◌, arith}
use Rattle.std.proofs.lemmas.Bool.Decides.{nat_tests}
use Rattle.cmm_rules.specs.declared.rule.Rule.TheVariants.{DoesNotFit}
use Rattle.cmm_words.specs.declared.width.Width.{Width}
use Rattle.cmm_words.specs.Widths.{bits}
use Rattle.cmm_image.specs.declared.rows.VariableNumber.{VariableNumber}
use Rattle.cmm_program.specs.Commands.{all_fit}
use Rattle.cmm_resume.specs.Finding.{taken}

-- a value fits a width
abbrev pub fits : Width → ℕ → Bool
fits w v = nat_lt v (2 ^ bits w)

fit_suc : (ws : List Width) (vs : List ℕ) (k : ℕ) (w : Width) (v : ℕ) → slice_get ws k ≡ Some w → slice_get vs k ≡ Some v →
    all_fit (drop k ws) (drop k vs) ≡ (fits w v && all_fit (drop (suc k) ws) (drop (suc k) vs))
fit_suc [] vs k w v is here = absurd cc
fit_suc (x ∷ xs) [] k w v is here = absurd cc
fit_suc (x ∷ xs) (y ∷ ys) zero w v is here = let one : x ≡ w = cc in let other : y ≡ v = cc in rw (one, other) refl
fit_suc (x ∷ xs) (y ∷ ys) (suc k) w v is here = fit_suc xs ys k w v is here

pub fit_more : (ws : List Width) (vs : List ℕ) (k : ℕ) (w : Width) (v : ℕ) → slice_get ws k ≡ Some w → slice_get vs k ≡ Some v → fits w v ≡ true →
    all_fit (drop k ws) (drop k vs) ≡ all_fit (drop (k + 1) ws) (drop (k + 1) vs)
fit_more ws vs k w v is here fit =
    let one : k + 1 ≡ suc k = omega arith in
    rw one (fit_suc ws vs k w v is here ∙ ap (λ (b : Bool). b && all_fit (drop (suc k) ws) (drop (suc k) vs)) fit)

-- a value that does not fit
pub not_taken : (ws : List Width) (vs : List ℕ) (k : ℕ) (w : Width) (v : ℕ) → length ws ≡ length vs → all_fit ws vs ≡ all_fit (drop k ws) (drop k vs) →
    slice_get ws k ≡ Some w → slice_get vs k ≡ Some v → fits w v ≡ false → taken ws vs ≡ Err DoesNotFit
not_taken ws vs k w v count so is here fit =
    let none : all_fit ws vs ≡ false = so ∙ fit_suc ws vs k w v is here ∙ ap (λ (b : Bool). b && all_fit (drop (suc k) ws) (drop (suc k) vs)) fit in
    let same : (length ws == length vs) ≡ true = rw count (grind (arith, nat_tests)) in
    rw (taken, same, none) refl

pub get_map : {A B : Type 0} (f : A → B) (xs : List A) (k : ℕ) (x : A) → slice_get xs k ≡ Some x → slice_get (map f xs) k ≡ Some (f x)
get_map f [] k x is = absurd cc
get_map f (y ∷ ys) zero x is = let same : y ≡ x = cc in ap (λ z. Some (f z)) same
get_map f (y ∷ ys) (suc k) x is = get_map f ys k x is

pub got_at : (xs : List ℕ) (k : ℕ) → k < length xs → slice_get xs k ≡ Some (get_or xs k 0)
got_at [] k short = absurd (omega arith)
got_at (x ∷ xs) zero short = refl
got_at (x ∷ xs) (suc k) short = got_at xs k (omega arith)

pub got_row : (xs : List VariableNumber) (k : ℕ) (d : VariableNumber) → k < length xs → slice_get xs k ≡ Some (get_or xs k d)
got_row [] k d short = absurd (omega arith)
got_row (x ∷ xs) zero d short = refl
got_row (x ∷ xs) (suc k) d short = got_row xs k d (omega arith)
