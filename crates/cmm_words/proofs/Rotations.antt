-- A rotation as two shifts.
use Rattle.std.proofs.Common.{◌≡◌, ℕ, ◌+◌, ◌-◌, ◌*◌, ◌/◌, ◌%◌, ◌^◌, ◌<◌, ◌≤◌, bit_or, arith, sym, ap, ◌∙◌, add-zero, subst, lt_of_le_of_lt, add_comm}
use Rattle.std.proofs.lemmas.Nat.{mod-pow-add, shl-shr, shr-shr, shr_below, or_shifted, mod-mul-add, pow_pos, mod_below, shr_le, or_lt}
use Rattle.cmm_words.specs.Words.{folded}

-- the low d + c bits of a * 2 ^ c
shl-mod : (d c a : ℕ) → a * 2 ^ c % 2 ^ (d + c) ≡ a % 2 ^ d * 2 ^ c
shl-mod d c a =
    let none_below : a * 2 ^ c % 2 ^ c ≡ 0 = ap (λ n. n % 2 ^ c) (sym (add-zero (a * 2 ^ c))) ∙ mod-mul-add a (2 ^ c) 0 (pow_pos c) in
    mod-pow-add (a * 2 ^ c) d c ∙ rw (shl-shr a c, none_below) (add-zero (a % 2 ^ d * 2 ^ c))

-- in a word of d + c bits, what is shifted to the left by c and what is shifted to the right by d
or_shifts_at : (d c a : ℕ) → a < 2 ^ (d + c) → bit_or (a * 2 ^ c % 2 ^ (d + c)) (a / 2 ^ d) ≡ folded (d + c) (a * 2 ^ c)
or_shifts_at d c a h =
    let turned : d + c ≡ c + d = add_comm d c in
    let below : a / 2 ^ d < 2 ^ c = shr_below a c d (subst (λ (k : ℕ). a < 2 ^ k) turned h) in
    let high : a * 2 ^ c / 2 ^ (d + c) ≡ a / 2 ^ d =
    ap (λ k. a * 2 ^ c / 2 ^ k) turned ∙ sym (shr-shr (a * 2 ^ c) c d) ∙ ap (λ n. n / 2 ^ d) (shl-shr a c) in
    rw (high, shl-mod d c a) (or_shifted (a % 2 ^ d) c (a / 2 ^ d) below)

-- a word of k bits shifted to the left by c, and to the right by what c leaves of k
pub or_shifts : (k c a : ℕ) → c ≤ k → a < 2 ^ k → bit_or (a * 2 ^ c % 2 ^ k) (a / 2 ^ (k - c)) ≡ folded k (a * 2 ^ c)
or_shifts k c a within h =
    let whole : k - c + c ≡ k = omega arith in
    let P : ℕ → Type 0 = λ j. bit_or (a * 2 ^ c % 2 ^ j) (a / 2 ^ (k - c)) ≡ folded j (a * 2 ^ c) in
    subst P whole (or_shifts_at (k - c) c a (subst (λ (j : ℕ). a < 2 ^ j) (sym whole) h))

-- what a rotation gives is a word
pub folded-below : (k c a : ℕ) → c ≤ k → a < 2 ^ k → folded k (a * 2 ^ c) < 2 ^ k
folded-below k c a within h =
    let left : a * 2 ^ c % 2 ^ k < 2 ^ k = mod_below (a * 2 ^ c) (2 ^ k) (pow_pos k) in
    let right : a / 2 ^ (k - c) < 2 ^ k = lt_of_le_of_lt (shr_le a (k - c)) h in
    subst (λ (n : ℕ). n < 2 ^ k) (or_shifts k c a within h) (or_lt k (a * 2 ^ c % 2 ^ k) (a / 2 ^ (k - c)) left right)
