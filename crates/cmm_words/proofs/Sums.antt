-- Sums of integers, modulo 2 ^ k.
use Rattle.std.proofs.Common.{◌≡◌, ℕ, suc, ◌+◌, ◌-◌, ◌*◌, ◌%◌, ◌^◌, arith, ℤ, pos, negsuc, ◌+ℤ◌, ap, ◌∙◌, refl, add-mul, unsigned_abs, add-zero, mod-eq_of_lt}
use Rattle.std.proofs.lemmas.Nat.{pow_pos}
use Rattle.std.proofs.lemmas.Int.{ints, int_rem_euclid_is}
use Rattle.std.proofs.Math.Nat.{add-mod, le-mul_of_pos_right}
use Rattle.std.specs.Int.{int_rem_euclid}
use Rattle.cmm_words.specs.Integers.{wrapped}
use Rattle.cmm_words.proofs.Wrapping.{wrapped-below}
use Rattle.cmm_words.proofs.Shifts.{mul-mod}

-- a number that is z and n times 2 ^ k
pub record Lifted (k : ℕ) (z : ℤ) : Type 0 where
  pub times : ℕ
  pub number : ℕ
  pub same : z +ℤ pos (times * 2 ^ k) ≡ pos number

pub lifted : (k : ℕ) (z : ℤ) → Lifted k z
lifted k (pos n) = record { times = 0; number = n; same = omega (arith, ints) }
lifted k (negsuc n) = record { times = suc n; number = suc n * 2 ^ k - suc n; same = omega (arith, ints, le-mul_of_pos_right (suc n) (pow_pos k)) }

wrapped-is : (k : ℕ) (z : ℤ) → wrapped k z ≡ unsigned_abs (int_rem_euclid z (pos (2 ^ k)))
wrapped-is k (pos n) = refl
wrapped-is k (negsuc n) = refl

-- it has the remainder that z has
pub wrapped_by : (k : ℕ) (z : ℤ) (times number : ℕ) → z +ℤ pos (times * 2 ^ k) ≡ pos number → wrapped k z ≡ number % 2 ^ k
wrapped_by k z times number same =
    wrapped-is k z ∙ ap unsigned_abs (int_rem_euclid_is z (pos (2 ^ k)) (2 ^ k) times number (pow_pos k) refl same)

-- the word of a sum is the sum of the words
pub wrapped-add : (k : ℕ) (u v : ℤ) → wrapped k (u +ℤ v) ≡ (wrapped k u + wrapped k v) % 2 ^ k
wrapped-add k u v =
    let a = lifted k u in
    let b = lifted k v in
    let both : u +ℤ v +ℤ pos ((a.times + b.times) * 2 ^ k) ≡ pos (a.number + b.number) =
    omega (arith, ints, a.same, b.same, add-mul a.times b.times (2 ^ k)) in
    wrapped_by k (u +ℤ v) (a.times + b.times) (a.number + b.number) both
    ∙ add-mod a.number b.number (2 ^ k)
    ∙ rw (wrapped_by k u a.times a.number a.same, wrapped_by k v b.times b.number b.same) refl

-- a multiple of 2 ^ k adds nothing
pub wrapped-multiple : (k : ℕ) (z : ℤ) (n : ℕ) → wrapped k (z +ℤ pos (n * 2 ^ k)) ≡ wrapped k z
wrapped-multiple k z n =
    let whole : wrapped k (pos (n * 2 ^ k)) ≡ 0 = mul-mod n k in
    wrapped-add k z (pos (n * 2 ^ k)) ∙ rw (whole, add-zero (wrapped k z)) (mod-eq_of_lt (wrapped-below k z))
