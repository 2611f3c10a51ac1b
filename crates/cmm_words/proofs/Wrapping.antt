-- Integers modulo 2 ^ k.
use Rattle.std.proofs.Common.{◌≡◌, ℕ, ◌+◌, ◌-◌, ◌*◌, ◌/◌, ◌%◌, ◌^◌, ◌<◌, arith, ℤ, pos, negsuc, add-mul, ◌∙◌, ap}
use Rattle.std.proofs.lemmas.Nat.{mod-pow-add, mod_below, pow_pos, mod_low}
use Rattle.std.proofs.Math.Pow.{mod-mod-pow, ones_split}
use Rattle.cmm_words.specs.Integers.{wrapped}

pub wrapped-below : (k : ℕ) (z : ℤ) → wrapped k z < 2 ^ k
wrapped-below k (pos n) = mod_below n (2 ^ k) (pow_pos k)
wrapped-below k (negsuc n) = omega (arith, pow_pos k)

-- what is left of all ones of d + k bits, cut to k bits
ones-sub-mod : (d k n : ℕ) → (2 ^ (d + k) - 1 - n % 2 ^ (d + k)) % 2 ^ k ≡ 2 ^ k - 1 - n % 2 ^ k
ones-sub-mod d k n =
    let x : ℕ = n / 2 ^ k % 2 ^ d in
    let y : ℕ = n % 2 ^ k in
    let x_below : x < 2 ^ d = mod_below (n / 2 ^ k) (2 ^ d) (pow_pos d) in
    let y_below : y < 2 ^ k = mod_below n (2 ^ k) (pow_pos k) in
    let u : ℕ = 2 ^ d - 1 - x in
    let whole : 2 ^ d - 1 ≡ u + x = omega arith in
    let product : (2 ^ d - 1) * 2 ^ k ≡ u * 2 ^ k + x * 2 ^ k = ap (λ m. m * 2 ^ k) whole ∙ add-mul u x (2 ^ k) in
    let parts : 2 ^ (d + k) - 1 - n % 2 ^ (d + k) ≡ u * 2 ^ k + (2 ^ k - 1 - y) = omega (arith, mod-pow-add n d k, ones_split d k, product) in
    ap (λ m. m % 2 ^ k) parts ∙ mod_low u k (2 ^ k - 1 - y) (omega arith)

-- to cut the word of d + k bits to k is to take the word of k bits
pub cut-wrapped : (d k : ℕ) (z : ℤ) → wrapped (d + k) z % 2 ^ k ≡ wrapped k z
cut-wrapped d k (pos n) = mod-mod-pow n d k
cut-wrapped d k (negsuc n) = ones-sub-mod d k n
