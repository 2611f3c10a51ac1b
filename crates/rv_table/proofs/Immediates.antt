-- An immediate of each format, as its field's number and back.
use Rattle.std.proofs.Common.{◌≡◌, ℕ, suc, ◌+◌, ◌-◌, ◌%◌, ◌<◌, ◌^◌, ℤ, pos, negsuc, arith}
use Rattle.std.proofs.Math.Nat.{mod-eq_of_lt, mod-lt}
use Rattle.std.proofs.Math.Pow.{pow_pos}
use Rattle.std.proofs.lemmas.Int.{ints}
use Rattle.std.proofs.lemmas.Bool.Decides.{nat_tests}
use Rattle.rv_table.specs.Encoding.{IsBetween}
use Rattle.rv_table.specs.Words.{modulo, signed}

pub modulo-lt : (w : ℕ) (z : ℤ) → modulo w z < 2 ^ w
modulo-lt w (pos n) = mod-lt n (pow_pos w)
modulo-lt w (negsuc n) = let h = pow_pos w in omega arith

twice : (h : ℕ) → 2 ^ suc h ≡ 2 ^ h + 2 ^ h
twice h = omega arith

-- a signed number of suc h bits is read back from its remainder
pub signed-modulo : (h : ℕ) (z : ℤ) → IsBetween (negsuc (2 ^ h - 1)) (pos (2 ^ h - 1)) z → signed (suc h) (modulo (suc h) z) ≡ z
signed-modulo h (pos n) b =
    let p = pow_pos h in
    let k : n < 2 ^ h = omega (arith, ints, b.0, b.1) in
    let e = twice h in
    let m : n % 2 ^ suc h ≡ n = mod-eq_of_lt (omega arith) in
    grind (arith, nat_tests)
signed-modulo h (negsuc n) b =
    let p = pow_pos h in
    let k : n < 2 ^ h = omega (arith, ints, b.0, b.1) in
    let e = twice h in
    let m : n % 2 ^ suc h ≡ n = mod-eq_of_lt (omega arith) in
    let q : (2 ^ suc h - 1 - n) % 2 ^ suc h ≡ 2 ^ suc h - 1 - n = mod-eq_of_lt (omega arith) in
    grind (arith, nat_tests)

pub modulo-signed : (h n : ℕ) → n < 2 ^ suc h → modulo (suc h) (signed (suc h) n) ≡ n
modulo-signed h n k =
    let p = pow_pos h in
    let e = twice h in
    let m : n % 2 ^ suc h ≡ n = mod-eq_of_lt k in
    let q : (2 ^ suc h - 1 - n) % 2 ^ suc h ≡ 2 ^ suc h - 1 - n = mod-eq_of_lt (omega arith) in
    grind (arith, nat_tests)

pub signed_between : (h n : ℕ) → IsBetween (negsuc (2 ^ h - 1)) (pos (2 ^ h - 1)) (signed (suc h) n)
signed_between h n =
    let p = pow_pos h in
    let e = twice h in
    let q = mod-lt n (pow_pos (suc h)) in
    (grind (arith, ints, nat_tests), grind (arith, ints, nat_tests))

-- the lowest bit of a remainder, and of what is read from one, for the widths of B and J
pub modulo-parity_13 : (z : ℤ) → modulo 13 z % 2 ≡ modulo 1 z
modulo-parity_13 (pos n) = omega arith
modulo-parity_13 (negsuc n) = omega arith

pub modulo-parity_21 : (z : ℤ) → modulo 21 z % 2 ≡ modulo 1 z
modulo-parity_21 (pos n) = omega arith
modulo-parity_21 (negsuc n) = omega arith

pub signed-parity_13 : (n : ℕ) → modulo 1 (signed 13 n) ≡ n % 2
signed-parity_13 n = grind (arith, nat_tests)

pub signed-parity_21 : (n : ℕ) → modulo 1 (signed 21 n) ≡ n % 2
signed-parity_21 n = grind (arith, nat_tests)

-- a number that is not negative is its remainder, if it is small enough
pub modulo-pos : (w k : ℕ) (z : ℤ) → k < 2 ^ w → IsBetween (pos 0) (pos k) z → z ≡ pos (modulo w z)
modulo-pos w k (pos n) h b =
    let m : n % 2 ^ w ≡ n = mod-eq_of_lt (omega (arith, ints, b.1)) in
    rw m
modulo-pos w k (negsuc n) h b = absurd (omega (arith, ints, b.0))
