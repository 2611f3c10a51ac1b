-- Reading bits as a signed number by one comparison and one subtraction.
use Rattle.std.proofs.Common.{◌≡◌, ℕ, suc, ◌+◌, ◌-◌, ◌*◌, ◌%◌, ◌<◌, ◌≤◌, ◌^◌, arith, to_z, of_z, ◌-ℤ◌, FitsSigned}
use Rattle.std.specs.Int.{w32}
use Rattle.std.proofs.Math.Nat.{mod-eq_of_lt}
use Rattle.std.proofs.Math.Pow.{pow_mono, pow-lt}
use Rattle.std.proofs.lemmas.Bool.Decides.{nat_tests}
use Rattle.std.proofs.lemmas.Int.{ints}
use Rattle.rv_table.specs.Words.{signed}

-- a power below 2 ^ 32 does not wrap
one_shifted : (k : ℕ) → k < 32 → 1 * 2 ^ k % 4294967296 ≡ 2 ^ k
one_shifted k h =
    let l : 2 ^ k < 2 ^ 32 = pow-lt h in
    let m : 2 ^ k % 4294967296 ≡ 2 ^ k = mod-eq_of_lt l in
    let e : 1 * 2 ^ k ≡ 2 ^ k = omega arith in
    rw e m

module _ (w bits : ℕ) (some : 0 < w) (few : w < 31) (fits : bits < 2 ^ w) where
  twice : 2 ^ w ≡ 2 ^ (w - 1) + 2 ^ (w - 1)
  twice =
      let e : w ≡ suc (w - 1) = omega arith in
      let d : 2 ^ suc (w - 1) ≡ 2 ^ (w - 1) + 2 ^ (w - 1) = omega arith in
      rw (← e) at d

  small : 2 ^ w ≤ 2 ^ 30
  small = let h : w ≤ 30 = omega arith in pow_mono h

  pub signed_low : bits < 1 * 2 ^ (w - 1) % 4294967296 → to_z w32 bits ≡ signed w bits
  signed_low h =
      let k : bits < 2 ^ (w - 1) = let l : w - 1 < 32 = omega arith in rw (one_shifted (w - 1) l) at h in
      let m : bits % 2 ^ w ≡ bits = mod-eq_of_lt fits in
      let t = twice in
      let s = small in
      grind (arith, ints, nat_tests)

  pub signed_high : 1 * 2 ^ (w - 1) % 4294967296 ≤ bits →
      to_z w32 (of_z w32 (to_z w32 bits -ℤ to_z w32 (1 * 2 ^ w % 4294967296))) ≡ signed w bits
  signed_high h =
      let k : 2 ^ (w - 1) ≤ bits = let l : w - 1 < 32 = omega arith in rw (one_shifted (w - 1) l) at h in
      let m : bits % 2 ^ w ≡ bits = mod-eq_of_lt fits in
      let o : 1 * 2 ^ w % 4294967296 ≡ 2 ^ w = let l : w < 32 = omega arith in one_shifted w l in
      let t = twice in
      let s = small in
      grind (arith, ints, nat_tests)

  pub difference_fits : FitsSigned w32 (to_z w32 bits -ℤ to_z w32 (1 * 2 ^ w % 4294967296))
  difference_fits =
      let o : 1 * 2 ^ w % 4294967296 ≡ 2 ^ w = let l : w < 32 = omega arith in one_shifted w l in
      let s = small in
      rw o (omega (arith, ints))
