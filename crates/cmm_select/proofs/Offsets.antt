-- The address at an offset, whose upper part is added first, and then its lower part with its sign.
use Rattle.std.proofs.Common.{◌≡◌, ℕ, ◌+◌, ◌*◌, ◌/◌, ◌%◌, ◌<◌, ◌^◌, arith}
use Rattle.std.proofs.lemmas.Bool.Decides.{nat_tests}
use Rattle.std.proofs.lemmas.Int.{ints}
use Rattle.rv_table.specs.Words.{modulo, signed, sum}
use Rattle.cmm_select.proofs.Constants.{rest}

low_near : (o : ℕ) → o < 2048 → modulo 64 (signed 12 o) ≡ o
low_near o small = grind (arith, ints, nat_tests)

joined : (a h l o : ℕ) → (h + l) % 2 ^ 64 ≡ o → a + o < 2 ^ 64 → sum (sum h a) l ≡ a + o
joined a h l o is fits = omega (arith, is)

-- where the upper part is 0
pub near_address : (a o : ℕ) → o < 2048 → a + o < 2 ^ 64 → sum a (modulo 64 (signed 12 o)) ≡ a + o
near_address a o near fits = omega (arith, low_near o near)

-- from both parts
pub far_address : (a o : ℕ) → o < 2 ^ 21 → a + o < 2 ^ 64 → sum (sum ((o + 2048) / 4096 * 4096) a) (modulo 64 (signed 12 o)) ≡ a + o
far_address a o small fits = joined a ((o + 2048) / 4096 * 4096) (modulo 64 (signed 12 o)) o (rest o (omega (arith, small))) fits
