-- Addresses and numbers that are put together from pieces, and what is loaded as it is.
use Rattle.std.proofs.Common.{◌≡◌, ℕ, ◌+◌, ◌<◌, ◌^◌, arith, pos, true}
use Rattle.std.proofs.lemmas.Bool.Decides.{nat_tests}
use Rattle.std.proofs.lemmas.Int.{ints}
use Rattle.rv_table.proofs.Shared.{loaded-lt}
use Rattle.rv_table.specs.Machine.{extended, loaded}
use Rattle.rv_table.specs.Words.{modulo, sign_extended, sum}

pub sign_extended_64 : (v : ℕ) → v < 2 ^ 64 → sign_extended 64 v ≡ v
sign_extended_64 v h = grind (arith, ints, nat_tests)

-- eight bytes are loaded as the number that they are
pub loaded_whole : (memory : ℕ → ℕ) (a : ℕ) → ((k : ℕ) → memory k < 2 ^ 8) → extended true 8 (loaded memory a 8) ≡ loaded memory a 8
loaded_whole memory a bytes = sign_extended_64 (loaded memory a 8) (loaded-lt memory a 8 bytes)

-- a number of 64 bits and 0
pub plus_none : (a : ℕ) → a < 2 ^ 64 → sum a (modulo 64 (pos 0)) ≡ a
plus_none a h = omega arith

-- an address and an offset
pub plus_near : (a o : ℕ) → o < 2048 → a + o < 2 ^ 64 → sum a (modulo 64 (pos o)) ≡ a + o
plus_near a o near fits = omega arith
