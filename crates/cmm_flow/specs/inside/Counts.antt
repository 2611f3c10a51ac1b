-- Counts that fit in 32 bits.
use Rattle.std.specs.Prelude.{ℕ, min}

-- the greatest such number in place of any greater one
abbrev pub capped : ℕ → ℕ
capped n = min n 4294967295
