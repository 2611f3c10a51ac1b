-- Numbers of 64 bits that stand for all that are as great or greater.
use Rattle.std.specs.Prelude.{ℕ, ◌^◌, ◌-◌, min}

abbrev pub capped : ℕ → ℕ
capped n = min n (2 ^ 64 - 1)
