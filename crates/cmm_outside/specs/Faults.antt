-- What a failed call leaves in an object's count of faults.
use Rattle.std.specs.Prelude.{◌≡◌, ℕ, ◌^◌, ◌+◌, ◌-◌, ◌<◌, min, ◌⊎◌}

-- the value at which a count that is kept in 64 bits stays
abbrev pub last_count : ℕ
last_count = 2 ^ 64 - 1

-- a count that is kept in 64 bits, after one more
abbrev pub next_count : ℕ → ℕ
next_count n = min (n + 1) last_count

-- a count rose from old to new, or stands at its last value
abbrev pub Rose : ℕ → ℕ → Type 0
Rose old new = (old < new) ⊎ ((old ≡ last_count) × (new ≡ last_count))
