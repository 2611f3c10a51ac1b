-- Lines and columns of the places of a unit, both from 1.
use Rattle.std.specs.Prelude.{ℕ, Bool, ◌==◌, ◌+◌, not, List, take}
use Rattle.std.specs.List.{count_by, suffix_len}

abbrev pub ends_line : ℕ → Bool
ends_line b = b == 10

-- the line after a text: one more than the line ends in it
abbrev pub line_after : List ℕ → ℕ
line_after before = 1 + count_by ends_line before

-- the column after a text: one more than the bytes since its last line end
abbrev pub column_after : List ℕ → ℕ
column_after before = 1 + suffix_len (λ b. not (ends_line b)) before

abbrev pub line_at : List ℕ → ℕ → ℕ
line_at unit place = line_after (take place unit)

abbrev pub column_at : List ℕ → ℕ → ℕ
column_at unit place = column_after (take place unit)
