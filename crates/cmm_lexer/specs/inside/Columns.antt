-- The column that is reached past more bytes.
use Rattle.std.specs.Prelude.{ℕ, ◌==◌, ◌+◌, not, if◌then◌else◌, List, length}
use Rattle.std.specs.List.{suffix_len}
use Rattle.cmm_lexer.specs.Places.{ends_line, column_after}

-- the column after more bytes, from the column before them
abbrev pub column_past : ℕ → List ℕ → ℕ
column_past column bytes = if suffix_len (λ b. not (ends_line b)) bytes == length bytes then column + length bytes else column_after bytes
