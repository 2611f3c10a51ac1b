-- Lines and columns after more bytes.
use Rattle.std.proofs.Common.{◌≡◌, ℕ, ◌+◌, ◌≤◌, ◌==◌, Bool, true, false, cond, List, ◌++◌, length, take, drop, reverse, refl, arith, not}
use Rattle.std.proofs.lemmas.Grind.{common_steps}
use Rattle.std.proofs.lemmas.List.{reverse-append, length-take}
use Rattle.std.proofs.lemmas.List.Folds.{prefix_len-append}
use Rattle.std.proofs.lemmas.List.Sums.{sum_by-append, count_by-le-length, suffix_len-le-length}
use Rattle.std.proofs.Math.Seq.{take-add}
use Rattle.std.specs.List.{count_by, suffix_len, prefix_len}
use Rattle.cmm_lexer.specs.Places.{ends_line, column_after, line_at, column_at}
use Rattle.cmm_lexer.specs.inside.Columns.{column_past}

-- the line after more bytes
pub line_at-add : (unit : List ℕ) (place n : ℕ) → line_at unit (place + n) ≡ line_at unit place + count_by ends_line (take n (drop place unit))
line_at-add unit place n = rw take-add (omega (arith, sum_by-append (λ b. cond (ends_line b) 1 0) (take place unit) (take n (drop place unit))))

length-reverse : (xs : List ℕ) → length (reverse xs) ≡ length xs
length-reverse xs = grind (arith, common_steps)

column_after-append : (xs ys : List ℕ) → column_after (xs ++ ys) ≡ column_past (column_after xs) ys
column_after-append xs ys =
    rw (reverse-append, prefix_len-append (λ b. not (ends_line b)) (reverse ys) (reverse xs), length-reverse ys)
    (by (prefix_len (λ b. not (ends_line b)) (reverse ys) == length ys))
  where
    by : (t : Bool) → 1 + cond t (length ys + suffix_len (λ b. not (ends_line b)) xs) (suffix_len (λ b. not (ends_line b)) ys) ≡ cond t (column_after xs + length ys) (column_after ys)
    by true = omega arith
    by false = refl

-- the column after more bytes
pub column_at-add : (unit : List ℕ) (place n : ℕ) → column_at unit (place + n) ≡ column_past (column_at unit place) (take n (drop place unit))
column_at-add unit place n = rw take-add (column_after-append (take place unit) (take n (drop place unit)))

-- a place's line is at most one more than its bytes before
pub line_at-le : (unit : List ℕ) (place : ℕ) → line_at unit place ≤ place + 1
line_at-le unit place = omega (arith, count_by-le-length ends_line (take place unit), length-take place unit)

pub column_at-le : (unit : List ℕ) (place : ℕ) → column_at unit place ≤ place + 1
column_at-le unit place = omega (arith, suffix_len-le-length (λ b. not (ends_line b)) (take place unit), length-take place unit)
