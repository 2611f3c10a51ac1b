-- What the words of a line mean, from the first word on.
use Rattle.std.specs.Prelude.{◌≡◌, ℕ, true, false, nat_lt, List, [], ◌∷◌, length, Option, Some, None, Result, Ok, Err}
use Rattle.cmm_script.specs.declared.fault.Unread.{Unread}
use Rattle.cmm_script.specs.declared.fault.Unread.TheVariants as unread
use Rattle.cmm_script.specs.declared.keyword.Keyword.{Keyword}
use Rattle.cmm_script.specs.declared.keyword.Keyword.TheVariants as keyword
use Rattle.cmm_script.specs.declared.line.Line.{Line}
use Rattle.cmm_script.specs.declared.line.Line.TheVariants.{Begins, Does}
use Rattle.cmm_script.specs.declared.script.Command.TheVariants as command
use Rattle.cmm_script.specs.declared.script.Value.{Value}
use Rattle.cmm_script.specs.Words.{Word}
use Rattle.cmm_script.specs.Numbers.{number_of, index_of, value_of}
use Rattle.cmm_script.specs.inside.Keywords.{keyword_of}

-- what a function returned is what words mean, unless memory ran out
abbrev pub Reads : {X : Type 0} → Result X Unread → Option X → Type 0
Reads (Ok x) meant = meant ≡ Some x
Reads (Err unread.Form) meant = meant ≡ None
Reads (Err unread.Memory) meant = Unit {0}

-- the same, where what was returned is seen by view
abbrev pub Gives : {X Y : Type 0} → (X → Y) → Result X Unread → Option Y → Type 0
Gives view (Ok x) meant = meant ≡ Some (view x)
Gives view (Err unread.Form) meant = meant ≡ None
Gives view (Err unread.Memory) meant = Unit {0}

infixl 10 ◌>>=◌
abbrev pub ◌>>=◌ : {A B : Type 0} → Option A → (A → Option B) → Option B
(Some x) >>= f = f x
None >>= f = None

-- ---- operands

-- a line whose keyword stands alone
abbrev pub alone : List Word → Line → Option Line
alone [] line = Some line
alone (w ∷ ws) line = None

abbrev pub one : List Word → Option Word
one [] = None
one (a ∷ []) = Some a
one (a ∷ b ∷ ws) = None

abbrev pub two : List Word → Option (Word × Word)
two [] = None
two (a ∷ []) = None
two (a ∷ b ∷ []) = Some (a, b)
two (a ∷ b ∷ c ∷ ws) = None

abbrev pub three : List Word → Option (Word × Word × Word)
three [] = None
three (a ∷ []) = None
three (a ∷ b ∷ []) = None
three (a ∷ b ∷ c ∷ []) = Some (a, b, c)
three (a ∷ b ∷ c ∷ d ∷ ws) = None

abbrev pub each_value : List Word → Option (List Value)
each_value [] = Some []
each_value (w ∷ ws) = value_of w >>= λ v. each_value ws >>= λ vs. Some (v ∷ vs)

-- at most 64 values
unfoldable pub values_of : List Word → Option (List Value)
values_of ws = elim (nat_lt 64 (length ws)) [ true ↦ None | false ↦ each_value ws ]

unfoldable pub exit_of : List Word → Option (ℕ × List Value)
exit_of [] = None
exit_of (w ∷ ws) = index_of w >>= λ n. values_of ws >>= λ vs. Some (n, vs)

unfoldable pub cut_of : List Word → Option (Value × List Value)
cut_of [] = None
cut_of (w ∷ ws) = value_of w >>= λ v. values_of ws >>= λ vs. Some (v, vs)

-- ---- lines

unfoldable pub line_as : Keyword → List Word → Option Line
line_as keyword.At ws = one ws >>= λ w. number_of w >>= λ code. Some (Begins (Some code))
line_as keyword.Other ws = alone ws (Begins None)
line_as keyword.List ws = alone ws (Does command.List)
line_as keyword.Youngest ws = alone ws (Does command.Youngest)
line_as keyword.Next ws = alone ws (Does command.Next)
line_as keyword.Desc ws = one ws >>= λ w. number_of w >>= λ t. Some (Does (command.Desc t))
line_as keyword.Seek ws = two ws >>= λ w. number_of w.0 >>= λ t. value_of w.1 >>= λ v. Some (Does (command.Seek t v))
line_as keyword.Var ws = one ws >>= λ w. index_of w >>= λ n. Some (Does (command.Var n))
line_as keyword.Set ws = two ws >>= λ w. index_of w.0 >>= λ n. value_of w.1 >>= λ v. Some (Does (command.Set n v))
line_as keyword.Poke ws = three ws >>= λ w. number_of w.1 >>= λ o. value_of w.2 >>= λ v. Some (Does (command.Poke w.0 o v))
line_as keyword.Return ws = exit_of ws >>= λ e. Some (Does (command.Return e.0 e.1))
line_as keyword.Unwind ws = exit_of ws >>= λ e. Some (Does (command.Unwind e.0 e.1))
line_as keyword.Cut ws = cut_of ws >>= λ e. Some (Does (command.Cut e.0 e.1))
line_as keyword.Stop ws = alone ws (Does command.Stop)

-- what the words of a line mean
unfoldable pub line_of : List Word → Option Line
line_of [] = None
line_of (w ∷ ws) = keyword_of w >>= λ k. line_as k ws
