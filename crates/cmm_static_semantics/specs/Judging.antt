-- What an expression is judged to be: bits of a width or a condition, with names resolved, or broken; and what is wanted of it.
use Rattle.std.specs.Prelude.{ℕ, ◌==◌, true, false, List, [], ◌∷◌, Option, Some, None, Result, Ok, Err}
use Rattle.cmm_words.specs.declared.width.Width.{Width}
use Rattle.cmm_words.specs.Widths.{bits}
use Rattle.cmm_rules.specs.declared.rule.Rule.{Rule}
use Rattle.cmm_rules.specs.declared.rule.Rule.TheVariants.{WidthsDiffer, ConditionOrBitsWanted}
use Rattle.cmm_static_semantics.specs.declared.spot.Spot.{Spot}
use Rattle.cmm_static_semantics.specs.declared.judged.Bits.{Bits}
use Rattle.cmm_static_semantics.specs.declared.judged.Typed.{Typed}
use Rattle.cmm_static_semantics.specs.declared.judged.Typed.TheVariants as typed
use Rattle.cmm_static_semantics.specs.declared.judged.Operand.{Operand}
use Rattle.cmm_static_semantics.specs.Spots.{sooner}

-- a judgement, or where a rule is broken; no place where that is named elsewhere
abbrev pub Judged : Type 0 → Type 0
Judged A = Result A (Option Spot)

abbrev pub broken_at : Rule → ℕ → Option Spot
broken_at rule token = Some record { token = token; rule = rule }

abbrev pub faulty : {A : Type 0} → Rule → ℕ → Judged A
faulty rule token = Err (broken_at rule token)

abbrev pub with_ok : {A B : Type 0} → Judged A → (A → Judged B) → Judged B
with_ok (Ok a) next = next a
with_ok (Err broken) next = Err broken

-- what is broken in either is named before what is required of both
abbrev pub with_both : {A B C : Type 0} → Judged A → Judged B → (A → B → Judged C) → Judged C
with_both (Ok a) (Ok b) next = next a b
with_both (Ok a) (Err b) next = Err b
with_both (Err a) (Ok b) next = Err a
with_both (Err a) (Err b) next = Err (sooner a b)

-- the place that is named
abbrev pub spots : {A : Type 0} → Judged A → List Spot
spots (Err (Some s)) = s ∷ []
spots _ = []

-- what is judged well, if it is
abbrev pub if_ok : {A : Type 0} → Judged A → Option A
if_ok (Ok a) = Some a
if_ok (Err broken) = None

-- ---- what is wanted of an expression

-- 24: bits are wanted
abbrev pub as_bits : {E C : Type 0} → ℕ → Typed E C → Judged (Bits E)
as_bits token (typed.Bits x) = Ok x
as_bits token (typed.Test c) = faulty ConditionOrBitsWanted token

-- 24: a condition is wanted
abbrev pub as_test : {E C : Type 0} → ℕ → Typed E C → Judged (Option C)
as_test token (typed.Bits x) = faulty ConditionOrBitsWanted token
as_test token (typed.Test c) = Ok c

-- 23: bits of this width are wanted
abbrev pub of_width : {E : Type 0} → Width → ℕ → Bits E → Judged (Bits E)
of_width wanted token x = elim (bits x.width == bits wanted) [ true ↦ Ok x | false ↦ faulty WidthsDiffer token ]

-- 24, 23: bits are wanted, of this width where there is one
abbrev pub as_wanted : {E C : Type 0} → Option Width → ℕ → Typed E C → Judged (Bits E)
as_wanted None token t = as_bits token t
as_wanted (Some wanted) token t = with_ok (as_bits token t) (of_width wanted token)

abbrev pub bits_of : {E C : Type 0} → Operand E C → Judged (Bits E)
bits_of o = as_bits o.token o.typed

abbrev pub test_of : {E C : Type 0} → Operand E C → Judged (Option C)
test_of o = as_test o.token o.typed
