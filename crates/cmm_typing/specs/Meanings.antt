-- What names mean in a scope that is a list, in which the last entry of a name counts, and what is answered of an expression in it.
use mathlib.Core.List.{reverse}
use Rattle.std.specs.Prelude.{◌≡◌, ℕ, List, bytes_eq, option_map, Option, Some, None, Result, Ok, Err}
use Rattle.std.specs.List.{find}
use Rattle.cmm_rules.specs.Rules.{rule_number}
use Rattle.cmm_static_semantics.specs.declared.known.Known.{Known}
use Rattle.cmm_static_semantics.specs.declared.judged.Typed.{Typed}
use Rattle.cmm_static_semantics.specs.declared.judged.Typed.TheVariants as typed
use Rattle.cmm_static_semantics.specs.declared.sense.Sense.{Sense}
use Rattle.cmm_static_semantics.specs.declared.sense.Sense.TheVariants as senses
use Rattle.cmm_static_semantics.specs.declared.sense.Host.TheVariants.{Yield}
use Rattle.cmm_static_semantics.specs.declared.spot.Spot.{Spot}
use Rattle.cmm_static_semantics.specs.Senses.{Senses}
use Rattle.cmm_static_semantics.specs.Judging.{Judged}
use Rattle.cmm_typing.specs.declared.meaning.Meaning.{Meaning}
use Rattle.cmm_typing.specs.declared.meaning.Meaning.TheVariants.{Variable, Register, Value, Stack, Continuation, Typedef, CodeLabel, Host}
use Rattle.cmm_typing.specs.declared.meaning.ExprType.{ExprType}
use Rattle.cmm_typing.specs.declared.meaning.ExprType.TheVariants.{Bits, Bool}
use Rattle.cmm_typing.specs.declared.meaning.TypeFault.{TypeFault}

-- which procedure of the host it is makes no difference to a type
abbrev pub sense_of : Meaning → Sense
sense_of (Variable n width) = senses.Variable n (Some width)
sense_of (Register n width) = senses.Register n (Some width)
sense_of (Value c) = senses.Value c
sense_of (Stack n) = senses.Stackdata n
sense_of (Continuation n) = senses.Continuation n
sense_of (Typedef width) = senses.Typedef (Some width)
sense_of CodeLabel = senses.CodeLabel
sense_of Host = senses.Host Yield

abbrev pub meaning_in : List (List ℕ × Meaning) → List ℕ → Option Meaning
meaning_in entries name = option_map (λ e. e.1) (find (λ e. bytes_eq e.0 name) (reverse entries))

abbrev pub senses_of : List (List ℕ × Meaning) → Senses
senses_of entries name = option_map sense_of (meaning_in entries name)

-- ---- answers

abbrev pub type_shown : Typed Known (Unit {0}) → ExprType
type_shown (typed.Bits x) = Bits x.width
type_shown (typed.Test c) = Bool

abbrev pub fault_of : Spot → TypeFault
fault_of s = record { rule = rule_number s.rule; token = s.token }

-- the answer is what is judged, or the rule that is broken. In a scope nothing is broken elsewhere.
abbrev pub Answers : {A B : Type 0} → (A → B) → Judged A → Result B TypeFault → Type 0
Answers shown (Ok a) answer = answer ≡ Ok (shown a)
Answers shown (Err (Some s)) answer = answer ≡ Err (fault_of s)
Answers shown (Err None) answer = ⊥
