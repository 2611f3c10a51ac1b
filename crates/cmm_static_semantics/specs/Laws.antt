-- What holds of the static rules, whatever the units.
use Rattle.std.specs.Prelude.{◌≡◌, List, ◌++◌, Option, option_map, Ok, Err}
use Rattle.cmm_ast.specs.declared.expression.Expr.{Expr}
use Rattle.cmm_static_semantics.specs.declared.spot.Spot.{Spot}
use Rattle.cmm_static_semantics.specs.declared.judged.Bits.{Bits}
use Rattle.cmm_static_semantics.specs.declared.judged.Typed.{Typed}
use Rattle.cmm_static_semantics.specs.declared.judged.Typed.TheVariants as typed
use Rattle.cmm_static_semantics.specs.Spots.{first_of}
use Rattle.cmm_static_semantics.specs.Senses.{Senses}
use Rattle.cmm_static_semantics.specs.Algebras.{knowns, expressions}
use Rattle.cmm_static_semantics.specs.Judging.{Judged}
use Rattle.cmm_static_semantics.specs.Typing.{expr_type}

-- the first of faults and of more is the first of all
abbrev pub FirstOfMore : Type 0
FirstOfMore = (best : Option Spot) (some more : List Spot) → first_of (first_of best some) more ≡ first_of best (some ++ more)

-- ---- a judgement but for what stands for its values: only whether something does

abbrev pub presence : {A : Type 0} → Option A → Option (Unit {0})
presence o = option_map (λ a. tt) o

abbrev pub bits_presence : {E : Type 0} → Bits E → Bits (Unit {0})
bits_presence x = record { width = x.width; value = presence x.value }

abbrev pub typed_presence : {E C : Type 0} → Typed E C → Typed (Unit {0}) (Unit {0})
typed_presence (typed.Bits x) = typed.Bits (bits_presence x)
typed_presence (typed.Test c) = typed.Test (presence c)

abbrev pub judged_map : {A B : Type 0} → (A → B) → Judged A → Judged B
judged_map f (Ok a) = Ok (f a)
judged_map f (Err broken) = Err broken

-- an expression is judged alike, whether what is known of values or expressions with names resolved stand for them
abbrev pub JudgedAlike : Type 0
JudgedAlike = (names : Senses) (e : Expr) → judged_map typed_presence (expr_type knowns names e) ≡ judged_map typed_presence (expr_type expressions names e)
