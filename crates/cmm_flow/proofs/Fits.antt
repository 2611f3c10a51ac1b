-- What expressions give where values fit: words of the widths at which nodes compute, so that the tests of the machine over graphs hold.
use Rattle.std.proofs.Common.{◌≡◌, ℕ, ◌^◌, ◌<◌, nat_lt, Bool, true, false, IsTrue, Ok, Option, Some, None, List, ◌∷◌, refl, ap, ◌∙◌, subst, arith}
use Rattle.std.proofs.lemmas.Bool.{and_parts}
use Rattle.std.specs.List.{list_all}
use Rattle.std.proofs.lemmas.Bool.Decides.{nat_tests}
use mathlib.Core.Former.{one_more}
use Rattle.cmm_words.proofs.Shared.{word_64}
use Rattle.cmm_words.specs.declared.width.Width.{Width}
use Rattle.cmm_words.specs.declared.width.Width.TheVariants.{W64}
use Rattle.cmm_words.specs.Widths.{IsWord, bits}
use Rattle.cmm_program.specs.declared.expression.Expression.{Expression, Row_of-Expression, more_of-Expression}
use Rattle.cmm_program.specs.declared.expression.Expression.TheVariants.{Load', Unary', Binary', SignExtend', ZeroExtend', LowBits'}
use Rattle.cmm_program.specs.declared.procedure.Proc.{Proc}
use Rattle.cmm_program.specs.declared.program.Program.{Program}
use Rattle.cmm_program.specs.Errors.{Tried, WrongValues, and_then, provided}
use Rattle.cmm_program.specs.Folds.{fold_operand}
use Rattle.cmm_program.specs.State.{Setting, Store}
use Rattle.cmm_program.specs.Typing.{has_width, is_typed, same_width, typed}
use Rattle.cmm_program.specs.Values.{Reads, Value, value_of, value_step}
use Rattle.cmm_program.specs.Writes.{reads_of}
use Rattle.cmm_graph.specs.Values.{word_of}

-- In a store, the value of each expression of a procedure that keeps the rules on widths fits its width.
pub record IsFit (s : Setting) (q : Proc) (store : Store) : Type 0 where
  pub values : (e : Expression) (w : Width) (v : ℕ) → typed s.program q e ≡ Some w → value_of e (reads_of s store) ≡ Ok v → IsWord w v

-- ---- tests of words

abbrev if_word : ℕ → Bool → Tried ℕ
if_word v holds = provided holds WrongValues (Ok v)

abbrev only_words : Width → Tried ℕ → Tried ℕ
only_words w tried = and_then tried (λ v. if_word v (nat_lt v (2 ^ bits w)))

-- a value that is a word passes
pub word_passes : (w : Width) (value : Value) (r : Reads) (v : ℕ) → value r ≡ Ok v → IsWord w v → word_of w value r ≡ Ok v
word_passes w value r v is less = let holds : nat_lt v (2 ^ bits w) ≡ true = grind (arith, nat_tests, less) in ap (only_words w) is ∙ ap (if_word v) holds

-- ---- widths of operands

abbrev is_width : Width → Option Width → Bool
is_width w found = elim found [ Some f ↦ same_width f w | None ↦ false ]

abbrev is_there : Option Width → Bool
is_there found = elim found [ Some f ↦ true | None ↦ false ]

module _ (p : Program) (q : Proc) where
  -- an expression keeps the rules on widths, and several do
  abbrev pub IsTyped : Expression → Type 0
  IsTyped e = IsTrue (is_typed p q e)

  abbrev pub AreTyped : List Expression → Type 0
  AreTyped es = IsTrue (list_all (is_typed p q) es)

  pub first_typed : (e : Expression) (es : List Expression) → AreTyped (e ∷ es) → IsTyped e
  first_typed e es are = (and_parts (is_typed p q e) (list_all (is_typed p q) es) are).0

  pub others_typed : (e : Expression) (es : List Expression) → AreTyped (e ∷ es) → AreTyped es
  others_typed e es are = (and_parts (is_typed p q e) (list_all (is_typed p q) es) are).1

  -- an operand has a width
  abbrev pub HasPart : {n : _} → Width → Row_of-Expression (one_more n) → Type 0
  HasPart w (more_of-Expression a rest) = IsTrue (has_width p q w a)

  -- each operand of an operator has the width that the operator asks for
  abbrev pub HasParts : Expression → Type 0
  HasParts (Load' width aligned _ a) = HasPart W64 a
  HasParts (Unary' op width _ a) = HasPart width a
  HasParts (Binary' op width _ a _ b) = HasPart width a × HasPart width b
  HasParts (SignExtend' from to _ a) = HasPart from a
  HasParts (ZeroExtend' from to _ a) = HasPart from a
  HasParts (LowBits' from to _ a) = HasPart from a
  HasParts _ = Unit {0}

  pub has_parts : (e : Expression) → IsTyped e → HasParts e
  has_parts (Load' width aligned _ (more_of-Expression a _)) is = grind (arith, nat_tests, is)
  has_parts (Unary' op width _ (more_of-Expression a _)) is = grind (arith, nat_tests, is)
  has_parts (Binary' op width _ (more_of-Expression a _) _ (more_of-Expression b _)) is = (grind (arith, nat_tests, is), grind (arith, nat_tests, is))
  has_parts (SignExtend' from to _ (more_of-Expression a _)) is = grind (arith, nat_tests, is)
  has_parts (ZeroExtend' from to _ (more_of-Expression a _)) is = grind (arith, nat_tests, is)
  has_parts (LowBits' from to _ (more_of-Expression a _)) is = grind (arith, nat_tests, is)
  has_parts e is = tt

  -- what has a width keeps the rules
  pub typed_with : (w : Width) (e : Expression) → IsTrue (has_width p q w e) → IsTyped e
  typed_with w e has = by (typed p q e) has
    where
      by : (o : Option Width) → IsTrue (is_width w o) → IsTrue (is_there o)
      by (Some found) has = refl
      by None has = has

-- ---- values of expressions

module _ {s : Setting} {q : Proc} {store : Store} (fit : IsFit s q store) where
  -- an expression of a width
  pub word_given : (w : Width) (e : Expression) (v : ℕ) → IsTrue (has_width s.program q w e) → value_of e (reads_of s store) ≡ Ok v → IsWord w v
  word_given w e v has is = by (typed s.program q e) refl has
    where
      by : (o : Option Width) → typed s.program q e ≡ o → IsTrue (is_width w o) → IsWord w v
      by (Some found) same holds = let equal : bits found ≡ bits w = grind (arith, nat_tests, holds) in subst (λ n. v < 2 ^ n) equal (fit.values e found v same is)
      by None same holds = grind (arith, holds)

  -- one of any width
  pub small_given : (e : Expression) (v : ℕ) → IsTyped s.program q e → value_of e (reads_of s store) ≡ Ok v → v < 2 ^ 64
  small_given e v are is = by (typed s.program q e) refl are
    where
      by : (o : Option Width) → typed s.program q e ≡ o → IsTrue (is_there o) → v < 2 ^ 64
      by (Some found) same holds = word_64 found v (fit.values e found v same is)
      by None same holds = grind (arith, holds)

  -- an operand
  pub part_given : {i : _} (w : Width) (a : Row_of-Expression (one_more i)) (v : ℕ) → HasPart s.program q w a → fold_operand value_step a (reads_of s store) ≡ Ok v → IsWord w v
  part_given w (more_of-Expression a rest) v has is = word_given w a v has is
