-- What holds of the answer of steps that may fail, and of what may be missing: one lemma a combinator.
use Rattle.std.proofs.Common.{arith, ◌≡◌, Bool, true, false, Option, Some, None, Result, Ok, Err}
use Rattle.cmm_program.specs.Errors.{and_then, provided, given, with_some}

-- a property holds of the answer, if there is one
pub record KeptBy {A E : Type 0} (P : A → Type 0) (t : Result A E) : Type 0 where
  pub holds : (a : A) → t ≡ Ok a → P a

pub kept_ok : {A E : Type 0} {P : A → Type 0} {a : A} → P a → KeptBy {E = E} P (Ok a)
kept_ok p = grind arith

pub kept_err : {A E : Type 0} {P : A → Type 0} {e : E} → KeptBy P (Err e)
kept_err = grind arith

module _ {A B E : Type 0} {P : B → Type 0} where
  pub kept_and_then : (t : Result A E) (next : A → Result B E) → ((a : A) → t ≡ Ok a → KeptBy P (next a)) → KeptBy P (and_then t next)
  kept_and_then t next keeps = grind arith

  pub kept_given : (o : Option A) (error : E) (next : A → Result B E) → ((a : A) → o ≡ Some a → KeptBy P (next a)) → KeptBy P (given o error next)
  kept_given o error next keeps = grind arith

  -- after a value of which something holds
  pub kept_after : {Q : A → Type 0} {t : Result A E} {f : A → Result B E} → KeptBy Q t → ((a : A) → Q a → KeptBy P (f a)) → KeptBy P (and_then t f)
  kept_after here after = kept_and_then _ _ (λ a is. after a (here.holds a is))

pub kept_provided : {A E : Type 0} {P : A → Type 0} (test : Bool) (error : E) (next : Result A E) →
    (test ≡ true → KeptBy P next) → KeptBy P (provided test error next)
kept_provided test error next keeps = grind arith

-- a step that can fail in these ways only
pub ruleset keeping = (kept_and_then, kept_given, kept_provided, kept_ok, kept_err)

-- a property of the value, if there is one
pub record KeptIn {A : Type 0} (P : A → Type 0) (o : Option A) : Type 0 where
  pub holds : (a : A) → o ≡ Some a → P a

pub kept_some : {A : Type 0} {P : A → Type 0} {a : A} → P a → KeptIn P (Some a)
kept_some p = grind arith

pub kept_with_some : {A B : Type 0} {P : B → Type 0} (o : Option A) (next : A → Option B) →
    ((a : A) → o ≡ Some a → KeptIn P (next a)) → KeptIn P (with_some o next)
kept_with_some o next keeps = grind arith

-- where something stronger holds, and where a test does
pub kept_in : {A : Type 0} {P Q : A → Type 0} {o : Option A} → ((a : A) → P a → Q a) → KeptIn P o → KeptIn Q o
kept_in weaker here = record { holds = λ a is. weaker a (here.holds a is) }

pub kept_if : {A : Type 0} {P : A → Type 0} (test : Bool) (a : A) → (test ≡ true → P a) → KeptIn P (elim test [ true ↦ Some a | false ↦ None ])
kept_if test a holds = grind arith
