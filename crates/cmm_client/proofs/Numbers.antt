-- The numbers that a command is given.
use Rattle.std.proofs.Common.{◌≡◌, ◌+◌, ℕ, suc, List, [], ◌∷◌, ◌++◌, take, drop, length, Result, Ok, Err, Option, Some, None, refl, sym, ap, ◌∙◌, append_assoc, append-nil, add-one}
use Rattle.std.specs.Option.{ok_or}
use Rattle.cmm_rules.specs.declared.rule.Rule.{Rule}
use Rattle.cmm_rules.specs.declared.rule.Rule.TheVariants.{NoActivation}
use Rattle.cmm_script.specs.declared.script.Value.{Value}
use Rattle.cmm_program.specs.Commands.{number_given, numbers_given}
use Rattle.cmm_program.specs.Errors.{and_then}
use Rattle.cmm_walk.specs.declared.activation.Activation.{Activation}
use Rattle.cmm_resume.specs.declared.refusal.Refusal.{Refusal}
use Rattle.cmm_resume.specs.declared.refusal.Refusal.TheVariants.{ByRule}
use Rattle.cmm_client.specs.declared.cursor.Cursor.{Cursor}
use Rattle.cmm_client.specs.inside.Replies.{first_numbers, ruled, standing_at}

-- what was given is this, or the rule that refuses it
pub given_ok : {A : Type 0} (given : Result A Rule) (a : A) → ruled given ≡ Ok a → given ≡ Ok a
given_ok (Ok b) a is = let same : b ≡ a = cc is in ap Ok same
given_ok (Err rule) a is = absurd (cc is)

pub numbers_ok : (given : Result (List ℕ) Rule) (count : ℕ) (numbers : List ℕ) → first_numbers count (Ok numbers) ≡ ruled given → given ≡ Ok (take count numbers)
numbers_ok given count numbers is = given_ok given (take count numbers) (sym is)

-- ---- one after the other

-- these before all of the others
abbrev pub before : List ℕ → Result (List ℕ) Rule → Result (List ℕ) Rule
before xs (Ok ys) = Ok (xs ++ ys)
before xs (Err rule) = Err rule

one_before : (xs : List ℕ) (n : ℕ) (rest : Result (List ℕ) Rule) → before xs (and_then rest (λ ys. Ok (n ∷ ys))) ≡ before (xs ++ n ∷ []) rest
one_before xs n (Ok ys) = ap Ok (sym (append_assoc xs (n ∷ []) ys))
one_before xs n (Err rule) = refl

module _ (yielded : List ℕ) (values : List Value) where
  -- the numbers so far, and what is left to give
  abbrev pub SoFar : ℕ → List ℕ → Type 0
  SoFar k numbers = numbers_given yielded values ≡ before (take k numbers) (numbers_given yielded (drop k values))

  pub goes_on : (k : ℕ) (v : Value) (n : ℕ) (numbers next : List ℕ) → drop k values ≡ v ∷ drop (suc k) values → number_given yielded v ≡ Ok n → SoFar k numbers →
      take (k + 1) next ≡ take k numbers ++ n ∷ [] → SoFar (k + 1) next
  goes_on k v n numbers next here is so_far more =
      so_far
      ∙ ap (λ (vs : List Value). before (take k numbers) (numbers_given yielded vs)) here
      ∙ ap (λ (given : Result ℕ Rule). before (take k numbers) (and_then given (λ a. and_then (numbers_given yielded (drop (suc k) values)) (λ rest. Ok (a ∷ rest))))) is
      ∙ one_before (take k numbers) n (numbers_given yielded (drop (suc k) values))
      ∙ ap (λ (xs : List ℕ). before xs (numbers_given yielded (drop (suc k) values))) (sym more)
      ∙ ap (λ (j : ℕ). before (take (k + 1) next) (numbers_given yielded (drop j values))) (sym (add-one k))

  pub refused : (k : ℕ) (v : Value) (rule : Rule) (numbers : List ℕ) → drop k values ≡ v ∷ drop (suc k) values → number_given yielded v ≡ Err rule → SoFar k numbers →
      numbers_given yielded values ≡ Err rule
  refused k v rule numbers here is so_far =
      so_far
      ∙ ap (λ (vs : List Value). before (take k numbers) (numbers_given yielded vs)) here
      ∙ ap (λ (given : Result ℕ Rule). before (take k numbers) (and_then given (λ a. and_then (numbers_given yielded (drop (suc k) values)) (λ rest. Ok (a ∷ rest))))) is

  pub all_given : (numbers : List ℕ) → SoFar (length values) numbers → drop (length values) values ≡ [] → numbers_given yielded values ≡ Ok (take (length values) numbers)
  all_given numbers so_far none =
      so_far ∙ ap (λ (vs : List Value). before (take (length values) numbers) (numbers_given yielded vs)) none
      ∙ ap Ok (append-nil (take (length values) numbers))

-- a number that is refused is refused by a rule
pub refused_by : (given : Result ℕ Rule) (e : Refusal) → ruled given ≡ Err e → (rule : Rule) × (given ≡ Err rule) × (e ≡ ByRule rule)
refused_by (Ok n) e is = absurd (cc is)
refused_by (Err rule) e is = let same : ByRule rule ≡ e = cc is in (rule, refl, sym same)

-- the numbers of an array that were given
pub numbers_were : (given : Result (List ℕ) Rule) (count : ℕ) (result : Result (List ℕ) Refusal) (numbers : List ℕ) → first_numbers count result ≡ ruled given → result ≡ Ok numbers →
    given ≡ Ok (take count numbers)
numbers_were given count result numbers is was = numbers_ok given count numbers (ap (first_numbers count) (sym was) ∙ is)

-- the activation at the cursor
pub cursor_is : (cursor : Cursor) (a : Activation) (result : Result Activation Refusal) → result ≡ standing_at cursor → result ≡ Ok a → cursor.activation ≡ Some a
cursor_is cursor a result is was = by cursor.activation (sym is ∙ was)
  where
    by : (o : Option Activation) → ok_or o (ByRule NoActivation) ≡ Ok a → o ≡ Some a
    by (Some b) both = let same : b ≡ a = cc in ap Some same
    by None both = absurd (cc both)
