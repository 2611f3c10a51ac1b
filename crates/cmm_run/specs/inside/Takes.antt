-- What a request for a byte of the input comes to.
use Rattle.std.specs.Prelude.{◌≡◌, ◌<◌, ℕ, Bool, true, List, [], ◌∷◌, ◌++◌, drop, IfSome, Option, Some, None}
use Rattle.std.specs.List.{All}
use Rattle.cmm_abi.specs.declared.registers.TheConstants.{REQUEST_VALUE}
use Rattle.rv_table.specs.Machine.{State, with_set}
use Rattle.cmm_outside.specs.Faults.{Rose}
use Rattle.cmm_program.specs.Performing.{next_byte}
use Rattle.cmm_run.specs.declared.outcome.Outcome.{Outcome}
use Rattle.cmm_run.specs.declared.outcome.Outcome.TheVariants.{InputFault}

-- bytes that may be left of an input: none where it has ended
abbrev pub MayBeLeft : Bool → List ℕ → Type 0
MayBeLeft ended rest = ended ≡ true → rest ≡ []

-- the source has given its next byte, or had none
abbrev pub GivesNext : Option (List ℕ) → Option (List ℕ) → Option ℕ → Type 0
GivesNext before after (Some byte) = (byte < 256) × IfSome before (λ left. (left ≡ byte ∷ drop 1 left) × (after ≡ Some (drop 1 left)))
GivesNext before after None = IfSome before (λ left. (left ≡ []) × (after ≡ Some []))

-- These bytes were taken, between what the source tells before and after and whether the input has ended. Where it has, none are.
pub record HasTaken (before after : Option (List ℕ)) (ended ended_then : Bool) (taken : List ℕ) : Type 0 where
  pub told : (left : List ℕ) → before ≡ Some left → MayBeLeft ended left → (rest : List ℕ) × (left ≡ taken ++ rest) × (after ≡ Some rest) × MayBeLeft ended_then rest
  pub bytes : All (λ byte. byte < 256) taken
  pub still : ended ≡ true → (taken ≡ []) × (ended_then ≡ true)

-- of an input that is these bytes and then the rest: the byte is in the register for it and the run goes on with the rest, or nothing is taken
abbrev pub Takes : State → State → List ℕ → List ℕ → Option Outcome → Type 0
Takes before after taken rest None = (after ≡ with_set before REQUEST_VALUE (next_byte (taken ++ rest))) × (rest ≡ drop 1 (taken ++ rest))
Takes before after taken rest (Some outcome) = (outcome ≡ InputFault) × (taken ≡ [])

-- a request for a byte is done: of some bytes that it took
pub record HasAsked (before after : State) (left left_then : Option (List ℕ)) (ended ended_then : Bool) (result : Option Outcome) : Type 0 where
  pub bytes : List ℕ
  pub taken : HasTaken left left_then ended ended_then bytes
  pub takes : (rest : List ℕ) → MayBeLeft ended_then rest → Takes before after bytes rest result

abbrev pub TakeFails : ℕ → ℕ → Option Outcome → Type 0
TakeFails before after None = after ≡ before
TakeFails before after (Some outcome) = (outcome ≡ InputFault) × Rose before after
