-- What is found before a change is made: where it goes, or the rule that refuses it.
use Rattle.std.specs.Prelude.{◌≡◌, ℕ, ◌+◌, ◌^◌, ◌==◌, not, nat_lt, true, false, List, [], length, slice_get, Result, Ok, Err, Option, Some, None}
use Rattle.cmm_rules.specs.declared.rule.Rule.{Rule}
use Rattle.cmm_rules.specs.declared.rule.Rule.TheVariants.{NoVariable, DeadVariable, DoesNotFit, NoExit, OtherCount, InvariantVariable, NoPlace}
use Rattle.cmm_words.specs.declared.width.Width.{Width}
use Rattle.cmm_words.specs.Widths.{bits}
use Rattle.rv_table.specs.Machine.{State}
use Rattle.cmm_abi.specs.Regions as regions
use Rattle.cmm_abi.specs.Regions.{Region, with_values}
use Rattle.cmm_script.specs.Lines.{ok_line, resume_line}
use Rattle.cmm_program.specs.Asking.{Cursor}
use Rattle.cmm_program.specs.Commands.{Resumes, Tears, all_fit, says}
use Rattle.cmm_program.specs.Errors.{and_then, given, provided, with_some}
use Rattle.cmm_program.specs.Layout.{bytes_of}
use Rattle.cmm_image.specs.declared.parts.ImageParts.{ImageParts}
use Rattle.cmm_image.specs.declared.rows.ContinuationNumber.{ContinuationNumber}
use Rattle.cmm_image.specs.declared.rows.ProcRow.{ProcRow}
use Rattle.cmm_image_machine.specs.Changes.{at_pc, continuation_row, data_written, label_named, may_poke, parameter_widths, unwound}
use Rattle.cmm_image_machine.specs.Frames.{Element}
use Rattle.cmm_image_machine.specs.Walks.{place_in}
use Rattle.cmm_walk.specs.declared.place.Place.{Place}
use Rattle.cmm_walk.specs.Activations.{place_of}
use Rattle.cmm_walk.specs.Walking.{break_of}
use Rattle.cmm_resume.specs.declared.refusal.Refusal.{Refusal}
use Rattle.cmm_resume.specs.declared.refusal.Refusal.TheVariants.{ByRule, Torn}
use Rattle.cmm_resume.specs.Answering.{Change}

-- What was found says what a command comes to: the program goes on in the state that is made of it, a rule refuses the command, or the chain of
-- frames breaks.
abbrev pub Finds : {T : Type 0} → Change → (T → State) → Result T Refusal → Type 0
Finds change made (Ok found) = change ≡ Ok record { text = resume_line; after = Resumes (made found) }
Finds change made (Err (ByRule rule)) = change ≡ Err rule
Finds change made (Err (Torn t)) = change ≡ Ok record { text = []; after = Tears (break_of t) }

-- ---- a variable that is set

-- the place of a variable, if it may have a value
abbrev pub settable : Element → ℕ → ℕ → Result regions.Place Rule
settable e n value =
    given (slice_get e.procedure.variables n) NoVariable (λ v.
    provided (not v.invariant) InvariantVariable
    (given (with_some (slice_get e.site.variables n) (place_in e)) DeadVariable (λ place.
    provided (nat_lt value (2 ^ bits v.width)) DoesNotFit (Ok place))))

-- this place, or this rule
abbrev pub FindsPlace : Result regions.Place Rule → Result Place Rule → Type 0
FindsPlace place (Ok p) = place ≡ Ok (place_of p)
FindsPlace place (Err rule) = place ≡ Err rule

-- ---- data that is written

-- the address so far behind an exported label, where so many bytes may be written there, in data of this length
abbrev pub label_place : ℕ → ImageParts → List ℕ → ℕ → ℕ → Option ℕ
label_place data_length i name offset count = with_some (label_named i name) (λ l.
    elim (may_poke data_length (l.address + offset) count) [ true ↦ Some (l.address + offset) | false ↦ None ])

-- the client's `poke`, in data of this length
abbrev pub poking_in : ℕ → ImageParts → Cursor Element → State → List ℕ → ℕ → ℕ → Change
poking_in data_length i cursor s name offset value = given (data_written data_length i s name offset (bytes_of 8 value)) NoPlace (says ok_line cursor)

-- ---- exits

-- values fit these widths, or break a rule
abbrev pub taken : List Width → List ℕ → Result (Unit {0}) Rule
taken widths values = provided (length widths == length values) OtherCount (provided (all_fit widths values) DoesNotFit (Ok tt))

-- those of an exit, where it is there
abbrev pub checked : Option (List Width) → List ℕ → Result (Unit {0}) Rule
checked widths values = given widths NoExit (λ ws. taken ws values)

-- the widths of a continuation's parameters, where it is there
abbrev pub continuation_widths : ProcRow → ContinuationNumber → Option (List Width)
continuation_widths p k = with_some (continuation_row p k) (λ c. Some (parameter_widths p c))

-- where control goes at an unwind exit that takes these values
abbrev pub landing_of : Element → ℕ → List ℕ → Result ℕ Rule
landing_of e n values = given (slice_get e.site.unwinds n) NoExit (λ u.
    and_then (checked (continuation_widths e.procedure u.continuation) values) (λ done. Ok u.landing))

-- the state once an activation goes on at a landing
abbrev pub landed : Region → State → Element → ℕ → List ℕ → State
landed r s e landing values = at_pc landing (with_values r values record s { registers = unwound e s })
