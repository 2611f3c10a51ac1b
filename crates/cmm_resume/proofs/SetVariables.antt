-- A variable is set where it may be.
use Rattle.std.proofs.Common.{◌≡◌, ℕ, ◌^◌, not, nat_lt, Bool, true, false, List, length, slice_get, Result, Ok, Option, Some, None, refl, ap, ◌∙◌}
use Rattle.cmm_rules.specs.declared.rule.Rule.{Rule}
use Rattle.cmm_rules.specs.declared.rule.Rule.TheVariants.{NoVariable, DeadVariable, DoesNotFit, InvariantVariable}
use Rattle.cmm_words.specs.Widths.{bits}
use Rattle.cmm_words.specs.declared.width.Width.{Width}
use Rattle.rv_table.specs.Machine.{State}
use Rattle.cmm_abi.specs.Regions.{Place, with_word}
use Rattle.cmm_script.specs.Lines.{ok_line}
use Rattle.cmm_script.specs.Walk.{Shown}
use Rattle.cmm_program.specs.Asking.{Cursor}
use Rattle.cmm_program.specs.Commands.{says}
use Rattle.cmm_program.specs.Errors.{and_then, given, provided, with_some}
use Rattle.cmm_image.specs.declared.rows.VariableRow.{VariableRow}
use Rattle.cmm_image_machine.specs.Changes.{with_variable}
use Rattle.cmm_image_machine.specs.Frames.{Element}
use Rattle.cmm_image_machine.specs.Walks.{place_in, value_at, variables_shown}
use Rattle.cmm_walk.proofs.Shared.{shown_at}
use Rattle.cmm_resume.specs.Answering.{Change}
use Rattle.cmm_resume.specs.Finding.{settable}
use Rattle.cmm_resume.specs.Laws.{SetsAreFound}

module _ (s : State) (cursor : Cursor Element) (e : Element) (n v : ℕ) where
  -- by what is shown, and the state once it is set
  abbrev said : Option Shown → State → Change
  said shown after =
      given shown NoVariable (λ variable.
      provided (not variable.invariant) InvariantVariable
      (given variable.value DeadVariable (λ old.
      provided (nat_lt v (2 ^ variable.width)) DoesNotFit (says ok_line cursor after))))

  abbrev pub done : Result Place Rule → Change
  done found = and_then found (λ place. says ok_line cursor (with_word place v s))

  abbrev shown_by : Option VariableRow → Option Place → Option Shown
  shown_by o q = with_some o (λ row. Some record { width = bits row.width; kind = row.kind; invariant = row.invariant; value = value_at s row.width q })

  abbrev after_by : Option Place → State
  after_by q = elim q [ Some place ↦ with_word place v s | None ↦ s ]

  abbrev found_by : Option VariableRow → Option Place → Result Place Rule
  found_by o q = given o NoVariable (λ row. provided (not row.invariant) InvariantVariable (given q DeadVariable (λ place. provided (nat_lt v (2 ^ bits row.width)) DoesNotFit (Ok place))))

  fit_then : (b : Bool) (place : Place) →
      ◌≡◌ {A = Change} (provided b DoesNotFit (says ok_line cursor (with_word place v s))) (done (provided b DoesNotFit (Ok place)))
  fit_then true place = refl
  fit_then false place = refl

  fixed_then : (width : Width) (kind : List ℕ) (fixed : Bool) (q : Option Place) → let row : VariableRow = record { width = width; invariant = fixed; kind = kind } in
      said (shown_by (Some row) q) (after_by q) ≡ done (found_by (Some row) q)
  fixed_then width kind true q = refl
  fixed_then width kind false None = refl
  fixed_then width kind false (Some place) = fit_then (nat_lt v (2 ^ bits width)) place

  by : (o : Option VariableRow) (q : Option Place) → said (shown_by o q) (after_by q) ≡ done (found_by o q)
  by None q = refl
  by (Some row) q = fixed_then row.width row.kind row.invariant q

  pub set_is : length e.site.variables ≡ length e.procedure.variables →
      said (slice_get (variables_shown s e e.procedure.variables e.site.variables) n) (with_variable s e n v) ≡ done (settable e n v)
  set_is count =
      ap (λ (o : Option Shown). said o (with_variable s e n v)) (shown_at s e e.procedure.variables e.site.variables n count)
      ∙ by (slice_get e.procedure.variables n) (with_some (slice_get e.site.variables n) (place_in e))

pub sets_are_found : SetsAreFound
sets_are_found i r s cursor e n v count = set_is s cursor e n v count
