-- An unwind exit, by where it lands.
use Rattle.std.proofs.Common.{◌≡◌, ℕ, List, slice_get, Result, Ok, Err, Option, Some, None, refl, ap, ◌∙◌}
use Rattle.cmm_rules.specs.declared.rule.Rule.{Rule}
use Rattle.cmm_rules.specs.declared.rule.Rule.TheVariants.{NoExit}
use Rattle.rv_table.specs.Machine.{State}
use Rattle.cmm_script.specs.Lines.{resume_line}
use Rattle.cmm_program.specs.Errors.{and_then, given, with_some}
use Rattle.cmm_image.specs.declared.rows.ContinuationRow.{ContinuationRow}
use Rattle.cmm_image.specs.declared.rows.UnwindRow.{UnwindRow}
use Rattle.cmm_image_machine.specs.Changes.{continuation_row, parameter_widths, unwind_exit}
use Rattle.cmm_program.specs.Commands.{Resumes, resumed}
use Rattle.cmm_image_machine.specs.Frames.{Element}
use Rattle.cmm_abi.specs.Regions.{Region}
use Rattle.cmm_resume.specs.Answering.{Change}
use Rattle.cmm_resume.specs.Finding.{checked, continuation_widths, landed, landing_of}
use Rattle.cmm_resume.specs.Laws.{UnwindsAreFound}
use Rattle.cmm_resume.proofs.Answering.{resumed_err, resumed_ok}

module _ (r : Region) (s : State) (e : Element) (values : List ℕ) where
  abbrev exit_at : Option UnwindRow → Change
  exit_at o = resumed (with_some o (λ u. with_some (continuation_row e.procedure u.continuation) (λ c.
      Some record { widths = parameter_widths e.procedure c; resumed = λ values. landed r s e u.landing values }))) values

  abbrev landing_at : Option UnwindRow → Result ℕ Rule
  landing_at o = given o NoExit (λ u. and_then (checked (continuation_widths e.procedure u.continuation) values) (λ done. Ok u.landing))

  row_by : (f : List ℕ → State) (q : Option ContinuationRow) →
      ◌≡◌ {A = Change} (resumed (with_some q (λ c. Some record { widths = parameter_widths e.procedure c; resumed = f })) values)
      (resumed (with_some (with_some q (λ c. Some (parameter_widths e.procedure c))) (λ ws. Some record { widths = ws; resumed = f })) values)
  row_by f None = refl
  row_by f (Some c) = refl

  ok_by : (u : UnwindRow) (landing : ℕ) (was : Result (Unit {0}) Rule) → ◌≡◌ {A = Result ℕ Rule} (and_then was (λ done. Ok u.landing)) (Ok landing) → (was ≡ Ok tt) × (u.landing ≡ landing)
  ok_by u landing (Ok done) is = (refl, cc)
  ok_by u landing (Err rule) is = absurd cc

  err_by : (u : UnwindRow) (rule : Rule) (was : Result (Unit {0}) Rule) → ◌≡◌ {A = Result ℕ Rule} (and_then was (λ done. Ok u.landing)) (Err rule) → was ≡ Err rule
  err_by u rule (Ok done) is = absurd cc
  err_by u rule (Err other) is = let same : other ≡ rule = cc in ap Err same

  ok_at : (o : Option UnwindRow) (landing : ℕ) → landing_at o ≡ Ok landing → exit_at o ≡ Ok record { text = resume_line; after = Resumes (landed r s e landing values) }
  ok_at None landing is = absurd cc
  ok_at (Some u) landing is =
      let both = ok_by u landing (checked (continuation_widths e.procedure u.continuation) values) is in
      row_by (λ values. landed r s e u.landing values) (continuation_row e.procedure u.continuation)
      ∙ resumed_ok (λ values. landed r s e u.landing values) (continuation_widths e.procedure u.continuation) values both.0
      ∙ ap (λ (n : ℕ). Ok record { text = resume_line; after = Resumes (landed r s e n values) }) both.1

  err_at : (o : Option UnwindRow) (rule : Rule) → landing_at o ≡ Err rule → exit_at o ≡ Err rule
  err_at None rule is = let same : NoExit ≡ rule = cc in ap Err same
  err_at (Some u) rule is =
      row_by (λ values. landed r s e u.landing values) (continuation_row e.procedure u.continuation)
      ∙ resumed_err (λ values. landed r s e u.landing values) (continuation_widths e.procedure u.continuation) values rule
      (err_by u rule (checked (continuation_widths e.procedure u.continuation) values) is)

  pub unwinds_ok : (n landing : ℕ) → landing_of e n values ≡ Ok landing →
      ◌≡◌ {A = Change} (resumed (unwind_exit r s e n) values) (Ok record { text = resume_line; after = Resumes (landed r s e landing values) })
  unwinds_ok n landing is = ok_at (slice_get e.site.unwinds n) landing is

  pub unwinds_err : (n : ℕ) (rule : Rule) → landing_of e n values ≡ Err rule → ◌≡◌ {A = Change} (resumed (unwind_exit r s e n) values) (Err rule)
  unwinds_err n rule is = err_at (slice_get e.site.unwinds n) rule is

-- what was found, and then done
abbrev pub gone_on : Region → State → Element → List ℕ → Result ℕ Rule → Change
gone_on r s e values found = and_then found (λ landing. Ok record { text = resume_line; after = Resumes (landed r s e landing values) })

by_landing : (r : Region) (s : State) (e : Element) (exit : ℕ) (values : List ℕ) (found : Result ℕ Rule) → landing_of e exit values ≡ found →
    ◌≡◌ {A = Change} (resumed (unwind_exit r s e exit) values) (gone_on r s e values found)
by_landing r s e exit values (Ok landing) is = unwinds_ok r s e values exit landing is
by_landing r s e exit values (Err rule) is = unwinds_err r s e values exit rule is

pub unwinds_are_found : UnwindsAreFound
unwinds_are_found i r s e exit values = by_landing r s e exit values (landing_of e exit values) refl
