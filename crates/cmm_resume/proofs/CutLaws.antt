-- A cut, from one activation to the next.
use Rattle.std.proofs.Common.{◌≡◌, ℕ, Bool, true, false, cond, List, [], ◌∷◌, find, Ok, Err, Option, Some, None, refl, ap, ◌∙◌}
use Rattle.cmm_rules.specs.declared.rule.Rule.{Rule}
use Rattle.cmm_script.specs.Lines.{resume_line}
use Rattle.cmm_program.specs.Errors.{with_some}
use Rattle.cmm_image.specs.declared.rows.ContinuationNumber.{ContinuationNumber}
use Rattle.cmm_image.specs.declared.rows.ContinuationRow.{ContinuationRow}
use Rattle.cmm_resume.specs.Finding.{checked, continuation_widths}
use Rattle.cmm_resume.proofs.Answering.{resumed_err, resumed_ok}
use Rattle.rv_table.specs.Machine.{State}
use Rattle.cmm_image.specs.declared.parts.ImageParts.{ImageParts}
use Rattle.cmm_image.specs.Images.{IsImage}
use Rattle.cmm_program.specs.Asking.{Chain, Exit}
use Rattle.cmm_image_machine.specs.Changes.{continuation_row, cut_exit, has_value, parameter_widths}
use Rattle.cmm_program.specs.Commands.{Resumes, cut, cutting, resumed}
use Rattle.cmm_image_machine.specs.Frames.{Element, Activation, chain_from, found_at, first_point, point_after}
use Rattle.cmm_image_machine.specs.Machine.{askable}
use Rattle.cmm_abi.specs.Regions.{Region}
use Rattle.cmm_image_machine.proofs.Shared.{chain_goes_on, images_keep_frames}
use Rattle.cmm_resume.specs.Answering.{Change}
use Rattle.cmm_resume.specs.Cuts.{gone}
use Rattle.cmm_resume.specs.inside.CutPaths.{code_in, cut_along, number_in}

abbrev cut_chain : ImageParts → Region → State → ℕ → List ℕ → Chain Element → Change
cut_chain i r s to values chain = cut (askable i r) s to values chain.broken chain.activations

module _ (i : ImageParts) (h : IsImage i) (r : Region) (s : State) (to : ℕ) (values : List ℕ) where
  pub begins : cutting (askable i r) s to values ≡ cut_along i r s to values (found_at i r (first_point s))
  begins = ap (cut_chain i r s to values) (chain_goes_on i r s.memory (first_point s) (images_keep_frames i h))

  chosen : (o : Option (Exit State)) (rest : Change) → o ≡ None → ◌≡◌ {A = Change} (elim o [ Some e ↦ resumed (Some e) values | None ↦ rest ]) rest
  chosen None rest is = refl
  chosen (Some e) rest is = absurd cc

  -- an activation without the continuation is passed
  pub passes : (e : Element) → cut_exit r s e to ≡ None → cut_along i r s to values (Activation e) ≡ cut_along i r s to values (found_at i r (point_after s.memory e))
  passes e none =
      chosen (cut_exit r s e to) (cut_chain i r s to values (chain_from i r s.memory (point_after s.memory e))) none
      ∙ ap (cut_chain i r s to values) (chain_goes_on i r s.memory (point_after s.memory e) (images_keep_frames i h))

  taken : (o : Option (Exit State)) (x : Exit State) (rest : Change) → o ≡ Some x → ◌≡◌ {A = Change} (elim o [ Some e ↦ resumed (Some e) values | None ↦ rest ]) (resumed o values)
  taken None x rest is = absurd cc
  taken (Some y) x rest is = refl

  -- one with it is the target
  pub stops : (e : Element) (x : Exit State) → cut_exit r s e to ≡ Some x → cut_along i r s to values (Activation e) ≡ resumed (cut_exit r s e to) values
  stops e x some = taken (cut_exit r s e to) x (cut_chain i r s to values (chain_from i r s.memory (point_after s.memory e))) some

-- ---- to a continuation

-- the state once an activation goes on at the code of a continuation
abbrev pub gone_to : Region → State → Element → ℕ → List ℕ → State
gone_to r s e code values = gone r s (record { frame = e.frame; code = code }) values

module _ (r : Region) (s : State) (e : Element) (to : ℕ) (k : ContinuationNumber) (values : List ℕ) (is : number_in e to ≡ Some k) where
  abbrev exit_of : Option ContinuationNumber → Option (Exit State)
  exit_of o = with_some o (λ k. with_some (continuation_row e.procedure k) (λ c. Some record { widths = parameter_widths e.procedure c; resumed = λ values. gone_to r s e c.code values }))

  row_by : (q : Option ContinuationRow) →
      ◌≡◌ {A = Change} (resumed (with_some q (λ c. Some record { widths = parameter_widths e.procedure c; resumed = λ values. gone_to r s e c.code values })) values)
      (resumed (with_some (with_some q (λ c. Some (parameter_widths e.procedure c))) (λ ws. Some record { widths = ws; resumed = λ values. gone_to r s e (elim q [ Some c ↦ c.code | None ↦ 0 ]) values })) values)
  row_by None = refl
  row_by (Some c) = refl

  exits : ◌≡◌ {A = Change} (resumed (cut_exit r s e to) values)
      (resumed (with_some (continuation_widths e.procedure k) (λ ws. Some record { widths = ws; resumed = λ values. gone_to r s e (code_in e.procedure k) values })) values)
  exits = ap (λ (o : Option ContinuationNumber). resumed (exit_of o) values) is ∙ row_by (continuation_row e.procedure k)

  pub cuts_ok : checked (continuation_widths e.procedure k) values ≡ Ok tt →
      ◌≡◌ {A = Change} (resumed (cut_exit r s e to) values) (Ok record { text = resume_line; after = Resumes (gone_to r s e (code_in e.procedure k) values) })
  cuts_ok taken = exits ∙ resumed_ok (gone_to r s e (code_in e.procedure k)) (continuation_widths e.procedure k) values taken

  pub cuts_err : (rule : Rule) → checked (continuation_widths e.procedure k) values ≡ Err rule → ◌≡◌ {A = Change} (resumed (cut_exit r s e to) values) (Err rule)
  cuts_err rule broken = exits ∙ resumed_err (gone_to r s e (code_in e.procedure k)) (continuation_widths e.procedure k) values rule broken

-- whether there is an exit
module _ (r : Region) (s : State) (e : Element) (to : ℕ) where
  pub no_exit : number_in e to ≡ None → cut_exit r s e to ≡ None
  no_exit none = ap (λ (o : Option ContinuationNumber). with_some o (λ k. with_some (continuation_row e.procedure k) (λ c. Some record { widths = parameter_widths e.procedure c; resumed = λ values. gone_to r s e c.code values }))) none

  pub an_exit : (k : ContinuationNumber) (c : ContinuationRow) → number_in e to ≡ Some k → continuation_row e.procedure k ≡ Some c → (x : Exit State) × (cut_exit r s e to ≡ Some x)
  an_exit k c is there = (
    record { widths = parameter_widths e.procedure c; resumed = λ values. gone_to r s e c.code values },
    ap (λ (o : Option ContinuationNumber). with_some o (λ k. with_some (continuation_row e.procedure k) (λ c. Some record { widths = parameter_widths e.procedure c; resumed = λ values. gone_to r s e c.code values }))) is
        ∙ ap (λ (q : Option ContinuationRow). with_some q (λ c. Some record { widths = parameter_widths e.procedure c; resumed = λ values. gone_to r s e c.code values })) there,
  )

-- ---- a continuation that has a value is there

found_has : (p : ContinuationNumber → Bool) (xs : List ContinuationNumber) (k : ContinuationNumber) → find p xs ≡ Some k → p k ≡ true
found_has p [] k is = absurd cc
found_has p (x ∷ xs) k is = by (p x) refl (λ later. found_has p xs k later) is
  where
    by : (b : Bool) → p x ≡ b → (find p xs ≡ Some k → p k ≡ true) → ◌≡◌ {A = Option ContinuationNumber} (cond b (Some x) (find p xs)) (Some k) → p k ≡ true
    by true e later there = let same : x ≡ k = cc in rw (← same) e
    by false e later there = later there

pub row_there : (e : Element) (to : ℕ) (k : ContinuationNumber) → number_in e to ≡ Some k → (c : ContinuationRow) × (continuation_row e.procedure k ≡ Some c)
row_there e to k is = by (continuation_row e.procedure k) refl (found_has (has_value e to) e.site.cuts k is)
  where
    by : (q : Option ContinuationRow) → continuation_row e.procedure k ≡ q → has_value e to k ≡ true → (c : ContinuationRow) × (continuation_row e.procedure k ≡ Some c)
    by (Some c) there has = (c, there)
    by None there has = absurd (let none : has_value e to k ≡ false = rw (has_value, there) refl in cc)
