-- Values that an exit takes are at most 64, as the tables of an image bound.
use Rattle.std.proofs.Common.{◌≡◌, ℕ, ◌+◌, ◌<◌, ◌≤◌, ◌==◌, Bool, true, false, List, length, Result, Ok, Err, Option, Some, None, OnOk, refl, sym, arith}
use Rattle.std.proofs.lemmas.Bool.Decides.{nat_tests}
use Rattle.std.proofs.lemmas.List.{length-map}
use Rattle.rv_table.specs.declared.memory_map.TheConstants.{CODE_BASE, CODE_LENGTH_LIMIT}
use Rattle.cmm_rules.specs.declared.rule.Rule.{Rule}
use Rattle.cmm_rules.specs.declared.rule.Rule.TheVariants.{DoesNotFit, OtherCount}
use Rattle.cmm_words.specs.declared.width.Width.{Width}
use Rattle.cmm_program.specs.Commands.{all_fit}
use Rattle.cmm_program.specs.Errors.{provided, with_some}
use Rattle.cmm_image.specs.declared.parts.ImageParts.{ImageParts}
use Rattle.cmm_image.specs.declared.rows.ContinuationNumber.{ContinuationNumber}
use Rattle.cmm_image.specs.declared.rows.ContinuationRow.{ContinuationRow}
use Rattle.cmm_image.specs.declared.rows.ProcRow.{ProcRow}
use Rattle.cmm_image.specs.ImageFormat.{procedure_at}
use Rattle.cmm_image.specs.Images.{IsImage}
use Rattle.cmm_image.specs.Sites.{site_numbered}
use Rattle.cmm_image.proofs.Shared.{rows_are_bounded}
use Rattle.cmm_walk.proofs.Shared.{procedure_bounds, row_keeps, site_bounds}
use Rattle.cmm_image_machine.specs.Changes.{continuation_row, parameter_widths, variable_width}
use Rattle.cmm_resume.specs.Finding.{checked, continuation_widths, taken}

-- return addresses lie below the end of the longest code
pub returns_low : (i : ImageParts) → IsImage i → (n : ℕ) → n < length i.sites → (site_numbered i.sites n).return_address < CODE_BASE + CODE_LENGTH_LIMIT
returns_low i h n short =
    let below = (site_bounds i h n short).below in
    let code = (rows_are_bounded i h).code in
    omega (arith, below, code)

-- the parameters of a continuation
parameters_few : (i : ImageParts) → IsImage i → (n : ℕ) (k : ContinuationNumber) (c : ContinuationRow) → continuation_row (procedure_at i.procs n) k ≡ Some c → length c.parameters ≤ 64
parameters_few i h n k c is =
    row_keeps (λ (d : ContinuationRow). length d.parameters ≤ 64) (procedure_at i.procs n).continuations (procedure_bounds i h n).parameters k.0 c is

-- ---- values that are taken

taken_few : (ws : List Width) (values : List ℕ) → length ws ≤ 64 → taken ws values ≡ Ok tt → length values ≤ 64
taken_few ws values few is = by (length ws == length values) refl is
  where
    by : (b : Bool) → (length ws == length values) ≡ b → ◌≡◌ {A = Result (Unit {0}) Rule} (provided b OtherCount (provided (all_fit ws values) DoesNotFit (Ok tt))) (Ok tt) → length values ≤ 64
    by true same there = grind (arith, nat_tests)
    by false same there = absurd cc

pub widths_few : (ws : List Width) (values : List ℕ) (result : Result (Unit {0}) Rule) → length ws ≤ 64 → result ≡ taken ws values → OnOk result (length values ≤ 64)
widths_few ws values (Ok done) few is = taken_few ws values few (sym is)
widths_few ws values (Err rule) few is = tt

parameters_taken : (p : ProcRow) (o : Option ContinuationRow) (values : List ℕ) → ((c : ContinuationRow) → o ≡ Some c → length c.parameters ≤ 64) →
    checked (with_some o (λ c. Some (parameter_widths p c))) values ≡ Ok tt → length values ≤ 64
parameters_taken p None values few is = absurd cc
parameters_taken p (Some c) values few is =
    taken_few (parameter_widths p c) values (let most = few c refl in rw (length-map c.parameters (variable_width p)) most) is

pub continuation_few : (i : ImageParts) → IsImage i → (n : ℕ) (k : ContinuationNumber) (values : List ℕ) (result : Result (Unit {0}) Rule) →
    result ≡ checked (continuation_widths (procedure_at i.procs n) k) values → OnOk result (length values ≤ 64)
continuation_few i h n k values (Ok done) is =
    parameters_taken (procedure_at i.procs n) (continuation_row (procedure_at i.procs n) k) values (λ c there. parameters_few i h n k c there) (sym is)
continuation_few i h n k values (Err rule) is = tt

-- ---- answers

pub on_ok_le : {A E : Type 0} (result : Result A E) (n most : ℕ) → n ≤ most → OnOk result (n ≤ most)
on_ok_le (Ok a) n most below = below
on_ok_le (Err e) n most below = tt
