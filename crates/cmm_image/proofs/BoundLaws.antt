-- What the tables of an image bound, by the conditions of their fields.
use Rattle.std.proofs.Common.{ℕ, zero, suc, ◌+◌, ◌<◌, ◌≤◌, nat_le, IsTrue, IfSome, List, [], ◌∷◌, length, slice_index_or, Option, Some, None, arith}
use Rattle.std.proofs.lemmas.Bool.Decides.{nat_tests}
use Rattle.rv_table.specs.declared.memory_map.TheConstants.{CODE_BASE, CODE_LENGTH_LIMIT, DATA_LENGTH_LIMIT}
use Rattle.cmm_abi.specs.Registers.{is_callee_saves}
use Rattle.cmm_image.specs.declared.rows.ContinuationRow.{ContinuationRow}
use Rattle.cmm_image.specs.declared.rows.ProcRow.{ProcRow}
use Rattle.cmm_image.specs.declared.rows.SavedRegister.{SavedRegister}
use Rattle.cmm_image.specs.declared.rows.SiteRow.{SiteRow}
use Rattle.cmm_image.specs.declared.rows.StackLabelRow.{StackLabelRow}
use Rattle.cmm_format.specs.Formats.{AreRows, HoldsOptional}
use Rattle.cmm_image.specs.ImageFormat.{continuation, formed, is_code_length, is_in_code, procedure, saved_register, site, stack_label}
use Rattle.cmm_image.specs.Bounds.{BoundsProcedure, BoundsSite}
use Rattle.cmm_image.specs.Laws.{RowsAreBounded}
use Rattle.cmm_image.proofs.WholeLaws.{first_holds}

is_most : (n most : ℕ) → IsTrue (nat_le n most) → n ≤ most
is_most n most h = grind (arith, nat_tests)

-- what the fields of each row give, every row keeps
rows_keep : {A : Type 0} (Each : Option A → A → Type 0) (P : A → Type 0) → ((previous : Option A) (x : A) → Each previous x → P x) →
    (previous : Option A) (xs : List A) → AreRows Each previous xs → (k : ℕ) (d : A) → k < length xs → P (slice_index_or xs k d)
rows_keep Each P one previous [] rows k d short = absurd (omega arith)
rows_keep Each P one previous (x ∷ xs) rows zero d short = one previous x rows.0
rows_keep Each P one previous (x ∷ xs) rows (suc k) d short = rows_keep Each P one (Some x) xs rows.1 k d (omega arith)

-- ---- procedures

keeps_register : (frame : ℕ) (previous : Option SavedRegister) (s : SavedRegister) → (saved_register frame previous).Holds s → IsTrue (is_callee_saves s.register)
keeps_register frame previous s h = h.0.1.0

keeps_label : (frame : ℕ) (previous : Option StackLabelRow) (l : StackLabelRow) → (stack_label frame previous).Holds l → l.offset ≤ frame
keeps_label frame previous l h = is_most l.offset frame h.1.0

keeps_parameters : (code_length frame variables : ℕ) (previous : Option ContinuationRow) (c : ContinuationRow) → (continuation code_length frame variables previous).Holds c →
    length c.parameters ≤ 64
keeps_parameters code_length frame variables previous c h = is_most (length c.parameters) 64 h.1.1.0.1.0

bounds_procedure : (code_length : ℕ) (previous : Option ProcRow) (p : ProcRow) → (procedure code_length previous).Holds p → BoundsProcedure p
bounds_procedure code_length previous p h = record {
  registers = rows_keep (λ previous. (saved_register p.frame previous).Holds) (λ s. IsTrue (is_callee_saves s.register)) (keeps_register p.frame)
      None p.saved h.1.1.1.1.0.1;
  variables = is_most (length p.variables) 1024 h.1.1.1.1.1.0.0.1.0;
  labels = rows_keep (λ previous. (stack_label p.frame previous).Holds) (λ l. l.offset ≤ p.frame) (keeps_label p.frame) None p.stack_labels h.1.1.1.1.1.1.0.1;
  parameters = rows_keep (λ previous. (continuation code_length p.frame (length p.variables) previous).Holds) (λ c. length c.parameters ≤ 64)
      (keeps_parameters code_length p.frame (length p.variables)) None p.continuations h.1.1.1.1.1.1.1.1;
}

-- ---- sites

is_above : (count n : ℕ) → IsTrue (is_in_code count n) → CODE_BASE ≤ n
is_above count n h = grind (arith, nat_tests)

is_below : (count n : ℕ) → IsTrue (is_in_code count n) → n < CODE_BASE + count
is_below count n h = grind (arith, nat_tests)

yields_few : (o : Option ℕ) → HoldsOptional 1 255 (formed (λ n. nat_le n 64) ∷ []) o → IfSome o (λ count. count ≤ 64)
yields_few None h = tt
yields_few (Some n) h = is_most n 64 h.2.0

bounds_site : (code_length : ℕ) (procedures : List ProcRow) (previous : Option SiteRow) (s : SiteRow) → (site code_length procedures previous).Holds s → BoundsSite code_length s
bounds_site code_length procedures previous s h = record {
  above = is_above code_length s.return_address h.0.1.1.0;
  below = is_below code_length s.return_address h.0.1.1.0;
  results = is_most (length s.results) 64 h.1.1.1.1.1.0.0.1.0;
  returns = is_most (length s.returns) 64 h.1.1.1.1.1.1.0.0.1.0;
  yields = yields_few s.yield_values h.1.1.1.1.0;
}

-- ---- the whole

is_short : (count : ℕ) → IsTrue (is_code_length count) → count ≤ CODE_LENGTH_LIMIT
is_short count h = grind (arith, nat_tests)

pub rows_are_bounded : RowsAreBounded
rows_are_bounded i h = record {
  code = is_short (length i.code) h.fields.0.1.1.0.1.0;
  initial = is_most (length i.initial) DATA_LENGTH_LIMIT h.fields.0.1.1.1.0.1.0;
  procedures = rows_keep (λ previous. (procedure (length i.code) previous).Holds) BoundsProcedure (bounds_procedure (length i.code)) None i.procs (first_holds i h).0.1;
  sites = rows_keep (λ previous. (site (length i.code) i.procs previous).Holds) (BoundsSite (length i.code)) (bounds_site (length i.code) i.procs) None i.sites
      (first_holds i h).1.1;
}
