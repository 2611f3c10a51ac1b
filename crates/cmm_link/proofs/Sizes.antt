-- How many bytes the records of an image are spelled in.
use Rattle.std.proofs.Common.{◌≡◌, ℕ, ◌+◌, ◌*◌, ◌≤◌, ◌++◌, Option, Some, None, All, List, [], ◌∷◌, length, flat_map, arith, mul-suc}
use Rattle.std.proofs.lemmas.Bool.{leb-true}
use Rattle.std.proofs.lemmas.List.{length-append, length-map}
use Rattle.std.proofs.lemmas.List.Elements.{All-head, All-tail}
use Rattle.std.proofs.lemmas.List.Sums.{sum_by-cons}
use Rattle.std.specs.Prelude.{sum_by}
use Rattle.cmm_words.specs.Widths.{bits}
use Rattle.cmm_program.specs.declared.procedure.Proc.{Proc}
use Rattle.cmm_program.specs.declared.program.Program.{Program}
use Rattle.cmm_program.specs.InRange.{IsProcInRange}
use Rattle.cmm_image.specs.declared.rows.ContinuationRow.{ContinuationRow}
use Rattle.cmm_image.specs.declared.rows.GlobalRow.{GlobalRow}
use Rattle.cmm_image.specs.declared.rows.LabelRow.{LabelRow}
use Rattle.cmm_image.specs.declared.rows.ProcRow.{ProcRow}
use Rattle.cmm_image.specs.declared.rows.SavedRegister.{SavedRegister}
use Rattle.cmm_image.specs.declared.rows.StackLabelRow.{StackLabelRow}
use Rattle.cmm_image.specs.declared.rows.VariableNumber.{VariableNumber}
use Rattle.cmm_image.specs.declared.rows.VariableRow.{VariableRow}
use Rattle.cmm_format.specs.Formats.{AreRows, number_bytes, optional_number, text_bytes}
use Rattle.cmm_image.specs.ImageFormat.{continuation, global, label, no_return, one_if, procedure, saved_register, stack_label, variable, variable_number}
use Rattle.cmm_format.proofs.Shared.{length-number_bytes}
use Rattle.cmm_located.specs.Layouts.{IsFrameOf}
use Rattle.cmm_allocate.specs.declared.procedure.ProcedurePlaces.{ProcedurePlaces}
use Rattle.cmm_link.specs.Linked.{HaveFrames}
use Rattle.cmm_link.specs.Rows.{procedure_rows}
use Rattle.cmm_tables.specs.ProcedureRows.{procedure_row, stack_label_row}
use Rattle.cmm_image_machine.specs.Tables.{variable_row}
use Rattle.cmm_link.proofs.Frames.{frame_fits}
use Rattle.cmm_link.proofs.ProcedureRows.{continuations_few, saved_short}
use Rattle.cmm_link.proofs.SiteTokens.{site_measure}
use Rattle.cmm_link.proofs.Tokens.{tokens_of_parts}
use Rattle.cmm_unit_code.specs.Texts.{HasLandings}
use Rattle.std.specs.List.{AllZip}

-- ---- fields

pub number_then : (width n : ℕ) (rest : List ℕ) → length (number_bytes width n ++ rest) ≡ width + length rest
number_then width n rest = omega (arith, length-append (number_bytes width n) rest, length-number_bytes width n)

text_long : (text : List ℕ) → length (text_bytes text) ≡ 1 + length text
unfolding text_bytes
text_long text = number_then 1 (length text) text

text_then : (text rest : List ℕ) → length (text_bytes text ++ rest) ≡ 1 + length text + length rest
text_then text rest = omega (arith, length-append (text_bytes text) rest, text_long text)

-- ---- rows

-- rows of which none is longer than n bytes
rows_long : {A : Type 0} (Each : Option A → A → Type 0) (spelled : A → List ℕ) (most : ℕ) → ((previous : Option A) (a : A) → Each previous a → length (spelled a) ≤ most) →
    (previous : Option A) (rows : List A) → AreRows Each previous rows → length (flat_map spelled rows) ≤ most * length rows
rows_long Each spelled most one previous [] are = omega arith
rows_long Each spelled most one previous (a ∷ rows) are =
    omega (arith, mul-suc most (length rows), length-append (spelled a) (flat_map spelled rows), one previous a are.0, rows_long Each spelled most one (Some a) rows are.1)

-- ---- the parts of a procedure

saved_long : (size : ℕ) (previous : Option SavedRegister) (s : SavedRegister) → (saved_register size previous).Holds s → length ((saved_register size None).spelled s) ≤ 5
saved_long size previous s holds = omega (arith, number_then 1 s.register (number_bytes 4 s.offset), length-number_bytes 4 s.offset)

variable_long : (previous : Option VariableRow) (v : VariableRow) → (variable previous).Holds v → length ((variable None).spelled v) ≤ 258
variable_long previous v holds =
    omega (
      arith,
      number_then 1 (bits v.width) (number_bytes 1 (one_if v.invariant) ++ text_bytes v.kind),
      number_then 1 (one_if v.invariant) (text_bytes v.kind),
      text_long v.kind,
      holds.1.1.0,
    )

stack_label_long : (size : ℕ) (previous : Option StackLabelRow) (l : StackLabelRow) → (stack_label size previous).Holds l → length ((stack_label size None).spelled l) ≤ 4
stack_label_long size previous l holds = omega (arith, length-number_bytes 4 l.offset)

parameter_long : (count : ℕ) (previous : Option VariableNumber) (v : VariableNumber) → (variable_number count previous).Holds v → length ((variable_number count None).spelled v) ≤ 2
parameter_long count previous v holds = omega (arith, length-number_bytes 2 v.0)

continuation_long : (code_length size count : ℕ) (previous : Option ContinuationRow) (c : ContinuationRow) → (continuation code_length size count previous).Holds c →
    length ((continuation code_length size count None).spelled c) ≤ 141
continuation_long code_length size count previous c holds =
    let count_bytes = number_bytes 1 (length c.parameters) in
    let parameters = flat_map (variable_number count None).spelled c.parameters in
    let most = leb-true (length c.parameters) 64 holds.1.1.0.1.0 in
    let each = rows_long (λ previous. (variable_number count previous).Holds) (variable_number count None).spelled 2 (parameter_long count) None c.parameters holds.1.1.1 in
    omega (
      arith,
      number_then 4 c.pair (number_bytes 8 c.code ++ (count_bytes ++ parameters)),
      number_then 8 c.code (count_bytes ++ parameters),
      number_then 1 (length c.parameters) parameters,
      most,
      each,
    )

-- ---- a procedure

procedure_long : (code_length : ℕ) (previous : Option ProcRow) (row : ProcRow) → (procedure code_length previous).Holds row →
    length ((procedure code_length None).spelled row)
    ≤ 279 + 5 * length row.saved + 258 * length row.variables + 4 * length row.stack_labels + 141 * length row.continuations
procedure_long code_length previous row holds =
    let conts = flat_map (continuation code_length row.frame (length row.variables) None).spelled row.continuations in
    let conts_part = number_bytes 2 (length row.continuations) ++ conts in
    let labels = flat_map (stack_label row.frame None).spelled row.stack_labels in
    let labels_part = number_bytes 2 (length row.stack_labels) ++ labels in
    let variables = flat_map (variable None).spelled row.variables in
    let variables_part = number_bytes 2 (length row.variables) ++ variables in
    let saved = flat_map (saved_register row.frame None).spelled row.saved in
    let saved_part = number_bytes 1 (length row.saved) ++ saved in
    let from_labels = labels_part ++ conts_part in
    let from_variables = variables_part ++ from_labels in
    let from_saved = saved_part ++ from_variables in
    let return_at = optional_number no_return row.return_at in
    let lists = holds.1.1.1.1 in
    omega (
      arith,
      number_then 8 row.code (text_bytes row.name ++ (number_bytes 4 row.frame ++ (number_bytes 4 return_at ++ from_saved))),
      text_then row.name (number_bytes 4 row.frame ++ (number_bytes 4 return_at ++ from_saved)),
      holds.1.0.0,
      number_then 4 row.frame (number_bytes 4 return_at ++ from_saved),
      number_then 4 return_at from_saved,
      length-append saved_part from_variables,
      number_then 1 (length row.saved) saved,
      rows_long (λ previous. (saved_register row.frame previous).Holds) (saved_register row.frame None).spelled 5 (saved_long row.frame) None row.saved lists.0.1,
      length-append variables_part from_labels,
      number_then 2 (length row.variables) variables,
      rows_long (λ previous. (variable previous).Holds) (variable None).spelled 258 variable_long None row.variables lists.1.0.1,
      length-append labels_part conts_part,
      number_then 2 (length row.stack_labels) labels,
      rows_long (λ previous. (stack_label row.frame previous).Holds) (stack_label row.frame None).spelled 4 (stack_label_long row.frame) None row.stack_labels lists.1.1.0.1,
      number_then 2 (length row.continuations) conts,
      rows_long (λ previous. (continuation code_length row.frame (length row.variables) previous).Holds) (continuation code_length row.frame (length row.variables) None).spelled 141
          (continuation_long code_length row.frame (length row.variables)) None row.continuations lists.1.1.1.1,
    )

module _ (p : Program) (code_length : ℕ) where
  -- the row of a procedure in range is bounded by its tokens
  row_long : (previous : Option ProcRow) (q : Proc) (k : ProcedurePlaces) (code : ℕ) (landings : List ℕ) → IsProcInRange p q → IsFrameOf q k.locals k.frame →
      (procedure code_length previous).Holds (procedure_row q k.frame code landings) →
      length ((procedure code_length None).spelled (procedure_row q k.frame code landings)) + 129 * sum_by site_measure q.sites ≤ 334 + 129 * q.tokens
  row_long previous q k code landings range laid holds =
      omega (
        arith,
        procedure_long code_length previous (procedure_row q k.frame code landings) holds,
        tokens_of_parts p q range,
        saved_short p q k.locals k.frame range laid,
        length-map q.vars variable_row,
        length-map k.frame.stack stack_label_row,
        (frame_fits p q k.locals k.frame range laid).stack.count,
        continuations_few q.conts k.frame.pairs landings,
      )

  pub table_long : (previous : Option ProcRow) (procs : List Proc) (places : List ProcedurePlaces) (codes : List ℕ) (landings : List (List ℕ)) → All (IsProcInRange p) procs →
      length codes ≡ length procs → AllZip HasLandings procs landings → HaveFrames procs places → AreRows (λ previous. (procedure code_length previous).Holds) previous (procedure_rows procs places codes landings) →
      length (flat_map (procedure code_length None).spelled (procedure_rows procs places codes landings)) + 129 * sum_by (λ q. sum_by site_measure q.sites) procs
      ≤ 334 * length procs + 129 * sum_by (λ q. q.tokens) procs
  table_long previous [] places codes landings range same landed frames rows = omega arith
  table_long previous (q ∷ procs) [] codes landings range same landed frames rows = elim frames [ ]
  table_long previous (q ∷ procs) (k ∷ places) [] landings range same landed frames rows = absurd (omega (arith, same))
  table_long previous (q ∷ procs) (k ∷ places) (code ∷ codes) [] range same landed frames rows = elim landed [ ]
  table_long previous (q ∷ procs) (k ∷ places) (code ∷ codes) (ls ∷ landings) range same landed frames rows =
      let row = procedure_row q k.frame code ls in
      omega (
        arith,
        length-append ((procedure code_length None).spelled row) (flat_map (procedure code_length None).spelled (procedure_rows procs places codes landings)),
        row_long previous q k code ls (All-head (IsProcInRange p) q procs range) frames.0 rows.0,
        table_long (Some row) procs places codes landings (All-tail (IsProcInRange p) q procs range) (omega (arith, same)) landed.1 frames.1 rows.1,
        sum_by-cons (λ (q : Proc). q.tokens) q procs,
        sum_by-cons (λ (q : Proc). sum_by site_measure q.sites) q procs,
      )

  -- what version 2 adds to it is bounded by its tokens too
  pub added_long : (procs : List Proc) (places : List ProcedurePlaces) (codes : List ℕ) (landings : List (List ℕ)) → All (IsProcInRange p) procs →
      2 * sum_by (λ r. 5 + 5 * length r.variables) (procedure_rows procs places codes landings) ≤ 5 * sum_by (λ q. q.tokens) procs
  added_long [] places codes landings range = omega arith
  added_long (q ∷ procs) [] codes landings range = omega arith
  added_long (q ∷ procs) (k ∷ places) [] landings range = omega arith
  added_long (q ∷ procs) (k ∷ places) (code ∷ codes) [] range = omega arith
  added_long (q ∷ procs) (k ∷ places) (code ∷ codes) (ls ∷ landings) range =
      omega (
        arith,
        tokens_of_parts p q (All-head (IsProcInRange p) q procs range),
        length-map q.vars variable_row,
        sum_by-cons (λ (r : ProcRow). 5 + 5 * length r.variables) (procedure_row q k.frame code ls) (procedure_rows procs places codes landings),
        sum_by-cons (λ (q : Proc). q.tokens) q procs,
        added_long procs places codes landings (All-tail (IsProcInRange p) q procs range),
      )

-- ---- labels, global registers, and the header

label_long : (data_length : ℕ) (previous : Option LabelRow) (l : LabelRow) → (label data_length previous).Holds l → length ((label data_length None).spelled l) ≤ 264
label_long data_length previous l holds = omega (arith, text_then l.name (number_bytes 8 l.address), length-number_bytes 8 l.address, holds.0.0.0)

global_long : (previous : Option GlobalRow) (g : GlobalRow) → (global previous).Holds g → length ((global None).spelled g) ≤ 257
global_long previous g holds = omega (arith, number_then 1 (bits g.width) (text_bytes g.name), text_long g.name, holds.1.0.0)

pub labels_long : (data_length : ℕ) (labels : List LabelRow) → AreRows (λ previous. (label data_length previous).Holds) None labels →
    length (flat_map (label data_length None).spelled labels) ≤ 264 * length labels
labels_long data_length labels are = rows_long (λ previous. (label data_length previous).Holds) (label data_length None).spelled 264 (label_long data_length) None labels are

pub globals_long : (globals : List GlobalRow) → AreRows (λ previous. (global previous).Holds) None globals → length (flat_map (global None).spelled globals) ≤ 257 * length globals
globals_long globals are = rows_long (λ previous. (global previous).Holds) (global None).spelled 257 global_long None globals are
