-- The rows of all procedures keep the conditions of an image: their code ascends.
use Rattle.std.proofs.Common.{◌≡◌, ℕ, suc, ◌≤◌, nat_lt, true, Option, Some, None, All, List, [], ◌∷◌, length, refl, ap, arith}
use Rattle.std.proofs.lemmas.Bool.{and_parts}
use Rattle.std.proofs.lemmas.List.Elements.{All-head, All-tail}
use Rattle.std.specs.List.{AllZip, list_all}
use Rattle.std.specs.Option.{option_map}
use Rattle.rv_table.specs.declared.memory_map.TheConstants.{CODE_LENGTH_LIMIT}
use Rattle.cmm_program.specs.declared.procedure.Proc.{Proc}
use Rattle.cmm_program.specs.declared.program.Program.{Program}
use Rattle.cmm_program.specs.InRange.{IsProcInRange}
use Rattle.cmm_image.specs.declared.rows.ProcRow.{ProcRow}
use Rattle.cmm_format.specs.Formats.{AreRows}
use Rattle.cmm_image.specs.ImageFormat.{is_above, is_in_code, procedure}
use Rattle.cmm_allocate.specs.declared.procedure.ProcedurePlaces.{ProcedurePlaces}
use Rattle.cmm_link.specs.Linked.{HaveFrames}
use Rattle.cmm_link.specs.Rows.{procedure_rows}
use Rattle.cmm_tables.specs.ProcedureRows.{procedure_row}
use Rattle.cmm_unit_code.specs.Texts.{HasLandings, ascend_above}
use Rattle.cmm_link.specs.inside.Named.{IsNamed}
use Rattle.cmm_link.proofs.ProcedureRows.{row_holds}

-- a row that is valid by itself is valid behind another whose code is before its own
behind : (code_length : ℕ) (previous : Option ProcRow) (row : ProcRow) → is_above (option_map (λ p. p.code) previous) row.code ≡ true →
    (procedure code_length None).Holds row → (procedure code_length previous).Holds row
behind code_length previous row above holds = ((holds.0.0, (above, holds.0.1.1)), holds.1)

module _ (p : Program) (code_length : ℕ) (room : code_length ≤ CODE_LENGTH_LIMIT) where
  pub table_holds : (previous : Option ProcRow) (before : ℕ) (procs : List Proc) (places : List ProcedurePlaces) (codes : List ℕ) (landings : List (List ℕ)) →
      ((code : ℕ) → nat_lt before code ≡ true → is_above (option_map (λ p. p.code) previous) code ≡ true) → All (IsProcInRange p) procs → HaveFrames procs places →
      list_all (is_in_code code_length) codes ≡ true → ascend_above before codes ≡ true → list_all (list_all (is_in_code code_length)) landings ≡ true →
      All IsNamed (procedure_rows procs places codes landings) →
      AreRows (λ previous. (procedure code_length previous).Holds) previous (procedure_rows procs places codes landings)
  table_holds previous before [] places codes landings above range frames addresses ascend landed named = tt
  table_holds previous before (q ∷ procs) [] codes landings above range frames addresses ascend landed named = tt
  table_holds previous before (q ∷ procs) (k ∷ places) [] landings above range frames addresses ascend landed named = tt
  table_holds previous before (q ∷ procs) (k ∷ places) (code ∷ codes) [] above range frames addresses ascend landed named = tt
  table_holds previous before (q ∷ procs) (k ∷ places) (code ∷ codes) (ls ∷ landings) above range frames addresses ascend landed named =
      let here = and_parts (is_in_code code_length code) (list_all (is_in_code code_length) codes) addresses in
      let up = and_parts (nat_lt before code) (ascend_above code codes) ascend in
      let lands = and_parts (list_all (is_in_code code_length) ls) (list_all (list_all (is_in_code code_length)) landings) landed in
      let row = procedure_row q k.frame code ls in
      let rest = procedure_rows procs places codes landings in (
        behind code_length previous row (above code up.0)
            (row_holds p q k.locals k.frame (All-head (IsProcInRange p) q procs range) frames.0 code_length code ls room here.0 lands.0 (All-head IsNamed row rest named)),
        table_holds (Some row) code procs places codes landings (λ next less. less) (All-tail (IsProcInRange p) q procs range) frames.1 here.1 up.1 lands.1
            (All-tail IsNamed row rest named),
      )

-- one row a procedure
pub rows_counted : (procs : List Proc) (places : List ProcedurePlaces) (codes : List ℕ) (landings : List (List ℕ)) → HaveFrames procs places → length codes ≡ length procs →
    AllZip HasLandings procs landings → length (procedure_rows procs places codes landings) ≡ length procs
rows_counted [] places codes landings frames same landed = refl
rows_counted (q ∷ procs) [] codes landings frames same landed = elim frames [ ]
rows_counted (q ∷ procs) (k ∷ places) [] landings frames same landed = absurd (omega (arith, same))
rows_counted (q ∷ procs) (k ∷ places) (code ∷ codes) [] frames same landed = elim landed [ ]
rows_counted (q ∷ procs) (k ∷ places) (code ∷ codes) (ls ∷ landings) frames same landed =
    ap (λ (n : ℕ). suc n) (rows_counted procs places codes landings frames.1 (omega (arith, same)) landed.1)
