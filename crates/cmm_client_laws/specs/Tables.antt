-- What the tables of an image tell of the procedures and the sites of a program, as they are compiled.
use Rattle.std.specs.Prelude.{List, nat_lt, ◌≡◌, ℕ, ◌≤◌, true, map, length, slice_get, slice_index_or, Some, None}
use Rattle.std.specs.List.{AllZip, list_all, range_with_len}
use Rattle.cmm_program.specs.declared.procedure.Cont.{Cont}
use Rattle.cmm_program.specs.declared.procedure.Proc.{Proc}
use Rattle.cmm_program.specs.declared.procedure.Site.{Site}
use Rattle.cmm_program.specs.Frames.{procedure_at}
use Rattle.cmm_program.specs.Client.{linked_label}
use Rattle.cmm_program.specs.Layout.{constant_value, data_bytes}
use Rattle.cmm_image_machine.specs.Changes.{label_named}
use Rattle.cmm_program.specs.Liveness.{is_live_at}
use Rattle.cmm_program.specs.Orders.{target_width}
use Rattle.cmm_program.specs.State.{Setting}
use Rattle.cmm_chain.specs.declared.frame.Frame.{Frame}
use Rattle.cmm_image.specs.declared.parts.ImageParts.{ImageParts}
use Rattle.cmm_image.specs.declared.rows.ContinuationRow.{ContinuationRow}
use Rattle.cmm_image.specs.declared.rows.ProcRow.{ProcRow}
use Rattle.cmm_image.specs.declared.rows.SiteRow.{SiteRow}
use Rattle.cmm_image.specs.declared.rows.UnwindRow.{UnwindRow}
use Rattle.cmm_image.specs.ImageFormat.{procedure_at as row_at}
use Rattle.cmm_image_machine.specs.Frames.{site_at}
use Rattle.cmm_image_machine.specs.Laws.{KeepFrames}
use Rattle.cmm_emit_laws.specs.Words.{Symbols}
use Rattle.cmm_located.specs.Compiled.{Compiled}
use Rattle.cmm_tables.specs.ProcedureRows.{saved_row}
use Rattle.cmm_image_machine.specs.Tables.{IsLabelRow, variable_row}
use Rattle.cmm_tables.specs.SiteRows.{continuation_number, place_while, span_row}

-- ---- procedures

-- a continuation of a procedure, by its number: where its pair is, where cuts and unwindings land, and what takes its values
pub record IsContinuationRow (f : Frame) (y : Symbols) (q k : ℕ) (cont : Cont) (row : ContinuationRow) : Type 0 where
  pub pair : row.pair ≡ slice_index_or f.pairs k 0
  pub code : row.code ≡ y.landing_of q k
  pub parameters : map (λ v. v.0) row.parameters ≡ cont.params
  pub few : length cont.params ≤ 64

pub record IsProcedureRow (p : Proc) (f : Frame) (y : Symbols) (q : ℕ) (row : ProcRow) : Type 0 where
  pub name : row.name ≡ p.name
  pub frame : row.frame ≡ f.size
  pub return_at : row.return_at ≡ Some f.return_at
  pub saved : row.saved ≡ map saved_row f.saved
  pub variables : row.variables ≡ map variable_row p.vars
  pub continuations : (k : ℕ) (cont : Cont) → slice_get p.conts k ≡ Some cont →
      (c : ContinuationRow) × (slice_get row.continuations k ≡ Some c) × IsContinuationRow f y q k cont c
  pub no_more : (k : ℕ) → slice_get p.conts k ≡ None → slice_get row.continuations k ≡ None

-- ---- sites

pub record IsUnwindRow (y : Symbols) (q k : ℕ) (row : UnwindRow) : Type 0 where
  pub continuation : row.continuation.0 ≡ k
  pub landing : row.landing ≡ y.landing_of q k

pub record IsSiteRow (s : Setting) (c : Compiled) (y : Symbols) (q n : ℕ) (p : Proc) (site : Site) (row : SiteRow) : Type 0 where
  pub procedure : row.procedure ≡ q
  pub number : row.number ≡ n
  pub never_returns : row.never_returns ≡ site.never
  pub yield_values : row.yield_values ≡ site.yield_values
  pub results : row.results ≡ map target_width site.results
  pub few : length site.results ≤ 64
  pub returns : row.returns ≡ map continuation_number site.returns
  pub unwinds : AllZip (λ k u. IsUnwindRow y q k u) site.unwinds row.unwinds
  pub cuts : row.cuts ≡ map continuation_number site.cuts
  pub cuts_there : list_all (λ k. nat_lt k (length p.conts)) site.cuts ≡ true
  pub variables : row.variables ≡ map (λ v. place_while (is_live_at p n v) (c.plan.place q v)) (range_with_len 0 (length p.vars))
  pub spans : row.spans ≡ map (span_row (constant_value s.program s.placement)) site.spans

-- ---- the whole

pub record HaveTables (s : Setting) (c : Compiled) (y : Symbols) (i : ImageParts) : Type 0 where
  pub procedures : (q : ℕ) (p : Proc) → procedure_at s q ≡ Some p → IsProcedureRow p (c.plan.frame q) y q (row_at i.procs q)
  pub sites : (q n : ℕ) (p : Proc) (site : Site) → procedure_at s q ≡ Some p → slice_get p.sites n ≡ Some site →
      (row : SiteRow) × (site_at i (y.return_to q n) ≡ Some row) × IsSiteRow s c y q n p site row
  pub labels : (name : List ℕ) → IsLabelRow s.program (linked_label name s.program.labels) (label_named i name)
  pub data_length : length i.initial ≡ length (data_bytes s.program s.placement)
  pub last : i.last ≡ y.last_return
  -- each site keeps inside the frame of its procedure
  pub keep : KeepFrames i
