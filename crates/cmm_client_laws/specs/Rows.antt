-- The site rows of a program, as the tables of its image are to have them.
use Rattle.std.specs.Prelude.{◌≡◌, ◌≤◌, nat_lt, ℕ, true, Bool, ◌&&◌, List, [], ◌∷◌, length, slice_get, Some}
use Rattle.std.specs.List.{list_all}
use Rattle.cmm_image.specs.declared.parts.ImageParts.{ImageParts}
use Rattle.cmm_image.specs.declared.rows.LabelRow.{LabelRow}
use Rattle.cmm_image.specs.ImageFormat.{procedure_at as row_at}
use Rattle.cmm_program.specs.declared.program.Label.{Label}
use Rattle.cmm_program.specs.declared.program.Program.{Program}
use Rattle.cmm_program.specs.Client.{linked_label}
use Rattle.cmm_program.specs.Layout.{constant_value, data_bytes, label_address}
use Rattle.cmm_program.specs.declared.procedure.Proc.{Proc}
use Rattle.cmm_program.specs.declared.procedure.Site.{Site}
use Rattle.cmm_program.specs.Frames.{procedure_at}
use Rattle.cmm_program.specs.State.{Setting}
use Rattle.cmm_image.specs.declared.rows.SiteRow.{SiteRow}
use Rattle.cmm_emit_laws.specs.Words.{Symbols}
use Rattle.cmm_located.specs.Compiled.{Compiled}
use Rattle.cmm_tables.specs.SiteRows.{placed_site, unplaced_site}
use Rattle.cmm_client_laws.specs.Tables.{IsProcedureRow}

-- a site of a procedure, by its number
abbrev pub site_row : Setting → Compiled → Symbols → ℕ → ℕ → Proc → Site → SiteRow
site_row s c y q n p site =
    placed_site (λ k. y.landing_of q k) (constant_value s.program s.placement) (y.return_to q n) (unplaced_site p (λ v. c.plan.place q v) q n site)

-- each return address is above the one before
abbrev pub rows_ascend : ℕ → List SiteRow → Bool
rows_ascend before [] = true
rows_ascend before (row ∷ rows) = nat_lt before row.return_address && rows_ascend row.return_address rows

-- Each site of the program has its row among those of the image, which ascend, and they are small, as in every program in range.
pub record HaveSiteRows (s : Setting) (c : Compiled) (y : Symbols) (rows : List SiteRow) : Type 0 where
  pub ascending : rows_ascend 0 rows ≡ true
  pub each : (q n : ℕ) (p : Proc) (site : Site) → procedure_at s q ≡ Some p → slice_get p.sites n ≡ Some site →
      (k : ℕ) × (slice_get rows k ≡ Some (site_row s c y q n p site))
  pub few : (q n : ℕ) (p : Proc) (site : Site) → procedure_at s q ≡ Some p → slice_get p.sites n ≡ Some site → length site.results ≤ 64
  pub cuts : (q n : ℕ) (p : Proc) (site : Site) → procedure_at s q ≡ Some p → slice_get p.sites n ≡ Some site →
      list_all (λ k. nat_lt k (length p.conts)) site.cuts ≡ true

-- ---- data labels

-- Each row has the address of the first label that is exported under its name, and each exported name has a row.
pub record HaveLabelRows (p : Program) (rows : List LabelRow) : Type 0 where
  pub each : (k : ℕ) (row : LabelRow) → slice_get rows k ≡ Some row → (l : Label) × (linked_label row.name p.labels ≡ Some l) × (row.address ≡ label_address p l)
  pub every : (name : List ℕ) (l : Label) → linked_label name p.labels ≡ Some l → (k : ℕ) × (row : LabelRow) × (slice_get rows k ≡ Some row) × (row.name ≡ name)

-- ---- the whole

-- what cmm_link is to give of an image: rows of procedures, sites and labels
pub record HaveRows (s : Setting) (c : Compiled) (y : Symbols) (i : ImageParts) : Type 0 where
  pub procedures : (q : ℕ) (p : Proc) → procedure_at s q ≡ Some p → IsProcedureRow p (c.plan.frame q) y q (row_at i.procs q)
  pub sites : HaveSiteRows s c y i.sites
  pub labels : HaveLabelRows s.program i.labels
  pub data_length : length i.initial ≡ length (data_bytes s.program s.placement)
  pub last : i.last ≡ y.last_return
