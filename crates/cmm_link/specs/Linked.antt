-- The image of a program, and what it is made of.
use Rattle.std.specs.Prelude.{◌≡◌, ◌+◌, ◌<◌, ◌^◌, IsTrue, length, map, List}
use Rattle.std.specs.List.{All, AllZip}
use Rattle.std.specs.List.Sorted.{IsPermutation}
use Rattle.rv_table.specs.Memory.{data_base}
use Rattle.cmm_program.specs.declared.placement.Placement.{Placement}
use Rattle.cmm_program.specs.declared.procedure.Proc.{Proc}
use Rattle.cmm_program.specs.declared.program.Program.{Program}
use Rattle.cmm_program.specs.Layout.{constant_value, data_bytes, end_before, label_addresses}
use Rattle.cmm_located.specs.Layouts.{IsFrameOf}
use Rattle.cmm_allocate.specs.declared.procedure.ProcedurePlaces.{ProcedurePlaces}
use Rattle.cmm_allocate.specs.Placing.{placement_rows}
use Rattle.cmm_data.specs.declared.layout.DataImage.{DataImage}
use Rattle.cmm_data.specs.Filling.{AreApart, code_in, filled}
use Rattle.cmm_image.specs.declared.parts.ImageParts.{ImageParts}
use Rattle.cmm_image.specs.declared.rows.SiteRow.{SiteRow}
use Rattle.cmm_unit_code.specs.declared.text.Text.{Text}
use Rattle.cmm_unit_code.specs.Texts.{ascend_above}
use Rattle.cmm_tables.specs.Premises.{AreExactSets}
use Rattle.cmm_link.specs.Labels.{AreLabelsOf, exports}
use Rattle.cmm_link.specs.Rows.{procedure_rows, site_rows}
use Rattle.cmm_image_machine.specs.Tables.{global_row}

-- the frames of procedures are laid for their places
abbrev pub HaveFrames : List Proc → List ProcedurePlaces → Type 0
HaveFrames procs places = AllZip (λ q k. IsFrameOf q k.locals k.frame) procs places

-- the sets of their sites have just the variables that are live there
abbrev pub KnowLive : List Proc → List ProcedurePlaces → Type 0
KnowLive procs places = AllZip (λ q k. AreExactSets q k.live.sites) procs places

-- no site has more spans than its row can count
abbrev pub HaveFewSpans : List Proc → Type 0
HaveFewSpans procs = All (λ q. All (λ site. length site.spans < 2 ^ 16) q.sites) procs

-- the data of a program, laid out: what `lay_out` of cmm_data answers for it
pub record IsDataOf (p : Program) (d : DataImage) : Type 0 where
  pub addresses : d.addresses ≡ label_addresses p
  pub bytes : (placement : Placement) → filled (code_in placement) d.fixes d.bytes ≡ data_bytes p placement
  pub size : data_base + length d.bytes ≡ end_before p (length p.datums)
  pub apart : AreApart 0 d.fixes (length d.bytes)

-- rows of sites are these, in ascending order of their return addresses
pub record AreSitesOf (sites rows : List SiteRow) : Type 0 where
  pub same : IsPermutation sites rows
  pub ascending : IsTrue (ascend_above 0 (map (λ row. row.return_address) rows))

-- The image has the program's code as it lies, its data as the addresses of its procedures make it, and a row for each procedure, each site of
-- each, each name under which a data label is exported, and each global register. It is written in version 2 of the format.
pub record IsImageOf (p : Program) (places : List ProcedurePlaces) (t : Text) (i : ImageParts) : Type 0 where
  pub version : i.version ≡ 2
  pub code : i.code ≡ t.code
  pub start : i.start ≡ t.start
  pub last : i.last ≡ t.last
  pub main : i.main ≡ p.main
  pub initial : (placement : Placement) → placement.rows ≡ placement_rows places t.procedures → i.initial ≡ data_bytes p placement
  pub procedures : i.procs ≡ procedure_rows p.procs places t.procedures t.landings
  pub sites : (placement : Placement) → placement.rows ≡ placement_rows places t.procedures →
      AreSitesOf (site_rows (constant_value p placement) p.procs places t.landings t.sites) i.sites
  pub labels : AreLabelsOf (exports p) i.labels
  pub globals : i.globals ≡ map global_row p.globals
