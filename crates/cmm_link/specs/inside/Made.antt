-- What is known of the parts of an image as they are made.
use Rattle.std.specs.Prelude.{◌≡◌, ◌≤◌, List, length, map, slice_index}
use Rattle.std.specs.List.{All}
use Rattle.cmm_program.specs.declared.program.Program.{Program}
use Rattle.cmm_data.specs.declared.layout.DataImage.{DataImage}
use Rattle.cmm_data.specs.Filling.{filled}
use Rattle.cmm_image.specs.declared.parts.ImageParts.{ImageParts}
use Rattle.cmm_format.specs.Formats.{AreBytes}
use Rattle.cmm_allocate.specs.declared.procedure.ProcedurePlaces.{ProcedurePlaces}
use Rattle.cmm_unit_code.specs.declared.text.Text.{Text}
use Rattle.cmm_link.specs.Labels.{AreLabelsOf, exports}
use Rattle.cmm_link.specs.Linked.{AreSitesOf}
use Rattle.cmm_link.specs.Rows.{procedure_rows, site_rows}
use Rattle.cmm_image_machine.specs.Tables.{global_row}
use Rattle.cmm_link.specs.inside.Named.{HasSmallSpans, IsNamed, IsNamedGlobal, IsNamedLabel}
use Rattle.cmm_link.specs.inside.Values.{value_at}

pub record AreMade (p : Program) (places : List ProcedurePlaces) (d : DataImage) (t : Text) (i : ImageParts) : Type 0 where
  pub version : i.version ≡ 2
  pub code : i.code ≡ t.code
  pub start : i.start ≡ t.start
  pub last : i.last ≡ t.last
  pub main : i.main ≡ p.main
  pub initial : i.initial ≡ filled (λ q. slice_index t.procedures q) d.fixes d.bytes
  pub size : length i.initial ≡ length d.bytes
  pub procedures : i.procs ≡ procedure_rows p.procs places t.procedures t.landings
  pub sites : AreSitesOf (site_rows (value_at t.procedures d.addresses) p.procs places t.landings t.sites) i.sites
  pub labels : AreLabelsOf (exports p) i.labels
  pub few : length i.labels ≤ length (exports p)
  pub globals : i.globals ≡ map global_row p.globals
  pub small_spans : All HasSmallSpans i.sites
  -- bytes are bytes
  pub code_bytes : AreBytes i.code
  pub data_bytes : AreBytes i.initial
  pub procedure_names : All IsNamed i.procs
  pub label_names : All IsNamedLabel i.labels
  pub global_names : All IsNamedGlobal i.globals
