-- The format of a whole image: the header, the code, the data, and the tables, which are those of the version that the header names.
use Rattle.std.specs.Prelude.{ℕ, ◌==◌, Bool, List, length}
use Rattle.cmm_rules.specs.declared.rule.Rule.TheVariants.{ImageIsCut}
use Rattle.cmm_image.specs.declared.header.Header.{Header}
use Rattle.cmm_image.specs.declared.parts.ImageParts.{ImageParts}
use Rattle.cmm_image.specs.declared.rows.LabelRow.{LabelRow}
use Rattle.cmm_image.specs.declared.rows.GlobalRow.{GlobalRow}
use Rattle.cmm_format.specs.Formats.{Format, block, choose, ◌▸◌, as_, rows}
use Rattle.cmm_image.specs.ImageFormat.{Tables, first_tables, global, header, label}
use Rattle.cmm_image.specs.SecondFormat.{second_tables}

abbrev pub is_second : ℕ → Bool
is_second version = version == 2

abbrev pub tables : Header → Format Tables
tables h = choose (is_second h.version) (second_tables h.code_length h.procedures h.sites) (first_tables h.code_length h.procedures h.sites)

abbrev pub ImageFields : Type 0
ImageFields = Header × (List ℕ × (List ℕ × (Tables × (List LabelRow × List GlobalRow))))

abbrev pub image_of : ImageFields → ImageParts
image_of (h, (code, (initial, ((procs, sites), (labels, globals))))) = record {
  version = h.version;
  code = code;
  initial = initial;
  start = h.start;
  last = h.last;
  main = h.main;
  procs = procs;
  sites = sites;
  labels = labels;
  globals = globals;
}

-- the header counts what the image has
abbrev pub image_header : ImageParts → Header
image_header i = record {
  version = i.version;
  code_length = length i.code;
  data_length = length i.initial;
  start = i.start;
  last = i.last;
  procedures = length i.procs;
  sites = length i.sites;
  labels = length i.labels;
  globals = length i.globals;
  main = i.main;
}

-- the 64 bytes with which the image begins
abbrev pub header_bytes : ImageParts → List ℕ
header_bytes i = header.spelled (image_header i)

abbrev pub image_fields : ImageParts → ImageFields
image_fields i = (image_header i, (i.code, (i.initial, ((i.procs, i.sites), (i.labels, i.globals)))))

abbrev pub image : Format ImageParts
image = as_ image_of image_fields (
    header
    ▸ λ h. block ImageIsCut h.code_length
    ▸ λ code. block ImageIsCut h.data_length
    ▸ λ initial. tables h
    ▸ λ tables. rows (label h.data_length) h.labels
    ▸ λ labels. rows global h.globals
    )
