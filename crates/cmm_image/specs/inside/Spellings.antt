-- The bytes of parts of records, which are written by functions of their own.
use Rattle.std.specs.Prelude.{ℕ, List, ◌++◌, flat_map, length, None}
use Rattle.cmm_image.specs.declared.parts.ImageParts.{ImageParts}
use Rattle.cmm_image.specs.declared.rows.ProcRow.{ProcRow}
use Rattle.cmm_image.specs.declared.rows.SiteRow.{SiteRow}
use Rattle.cmm_format.specs.Formats.{counted, number_bytes, optional_number, text_bytes}
use Rattle.cmm_image.specs.WholeImage.{image_header, tables}
use Rattle.cmm_image.specs.ImageFormat.{Counts, saved_register, variable, stack_label, continuation, continuation_number, flags_number, no_return, unwind, width, site_lists, label, global, u8, u16}

-- the fields of a procedure before its lists
abbrev pub procedure_head : ProcRow → List ℕ
procedure_head p = number_bytes 8 p.code ++ (text_bytes p.name ++ (number_bytes 4 p.frame ++ number_bytes 4 (optional_number no_return p.return_at)))

abbrev pub procedure_lists : ProcRow → List ℕ
procedure_lists p =
    (counted u8 (saved_register 0)).spelled p.saved
    ++ ((counted u16 variable).spelled p.variables
    ++ ((counted u16 (stack_label 0)).spelled p.stack_labels
    ++ (counted u16 (continuation 0 0 0)).spelled p.continuations))

-- the fields of a site between its procedure and its lists
abbrev pub site_head : SiteRow → List ℕ
site_head s = number_bytes 4 s.number ++ (number_bytes 1 (flags_number (s.never_returns, s.aborts)) ++ number_bytes 1 (optional_number 255 s.yield_values))

-- the results and the exits of a site
abbrev pub exits : SiteRow → List ℕ
exits s =
    (counted u8 (λ previous. width)).spelled s.results
    ++ ((counted u8 (continuation_number 0)).spelled s.returns ++ ((counted u16 (unwind 0 0)).spelled s.unwinds ++ (counted u16 (continuation_number 0)).spelled s.cuts))

abbrev pub site_row_lists : SiteRow → List ℕ
site_row_lists s =
    (counted u8 (λ previous. width)).spelled s.results
    ++ (site_lists 0 0 0 0 0).spelled (s.returns, (s.unwinds, (s.cuts, (s.variables, s.spans))))

-- the counts in an image's header
abbrev pub counts_of : ImageParts → Counts
counts_of i = (length i.procs, (length i.sites, (length i.labels, (length i.globals, (i.main, 0)))))

-- the records of procedures and of sites, as the image's version has them
abbrev pub image_tables : ImageParts → List ℕ
image_tables i = (tables (image_header i)).spelled (i.procs, i.sites)

-- the records of labels and of global registers
abbrev pub image_symbols : ImageParts → List ℕ
image_symbols i = flat_map (label 0 None).spelled i.labels ++ flat_map (global None).spelled i.globals

-- the records of an image, without their counts
abbrev pub image_records : ImageParts → List ℕ
image_records i = image_tables i ++ image_symbols i

-- what follows an image's header
abbrev pub image_body : ImageParts → List ℕ
image_body i = i.code ++ (i.initial ++ image_records i)
