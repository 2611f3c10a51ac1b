-- What readings of several fields answer.
use Rattle.std.specs.Prelude.{ℕ, ◌-◌, length}
use Rattle.cmm_image.specs.declared.procedure_record.PlacedProcedure.{PlacedProcedure}
use Rattle.cmm_image.specs.declared.procedure_record.PlacedVariable.{PlacedVariable}
use Rattle.cmm_image.specs.declared.rows.ProcRow.{ProcRow}
use Rattle.cmm_image.specs.declared.bounds.Bounds.{Bounds}
use Rattle.cmm_image.specs.declared.header.RowCounts.{RowCounts}
use Rattle.cmm_image.specs.declared.site.SiteTail.{SiteTail}
use Rattle.cmm_image.specs.declared.fault.ImageFault.{ImageFault}
use Rattle.cmm_image.specs.declared.fault.ImageFault.TheVariants.{At}
use Rattle.cmm_image.specs.declared.fault.ImageFault.TheVariants as image_fault
use Rattle.cmm_format.specs.declared.fault.Unread.{Unread}
use Rattle.cmm_format.specs.declared.fault.Unread.TheVariants.{Breaks, Memory}
use Rattle.cmm_image.specs.ImageFormat.{Counts, FieldsWith, SiteLists}

-- the counts of a header, as its format has them
abbrev pub counts_seen : RowCounts → Counts
counts_seen c = (c.procedures, (c.sites, (c.labels, (c.globals, (c.main, 0)))))

-- the lists of a site, as its format has them
abbrev pub lists_seen : SiteTail → SiteLists
lists_seen s = (s.returns, (s.unwinds, (s.cuts, (s.variables, s.spans))))

-- the fields of a procedure up to its sites, as their format has them
abbrev pub fields_seen : PlacedProcedure → FieldsWith PlacedVariable
fields_seen p = (p.code, (p.name, (p.frame, (p.return_at, (p.saved, (p.variables, (p.stack_labels, p.continuations)))))))

-- what the numbers of a site in a procedure are measured by
abbrev pub bounds_in : Bounds → ProcRow → Bounds
bounds_in b p = record { code_length = b.code_length; data_length = b.data_length; frame = p.frame; variables = length p.variables; continuations = length p.continuations }

-- why there is no image in n bytes
abbrev pub fault_of : ℕ → Unread → ImageFault
fault_of length (Breaks b) = At b.rule (length - b.left)
fault_of length Memory = image_fault.Memory
