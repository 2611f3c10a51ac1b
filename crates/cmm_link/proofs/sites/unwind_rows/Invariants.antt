use Rattle.std.proofs.Common.{◌≡◌, map, take}
use Rattle.std.specs.Prelude.{slice_index}
use Rattle.cmm_tables.specs.SiteRows.{unwind_row}
use Rattle.cmm_link.proofs.sites.unwind_rows.Given as goal

abbrev pub invariant-loop-continuation : goal.invariant-loop-continuation
invariant-loop-continuation l = l.rows ≡ map (unwind_row (λ k. slice_index l.landings k)) (take l.continuation-index l.continuations)
