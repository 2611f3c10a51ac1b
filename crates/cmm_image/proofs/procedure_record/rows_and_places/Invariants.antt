use Rattle.std.proofs.Common.{◌≡◌, map}
use Rattle.cmm_image.proofs.procedure_record.rows_and_places.Given as goal

abbrev pub invariant-loop-variable : goal.invariant-loop-variable
invariant-loop-variable l = (l.rows.items ≡ map (λ v. v.row) l.yielded) × (l.places.items ≡ map (λ v. v.place) l.yielded)
