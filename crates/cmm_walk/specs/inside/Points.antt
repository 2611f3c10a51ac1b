-- Points of a chain as they are kept while it is followed.
use Rattle.std.specs.Prelude.{ℕ, ◌+◌, ◌==◌, find, slice_index_or, Some, None}
use Rattle.cmm_image.specs.declared.rows.ProcRow.{ProcRow}
use Rattle.cmm_image_machine.specs.Frames as frames
use Rattle.cmm_walk.specs.declared.activation.Activation.{Activation}
use Rattle.cmm_walk.specs.declared.activation.Kept.{Kept}
use Rattle.cmm_walk.specs.declared.activation.Kept.TheVariants.{InRegister, At}
use Rattle.cmm_walk.specs.declared.chain.Point.{Point}
use Rattle.cmm_walk.specs.Activations.{order_of, places_of}

abbrev pub point_of : Point → frames.Point
point_of p = record { address = p.address; frame = p.frame; places = places_of p.saved }

-- where the value of a callee-saves register is behind an activation of a procedure
abbrev pub kept_behind : Activation → ProcRow → ℕ → Kept
kept_behind a p n = elim (find (λ s. s.register == n) p.saved) [ Some s ↦ At (a.frame + s.offset) | None ↦ slice_index_or a.saved (order_of n) InRegister ]
