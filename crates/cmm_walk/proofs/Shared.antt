-- What proofs of other crates may cite.
pub use Rattle.cmm_walk.proofs.Tables.{activation_keeps, its_procedure, procedure_bounds, read_procedure, row_keeps, site_bounds, site_is, site_keeps}
pub use Rattle.cmm_walk.proofs.Points.{fits_stack, frame_lies, lies_inside, place_short}
pub use Rattle.cmm_walk.proofs.Places.{order_small, register_again, register_saved}
pub use Rattle.cmm_walk.proofs.Variables.{place_at, shown_at, slot_fits, variable_shown}
pub use Rattle.cmm_walk.proofs.Steps.{left_of, nearer, returns_there}
pub use Rattle.cmm_walk.proofs.WalkLaws.{begins, nothing_more, rest_of}
pub use Rattle.cmm_walk.proofs.Writes.{joined, written_ok, written_then}
pub use Rattle.cmm_walk.proofs.WalkRows.{at_yield, leaf_activation, main_activation, region}
