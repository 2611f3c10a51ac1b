-- What proofs of other crates may cite: what holds of judgements, that an expression is judged by what the names in it mean, that constants are words,
-- what stands inside a statement, how call sites are counted, that of broken places none is left, how many datums there are, what is declared once, and that
-- the program of accepted units is in range, and what is read from bytes has texts of bytes.
pub use Rattle.cmm_elaboration.proofs.Judged.{Holds, holds_with, holds_both, SenseFits}
pub use Rattle.cmm_elaboration.proofs.Mentioned.{EachName, judged_same}
pub use Rattle.cmm_elaboration.proofs.Knowing.{IsKnownBy, untyped_is_word, typed_is_word}
pub use Rattle.cmm_static_semantics.proofs.Shared.{hidden_parts, shown_parts, if_inside, span_inside, switch_inside, else_inside, else_if_inside}
pub use Rattle.cmm_elaboration.proofs.Flat.{whats_append, alike_part, whats_alike, count_append, flat_from, procedure_is}
pub use Rattle.cmm_elaboration.proofs.SiteNumbers.{length_is, site_here}
pub use Rattle.cmm_elaboration.proofs.Nothing.{no_left, no_right, no_unless, unbroken, procedures_kept, first_unit, other_units}
pub use Rattle.cmm_elaboration.proofs.Labels.{all_datums, among_append, datums_length, items_length}
pub use Rattle.cmm_elaboration.proofs.Together.{programs_are_in_range}
pub use Rattle.cmm_elaboration.proofs.OfBytes.{texts_are_bytes, are_read, read_texts_are_bytes, read_programs_are_in_range}
pub use Rattle.cmm_elaboration.proofs.Naming.{same_name, again_head, again_rest}
pub use Rattle.cmm_elaboration.proofs.MarkNumbers.{declared_once}
pub use Rattle.cmm_elaboration.proofs.Keeping.{within}
