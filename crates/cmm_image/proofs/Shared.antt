-- The lemmas that proofs of other crates may cite.
pub use Rattle.cmm_image.proofs.SiteLaws.{sites_keep_frames}
pub use Rattle.cmm_image.proofs.BoundLaws.{rows_are_bounded}
pub use Rattle.cmm_image.proofs.ReadLaws.{long_is_refused}
pub use Rattle.cmm_image.proofs.HeaderLaws.{header_long}
pub use Rattle.cmm_image.proofs.AgreeLaws.{places_are_one}
pub use Rattle.cmm_image.proofs.MaskLaws.{Under}
pub use Rattle.cmm_image.proofs.MigrationLaws.{first_keeps_second}
pub use Rattle.cmm_image.proofs.SizeLaws.{second_is_short}
