-- What proofs of other crates may cite.
pub use Rattle.cmm_client_laws.proofs.Clients.{call_is, client_done, ending_is}
pub use Rattle.cmm_client_laws.proofs.Events.{sound_events_fit}
pub use Rattle.cmm_client_laws.proofs.Fits.{fitting_is_walked}
pub use Rattle.cmm_client_laws.proofs.Keeping.{answers_keep, resited_bare}
pub use Rattle.cmm_client_laws.proofs.Lines.{lines_are_written, lines_come_soon}
pub use Rattle.cmm_client_laws.proofs.Resuming.{log_shows, pc_shows, some_by}
pub use Rattle.cmm_client_laws.proofs.Rows.{labels_are_told, procedure_is_told, sites_are_told, tables_are_told}
