-- The lemmas that proofs of other crates may cite: what files that were read hold, and what there is to say where one was not.
pub use Rattle.cmm_work.proofs.FilesRead.{bytes_so, same_outside}
pub use Rattle.cmm_work.proofs.Preparing.{fails_before, fails_behind, handed, no_script_in, unread}
pub use Rattle.cmm_work.proofs.RanOut.{ran_out}
pub use Rattle.cmm_work.proofs.ReadsMade.{Reads, in_order_for, read_all, read_both, read_first, read_none, read_part, read_whole}
