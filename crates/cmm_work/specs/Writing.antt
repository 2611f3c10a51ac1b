-- A file that a call writes, behind all else that it does: it holds the bytes, or a front of them.
use Rattle.std.specs.Prelude.{◌≡◌, ℕ, List, [], None}
use Rattle.cmm_outside.specs.Faults.{Rose}
use Rattle.cmm_outside.specs.Storage.{StopsWriting, Writes}
use Rattle.cmm_work.specs.declared.status.Status.TheVariants.{Done, FileFault}
use Rattle.cmm_work.specs.Lines.{file_fault_line}
use Rattle.cmm_work.specs.Work.{Ends, Work}

-- the file of this name holds bytes now that are such, and nothing else was done or said
pub record HasWritten (Are : List ℕ → Type 0) (name : List ℕ) (w : Work) : Type 0 where
  pub bytes : List ℕ
  pub are : Are bytes
  pub written : Writes w.before.files w.after.files name (λ _. bytes)
  pub file_faults : w.after.file_faults ≡ w.before.file_faults
  pub last_failed : w.after.last_failed ≡ w.before.last_failed
  pub streams : w.after.streams ≡ w.before.streams
  pub no_image : w.image ≡ None
  pub ends : Ends w [] Done

-- bytes that are such could not be written to the file of this name, or only a front of them
pub record FailsToWrite (Are : List ℕ → Type 0) (name : List ℕ) (w : Work) : Type 0 where
  pub bytes : List ℕ
  pub are : Are bytes
  pub stops : StopsWriting w.before.files w.after.files w.after.last_failed name bytes
  pub rose : Rose w.before.file_faults w.after.file_faults
  pub streams : w.after.streams ≡ w.before.streams
  pub no_image : w.image ≡ None
  pub ends : Ends w (file_fault_line name) FileFault
