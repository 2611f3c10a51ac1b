-- What files that were read hold.
use Rattle.std.specs.Prelude.{◌≡◌, ℕ, List, Contains, IfSome, Option, Some, None}
use Rattle.std.specs.List.{AllZip}
use Rattle.cmm_outside.specs.declared.storage.CallKind.TheVariants.{Read}
use Rattle.cmm_outside.specs.Faults.{Rose}
use Rattle.cmm_outside.specs.Storage.{Contents}
use Rattle.cmm_work.specs.declared.status.Status.TheVariants.{FileFault}
use Rattle.cmm_work.specs.Lines.{file_fault_line}
use Rattle.cmm_work.specs.Work.{Ends, Work}

-- of some bytes P holds, and where the files tell what they hold, the file of this name holds just these
abbrev pub HasBytes : Option Contents → List ℕ → (List ℕ → Type 0) → Type 0
HasBytes contents name P = (bytes : List ℕ) × IfSome contents (λ files. files name ≡ Some bytes) × P bytes

-- the files of these names hold these units, in their order
abbrev pub Hold : Contents → List (List ℕ) → List (List ℕ) → Type 0
Hold files names units = AllZip (λ name unit. files name ≡ Some unit) names units

-- of some units P holds, and where the files tell what they hold, they hold just these
abbrev pub HasUnits : Option Contents → List (List ℕ) → (List (List ℕ) → Type 0) → Type 0
HasUnits contents names P = (units : List (List ℕ)) × IfSome contents (λ files. Hold files names units) × P units

-- a read of one of the files failed, and nothing else was done
pub record FailsToRead (names : List (List ℕ)) (w : Work) : Type 0 where
  pub name : List ℕ
  pub named : Contains names name
  pub files : w.after.files ≡ w.before.files
  pub rose : Rose w.before.file_faults w.after.file_faults
  pub failed : w.after.last_failed ≡ Some (record { kind = Read; name = name })
  pub streams : w.after.streams ≡ w.before.streams
  pub no_image : w.image ≡ None
  pub ends : Ends w (file_fault_line name) FileFault
