-- Want of memory.
use Rattle.std.proofs.Common.{◌≡◌, None, refl}
use Rattle.cmm_work.specs.Standing.{Outside}
use Rattle.cmm_work.specs.Work.{RanOutOfMemory}
use Rattle.cmm_work.specs.declared.ending.Ending.TheVariants as ending
use Rattle.cmm_work.specs.Ending.{work_of}

-- memory ran out, and nothing was done
pub ran_out : (before after : Outside) → after ≡ before → RanOutOfMemory (work_of ending.OutOfMemory None before after)
ran_out before after same = record { nothing = record { same = same; no_image = refl }; ends = record { line = refl; status = refl } }
