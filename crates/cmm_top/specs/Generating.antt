-- What `gen` promises: the unit of a number is built, the counts of its program are told, and its image runs; or there is a cause why not.
use Rattle.std.specs.Prelude.{◌≡◌, ◌⊎◌, ℕ, List, [], ◌∷◌, codes, Option, Some}
use Rattle.cmm_command.specs.declared.command.RunLimits.{RunLimits}
use Rattle.cmm_command.specs.declared.command.TheConstants.{USUAL_STACK, USUAL_STEPS}
use Rattle.cmm_compile.specs.Agreement.{AgreesWith}
use Rattle.cmm_front.specs.Refusing.{IsFaultOf}
use Rattle.cmm_front.specs.Programs.{IsProgramOf}
use Rattle.cmm_generated.specs.Generated.{generated}
use Rattle.cmm_image.specs.declared.parts.ImageParts.{ImageParts}
use Rattle.cmm_outside.specs.Faults.{Rose}
use Rattle.cmm_outside.specs.Output.{Appends, AppendsFront}
use Rattle.cmm_program.specs.declared.program.Program.{Program}
use Rattle.cmm_work.specs.declared.status.Status.TheVariants.{OutputFault}
use Rattle.cmm_work.specs.Standing.{SameButLog}
use Rattle.cmm_top.specs.Counts.{counts_lines}
use Rattle.cmm_top.specs.Units.{IsRefused}
use Rattle.cmm_work.specs.Work.{Ends, Ran, RanOutOfMemory, Work, no_script}

-- how far the run goes: as one does for which nothing is said
abbrev pub usual_limits : RunLimits
usual_limits = record { steps = USUAL_STEPS; stack = USUAL_STACK }

-- the unit of a number means this program, with which this image agrees, and it was loaded
pub record IsLoaded (number : ℕ) (program : Program) (image : ImageParts) (w : Work) : Type 0 where
  pub means : IsProgramOf (generated number ∷ []) program
  pub agrees : AgreesWith program image
  pub is_image : w.image ≡ Some image

-- the log got the program's counts, and then the image has run
pub record HasRun (number : ℕ) (w : Work) : Type 0 where
  pub program : Program
  pub image : ImageParts
  pub loaded : IsLoaded number program image w
  pub told : Option (List ℕ)
  pub counts : Appends w.before.streams.log told (counts_lines program)
  pub ran : Ran w (record w.before.streams { log = told }) image no_script usual_limits

-- the log failed where it was to get the counts, and nothing was run
pub record FailsToCount (number : ℕ) (w : Work) : Type 0 where
  pub program : Program
  pub image : ImageParts
  pub loaded : IsLoaded number program image w
  pub same : SameButLog w.before w.after
  pub counts : AppendsFront w.before.streams.log w.after.streams.log (counts_lines program)
  pub rose : Rose w.before.streams.log_faults w.after.streams.log_faults
  pub ends : Ends w [] OutputFault

-- there is no image of the unit, which is called `generated`
abbrev pub HasNoImage : ℕ → Work → Type 0
HasNoImage number w = IsRefused (codes "generated" ∷ []) (IsFaultOf (generated number ∷ [])) w ⊎ RanOutOfMemory w

abbrev pub Generates : ℕ → Work → Type 0
Generates number w = HasRun number w ⊎ (FailsToCount number w ⊎ HasNoImage number w)
