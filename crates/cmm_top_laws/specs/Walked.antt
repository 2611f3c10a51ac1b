-- What `walk` writes of a snapshot, where that is a given walk.
use Rattle.std.specs.Prelude.{◌≡◌, ◌⊎◌, List, []}
use Rattle.cmm_outside.specs.Faults.{Rose}
use Rattle.cmm_outside.specs.Output.{Appends, AppendsFront}
use Rattle.cmm_script.specs.Walk.{Activation, walk_text}
use Rattle.cmm_work.specs.Work.{Ends, Work}
use Rattle.cmm_work.specs.declared.status.Status.TheVariants.{Done, OutputFault}

-- the whole walk
pub record HasWritten (walk : List Activation) (w : Work) : Type 0 where
  pub output : Appends w.before.streams.output w.after.streams.output (walk_text walk)
  pub faults : w.after.streams.output_faults ≡ w.before.streams.output_faults
  pub ends : Ends w [] Done

-- a front of it, where the output failed
pub record FailsToWrite (walk : List Activation) (w : Work) : Type 0 where
  pub output : AppendsFront w.before.streams.output w.after.streams.output (walk_text walk)
  pub faults : Rose w.before.streams.output_faults w.after.streams.output_faults
  pub ends : Ends w [] OutputFault

-- so the chain of its frames never breaks
abbrev pub WalksSo : List Activation → Work → Type 0
WalksSo walk w = HasWritten walk w ⊎ FailsToWrite walk w
