use Rattle.std.proofs.Common.{◌≡◌, ℕ, List, Ok, IfSome}
use Rattle.cmm_abi.specs.Regions.{top}
use Rattle.cmm_walk.specs.Activations.{Fits}
use Rattle.rv_memory.specs.Regions.{region_of}
use Rattle.rv_memory.specs.States.{state_of}
use Rattle.cmm_walk.specs.Walking.{found_by}
use Rattle.cmm_program.specs.Commands.{cutting}
use Rattle.cmm_image_machine.specs.Machine.{askable}
use Rattle.cmm_resume.specs.inside.CutPaths.{cut_along}
use Rattle.cmm_walk.proofs.Shared.{left_of}
use Rattle.cmm_resume.proofs.cutting.continuation_of.Given as goal

abbrev pub invariant-loop-found : goal.invariant-loop-found
invariant-loop-found l = record {
  same : (values : List ℕ) → cutting (askable l.i (region_of l.m)) (state_of l.r l.m) l.to values ≡ cut_along l.i (region_of l.m) (state_of l.r l.m) l.to values (found_by l.i (Ok l.found));
  fits : IfSome l.found (Fits l.i (region_of l.m));
}

abbrev pub decreases-loop-found : goal.decreases-loop-found
decreases-loop-found l = left_of (top (region_of l.m)) (Ok l.found)
