use Rattle.std.proofs.Common.{◌≡◌, Ok, IfSome}
use Rattle.rv_table.specs.declared.registers.Regs.{Regs as RegsOf}
use Rattle.rv_memory.specs.Regions.{region_of}
use Rattle.rv_memory.specs.States.{state_of}
use Rattle.cmm_abi.specs.Regions.{top}
use Rattle.cmm_program.specs.Commands.{seeking}
use Rattle.cmm_image_machine.specs.Machine.{askable}
use Rattle.cmm_walk.specs.Activations.{Fits, element_of}
use Rattle.cmm_walk.specs.Walking.{found_by}
use Rattle.cmm_walk.proofs.Shared.{left_of}
use Rattle.cmm_client.proofs.Asked.{sought_along}
use Rattle.cmm_client.proofs.looking.sought.Given as goal

abbrev pub invariant-loop-next : goal.invariant-loop-next
invariant-loop-next l = record {
  same : (r : RegsOf) → seeking (askable l.i (region_of l.m)) (state_of r l.m) (element_of l.i l.from) l.token l.value
      ≡ sought_along l.i (region_of l.m) (state_of r l.m) l.token l.value (found_by l.i (Ok l.next));
  fits : IfSome l.next (Fits l.i (region_of l.m));
}

abbrev pub decreases-loop-next : goal.decreases-loop-next
decreases-loop-next l = left_of (top (region_of l.m)) (Ok l.next)
