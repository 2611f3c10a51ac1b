use Rattle.std.proofs.Common.{take}
use Rattle.cmm_outside.proofs.Shared.{HasWritten}
use Rattle.cmm_script.specs.Walk.{variable_lines}
use Rattle.cmm_image_machine.specs.Walks.{element_shown}
use Rattle.cmm_walk.specs.Activations.{element_of}
use Rattle.rv_memory.specs.States.{state_of}
use Rattle.cmm_walk.proofs.lines.put_variables.Given as goal

abbrev pub invariant-loop-n : goal.invariant-loop-n
invariant-loop-n g l = HasWritten g.E.Sink.taken g.E.Sink.faults l.initial.to l.to
    (variable_lines 0 (take l.n (element_shown (state_of l.r l.m) (element_of l.i l.a)).variables))
