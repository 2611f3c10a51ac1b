-- Worked rows: the graph machine on six small programs, run to their ends.
use Rattle.std.proofs.Common.{◌≡◌, refl}
use Rattle.cmm_program.specs.Errors.{WrongValues}
use Rattle.cmm_program.specs.State.{Ended, Done, Wrong}
use Rattle.cmm_graph.proofs.Notation.{status_after}
use Rattle.cmm_graph.proofs.Graphs.{loop, loop-setting, at_8_bits, at_8_bits-setting, switch, switch-setting, alternates, alternates-setting, cutting, cutting-setting, yielding, yielding-setting}

-- 0 + 1 + 4 + 9, by four steps a turn
loop_runs : status_after loop loop-setting 18 ≡ Ended (Done 14)
loop_runs = refl

-- an operand has to be a word of the width at which a node computes
fitting_runs : status_after (at_8_bits 255) at_8_bits-setting 2 ≡ Ended (Done 0)
fitting_runs = refl

wide_is_wrong : status_after (at_8_bits 256) at_8_bits-setting 1 ≡ Wrong WrongValues
wide_is_wrong = refl

switch_runs : status_after switch switch-setting 9 ≡ Ended (Done 708)
switch_runs = refl

alternates_run : status_after alternates alternates-setting 5 ≡ Ended (Done 205)
alternates_run = refl

cutting_runs : status_after cutting cutting-setting 5 ≡ Ended (Done 42)
cutting_runs = refl

yielding_runs : status_after yielding yielding-setting 4 ≡ Ended (Done 90)
yielding_runs = refl
