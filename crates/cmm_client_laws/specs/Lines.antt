-- The line of a yield: the image writes it by the ECALL at which it stands.
use Rattle.std.specs.Prelude.{◌≡◌, ◌++◌, List, Some}
use Rattle.cmm_simulation.specs.Seen.{Client, IsPrefix}
use Rattle.cmm_script.specs.Lines.{yield_line}
use Rattle.cmm_script.specs.Walk.{Activation}
use Rattle.cmm_machine_laws.specs.Observed.{Call}
use Rattle.cmm_image_machine.specs.Machine.{Launch, Run, step}
use Rattle.cmm_image_machine.specs.Observed.{image_machine}

-- Where an image stands at a call of the client, and the chain of its frames does not break, its next instruction writes the line of the yield behind
-- what the log has.
abbrev pub LinesAreWritten : Type 0
LinesAreWritten = (l : Launch) (run : Run) (call : Call) (walk : List Activation) → (image_machine l).asks run ≡ Some (Client call) → call.walk ≡ Some walk →
    IsPrefix (run.log ++ yield_line call.values) (step l run).log
