-- What holds of machines that are served by images.
use Rattle.std.specs.Prelude.{◌≡◌}
use Rattle.rv_table.specs.Machine.{State}
use Rattle.cmm_simulation.specs.Simulation.{Simulates}
use Rattle.cmm_image_machine.specs.Machine.{Launch, Run}
use Rattle.cmm_image_machine.specs.Observed.{image_machine}
use Rattle.cmm_emit_laws.specs.Outside.{outside}
use Rattle.cmm_emit_laws.specs.Serving.{AreDone, IsRepresentedBy}

abbrev pub IsMachineOf : Run → State → Type 0
IsMachineOf run s = s ≡ run.machine

abbrev pub Always : Run → Type 0
Always run = Unit {0}

-- every step of an image, whatever it asks for, is one that code does in one instruction
abbrev pub StepsAreDone : Type 0
StepsAreDone = (l : Launch) → AreDone (image_machine l) l outside IsMachineOf Always (λ run. 1)

-- so an image simulates itself, at one instruction a step
abbrev pub ImagesSimulateThemselves : Type 0
ImagesSimulateThemselves = (l : Launch) →
    Simulates (image_machine l) (λ run. 1) (image_machine l) (λ run. 1) (IsRepresentedBy (image_machine l) l outside IsMachineOf Always)
