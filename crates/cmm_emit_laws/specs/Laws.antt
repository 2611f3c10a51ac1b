-- The image follows the located machine.
use Rattle.std.specs.Prelude.{ℕ, ◌*◌, List}
use Rattle.std.specs.List.{All}
use Rattle.cmm_simulation.specs.Following.{Follows}
use Rattle.cmm_simulation.specs.Observing.{Passes}
use Rattle.cmm_simulation.specs.Simulation.{Leads, Simulates}
use Rattle.cmm_program.specs.State.{Setting}
use Rattle.cmm_program.specs.Memory.{IsByte}
use Rattle.cmm_image_machine.specs.Machine.{Launch, Run, first_memory, first_run}
use Rattle.cmm_image_machine.specs.Observed.{image_machine}
use Rattle.cmm_emit_laws.specs.Serving.{IsRepresentedBy}
use Rattle.cmm_located.specs.Compiled.{Compiled, Located}
use Rattle.cmm_located.specs.LocatedMachine.{located_machine, located_start, tokens_at}
use Rattle.cmm_emit_laws.specs.Finished.{Finished}
use Rattle.cmm_emit_laws.specs.ProgramCode.{IsCode}
use Rattle.cmm_emit_laws.specs.Standing.{IsOfRun, Stands, outside_at}
use Rattle.cmm_emit_laws.specs.Starting.{StartCode}

-- at most n instructions do a step
abbrev pub most_for_step : Setting → Compiled → Located → ℕ
most_for_step s c at = 32 * tokens_at s c at

-- a run of the image represents a located state, and has the rest of memory elsewhere
abbrev pub IsRepresentedIn : Setting → Compiled → Launch → Finished → (ℕ → ℕ) → Located → Run → Type 0
IsRepresentedIn s c l f rest = IsRepresentedBy (located_machine s c) l outside_at (Stands s c l f rest) (IsOfRun s c)

-- Where code is that of a program, each step over locations is done by instructions, at most 32 a token of its node, whatever the rest of memory is, which
-- stays: what an image represents of a run is a simulation.
abbrev pub ImagesSimulateLocatedRuns : Type 0
ImagesSimulateLocatedRuns = (s : Setting) (c : Compiled) (l : Launch) (f : Finished) → IsCode s c l f → (rest : ℕ → ℕ) →
    Simulates (located_machine s c) (most_for_step s c) (image_machine l) (λ run. 1) (IsRepresentedIn s c l f rest)

-- The first state of an image is led, by the code that begins a run and before `main` is entered, to one that represents the first located state; the rest
-- of memory is as it was at first.
abbrev pub CodeBegins : Type 0
CodeBegins = (s : Setting) (c : Compiled) (l : Launch) (f : Finished) (input : List ℕ) → IsCode s c l f → (begins : StartCode s c l f) → All IsByte input →
    let start = located_start s c input in
    Leads (image_machine l) (λ run. 1) (Passes (located_machine s c) (image_machine l) start)
    (IsRepresentedIn s c l f (first_memory l.image) start) 0 begins.most (first_run l input)

-- From there the image follows the located run.
abbrev pub ImagesFollowLocatedRuns : Type 0
ImagesFollowLocatedRuns = (s : Setting) (c : Compiled) (l : Launch) (f : Finished) (input : List ℕ) → IsCode s c l f → (begins : StartCode s c l f) → All IsByte input →
    let start = located_start s c input in
    Leads (image_machine l) (λ run. 1) (Passes (located_machine s c) (image_machine l) start)
    (Follows (located_machine s c) (most_for_step s c) (image_machine l) (λ run. 1) start) 0 begins.most (first_run l input)
