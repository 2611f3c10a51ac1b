-- The image follows the located machine with its yields, wherever what an event shows fits its widths.
use Rattle.std.specs.Prelude.{◌≡◌, ℕ, ◌+◌, ◌*◌, ◌≤◌, ◌++◌, false, List, Some}
use Rattle.std.specs.List.{All}
use Rattle.cmm_simulation.specs.Agreement.{Agrees}
use Rattle.cmm_simulation.specs.Following.{Follows}
use Rattle.cmm_simulation.specs.Machine.{Machine, after}
use Rattle.cmm_simulation.specs.Seen.{Client, IsPrefix}
use Rattle.cmm_simulation.specs.Simulation.{Simulates}
use Rattle.cmm_simulation.specs.Tested.{tested}
use Rattle.cmm_script.specs.Lines.{yield_line}
use Rattle.cmm_script.specs.Walk.{Activation}
use Rattle.cmm_program.specs.Control.{State}
use Rattle.cmm_program.specs.Machine.{start}
use Rattle.cmm_program.specs.State.{Setting}
use Rattle.cmm_program.specs.Todo.{Todo, todo_control}
use Rattle.cmm_machine_laws.specs.Fitting.{IsSetUp}
use Rattle.cmm_program.specs.Memory.{IsByte}
use Rattle.cmm_machine_laws.specs.Observed.{Call, Ending, machine_of}
use Rattle.cmm_image_machine.specs.Machine.{Launch, Run, first_run}
use Rattle.cmm_image_machine.specs.Observed.{image_machine}
use Rattle.cmm_located.specs.Compiled.{Compiled, Located}
use Rattle.cmm_located.specs.LocatedMachine.{located_machine, located_start, located_step, tokens_at}
use Rattle.cmm_emit_laws.specs.Finished.{Finished}
use Rattle.cmm_emit_laws.specs.Laws.{most_for_step}
use Rattle.cmm_emit_laws.specs.Serving.{IsRepresentedBy}
use Rattle.cmm_emit_laws.specs.Standing.{IsOfRun, outside_at}
use Rattle.cmm_emit_laws.specs.Starting.{StartCode}
use Rattle.cmm_client_laws.specs.Fits.{event_fits}
use Rattle.cmm_yield_laws.specs.Standing.{StandsOrWaits}
use Rattle.cmm_yield_laws.specs.WholeCode.{IsWholeCode}

-- the located machine, wrong too at an event whose walk has a value that does not fit its width
abbrev pub fitting_machine : Setting → Compiled → Machine Located ℕ Call Ending
fitting_machine s c = tested event_fits (located_machine s c)

-- a run of the image represents a located state, which may wait for the client, and has the rest of memory elsewhere
abbrev pub IsRepresentedWhole : Setting → Compiled → Launch → Finished → (ℕ → ℕ) → Located → Run → Type 0
IsRepresentedWhole s c l f rest = IsRepresentedBy (fitting_machine s c) l outside_at (StandsOrWaits s c l f rest) (IsOfRun s c)

-- Where code is that of a program with its yields, and tables tell of it, each located step is done by instructions, at most 32 a token of its node: a
-- yield by those that lead to the ECALL, and the client's answer by that ECALL. Whatever the rest of memory is, it stays.
abbrev pub ImagesSimulateYields : Type 0
ImagesSimulateYields = (s : Setting) (c : Compiled) (l : Launch) (f : Finished) → IsWholeCode s c l f → (rest : ℕ → ℕ) →
    Simulates (fitting_machine s c) (most_for_step s c) (image_machine l) (λ run. 1) (IsRepresentedWhole s c l f rest)

-- What follows the C-- machine over locations does so where the walks of events have to fit.
abbrev pub FittingRunsFollow : Type 0
FittingRunsFollow = (s : Setting) → IsSetUp s → (c : Compiled) (input : List ℕ) → All IsByte input → (a : State Todo → ℕ) (b : Located → ℕ) (at : Located) →
    let machine = machine_of (todo_control s.program) s in
    Follows machine a (located_machine s c) b (start s input) at → Follows machine a (fitting_machine s c) b (start s input) at

-- Where the located machine follows the C-- machine from behind its first step, the image agrees with the C-- machine, clients and all, at 32 instructions
-- for each token that a step costs over locations.
abbrev pub ImagesAgreeWithClients : Type 0
ImagesAgreeWithClients = (s : Setting) → IsSetUp s → (c : Compiled) (l : Launch) (f : Finished) → IsWholeCode s c l f → (begins : StartCode s c l f) →
    (input : List ℕ) → All IsByte input →
    (cost : ℕ) → let machine = machine_of (todo_control s.program) s in let first = located_start s c input in
    Follows machine (λ _. cost) (located_machine s c) (tokens_at s c) (start s input) (located_step s c first) → begins.most + 32 * tokens_at s c first ≤ 32 * cost →
    Agrees machine (image_machine l) (32 * cost) (32 * cost) 1 (start s input) (first_run l input)

-- And where the C-- machine waits for the client after m steps, the image has the line of the yield in its log once m + 1 steps are paid for, if the start
-- leaves one instruction.
abbrev pub LinesAreThere : Type 0
LinesAreThere = (s : Setting) → IsSetUp s → (c : Compiled) (l : Launch) (f : Finished) → IsWholeCode s c l f → (begins : StartCode s c l f) →
    (input : List ℕ) → All IsByte input →
    (cost : ℕ) → let machine = machine_of (todo_control s.program) s in let first = located_start s c input in
    Follows machine (λ _. cost) (located_machine s c) (tokens_at s c) (start s input) (located_step s c first) →
    begins.most + 32 * tokens_at s c first + 1 ≤ 32 * cost →
    (m : ℕ) → machine.wrong (after machine m (start s input)) ≡ false → (call : Call) (walk : List Activation) →
    machine.asks (after machine m (start s input)) ≡ Some (Client call) →
    call.walk ≡ Some walk →
    IsPrefix ((machine.seen (after machine m (start s input))).log ++ yield_line call.values) (after (image_machine l) (32 * cost * (m + 1)) (first_run l input)).log
