-- The client's answer to a yield, over locations and in the image: what it is shown, what it changes, and where the program goes on.
use Rattle.std.specs.Prelude.{◌≡◌, ℕ, true, List, Some}
use Rattle.rv_table.specs.declared.request.Request.TheVariants.{Yield}
use Rattle.rv_table.specs.Machine as rv
use Rattle.rv_table.specs.Machine.{MemoryMap}
use Rattle.cmm_simulation.specs.Seen.{Event}
use Rattle.cmm_program.specs.Control.{State}
use Rattle.cmm_program.specs.State.{Setting}
use Rattle.cmm_program.specs.Todo.{Todo, todo_control}
use Rattle.cmm_program.specs.Walks.{walk_of}
use Rattle.cmm_machine_laws.specs.Alike.{AreAlike}
use Rattle.cmm_machine_laws.specs.Fitting.{IsSound}
use Rattle.cmm_machine_laws.specs.Observed.{Call, Ending, machine_of}
use Rattle.cmm_chain.specs.Chain.{Suspension}
use Rattle.cmm_chain.specs.Plans.{IsPlanned}
use Rattle.cmm_chain.specs.Running.{none_known}
use Rattle.cmm_image.specs.declared.parts.ImageParts.{ImageParts}
use Rattle.cmm_image_machine.specs.Frames.{chain_of}
use Rattle.cmm_image_machine.specs.Laws.{KeepFrames}
use Rattle.cmm_image_machine.specs.Machine.{Launch, Run, Running, askable, map_of, region_of, requested}
use Rattle.cmm_image_machine.specs.Observed.{call_at}
use Rattle.cmm_image_machine.specs.Walks.{chain_walk}
use Rattle.cmm_emit_laws.specs.Represented.{IsFor, stack_region}
use Rattle.cmm_emit_laws.specs.Words.{Symbols}
use Rattle.cmm_located.specs.Answering.{answered_at, listed, places_askable, shown}
use Rattle.cmm_located.specs.Clients.{AreApart}
use Rattle.cmm_located.specs.Compiled.{Compiled, Located}
use Rattle.cmm_located.specs.SameOrders.{HasFrames}
use Rattle.cmm_located.specs.ShownWalks.{KnowsLive}
use Rattle.cmm_located.specs.Walkable.{is_walkable}
use Rattle.cmm_client_laws.specs.Asked.{AreAs, GoesOnAs, IsStoppedAs}
use Rattle.cmm_client_laws.specs.Fits.{event_fits, walk_fits}
use Rattle.cmm_client_laws.specs.Keeping.{Keeps, PutOrRuns}
use Rattle.cmm_client_laws.specs.Rows.{HaveRows}
use Rattle.cmm_client_laws.specs.Tables.{HaveTables}
use Rattle.cmm_client_laws.specs.Waiting.{IsClientDone, IsWaitingAs}
use Rattle.cmm_client_laws.specs.Walked.{AreFoundAs, IsWalked}

-- ---- for which programs and images

-- The tables of the image tell of the compiled program, whose stack is that of the launch, and the client's script is the setting's.
pub record IsTold (s : Setting) (c : Compiled) (y : Symbols) (l : Launch) : Type 0 where
  pub tables : HaveTables s c y l.image
  pub planned : IsPlanned c.plan
  pub is_for : IsFor s (map_of l)
  pub region : stack_region s ≡ region_of l
  pub frames : HasFrames s c
  pub apart : AreApart c
  pub knows : KnowsLive s c
  pub scripts : l.script ≡ s.script

-- what holds of a stopped program and of what represents it, whatever the rest of memory is
abbrev pub OfStopped : ((s : Setting) (c : Compiled) (y : Symbols) (l : Launch) → Located → rv.State → Type 0) → Type 0
OfStopped P = (s : Setting) (c : Compiled) (y : Symbols) (rest : ℕ → ℕ) (l : Launch) (at : Located) (t : rv.State) → IsTold s c y l → IsStoppedAs s c y rest l.image at t →
    P s c y l at t

-- ---- what the client is shown

-- the chain by tables finds just the activations that the walk over locations lists, and does not break
abbrev pub ChainsAreFound : Type 0
ChainsAreFound = OfStopped (λ s c y l at t. AreFoundAs l.image y (listed s c at) (chain_of l.image (region_of l) t))

-- so its walk is that of the located machine
abbrev pub WalksAreSame : Type 0
WalksAreSame = OfStopped (λ s c y l at t. chain_walk l.image (region_of l) t ≡ Some (walk_of s (shown s c at)))

-- At the ECALL of a yield the image's event is that of the located machine: the values that are yielded, and the walk.
abbrev pub CallsAreSame : Type 0
CallsAreSame = (s : Setting) (c : Compiled) (y : Symbols) (rest : ℕ → ℕ) (l : Launch) (values : List ℕ) (at : Located) (run : Run) → IsTold s c y l →
    IsWaitingAs s c y rest l.image values at run.machine → call_at l run.machine ≡ record { values = values; walk = Some (walk_of s (shown s c at)) }

-- ---- what the client changes, and where the program goes on

-- The image's one instruction, with the line of the yield and all commands that answer it, comes to what the answer comes to over locations, with the
-- same log: where the program goes on there, it goes on alike, and where it is stopped, it is stopped alike. The rest of memory stays.
abbrev pub AnswersAreDone : Type 0
AnswersAreDone = (s : Setting) (c : Compiled) (y : Symbols) (rest : ℕ → ℕ) (l : Launch) (values : List ℕ) (at : Located) (run : Run) → IsTold s c y l →
    (waits : IsWaitingAs s c y rest l.image values at run.machine) → run.status ≡ Running → run.log ≡ waits.front →
    IsClientDone s c y rest l.image (answered_at s c values at) (requested l run Yield)

-- the client takes no input and writes no output, and where the program does not go on, control is where it was
abbrev pub AnswersKeep : Type 0
AnswersKeep = (s : Setting) (c : Compiled) (values : List ℕ) (at : Located) →
    Keeps at (answered_at s c values at) × PutOrRuns at (answered_at s c values at)

-- ---- each question and each command

-- In any region, with no script: a stopped program and what represents it are asked alike. Each field is the law of one question or command: chains, what is
-- shown of an activation, a variable that takes a value, data that are written, and the exits by a return, an unwinding and a cut.
abbrev pub CommandsAreAlike : Type 0
CommandsAreAlike = (s : Setting) (c : Compiled) (y : Symbols) (rest : ℕ → ℕ) (i : ImageParts) (m : MemoryMap) → HaveTables s c y i → IsPlanned c.plan → IsFor s m → HasFrames s c → AreApart c →
    KnowsLive s c → AreAlike (IsStoppedAs s c y rest i) (AreAs s c y i) (GoesOnAs s c y rest i) (places_askable s c) (askable i (stack_region s))

-- ---- values that fit

-- at every event of a sound state of the C-- machine, the values of the walk fit their widths
abbrev pub EventsFit : Type 0
EventsFit = (s : Setting) (st : State Todo) → IsSound s st → (event : Event Call Ending) → (machine_of (todo_control s.program) s).asks st ≡ Some event →
    event_fits event ≡ true

-- Where the test of a yield has passed, and the values of the walk fit, the stack is the chain of the activations, and what is live in each fits.
abbrev pub FittingIsWalked : Type 0
FittingIsWalked = (s : Setting) (c : Compiled) (at : Located) → is_walkable s c at.holdings.contents at.store.activations at.holdings.point ≡ true →
    walk_fits (walk_of s (shown s c at)) ≡ true → at.holdings.temps ≡ none_known →
    (suspended : List Suspension) × IsWalked s c at.holdings at.store.activations suspended

-- ---- tables

-- rows of procedures, sites and labels of the program are tables that tell of it
abbrev pub RowsAreTables : Type 0
RowsAreTables = (s : Setting) (c : Compiled) (y : Symbols) (i : ImageParts) → KeepFrames i → HaveRows s c y i → HaveTables s c y i
