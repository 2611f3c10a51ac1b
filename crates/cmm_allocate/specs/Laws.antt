-- What the places of a program guarantee: they meet all that the laws of located runs require of a compiled program.
use Rattle.std.specs.Prelude.{◌≡◌, ℕ, ◌+◌, ◌*◌, ◌≤◌, IsTrue, List, length}
use Rattle.std.specs.List.{All, AllZip, list_all}
use Rattle.cmm_abi.specs.Registers.{callee_saves}
use Rattle.cmm_simulation.specs.Following.{Follows}
use Rattle.cmm_machine_laws.specs.Fitting.{IsSetUp}
use Rattle.cmm_program.specs.Memory.{IsByte}
use Rattle.cmm_machine_laws.specs.Observed.{machine_of}
use Rattle.cmm_program.specs.declared.procedure.Proc.{Proc}
use Rattle.cmm_program.specs.declared.program.Program.{Program}
use Rattle.cmm_program.specs.declared.placement.Placement.{Placement}
use Rattle.cmm_program.specs.InRange.{IsInRange}
use Rattle.cmm_program.specs.Machine.{start}
use Rattle.cmm_program.specs.Placed.{IsPlaced, ascend_from, is_code_address}
use Rattle.cmm_program.specs.State.{Setting}
use Rattle.cmm_program.specs.Todo.{todo_control}
use Rattle.cmm_graph.specs.declared.graph.Graph.{Graph}
use Rattle.cmm_located.specs.Clients.{IsShowable}
use Rattle.cmm_located.specs.LocatedMachine.{located_machine, located_start, located_step, tokens_at}
use Rattle.cmm_located.specs.RunningSteps.{IsCompiled}
use Rattle.cmm_located.specs.SameOrders.{HasFrames}
use Rattle.cmm_hoisted.specs.Flow.{AreFlowsWithin, IsHoistedFlow, entry_tokens}
use Rattle.cmm_flow.specs.Relation.{longest}
use Rattle.cmm_allocate.specs.declared.procedure.ProcedurePlaces.{ProcedurePlaces}
use Rattle.cmm_allocate.specs.Compiling.{compiled, live_before}
use Rattle.cmm_allocate.specs.Places.{CanBePlaced, HasPlaces, HavePlaces}
use Rattle.cmm_allocate.specs.Placing.{placement_rows}

-- frames can be laid for the procedures of a program in range and their hoisted flows
abbrev pub FlowsCanBePlaced : Type 0
FlowsCanBePlaced = (p : Program) (graphs : List Graph) → IsInRange p → AllZip IsHoistedFlow p.procs graphs → AllZip CanBePlaced p.procs graphs

-- The code of an Entry writes few words: at most the callee-saves registers are saved, and what is made 0 and the two words of each continuation's pair
-- come to at most one for each token of the Entry.
pub record EntryIsShort (g : Graph) (k : ProcedurePlaces) : Type 0 where
  pub saved : length k.frame.saved ≤ length callee_saves
  pub words : length k.zeroed + 2 * length k.frame.pairs ≤ entry_tokens g

abbrev pub EntriesAreShort : Type 0
EntriesAreShort = (p : Proc) (g : Graph) (k : ProcedurePlaces) → CanBePlaced p g → HasPlaces p g k → EntryIsShort g k

-- A program in range runs in a setting over the hoisted flows of its procedures, which have tokens to spare for the constants that are kept, and over their places. The rows of the placement
-- have the frames that were laid.
pub record RunsOverPlaces (s : Setting) (graphs : List Graph) (found : List ProcedurePlaces) : Type 0 where
  pub range : IsInRange s.program
  pub flows : AllZip IsHoistedFlow s.program.procs graphs
  pub within : AreFlowsWithin s.program graphs
  pub places : HavePlaces s.program.procs graphs found
  pub frames : HasFrames s (compiled graphs found)

-- ---- the rows of a placement

-- rows that are made of the frames have them
abbrev pub RowsHaveFrames : Type 0
RowsHaveFrames = (s : Setting) (graphs : List Graph) (found : List ProcedurePlaces) (codes : List ℕ) → length codes ≡ length found →
    s.placement.rows ≡ placement_rows found codes → HasFrames s (compiled graphs found)

-- and make a valid placement, where the code of each procedure stands behind that of the one before
abbrev pub RowsArePlaced : Type 0
RowsArePlaced = (p : Program) (graphs : List Graph) (found : List ProcedurePlaces) (codes : List ℕ) (placement : Placement) → length graphs ≡ length p.procs →
    HavePlaces p.procs graphs found → length codes ≡ length found → IsTrue (list_all is_code_address codes) → placement.rows ≡ placement_rows found codes →
    IsTrue (ascend_from 0 placement.rows) → IsPlaced p placement

-- ---- what runs ask

-- the program is compiled then, into nodes of at most so many tokens
abbrev pub PlacesAreCompiled : Type 0
PlacesAreCompiled = (s : Setting) (graphs : List Graph) (found : List ProcedurePlaces) (runs : RunsOverPlaces s graphs found) →
    IsCompiled s (compiled graphs found) (live_before found) runs.within.most

-- and the client can be shown its activations
abbrev pub PlacesAreShowable : Type 0
PlacesAreShowable = (s : Setting) (graphs : List Graph) (found : List ProcedurePlaces) → RunsOverPlaces s graphs found →
    IsShowable s (compiled graphs found)

-- ---- whole runs

-- So on every input, which has bytes, a located run follows the run of the C-- machine, from behind its first step on, which enters `main`. A step
-- of the machine costs at most twice the tokens of the longest procedure: those of the nodes of a statement, and those of the node where control
-- lands. The placement is valid and the stack's addresses are words: so each value of the run fits its width, as nodes ask.
abbrev pub LocatedRunsFollowPrograms : Type 0
LocatedRunsFollowPrograms = (s : Setting) (graphs : List Graph) (found : List ProcedurePlaces) (input : List ℕ) → IsSetUp s → All IsByte input →
    RunsOverPlaces s graphs found →
    let c = compiled graphs found in
    Follows (machine_of (todo_control s.program) s) (λ _. longest s.program + longest s.program) (located_machine s c) (tokens_at s c) (start s input)
    (located_step s c (located_start s c input))

-- and its first step costs at most the tokens of the longest procedure
abbrev pub RunsBeginCheaply : Type 0
RunsBeginCheaply = (s : Setting) (graphs : List Graph) (found : List ProcedurePlaces) (input : List ℕ) → RunsOverPlaces s graphs found →
    let c = compiled graphs found in tokens_at s c (located_start s c input) ≤ longest s.program
