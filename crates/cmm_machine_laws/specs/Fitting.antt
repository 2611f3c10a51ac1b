-- What holds of every state of the C-- machine, for a program in range at a valid placement: what an activation has to do is
-- in range in its own procedure, each suspended one waits at a site of it, and each value fits the width of what holds it.
use Rattle.std.specs.Prelude.{◌≡◌, ℕ, ◌^◌, ◌<◌, ◌≤◌, IsTrue, IsSome, IfSome, ⊤, All, List, [], ◌∷◌, length, Option, Some, None, Ok}
use Rattle.std.specs.List.{AllZip}
use Rattle.cmm_words.specs.declared.width.Width.{Width}
use Rattle.cmm_words.specs.declared.width.Width.TheVariants.{W64}
use Rattle.cmm_words.specs.Widths.{IsWord}
use Rattle.cmm_program.specs.declared.expression.Expression.{Expression}
use Rattle.cmm_program.specs.declared.statement.Statement.{Statement}
use Rattle.cmm_program.specs.declared.procedure.Proc.{Proc}
use Rattle.cmm_program.specs.declared.program.Program.{Program}
use Rattle.cmm_program.specs.Control.{State}
use Rattle.cmm_program.specs.Frames.{procedure_at, sum_of_sizes}
use Rattle.cmm_program.specs.InRange.{IsInRange, is_statement, is_body_in}
use Rattle.cmm_program.specs.Machine.{start, step, state_after}
use Rattle.cmm_program.specs.Memory.{IsByte, Memory, Room}
use Rattle.cmm_program.specs.Placed.{IsPlaced}
use Rattle.cmm_program.specs.State.{Setting, Activation, Status, Running, Waiting, stack_top}
use Rattle.cmm_program.specs.Todo.{Todo}
use Rattle.cmm_program.specs.Typing.{typed}
use Rattle.cmm_machine_laws.specs.Runs.{Traffic, traffic, yielded}
use Rattle.cmm_program.specs.Values.{value_of}
use Rattle.cmm_program.specs.Writes.{reads_of}

-- ---- activations

-- a statement that is in range in a procedure, with the blocks inside it
abbrev pub IsStatementOf : Program → Proc → Statement → Type 0
IsStatementOf p q statement = IsTrue (is_statement p q statement) × IsTrue (is_body_in p q statement.form)

-- An activation of a procedure: each of its variables has a value, of the variable's width; it waits at one of its sites,
-- if it is suspended; and each statement that it has still to do is in range in the procedure.
pub record IsActivationOf (p : Program) (q : Proc) (a : Activation) (t : Todo) : Type 0 where
  pub variables : AllZip (λ v value. IsWord v.width value) q.vars a.variables
  pub site : IfSome a.site (λ n. n < length q.sites)
  pub statements : All (IsStatementOf p q) t.rest

-- a frame, and where its activation stands: both name one procedure of the program
pub record IsActivation (s : Setting) (a : Activation) (t : Todo) : Type 0 where
  pub known : a.procedure < length s.program.procs
  pub control : t.procedure ≡ a.procedure
  pub procedure : (q : Proc) → procedure_at s a.procedure ≡ Some q → IsActivationOf s.program q a t

-- what is demanded of the youngest activation, by its site, or of there being none
abbrev pub Demand : Type 1
Demand = Option (Option ℕ) → Type 0

-- it is suspended, if there is one
abbrev pub IsSuspended : Demand
IsSuspended youngest = IfSome youngest IsSome

-- As many activations stand somewhere as there are frames, youngest first. The youngest is as demanded, and each older one is
-- suspended.
abbrev pub AreActivations : Setting → Demand → List Activation → List Todo → Type 0
AreActivations s P [] [] = P None
AreActivations s P (a ∷ older) (t ∷ ts) = P (Some a.site) × IsActivation s a t × AreActivations s IsSuspended older ts
AreActivations s P activations todos = ⊥

-- In a running state there is an activation, which isn't suspended; in one that waits for the client there is a suspended one.
abbrev pub Youngest : Status → Demand
Youngest Running youngest = youngest ≡ Some None
Youngest (Waiting values) youngest = (site : ℕ) × (youngest ≡ Some (Some site))
Youngest status youngest = ⊤

-- ---- values

-- what was written into a cell is a byte, and so in every cell of a room
abbrev pub CellFits : Option ℕ → Type 0
CellFits cell = IfSome cell IsByte

abbrev pub RoomFits : Room → Type 0
RoomFits room = All CellFits room.cells

-- and so in all of memory
pub record MemoryFits (memory : Memory) : Type 0 where
  pub data_room : RoomFits memory.data_room
  pub rooms : All RoomFits memory.rooms

-- input, what was taken of it, and output are bytes
abbrev pub ArePassed : Traffic → Type 0
ArePassed t = All IsByte t.input × All IsByte t.taken × All IsByte t.output

-- ---- states

-- Each register has a value, of its width, memory has bytes, activations stand where they may, the youngest as the status
-- demands, and the values for the client are words.
pub record StateFits (s : Setting) (st : State Todo) : Type 0 where
  pub registers : AllZip (λ g value. IsWord g.width value) s.program.globals st.store.registers
  pub memory : MemoryFits st.store.memory
  pub activations : AreActivations s (Youngest st.store.status) st.store.activations st.controls
  pub yielded : IfSome (yielded st.store.status) (All (IsWord W64))

-- a state of which that holds: what goes in and out of it is bytes, and its frames fit the stack
pub record IsSound (s : Setting) (st : State Todo) : Type 0 where
  pub fits : StateFits s st
  pub passed : ArePassed (traffic st.store)
  pub stack : sum_of_sizes s st.store.activations ≤ s.stack_size

-- what a run needs for that: a program in range at a valid placement, and a stack whose addresses are words
pub record IsSetUp (s : Setting) : Type 0 where
  pub program : IsInRange s.program
  pub placement : IsPlaced s.program s.placement
  pub top : stack_top s < 2 ^ 64

-- With an input of bytes the first state is sound, each step leads from a sound state to a sound one, and so every state is
-- sound.
pub record StatesAreSound : Type 0 where
  pub first : (s : Setting) → IsSetUp s → (input : List ℕ) → All IsByte input → IsSound s (start s input)
  pub next : (s : Setting) → IsSetUp s → (st : State Todo) → IsSound s st → IsSound s (step s st)
  pub list_all : (s : Setting) → IsSetUp s → (input : List ℕ) → All IsByte input → (m : ℕ) → IsSound s (state_after s input m)

-- In a sound state, an expression of the youngest activation's procedure that keeps the rules on widths has a value of its
-- width, if it has one.
abbrev pub ExpressionsFit : Type 0
ExpressionsFit = (s : Setting) (st : State Todo) (a : Activation) (older : List Activation) (q : Proc) (e : Expression) (w : Width) (value : ℕ) →
    IsSetUp s → IsSound s st → st.store.activations ≡ a ∷ older → procedure_at s a.procedure ≡ Some q →
    typed s.program q e ≡ Some w → value_of e (reads_of s st.store) ≡ Ok value → IsWord w value
