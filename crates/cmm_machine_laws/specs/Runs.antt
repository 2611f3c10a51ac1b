-- What runs do step by step: which states stay, what a step adds to what was seen, who takes the input, and what the
-- client's commands leave as it is.
use Rattle.std.specs.Prelude.{◌≡◌, ◌⊎◌, ℕ, ◌+◌, ◌%◌, true, List, [], ◌∷◌, ◌++◌, map, Ok, Err, Option, Some, None}
use Rattle.cmm_script.specs.declared.script.Command.{Command}
use Rattle.cmm_rules.specs.declared.rule.Rule.{Rule}
use Rattle.cmm_script.specs.Lines.{yield_line, refused_line}
use Rattle.cmm_simulation.specs.Seen.{Seen, IsWithin}
use Rattle.cmm_program.specs.declared.procedure.Target.{Target}
use Rattle.cmm_program.specs.Errors.{UncheckedError}
use Rattle.cmm_program.specs.Layout.{bytes_of}
use Rattle.cmm_program.specs.Memory.{with_bytes}
use Rattle.cmm_program.specs.State.{Setting, Activation, Store, Status, Running, Waiting, Ended, Wrong, Outcome}
use Rattle.cmm_program.specs.Acts.{PutByte, GetByte, evaluated}
use Rattle.cmm_program.specs.Orders as order
use Rattle.cmm_program.specs.Orders.{Order}
use Rattle.cmm_program.specs.Values.{Value}
use Rattle.cmm_program.specs.Writes.{reads_of}
use Rattle.cmm_program.specs.Control.{Control, State, next_act}
use Rattle.cmm_program.specs.Todo.{Todo, todo_control}
use Rattle.cmm_program.specs.Asking.{Cursor}
use Rattle.cmm_program.specs.Commands.{Goes, asked, reply}
use Rattle.cmm_program.specs.Client.{Located, may_poke, store_askable, with_variable}
use Rattle.cmm_program.specs.Machine.{step, state_after}

-- ---- states that stay

-- a state whose run has ended stays as it is
abbrev pub EndedStays : Type 0
EndedStays = (s : Setting) (st : State Todo) (outcome : Outcome) → st.store.status ≡ Ended outcome → step s st ≡ st

-- a state that has gone wrong stays as it is
abbrev pub WrongStays : Type 0
WrongStays = (s : Setting) (st : State Todo) (error : UncheckedError) → st.store.status ≡ Wrong error → step s st ≡ st

-- ---- what a step adds

-- what went in and out so far (the input that is left and that was taken, the output and the log), and the values that a yield
-- gave the client, while it is waited for
pub record Traffic : Type 0 where
  pub input : List ℕ
  pub taken : List ℕ
  pub output : List ℕ
  pub log : List ℕ
  pub yielded : Option (List ℕ)

abbrev pub yielded : Status → Option (List ℕ)
yielded (Waiting values) = Some values
yielded status = None

abbrev pub traffic : Store → Traffic
traffic store = record { input = store.input; taken = store.taken; output = store.output; log = store.log; yielded = yielded store.status }

-- the state runs, and its next step does this order
pub record NextOrder {C : Type 0} (k : Control C) (s : Setting) (st : State C) (order : Order) : Type 0 where
  pub running : st.store.status ≡ Running
  pub next : evaluated (reads_of s st.store) (next_act k st.controls) ≡ Ok order

-- the state runs, and its next step is that of the foreign call which takes a byte
abbrev pub Takes : {C : Type 0} → Control C → State C → Type 0
Takes k st = (target : Target) × (st.store.status ≡ Running) × (next_act k st.controls ≡ GetByte target)

-- the traffic after a step from a state, for any control, by what the step adds
pub data Adds {C : Type 0} (k : Control C) (s : Setting) (st : State C) : Traffic → Type 0 where
  Nothing : Adds k s st (record (traffic st.store) { yielded = None })
  -- a foreign call puts the low byte of a value
  Output : (value : Value) (n : ℕ) → next_act k st.controls ≡ PutByte value → NextOrder k s st (order.PutByte n) →
      Adds k s st (record (traffic st.store) { output = st.store.output ++ n % 256 ∷ []; yielded = None })
  -- a foreign call takes the next byte of the input
  Input : (byte : ℕ) (rest : List ℕ) → Takes k st → st.store.input ≡ byte ∷ rest →
      Adds k s st (record (traffic st.store) { input = rest; taken = st.store.taken ++ byte ∷ []; yielded = None })
  -- a yield writes its line, and the client is waited for
  Line : (site : ℕ) (values : List ℕ) → NextOrder k s st (order.Yield site values) →
      Adds k s st (record (traffic st.store) { log = st.store.log ++ yield_line values; yielded = Some values })
  -- the client answers with lines of its own
  Lines : (values text : List ℕ) → st.store.status ≡ Waiting values →
      Adds k s st (record (traffic st.store) { log = st.store.log ++ text; yielded = None })

-- a step adds nothing, or one of these: a byte to the output, a byte to the input taken, the line of a yield, an answer
abbrev pub StepAdds : Type 0
StepAdds = (s : Setting) (st : State Todo) → Adds (todo_control s.program) s st (traffic (step s st).store)

-- ---- what only grows

-- what is seen of a state, with its whole log
abbrev pub seen_in : {C : Type 0} → State C → Seen ℕ
seen_in st = record { output = st.store.output; log = st.store.log; taken = st.store.taken }

-- what was put, logged and taken before a step is the beginning of what was after it
abbrev pub StepGrows : Type 0
StepGrows = (s : Setting) (st : State Todo) → IsWithin (seen_in st) (seen_in (step s st))

-- and so from any state of a run to any later one
abbrev pub RunGrows : Type 0
RunGrows = (s : Setting) (input : List ℕ) (m n : ℕ) → IsWithin (seen_in (state_after s input m)) (seen_in (state_after s input (m + n)))

-- ---- who takes the input

-- any step but that of a call which takes a byte leaves the input and what was taken of it
abbrev pub OnlyCallTakes : Type 0
OnlyCallTakes = (s : Setting) (st : State Todo) → let after = (step s st).store in
    (after.input ≡ st.store.input) × (after.taken ≡ st.store.taken) ⊎ Takes (todo_control s.program) st

-- what was taken and what is left are together the whole input
abbrev pub InputIsKept : Type 0
InputIsKept = (s : Setting) (input : List ℕ) (m : ℕ) → let store = (state_after s input m).store in store.taken ++ store.input ≡ input

-- ---- the client's commands

-- a command that is refused only writes a line of the log
abbrev pub RefusedOnlyLogs : Type 0
RefusedOnlyLogs = (s : Setting) (yielded : List ℕ) (cursor : Cursor Located) (command : Command) (store : Store) (why : Rule) →
    asked (store_askable s) yielded cursor store command ≡ Err why →
    reply (store_askable s) yielded cursor store command ≡ record { text = refused_line why; after = Goes cursor store }

-- What a command makes of a store that does not resume. What is not named stays: other variables, each activation's procedure
-- and site, registers, stackdata, input, output and status.
pub data Changes (cursor : Cursor Located) (before : Store) : Store → Type 0 where
  -- nothing
  Same : Changes cursor before before
  -- a variable of the activation at the cursor
  Variable : (a : Located) (n value : ℕ) → cursor.activation ≡ Some a → Changes cursor before (with_variable before a n value)
  -- eight bytes of data
  Data : (address value : ℕ) → may_poke before.memory.data_room address 8 ≡ true →
      Changes cursor before (record before { memory = with_bytes before.memory address (bytes_of 8 value) })

-- a command that does not resume changes a variable or data, if anything
abbrev pub CommandChanges : Type 0
CommandChanges = (s : Setting) (yielded : List ℕ) (cursor cursor' : Cursor Located) (command : Command) (store after : Store) →
    (reply (store_askable s) yielded cursor store command).after ≡ Goes cursor' after → Changes cursor' store after

-- the procedures and the sites of activations
abbrev pub places : List Activation → List (ℕ × Option ℕ)
places activations = map (λ a. (a.procedure, a.site)) activations

-- and leaves everything else
abbrev pub CommandSpares : Type 0
CommandSpares = (s : Setting) (yielded : List ℕ) (cursor cursor' : Cursor Located) (command : Command) (store after : Store) →
    (reply (store_askable s) yielded cursor store command).after ≡ Goes cursor' after →
    (after ≡ record store { activations = after.activations; memory = after.memory }) × (places after.activations ≡ places store.activations)
