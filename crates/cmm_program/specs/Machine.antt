-- The C-- machine: its states, one after the other (Ramsey and Peyton Jones, PLDI 2000, the abstract machine). One step:
-- 1. the control of the youngest activation says what it does next, an act (`Todo.act_of`, `Control.next_act`);
-- 2. the act gets its values from what can be read of the store, and is an order, or an unchecked error (`Acts.evaluated`);
-- 3. the order is done to the store, and says how control goes on, a transfer (`Performing.perform`);
-- 4. the controls move along, and where control lands, in an activation that comes or that waited, the store takes the values
--    that it brings (`Control.transferred`, `Exits.land`);
-- 5. a state that waits makes the client's answer its step (`Client.answered`), and an ended or wrong one stays.
use Rattle.std.specs.Prelude.{ℕ, zero, suc, List, [], map, Some}
use Rattle.rv_table.specs.Memory.{data_base}
use Rattle.cmm_program.specs.Layout.{data_bytes}
use Rattle.cmm_program.specs.State.{Setting, Store, Running, Waiting, Ended, Wrong}
use Rattle.cmm_program.specs.Exits.{Instead}
use Rattle.cmm_program.specs.Control.{Control, State, landed, transferred, ran}
use Rattle.cmm_program.specs.Todo.{Todo, todo_control}
use Rattle.cmm_program.specs.Client.{answered}

-- one step: what the youngest activation does, or the client's answer; an ended or wrong state stays
abbrev pub step_of : {C : Type 0} → Control C → Setting → State C → State C
step_of k s st = elim st.store.status [
  | Running ↦ ran k s st
  | Waiting values ↦ transferred k s (answered s values st.store) st.controls
  | Ended outcome ↦ st
  | Wrong error ↦ st
]

abbrev pub steps_of : {C : Type 0} → Control C → Setting → ℕ → State C → State C
steps_of k s zero st = st
steps_of k s (suc m) st = steps_of k s m (step_of k s st)

-- data as it is at the start, no activation, and the whole input left
abbrev pub first_store : Setting → List ℕ → Store
first_store s input = record {
  memory = record { data_room = record { address = data_base; cells = map Some (data_bytes s.program s.placement) }; rooms = [] };
  registers = map (λ g. 0) s.program.globals;
  activations = [];
  input = input;
  taken = [];
  output = [];
  log = [];
  status = Running;
}

-- the one activation of `main`, or the end where the stack is too small for it
abbrev pub start_of : {C : Type 0} → Control C → Setting → List ℕ → State C
start_of k s input = landed k s (Instead s.program.main []) (first_store s input) []

-- ---- the C-- machine

abbrev pub step : Setting → State Todo → State Todo
step s = step_of (todo_control s.program) s

abbrev pub start : Setting → List ℕ → State Todo
start s input = start_of (todo_control s.program) s input

-- the state after m steps
abbrev pub state_after : Setting → List ℕ → ℕ → State Todo
state_after s input m = steps_of (todo_control s.program) s m (start s input)
