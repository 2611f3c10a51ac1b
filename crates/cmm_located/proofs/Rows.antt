-- Worked rows: the located machine beside the graph machine, on two programs that keep values in a callee-saves register.
use Rattle.std.proofs.Common.{◌≡◌, ◌==◌, ◌&&◌, true, List, [], ◌∷◌, Option, Some, None, refl, ℕ, false}
use Rattle.std.specs.Prelude.{slice_index_or}
use Rattle.std.specs.Str.{bytes_eq}
use Rattle.cmm_words.specs.declared.operators.Op2.TheVariants.{Add}
use Rattle.cmm_script.specs.declared.script.Command.{Command}
use Rattle.cmm_script.specs.declared.script.Command.TheVariants as command
use Rattle.cmm_script.specs.declared.script.Value.TheVariants.{Number}
use Rattle.cmm_script.specs.Walk.{Activation}
use Rattle.cmm_simulation.specs.Seen.{Event, End}
use Rattle.cmm_program.specs.declared.statement.Form.TheVariants as form
use Rattle.cmm_program.specs.Errors.{WrongValues}
use Rattle.cmm_program.specs.Machine.{state_after}
use Rattle.cmm_program.specs.Todo.{todo_control}
use Rattle.cmm_program.specs.Walks.{walk_of}
use Rattle.cmm_machine_laws.specs.Observed as observed
use Rattle.cmm_machine_laws.specs.Observed.{Ending, machine_of}
use Rattle.cmm_graph.specs.GraphControl.{graph_control}
use Rattle.cmm_graph.specs.GraphMachine.{graph_state_after}
use Rattle.cmm_program.specs.declared.procedure.Proc.{Proc}
use Rattle.cmm_program.specs.State.{Setting, Status, Running, Ended, Wrong, Done, StackLimit, Stopped}
use Rattle.cmm_graph.specs.declared.operand.Operand.TheVariants.{Continuation}
use Rattle.cmm_graph.specs.declared.operand.Rvalue.TheVariants.{Copy}
use Rattle.cmm_graph.specs.declared.node.NodeKind.TheVariants.{Entry, CopyIn, Call, Yield, Jump, Cut, Return}
use Rattle.cmm_chain.specs.declared.frame.Location.TheVariants.{Slot, Saved, Temp}
use Rattle.cmm_program.proofs.Shared as sample
use Rattle.cmm_program.proofs.Shared.{opened, variables_of, continuation, call_site, procedure, program, frame, frame_with, setting, yield_site, client, other, no_client}
use Rattle.cmm_located.specs.Answering.{shown}
use Rattle.cmm_located.specs.Compiled.{Compiled, Located}
use Rattle.cmm_located.specs.LocatedMachine.{located_machine, located_start, located_step}
use Rattle.cmm_graph.proofs.Shared.{n, s, k, v, t, num, code, arg, variable, set_variable, set_temporary, exits, graph}
use Rattle.cmm_located.proofs.Notation.{sum, added_to, laid, all_saved, compiled, located_after, located_status, graph_status}

-- ---- a cut past a frame that saved the register
--     main() { bits64 v, r; v = 41; r = c(); return (v + r); }
--     c() { bits64 x; x = d(k) also cuts to k; return (x); continuation k(x): return (x); }
--     d(bits64 j) { bits64 a; a = 7; cut to j(1); }
-- v is in register 9, as a is; c may be cut to, and saves every callee-saves register.
abbrev cutting : Compiled
cutting = compiled
    (added_to 41 (Call (s 0) (code 1) [] (exits (n 3) [] [] [])) [] []
    ∷ graph 1 0 (Entry [] (n 1)
    ∷ Call (s 0) (code 2) (arg (Continuation (k 0)) ∷ []) (exits (n 2) [] [] (0 ∷ []))
    ∷ CopyIn (variables_of (0 ∷ [])) (n 3)
    ∷ Return 0 0 (arg (v 0) ∷ [])
    ∷ CopyIn (variables_of (0 ∷ [])) (n 5)
    ∷ Return 0 0 (arg (v 0) ∷ [])
    ∷ []) (n 4 ∷ [])
    ∷ graph 2 0 (Entry (variable 0 ∷ []) (n 1)
    ∷ set_variable 1 (Copy (num 7)) (n 2)
    ∷ Cut (v 0) (arg (num 1) ∷ []) []
    ∷ []) []
    ∷ [])
    (laid 32 8 ((9, 16) ∷ []) [] ∷ laid 128 8 all_saved (104 ∷ []) ∷ laid 32 8 ((9, 16) ∷ []) [] ∷ [])
    ((Saved 9 ∷ Slot 0 ∷ Temp 12 ∷ []) ∷ (Slot 0 ∷ []) ∷ (Slot 0 ∷ Saved 9 ∷ []) ∷ [])
    (λ q site v. (q == 0) && (v == 0))
    []

abbrev cutting-c : Proc
cutting-c = record (procedure [] 99 0 1 (record (call_site (0 ∷ [])) { cuts = 0 ∷ [] } ∷ []) []) { conts = continuation (0 ∷ []) ∷ [] }

abbrev cutting-setting : Setting
cutting-setting =
    setting (sample.sample (program (procedure [] 99 0 2 (call_site (1 ∷ []) ∷ []) [] ∷ cutting-c ∷ procedure [] 99 1 2 [] [] ∷ []))
    (frame 32 ∷ frame_with 128 (104 ∷ []) [] ∷ frame 32 ∷ [])) 4096 no_client

cutting_graph : graph_status cutting-setting cutting 8 ≡ Ended (Done 42)
cutting_graph = refl

cutting_located : located_status cutting-setting cutting 13 ≡ Ended (Done 42)
cutting_located = refl

-- had c saved the register that it uses alone, main would get back what d left there
abbrev saving_too_little : Compiled
saving_too_little = record cutting {
  plan = record cutting.plan {
    frame = λ q. slice_index_or (laid 32 8 ((9, 16) ∷ []) [] ∷ laid 128 8 [] (104 ∷ []) ∷ laid 32 8 ((9, 16) ∷ []) [] ∷ []) q (laid 16 0 [] []);
  };
}

saving_too_little_located : located_status cutting-setting saving_too_little 13 ≡ Ended (Done 8)
saving_too_little_located = refl

-- ---- control that brings too few values
-- d takes one at its Entry, and c where d comes back.
abbrev bringing : ℕ → ℕ → List ℕ → Located
bringing q node values = record (located_start cutting-setting cutting []) { procedure = q; node = n node; carried = values }

abbrev comes_to : Located → Status
comes_to at = (located_step cutting-setting cutting at).store.status

entered_with_one : comes_to (bringing 2 0 (1 ∷ [])) ≡ Running
entered_with_one = refl

entered_with_none : comes_to (bringing 2 0 []) ≡ Wrong WrongValues
entered_with_none = refl

back_with_one : comes_to (bringing 1 2 (1 ∷ [])) ≡ Running
back_with_one = refl

back_with_none : comes_to (bringing 1 2 []) ≡ Wrong WrongValues
back_with_none = refl

-- ---- a yield, at which the client changes what a younger frame saved, or unwinds past that frame
--     main() { bits64 v, r; v = 40; r = g() also unwinds to k; return (v + r); continuation k(r): return (v + r); }
--     g() { bits64 a, x; a = 7; x = yield(3); return (a + x); }
abbrev yielding : Compiled
yielding = compiled
    (added_to 40 (Call (s 0) (code 1) [] (exits (n 3) [] (0 ∷ []) [])) (CopyIn (variables_of (1 ∷ [])) (n 4) ∷ []) (n 6 ∷ [])
    ∷ added_to 7 (Yield (s 0) (num 3 ∷ []) (exits (n 3) [] [] [])) [] []
    ∷ [])
    (laid 48 8 ((9, 16) ∷ []) (24 ∷ []) ∷ laid 32 8 ((9, 16) ∷ []) [] ∷ [])
    ((Saved 9 ∷ Slot 0 ∷ Temp 12 ∷ []) ∷ (Saved 9 ∷ Slot 0 ∷ Temp 12 ∷ []) ∷ [])
    (λ q site v. v == 0)
    []

abbrev yielding-main : Proc
yielding-main = record (procedure [] 99 0 2 (record (call_site (1 ∷ [])) { unwinds = 0 ∷ [] } ∷ [])
    (sample.is 5 (sample.assign 0 (sample.num 40))
    ∷ sample.is 5 (form.Call 0 (sample.code 1) [])
    ∷ sample.is 5 (form.Return 0 0 (sample.op Add (sample.local 0) (sample.local 1) ∷ []))
    ∷ sample.is 5 (form.Continuation 0)
    ∷ sample.is 5 (form.Return 0 0 (sample.op Add (sample.local 0) (sample.local 1) ∷ []))
    ∷ [])) { conts = continuation (1 ∷ []) ∷ [] }

abbrev yielding-g : Proc
yielding-g = procedure [] 99 0 2 (yield_site (1 ∷ []) 1 ∷ [])
    (sample.is 5 (sample.assign 0 (sample.num 7))
    ∷ sample.is 5 (form.Yield 0 (sample.num 3 ∷ []))
    ∷ sample.is 5 (form.Return 0 0 (sample.op Add (sample.local 0) (sample.local 1) ∷ []))
    ∷ [])

abbrev yielding-setting : List Command → Setting
yielding-setting commands = setting (sample.sample (program (yielding-main ∷ yielding-g ∷ [])) (frame_with 48 (24 ∷ []) [] ∷ frame 32 ∷ [])) 4096
    (client (other commands ∷ []))

-- v of main is set where the frame of g has it, and main goes on with it
abbrev unwinding : List Command
unwinding = command.Next ∷ command.Set 0 (Number 41) ∷ command.Unwind 0 (Number 1 ∷ []) ∷ []

unwinding_graph : graph_status (yielding-setting unwinding) yielding 7 ≡ Ended (Done 42)
unfolding opened
unwinding_graph = refl

unwinding_located : located_status (yielding-setting unwinding) yielding 10 ≡ Ended (Done 42)
unfolding opened
unwinding_located = refl

-- the walk is listed, a variable shown, and g goes on behind its yield
abbrev listing : List Command
listing = command.List ∷ command.Var 0 ∷ command.Var 1 ∷ command.Next ∷ command.Var 0 ∷ command.Set 9 (Number 1) ∷ command.Return 0 (Number 5 ∷ []) ∷ []

listing_located : located_status (yielding-setting listing) yielding 13 ≡ Ended (Done 52)
unfolding opened
listing_located = refl

-- and the log says what it says of the graph machine
listing_log : bytes_eq (located_after (yielding-setting listing) yielding 13).store.log
    (graph_state_after yielding.graphs (yielding-setting listing) [] 8).store.log ≡ true
unfolding opened
listing_log = refl

-- while it waits, the walk is that of the graph machine's state
listing_walk : let c = yielding in let at = located_after (yielding-setting listing) c 6 in
    walk_of (yielding-setting listing) (shown (yielding-setting listing) c at)
    ≡ walk_of (yielding-setting listing) (graph_state_after c.graphs (yielding-setting listing) [] 4).store
unfolding opened
listing_walk = refl

-- without a command that resumes, the run is stopped
stopping_located : located_status (yielding-setting (command.Next ∷ [])) yielding 7 ≡ Ended Stopped
unfolding opened
stopping_located = refl

-- it stands at that ending, with the walk of the activations that wait, where the first variable of each is live
abbrev waits_with : ℕ → Activation
waits_with value = record {
  procedure = [];
  site = 0;
  spans = [];
  variables = record { width = 64; kind = []; invariant = false; value = Some value } ∷ record { width = 64; kind = []; invariant = false; value = None } ∷ [];
}

abbrev stopped : Option (Event observed.Call Ending)
stopped = Some (End record { outcome = Stopped; walk = Some (waits_with 7 ∷ waits_with 40 ∷ []) })

stopping_ends : (located_machine (yielding-setting (command.Next ∷ [])) yielding).asks (located_after (yielding-setting (command.Next ∷ [])) yielding 7) ≡ stopped
unfolding opened
stopping_ends = refl

-- as over graphs, and as the program itself
stopping_ends_graph : (machine_of (graph_control yielding.graphs) (yielding-setting (command.Next ∷ []))).asks
    (graph_state_after yielding.graphs (yielding-setting (command.Next ∷ [])) [] 5) ≡ stopped
unfolding opened
stopping_ends_graph = refl

stopping_ends_program : let setting = yielding-setting (command.Next ∷ []) in
    (machine_of (todo_control setting.program) setting).asks (state_after setting [] 5) ≡ stopped
unfolding opened
stopping_ends_program = refl

-- ---- an alternate return
--     main() { bits64 x; x = h(5) also returns to a; return (x); continuation a(x): return (x + 100); }
--     h(bits64 i) { return <0/1> (i); }
abbrev returning : Compiled
returning = compiled
    (graph 1 1 (Entry [] (n 1)
    ∷ Call (s 0) (code 1) (arg (num 5) ∷ []) (exits (n 2) (0 ∷ []) [] [])
    ∷ CopyIn (variables_of (0 ∷ [])) (n 3)
    ∷ Return 0 0 (arg (v 0) ∷ [])
    ∷ CopyIn (variables_of (0 ∷ [])) (n 5)
    ∷ set_temporary 0 (sum (v 0) (num 100)) (n 6)
    ∷ Return 0 0 (arg (t 0) ∷ [])
    ∷ []) (n 4 ∷ [])
    ∷ graph 1 0 (Entry (variable 0 ∷ []) (n 1)
    ∷ Return 0 1 (arg (v 0) ∷ [])
    ∷ []) []
    ∷ [])
    (laid 32 8 [] (16 ∷ []) ∷ laid 16 0 [] [] ∷ [])
    ((Slot 0 ∷ Temp 12 ∷ []) ∷ (Temp 12 ∷ []) ∷ [])
    (λ q site v. false)
    []

abbrev returning-main : Proc
returning-main = record (procedure [] 99 0 1 (record (call_site (0 ∷ [])) { returns = 0 ∷ [] } ∷ []) []) { conts = continuation (0 ∷ []) ∷ [] }

abbrev returning-setting : Setting
returning-setting =
    setting (sample.sample (program (returning-main ∷ procedure [] 99 1 1 [] [] ∷ [])) (frame_with 32 (16 ∷ []) [] ∷ frame 16 ∷ [])) 4096 no_client

returning_graph : graph_status returning-setting returning 4 ≡ Ended (Done 105)
returning_graph = refl

returning_located : located_status returning-setting returning 7 ≡ Ended (Done 105)
returning_located = refl

-- ---- a tail call, in a stack that has room for two frames
--     main() { bits64 v, r; v = 35; r = f(); return (v + r); }
--     f() { bits64 a; a = 1; jump g(7); }
--     g(bits64 x) { return (x); }
abbrev jumping : Compiled
jumping = compiled
    (added_to 35 (Call (s 0) (code 1) [] (exits (n 3) [] [] [])) [] []
    ∷ graph 1 0 (Entry [] (n 1)
    ∷ set_variable 0 (Copy (num 1)) (n 2)
    ∷ Jump (code 2) (arg (num 7) ∷ [])
    ∷ []) []
    ∷ graph 1 0 (Entry (variable 0 ∷ []) (n 1)
    ∷ Return 0 0 (arg (v 0) ∷ [])
    ∷ []) []
    ∷ [])
    (laid 32 8 ((9, 16) ∷ []) [] ∷ laid 32 0 ((9, 8) ∷ []) [] ∷ laid 32 8 [] [] ∷ [])
    ((Saved 9 ∷ Slot 0 ∷ Temp 12 ∷ []) ∷ (Saved 9 ∷ []) ∷ (Slot 0 ∷ []) ∷ [])
    (λ q site v. (q == 0) && (v == 0))
    []

abbrev jumping-setting : ℕ → Setting
jumping-setting stack =
    setting (sample.sample (program (procedure [] 99 0 2 (call_site (1 ∷ []) ∷ []) [] ∷ procedure [] 99 0 1 [] [] ∷ procedure [] 99 1 1 [] [] ∷ []))
    (frame 32 ∷ frame 32 ∷ frame 32 ∷ [])) stack no_client

jumping_graph : graph_status (jumping-setting 64) jumping 7 ≡ Ended (Done 42)
jumping_graph = refl

jumping_located : located_status (jumping-setting 64) jumping 11 ≡ Ended (Done 42)
jumping_located = refl

-- in room for one, the run ends where the called procedure is entered
jumping_ends : located_status (jumping-setting 48) jumping 4 ≡ Ended StackLimit
jumping_ends = refl
