-- A program with an exit of each kind, and with variables that are live at its sites.
--     main() { bits64 v, r; v = 40; r = c(); return (v + r); }
--     c() { bits64 w, x; w = w + 1; x = d(k, 2) also cuts to k also returns to a; l: return (w + x); continuation k(x): goto l; continuation a(x): goto l; }
--     d(bits64 j, i) { bits64 y; y = yield(3) also unwinds to u; cut to j(y) also cuts to u; continuation u(y): return <0/1> (i + y); }
-- v is in register 9, as j and x are; i is in register 18. c may be cut to: it saves every callee-saves register, and w is in a slot,
-- where it is 0 when c is entered.
use Rattle.std.proofs.Common.{◌≡◌, ℕ, true, List, [], ◌∷◌, map, refl}
use Rattle.std.specs.Prelude.{slice_index_or}
use Rattle.cmm_words.specs.declared.operators.Op2.TheVariants.{Add}
use Rattle.cmm_script.specs.declared.script.Command.{Command}
use Rattle.cmm_script.specs.declared.script.Command.TheVariants as command
use Rattle.cmm_script.specs.declared.script.Value.TheVariants.{Number}
use Rattle.cmm_program.specs.declared.expression.Expression.TheVariants as expression
use Rattle.cmm_program.specs.declared.statement.Form.TheVariants as form
use Rattle.cmm_program.specs.declared.procedure.Proc.{Proc}
use Rattle.cmm_program.specs.Liveness.{is_among, is_live_at}
use Rattle.cmm_program.specs.Machine.{state_after}
use Rattle.cmm_program.specs.State.{Setting, Ended, Done}
use Rattle.cmm_program.proofs.Shared as sample
use Rattle.cmm_program.proofs.Shared.{opened, variables_of, continuation, call_site, yield_site, procedure, program, frame, frame_with, setting, client, other}
use Rattle.cmm_graph.specs.declared.operand.Operand.TheVariants.{Continuation}
use Rattle.cmm_graph.specs.declared.node.NodeKind.TheVariants.{Entry, CopyIn, Call, Yield, Cut, Return}
use Rattle.cmm_graph.specs.declared.graph.Graph.{Graph}
use Rattle.cmm_graph.proofs.Shared.{n, s, k, v, t, num, code, arg, variable, set_variable, set_temporary, exits, graph}
use Rattle.cmm_chain.specs.declared.frame.Location.{Location}
use Rattle.cmm_chain.specs.declared.frame.Location.TheVariants.{Slot, Saved, Temp}
use Rattle.cmm_located.specs.Compiled.{Compiled}
use Rattle.cmm_located.specs.Layouts.{saved_registers}
use Rattle.cmm_located.specs.Relation.{Liveness}
use Rattle.cmm_located.proofs.Notation.{sum, added_to, laid, all_saved, compiled, located_status, graph_status}

-- ---- the program

abbrev pub main-proc : Proc
main-proc = procedure [] 20 0 2 (call_site (1 ∷ []) ∷ [])
    (sample.is 5 (sample.assign 0 (sample.num 40))
    ∷ sample.is 5 (form.Call 0 (sample.code 1) [])
    ∷ sample.is 5 (form.Return 0 0 (sample.op Add (sample.local 0) (sample.local 1) ∷ []))
    ∷ [])

abbrev pub c-proc : Proc
c-proc = record (procedure [] 30 0 2 (record (call_site (1 ∷ [])) { returns = 1 ∷ []; cuts = 0 ∷ [] } ∷ [])
    (sample.is 5 (sample.assign 0 (sample.op Add (sample.local 0) (sample.num 1)))
    ∷ sample.is 5 (form.Call 0 (sample.code 2) (expression.Continuation 0 ∷ sample.num 2 ∷ []))
    ∷ sample.is 5 (form.Label 0)
    ∷ sample.is 5 (form.Return 0 0 (sample.op Add (sample.local 0) (sample.local 1) ∷ []))
    ∷ sample.is 5 (form.Continuation 0)
    ∷ sample.is 5 (form.Goto 0)
    ∷ sample.is 5 (form.Continuation 1)
    ∷ sample.is 5 (form.Goto 0)
    ∷ [])) { conts = continuation (1 ∷ []) ∷ continuation (1 ∷ []) ∷ [] }

abbrev pub d-proc : Proc
d-proc = record (procedure [] 20 2 3 (record (yield_site (2 ∷ []) 1) { unwinds = 0 ∷ [] } ∷ [])
    (sample.is 5 (form.Yield 0 (sample.num 3 ∷ []))
    ∷ sample.is 5 (form.Cut (sample.local 0) (sample.local 2 ∷ []) (0 ∷ []))
    ∷ sample.is 5 (form.Continuation 0)
    ∷ sample.is 5 (form.Return 0 1 (sample.op Add (sample.local 1) (sample.local 2) ∷ []))
    ∷ [])) { conts = continuation (2 ∷ []) ∷ [] }

abbrev pub exit-setting : List Command → Setting
exit-setting commands =
    setting (sample.sample (program (main-proc ∷ c-proc ∷ d-proc ∷ [])) (frame 32 ∷ frame_with 144 (104 ∷ 120 ∷ []) [] ∷ frame_with 48 (32 ∷ []) [] ∷ []))
    4096 (client (other commands ∷ []))

-- ---- as it is compiled

abbrev pub main-graph : Graph
main-graph = added_to 40 (Call (s 0) (code 1) [] (exits (n 3) [] [] [])) [] []

abbrev pub c-graph : Graph
c-graph = graph 2 1 (Entry [] (n 1)
    ∷ set_variable 0 (sum (v 0) (num 1)) (n 2)
    ∷ Call (s 0) (code 2) (arg (Continuation (k 0)) ∷ arg (num 2) ∷ []) (exits (n 3) (1 ∷ []) [] (0 ∷ []))
    ∷ CopyIn (variables_of (1 ∷ [])) (n 4)
    ∷ set_temporary 0 (sum (v 0) (v 1)) (n 5)
    ∷ Return 0 0 (arg (t 0) ∷ [])
    ∷ CopyIn (variables_of (1 ∷ [])) (n 4)
    ∷ CopyIn (variables_of (1 ∷ [])) (n 4)
    ∷ []) (n 6 ∷ n 7 ∷ [])

abbrev pub d-graph : Graph
d-graph = graph 3 1 (Entry (variable 0 ∷ variable 1 ∷ []) (n 1)
    ∷ Yield (s 0) (num 3 ∷ []) (exits (n 2) [] (0 ∷ []) [])
    ∷ CopyIn (variables_of (2 ∷ [])) (n 3)
    ∷ Cut (v 0) (arg (v 2) ∷ []) (k 0 ∷ [])
    ∷ CopyIn (variables_of (2 ∷ [])) (n 5)
    ∷ set_temporary 0 (sum (v 1) (v 2)) (n 6)
    ∷ Return 0 1 (arg (t 0) ∷ [])
    ∷ []) (n 4 ∷ [])

-- the locals that are live before each node of a procedure, and at its site
abbrev pub before : ℕ → ℕ → List ℕ
before q m = slice_index_or (slice_index_or
    (([] ∷ [] ∷ (0 ∷ []) ∷ (0 ∷ []) ∷ (0 ∷ 1 ∷ []) ∷ (2 ∷ []) ∷ [])
    ∷ ((0 ∷ []) ∷ (0 ∷ []) ∷ (0 ∷ []) ∷ (0 ∷ []) ∷ (0 ∷ 1 ∷ []) ∷ (2 ∷ []) ∷ (0 ∷ []) ∷ (0 ∷ []) ∷ [])
    ∷ ([] ∷ (0 ∷ 1 ∷ []) ∷ (0 ∷ 1 ∷ []) ∷ (0 ∷ 1 ∷ 2 ∷ []) ∷ (1 ∷ []) ∷ (1 ∷ 2 ∷ []) ∷ (3 ∷ []) ∷ [])
    ∷ []) q []) m []

abbrev pub at_site : ℕ → ℕ → List ℕ
at_site q site = slice_index_or (slice_index_or (((0 ∷ []) ∷ []) ∷ ((0 ∷ []) ∷ []) ∷ ((0 ∷ 1 ∷ []) ∷ []) ∷ []) q []) site []

abbrev pub exit-live : Liveness
exit-live q m u = is_among u (before q m.number)

-- the places of the locals of each procedure
abbrev main-places : List Location
main-places = Saved 9 ∷ Slot 0 ∷ Temp 12 ∷ []

abbrev c-places : List Location
c-places = Slot 0 ∷ Saved 9 ∷ Temp 12 ∷ []

abbrev d-places : List Location
d-places = Saved 9 ∷ Saved 18 ∷ Slot 0 ∷ Temp 12 ∷ []

abbrev pub exiting : Compiled
exiting = compiled (main-graph ∷ c-graph ∷ d-graph ∷ [])
    (laid 32 8 ((9, 16) ∷ []) [] ∷ laid 144 8 all_saved (104 ∷ 120 ∷ []) ∷ laid 48 8 ((9, 16) ∷ (18, 24) ∷ []) (32 ∷ []) ∷ [])
    (main-places ∷ c-places ∷ d-places ∷ [])
    (λ q site u. is_among u (at_site q site))
    ([] ∷ (0 ∷ []) ∷ [])

-- each saves what a layout has to
main_saves : map (λ saved. saved.0) (exiting.plan.frame 0).saved ≡ saved_registers main-proc main-places
main_saves = refl

c_saves : map (λ saved. saved.0) (exiting.plan.frame 1).saved ≡ saved_registers c-proc c-places
c_saves = refl

d_saves : map (λ saved. saved.0) (exiting.plan.frame 2).saved ≡ saved_registers d-proc d-places
d_saves = refl

-- ---- its runs

-- the client returns 5 to d, which cuts to k: 40 + (1 + 5)
abbrev pub going_on : List Command
going_on = command.Return 0 (Number 5 ∷ []) ∷ []

cut_status : (state_after (exit-setting going_on) [] 14).store.status ≡ Ended (Done 46)
unfolding opened
cut_status = refl

cut_graph : graph_status (exit-setting going_on) exiting 11 ≡ Ended (Done 46)
unfolding opened
cut_graph = refl

cut_located : located_status (exit-setting going_on) exiting 17 ≡ Ended (Done 46)
unfolding opened
cut_located = refl

-- it unwinds d to u, which returns to a: 40 + (1 + (2 + 5))
abbrev unwinding : List Command
unwinding = command.Unwind 0 (Number 5 ∷ []) ∷ []

alternate_status : (state_after (exit-setting unwinding) [] 14).store.status ≡ Ended (Done 48)
unfolding opened
alternate_status = refl

alternate_graph : graph_status (exit-setting unwinding) exiting 12 ≡ Ended (Done 48)
unfolding opened
alternate_graph = refl

alternate_located : located_status (exit-setting unwinding) exiting 18 ≡ Ended (Done 48)
unfolding opened
alternate_located = refl

-- ---- what is live at the sites, by the paths of the bodies

main_live : is_live_at main-proc 0 0 ≡ true
unfolding opened
main_live = refl

c_live : is_live_at c-proc 0 0 ≡ true
unfolding opened
c_live = refl

d_live : is_live_at d-proc 0 1 ≡ true
unfolding opened
d_live = refl
