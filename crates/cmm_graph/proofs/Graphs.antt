-- Graphs of worked rows, each below the text of its program.
use Rattle.std.proofs.Common.{ℕ, List, [], ◌∷◌}
use Rattle.cmm_words.specs.declared.width.Width.TheVariants.{W8}
use Rattle.cmm_words.specs.declared.operators.Op2.TheVariants.{Add, Mul}
use Rattle.cmm_words.specs.declared.operators.Cmp.TheVariants.{Ltu, Eq}
use Rattle.cmm_script.specs.declared.script.Command.TheVariants as command
use Rattle.cmm_script.specs.declared.script.Value.TheVariants.{Yielded}
use Rattle.cmm_program.specs.declared.procedure.Proc.{Proc}
use Rattle.cmm_program.specs.State.{Setting}
use Rattle.cmm_graph.specs.declared.operand.Operand.TheVariants.{Continuation}
use Rattle.cmm_graph.specs.declared.operand.Rvalue.TheVariants.{Binary, Copy}
use Rattle.cmm_graph.specs.declared.node.NodeKind.TheVariants.{Entry, CopyIn, Branch, Switch, Call, Yield, Cut, Return, Stop}
use Rattle.cmm_graph.specs.declared.graph.Graph.{Graph}
use Rattle.cmm_program.proofs.Shared.{variables_of, from_to, continuation, call_site, procedure, program, frame, frame_with, sample, alone, setting, no_client, client, other}
use Rattle.cmm_graph.proofs.Notation.{n, s, k, v, t, num, code, arg, variable, set_variable, set_temporary, op, test, exits, graph}

-- ---- a loop
--     main() { bits64 i, s; loop: if i < 4 { s = s + i * i; i = i + 1; goto loop; } return (s); }
abbrev pub loop : List Graph
loop =
    graph 2 1 (Entry [] (n 1)
    ∷ Branch (test Ltu (v 0) (num 4)) (n 2) (n 5)
    ∷ set_temporary 0 (op Mul (v 0) (v 0)) (n 3)
    ∷ set_variable 1 (op Add (v 1) (t 0)) (n 4)
    ∷ set_variable 0 (op Add (v 0) (num 1)) (n 1)
    ∷ Return 0 0 (arg (v 1) ∷ [])
    ∷ []) []
    ∷ []

abbrev pub loop-setting : Setting
loop-setting = setting (alone (procedure [] 99 0 2 [] []) (frame 16)) 4096 no_client

-- ---- the sum of a number and 1 at 8 bits, whatever the number
abbrev pub at_8_bits : ℕ → List Graph
at_8_bits number =
    graph 1 1 (Entry [] (n 1)
    ∷ set_temporary 0 (Binary Add W8 (num number) (num 1)) (n 2)
    ∷ Return 0 0 (arg (t 0) ∷ [])
    ∷ []) []
    ∷ []

abbrev pub at_8_bits-setting : Setting
at_8_bits-setting = setting (alone (procedure [] 99 0 1 [] []) (frame 16)) 4096 no_client

-- ---- a switch in a procedure that is called
--     main() { bits64 a, b; a = f(11); b = f(12); return (a * 100 + b); }
--     f(bits64 x) { switch x { case 0..11: { return (7); } case 12: { return (8); } } }
abbrev pub switch : List Graph
switch =
    graph 2 1 (Entry [] (n 1)
    ∷ Call (s 0) (code 1) (arg (num 11) ∷ []) (exits (n 2) [] [] [])
    ∷ CopyIn (variables_of (0 ∷ [])) (n 3)
    ∷ Call (s 1) (code 1) (arg (num 12) ∷ []) (exits (n 4) [] [] [])
    ∷ CopyIn (variables_of (1 ∷ [])) (n 5)
    ∷ set_temporary 0 (op Mul (v 0) (num 100)) (n 6)
    ∷ set_temporary 0 (op Add (t 0) (v 1)) (n 7)
    ∷ Return 0 0 (arg (t 0) ∷ [])
    ∷ []) []
    ∷ graph 1 0 (Entry (variable 0 ∷ []) (n 1)
    ∷ Switch (v 0) (record { ranges = from_to 0 11 ∷ []; to = n 2 } ∷ record { ranges = from_to 12 12 ∷ []; to = n 3 } ∷ []) (n 4)
    ∷ Return 0 0 (arg (num 7) ∷ [])
    ∷ Return 0 0 (arg (num 8) ∷ [])
    ∷ Stop
    ∷ []) []
    ∷ []

abbrev pub switch-setting : Setting
switch-setting =
    setting (sample (program (procedure [] 99 0 2 (call_site (0 ∷ []) ∷ call_site (1 ∷ []) ∷ []) [] ∷ procedure [] 99 1 1 [] [] ∷ []))
    (frame 32 ∷ frame 16 ∷ [])) 4096 no_client

-- ---- alternate returns
--     main() {
--       bits64 x;
--       x = h(5) also returns to a, b;
--       return (x);
--       continuation a(x): return (x + 100);
--       continuation b(x): return (x + 200);
--     }
--     h(bits64 i) { if i == 5 { return <1/2> (i); } return <2/2> (i); }
abbrev pub main-graph : Graph
main-graph =
    graph 1 1 (Entry [] (n 1)
    ∷ Call (s 0) (code 1) (arg (num 5) ∷ []) (exits (n 2) (0 ∷ 1 ∷ []) [] [])
    ∷ CopyIn (variables_of (0 ∷ [])) (n 3)
    ∷ Return 0 0 (arg (v 0) ∷ [])
    ∷ CopyIn (variables_of (0 ∷ [])) (n 5)
    ∷ set_temporary 0 (op Add (v 0) (num 100)) (n 6)
    ∷ Return 0 0 (arg (t 0) ∷ [])
    ∷ CopyIn (variables_of (0 ∷ [])) (n 8)
    ∷ set_temporary 0 (op Add (v 0) (num 200)) (n 9)
    ∷ Return 0 0 (arg (t 0) ∷ [])
    ∷ []) (n 4 ∷ n 7 ∷ [])

abbrev pub h-graph : Graph
h-graph =
    graph 1 0 (Entry (variable 0 ∷ []) (n 1)
    ∷ Branch (test Eq (v 0) (num 5)) (n 2) (n 3)
    ∷ Return 1 2 (arg (v 0) ∷ [])
    ∷ Return 2 2 (arg (v 0) ∷ [])
    ∷ []) []

abbrev pub alternates : List Graph
alternates = main-graph ∷ h-graph ∷ []

abbrev pub alternates-main : Proc
alternates-main = record (procedure [] 99 0 1 (record (call_site (0 ∷ [])) { returns = 0 ∷ 1 ∷ [] } ∷ []) []) {
  conts = continuation (0 ∷ []) ∷ continuation (0 ∷ []) ∷ [];
}

abbrev pub alternates-h : Proc
alternates-h = procedure [] 99 1 1 [] []

abbrev pub alternates-setting : Setting
alternates-setting =
    setting (sample (program (alternates-main ∷ alternates-h ∷ [])) (frame_with 48 (16 ∷ 32 ∷ []) [] ∷ frame 16 ∷ [])) 4096 no_client

-- ---- a cut past an activation
--     main() { bits64 r; r = 1; r = c(k) also cuts to k; return (0); continuation k(r): return (r); }
--     c(bits64 to) { bits64 x; x = d(to); return (x); }
--     d(bits64 to) { cut to to(42); }
abbrev pub cutting : List Graph
cutting =
    graph 1 0 (Entry [] (n 1)
    ∷ set_variable 0 (Copy (num 1)) (n 2)
    ∷ Call (s 0) (code 1) (arg (Continuation (k 0)) ∷ []) (exits (n 3) [] [] (0 ∷ []))
    ∷ CopyIn (variables_of (0 ∷ [])) (n 4)
    ∷ Return 0 0 (arg (num 0) ∷ [])
    ∷ CopyIn (variables_of (0 ∷ [])) (n 6)
    ∷ Return 0 0 (arg (v 0) ∷ [])
    ∷ []) (n 5 ∷ [])
    ∷ graph 2 0 (Entry (variable 0 ∷ []) (n 1)
    ∷ Call (s 0) (code 2) (arg (v 0) ∷ []) (exits (n 2) [] [] [])
    ∷ CopyIn (variables_of (1 ∷ [])) (n 3)
    ∷ Return 0 0 (arg (v 1) ∷ [])
    ∷ []) []
    ∷ graph 1 0 (Entry (variable 0 ∷ []) (n 1)
    ∷ Cut (v 0) (arg (num 42) ∷ []) []
    ∷ []) []
    ∷ []

abbrev cutting-main : Proc
cutting-main = record (procedure [] 99 0 1 (record (call_site (0 ∷ [])) { cuts = 0 ∷ [] } ∷ []) []) {
  conts = continuation (0 ∷ []) ∷ [];
}

abbrev pub cutting-setting : Setting
cutting-setting =
    setting (sample (program (cutting-main ∷ procedure [] 99 1 2 (call_site (1 ∷ []) ∷ []) [] ∷ procedure [] 99 1 1 [] [] ∷ []))
    (frame_with 32 (16 ∷ []) [] ∷ frame 32 ∷ frame 16 ∷ [])) 4096 no_client

-- ---- a yield, answered by a return of its second value by the first exit
--     main() { bits64 x; x = yield(3, 9) also returns to k; return (x); continuation k(x): return (x * 10); }
abbrev pub yielding : List Graph
yielding =
    graph 1 1 (Entry [] (n 1)
    ∷ Yield (s 0) (num 3 ∷ num 9 ∷ []) (exits (n 2) (0 ∷ []) [] [])
    ∷ CopyIn (variables_of (0 ∷ [])) (n 3)
    ∷ Return 0 0 (arg (v 0) ∷ [])
    ∷ CopyIn (variables_of (0 ∷ [])) (n 5)
    ∷ set_temporary 0 (op Mul (v 0) (num 10)) (n 6)
    ∷ Return 0 0 (arg (t 0) ∷ [])
    ∷ []) (n 4 ∷ [])
    ∷ []

abbrev yielding-main : Proc
yielding-main = record (procedure [] 99 0 1 (record (call_site (0 ∷ [])) { returns = 0 ∷ [] } ∷ []) []) {
  conts = continuation (0 ∷ []) ∷ [];
}

abbrev pub yielding-setting : Setting
yielding-setting =
    setting (alone yielding-main (frame_with 32 (16 ∷ []) [])) 4096 (client (other (command.Return 0 (Yielded 1 ∷ []) ∷ []) ∷ []))
