-- Programs of worked rows, resolved, each below its text: paths from a call site. Of two of them only `main` is looked at.
use Rattle.std.proofs.Common.{true, [], ◌∷◌}
use Rattle.std.specs.Prelude.{codes}
use Rattle.cmm_words.specs.declared.width.Width.TheVariants.{W64}
use Rattle.cmm_words.specs.declared.operators.Op2.TheVariants.{Add, Sub, Divu}
use Rattle.cmm_words.specs.declared.operators.Cmp.TheVariants.{Eq}
use Rattle.cmm_program.specs.declared.expression.Expression.TheVariants as e
use Rattle.cmm_program.specs.declared.statement.Form.TheVariants as f
use Rattle.cmm_program.specs.declared.statement.Case.TheVariants.{In}
use Rattle.cmm_program.specs.declared.procedure.Proc.{Proc}
use Rattle.cmm_program.proofs.Samples.{num, local, code, op, test, is, assign, from_to, arm, continuation, call_site, yield_site, procedure, program, frame, frame_with, Sample, sample}

-- ---- a loop round a call
--     main() {
--       bits64 i, t, u;
--       i = 3;
--       loop: if i == 0 { return (t); }
--       t = f(t);
--       i = i - 1;
--       u = 0;
--       goto loop;
--     }
--     f(bits64 n) { return (n + 2); }
abbrev pub looping-main : Proc
looping-main = procedure (codes "main") 49 0 3 (call_site (1 ∷ []) ∷ []) (
    is 4 (assign 0 (num 3))
    ∷ is 2 (f.Label 0)
    ∷ is 6 (f.If (test Eq (local 0) (num 0)) (is 5 (f.Return 0 0 (local 1 ∷ [])) ∷ []) [])
    ∷ is 7 (f.Call 0 (code 1) (local 1 ∷ []))
    ∷ is 6 (assign 0 (op Sub (local 0) (num 1)))
    ∷ is 4 (assign 2 (num 0))
    ∷ is 3 (f.Goto 0) ∷ [])

abbrev pub looping : Sample
looping = sample (program (
    looping-main
    ∷ procedure (codes "f") 14 1 1 [] (is 7 (f.Return 0 0 (op Add (local 0) (num 2) ∷ [])) ∷ [])
    ∷ [])) (frame 16 ∷ frame 16 ∷ [])

-- ---- paths through a checked operator without a normal exit
--     main() {
--       bits64 a, b, q, r;
--       r = f();
--       q = %%divu(b, b) never returns;
--       return (a + q);
--     }
--     f() { return (0); }
abbrev pub through-main : Proc
through-main = procedure (codes "main") 38 0 4 (call_site (3 ∷ []) ∷ record (yield_site (2 ∷ []) 1) { never = true } ∷ []) (
    is 6 (f.Call 0 (code 1) [])
    ∷ is 11 (f.Checked 1 Divu W64 (local 1) (local 1))
    ∷ is 7 (f.Return 0 0 (op Add (local 0) (local 2) ∷ [])) ∷ [])

-- ---- a cut to a continuation of its own activation
--     main() {
--       bits64 x, y, r;
--       r = f();
--       cut to k(1) also cuts to k;
--       continuation k(x): return (x + y);
--     }
--     f() { return (0); }
abbrev pub own_cut-main : Proc
own_cut-main = record (procedure (codes "main") 42 0 3 (call_site (2 ∷ []) ∷ []) (
    is 6 (f.Call 0 (code 1) [])
    ∷ is 11 (f.Cut (e.Continuation 0) (num 1 ∷ []) (0 ∷ []))
    ∷ is 6 (f.Continuation 0)
    ∷ is 7 (f.Return 0 0 (op Add (local 0) (local 1) ∷ [])) ∷ [])) { conts = continuation (0 ∷ []) ∷ [] }

abbrev pub own_cut : Sample
own_cut = sample (program (
    own_cut-main
    ∷ procedure (codes "f") 10 0 0 [] (is 5 (f.Return 0 0 (num 0 ∷ [])) ∷ [])
    ∷ [])) (frame_with 32 (0 ∷ []) [] ∷ frame 16 ∷ [])

-- ---- a switch, which leads to its arms alone
--     main() {
--       bits64 x, y, r;
--       r = f();
--       switch r { case 1: { return (x); } }
--       return (y);
--     }
--     f() { return (1); }
abbrev pub arms-main : Proc
arms-main = procedure (codes "main") 37 0 3 (call_site (2 ∷ []) ∷ []) (
    is 6 (f.Call 0 (code 1) [])
    ∷ is 9 (f.Switch (local 2) (arm (In (from_to 1 1 ∷ [])) (is 5 (f.Return 0 0 (local 0 ∷ [])) ∷ []) ∷ []))
    ∷ is 5 (f.Return 0 0 (local 1 ∷ [])) ∷ [])
