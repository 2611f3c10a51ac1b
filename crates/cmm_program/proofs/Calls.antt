-- Programs of worked rows, resolved, each below its text: calls, returns, cuts and input.
use Rattle.std.proofs.Common.{true, [], ◌∷◌, map}
use Rattle.std.specs.Prelude.{codes}
use Rattle.cmm_words.specs.declared.width.Width.TheVariants.{W64}
use Rattle.cmm_words.specs.declared.operators.Op2.TheVariants.{Add, Sub, Mul}
use Rattle.cmm_words.specs.declared.operators.Cmp.TheVariants.{Eq}
use Rattle.cmm_program.specs.declared.expression.Expression.TheVariants as e
use Rattle.cmm_program.specs.declared.statement.Form.TheVariants as f
use Rattle.cmm_program.specs.declared.procedure.Target.TheVariants.{Variable}
use Rattle.cmm_program.specs.declared.procedure.Proc.{Proc}
use Rattle.cmm_program.proofs.Samples.{num, local, code, op, added, test, is, assign, assign_all, continuation, call_site, procedure, program, frame, frame_with, Sample, sample, alone}

-- ---- a sum
--     main() { return (2 + 3); }
abbrev pub sum-main : Proc
sum-main = procedure (codes "main") 12 0 0 [] (is 7 (f.Return 0 0 (op Add (num 2) (num 3) ∷ [])) ∷ [])

abbrev pub sum : Sample
sum = alone sum-main (frame 16)

-- ---- a loop by tail calls
--     main() { bits64 r; r = f(100); return (r); }
--     f(bits64 n) { if n == 0 { return (7); } jump f(n - 1); }
abbrev tail-main : Proc
tail-main = procedure (codes "main") 20 0 1 (call_site (0 ∷ []) ∷ []) (
    is 7 (f.Call 0 (code 1) (num 100 ∷ [])) ∷ is 5 (f.Return 0 0 (local 0 ∷ [])) ∷ [])

abbrev pub tail-f : Proc
tail-f = procedure (codes "f") 26 1 1 [] (
    is 6 (f.If (test Eq (local 0) (num 0)) (is 5 (f.Return 0 0 (num 7 ∷ [])) ∷ []) [])
    ∷ is 8 (f.Jump (code 1) (op Sub (local 0) (num 1) ∷ [])) ∷ [])

abbrev pub tail : Sample
tail = sample (program (tail-main ∷ tail-f ∷ [])) (frame 16 ∷ frame 16 ∷ [])

-- ---- a recursion
--     main() { bits64 r; r = g(9); return (r); }
--     g(bits64 n) { bits64 r; if n == 0 { return (0); } r = g(n - 1); return (r + 1); }
abbrev deep-main : Proc
deep-main = procedure (codes "main") 20 0 1 (call_site (0 ∷ []) ∷ []) (
    is 7 (f.Call 0 (code 1) (num 9 ∷ [])) ∷ is 5 (f.Return 0 0 (local 0 ∷ [])) ∷ [])

abbrev deep-g : Proc
deep-g = procedure (codes "g") 37 1 2 (call_site (1 ∷ []) ∷ []) (
    is 6 (f.If (test Eq (local 0) (num 0)) (is 5 (f.Return 0 0 (num 0 ∷ [])) ∷ []) [])
    ∷ is 9 (f.Call 0 (code 1) (op Sub (local 0) (num 1) ∷ []))
    ∷ is 7 (f.Return 0 0 (op Add (local 1) (num 1) ∷ [])) ∷ [])

abbrev pub deep : Sample
deep = sample (program (deep-main ∷ deep-g ∷ [])) (frame 48 ∷ frame 32 ∷ [])

-- ---- alternate returns
--     main() { bits64 p, q, r; p = t(0); q = t(2); r = t(9); return (p * 1000000 + q * 1000 + r); }
--     t(bits64 i) {
--       bits64 x;
--       x = h(i) also returns to a, b, c;
--       return (x);
--       continuation a(x): return (x + 100);
--       continuation b(x): return (x + 200);
--       continuation c(x): return (x + 300);
--     }
--     h(bits64 i) { if i == 0 { return <0/3> (1); } if i == 2 { return <2/3> (2); } return <3/3> (3); }
abbrev pub alternates-main : Proc
alternates-main = procedure (codes "main") 46 0 3 (call_site (0 ∷ []) ∷ call_site (1 ∷ []) ∷ call_site (2 ∷ []) ∷ []) (
    is 7 (f.Call 0 (code 1) (num 0 ∷ []))
    ∷ is 7 (f.Call 1 (code 1) (num 2 ∷ []))
    ∷ is 7 (f.Call 2 (code 1) (num 9 ∷ []))
    ∷ is 13 (f.Return 0 0 (op Add (op Add (op Mul (local 0) (num 1000000)) (op Mul (local 1) (num 1000))) (local 2) ∷ [])) ∷ [])

abbrev pub alternates-t : Proc
alternates-t = record (procedure (codes "t") 69 1 2 (record (call_site (1 ∷ [])) { returns = 0 ∷ 1 ∷ 2 ∷ [] } ∷ []) (
    is 15 (f.Call 0 (code 2) (local 0 ∷ []))
    ∷ is 5 (f.Return 0 0 (local 1 ∷ []))
    ∷ is 6 (f.Continuation 0)
    ∷ is 7 (f.Return 0 0 (op Add (local 1) (num 100) ∷ []))
    ∷ is 6 (f.Continuation 1)
    ∷ is 7 (f.Return 0 0 (op Add (local 1) (num 200) ∷ []))
    ∷ is 6 (f.Continuation 2)
    ∷ is 7 (f.Return 0 0 (op Add (local 1) (num 300) ∷ [])) ∷ [])) {
      conts = continuation (1 ∷ []) ∷ continuation (1 ∷ []) ∷ continuation (1 ∷ []) ∷ [];
    }

abbrev pub alternates-h : Proc
alternates-h = procedure (codes "h") 49 1 1 [] (
    is 6 (f.If (test Eq (local 0) (num 0)) (is 10 (f.Return 0 3 (num 1 ∷ [])) ∷ []) [])
    ∷ is 6 (f.If (test Eq (local 0) (num 2)) (is 10 (f.Return 2 3 (num 2 ∷ [])) ∷ []) [])
    ∷ is 10 (f.Return 3 3 (num 3 ∷ [])) ∷ [])

abbrev pub alternates : Sample
alternates = sample (program (alternates-main ∷ alternates-t ∷ alternates-h ∷ []))
    (frame 16 ∷ frame_with 64 (0 ∷ 16 ∷ 32 ∷ []) [] ∷ frame 16 ∷ [])

-- ---- a cut past an activation
--     main() { bits64 v, r; v = 41; r = c(0); return (v + r); }
--     c(bits64 u) { bits64 x; x = d(k) also cuts to k; return (x); continuation k(x): return (x); }
--     d(bits64 j) {
--       bits64 a1, a2, a3, a4, a5, a6, a7, a8, a9, b1, b2, r;
--       a1, a2, a3, a4, a5, a6, a7, a8, a9, b1, b2 = j, j, j, j, j, j, j, j, j, j, j;
--       r = e(j) also aborts;
--       return (a1 + a2 + a3 + a4 + a5 + a6 + a7 + a8 + a9 + b1 + b2 + r);
--     }
--     e(bits64 j) { cut to j(1); }
abbrev cutting-main : Proc
cutting-main = procedure (codes "main") 28 0 2 (call_site (1 ∷ []) ∷ []) (
    is 4 (assign 0 (num 41))
    ∷ is 7 (f.Call 0 (code 1) (num 0 ∷ []))
    ∷ is 7 (f.Return 0 0 (op Add (local 0) (local 1) ∷ [])) ∷ [])

abbrev pub cutting-c : Proc
cutting-c = record (procedure (codes "c") 37 1 2 (record (call_site (1 ∷ [])) { cuts = 0 ∷ [] } ∷ []) (
    is 11 (f.Call 0 (code 2) (e.Continuation 0 ∷ []))
    ∷ is 5 (f.Return 0 0 (local 1 ∷ []))
    ∷ is 6 (f.Continuation 0)
    ∷ is 5 (f.Return 0 0 (local 1 ∷ [])) ∷ [])) { conts = continuation (1 ∷ []) ∷ [] }

abbrev pub cutting-d : Proc
cutting-d = procedure (codes "d") 112 1 13 (record (call_site (12 ∷ [])) { aborts = true } ∷ []) (
    is 44 (assign_all (1 ∷ 2 ∷ 3 ∷ 4 ∷ 5 ∷ 6 ∷ 7 ∷ 8 ∷ 9 ∷ 10 ∷ 11 ∷ []) (map local (0 ∷ 0 ∷ 0 ∷ 0 ∷ 0 ∷ 0 ∷ 0 ∷ 0 ∷ 0 ∷ 0 ∷ 0 ∷ [])))
    ∷ is 9 (f.Call 0 (code 3) (local 0 ∷ []))
    ∷ is 27 (f.Return 0 0 (added (local 1) (map local (2 ∷ 3 ∷ 4 ∷ 5 ∷ 6 ∷ 7 ∷ 8 ∷ 9 ∷ 10 ∷ 11 ∷ 12 ∷ [])) ∷ [])) ∷ [])

abbrev pub cutting-e : Proc
cutting-e = procedure (codes "e") 14 1 1 [] (is 7 (f.Cut (local 0) (num 1 ∷ []) []) ∷ [])

abbrev pub cutting : Sample
cutting = sample (program (cutting-main ∷ cutting-c ∷ cutting-d ∷ cutting-e ∷ []))
    (frame 16 ∷ frame_with 32 (0 ∷ []) [] ∷ frame 16 ∷ frame 16 ∷ [])

-- ---- values that change places
--     main() {
--       bits64 a, b, c, d, e, f, g, h, i, j;
--       a, b, c, d, e, f, g, h, i, j = 1, 2, 3, 4, 5, 6, 7, 8, 9, 10;
--       a, b, c, d, e, f, g, h, i = p(j, i, h, g, f, e, d, c, b, a);
--       return (a * 100000000 + b * 10000000 + c * 1000000 + d * 100000 + e * 10000 + f * 1000 + g * 100 + h * 10 + i);
--     }
--     p(bits64 a, bits64 b, bits64 c, bits64 d, bits64 e, bits64 f, bits64 g, bits64 h, bits64 i, bits64 j) {
--       return (b, a, d, c, f, e, h, g, i);
--     }
abbrev parallel-main : Proc
parallel-main = procedure (codes "main") 144 0 10 (call_site (0 ∷ 1 ∷ 2 ∷ 3 ∷ 4 ∷ 5 ∷ 6 ∷ 7 ∷ 8 ∷ []) ∷ []) (
    is 40 (assign_all (0 ∷ 1 ∷ 2 ∷ 3 ∷ 4 ∷ 5 ∷ 6 ∷ 7 ∷ 8 ∷ 9 ∷ []) (map num (1 ∷ 2 ∷ 3 ∷ 4 ∷ 5 ∷ 6 ∷ 7 ∷ 8 ∷ 9 ∷ 10 ∷ [])))
    ∷ is 41 (f.Call 0 (code 1) (map local (9 ∷ 8 ∷ 7 ∷ 6 ∷ 5 ∷ 4 ∷ 3 ∷ 2 ∷ 1 ∷ 0 ∷ [])))
    ∷ is 37 (f.Return 0 0 (added (op Mul (local 0) (num 100000000)) (
    op Mul (local 1) (num 10000000) ∷ op Mul (local 2) (num 1000000) ∷ op Mul (local 3) (num 100000)
    ∷ op Mul (local 4) (num 10000) ∷ op Mul (local 5) (num 1000) ∷ op Mul (local 6) (num 100) ∷ op Mul (local 7) (num 10) ∷ local 8 ∷ []) ∷ [])) ∷ [])

abbrev pub parallel : Sample
parallel = sample (program (
    parallel-main
    ∷ procedure (codes "p") 55 10 10 [] (is 21 (f.Return 0 0 (map local (1 ∷ 0 ∷ 3 ∷ 2 ∷ 5 ∷ 4 ∷ 7 ∷ 6 ∷ 8 ∷ []))) ∷ [])
    ∷ [])) (frame 16 ∷ frame 16 ∷ [])

-- ---- a byte of the input
--     main() { bits64 x; x = foreign "C" cmm_getbyte(); return (x); }
abbrev pub input : Sample
input = alone (procedure (codes "main") 21 0 1 [] (
    is 8 (f.GetByte (Variable 0 W64)) ∷ is 5 (f.Return 0 0 (local 0 ∷ [])) ∷ [])) (frame 16)
