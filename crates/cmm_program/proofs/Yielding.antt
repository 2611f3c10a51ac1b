-- Programs of worked rows, resolved, each below its text: those that yield.
use Rattle.std.proofs.Common.{true, false, [], ◌∷◌, map}
use Rattle.std.specs.Prelude.{codes}
use Rattle.cmm_words.specs.declared.width.Width.TheVariants.{W8, W64}
use Rattle.cmm_words.specs.declared.operators.Op2.TheVariants.{Add, Sub, Divu}
use Rattle.cmm_words.specs.declared.operators.Cmp.TheVariants.{Eq}
use Rattle.cmm_words.specs.declared.constant.Constant.TheVariants.{Number, Address}
use Rattle.cmm_program.specs.declared.expression.Expression.TheVariants as e
use Rattle.cmm_program.specs.declared.statement.Form.TheVariants as f
use Rattle.cmm_program.specs.declared.statement.Lvalue.TheVariants as lvalue
use Rattle.cmm_program.specs.declared.procedure.Target.TheVariants.{Variable}
use Rattle.cmm_program.specs.declared.procedure.Proc.{Proc}
use Rattle.cmm_program.proofs.Samples.{num, local, code, address, op, test, is, assign, assign_all, plain, variable, continuation, call_site, yield_site, procedure, datum, data_label, program, frame, frame_with, Sample, sample, alone}

-- ---- spans inside one another
--     main() { bits64 r; span 1 10 { span 1 11 { span 2 20 { r = q(); } } } r = q(); return (r); }
--     q() { yield(0); return (0); }
abbrev spans-main : Proc
spans-main = procedure (codes "main") 40 0 1 (
    record (call_site (0 ∷ [])) { spans = (1, Number 11 W64) ∷ (2, Number 20 W64) ∷ [] } ∷ call_site (0 ∷ []) ∷ []) (
    is 5 (f.Span (is 5 (f.Span (is 5 (f.Span (is 6 (f.Call 0 (code 1) []) ∷ [])) ∷ [])) ∷ []))
    ∷ is 6 (f.Call 1 (code 1) [])
    ∷ is 5 (f.Return 0 0 (local 0 ∷ [])) ∷ [])

abbrev pub spans : Sample
spans = sample (program (
    spans-main
    ∷ procedure (codes "q") 15 0 0 (yield_site [] 1 ∷ []) (is 5 (f.Yield 0 (num 0 ∷ [])) ∷ is 5 (f.Return 0 0 (num 0 ∷ [])) ∷ [])
    ∷ [])) (frame 16 ∷ frame 16 ∷ [])

-- ---- an unwind exit
--     main() { bits64 y, z; y = 5; z = mid(y); return (z + y); }
--     mid("count" bits64 n) {
--       bits64 w, u, d;
--       d = n;
--       u = n + 2;
--       n = leaf(d) also unwinds to k;
--       return (n + w);
--       continuation k(d): return (u + d);
--     }
--     leaf(bits64 a) { yield(7); return (a); }
abbrev unwinding-main : Proc
unwinding-main = procedure (codes "main") 28 0 2 (call_site (1 ∷ []) ∷ []) (
    is 4 (assign 0 (num 5))
    ∷ is 7 (f.Call 0 (code 1) (local 0 ∷ []))
    ∷ is 7 (f.Return 0 0 (op Add (local 1) (local 0) ∷ [])) ∷ [])

abbrev pub unwinding-mid : Proc
unwinding-mid = record (procedure (codes "mid") 56 1 0 (record (call_site (0 ∷ [])) { unwinds = 0 ∷ [] } ∷ []) (
    is 4 (assign 3 (local 0))
    ∷ is 6 (assign 2 (op Add (local 0) (num 2)))
    ∷ is 11 (f.Call 0 (code 2) (local 3 ∷ []))
    ∷ is 7 (f.Return 0 0 (op Add (local 0) (local 1) ∷ []))
    ∷ is 6 (f.Continuation 0)
    ∷ is 7 (f.Return 0 0 (op Add (local 2) (local 3) ∷ [])) ∷ [])) {
      vars = variable W64 (codes "count") false ∷ plain W64 ∷ plain W64 ∷ plain W64 ∷ [];
      conts = continuation (3 ∷ []) ∷ [];
    }

abbrev unwinding-leaf : Proc
unwinding-leaf = procedure (codes "leaf") 17 1 1 (yield_site [] 1 ∷ []) (
    is 5 (f.Yield 0 (num 7 ∷ [])) ∷ is 5 (f.Return 0 0 (local 0 ∷ [])) ∷ [])

abbrev pub unwinding : Sample
unwinding = sample (program (unwinding-main ∷ unwinding-mid ∷ unwinding-leaf ∷ []))
    (frame 16 ∷ frame_with 32 (0 ∷ []) [] ∷ frame 16 ∷ [])

-- ---- a checked operator
--     main() { bits64 a, q; a = 10; q = %%divu(a, 0); return (q + a); }
abbrev pub checked-main : Proc
checked-main = procedure (codes "main") 30 0 2 (yield_site (1 ∷ []) 1 ∷ []) (
    is 4 (assign 0 (num 10))
    ∷ is 9 (f.Checked 0 Divu W64 (local 0) (num 0))
    ∷ is 7 (f.Return 0 0 (op Add (local 1) (local 0) ∷ [])) ∷ [])

abbrev pub checked : Sample
checked = alone checked-main (frame 16)

-- ---- variables that the client may not change as it likes
--     main() {
--       bits8 x;
--       invariant bits64 y;
--       bits64 z;
--       x, y = 1::bits8, 2;
--       z = yield(3);
--       return (%zx64(x) + y + z);
--     }
abbrev pub changing-main : Proc
changing-main = record (procedure (codes "main") 44 0 0 (yield_site (2 ∷ []) 1 ∷ []) (
    is 10 (f.Assign (lvalue.Target (Variable 0 W8) ∷ lvalue.Target (Variable 1 W64) ∷ []) (e.Known (Number 1 W8) ∷ num 2 ∷ []))
    ∷ is 7 (f.Yield 0 (num 3 ∷ []))
    ∷ is 12 (f.Return 0 0 (op Add (op Add (e.ZeroExtend W8 W64 (e.Variable 0 W8)) (local 1)) (local 2) ∷ [])) ∷ [])) {
      vars = plain W8 ∷ variable W64 (codes "") true ∷ plain W64 ∷ [];
    }

abbrev pub changing : Sample
changing = alone changing-main (frame 16)

-- ---- two units, the second with a division
--     export main, tag;
--     section "data" { msg: bits8[] "bad\n"; align 8; tag: bits64 { 3, 5 }; }
--     put("address" bits64 s, bits64 n) {
--       loop: if n == 0 { return (); }
--       foreign "C" cmm_putbyte(%zx64(bits8[s]));
--       s, n = s + 1, n - 1;
--       goto loop;
--     }
--     main() {
--       bits64 r, e;
--       span 1 tag { r = divide(12, 0) also unwinds to handler, also aborts; }
--       return (r);
--       continuation handler(e):
--       put(msg, 4);
--       return (e);
--     }
--     export divide;
--     divide(bits64 a, bits64 b) { if b == 0 { yield(100, 3) never returns; } return (a / b); }
abbrev pub divide-put : Proc
divide-put = record (procedure (codes "put") 51 2 0 [] (
    is 2 (f.Label 0)
    ∷ is 6 (f.If (test Eq (local 1) (num 0)) (is 4 (f.Return 0 0 []) ∷ []) [])
    ∷ is 13 (f.PutByte (e.ZeroExtend W8 W64 (e.Load W8 1 (local 0))))
    ∷ is 12 (assign_all (0 ∷ 1 ∷ []) (op Add (local 0) (num 1) ∷ op Sub (local 1) (num 1) ∷ []))
    ∷ is 3 (f.Goto 0) ∷ [])) { vars = variable W64 (codes "address") false ∷ plain W64 ∷ [] }

abbrev pub divide-main : Proc
divide-main = record (procedure (codes "main") 54 0 2 (
    record (call_site (0 ∷ [])) { unwinds = 0 ∷ []; aborts = true; spans = (1, Address 1 0) ∷ [] } ∷ call_site [] ∷ []) (
    is 5 (f.Span (is 16 (f.Call 0 (code 2) (num 12 ∷ num 0 ∷ [])) ∷ []))
    ∷ is 5 (f.Return 0 0 (local 0 ∷ []))
    ∷ is 6 (f.Continuation 0)
    ∷ is 7 (f.Call 1 (code 0) (address 0 ∷ num 4 ∷ []))
    ∷ is 5 (f.Return 0 0 (local 1 ∷ [])) ∷ [])) { conts = continuation (1 ∷ []) ∷ [] }

abbrev pub divide-divide : Proc
divide-divide = record (procedure (codes "divide") 32 2 2 (record (yield_site [] 2) { never = true } ∷ []) (
    is 6 (f.If (test Eq (local 1) (num 0)) (is 9 (f.Yield 0 (num 100 ∷ num 3 ∷ [])) ∷ []) [])
    ∷ is 7 (f.Return 0 0 (op Divu (local 0) (local 1) ∷ [])) ∷ [])) { unit = 1 }

abbrev pub divide : Sample
divide = sample (record (program (divide-put ∷ divide-main ∷ divide-divide ∷ [])) {
  main = 1;
  datums =
      datum 1 4 W8 (map (λ byte. Number byte W8) (codes "bad\n")) ∷ datum 8 0 W8 []
      ∷ datum 8 16 W64 (Number 3 W64 ∷ Number 5 W64 ∷ []) ∷ [];
  labels = data_label (codes "msg") 0 ∷ record (data_label (codes "tag") 2) { links = codes "tag" ∷ [] } ∷ [];
}) (frame 16 ∷ frame_with 32 (0 ∷ []) [] ∷ frame 16 ∷ [])
