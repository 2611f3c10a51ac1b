-- Programs of worked rows, resolved, each below its text: registers, memory and control.
use Rattle.std.proofs.Common.{[], ◌∷◌}
use Rattle.std.specs.Prelude.{codes}
use Rattle.cmm_words.specs.declared.width.Width.TheVariants.{W8, W32, W64}
use Rattle.cmm_words.specs.declared.operators.Op2.TheVariants.{Add, Mul}
use Rattle.cmm_words.specs.declared.operators.Cmp.TheVariants.{Eq, Ltu}
use Rattle.cmm_words.specs.declared.constant.Constant.TheVariants.{Number}
use Rattle.cmm_program.specs.declared.expression.Expression.TheVariants as e
use Rattle.cmm_program.specs.declared.statement.Form.TheVariants as f
use Rattle.cmm_program.specs.declared.statement.Lvalue.TheVariants as lvalue
use Rattle.cmm_program.specs.declared.statement.Case.TheVariants.{In, Default}
use Rattle.cmm_program.specs.declared.procedure.Target.TheVariants.{Register}
use Rattle.cmm_program.specs.declared.procedure.Proc.{Proc}
use Rattle.cmm_program.proofs.Samples.{num, local, code, address, op, test, is, assign, assign_all, from_to, arm, continuation, call_site, yield_site, stack_label, stack_bytes, procedure, datum, data_label, global, program, frame, frame_with, Sample, sample, alone}

-- ---- a global register, a loop and a switch
--     register bits64 total;
--     main() {
--       bits64 i;
--       loop: if i < 3 { total = total + i; i = i + 1; goto loop; }
--       switch total { case 0, 1: { return (1); } case 2..4: { return (total + 10); } default: { return (99); } }
--     }
abbrev registers-main : Proc
registers-main = procedure (codes "main") 70 0 1 [] (
    is 2 (f.Label 0)
    ∷ is 6 (f.If (test Ltu (local 0) (num 3)) (
    is 6 (f.Assign (lvalue.Target (Register 0 W64) ∷ []) (op Add (e.Register 0 W64) (local 0) ∷ []))
    ∷ is 6 (assign 0 (op Add (local 0) (num 1))) ∷ is 3 (f.Goto 0) ∷ []) [])
    ∷ is 22 (f.Switch (e.Register 0 W64) (
    arm (In (from_to 0 0 ∷ from_to 1 1 ∷ [])) (is 5 (f.Return 0 0 (num 1 ∷ [])) ∷ [])
    ∷ arm (In (from_to 2 4 ∷ [])) (is 7 (f.Return 0 0 (op Add (e.Register 0 W64) (num 10) ∷ [])) ∷ [])
    ∷ arm Default (is 5 (f.Return 0 0 (num 99 ∷ [])) ∷ []) ∷ [])) ∷ [])

abbrev pub registers : Sample
registers = sample (record (program (registers-main ∷ [])) {
  globals = global (codes "total") W64 ∷ [];
}) (frame 16 ∷ [])

-- ---- stackdata, byte by byte
--     main() {
--       stackdata { a: bits8; b: bits32[2]; }
--       bits32[b + 4] = 305419896::bits32;
--       bits8[a] = 255::bits8;
--       return (%zx64(bits8[b + 5]) + %zx64(bits8[a]));
--     }
abbrev pub stackbytes : Sample
stackbytes = alone (record (procedure (codes "main") 60 0 0 [] (
    is 11 (f.Assign (lvalue.Memory W32 4 (op Add (e.Stackdata 1) (num 4)) ∷ []) (e.Known (Number 305419896 W32) ∷ []))
    ∷ is 9 (f.Assign (lvalue.Memory W8 1 (e.Stackdata 0) ∷ []) (e.Known (Number 255 W8) ∷ []))
    ∷ is 21 (f.Return 0 0 (
    op Add (e.ZeroExtend W8 W64 (e.Load W8 1 (op Add (e.Stackdata 1) (num 5)))) (e.ZeroExtend W8 W64 (e.Load W8 1 (e.Stackdata 0))) ∷ []))
    ∷ [])) {
      stack = stack_label 1 ∷ stack_bytes 1 1 ∷ stack_label 4 ∷ stack_bytes 4 8 ∷ [];
    }) (frame_with 32 [] (0 ∷ 4 ∷ []))

-- ---- a word of stackdata that is written in part
--     main() { stackdata { s: bits64; } bits32[s] = 1::bits32; return (bits64[s]); }
abbrev pub partly : Sample
partly = alone (record (procedure (codes "main") 29 0 0 [] (
    is 9 (f.Assign (lvalue.Memory W32 4 (e.Stackdata 0) ∷ []) (e.Known (Number 1 W32) ∷ []))
    ∷ is 8 (f.Return 0 0 (e.Load W64 8 (e.Stackdata 0) ∷ [])) ∷ [])) {
      stack = stack_label 8 ∷ stack_bytes 8 8 ∷ [];
    }) (frame_with 32 [] (0 ∷ []))

-- ---- an address that is not aligned
--     section "data" { d: bits64 { 1, 2 }; }
--     main() { return (bits64[d + 4]); }
abbrev pub misaligned : Sample
misaligned = sample (record (program (
    procedure (codes "main") 15 0 0 [] (is 10 (f.Return 0 0 (e.Load W64 8 (op Add (address 0) (num 4)) ∷ [])) ∷ []) ∷ [])) {
      datums = datum 8 16 W64 (Number 1 W64 ∷ Number 2 W64 ∷ []) ∷ [];
      labels = data_label (codes "d") 0 ∷ [];
    }) (frame 16 ∷ [])

-- ---- the same, with an alignment of its own
--     section "data" { d: bits64 { 1, 2 }; }
--     main() { return (bits64[d + 4 aligned 4]); }
abbrev pub half_aligned : Sample
half_aligned = sample (record (program (
    procedure (codes "main") 17 0 0 [] (is 12 (f.Return 0 0 (e.Load W64 4 (op Add (address 0) (num 4)) ∷ [])) ∷ []) ∷ [])) {
      datums = datum 8 16 W64 (Number 1 W64 ∷ Number 2 W64 ∷ []) ∷ [];
      labels = data_label (codes "d") 0 ∷ [];
    }) (frame 16 ∷ [])

-- ---- right sides before left ones
--     main() { bits64 a, b; a, b = 1, 2; a, b = b, a; return (a * 10 + b); }
abbrev pub swapping : Sample
swapping = alone (procedure (codes "main") 35 0 2 [] (
    is 8 (assign_all (0 ∷ 1 ∷ []) (num 1 ∷ num 2 ∷ []))
    ∷ is 8 (assign_all (0 ∷ 1 ∷ []) (local 1 ∷ local 0 ∷ []))
    ∷ is 9 (f.Return 0 0 (op Add (op Mul (local 0) (num 10)) (local 1) ∷ [])) ∷ [])) (frame 16)

-- ---- a jump into a block
--     main() { bits64 x; goto inside; if x == 0 { x = 5; inside: x = x + 1; } return (x + 10); }
abbrev pub into : Sample
into = alone (procedure (codes "main") 36 0 1 [] (
    is 3 (f.Goto 0)
    ∷ is 6 (f.If (test Eq (local 0) (num 0)) (
    is 4 (assign 0 (num 5)) ∷ is 2 (f.Label 0) ∷ is 6 (assign 0 (op Add (local 0) (num 1))) ∷ []) [])
    ∷ is 7 (f.Return 0 0 (op Add (local 0) (num 10) ∷ [])) ∷ [])) (frame 16)

-- ---- a cut that the client makes
--     main() { bits64 r; r = c(); return (r); }
--     c() { bits64 x; x = d(k) also cuts to k; return (x); continuation k(x): return (x + 1); }
--     d(bits64 j) { yield(j); return (0); }
abbrev cut_by_client-main : Proc
cut_by_client-main = procedure (codes "main") 19 0 1 (call_site (0 ∷ []) ∷ []) (
    is 6 (f.Call 0 (code 1) []) ∷ is 5 (f.Return 0 0 (local 0 ∷ [])) ∷ [])

abbrev cut_by_client-c : Proc
cut_by_client-c = record (procedure (codes "c") 37 0 1 (record (call_site (0 ∷ [])) { cuts = 0 ∷ [] } ∷ []) (
    is 11 (f.Call 0 (code 2) (e.Continuation 0 ∷ []))
    ∷ is 5 (f.Return 0 0 (local 0 ∷ []))
    ∷ is 6 (f.Continuation 0)
    ∷ is 7 (f.Return 0 0 (op Add (local 0) (num 1) ∷ [])) ∷ [])) { conts = continuation (0 ∷ []) ∷ [] }

abbrev cut_by_client-d : Proc
cut_by_client-d = procedure (codes "d") 17 1 1 (yield_site [] 1 ∷ []) (
    is 5 (f.Yield 0 (local 0 ∷ [])) ∷ is 5 (f.Return 0 0 (num 0 ∷ [])) ∷ [])

abbrev pub cut_by_client : Sample
cut_by_client = sample (program (cut_by_client-main ∷ cut_by_client-c ∷ cut_by_client-d ∷ []))
    (frame 16 ∷ frame_with 32 (0 ∷ []) [] ∷ frame 16 ∷ [])
