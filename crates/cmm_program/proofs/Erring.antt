-- Programs, resolved, each below its text, and each of which meets an unchecked error.
use Rattle.std.proofs.Common.{true, [], ◌∷◌}
use Rattle.std.specs.Prelude.{codes}
use Rattle.cmm_words.specs.declared.width.Width.TheVariants.{W8, W64}
use Rattle.cmm_words.specs.declared.operators.Op2.TheVariants.{Add, Divu}
use Rattle.cmm_words.specs.declared.constant.Constant.TheVariants.{Number}
use Rattle.cmm_program.specs.declared.expression.Expression.TheVariants as e
use Rattle.cmm_program.specs.declared.statement.Form.TheVariants as f
use Rattle.cmm_program.specs.declared.statement.Lvalue.TheVariants as lvalue
use Rattle.cmm_program.specs.declared.statement.Case.TheVariants.{In}
use Rattle.cmm_program.specs.declared.procedure.Proc.{Proc}
use Rattle.cmm_program.proofs.Samples.{num, local, code, address, op, is, assign, from_to, arm, continuation, call_site, stack_label, stack_bytes, procedure, datum, data_label, program, frame, frame_with, Sample, sample, alone}

-- ---- a division by 0
--     main() { bits64 x; return (1 / x); }
abbrev pub zero : Sample
zero = alone (procedure (codes "main") 15 0 1 [] (is 7 (f.Return 0 0 (op Divu (num 1) (local 0) ∷ [])) ∷ [])) (frame 16)

-- ---- a write past the data, after a byte of output
--     section "data" { d: bits8[16]; }
--     main() { foreign "C" cmm_putbyte(65); bits8[d + 16] = 1::bits8; return (0); }
abbrev outside-main : Proc
outside-main = procedure (codes "main") 28 0 0 [] (
    is 7 (f.PutByte (num 65))
    ∷ is 11 (f.Assign (lvalue.Memory W8 1 (op Add (address 0) (num 16)) ∷ []) (e.Known (Number 1 W8) ∷ []))
    ∷ is 5 (f.Return 0 0 (num 0 ∷ [])) ∷ [])

abbrev pub outside : Sample
outside = sample (record (program (outside-main ∷ [])) {
  datums = datum 1 16 W8 [] ∷ [];
  labels = data_label (codes "d") 0 ∷ [];
}) (frame 16 ∷ [])

-- ---- a read of stackdata that was not written
--     main() { stackdata { s: bits64; } return (bits64[s]); }
abbrev pub unwritten : Sample
unwritten = alone (record (procedure (codes "main") 20 0 0 [] (
    is 8 (f.Return 0 0 (e.Load W64 8 (e.Stackdata 0) ∷ [])) ∷ [])) {
      stack = stack_label 8 ∷ stack_bytes 8 8 ∷ [];
    }) (frame_with 32 [] (0 ∷ []))

-- ---- a call of no procedure
--     main() { bits64 r, x; r = x(); return (r); }
abbrev pub no_procedure : Sample
no_procedure = alone (procedure (codes "main") 21 0 2 (call_site (0 ∷ []) ∷ []) (
    is 6 (f.Call 0 (local 1) []) ∷ is 5 (f.Return 0 0 (local 0 ∷ [])) ∷ [])) (frame 16)

-- ---- a call with a value too many
--     main() { bits64 r; r = f(1, 2); return (r); }
--     f(bits64 n) { return (n); }
abbrev counts-main : Proc
counts-main = procedure (codes "main") 22 0 1 (call_site (0 ∷ []) ∷ []) (
    is 9 (f.Call 0 (code 1) (num 1 ∷ num 2 ∷ [])) ∷ is 5 (f.Return 0 0 (local 0 ∷ [])) ∷ [])

abbrev pub counts : Sample
counts = sample (program (
    counts-main
    ∷ procedure (codes "f") 12 1 1 [] (is 5 (f.Return 0 0 (local 0 ∷ [])) ∷ [])
    ∷ [])) (frame 16 ∷ frame 16 ∷ [])

-- ---- a return to a site with other exits
--     main() { bits64 r; r = f(); return (r); }
--     f() { return <0/1> (1); }
abbrev exits-main : Proc
exits-main = procedure (codes "main") 19 0 1 (call_site (0 ∷ []) ∷ []) (
    is 6 (f.Call 0 (code 1) []) ∷ is 5 (f.Return 0 0 (local 0 ∷ [])) ∷ [])

abbrev pub exits : Sample
exits = sample (program (
    exits-main
    ∷ procedure (codes "f") 15 0 0 [] (is 10 (f.Return 0 1 (num 1 ∷ [])) ∷ [])
    ∷ [])) (frame 16 ∷ frame 16 ∷ [])

-- ---- a normal return to a site that never returns
--     main() { f() never returns; return (0); }
--     f() { return (); }
abbrev never-main : Proc
never-main = procedure (codes "main") 16 0 0 (record (call_site []) { never = true } ∷ []) (
    is 6 (f.Call 0 (code 1) []) ∷ is 5 (f.Return 0 0 (num 0 ∷ [])) ∷ [])

abbrev pub never : Sample
never = sample (program (
    never-main
    ∷ procedure (codes "f") 9 0 0 [] (is 4 (f.Return 0 0 []) ∷ [])
    ∷ [])) (frame 16 ∷ frame 16 ∷ [])

-- ---- a cut to no continuation
--     main() { cut to (5)(1); }
abbrev pub no_cut : Sample
no_cut = alone (procedure (codes "main") 14 0 0 [] (is 9 (f.Cut (num 5) (num 1 ∷ []) []) ∷ [])) (frame 16)

-- ---- a switch without an arm for its value
--     main() { bits64 x; switch x { case 1..3: { x = 2; } } return (x); }
abbrev pub no_arm : Sample
no_arm = alone (procedure (codes "main") 28 0 1 [] (
    is 11 (f.Switch (local 0) (arm (In (from_to 1 3 ∷ [])) (is 4 (assign 0 (num 2)) ∷ []) ∷ []))
    ∷ is 5 (f.Return 0 0 (local 0 ∷ [])) ∷ [])) (frame 16)

-- ---- a body without a return
--     main() { bits64 x; x = 1; }
abbrev pub no_return : Sample
no_return = alone (procedure (codes "main") 12 0 1 [] (is 4 (assign 0 (num 1)) ∷ [])) (frame 16)

-- ---- a continuation from above
--     main() { bits64 x; x = 1; continuation k(x): return (x); }
abbrev pub from_above : Sample
from_above = alone (record (procedure (codes "main") 23 0 1 [] (
    is 4 (assign 0 (num 1)) ∷ is 6 (f.Continuation 0) ∷ is 5 (f.Return 0 0 (local 0 ∷ [])) ∷ [])) {
      conts = continuation (0 ∷ []) ∷ [];
    }) (frame_with 32 (0 ∷ []) [])
