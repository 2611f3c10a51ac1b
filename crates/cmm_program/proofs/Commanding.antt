-- Programs of worked rows, resolved, each below its text: those whose stack the client looks for a place in, and one that
-- jumps to a larger frame.
use Rattle.std.proofs.Common.{[], ◌∷◌}
use Rattle.std.specs.Prelude.{codes}
use Rattle.cmm_words.specs.declared.width.Width.TheVariants.{W64}
use Rattle.cmm_words.specs.declared.operators.Op2.TheVariants.{Add}
use Rattle.cmm_words.specs.declared.constant.Constant.TheVariants.{Number}
use Rattle.cmm_program.specs.declared.expression.Expression.TheVariants as e
use Rattle.cmm_program.specs.declared.statement.Form.TheVariants as f
use Rattle.cmm_program.specs.declared.procedure.Proc.{Proc}
use Rattle.cmm_program.specs.declared.procedure.Site.{Site}
use Rattle.cmm_program.proofs.Samples.{num, local, code, op, is, continuation, call_site, yield_site, procedure, program, frame, frame_with, Sample, sample}

-- ---- a continuation that the client is told of
--     main() { bits64 r; r = f(k) also cuts to k; return (r); continuation k(r): return (r + 1); }
--     f(bits64 j) { yield(j); return (0); }
abbrev told-main : Proc
told-main = record (procedure (codes "main") 37 0 1 (record (call_site (0 ∷ [])) { cuts = 0 ∷ [] } ∷ []) (
    is 11 (f.Call 0 (code 1) (e.Continuation 0 ∷ []))
    ∷ is 5 (f.Return 0 0 (local 0 ∷ []))
    ∷ is 6 (f.Continuation 0)
    ∷ is 7 (f.Return 0 0 (op Add (local 0) (num 1) ∷ [])) ∷ [])) { conts = continuation (0 ∷ []) ∷ [] }

abbrev told-f : Proc
told-f = procedure (codes "f") 17 1 1 (yield_site [] 1 ∷ []) (
    is 5 (f.Yield 0 (local 0 ∷ [])) ∷ is 5 (f.Return 0 0 (num 0 ∷ [])) ∷ [])

abbrev pub told : Sample
told = sample (program (told-main ∷ told-f ∷ [])) (frame_with 32 (0 ∷ []) [] ∷ frame 16 ∷ [])

-- ---- two sites under one descriptor
--     main() { span 1 10 { a(); } return (0); }
--     a() { span 1 10 { b(); } return (); }
--     b() { yield(0); return (); }
abbrev described : Site
described = record (call_site []) { spans = (1, Number 10 W64) ∷ [] }

abbrev pub alike : Sample
alike = sample (program (
    procedure (codes "main") 19 0 0 (described ∷ []) (
    is 5 (f.Span (is 4 (f.Call 0 (code 1) []) ∷ [])) ∷ is 5 (f.Return 0 0 (num 0 ∷ [])) ∷ [])
    ∷ procedure (codes "a") 18 0 0 (described ∷ []) (is 5 (f.Span (is 4 (f.Call 0 (code 2) []) ∷ [])) ∷ is 4 (f.Return 0 0 []) ∷ [])
    ∷ procedure (codes "b") 14 0 0 (yield_site [] 1 ∷ []) (is 5 (f.Yield 0 (num 0 ∷ [])) ∷ is 4 (f.Return 0 0 []) ∷ [])
    ∷ [])) (frame 16 ∷ frame 16 ∷ frame 16 ∷ [])

-- ---- a jump to a larger frame
--     main() { jump f(); }
--     f() { return (1); }
abbrev pub jumping : Sample
jumping = sample (program (
    procedure (codes "main") 10 0 0 [] (is 5 (f.Jump (code 1) []) ∷ [])
    ∷ procedure (codes "f") 10 0 0 [] (is 5 (f.Return 0 0 (num 1 ∷ [])) ∷ [])
    ∷ [])) (frame 16 ∷ frame 48 ∷ [])
