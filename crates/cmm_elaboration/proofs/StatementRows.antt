-- Worked rows: the program that units mean, from their text: statements and what a procedure declares. The program below each text was worked out
-- by hand, its tokens counted.
use Rattle.std.proofs.Common.{◌≡◌, refl, true, false, [], ◌∷◌}
use Rattle.std.specs.Prelude.{codes}
use Rattle.cmm_words.specs.declared.width.Width.TheVariants.{W8, W16, W32, W64}
use Rattle.cmm_words.specs.declared.operators.Op1.TheVariants.{Neg}
use Rattle.cmm_words.specs.declared.operators.Op2.TheVariants.{Add, Mul, Quot}
use Rattle.cmm_words.specs.declared.operators.Cmp.TheVariants.{Eq, Ne, Lt, Ltu}
use Rattle.cmm_words.specs.declared.constant.Constant.TheVariants.{Number}
use Rattle.cmm_program.specs.declared.expression.Expression.TheVariants as e
use Rattle.cmm_program.specs.declared.expression.Condition.TheVariants as c
use Rattle.cmm_program.specs.declared.statement.Form.TheVariants as f
use Rattle.cmm_program.specs.declared.statement.Lvalue.TheVariants as lvalue
use Rattle.cmm_program.specs.declared.statement.Case.TheVariants.{In, Default}
use Rattle.cmm_program.specs.declared.procedure.Target.TheVariants.{Variable, Register}
use Rattle.cmm_program.proofs.Shared.{num, local, code, op, test, is, assign, from_to, arm, variable, plain, stack_label, stack_bytes, continuation, call_site, yield_site, procedure, global, program}
use Rattle.cmm_elaboration.proofs.RuleTexts.{unit_of}
use Rattle.cmm_elaboration.specs.Meaning.{meaning_of}
use Rattle.cmm_elaboration.proofs.Texts.{opened}

-- variables with their kinds, and an assignment to several
row_variables : meaning_of (unit_of (codes "export main; main() { bits8 x; invariant bits64 y; \"k\" bits16 z, w; x, y = 1::bits8, 2; return (y); }") ∷ []) ≡ program (
    record (procedure (codes "main") 33 0 0 [] (
    is 10 (f.Assign (lvalue.Target (Variable 0 W8) ∷ lvalue.Target (Variable 1 W64) ∷ []) (e.Known (Number 1 W8) ∷ num 2 ∷ []))
    ∷ is 5 (f.Return 0 0 (local 1 ∷ [])) ∷ [])) {
      vars = plain W8 ∷ variable W64 [] true ∷ variable W16 (codes "k") false ∷ variable W16 (codes "k") false ∷ [];
    } ∷ [])
unfolding opened
row_variables = refl

-- words in memory, with and without an alignment, and operators
row_expressions : meaning_of (unit_of (codes "export main; main() { bits64 p; bits32[p + 4 aligned 2] = %lobits32(p); return (bits64[p] * (-p)); }") ∷ []) ≡ program (
    procedure (codes "main") 35 0 1 [] (
    is 14 (f.Assign (lvalue.Memory W32 2 (op Add (local 0) (num 4)) ∷ []) (e.LowBits W64 W32 (local 0) ∷ []))
    ∷ is 13 (f.Return 0 0 (op Mul (e.Load W64 8 (local 0)) (e.Unary Neg W64 (local 0)) ∷ [])) ∷ []) ∷ [])
unfolding opened
row_expressions = refl

-- labels by numbers; a statement's count leaves out what stands in its blocks, and an `if` after `else` is such
row_branches : meaning_of (unit_of (codes "export main; main() { bits64 x; l: if x == 0 { goto m; } else if %lt(x, 4) { x = 1; } else { ; goto l; } m: return (x); }") ∷ []) ≡ program (
    procedure (codes "main") 47 0 1 [] (
    is 2 (f.Label 0)
    ∷ is 7 (f.If (test Eq (local 0) (num 0)) (is 3 (f.Goto 1) ∷ []) (
    is 12 (f.If (test Lt (local 0) (num 4)) (is 4 (assign 0 (num 1)) ∷ []) (is 1 f.Empty ∷ is 3 (f.Goto 0) ∷ [])) ∷ []))
    ∷ is 2 (f.Label 1)
    ∷ is 5 (f.Return 0 0 (local 0 ∷ [])) ∷ []) ∷ [])
unfolding opened
row_branches = refl

row_conditions : meaning_of (unit_of (codes "export main; main() { bits64 x; if %conjoin(x < 1, %not(x != 2)) { } return; }") ∷ []) ≡ program (
    procedure (codes "main") 26 0 1 [] (
    is 16 (f.If (c.Both (test Ltu (local 0) (num 1)) (c.Not (test Ne (local 0) (num 2)))) [] []) ∷ is 2 (f.Return 0 0 []) ∷ []) ∷ [])
unfolding opened
row_conditions = refl

-- ranges take the width of the switch's value
row_switch : meaning_of (unit_of (codes "export main; main() { bits8 x; switch [0 .. 9] x { case 1, 3 .. 5: { x = 2::bits8; } default: { } } return (0); }") ∷ []) ≡ program (
    record (procedure (codes "main") 41 0 0 [] (
    is 22 (f.Switch (e.Variable 0 W8) (
    arm (In (from_to 1 1 ∷ from_to 3 5 ∷ [])) (is 6 (f.Assign (lvalue.Target (Variable 0 W8) ∷ []) (e.Known (Number 2 W8) ∷ [])) ∷ [])
    ∷ arm Default [] ∷ []))
    ∷ is 5 (f.Return 0 0 (num 0 ∷ [])) ∷ [])) { vars = plain W8 ∷ [] } ∷ [])
unfolding opened
row_switch = refl

-- annotations of one kind are joined in their order; continuations are named before they stand
row_calls : meaning_of (unit_of (codes "export main; main() { bits64 x, y; x, y = f(1, x) also returns to a, b also unwinds to b, also returns to a, also cuts to a also aborts; f(2, y) never returns; continuation a(x): return (x); continuation b(): return (y); } f(bits64 m, bits64 n) { return <1/2> (m); }") ∷ []) ≡ program (
    record (procedure (codes "main") 73 0 2 (
    record (call_site (0 ∷ 1 ∷ [])) { returns = 0 ∷ 1 ∷ 0 ∷ []; unwinds = 1 ∷ []; cuts = 0 ∷ []; aborts = true }
    ∷ record (call_site []) { never = true } ∷ []) (
    is 33 (f.Call 0 (code 1) (num 1 ∷ local 0 ∷ []))
    ∷ is 9 (f.Call 1 (code 1) (num 2 ∷ local 1 ∷ []))
    ∷ is 6 (f.Continuation 0) ∷ is 5 (f.Return 0 0 (local 0 ∷ []))
    ∷ is 5 (f.Continuation 1) ∷ is 5 (f.Return 0 0 (local 1 ∷ [])) ∷ [])) { conts = continuation (0 ∷ []) ∷ continuation [] ∷ [] }
    ∷ procedure (codes "f") 20 2 2 [] (is 10 (f.Return 1 2 (local 0 ∷ [])) ∷ []) ∷ [])
unfolding opened
row_calls = refl

-- the innermost span of each token, those around the procedure too
row_spans : meaning_of (unit_of (codes "export main; section \"data\" { span 2 7 { span 1 8 { main() { span 1 9 { ; main(); } main(); } } } }") ∷ []) ≡ program (
    procedure (codes "main") 19 0 0 (
    record (call_site []) { spans = (1, Number 9 W64) ∷ (2, Number 7 W64) ∷ [] } ∷ record (call_site []) { spans = (1, Number 8 W64) ∷ (2, Number 7 W64) ∷ [] } ∷ []) (
    is 5 (f.Span (is 1 f.Empty ∷ is 4 (f.Call 0 (code 0) []) ∷ [])) ∷ is 4 (f.Call 1 (code 0) []) ∷ []) ∷ [])
unfolding opened
row_spans = refl

-- `yield` and a checked operator are call sites
row_yields : meaning_of (unit_of (codes "export main; main() { bits8 x; x = yield(x, 2) never returns; x = %%quot(x, 'a') also unwinds to k; continuation k(): return (0); }") ∷ []) ≡ program (
    record (procedure (codes "main") 42 0 0 (
    record (yield_site [] 2) { results = Variable 0 W8 ∷ []; never = true } ∷ record (yield_site [] 1) { results = Variable 0 W8 ∷ []; unwinds = 0 ∷ [] } ∷ []) (
    is 11 (f.Yield 0 (e.Variable 0 W8 ∷ num 2 ∷ []))
    ∷ is 13 (f.Checked 1 Quot W8 (e.Variable 0 W8) (e.Known (Number 97 W8)))
    ∷ is 5 (f.Continuation 0) ∷ is 5 (f.Return 0 0 (num 0 ∷ [])) ∷ [])) { vars = plain W8 ∷ []; conts = continuation [] ∷ [] } ∷ [])
unfolding opened
row_yields = refl

-- calls of the host, by an import too, are no call sites
row_foreign : meaning_of (unit_of (codes "import \"cmm_getbyte\" as get; register bits64 r; export main; main() { r = foreign \"C\" get(); foreign \"C\" cmm_putbyte(r + 1); return (r); }") ∷ []) ≡ record (program (
    procedure (codes "main") 27 0 0 [] (
    is 8 (f.GetByte (Register 0 W64)) ∷ is 9 (f.PutByte (op Add (e.Register 0 W64) (num 1))) ∷ is 5 (f.Return 0 0 (e.Register 0 W64 ∷ [])) ∷ []) ∷ [])) {
      globals = global (codes "r") W64 ∷ [];
    }
unfolding opened
row_foreign = refl

-- callees that are no names, a named constant, and the parameters of a continuation
row_cuts : meaning_of (unit_of (codes "export main; const two = 1 + 1; main() { bits64 k, v; jump main(); cut to k(v, two) also cuts to a; cut to (k)(); jump bits64[v](k); return <0/two>; continuation a(k, v): ; }") ∷ []) ≡ program (
    record (procedure (codes "main") 61 0 2 [] (
    is 5 (f.Jump (code 0) []) ∷ is 13 (f.Cut (local 0) (local 1 ∷ num 2 ∷ []) (0 ∷ [])) ∷ is 8 (f.Cut (local 0) [] [])
    ∷ is 9 (f.Jump (e.Load W64 8 (local 1)) (local 0 ∷ [])) ∷ is 7 (f.Return 0 2 []) ∷ is 8 (f.Continuation 0) ∷ is 1 f.Empty ∷ [])) {
      conts = continuation (0 ∷ 1 ∷ []) ∷ [];
    } ∷ [])
unfolding opened
row_cuts = refl

-- a label of stackdata stands where the next datum does, in a later block too
row_stackdata : meaning_of (unit_of (codes "export main; main() { stackdata { a: bits8[3]; b: align 16; c: bits64; } bits64 x; if x == 0 { stackdata { d: } } stackdata { bits32[2]; e: align 4; } return (e); }") ∷ []) ≡ program (
    record (procedure (codes "main") 56 0 1 [] (
    is 6 (f.If (test Eq (local 0) (num 0)) [] []) ∷ is 5 (f.Return 0 0 (e.Stackdata 4 ∷ [])) ∷ [])) {
      stack =
          stack_label 1 ∷ stack_bytes 1 3 ∷ stack_label 16 ∷ stack_bytes 16 0 ∷ stack_label 8 ∷ stack_bytes 8 8
          ∷ stack_label 4 ∷ stack_bytes 4 8 ∷ stack_label 4 ∷ stack_bytes 4 0 ∷ [];
    } ∷ [])
unfolding opened
row_stackdata = refl
