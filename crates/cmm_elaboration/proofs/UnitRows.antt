-- Worked rows: the program that units mean, from their text: what units declare and share. The program below each text was worked out by hand, its
-- tokens counted.
use Rattle.std.proofs.Common.{◌≡◌, refl, true, false, [], ◌∷◌}
use Rattle.std.specs.Prelude.{codes, map}
use Rattle.cmm_words.specs.declared.width.Width.TheVariants.{W8, W16, W32, W64}
use Rattle.cmm_words.specs.declared.operators.Op2.TheVariants.{Add, Sub, Divu}
use Rattle.cmm_words.specs.declared.operators.Cmp.TheVariants.{Eq}
use Rattle.cmm_words.specs.declared.constant.Constant.TheVariants.{Number, Code, Address}
use Rattle.cmm_program.specs.declared.expression.Expression.TheVariants as e
use Rattle.cmm_program.specs.declared.statement.Form.TheVariants as f
use Rattle.cmm_program.specs.declared.statement.Lvalue.TheVariants as lvalue
use Rattle.cmm_program.specs.declared.procedure.Target.TheVariants.{Variable, Register}
use Rattle.cmm_program.proofs.Shared.{num, local, code, address, op, test, is, assign_all, variable, plain, continuation, call_site, yield_site, procedure, datum, data_label, global, program}
use Rattle.cmm_elaboration.proofs.RuleTexts.{unit_of}
use Rattle.cmm_elaboration.specs.Meaning.{meaning_of}
use Rattle.cmm_elaboration.proofs.Texts.{opened}

-- a typedef, and a constant with a type
row_typedefs : meaning_of (unit_of (codes "typedef bits16 t; const t c = 5; export main; main() { t x; x = c + 'a'::t; return; }") ∷ []) ≡ program (
    record (procedure (codes "main") 18 0 0 [] (
    is 8 (f.Assign (lvalue.Target (Variable 0 W16) ∷ []) (e.Binary Add W16 (e.Known (Number 5 W16)) (e.Known (Number 97 W16)) ∷ []))
    ∷ is 2 (f.Return 0 0 []) ∷ [])) { vars = plain W16 ∷ [] } ∷ [])
unfolding opened
row_typedefs = refl

-- a label stands on the next datum of its section, whatever alignments come before, or at the section's end; it may be exported under several names
row_data : meaning_of (unit_of (codes "export main, d as \"data\", d; section \"data\" { a: align 4; b: bits16[] { 1, -2 }; d: bits8 \"hi\"; bits32[3]; e: } section \"code\" { f: align 8; } section \"x\" { g: bits64[2] { main, b + 2 }; } main() { return (e); }") ∷ []) ≡ record (program (
    procedure (codes "main") 10 0 0 [] (is 5 (f.Return 0 0 (address 3 ∷ [])) ∷ []) ∷ [])) {
      datums =
          datum 4 0 W8 [] ∷ datum 2 4 W16 (Number 1 W16 ∷ Number 65534 W16 ∷ []) ∷ datum 1 2 W8 (Number 104 W8 ∷ Number 105 W8 ∷ [])
          ∷ datum 4 12 W32 [] ∷ datum 8 0 W8 [] ∷ datum 8 16 W64 (Code 0 0 ∷ Address 1 2 ∷ []) ∷ [];
      labels =
          data_label (codes "a") 1 ∷ data_label (codes "b") 1 ∷ record (data_label (codes "d") 2) { links = codes "data" ∷ codes "d" ∷ [] }
          ∷ record (data_label (codes "e") 4) { at_end = true } ∷ record (data_label (codes "f") 5) { at_end = true } ∷ data_label (codes "g") 5 ∷ [];
    }
unfolding opened
row_data = refl

-- registers of one name are one register, and stand by their names; an import names what another unit exports
row_two_units : meaning_of (
    unit_of (codes "register bits8 s, q; import \"ff\" as f; export main; main() { f(s, r); return (0); } register bits32 r;")
    ∷ unit_of (codes "register bits64 p; register bits8 q; export f as \"ff\"; f(bits8 x, bits32 y) { p = 1; return; }") ∷ []) ≡ record (program (
    procedure (codes "main") 17 0 0 (call_site [] ∷ []) (
    is 7 (f.Call 0 (code 1) (e.Register 3 W8 ∷ e.Register 2 W32 ∷ [])) ∷ is 5 (f.Return 0 0 (num 0 ∷ [])) ∷ [])
    ∷ record (procedure (codes "f") 16 2 0 [] (
    is 4 (f.Assign (lvalue.Target (Register 0 W64) ∷ []) (num 1 ∷ [])) ∷ is 2 (f.Return 0 0 []) ∷ [])) { unit = 1; vars = plain W8 ∷ plain W32 ∷ [] } ∷ [])) {
      globals = global (codes "p") W64 ∷ global (codes "q") W8 ∷ global (codes "r") W32 ∷ global (codes "s") W8 ∷ [];
    }
unfolding opened
row_two_units = refl

-- two units with data, a span by an address, an exception by unwinding, and a second unit that yields
row_divide : meaning_of (
    unit_of (codes "# 1 \"a.src\"\ntarget memsize 8 byteorder little pointersize 64 wordsize 64;\nimport divide;\nexport main;\nsection \"data\" {\n  msg: bits8[] \"bad\\n\";\n  align 8;\n  tag: bits64 { 3, 5 };\n}\nput(\"address\" bits64 s, bits64 n) {\n  loop: if n == 0 { return (); }\n  foreign \"C\" cmm_putbyte(%zx64(bits8[s]));\n  s, n = s + 1, n - 1;\n  goto loop;\n}\nmain() {\n  bits64 r, e;\n  span 1 tag { r = divide(12, 0) also unwinds to handler, also aborts; }\n  return (r);\n  continuation handler(e):\n  put(msg, 4);\n  return (e);\n}\n")
    ∷ unit_of (codes "export divide; divide(bits64 a, bits64 b) { if b == 0 { yield(100, 3) never returns; } return (a / b); }") ∷ []) ≡ record (program (
    record (procedure (codes "put") 51 2 0 [] (
    is 2 (f.Label 0)
    ∷ is 6 (f.If (test Eq (local 1) (num 0)) (is 4 (f.Return 0 0 []) ∷ []) [])
    ∷ is 13 (f.PutByte (e.ZeroExtend W8 W64 (e.Load W8 1 (local 0))))
    ∷ is 12 (assign_all (0 ∷ 1 ∷ []) (op Add (local 0) (num 1) ∷ op Sub (local 1) (num 1) ∷ []))
    ∷ is 3 (f.Goto 0) ∷ [])) { vars = variable W64 (codes "address") false ∷ plain W64 ∷ [] }
    ∷ record (procedure (codes "main") 54 0 2 (
    record (call_site (0 ∷ [])) { unwinds = 0 ∷ []; aborts = true; spans = (1, Address 1 0) ∷ [] } ∷ call_site [] ∷ []) (
    is 5 (f.Span (is 16 (f.Call 0 (code 2) (num 12 ∷ num 0 ∷ [])) ∷ []))
    ∷ is 5 (f.Return 0 0 (local 0 ∷ []))
    ∷ is 6 (f.Continuation 0)
    ∷ is 7 (f.Call 1 (code 0) (address 0 ∷ num 4 ∷ []))
    ∷ is 5 (f.Return 0 0 (local 1 ∷ [])) ∷ [])) { conts = continuation (1 ∷ []) ∷ [] }
    ∷ record (procedure (codes "divide") 32 2 2 (record (yield_site [] 2) { never = true } ∷ []) (
    is 6 (f.If (test Eq (local 1) (num 0)) (is 9 (f.Yield 0 (num 100 ∷ num 3 ∷ [])) ∷ []) [])
    ∷ is 7 (f.Return 0 0 (op Divu (local 0) (local 1) ∷ [])) ∷ [])) { unit = 1 } ∷ [])) {
      main = 1;
      datums =
          datum 1 4 W8 (map (λ byte. Number byte W8) (codes "bad\n")) ∷ datum 8 0 W8 []
          ∷ datum 8 16 W64 (Number 3 W64 ∷ Number 5 W64 ∷ []) ∷ [];
      labels = data_label (codes "msg") 0 ∷ data_label (codes "tag") 2 ∷ [];
    }
unfolding opened
row_divide = refl
