-- Worked rows: the fault that is named of units, from their text: data, statements and calls of the host. Of a broken unit a row says rule, unit, line and column.
use Rattle.std.proofs.Common.{◌≡◌, refl, [], ◌∷◌, None}
use Rattle.std.specs.Prelude.{codes}
use Rattle.cmm_rules.specs.declared.rule.Rule.TheVariants.{ArmsOverlap, BadHostCall, BadReturnIndex, CountsDiffer, NoSuchLabel, NotALocalVariable, TooManyValues, Undeclared}
use Rattle.cmm_static_semantics.specs.Faults.{first_fault}
use Rattle.cmm_elaboration.proofs.RuleTexts.{opened, unit_of, broken}

-- 28: at the statement, before 23 at a later token
row_counts : first_fault (unit_of (codes "export main; main() { bits64 x, y; x, y = 1::bits8; return (0); }") ∷ []) ≡ broken CountsDiffer 0 1 36
unfolding opened
row_counts = refl

-- 28: also where a value is broken
row_more_values : first_fault (unit_of (codes "export main; main() { bits64 x; x = y, 2; return (0); }") ∷ []) ≡ broken CountsDiffer 0 1 33
unfolding opened
row_more_values = refl

-- 28: at the datum
row_values_of_datum : first_fault (unit_of (codes "section \"data\" { bits8[2] { 1, 2 }; bits8[3] { 1, 2 }; } export main; main() { return (0); }") ∷ []) ≡ broken CountsDiffer 0 1 37
unfolding opened
row_values_of_datum = refl

-- 28: also where an initialiser is broken
row_values_broken : first_fault (unit_of (codes "section \"data\" { bits8[1] { y, 2 }; } export main; main() { return (0); }") ∷ []) ≡ broken CountsDiffer 0 1 18
unfolding opened
row_values_broken = refl

-- 28: bytes of text
row_text_of_datum : first_fault (unit_of (codes "section \"data\" { bits8[2] \"ab\"; bits8[2] \"abc\"; } export main; main() { return (0); }") ∷ []) ≡ broken CountsDiffer 0 1 33
unfolding opened
row_text_of_datum = refl

-- 28: a size is left out
row_no_initial : first_fault (unit_of (codes "section \"data\" { bits8[]; } export main; main() { return (0); }") ∷ []) ≡ broken CountsDiffer 0 1 18
unfolding opened
row_no_initial = refl

-- sizes that agree, and no size
row_sizes : first_fault (unit_of (codes "section \"data\" { a: bits8[0]; bits8[] \"\"; bits8[2] \"ab\"; bits8 { 1, 2 }; bits8[] { 1 }; bits8[2]; bits8; } export main; main() { return (0); }") ∷ []) ≡ None
unfolding opened
row_sizes = refl

-- 29: `goto`
row_no_label : first_fault (unit_of (codes "export main; main() { goto l; }") ∷ []) ≡ broken NoSuchLabel 0 1 28
unfolding opened
row_no_label = refl

-- 29: a continuation is no label
row_goto_continuation : first_fault (unit_of (codes "export main; main() { goto k; continuation k(): return (0); }") ∷ []) ≡ broken NoSuchLabel 0 1 28
unfolding opened
row_goto_continuation = refl

-- a label in another block, declared later
row_goto : first_fault (unit_of (codes "export main; main() { if 1 == 1 { goto l; } else { } if 1 == 2 { l: return (0); } }") ∷ []) ≡ None
unfolding opened
row_goto = refl

-- 29: an annotation
row_exit_to_label : first_fault (unit_of (codes "export main; main() { main() also unwinds to l; l: return (0); }") ∷ []) ≡ broken NoSuchLabel 0 1 46
unfolding opened
row_exit_to_label = refl

-- annotations name continuations
row_exits : first_fault (unit_of (codes "export main; main() { main() also cuts to k, also unwinds to k also returns to k also aborts; cut to k() also cuts to k; continuation k(): return (0); }") ∷ []) ≡ None
unfolding opened
row_exits = refl

-- 30: a register is no variable of the procedure
row_parameter : first_fault (unit_of (codes "register bits64 r; export main; main() { bits64 x; return (0); continuation k(x, r): return (x); }") ∷ []) ≡ broken NotALocalVariable 0 1 82
unfolding opened
row_parameter = refl

-- 31: at the later range
row_arms_meet : first_fault (unit_of (codes "export main; main() { switch 1 { case 1: { } case 0 .. 3: { } } return (0); }") ∷ []) ≡ broken ArmsOverlap 0 1 51
unfolding opened
row_arms_meet = refl

-- 31: inside one arm
row_arm_meets_itself : first_fault (unit_of (codes "export main; main() { switch 1 { case 1 .. 3, 3: { } } return (0); }") ∷ []) ≡ broken ArmsOverlap 0 1 47
unfolding opened
row_arm_meets_itself = refl

-- 31: past the switch's range
row_arm_leaves : first_fault (unit_of (codes "export main; main() { switch [0 .. 3] 1 { case 0 .. 1, 3: { } case 4: { } } return (0); }") ∷ []) ≡ broken ArmsOverlap 0 1 68
unfolding opened
row_arm_leaves = refl

-- 31: a range falls
row_arm_falls : first_fault (unit_of (codes "export main; main() { switch 1 { case 3 .. 1: { } } return (0); }") ∷ []) ≡ broken ArmsOverlap 0 1 39
unfolding opened
row_arm_falls = refl

-- 31: the switch's range falls, at its first expression
row_range_falls : first_fault (unit_of (codes "export main; main() { switch [3 .. 1] 1 { } return (0); }") ∷ []) ≡ broken ArmsOverlap 0 1 31
unfolding opened
row_range_falls = refl

-- 31: at the word
row_second_default : first_fault (unit_of (codes "export main; main() { switch 1 { default: { } case 1: { } default: { } } return (0); }") ∷ []) ≡ broken ArmsOverlap 0 1 59
unfolding opened
row_second_default = refl

-- arms side by side to the ends of the range
row_arms : first_fault (unit_of (codes "export main; main() { switch [0 .. 255] 1::bits8 { case 0 .. 1, 3: { } case 2, 255: { } default: { } } return (0); }") ∷ []) ≡ None
unfolding opened
row_arms = refl

-- a literal with a minus takes the switch's width: -1 is 255
row_negative_arm : first_fault (unit_of (codes "export main; main() { switch 1::bits8 { case -1: { } case 255: { } } return (0); }") ∷ []) ≡ broken ArmsOverlap 0 1 59
unfolding opened
row_negative_arm = refl

-- 32: at the bracket
row_exit_above : first_fault (unit_of (codes "export main; main() { return <2/1> (0); }") ∷ []) ≡ broken BadReturnIndex 0 1 30
unfolding opened
row_exit_above = refl

-- 32: also where the first number is broken
row_too_many_exits : first_fault (unit_of (codes "export main; main() { return <y/65> (0); }") ∷ []) ≡ broken BadReturnIndex 0 1 30
unfolding opened
row_too_many_exits = refl

-- the greatest numbers
row_last_exit : first_fault (unit_of (codes "export main; main() { if 1 == 1 { return <64/64> (0); } return (0); }") ∷ []) ≡ None
unfolding opened
row_last_exit = refl

-- 33: at the kind of the 65th
row_too_many_actuals : first_fault (unit_of (codes "export main; main() { main(0, 0, 0, 0, 0, 0, 0, 0, 0, 0, 0, 0, 0, 0, 0, 0, 0, 0, 0, 0, 0, 0, 0, 0, 0, 0, 0, 0, 0, 0, 0, 0, 0, 0, 0, 0, 0, 0, 0, 0, 0, 0, 0, 0, 0, 0, 0, 0, 0, 0, 0, 0, 0, 0, 0, 0, 0, 0, 0, 0, 0, 0, 0, 0, \"k\" 0); return (0); }") ∷ []) ≡ broken TooManyValues 0 1 220
unfolding opened
row_too_many_actuals = refl

-- 64 are accepted
row_most_actuals : first_fault (unit_of (codes "export main; main() { main(0, 0, 0, 0, 0, 0, 0, 0, 0, 0, 0, 0, 0, 0, 0, 0, 0, 0, 0, 0, 0, 0, 0, 0, 0, 0, 0, 0, 0, 0, 0, 0, 0, 0, 0, 0, 0, 0, 0, 0, 0, 0, 0, 0, 0, 0, 0, 0, 0, 0, 0, 0, 0, 0, 0, 0, 0, 0, 0, 0, 0, 0, 0, 0); return (0); }") ∷ []) ≡ None
unfolding opened
row_most_actuals = refl

-- 33: of formals
row_too_many_formals : first_fault (unit_of (codes "export main; main() { return (0); } f(bits8 a0, bits8 a1, bits8 a2, bits8 a3, bits8 a4, bits8 a5, bits8 a6, bits8 a7, bits8 a8, bits8 a9, bits8 a10, bits8 a11, bits8 a12, bits8 a13, bits8 a14, bits8 a15, bits8 a16, bits8 a17, bits8 a18, bits8 a19, bits8 a20, bits8 a21, bits8 a22, bits8 a23, bits8 a24, bits8 a25, bits8 a26, bits8 a27, bits8 a28, bits8 a29, bits8 a30, bits8 a31, bits8 a32, bits8 a33, bits8 a34, bits8 a35, bits8 a36, bits8 a37, bits8 a38, bits8 a39, bits8 a40, bits8 a41, bits8 a42, bits8 a43, bits8 a44, bits8 a45, bits8 a46, bits8 a47, bits8 a48, bits8 a49, bits8 a50, bits8 a51, bits8 a52, bits8 a53, bits8 a54, bits8 a55, bits8 a56, bits8 a57, bits8 a58, bits8 a59, bits8 a60, bits8 a61, bits8 a62, bits8 a63, invariant bits8 b) { return; }") ∷ []) ≡ broken TooManyValues 0 1 733
unfolding opened
row_too_many_formals = refl

-- a byte is written, and one is read
row_put : first_fault (unit_of (codes "export main; main() { bits64 x; foreign \"C\" cmm_putbyte(65); x = foreign \"C\" cmm_getbyte(); return (x); }") ∷ []) ≡ None
unfolding opened
row_put = refl

-- 38: another width
row_put_narrow : first_fault (unit_of (codes "export main; main() { foreign \"C\" cmm_putbyte(65::bits8); return (0); }") ∷ []) ≡ broken BadHostCall 0 1 35
unfolding opened
row_put_narrow = refl

-- 38: a condition is no bits64; this is before its 24
row_put_condition : first_fault (unit_of (codes "export main; main() { foreign \"C\" cmm_putbyte(1 == 1); return (0); }") ∷ []) ≡ broken BadHostCall 0 1 35
unfolding opened
row_put_condition = refl

-- a broken actual doesn't break it
row_put_broken : first_fault (unit_of (codes "export main; main() { foreign \"C\" cmm_putbyte(y); return (0); }") ∷ []) ≡ broken Undeclared 0 1 47
unfolding opened
row_put_broken = refl

-- 38: it has no result
row_put_result : first_fault (unit_of (codes "export main; main() { bits64 x; x = foreign \"C\" cmm_putbyte(65); return (0); }") ∷ []) ≡ broken BadHostCall 0 1 49
unfolding opened
row_put_result = refl

-- 38: a result of another width
row_get_narrow : first_fault (unit_of (codes "export main; main() { bits8 x; x = foreign \"C\" cmm_getbyte(); return (0); }") ∷ []) ≡ broken BadHostCall 0 1 48
unfolding opened
row_get_narrow = refl

-- a broken result doesn't break it
row_get_broken : first_fault (unit_of (codes "export main; main() { x = foreign \"C\" cmm_getbyte(); return (0); }") ∷ []) ≡ broken Undeclared 0 1 23
unfolding opened
row_get_broken = refl

-- 38: another convention
row_other_convention : first_fault (unit_of (codes "export main; main() { foreign \"D\" cmm_putbyte(65); return (0); }") ∷ []) ≡ broken BadHostCall 0 1 35
unfolding opened
row_other_convention = refl

-- 38: an annotation
row_foreign_annotated : first_fault (unit_of (codes "export main; main() { foreign \"C\" cmm_putbyte(65) also aborts; return (0); }") ∷ []) ≡ broken BadHostCall 0 1 35
unfolding opened
row_foreign_annotated = refl

-- 38: any other procedure
row_foreign_other : first_fault (unit_of (codes "export main; main() { foreign \"C\" main(); return (0); }") ∷ []) ≡ broken BadHostCall 0 1 35
unfolding opened
row_foreign_other = refl

-- 38: brackets
row_foreign_bracketed : first_fault (unit_of (codes "export main; main() { foreign \"C\" (cmm_putbyte)(65); return (0); }") ∷ []) ≡ broken BadHostCall 0 1 35
unfolding opened
row_foreign_bracketed = refl

-- an import that stands for it counts
row_foreign_renamed : first_fault (unit_of (codes "import \"cmm_putbyte\" as put; export main; main() { foreign \"C\" put(65); return (0); }") ∷ []) ≡ None
unfolding opened
row_foreign_renamed = refl

-- 38: without `foreign`
row_host_plain : first_fault (unit_of (codes "export main; main() { cmm_putbyte(65); return (0); }") ∷ []) ≡ broken BadHostCall 0 1 23
unfolding opened
row_host_plain = refl

-- 38: as a value
row_host_value : first_fault (unit_of (codes "export main; main() { return (yield); }") ∷ []) ≡ broken BadHostCall 0 1 31
unfolding opened
row_host_value = refl

-- 38: only a call yields
row_host_jump : first_fault (unit_of (codes "export main; main() { jump yield(); }") ∷ []) ≡ broken BadHostCall 0 1 28
unfolding opened
row_host_jump = refl

-- 38: as the plain callee, at the name
row_host_bracketed : first_fault (unit_of (codes "export main; main() { (yield)(1); return (0); }") ∷ []) ≡ broken BadHostCall 0 1 24
unfolding opened
row_host_bracketed = refl

-- a call may yield
row_yields : first_fault (unit_of (codes "export main; main() { bits8 x; x = yield(1, 2::bits8) also aborts; return (x); }") ∷ []) ≡ None
unfolding opened
row_yields = refl
