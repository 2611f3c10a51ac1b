-- Worked rows: the fault that is named of units, from their text: widths, operators and constants. Of a broken unit a row says rule, unit, line and column.
use Rattle.std.proofs.Common.{◌≡◌, refl, [], ◌∷◌, None}
use Rattle.std.specs.Prelude.{codes}
use Rattle.cmm_rules.specs.declared.rule.Rule.TheVariants.{ConditionOrBitsWanted, LiteralDoesNotFit, NotAConstant, Undeclared, UnknownOperator, WidthsDiffer}
use Rattle.cmm_static_semantics.specs.Faults.{first_fault}
use Rattle.cmm_elaboration.proofs.RuleTexts.{opened, unit_of, broken}

-- 23: at the later operand
row_operands : first_fault (unit_of (codes "export main; main() { return (1 + 2::bits8); }") ∷ []) ≡ broken WidthsDiffer 0 1 35
unfolding opened
row_operands = refl

-- 23: at its bracket
row_bracketed_operand : first_fault (unit_of (codes "export main; main() { return (1 + (2::bits8)); }") ∷ []) ≡ broken WidthsDiffer 0 1 35
unfolding opened
row_bracketed_operand = refl

-- 23: at the value
row_sides : first_fault (unit_of (codes "export main; main() { bits32 x; x = 1; return (0); }") ∷ []) ≡ broken WidthsDiffer 0 1 37
unfolding opened
row_sides = refl

-- 23: an address is bits64
row_address : first_fault (unit_of (codes "export main; main() { return (bits8[1::bits8]); }") ∷ []) ≡ broken WidthsDiffer 0 1 37
unfolding opened
row_address = refl

-- 23: so is a callee
row_callee_width : first_fault (unit_of (codes "export main; main() { bits8 x; x(); return (0); }") ∷ []) ≡ broken WidthsDiffer 0 1 32
unfolding opened
row_callee_width = refl

-- 23: in brackets, at the inner expression
row_bracketed_callee : first_fault (unit_of (codes "export main; main() { (1::bits8)(); return (0); }") ∷ []) ≡ broken WidthsDiffer 0 1 24
unfolding opened
row_bracketed_callee = refl

-- 23: at the type of a register's later declaration
row_register_widths : first_fault (unit_of (codes "register bits8 r; export main; main() { return (0); }") ∷ unit_of (codes "register bits16 q, r; ") ∷ []) ≡ broken WidthsDiffer 1 1 10
unfolding opened
row_register_widths = refl

-- units share a register; each width is declared once
row_register_shared : first_fault (unit_of (codes "register bits8 r; export main; main() { return (0); }") ∷ unit_of (codes "register bits8 r; typedef bits16 T; register T q;") ∷ []) ≡ None
unfolding opened
row_register_shared = refl

-- 23: an import's type
row_import_width : first_fault (unit_of (codes "import bits32 f; export main; main() { return (0); }") ∷ []) ≡ broken WidthsDiffer 0 1 8
unfolding opened
row_import_width = refl

-- 23: only a literal that stands alone takes the constant's width
row_constant_width : first_fault (unit_of (codes "const bits8 c = 1 + 1; export main; main() { return (0); }") ∷ []) ≡ broken WidthsDiffer 0 1 17
unfolding opened
row_constant_width = refl

-- 23: in brackets it doesn't stand alone
row_literal_in_brackets : first_fault (unit_of (codes "const bits8 c = (1); export main; main() { return (0); }") ∷ []) ≡ broken WidthsDiffer 0 1 17
unfolding opened
row_literal_in_brackets = refl

-- 23: nor after two signs
row_two_minus_signs : first_fault (unit_of (codes "const bits8 c = - -1; export main; main() { return (0); }") ∷ []) ≡ broken WidthsDiffer 0 1 17
unfolding opened
row_two_minus_signs = refl

-- 23: a character is bits8
row_character_width : first_fault (unit_of (codes "const bits16 c = 'a'; export main; main() { return (0); }") ∷ []) ≡ broken WidthsDiffer 0 1 18
unfolding opened
row_character_width = refl

-- 23: a text is of bits8, at the type
row_text_width : first_fault (unit_of (codes "section \"data\" { bits16[] \"ab\"; } export main; main() { return (0); }") ∷ []) ≡ broken WidthsDiffer 0 1 18
unfolding opened
row_text_width = refl

-- 23: no extension makes a word shorter
row_shorter_extension : first_fault (unit_of (codes "export main; main() { return (%sx8(1)); }") ∷ []) ≡ broken WidthsDiffer 0 1 36
unfolding opened
row_shorter_extension = refl

-- 23: and low bits are no more than there are
row_longer_low_bits : first_fault (unit_of (codes "export main; main() { return (%lobits64(1::bits8)); }") ∷ []) ≡ broken WidthsDiffer 0 1 41
unfolding opened
row_longer_low_bits = refl

-- an operand of the width itself stays as it is
row_conversions : first_fault (unit_of (codes "export main; main() { bits8 x; x = %sx8(%zx8(1::bits8)); return (%lobits64(%sx64(x))); }") ∷ []) ≡ None
unfolding opened
row_conversions = refl

-- 23: a switch and its arm
row_arm_width : first_fault (unit_of (codes "export main; main() { switch 1::bits8 { case 2::bits16: { } } return (0); }") ∷ []) ≡ broken WidthsDiffer 0 1 46
unfolding opened
row_arm_width = refl

-- 23: the operands of a checked operator
row_checked_operands : first_fault (unit_of (codes "export main; main() { bits64 x; x = %%divu(1, 2::bits8); return (x); }") ∷ []) ≡ broken WidthsDiffer 0 1 47
unfolding opened
row_checked_operands = refl

-- 23: and its result, at the operator
row_checked_result : first_fault (unit_of (codes "export main; main() { bits8 x; x = %%divu(1, 2); return (x); }") ∷ []) ≡ broken WidthsDiffer 0 1 36
unfolding opened
row_checked_result = refl

-- what is broken in an operand comes before the widths, also where it stands later
row_broken_first : first_fault (unit_of (codes "export main; main() { return ((1 == 1) + y); }") ∷ []) ≡ broken Undeclared 0 1 42
unfolding opened
row_broken_first = refl

-- a constant without a value still has a width
row_width_of_broken_constant : first_fault (unit_of (codes "export main; main() { bits8 x; x = c; return (x); } const c = 1 / 0;") ∷ []) ≡ broken WidthsDiffer 0 1 36
unfolding opened
row_width_of_broken_constant = refl

-- 24: bits are wanted
row_condition_as_bits : first_fault (unit_of (codes "export main; main() { return (1 == 1); }") ∷ []) ≡ broken ConditionOrBitsWanted 0 1 31
unfolding opened
row_condition_as_bits = refl

-- 24: a condition is wanted
row_bits_as_condition : first_fault (unit_of (codes "export main; main() { if 1 { } return (0); }") ∷ []) ≡ broken ConditionOrBitsWanted 0 1 26
unfolding opened
row_bits_as_condition = refl

-- 24: by an operator
row_operand_of_not : first_fault (unit_of (codes "export main; main() { if %not(1) { } return (0); }") ∷ []) ≡ broken ConditionOrBitsWanted 0 1 31
unfolding opened
row_operand_of_not = refl

-- operators on conditions
row_conditions : first_fault (unit_of (codes "export main; main() { if %conjoin(1 == 1, %not(%disjoin(1 < 2, %lt(1, 2)))) { } return (0); }") ∷ []) ≡ None
unfolding opened
row_conditions = refl

-- 24: at the bracket
row_bracketed_condition : first_fault (unit_of (codes "export main; main() { return (1 + (1 == 1)); }") ∷ []) ≡ broken ConditionOrBitsWanted 0 1 35
unfolding opened
row_bracketed_condition = refl

-- 25: a typed literal
row_typed_literal : first_fault (unit_of (codes "export main; main() { return (256::bits8); }") ∷ []) ≡ broken LiteralDoesNotFit 0 1 31
unfolding opened
row_typed_literal = refl

-- the greatest that fits
row_typed_literal_fits : first_fault (unit_of (codes "export main; main() { return (255::bits8); }") ∷ []) ≡ None
unfolding opened
row_typed_literal_fits = refl

-- 25: a literal that takes a width
row_constant_literal : first_fault (unit_of (codes "const bits8 c = 256; export main; main() { return (0); }") ∷ []) ≡ broken LiteralDoesNotFit 0 1 17
unfolding opened
row_constant_literal = refl

-- 25: with a minus, at its number
row_negative_literal : first_fault (unit_of (codes "section \"data\" { bits8 { -255, -256 }; } export main; main() { return (0); }") ∷ []) ≡ broken LiteralDoesNotFit 0 1 33
unfolding opened
row_negative_literal = refl

-- 25: in an arm
row_arm_literal : first_fault (unit_of (codes "export main; main() { switch 1::bits8 { case 255, 256: { } } return (0); }") ∷ []) ≡ broken LiteralDoesNotFit 0 1 51
unfolding opened
row_arm_literal = refl

-- 25: in a switch's range
row_range_literal : first_fault (unit_of (codes "export main; main() { switch [0 .. 256] 1::bits8 { } return (0); }") ∷ []) ≡ broken LiteralDoesNotFit 0 1 36
unfolding opened
row_range_literal = refl

-- 26: at the operator
row_unknown_operator : first_fault (unit_of (codes "export main; main() { return (%foo(1)); }") ∷ []) ≡ broken UnknownOperator 0 1 31
unfolding opened
row_unknown_operator = refl

-- 21 of an operand comes before 26
row_unknown_operand : first_fault (unit_of (codes "export main; main() { return (%foo(y)); }") ∷ []) ≡ broken Undeclared 0 1 36
unfolding opened
row_unknown_operand = refl

-- 26: another number of operands
row_too_few_operands : first_fault (unit_of (codes "export main; main() { return (%add(1)); }") ∷ []) ≡ broken UnknownOperator 0 1 31
unfolding opened
row_too_few_operands = refl

-- 26: another number of operands
row_too_many_operands : first_fault (unit_of (codes "export main; main() { return (%neg(1, 2)); }") ∷ []) ≡ broken UnknownOperator 0 1 31
unfolding opened
row_too_many_operands = refl

-- 21 of the third operand comes before 26
row_three_operands : first_fault (unit_of (codes "export main; main() { return (%add(1, 2, y)); }") ∷ []) ≡ broken Undeclared 0 1 42
unfolding opened
row_three_operands = refl

-- operators by their names
row_named_operators : first_fault (unit_of (codes "export main; main() { return (%rotl(%add(1, 2,), %com(%quot(7, 2)))); }") ∷ []) ≡ None
unfolding opened
row_named_operators = refl

-- 26: a checked operator is no expression, so its operands come after it
row_unknown_checked : first_fault (unit_of (codes "export main; main() { bits64 x; x = %%foo(y, 1); return (0); }") ∷ []) ≡ broken UnknownOperator 0 1 37
unfolding opened
row_unknown_checked = refl

-- 26: only divisions are checked
row_sum_checked : first_fault (unit_of (codes "export main; main() { bits64 x; x = %%add(1, 2); return (0); }") ∷ []) ≡ broken UnknownOperator 0 1 37
unfolding opened
row_sum_checked = refl

-- each division is
row_checked : first_fault (unit_of (codes "export main; main() { bits64 x; x = %%modu(1, 0); x = %%quot(x, 2); return (x); }") ∷ []) ≡ None
unfolding opened
row_checked = refl

-- 27: an address is no compile-time constant
row_constant_of_procedure : first_fault (unit_of (codes "const c = main; export main; main() { return (0); }") ∷ []) ≡ broken NotAConstant 0 1 11
unfolding opened
row_constant_of_procedure = refl

-- 27: nor is a register
row_constant_of_register : first_fault (unit_of (codes "register bits64 n; section \"data\" { bits8[n]; } export main; main() { return (0); }") ∷ []) ≡ broken NotAConstant 0 1 43
unfolding opened
row_constant_of_register = refl

-- 27: nor what divides by 0
row_divides_by_zero : first_fault (unit_of (codes "const c = 1 + 1 / 0; export main; main() { return (0); }") ∷ []) ≡ broken NotAConstant 0 1 11
unfolding opened
row_divides_by_zero = refl

-- an address alone, or with a number added or taken, in brackets or by name
row_link_time : first_fault (unit_of (codes "section \"data\" { d: bits64 { d, d + 8, (d) - 8, %add(d, 1 + 1), main, 2 * 3 }; } export main; main() { return (0); }") ∷ []) ≡ None
unfolding opened
row_link_time = refl

-- 27: a number comes after the address
row_number_before_address : first_fault (unit_of (codes "section \"data\" { d: bits64 { 8 + d }; } export main; main() { return (0); }") ∷ []) ≡ broken NotAConstant 0 1 30
unfolding opened
row_number_before_address = refl

-- 27: and only once
row_two_sums : first_fault (unit_of (codes "section \"data\" { d: bits64 { d + 1 + 1 }; } export main; main() { return (0); }") ∷ []) ≡ broken NotAConstant 0 1 30
unfolding opened
row_two_sums = refl

-- 23: an address is bits64
row_address_in_bytes : first_fault (unit_of (codes "section \"data\" { d: bits8 { d }; } export main; main() { return (0); }") ∷ []) ≡ broken WidthsDiffer 0 1 29
unfolding opened
row_address_in_bytes = refl

-- 27: a name of the host is none; this is before 38 at the same place
row_host_in_constant : first_fault (unit_of (codes "section \"data\" { bits64 { yield }; } export main; main() { return (0); }") ∷ []) ≡ broken NotAConstant 0 1 27
unfolding opened
row_host_in_constant = refl

-- 27: nor is an import, whoever exports it
row_import_as_size : first_fault (unit_of (codes "section \"data\" { bits8[f]; } import f; export main; main() { return (0); }") ∷ []) ≡ broken NotAConstant 0 1 24
unfolding opened
row_import_as_size = refl

-- what depends on a broken constant breaks no rule
row_broken_constant : first_fault (unit_of (codes "section \"data\" { bits8[c] { 1 }; bits64 { c + 1 }; } const c = 1 / 0; export main; main() { return (0); }") ∷ []) ≡ broken NotAConstant 0 1 64
unfolding opened
row_broken_constant = refl

-- 27: a span's token
row_span_key : first_fault (unit_of (codes "export main; main() { bits64 x; span x 1 { } return (0); }") ∷ []) ≡ broken NotAConstant 0 1 38
unfolding opened
row_span_key = refl

-- a span's value may have any width and be an address
row_span_value : first_fault (unit_of (codes "section \"data\" { d: bits8; } export main; main() { span 1 2::bits8 { span 2 d + 1 { } } return (0); }") ∷ []) ≡ None
unfolding opened
row_span_value = refl

-- constants of constants, later ones too
row_char_constant : first_fault (unit_of (codes "const bits8 a = b; const b = %lobits8(c * 2 - 1); const c = 128; section \"data\" { bits8[c]; bits8 { a, 'x' }; } export main; main() { return (0); }") ∷ []) ≡ None
unfolding opened
row_char_constant = refl
