-- Worked rows: the fault that is named of units, from their text: limits, and which of several faults is named. Of a broken unit a row says rule, unit, line and column.
use Rattle.std.proofs.Common.{◌≡◌, refl, [], ◌∷◌, None}
use Rattle.std.specs.Prelude.{codes}
use Rattle.cmm_rules.specs.declared.rule.Rule.TheVariants.{BadHostCall, Limit, NoMain, Undeclared}
use Rattle.cmm_static_semantics.specs.Faults.{first_fault}
use Rattle.cmm_elaboration.proofs.RuleTexts.{opened, unit_of, broken}

-- 40: at the number
row_alignment_of_data : first_fault (unit_of (codes "section \"data\" { align 16; align 3; } export main; main() { return (0); }") ∷ []) ≡ broken Limit 0 1 34
unfolding opened
row_alignment_of_data = refl

-- 40: at the number
row_alignment_of_stackdata : first_fault (unit_of (codes "export main; main() { stackdata { align 32; bits8; } return (0); }") ∷ []) ≡ broken Limit 0 1 41
unfolding opened
row_alignment_of_stackdata = refl

-- 40: at the number
row_alignment_of_access : first_fault (unit_of (codes "export main; main() { return (bits8[1 aligned 0]); }") ∷ []) ≡ broken Limit 0 1 47
unfolding opened
row_alignment_of_access = refl

-- each that is accepted
row_alignments : first_fault (unit_of (codes "export main; main() { return (bits8[1 aligned 1] + bits8[1 align 2] + bits8[1 aligned 4] + bits8[1 aligned 8] + bits8[1 aligned 16]); }") ∷ []) ≡ None
unfolding opened
row_alignments = refl

-- 64 KiB of stackdata, padding counted
row_stackdata : first_fault (unit_of (codes "export main; main() { stackdata { bits8[65528]; bits64; } return (0); }") ∷ []) ≡ None
unfolding opened
row_stackdata = refl

-- 40: at the room that passes them, in a later block
row_too_much_stackdata : first_fault (unit_of (codes "export main; main() { stackdata { bits8[65529]; } if 1 == 1 { stackdata { l: bits64; } } return (0); }") ∷ []) ≡ broken Limit 0 1 78
unfolding opened
row_too_much_stackdata = refl

-- 40: at an alignment that passes them
row_padding_of_stackdata : first_fault (unit_of (codes "export main; main() { stackdata { bits8[65536]; align 16; bits8[0]; align 8; bits8; align 16; } return (0); }") ∷ []) ≡ broken Limit 0 1 78
unfolding opened
row_padding_of_stackdata = refl

-- 255 bytes of a name and of a kind
row_name : first_fault (unit_of (codes "export main; main() { \"kkkkkkkkkkkkkkkkkkkkkkkkkkkkkkkkkkkkkkkkkkkkkkkkkkkkkkkkkkkkkkkkkkkkkkkkkkkkkkkkkkkkkkkkkkkkkkkkkkkkkkkkkkkkkkkkkkkkkkkkkkkkkkkkkkkkkkkkkkkkkkkkkkkkkkkkkkkkkkkkkkkkkkkkkkkkkkkkkkkkkkkkkkkkkkkkkkkkkkkkkkkkkkkkkkkkkkkkkkkkkkkkkkkkkkkkkkkkkkkkkkkkkkkkkkkkkkk\" bits8 nnnnnnnnnnnnnnnnnnnnnnnnnnnnnnnnnnnnnnnnnnnnnnnnnnnnnnnnnnnnnnnnnnnnnnnnnnnnnnnnnnnnnnnnnnnnnnnnnnnnnnnnnnnnnnnnnnnnnnnnnnnnnnnnnnnnnnnnnnnnnnnnnnnnnnnnnnnnnnnnnnnnnnnnnnnnnnnnnnnnnnnnnnnnnnnnnnnnnnnnnnnnnnnnnnnnnnnnnnnnnnnnnnnnnnnnnnnnnnnnnnnnnnnnnnnnnnn; return (0); }") ∷ []) ≡ None
unfolding opened
row_name = refl

-- 40: a name of 256 bytes, where it is used too
row_long_name : first_fault (unit_of (codes "const nnnnnnnnnnnnnnnnnnnnnnnnnnnnnnnnnnnnnnnnnnnnnnnnnnnnnnnnnnnnnnnnnnnnnnnnnnnnnnnnnnnnnnnnnnnnnnnnnnnnnnnnnnnnnnnnnnnnnnnnnnnnnnnnnnnnnnnnnnnnnnnnnnnnnnnnnnnnnnnnnnnnnnnnnnnnnnnnnnnnnnnnnnnnnnnnnnnnnnnnnnnnnnnnnnnnnnnnnnnnnnnnnnnnnnnnnnnnnnnnnnnnnnnnnnnnnnnn = 1; export main; main() { return (0); }") ∷ []) ≡ broken Limit 0 1 7
unfolding opened
row_long_name = refl

-- 40: a kind
row_long_kind : first_fault (unit_of (codes "export main; main() { bits8 x; \"kkkkkkkkkkkkkkkkkkkkkkkkkkkkkkkkkkkkkkkkkkkkkkkkkkkkkkkkkkkkkkkkkkkkkkkkkkkkkkkkkkkkkkkkkkkkkkkkkkkkkkkkkkkkkkkkkkkkkkkkkkkkkkkkkkkkkkkkkkkkkkkkkkkkkkkkkkkkkkkkkkkkkkkkkkkkkkkkkkkkkkkkkkkkkkkkkkkkkkkkkkkkkkkkkkkkkkkkkkkkkkkkkkkkkkkkkkkkkkkkkkkkkkkkkkkkkkkk\" bits8 y; return (0); }") ∷ []) ≡ broken Limit 0 1 32
unfolding opened
row_long_kind = refl

-- 40: the text after `as` of an export; that of an import has no limit
row_long_link_name : first_fault (unit_of (codes "import \"nnnnnnnnnnnnnnnnnnnnnnnnnnnnnnnnnnnnnnnnnnnnnnnnnnnnnnnnnnnnnnnnnnnnnnnnnnnnnnnnnnnnnnnnnnnnnnnnnnnnnnnnnnnnnnnnnnnnnnnnnnnnnnnnnnnnnnnnnnnnnnnnnnnnnnnnnnnnnnnnnnnnnnnnnnnnnnnnnnnnnnnnnnnnnnnnnnnnnnnnnnnnnnnnnnnnnnnnnnnnnnnnnnnnnnnnnnnnnnnnnnnnnnnnnnnnnnnn\" as f; export main; main() { return (0); }") ∷ unit_of (codes "export g as \"nnnnnnnnnnnnnnnnnnnnnnnnnnnnnnnnnnnnnnnnnnnnnnnnnnnnnnnnnnnnnnnnnnnnnnnnnnnnnnnnnnnnnnnnnnnnnnnnnnnnnnnnnnnnnnnnnnnnnnnnnnnnnnnnnnnnnnnnnnnnnnnnnnnnnnnnnnnnnnnnnnnnnnnnnnnnnnnnnnnnnnnnnnnnnnnnnnnnnnnnnnnnnnnnnnnnnnnnnnnnnnnnnnnnnnnnnnnnnnnnnnnnnnnnnnnnnnnn\"; g() { return; }") ∷ []) ≡ broken Limit 1 1 13
unfolding opened
row_long_link_name = refl

-- 40: the 65th alternate exit of a site
row_alternate_exits : first_fault (unit_of (codes "export main; main() { main() also returns to k, k, k, k, k, k, k, k, k, k, k, k, k, k, k, k, k, k, k, k, k, k, k, k, k, k, k, k, k, k, k, k, k, k, k, k, k, k, k, k, k, k, k, k, k, k, k, k, k, k, k, k, k, k, k, k, k, k, k, k, k, k, k, k also cuts to k also returns to k; return (0); continuation k(): return (0); }") ∷ []) ≡ broken Limit 0 1 268
unfolding opened
row_alternate_exits = refl

-- 64 MiB of data
row_data : first_fault (unit_of (codes "section \"data\" { bits8[67108856]; bits64; } export main; main() { return (0); }") ∷ []) ≡ None
unfolding opened
row_data = refl

-- 40: over all units, at the beginning of the first
row_too_much_data : first_fault (unit_of (codes "export main; main() { return (0); }") ∷ unit_of (codes "section \"data\" { bits8[67108857]; bits64; }") ∷ []) ≡ broken Limit 0 1 1
unfolding opened
row_too_much_data = refl

-- 36 comes before it
row_main_before_sums : first_fault (unit_of (codes "section \"data\" { bits8[67108865]; }") ∷ []) ≡ broken NoMain 0 1 1
unfolding opened
row_main_before_sums = refl

-- and every other fault before 36
row_others_before_main : first_fault (unit_of (codes "") ∷ unit_of (codes "") ∷ unit_of (codes "f() { return (y); }") ∷ []) ≡ broken Undeclared 2 1 15
unfolding opened
row_others_before_main = refl

-- a place is a line and a column, in bytes
row_second_line : first_fault (unit_of (codes "export main; // a comment\nmain() {\n  return (y);\n}") ∷ []) ≡ broken Undeclared 0 3 11
unfolding opened
row_second_line = refl

-- the first place is named, whatever its rule
row_first_place : first_fault (unit_of (codes "export main; main() { bits8 x; cmm_getbyte(); x = 1; return (y); }") ∷ []) ≡ broken BadHostCall 0 1 32
unfolding opened
row_first_place = refl

-- and at one place the least rule: 21 before 38
row_least_rule : first_fault (unit_of (codes "export main; main() { foreign \"C\" y(1); return (0); }") ∷ []) ≡ broken Undeclared 0 1 35
unfolding opened
row_least_rule = refl
