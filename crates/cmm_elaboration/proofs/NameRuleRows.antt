-- Worked rows: the fault that is named of units, from their text: names, exports, imports and the target. Of a broken unit a row says rule, unit, line and column.
use Rattle.std.proofs.Common.{◌≡◌, refl, [], ◌∷◌, None}
use Rattle.std.specs.Prelude.{codes}
use Rattle.cmm_rules.specs.declared.rule.Rule.TheVariants.{Cycle, DeclaredTwice, ExportedTwice, NoMain, NotAVariable, NotExported, OtherTarget, Undeclared, WidthsDiffer}
use Rattle.cmm_static_semantics.specs.Faults.{first_fault}
use Rattle.cmm_elaboration.proofs.RuleTexts.{opened, unit_of, broken}

-- nothing is broken
row_accepted : first_fault (unit_of (codes "export main; main() { return (2 + 3); }") ∷ []) ≡ None
unfolding opened
row_accepted = refl

-- 20: the later name
row_variable_again : first_fault (unit_of (codes "export main; main() { bits64 x; bits8 x; return (x); }") ∷ []) ≡ broken DeclaredTwice 0 1 39
unfolding opened
row_variable_again = refl

-- 20: a unit has one space of names
row_unit_again : first_fault (unit_of (codes "typedef bits8 T; const T = 1; export main; main() { return (0); }") ∷ []) ≡ broken DeclaredTwice 0 1 24
unfolding opened
row_unit_again = refl

-- 20: a procedure has one space of names
row_label_again : first_fault (unit_of (codes "export main; main() { stackdata { a: bits8; } a: return (0); }") ∷ []) ≡ broken DeclaredTwice 0 1 47
unfolding opened
row_label_again = refl

-- a name of a procedure hides that of its unit
row_hides : first_fault (unit_of (codes "const x = 1; export main; main() { bits8 x; x = 2::bits8; return (x); }") ∷ []) ≡ None
unfolding opened
row_hides = refl

-- a name of the host may be imported as itself, once
row_host_import : first_fault (unit_of (codes "import yield; export main; main() { return (0); }") ∷ []) ≡ None
unfolding opened
row_host_import = refl

-- 20: and not a second time
row_host_import_again : first_fault (unit_of (codes "import yield, yield; export main; main() { return (0); }") ∷ []) ≡ broken DeclaredTwice 0 1 15
unfolding opened
row_host_import_again = refl

-- 20: nor be declared
row_host_declared : first_fault (unit_of (codes "yield() { return; } export main; main() { return (0); }") ∷ []) ≡ broken DeclaredTwice 0 1 1
unfolding opened
row_host_declared = refl

-- 20: nor stand for something else; this is before 34 at the same place
row_host_named : first_fault (unit_of (codes "import \"f\" as yield; export main; main() { return (0); }") ∷ []) ≡ broken DeclaredTwice 0 1 15
unfolding opened
row_host_named = refl

-- another name may stand for it
row_host_renamed : first_fault (unit_of (codes "import \"yield\" as y; export main; main() { y(1); return (0); }") ∷ []) ≡ None
unfolding opened
row_host_renamed = refl

-- 20 alone for a register that one unit declares twice
row_register_again : first_fault (unit_of (codes "register bits8 r; register bits16 r; export main; main() { return (0); }") ∷ []) ≡ broken DeclaredTwice 0 1 35
unfolding opened
row_register_again = refl

-- after a name that is declared again the first declaration counts
row_first_counts : first_fault (unit_of (codes "export main; main() { bits8 x; x = 2; bits64 x; return (0); }") ∷ []) ≡ broken WidthsDiffer 0 1 36
unfolding opened
row_first_counts = refl

-- 21: in an expression
row_undeclared : first_fault (unit_of (codes "export main; main() { return (y); }") ∷ []) ≡ broken Undeclared 0 1 31
unfolding opened
row_undeclared = refl

-- 21: as a callee
row_callee_undeclared : first_fault (unit_of (codes "export main; main() { g(); return (0); }") ∷ []) ≡ broken Undeclared 0 1 23
unfolding opened
row_callee_undeclared = refl

-- 21: as a type
row_type_undeclared : first_fault (unit_of (codes "export main; main() { T x; return (0); }") ∷ []) ≡ broken Undeclared 0 1 23
unfolding opened
row_type_undeclared = refl

-- 21: a constant is no type
row_constant_as_type : first_fault (unit_of (codes "const T = 1; export main; main() { T x; return (0); }") ∷ []) ≡ broken Undeclared 0 1 36
unfolding opened
row_constant_as_type = refl

-- 21: a typedef of the name of the host is none, wherever it stands; x has no width then
row_host_as_type : first_fault (unit_of (codes "typedef yield T; export main; main() { T x; x = 1; return (0); } typedef bits8 yield;") ∷ []) ≡ broken Undeclared 0 1 9
unfolding opened
row_host_as_type = refl

-- 21: to the left of `=`
row_target_undeclared : first_fault (unit_of (codes "export main; main() { x = 1; return (0); }") ∷ []) ≡ broken Undeclared 0 1 23
unfolding opened
row_target_undeclared = refl

-- 21: only procedures and data labels are exported
row_constant_exported : first_fault (unit_of (codes "const c = 1; export c; export main; main() { return (0); }") ∷ []) ≡ broken Undeclared 0 1 21
unfolding opened
row_constant_exported = refl

-- 21: a label of a statement has no value
row_label_as_value : first_fault (unit_of (codes "export main; main() { l: return (l); }") ∷ []) ≡ broken Undeclared 0 1 34
unfolding opened
row_label_as_value = refl

-- 21: a name of a procedure hides the typedef in its own formals
row_typedef_hidden : first_fault (unit_of (codes "typedef bits64 T; export main; main() { return (0); } f(T T) { return (T); }") ∷ []) ≡ broken Undeclared 0 1 57
unfolding opened
row_typedef_hidden = refl

-- every name that is a value
row_values : first_fault (unit_of (codes "section \"data\" { d: bits8; } register bits64 r; const c = 2; export main; main() { bits64 x; stackdata { s: bits8; } x = main + d + r + c + s + k; return (x); continuation k(): return (0); }") ∷ []) ≡ None
unfolding opened
row_values = refl

-- 22: a constant is no variable
row_constant_assigned : first_fault (unit_of (codes "const c = 1; export main; main() { c = 2; return (0); }") ∷ []) ≡ broken NotAVariable 0 1 36
unfolding opened
row_constant_assigned = refl

-- 22: nor is a name of the host
row_host_assigned : first_fault (unit_of (codes "export main; main() { yield = 2; return (0); }") ∷ []) ≡ broken NotAVariable 0 1 23
unfolding opened
row_host_assigned = refl

-- 22: a call's result
row_result_not_variable : first_fault (unit_of (codes "export main; main() { main = main(); return (0); }") ∷ []) ≡ broken NotAVariable 0 1 23
unfolding opened
row_result_not_variable = refl

-- a register is
row_register_assigned : first_fault (unit_of (codes "register bits64 r; export main; main() { r = 2; return (r); }") ∷ []) ≡ None
unfolding opened
row_register_assigned = refl

-- 34: at the name of the import
row_not_exported : first_fault (unit_of (codes "import \"g\" as f; export main; main() { jump f(); }") ∷ []) ≡ broken NotExported 0 1 15
unfolding opened
row_not_exported = refl

-- another unit exports it
row_exported : first_fault (unit_of (codes "import \"g\" as f; export main; main() { jump f(); }") ∷ unit_of (codes "export h as \"g\"; h() { return; }") ∷ []) ≡ None
unfolding opened
row_exported = refl

-- an export whose name is broken still counts
row_broken_export : first_fault (unit_of (codes "import f; export main; main() { jump f(); }") ∷ unit_of (codes "export f;") ∷ []) ≡ broken Undeclared 1 1 8
unfolding opened
row_broken_export = refl

-- the first unit's fault is named, wherever the other stands
row_units_in_order : first_fault (unit_of (codes "import f; export main; main() { jump f(); } import g;") ∷ unit_of (codes "export y; export f; f() { return; }") ∷ []) ≡ broken NotExported 0 1 52
unfolding opened
row_units_in_order = refl

-- 35: in one unit
row_exported_twice : first_fault (unit_of (codes "export f, f; f() { return; } export main; main() { return (0); }") ∷ []) ≡ broken ExportedTwice 0 1 11
unfolding opened
row_exported_twice = refl

-- 35: by a later unit, under another name
row_exported_by_two : first_fault (unit_of (codes "export main; main() { return (0); }") ∷ unit_of (codes "export f as \"main\"; f() { return; }") ∷ []) ≡ broken ExportedTwice 1 1 8
unfolding opened
row_exported_by_two = refl

-- 36: at the beginning of the first unit
row_no_main : first_fault (unit_of (codes "") ∷ []) ≡ broken NoMain 0 1 1
unfolding opened
row_no_main = refl

-- 36: it is exported, but has formals
row_main_with_formals : first_fault (unit_of (codes "export main; main(bits64 x) { return (x); }") ∷ []) ≡ broken NoMain 0 1 1
unfolding opened
row_main_with_formals = refl

-- 36: it is no procedure
row_main_is_data : first_fault (unit_of (codes "export main; section \"data\" { main: bits8; }") ∷ []) ≡ broken NoMain 0 1 1
unfolding opened
row_main_is_data = refl

-- a procedure of another name is exported as `main`
row_main_renamed : first_fault (unit_of (codes "export f as \"main\"; f() { return (0); }") ∷ []) ≡ None
unfolding opened
row_main_renamed = refl

-- 37: at the property's word
row_other_target : first_fault (unit_of (codes "target wordsize 64 memsize 4; export main; main() { return (0); }") ∷ []) ≡ broken OtherTarget 0 1 20
unfolding opened
row_other_target = refl

-- 37: at the property's word
row_big_endian : first_fault (unit_of (codes "target byteorder big; export main; main() { return (0); }") ∷ []) ≡ broken OtherTarget 0 1 8
unfolding opened
row_big_endian = refl

-- the machine's own properties
row_target : first_fault (unit_of (codes "target memsize 8 byteorder little pointersize 64 wordsize 64; export main; main() { return (0); }") ∷ []) ≡ None
unfolding opened
row_target = refl

-- a typedef may name a later one
row_later_typedef : first_fault (unit_of (codes "typedef T U; typedef bits8 T; export main; main() { U x; x = 1::bits8; return (x); }") ∷ []) ≡ None
unfolding opened
row_later_typedef = refl

-- 39: a cycle of two; what leads there has no fault of its own
row_typedef_cycle : first_fault (unit_of (codes "typedef T V; typedef U T; typedef T U; export main; main() { V x; x = 1; return (x); }") ∷ []) ≡ broken Cycle 0 1 24
unfolding opened
row_typedef_cycle = refl

-- 39: of constants, of which the first is named
row_constant_cycle : first_fault (unit_of (codes "const a = 1 + b; const b = a; export main; main() { return (0); }") ∷ []) ≡ broken Cycle 0 1 7
unfolding opened
row_constant_cycle = refl

-- 39: what depends on it breaks no rule
row_constant_of_itself : first_fault (unit_of (codes "section \"data\" { bits8[c] { 1, 2 }; } const c = c; export main; main() { return (0); }") ∷ []) ≡ broken Cycle 0 1 45
unfolding opened
row_constant_of_itself = refl

-- 39: also where constants have types; their widths are known
row_typed_cycle : first_fault (unit_of (codes "export main; main() { bits64 x; x = a; return (x); } const bits8 a = b; const bits8 b = a;") ∷ []) ≡ broken WidthsDiffer 0 1 37
unfolding opened
row_typed_cycle = refl
