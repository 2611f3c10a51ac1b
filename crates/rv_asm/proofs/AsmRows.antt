-- Worked rows, by computing: the bytes of a small program with every part, as the GNU assembler and linker make them, and its runs.
use Rattle.std.proofs.Common.{◌≡◌, ℕ, refl, arith, inl, negsuc, pos}
use Rattle.std.specs.Prelude.{List, [], ◌∷◌, ◌++◌, replicate, Option, Some, None, true, false, ◌==◌}
use Rattle.std.specs.Int.{w32, to_le_bytes}
use Rattle.std.specs.List.{All, flat_map}
use Rattle.std.proofs.lemmas.List.Elements.{All-from_recursion}
use Rattle.cmm_words.specs.declared.operators.Cmp.TheVariants.{Eq, Ne}
use Rattle.rv_table.specs.declared.instruction.Instr.TheVariants.{Addi}
use Rattle.rv_table.specs.Machine.{MemoryMap, State, steps}
use Rattle.rv_table.specs.Registers.{with_register}
use Rattle.rv_table.specs.Stands.{code_of}
use Rattle.rv_asm.specs.Appending.{AddsWords, IsBehind}
use Rattle.rv_asm.specs.Filling.{IsReached, filled}
use Rattle.rv_asm.specs.Finishing.{Contains, GoesToCode, fix_symbols, symbols_of}
use Rattle.rv_asm.specs.Reach.{begins_at, end_at}
use Rattle.rv_asm.specs.inside.Forms.{code_by, fixes_of, unfilled}
use Rattle.rv_asm.specs.declared.filling.CodeFix.{CodeFix}
use Rattle.rv_asm.specs.declared.part.Label.{Label}
use Rattle.rv_asm.specs.declared.part.Meaning.{Meaning}
use Rattle.rv_asm.specs.declared.part.Meaning.TheVariants.{Inner, Outer}
use Rattle.rv_asm.specs.declared.part.Part.{Part}
use Rattle.rv_asm.specs.declared.part.Part.TheVariants.{Single, Place, Branch, Jump, Call, Address, Table}

-- ---- a program: two places, a symbol that is called and whose value is taken as well, and one whose value is taken alone
abbrev label : ℕ → Label
label n = record { number = n }

abbrev labels : List Meaning
labels = Inner true ∷ Outer 7 true ∷ Outer 3 false ∷ Inner true ∷ []

abbrev parts : List Part
parts =
    Place (label 0)
    ∷ Single (Addi 10 10 (negsuc 0))
    ∷ Branch Ne 10 0 (label 0)
    ∷ Call (label 1)
    ∷ Address 5 (label 2)
    ∷ Address 28 (label 1)
    ∷ Table (label 0 ∷ label 3 ∷ [])
    ∷ Place (label 3)
    ∷ Jump (label 3)
    ∷ []

abbrev places : List ℕ
places = 0x10000 ∷ 0 ∷ 0 ∷ 0x1003c ∷ []

abbrev value : ℕ → ℕ
value symbol = elim (symbol == 7) [ true ↦ 0x11900 | false ↦ 0x1a8 ]

abbrev words : List ℕ → List ℕ
words ws = flat_map (to_le_bytes w32) ws

-- the second place is behind the table, with the word of the jump behind it; and the table has three words
behind_table : IsBehind (label 3) 1 parts
behind_table = record {
  front = Place (label 0) ∷ Single (Addi 10 10 (negsuc 0)) ∷ Branch Ne 10 0 (label 0) ∷ Call (label 1) ∷ Address 5 (label 2) ∷ Address 28 (label 1) ∷ [];
  part = Table (label 0 ∷ label 3 ∷ []);
  back = Jump (label 3) ∷ [];
  is = refl;
  long = omega arith;
  room = omega arith;
}

table_words : AddsWords 3 (Call (label 1) ∷ []) (Call (label 1) ∷ Table (label 0 ∷ label 3 ∷ []) ∷ [])
table_words = record { parts = Table (label 0 ∷ label 3 ∷ []) ∷ []; added = refl; room = omega arith }

-- ---- its bytes
abbrev bytes : List ℕ
bytes = words
    (0xfff50513 ∷ 0xfe051ee3 ∷ 0x00000097 ∷ 0x000080e7 ∷ 0x000002b7 ∷ 0x00028293 ∷ 0x00000e37 ∷ 0x000e0e13 ∷ 0x00c0006f ∷ 0x0100006f
    ∷ 0x0140006f ∷ 0x00000317 ∷ 0xfd430067 ∷ 0x00000317 ∷ 0x00830067 ∷ 0x0000006f ∷ [])

made : code_of (code_by labels places unfilled 0x10000 parts) ≡ bytes
made = refl

abbrev fixes : List CodeFix
fixes =
    record { place = 8; symbol = 7; relative = true }
    ∷ record { place = 16; symbol = 3; relative = false }
    ∷ record { place = 24; symbol = 7; relative = false }
    ∷ []

fixed : fixes_of labels places 0x10000 0 parts ≡ fixes
fixed = refl

symbols : (fix_symbols fixes ≡ symbols_of labels parts) × (symbols_of labels parts ≡ (7, true) ∷ (3, false) ∷ (7, false) ∷ [])
symbols = (refl, refl)

-- ---- once the symbols have their numbers
abbrev code : List ℕ
code = words
    (0xfff50513 ∷ 0xfe051ee3 ∷ 0x00002097 ∷ 0x8f8080e7 ∷ 0x000002b7 ∷ 0x1a828293 ∷ 0x00012e37 ∷ 0x900e0e13 ∷ 0x00c0006f ∷ 0x0100006f
    ∷ 0x0140006f ∷ 0x00000317 ∷ 0xfd430067 ∷ 0x00000317 ∷ 0x00830067 ∷ 0x0000006f ∷ [])

given : filled value 0x10000 fixes bytes ≡ code
given = refl

-- what code that runs as the parts has to be can be met
abbrev map : MemoryMap
map = record { code = code; data_length = 0; region_length = 8192 }

reached : All (IsReached value 0x10000) fixes
reached =
    All-from_recursion (IsReached value 0x10000) fixes ((omega arith, inl (omega arith)), ((omega arith, inl (omega arith)), ((omega arith, inl (omega arith)), tt)))

called : All (GoesToCode labels value) parts
called = All-from_recursion (GoesToCode labels value) parts (tt, (tt, (tt, (refl, (tt, (tt, (tt, (tt, (tt, tt)))))))))

contained : Contains map 0x10000 (filled value 0x10000 fixes bytes)
contained = record { front = []; back = []; whole = refl; place = refl }

-- ---- runs of it
abbrev from : ℕ → ℕ → State
from address count = record { registers = with_register (λ k. 0) 10 count; pc = address; memory = λ a. 0 }

abbrev comes_to : Option State → Option ℕ
comes_to (Some t) = Some t.pc
comes_to None = None

-- the branch, taken and not taken
branches : (comes_to (steps map 2 (from 0x10000 2)) ≡ Some 0x10000) × (comes_to (steps map 2 (from 0x10000 1)) ≡ Some 0x10008)
branches = (refl, refl)

-- the call, and the address of what it calls
calls : comes_to (steps map 2 (from 0x10008 0)) ≡ Some 0x11900
calls = refl

abbrev has : Option State → ℕ → Option ℕ
has (Some t) k = Some (t.registers k)
has None k = None

addresses : (has (steps map 2 (from 0x10010 0)) 5 ≡ Some 0x1a8) × (has (steps map 2 (from 0x10018 0)) 28 ≡ Some 0x11900)
addresses = (refl, refl)

-- the words of the table, and the place after them
goes : (comes_to (steps map 3 (from 0x10020 0)) ≡ Some 0x10000) × (comes_to (steps map 3 (from 0x10024 0)) ≡ Some 0x1003c)
    × (comes_to (steps map 1 (from 0x10028 0)) ≡ Some 0x1003c)
goes = (refl, refl, refl)

-- ---- reach: a branch over k instructions to a label ahead, and one back over them
abbrev ahead : ℕ → List Part
ahead k = Branch Eq 10 11 (label 0) ∷ (replicate k (Single (Addi 0 0 (pos 0))) ++ Place (label 0) ∷ [])

abbrev back : ℕ → List Part
back k = Place (label 0) ∷ (replicate k (Single (Addi 0 0 (pos 0))) ++ Branch Eq 10 11 (label 0) ∷ [])

abbrev one_label : List Meaning
one_label = Inner true ∷ []

last_in_reach : (end_at one_label (4092 ∷ []) 0 (ahead 1022) ≡ 4092) × (end_at one_label (0 ∷ []) 0 (back 1024) ≡ 4100)
last_in_reach = (refl, refl)

first_out_of_reach : (end_at one_label (4104 ∷ []) 0 (ahead 1023) ≡ 4104) × (end_at one_label (0 ∷ []) 0 (back 1025) ≡ 4112)
first_out_of_reach = (refl, refl)

-- a branch whose label would be 4,088 bytes ahead, were the branch behind it one word too; that one is three, and so are both
abbrev tipped : List Part
tipped =
    Branch Eq 10 11 (label 0)
    ∷ Branch Eq 10 11 (label 1)
    ∷ (replicate 1020 (Single (Addi 0 0 (pos 0))) ++ Place (label 0) ∷ (replicate 1024 (Single (Addi 0 0 (pos 0))) ++ Place (label 1) ∷ []))

abbrev two_labels : List Meaning
two_labels = Inner true ∷ Inner true ∷ []

both_grow : (begins_at two_labels (4104 ∷ 8200 ∷ []) 0 tipped 1 ≡ 12) × (begins_at two_labels (4104 ∷ 8200 ∷ []) 0 tipped 2 ≡ 24)
    × (begins_at two_labels (4104 ∷ 8200 ∷ []) 0 tipped 1022 ≡ 4104) × (end_at two_labels (4104 ∷ 8200 ∷ []) 0 tipped ≡ 8200)
both_grow = (refl, refl, refl, refl)
