-- Worked rows, by computing: words and their bytes, and a run of straight code with a loop.
use Rattle.std.proofs.Common.{◌≡◌, ℕ, refl, pos, negsuc}
use Rattle.std.specs.Prelude.{List, [], ◌∷◌, Some, None}
use Rattle.std.specs.Int.{w32, to_le_bytes}
use Rattle.rv_table.specs.declared.instruction.Instr.{Instr}
use Rattle.rv_table.specs.declared.instruction.Instr.TheVariants.{Addi, Jalr, Sd, Beq, Mul, Jal, Lui, Bne, Add, Ecall, Ld}
use Rattle.rv_table.specs.declared.request.Request.TheVariants.{End}
use Rattle.rv_table.specs.declared.memory_map.TheConstants.{CODE_LENGTH_LIMIT, DATA_LENGTH_LIMIT, GLOBALS_OFFSET, STACK_SIZE_LIMIT}
use Rattle.rv_table.specs.Decoding.{instr_of}
use Rattle.rv_table.specs.Machine.{MemoryMap, Region, Outcome, Asks, code_base, data_base, region_base, stack_base, steps, start, instruction_step}
use Rattle.rv_table.specs.Stands.{code_of}
use Rattle.rv_table.specs.Table.{word_of}

-- ---- words and their bytes
addi : word_of (Addi 5 0 (pos 3)) ≡ 0x00300293
addi = refl

jalr : to_le_bytes w32 (word_of (Jalr 0 1 (pos 8))) ≡ 0x67 ∷ 0x80 ∷ 0x80 ∷ 0x00 ∷ []
jalr = refl

sd : to_le_bytes w32 (word_of (Sd 2 1 (pos 8))) ≡ 0x23 ∷ 0x34 ∷ 0x11 ∷ 0x00 ∷ []
sd = refl

beq : word_of (Beq 10 0 (pos 16)) ≡ 0x00050863
beq = refl

mul : word_of (Mul 10 10 11) ≡ 0x02b50533
mul = refl

jal : word_of (Jal 0 (negsuc 3)) ≡ 0xffdff06f
jal = refl

lui : word_of (Lui 6 (pos 0x60001)) ≡ 0x60001337
lui = refl

-- ---- words that are no instruction
zeros : instr_of 0x00000000 ≡ None
zeros = refl

fence : instr_of 0x0000000f ≡ None
fence = refl

-- ---- where everything lies
code : (code_base ≡ 0x10000) × (CODE_LENGTH_LIMIT ≡ 0x3fff0000)
code = (refl, refl)

static_data : (data_base ≡ 0x40000000) × (DATA_LENGTH_LIMIT ≡ 67_108_864)
static_data = (refl, refl)

region : (region_base ≡ 0x60000000) × (GLOBALS_OFFSET ≡ 448)
region = (refl, refl)

stack : (stack_base ≡ 0x60001000) × (STACK_SIZE_LIMIT ≡ 268_435_456)
stack = (refl, refl)

-- ---- a run: the sum of 100 down to 1 by a loop, left on the stack, loaded back and given as the result
summing : List Instr
summing =
    Addi 10 0 (pos 0)
    ∷ Addi 11 0 (pos 100)
    ∷ Add 10 10 11
    ∷ Addi 11 11 (negsuc 0)
    ∷ Bne 11 0 (negsuc 7)
    ∷ Sd 2 10 (negsuc 15)
    ∷ Ld 10 2 (negsuc 15)
    ∷ Addi 5 0 (pos 5)
    ∷ Ecall
    ∷ []

map : MemoryMap
map = record { code = code_of summing; data_length = 0; region_length = 8192 }

stack_region : Region
stack_region = record { address = region_base; stack_size = 4096 }

-- what stands after n instructions
after : ℕ → Outcome
after n = elim (steps map n (start stack_region (λ _. 0))) [ Some s ↦ instruction_step map s | None ↦ Asks (End 0) ]

runs : after 305 ≡ Asks (End 5050)
unfolding after map stack_region summing
runs = refl
