-- Memory: the code, which is only fetched, the data, and behind it the regions of argument area, global registers and stack.
use Rattle.std.specs.Prelude.{◌≡◌, ℕ, zero, suc, ◌+◌, ◌-◌, ◌*◌, ◌/◌, ◌%◌, ◌^◌, ◌<◌, ◌≤◌, ◌==◌, nat_lt, nat_le, Bool, true, false, ◌&&◌, ◌||◌, List, length, take, drop, Option, Some, None}
use Rattle.std.specs.Int.{w32, from_le_bytes}
use Rattle.rv_table.specs.declared.memory_map.TheConstants.{CODE_BASE, DATA_BASE, REGION_BASE, BELOW_STACK, STACK_BASE}

-- what stays as it is in a run: the bytes of the code, and the lengths of the data and of all that lies from `region_base` on
pub record MemoryMap : Type 0 where
  pub code : List ℕ
  pub data_length : ℕ
  pub region_length : ℕ

-- the region of a thread: the argument area from its address on, the global registers, and then the stack of this size
pub record Region : Type 0 where
  pub address : ℕ
  pub stack_size : ℕ

-- the lowest address of the stack
abbrev pub bottom : Region → ℕ
bottom r = r.address + BELOW_STACK

-- where the frame of the oldest activation ends
abbrev pub top : Region → ℕ
top r = bottom r + r.stack_size

abbrev pub code_base : ℕ
code_base = CODE_BASE

abbrev pub data_base : ℕ
data_base = DATA_BASE

-- where the first region begins
abbrev pub region_base : ℕ
region_base = REGION_BASE

-- the bottom of its stack
abbrev pub stack_base : ℕ
stack_base = STACK_BASE

-- A region lies in a memory: behind the data and within what can be accessed, so that its words are aligned and their addresses have
-- 64 bits.
pub record LiesIn (r : Region) (m : MemoryMap) : Type 0 where
  pub low : region_base ≤ r.address
  pub high : top r ≤ region_base + m.region_length
  pub narrow : top r < 2 ^ 64
  pub aligned : r.address % 8 ≡ 0

-- an address is aligned, and a word from there on lies in the code
abbrev pub is_fetchable : List ℕ → ℕ → Bool
is_fetchable code pc = (pc % 4 == 0) && (nat_le code_base pc && nat_le (pc + 4) (code_base + length code))

-- the word that is fetched at an address
abbrev pub fetched : List ℕ → ℕ → Option ℕ
fetched code pc =
    elim (is_fetchable code pc) [
      | true ↦ Some (from_le_bytes w32 (take 4 (drop (pc - code_base) code)))
      | false ↦ None
    ]

-- a load or a store of n bytes is aligned, and lies wholly in the data or wholly in what is from `region_base` on
abbrev pub is_accessible : MemoryMap → ℕ → ℕ → Bool
is_accessible m address size =
    (address % size == 0)
    && ((nat_le data_base address && nat_le (address + size) (data_base + m.data_length))
    || (nat_le region_base address && nat_le (address + size) (region_base + m.region_length)))

-- the number whose bytes stand from an address on, the lowest first
abbrev pub loaded : (ℕ → ℕ) → ℕ → ℕ → ℕ
loaded memory address zero = 0
loaded memory address (suc size) = memory address + 256 * loaded memory (address + 1) size

-- the memory once the low bytes of a number are written from an address on, the lowest first
abbrev pub stored : (ℕ → ℕ) → ℕ → ℕ → ℕ → ℕ → ℕ
stored memory address size value at =
    elim (nat_le address at && nat_lt at (address + size))
    [ true ↦ value / 2 ^ (8 * (at - address)) % 256 | false ↦ memory at ]
