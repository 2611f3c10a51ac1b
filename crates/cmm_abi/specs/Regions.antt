-- The region of a thread, and where values lie in registers and regions.
use Rattle.std.specs.Prelude.{ℕ, zero, suc, ◌+◌, ◌-◌, ◌*◌, nat_lt, true, false, List, [], ◌∷◌}
use Rattle.cmm_abi.specs.declared.registers.TheConstants.{FIRST_VALUE}
use Rattle.cmm_abi.specs.declared.values.TheConstants.{IN_REGISTERS}
use Rattle.rv_table.specs.declared.memory_map.TheConstants.{GLOBALS_OFFSET}
use Rattle.rv_table.specs.Machine.{State, loaded, stored}
pub use Rattle.rv_table.specs.Machine.{Region, bottom, top, LiesIn}
use Rattle.rv_table.specs.Registers.{with_register}

-- the 8 bytes that a word is kept in
pub data Place : Type 0 where
  -- those of the register of this number
  InRegister : ℕ → Place
  -- those from this address on
  InMemory : ℕ → Place

abbrev pub word_at : State → Place → ℕ
word_at s (InRegister n) = s.registers n
word_at s (InMemory address) = loaded s.memory address 8

abbrev pub with_word : Place → ℕ → State → State
with_word (InRegister n) value s = record s { registers = with_register s.registers n value }
with_word (InMemory address) value s = record s { memory = stored s.memory address 8 value }

-- ---- the global registers

-- the address of the global register of this number
abbrev pub global_address : Region → ℕ → ℕ
global_address r k = r.address + GLOBALS_OFFSET + 8 * k

-- ---- the values of a call, return, cut or yield

-- the first eight travel in registers 10 to 17, and the others in the argument area
abbrev pub value_place : Region → ℕ → Place
value_place r k =
    elim (nat_lt k IN_REGISTERS) [ true ↦ InRegister (FIRST_VALUE + k) | false ↦ InMemory (r.address + 8 * (k - IN_REGISTERS)) ]

-- n values, from the one of this number on
abbrev pub values_from : Region → State → ℕ → ℕ → List ℕ
values_from r s k zero = []
values_from r s k (suc count) = word_at s (value_place r k) ∷ values_from r s (suc k) count

abbrev pub values_in : Region → State → ℕ → List ℕ
values_in r s count = values_from r s 0 count

-- once values are in their places, from that of the value of this number on
abbrev pub with_values_from : Region → ℕ → List ℕ → State → State
with_values_from r k [] s = s
with_values_from r k (v ∷ vs) s = with_values_from r (suc k) vs (with_word (value_place r k) v s)

abbrev pub with_values : Region → List ℕ → State → State
with_values r values s = with_values_from r 0 values s
