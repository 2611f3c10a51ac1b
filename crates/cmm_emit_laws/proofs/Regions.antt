-- The region of a setting, and where values travel in a region.
use Rattle.std.proofs.Common.{◌≡◌, ℕ, ◌+◌, ◌-◌, ◌*◌, ◌≤◌, ◌<◌, refl, arith, Bool, true, false}
use Rattle.std.specs.Prelude.{nat_lt}
use Rattle.std.proofs.lemmas.Bool.Decides.{nat_tests}
use Rattle.cmm_abi.specs.declared.registers.TheConstants.{FIRST_VALUE}
use Rattle.cmm_abi.specs.declared.values.TheConstants.{IN_REGISTERS}
use Rattle.cmm_abi.specs.Regions.{Place, InRegister, InMemory, value_place, word_at}
use Rattle.cmm_program.specs.State.{Setting, stack_top}
use Rattle.rv_table.specs.Machine.{MemoryMap, Region, State, bottom, loaded, top}
use Rattle.cmm_emit_laws.specs.Represented.{IsFor, stack_region}

-- ---- its stack is that of the setting

pub bottom_is : (s : Setting) (m : MemoryMap) → IsFor s m → bottom (stack_region s) ≡ s.stack_base
bottom_is s m is_for = omega (arith, is_for.lies.low)

pub top_is : (s : Setting) (m : MemoryMap) → IsFor s m → top (stack_region s) ≡ stack_top s
top_is s m is_for = omega (arith, is_for.lies.low)

-- ---- values

-- a value is the same where its register is, or its word of the argument area
pub value_same : (r : Region) (t t' : State) (i : ℕ) → (i < 8 → t'.registers (10 + i) ≡ t.registers (10 + i)) →
    (8 ≤ i → loaded t'.memory (r.address + 8 * (i - 8)) 8 ≡ loaded t.memory (r.address + 8 * (i - 8)) 8) → word_at t' (value_place r i) ≡ word_at t (value_place r i)
value_same r t t' i registers words = by (nat_lt i IN_REGISTERS) refl
  where
    by : (test : Bool) → nat_lt i IN_REGISTERS ≡ test →
        word_at t' (elim test as (λ _. Place) [ true ↦ InRegister (FIRST_VALUE + i) | false ↦ InMemory (r.address + 8 * (i - IN_REGISTERS)) ])
        ≡ word_at t (elim test as (λ _. Place) [ true ↦ InRegister (FIRST_VALUE + i) | false ↦ InMemory (r.address + 8 * (i - IN_REGISTERS)) ])
    by true is = registers (grind (arith, nat_tests, is))
    by false is = words (grind (arith, nat_tests, is))
