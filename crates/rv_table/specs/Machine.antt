-- A machine that runs instructions: registers, pc and memory by regions, and what one instruction does to them.
use Rattle.std.specs.Prelude.{ℕ, zero, suc, ◌+◌, ◌*◌, ◌%◌, ◌==◌, Bool, true, false, Option, Some, None}
use Rattle.rv_table.specs.declared.effects.Effect.{Effect}
use Rattle.rv_table.specs.declared.effects.Effect.TheVariants.{Set, Jump, Branch, Load, Store, Ask, Break}
use Rattle.rv_table.specs.declared.instruction.Instr.{Instr}
use Rattle.rv_table.specs.declared.registers.TheConstants.{FRAME, REGION}
use Rattle.rv_table.specs.declared.request.Request.{Request}
use Rattle.rv_table.specs.declared.trap.TrapKind.{TrapKind}
use Rattle.rv_table.specs.declared.trap.TrapKind.TheVariants.{NoInstruction, BadTarget, BadLoad, BadStore, Breakpoint, NoRequest}
use Rattle.rv_table.specs.Decoding.{instr_of}
pub use Rattle.rv_table.specs.Memory.{MemoryMap, Region, bottom, top, LiesIn, code_base, data_base, region_base, stack_base, is_fetchable, fetched, is_accessible, loaded, stored}
use Rattle.rv_table.specs.Registers.{with_register}
pub use Rattle.rv_table.specs.Requests.{request_of}
use Rattle.rv_table.specs.Row.{row}
use Rattle.rv_table.specs.Words.{sign_extended}

pub record State : Type 0 where
  pub registers : ℕ → ℕ
  pub pc : ℕ
  -- the byte at each address of data and region
  pub memory : ℕ → ℕ

-- what comes of one instruction: the next state; a request, which is answered above, or a trap, which both leave the state as it was
pub data Outcome : Type 0 where
  Next : State → Outcome
  Asks : Request → Outcome
  Traps : TrapKind → Outcome

-- the state once a register has its value and control goes on
abbrev pub with_set : State → ℕ → ℕ → State
with_set s rd value =
    record { registers = with_register s.registers rd value; pc = s.pc + 4; memory = s.memory }

-- the state once a register has the link and control is at the target
abbrev pub with_jump : State → ℕ → ℕ → ℕ → State
with_jump s rd link target =
    record { registers = with_register s.registers rd link; pc = target; memory = s.memory }

-- the state once the low bytes of a number are written and control goes on
abbrev pub with_store : State → ℕ → ℕ → ℕ → State
with_store s address size value =
    record { registers = s.registers; pc = s.pc + 4; memory = stored s.memory address size value }

-- the register gets the link, and control goes to the target if it is aligned
abbrev pub goes_to : State → ℕ → ℕ → ℕ → Outcome
goes_to s rd link target =
    elim (target % 4 == 0) [ true ↦ Next (with_jump s rd link target) | false ↦ Traps BadTarget ]

-- what is read, sign-extended or zero-extended
abbrev pub extended : Bool → ℕ → ℕ → ℕ
extended signed size value = elim signed [ true ↦ sign_extended (8 * size) value | false ↦ value ]

-- an effect is done, or it traps
abbrev pub done : MemoryMap → State → Effect → Outcome
done m s (Set rd value) = Next (with_set s rd value)
done m s (Jump rd link target) = goes_to s rd link target
done m s (Branch taken target) = elim taken [ true ↦ goes_to s 0 0 target | false ↦ Next (with_set s 0 0) ]
done m s (Load rd address size signed) =
    elim (is_accessible m address size) [
      | true ↦ Next (with_set s rd (extended signed size (loaded s.memory address size)))
      | false ↦ Traps BadLoad
    ]
done m s (Store address size value) =
    elim (is_accessible m address size) [ true ↦ Next (with_store s address size value) | false ↦ Traps BadStore ]
done m s Ask = elim (request_of s.registers) [ Some r ↦ Asks r | None ↦ Traps NoRequest ]
done m s Break = Traps Breakpoint

-- one instruction: its word is fetched, it is decoded, and its row's effect is done
abbrev pub decoded_step : MemoryMap → State → Option Instr → Outcome
decoded_step m s None = Traps NoInstruction
decoded_step m s (Some i) = done m s (row s.registers s.pc i)

abbrev pub fetched_step : MemoryMap → State → Option ℕ → Outcome
fetched_step m s None = Traps BadTarget
fetched_step m s (Some word) = decoded_step m s (instr_of word)

abbrev pub instruction_step : MemoryMap → State → Outcome
instruction_step m s = fetched_step m s (fetched m.code s.pc)

-- goes on from the next state, if there is one
abbrev pub and_then : Outcome → (State → Option State) → Option State
and_then (Next s) go = go s
and_then (Asks _) go = None
and_then (Traps _) go = None

-- the state after n instructions, none of which asks or traps
abbrev pub steps : MemoryMap → ℕ → State → Option State
steps m zero s = Some s
steps m (suc n) s = and_then (instruction_step m s) (steps m n)

-- where a run begins: pc at the code, and registers with the top of the region's stack and the region's address
abbrev pub start : Region → (ℕ → ℕ) → State
start r memory = record {
  registers = with_register (with_register (λ _. 0) FRAME (top r)) REGION r.address;
  pc = code_base;
  memory = memory;
}
