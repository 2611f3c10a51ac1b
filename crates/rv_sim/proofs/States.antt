-- States after the parts of a step.
use Rattle.std.proofs.Common.{◌≡◌, ℕ, ◌%◌, refl, sym, ap, ◌∙◌, arith, rules}
use Rattle.std.proofs.lemmas.Bool.Decides.{nat_tests}
use Rattle.std.specs.Prelude.{◌==◌, Bool, true, false, IsTrue, IsFalse, List, Option, Some, None, Result, Ok, Err}
use Rattle.std.specs.Option.{ok_or, option_and_then}
use Rattle.rv_memory.specs.Regions.{Regions, map_of, memory_of}
use Rattle.rv_table.specs.declared.effects.Effect.{Effect}
use Rattle.rv_table.specs.declared.instruction.Instr.{Instr}
use Rattle.rv_table.specs.Row.{row}
use Rattle.rv_table.specs.declared.effects.Effect.TheVariants.{Load, Store}
use Rattle.rv_table.specs.declared.registers.Regs.{Regs}
use Rattle.rv_table.specs.declared.trap.TrapKind.{TrapKind}
use Rattle.rv_table.specs.declared.trap.TrapKind.TheVariants.{NoInstruction, BadTarget}
use Rattle.rv_table.specs.Decoding.{instr_of}
use Rattle.rv_table.specs.Machine.{MemoryMap, State, Traps, fetched, instruction_step, decoded_step, fetched_step, done, extended, goes_to, is_accessible, loaded, stored, with_set}
use Rattle.rv_table.specs.Stands.{standing}
use Rattle.rv_table.proofs.Shared.{instruction_step-standing}
use Rattle.rv_sim.specs.Standing.{found_at}
use Rattle.rv_table.specs.Registers.{with_register}
use Rattle.rv_sim.specs.Stepping.{state_of, state_with, state_after}
use Rattle.rv_sim.specs.inside.Answering.{found_step}

-- the state of equal registers and pc
pub state-same : (x y : ℕ → ℕ) (pc at : ℕ) (memory : ℕ → ℕ) → x ≡ y → pc ≡ at →
    ◌≡◌ {A = State} (record { registers = x; pc = pc; memory = memory }) (record { registers = y; pc = at; memory = memory })
state-same x y pc at memory registers here = rw (registers, here) refl

-- a jump to a multiple of 4 goes there
pub jumped : (s : State) (x : ℕ → ℕ) (rd link target : ℕ) → target % 4 ≡ 0 → x ≡ with_register s.registers rd link →
    ◌≡◌ {A = State} (record { registers = x; pc = target; memory = s.memory }) (state_after s (goes_to s rd link target))
jumped s x rd link target aligned written =
    let a : (target % 4 == 0) ≡ true = grind (arith, nat_tests) in
    rw (goes_to, a, written) refl

-- what was done was not refused
pub not_refused : {T : Type 0} (test : Bool) (result : Result T TrapKind) (u : T) (kind : TrapKind) → result ≡ Ok u → (IsFalse test → result ≡ Err kind) → IsTrue test
not_refused true result u kind was refused = refl
not_refused false result u kind was refused =
    let e : result ≡ Err kind = refused refl in
    absurd (search rules)

-- a store that wasn't refused leads on with what it wrote
pub store_done : (m n : Regions) (r q : Regs) (address size value : ℕ) → IsTrue (is_accessible (map_of m) address size) →
    memory_of n ≡ stored (memory_of m) address size value →
    state_of q n ≡ with_set (state_with r (memory_of n)) 0 0 →
    state_of q n ≡ state_after (state_of r m) (done (map_of m) (state_of r m) (Store address size value))
store_done m n r q address size value h wrote on =
    rw (done, h) (on ∙ ap (λ (memory : ℕ → ℕ). with_set (state_with r memory) 0 0) wrote)

-- a load that wasn't refused gives what stood there
pub load_done : (m : Regions) (r q : Regs) (rd address size value gives : ℕ) (signed : Bool) →
    IsTrue (is_accessible (map_of m) address size) →
    ◌≡◌ {A = Result ℕ TrapKind} (Ok value) (Ok (loaded (memory_of m) address size)) → gives ≡ extended signed size value →
    state_of q m ≡ with_set (state_of r m) rd gives →
    state_of q m ≡ state_after (state_of r m) (done (map_of m) (state_of r m) (Load rd address size signed))
load_done m r q rd address size value gives signed h read extends on =
    let same : value ≡ loaded (memory_of m) address size = cc in
    rw (done, h) (on ∙ ap (λ (n : ℕ). with_set (state_of r m) rd n) (extends ∙ ap (λ (n : ℕ). extended signed size n) same))

-- ---- the instruction that is found

by_word : (m : MemoryMap) (s : State) (o : Option Instr) → decoded_step m s o ≡ found_step m s (ok_or o NoInstruction)
by_word m s None = refl
by_word m s (Some i) = refl

by_fetched : (m : MemoryMap) (s : State) (o : Option ℕ) →
    fetched_step m s o ≡ found_step m s (elim o [ Some word ↦ ok_or (instr_of word) NoInstruction | None ↦ Err BadTarget ])
by_fetched m s (Some word) = by_word m s (instr_of word)
by_fetched m s None = refl

-- a step does what is found at pc
pub found_is : (m : MemoryMap) (s : State) → instruction_step m s ≡ found_step m s (found_at m.code s.pc)
found_is m s = by_fetched m s (fetched m.code s.pc)

-- the step where no instruction was found
pub step_missing : (m : MemoryMap) (s : State) (kind : TrapKind) → found_at m.code s.pc ≡ Err kind → instruction_step m s ≡ Traps kind
step_missing m s kind was = found_is m s ∙ ap (found_step m s) was

-- the step where one stands, by its effect
pub step_standing : (m : MemoryMap) (s : State) (i : Instr) (effect : Effect) → standing m.code s.pc ≡ Some i → effect ≡ row s.registers s.pc i →
    instruction_step m s ≡ done m s effect
step_standing m s i effect stands effects = instruction_step-standing m s i stands ∙ ap (done m s) (sym effects)

stands_in : (o : Option Instr) (i : Instr) → ◌≡◌ {A = Result Instr TrapKind} (ok_or o NoInstruction) (Ok i) → o ≡ Some i
stands_in None i is = absurd cc
stands_in (Some j) i is = cc

stands_by : (o : Option ℕ) (i : Instr) →
    ◌≡◌ {A = Result Instr TrapKind} (elim o [ Some word ↦ ok_or (instr_of word) NoInstruction | None ↦ Err BadTarget ]) (Ok i) → option_and_then instr_of o ≡ Some i
stands_by (Some word) i is = stands_in (instr_of word) i is
stands_by None i is = absurd cc

-- what is found at an address stands there
pub found_stands : (code : List ℕ) (pc : ℕ) (i : Instr) → found_at code pc ≡ Ok i → standing code pc ≡ Some i
found_stands code pc i is = stands_by (fetched code pc) i is
