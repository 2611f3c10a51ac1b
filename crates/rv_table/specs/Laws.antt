-- What holds of the table and the machine, at every instruction, code and state.
use Rattle.std.specs.Prelude.{◌≡◌, ◌≢◌, ◌⊎◌, ℕ, suc, ◌+◌, ◌-◌, ◌*◌, ◌/◌, ◌%◌, ◌<◌, ◌≤◌, ◌^◌, ◌↔◌, Bool, true, false, IsTrue, List, ◌++◌, length, Some, None}
use Rattle.std.specs.List.{All}
use Rattle.std.specs.Option.{option_and_then}
use Rattle.rv_table.specs.declared.effects.Effect.TheVariants.{Set, Jump, Branch, Load, Store, Ask}
use Rattle.rv_table.specs.declared.instruction.Instr.{Instr}
use Rattle.rv_table.specs.declared.request.Request.{Request}
use Rattle.rv_table.specs.declared.trap.TrapKind.{TrapKind}
use Rattle.rv_table.specs.Bounds.{ValuesFit, HasASize, WritesARegister, IsSound}
use Rattle.rv_table.specs.Decoding.{instr_of}
use Rattle.rv_table.specs.Machine.{MemoryMap, State, Next, Asks, Traps, Region, top, code_base, is_accessible, loaded, stored, extended, with_set, with_jump, with_store, request_of, done, instruction_step, steps, start}
use Rattle.rv_table.specs.Registers.{with_register}
use Rattle.rv_table.specs.Row.{row}
use Rattle.rv_table.specs.Stands.{standing, Stands, code_of}
use Rattle.rv_table.specs.Straight.{straight}
use Rattle.rv_table.specs.Table.{IsValid, word_of}

-- a word of 32 bits is decoded to an instruction exactly where it is valid and this is its word
abbrev pub DecodingIsExact : Type 0
DecodingIsExact =
    (word : ℕ) (i : Instr) → word < 2 ^ 32 → (instr_of word ≡ Some i) ↔ (IsValid i × (word_of i ≡ word))

-- the word of a valid instruction has 32 bits
abbrev pub WordsFit : Type 0
WordsFit = (i : Instr) → IsValid i → word_of i < 2 ^ 32

-- valid instructions stand one after another from the place of their code on, whatever whole words are before it and whatever
-- bytes are after it
abbrev pub CodeStands : Type 0
CodeStands =
    (front : List ℕ) (is : List Instr) (back : List ℕ) → length front % 4 ≡ 0 → All IsValid is →
    Stands (front ++ (code_of is ++ back)) (code_base + length front) is

-- each instruction has four bytes
abbrev pub CodeHasLength : Type 0
CodeHasLength = (is : List Instr) → length (code_of is) ≡ 4 * length is

-- n steps and then m more are one run
abbrev pub StepsJoin : Type 0
StepsJoin =
    (m : MemoryMap) (a b : ℕ) (s : State) → steps m (a + b) s ≡ option_and_then (steps m b) (steps m a s)

-- where a straight piece stands at pc, as many steps as it has instructions lead where its rows do
abbrev pub StraightPiecesRun : Type 0
StraightPiecesRun =
    (m : MemoryMap) (is : List Instr) (s t : State) → Stands m.code s.pc is → straight s is ≡ Some t →
    steps m (length is) s ≡ Some t

-- a written register reads as its value and every other one as before, and register 0 is never written
pub record RegistersAreKept : Type 0 where
  pub same : (x : ℕ → ℕ) (rd value : ℕ) → rd ≢ 0 → with_register x rd value rd ≡ value
  pub other : (x : ℕ → ℕ) (rd value k : ℕ) → k ≢ rd → with_register x rd value k ≡ x k
  pub zero : (x : ℕ → ℕ) (value : ℕ) → with_register x 0 value ≡ x

-- where an instruction stands at pc, the step does its row's effect
abbrev pub RowsAreDone : Type 0
RowsAreDone =
    (m : MemoryMap) (s : State) (i : Instr) → standing m.code s.pc ≡ Some i →
    instruction_step m s ≡ done m s (row s.registers s.pc i)

-- where its row sets a register, the step writes it, and moves pc on by 4
abbrev pub SetsAreDone : Type 0
SetsAreDone =
    (m : MemoryMap) (s : State) (i : Instr) (rd value : ℕ) → standing m.code s.pc ≡ Some i →
    row s.registers s.pc i ≡ Set rd value → instruction_step m s ≡ Next (with_set s rd value)

-- what comes of each effect that doesn't trap
pub record EffectsAreDone (m : MemoryMap) (s : State) : Type 0 where
  pub set : (rd value : ℕ) → done m s (Set rd value) ≡ Next (with_set s rd value)
  pub jump : (rd link target : ℕ) → target % 4 ≡ 0 → done m s (Jump rd link target) ≡ Next (with_jump s rd link target)
  -- a branch that is taken, and one that isn't
  pub taken : (target : ℕ) → target % 4 ≡ 0 → done m s (Branch true target) ≡ Next (record s { pc = target })
  pub passed : (target : ℕ) → done m s (Branch false target) ≡ Next (record s { pc = s.pc + 4 })
  pub load : (rd address size : ℕ) (signed : Bool) → IsTrue (is_accessible m address size) →
      done m s (Load rd address size signed) ≡ Next (with_set s rd (extended signed size (loaded s.memory address size)))
  pub store : (address size value : ℕ) → IsTrue (is_accessible m address size) →
      done m s (Store address size value) ≡ Next (with_store s address size value)
  pub ask : (r : Request) → request_of s.registers ≡ Some r → done m s Ask ≡ Asks r

-- the values and addresses of every row have 64 bits where the registers do, its accesses have one of four sizes, and a valid
-- instruction writes a register
pub record RowsAreBounded : Type 0 where
  pub values : (x : ℕ → ℕ) (pc : ℕ) (i : Instr) → ((k : ℕ) → x k < 2 ^ 64) → ValuesFit (row x pc i)
  pub size : (x : ℕ → ℕ) (pc : ℕ) (i : Instr) → HasASize (row x pc i)
  pub register : (x : ℕ → ℕ) (pc : ℕ) (i : Instr) → IsValid i → WritesARegister (row x pc i)

-- runs begin and stay in sound states: registers have 64 bits, register 0 is 0, and memory holds bytes
pub record RunsAreSound : Type 0 where
  pub begin : (r : Region) (memory : ℕ → ℕ) → top r < 2 ^ 64 → ((address : ℕ) → memory address < 2 ^ 8) → IsSound (start r memory)
  pub stay : (m : MemoryMap) (n : ℕ) (s t : State) → IsSound s → steps m n s ≡ Some t → IsSound t

-- what is read after a store
pub record StoresAreRead : Type 0 where
  -- at the same address and of the same size
  pub same : (memory : ℕ → ℕ) (address size value : ℕ) →
      loaded (stored memory address size value) address size ≡ value % 2 ^ (8 * size)
  -- of any size within what was stored
  pub within : (memory : ℕ → ℕ) (address size value offset count : ℕ) → offset + count ≤ size →
      loaded (stored memory address size value) (address + offset) count ≡ value / 2 ^ (8 * offset) % 2 ^ (8 * count)
  -- wholly below or above it
  pub below : (memory : ℕ → ℕ) (address size value from count : ℕ) → from + count ≤ address →
      loaded (stored memory address size value) from count ≡ loaded memory from count
  pub above : (memory : ℕ → ℕ) (address size value from count : ℕ) → address + size ≤ from →
      loaded (stored memory address size value) from count ≡ loaded memory from count
  -- a byte of what was stored, and one outside of it
  pub inside : (memory : ℕ → ℕ) (address size value at : ℕ) → address ≤ at → at < address + size →
      stored memory address size value at ≡ value / 2 ^ (8 * (at - address)) % 256
  pub outside : (memory : ℕ → ℕ) (address size value at : ℕ) → (at < address) ⊎ (address + size ≤ at) →
      stored memory address size value at ≡ memory at

-- a request or a trap ends a run in the state that it found
pub record StopsEndRuns : Type 0 where
  pub request : (m : MemoryMap) (s : State) (r : Request) (n : ℕ) → instruction_step m s ≡ Asks r → steps m (suc n) s ≡ None
  pub trap : (m : MemoryMap) (s : State) (kind : TrapKind) (n : ℕ) → instruction_step m s ≡ Traps kind → steps m (suc n) s ≡ None
