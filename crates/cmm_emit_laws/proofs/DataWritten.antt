-- Bytes are written where data lies.
use Rattle.std.proofs.Common.{◌≡◌, ℕ, ◌+◌, ◌-◌, ◌*◌, ◌/◌, ◌%◌, ◌^◌, ◌<◌, ◌≤◌, Bool, true, false, All, List, [], ◌∷◌, length, Option, Some, None, refl, sym, ap, ◌∙◌, subst, arith}
use Rattle.std.specs.Prelude.{◌&&◌, nat_le, nat_lt, slice_index_or}
use Rattle.std.proofs.lemmas.Bool.Decides.{nat_tests}
use Rattle.cmm_chain.specs.Running.{Holdings}
use Rattle.cmm_program.specs.Layout.{data_bytes}
use Rattle.cmm_program.specs.Memory.{IsByte, Cell, cell_at, cell_in, cell_of, is_in, number_of, with_bytes}
use Rattle.cmm_program.specs.State.{Setting, Store}
use Rattle.cmm_program.specs.Values.{is_there}
use Rattle.cmm_machine_laws.proofs.Shared.{bytes_of_spelled}
use Rattle.cmm_machine_laws.specs.Stacks.{Extent}
use Rattle.rv_table.specs.Machine.{MemoryMap, State, data_base, stored}
use Rattle.cmm_emit_laws.specs.Words.{Symbols}
use Rattle.cmm_emit_laws.specs.Represented.{IsFor, IsRepresented}
use Rattle.cmm_emit_laws.specs.StateLaws.{DataIsWritten}
use Rattle.cmm_emit_laws.proofs.Showing.{store_shows}

there_in : (o : Option ℕ) → is_there (cell_of o) ≡ true
there_in (Some byte) = refl
there_in None = refl

-- where no byte is written, memory is as it was
none_stored : (bytes : ℕ → ℕ) (address n : ℕ) → stored bytes address 0 n ≡ bytes
none_stored bytes address n = λ i. λ k. at k (nat_le address k && nat_lt k (address + 0)) refl i
  where
    at : (k : ℕ) (b : Bool) → (nat_le address k && nat_lt k (address + 0)) ≡ b →
        elim b as (λ _. ℕ) [ true ↦ n / 2 ^ (8 * (k - address)) % 256 | false ↦ bytes k ] ≡ bytes k
    at k false out = refl
    at k true both = absurd (grind (arith, nat_tests, both))

module _ (y : Symbols) (rest : ℕ → ℕ) (s : Setting) (m : MemoryMap) (is_for : IsFor s m) (h : Holdings) (store : Store) (t : State) (shows : IsRepresented y rest s h store [] t) where
  there_in_data : (address count k : ℕ) → data_base ≤ address → address + count ≤ data_base + m.data_length → k < count → is_there (cell_at store.memory (address + k)) ≡ true
  there_in_data address count k low high less =
      let begin : store.memory.data_room.address ≡ data_base = ap (λ (e : Extent). e.address) shows.stack.data_room in
      let size : length store.memory.data_room.cells ≡ length (data_bytes s.program s.placement) = ap (λ (e : Extent). e.length) shows.stack.data_room in
      let within : is_in store.memory.data_room (address + k) ≡ true = grind (arith, nat_tests, begin, size, is_for.data_length, low, high, less) in
      ap (λ (b : Bool). is_there (elim b as (λ _. Cell) [
        | true ↦ cell_of (slice_index_or store.memory.data_room.cells (address + k - store.memory.data_room.address) None)
        | false ↦ cell_in store.memory.rooms (address + k)
      ])) within ∙ there_in (slice_index_or store.memory.data_room.cells (address + k - store.memory.data_room.address) None)

  written : (address : ℕ) (those : List ℕ) → All IsByte those → data_base ≤ address → address + length those ≤ data_base + m.data_length →
      IsRepresented y rest s h (record store { memory = with_bytes store.memory address those }) [] (record t { memory = stored t.memory address (length those) (number_of those) })
  written address [] are low high =
      subst (λ (memory : ℕ → ℕ). IsRepresented y rest s h store [] (record t { memory = memory })) (sym (none_stored t.memory address 0)) shows
  written address (byte ∷ others) are low high =
      subst (λ (those : List ℕ). IsRepresented y rest s h (record store { memory = with_bytes store.memory address those }) []
      (record t { memory = stored t.memory address (length (byte ∷ others)) (number_of (byte ∷ others)) })) (bytes_of_spelled (byte ∷ others) are)
      (store_shows y rest s m is_for h store t (record t { memory = stored t.memory address (length (byte ∷ others)) (number_of (byte ∷ others)) }) address (length (byte ∷ others))
      (number_of (byte ∷ others)) (omega arith) (λ k less. there_in_data address (length (byte ∷ others)) k low high less) (record { registers = λ r is. refl; memory = refl }) shows)

pub data_is_written : DataIsWritten
data_is_written y rest s m is_for h store t address bytes are low high shows = written y rest s m is_for h store t shows address bytes are low high
