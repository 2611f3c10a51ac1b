-- What a client does to registers and memory keeps them sound.
use Rattle.std.proofs.Common.{ℕ, suc, ◌+◌, ◌%◌, ◌<◌, ◌^◌, Bool, true, false, List, [], ◌∷◌, ◌∙◌, arith}
use Rattle.std.specs.Prelude.{nat_le, nat_lt, ◌&&◌}
use Rattle.rv_table.specs.Bounds.{IsSound}
use Rattle.rv_table.specs.Machine.{State, stored}
use Rattle.rv_table.specs.Registers.{with_register}
use Rattle.rv_table.proofs.Shared.{loaded-lt, with_register-fits, with_register-zero}
use Rattle.cmm_abi.specs.Registers.{is_callee_saves}
use Rattle.cmm_image_machine.specs.Changes.{at_pc, unwound}
use Rattle.cmm_image_machine.specs.Frames.{Element}
use Rattle.cmm_abi.specs.Regions.{Place, InRegister, InMemory, Region, value_place, with_values_from, with_word, word_at}
use Rattle.cmm_client_laws.proofs.Lists.{AreWords}

pub sound_register : (t : State) (r v : ℕ) → v < 2 ^ 64 → IsSound t → IsSound (record t { registers = with_register t.registers r v })
sound_register t r v fits sound = record {
  registers = with_register-fits t.registers r v sound.registers fits;
  zero = with_register-zero t.registers r v ∙ sound.zero;
  memory = sound.memory;
}

stored_byte : (b : Bool) (m n : ℕ) → m < 2 ^ 8 → n < 2 ^ 8 → elim b as (λ _. ℕ) [ true ↦ m | false ↦ n ] < 2 ^ 8
stored_byte true m n h k = h
stored_byte false m n h k = k

pub sound_memory : (t : State) (a size v : ℕ) → IsSound t → IsSound (record t { memory = stored t.memory a size v })
sound_memory t a size v sound = record {
  registers = sound.registers;
  zero = sound.zero;
  memory = λ k. stored_byte (nat_le a k && nat_lt k (a + size)) _ (t.memory k) (byte_small _) (sound.memory k);
}
  where
    byte_small : (n : ℕ) → n % 256 < 2 ^ 8
    byte_small n = omega arith

pub sound_pc : (t : State) (pc : ℕ) → IsSound t → IsSound (at_pc pc t)
sound_pc t pc sound = record { registers = sound.registers; zero = sound.zero; memory = sound.memory }

pub sound_word : (place : Place) (t : State) (v : ℕ) → v < 2 ^ 64 → IsSound t → IsSound (with_word place v t)
sound_word (InRegister r) t v fits sound = sound_register t r v fits sound
sound_word (InMemory a) t v fits sound = sound_memory t a 8 v sound

pub sound_values : (r : Region) (vs : List ℕ) (k : ℕ) (t : State) → AreWords vs → IsSound t → IsSound (with_values_from r k vs t)
sound_values r [] k t words sound = sound
sound_values r (v ∷ vs) k t words sound = sound_values r vs (suc k) (with_word (value_place r k) v t) words.1 (sound_word (value_place r k) t v words.0 sound)

word_small : (t : State) (place : Place) → IsSound t → word_at t place < 2 ^ 64
word_small t (InRegister r) sound = sound.registers r
word_small t (InMemory a) sound = loaded-lt t.memory a 8 sound.memory

pub sound_unwound : (x : Element) (t : State) → x.frame < 2 ^ 64 → IsSound t → IsSound (record t { registers = unwound x t })
sound_unwound x t fits sound = record {
  registers = with_register-fits (λ n. elim (is_callee_saves n) [ true ↦ word_at t (x.places n) | false ↦ t.registers n ]) 2 x.frame
      (λ k. each (is_callee_saves k) (word_at t (x.places k)) (t.registers k) (word_small t (x.places k) sound) (sound.registers k)) fits;
  zero = sound.zero;
  memory = sound.memory;
}
  where
    each : (b : Bool) (m n : ℕ) → m < 2 ^ 64 → n < 2 ^ 64 → elim b as (λ _. ℕ) [ true ↦ m | false ↦ n ] < 2 ^ 64
    each true m n h k = h
    each false m n h k = k
