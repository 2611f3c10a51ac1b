-- Stores and loads within one region are those of the whole memory.
use Rattle.std.proofs.Common.{◌≡◌, ℕ, ◌+◌, ◌-◌, ◌<◌, ◌≤◌, List, length, slice_index, refl, sym, ap, ◌∙◌, arith, rules, inl, inr, Some, None}
use Rattle.std.proofs.Math.Path.{fun_ext}
use Rattle.std.proofs.lemmas.Bool.{cases_lt}
use Rattle.std.proofs.lemmas.Bool.Decides.{nat_tests}
use Rattle.std.specs.Prelude.{nat_lt, nat_le, Bool, true, false}
use Rattle.rv_table.specs.Memory.{loaded, stored, data_base, region_base}
use Rattle.rv_memory.specs.Regions.{Regions, Fits, memory_of}
use Rattle.rv_memory.specs.inside.Access.{offset_in, lies_in}
use Rattle.rv_memory.proofs.LittleEndian.{loaded-ext}

-- an access that begins so far into a region lies in it
record Lies (base count address size at : ℕ) : Type 0 where
  begins : base + at ≡ address
  ends : at + size ≤ count

-- what the test says
lies_by : (base count address size at : ℕ) (test : Bool) → lies_in base count address size ≡ test →
    elim test [ true ↦ Some (address - base) | false ↦ None ] ≡ Some at → Lies base count address size at
lies_by base count address size at true e h =
    let start : address - base ≡ at = cc in
    record { begins = grind (arith, nat_tests); ends = grind (arith, nat_tests) }
lies_by base count address size at false e h = absurd (search rules)

lies_of : (base count address size at : ℕ) → offset_in base count address size ≡ Some at → Lies base count address size at
lies_of base count address size at h = lies_by base count address size at (lies_in base count address size) refl h

-- a store moves with the bytes
stored-moved : (f g : ℕ → ℕ) (base at address size value i k : ℕ) → base + at ≡ address → base + i ≡ k → f i ≡ g k →
    stored f at size value i ≡ stored g address size value k
stored-moved f g base at address size value i k begins here same =
    elim (cases_lt i at) [
      | inl below ↦
          let a : nat_le at i ≡ false = grind (arith, nat_tests) in
          let b : nat_le address k ≡ false = grind (arith, nat_tests) in
          rw (stored, a, b) same
      | inr from ↦
          let a : nat_le at i ≡ true = grind (arith, nat_tests) in
          let b : nat_le address k ≡ true = grind (arith, nat_tests) in
          elim (cases_lt i (at + size)) [
            | inl within ↦
                let d : nat_lt i (at + size) ≡ true = grind (arith, nat_tests) in
                let e : nat_lt k (address + size) ≡ true = grind (arith, nat_tests) in
                let place : k - address ≡ i - at = omega arith in
                rw (stored, a, b, d, e, place) refl
            | inr above ↦
                let d : nat_lt i (at + size) ≡ false = grind (arith, nat_tests) in
                let e : nat_lt k (address + size) ≡ false = grind (arith, nat_tests) in
                rw (stored, a, b, d, e) same
          ]
    ]

-- a store below or above an address leaves its byte
stored-below : (f g : ℕ → ℕ) (address size value k : ℕ) → f k ≡ g k → k < address → f k ≡ stored g address size value k
stored-below f g address size value k same below =
    let a : nat_le address k ≡ false = grind (arith, nat_tests) in
    rw (stored, a) same

stored-above : (f g : ℕ → ℕ) (address size value k : ℕ) → f k ≡ g k → address + size ≤ k → f k ≡ stored g address size value k
stored-above f g address size value k same above =
    let a : nat_le address k ≡ true = grind (arith, nat_tests) in
    let b : nat_lt k (address + size) ≡ false = grind (arith, nat_tests) in
    rw (stored, a, b) same

-- the byte at an address below the data, in the data or past it, and in the region
memory_of-below : (r : Regions) (k : ℕ) → k < data_base → memory_of r k ≡ 0
memory_of-below r k h =
    let a : nat_le region_base k ≡ false = grind (arith, nat_tests) in
    let b : nat_le data_base k ≡ false = grind (arith, nat_tests) in
    rw (memory_of, a, b) refl

memory_of-data : (r : Regions) (k : ℕ) → data_base ≤ k → k < region_base → memory_of r k ≡ slice_index r.data_bytes (k - data_base)
memory_of-data r k low high =
    let a : nat_le region_base k ≡ false = grind (arith, nat_tests) in
    let b : nat_le data_base k ≡ true = grind (arith, nat_tests) in
    rw (memory_of, a, b) refl

memory_of-region : (r : Regions) (k : ℕ) → region_base ≤ k → memory_of r k ≡ slice_index r.region_bytes (k - region_base)
memory_of-region r k low =
    let a : nat_le region_base k ≡ true = grind (arith, nat_tests) in
    rw (memory_of, a) refl

-- the regions with other bytes of data, and with another region
abbrev with_data : Regions → List ℕ → Regions
with_data r bytes = record { code_bytes = r.code_bytes; data_bytes = bytes; region_bytes = r.region_bytes; stack_size = r.stack_size }

abbrev with_region : Regions → List ℕ → Regions
with_region r bytes = record { code_bytes = r.code_bytes; data_bytes = r.data_bytes; region_bytes = bytes; stack_size = r.stack_size }

-- a store in the data is one in the memory, address by address
stored_in_data-at : (r : Regions) (bytes : List ℕ) (address at size value : ℕ) → Fits r →
    Lies data_base (length r.data_bytes) address size at →
    ((i : ℕ) → slice_index bytes i ≡ stored (slice_index r.data_bytes) at size value i) → (k : ℕ) →
    memory_of (with_data r bytes) k ≡ stored (memory_of r) address size value k
stored_in_data-at r bytes address at size value fits lies written k =
    let begins = lies.begins in
    let ends = lies.ends in
    let most = fits.initial in
    elim (cases_lt k data_base) [
      | inl below ↦
          stored-below (memory_of (with_data r bytes)) (memory_of r) address size value k
          (memory_of-below (with_data r bytes) k below ∙ sym (memory_of-below r k below)) (omega arith)
      | inr from ↦
          elim (cases_lt k region_base) [
            | inl within ↦
                memory_of-data (with_data r bytes) k from within ∙ written (k - data_base)
                ∙ stored-moved (slice_index r.data_bytes) (memory_of r) data_base at address size value (k - data_base) k begins (omega arith)
                (sym (memory_of-data r k from within))
            | inr above ↦
                stored-above (memory_of (with_data r bytes)) (memory_of r) address size value k
                (memory_of-region (with_data r bytes) k above ∙ sym (memory_of-region r k above)) (omega arith)
          ]
    ]

-- a store in the region is one in the memory, address by address
stored_in_region-at : (r : Regions) (bytes : List ℕ) (address at size value : ℕ) →
    Lies region_base (length r.region_bytes) address size at →
    ((i : ℕ) → slice_index bytes i ≡ stored (slice_index r.region_bytes) at size value i) → (k : ℕ) →
    memory_of (with_region r bytes) k ≡ stored (memory_of r) address size value k
stored_in_region-at r bytes address at size value lies written k =
    let begins = lies.begins in
    let outside : k < region_base → memory_of (with_region r bytes) k ≡ memory_of r k → memory_of (with_region r bytes) k ≡ stored (memory_of r) address size value k =
    λ below same. stored-below (memory_of (with_region r bytes)) (memory_of r) address size value k same (omega arith)
    in
    elim (cases_lt k data_base) [
      | inl below ↦
          outside (omega arith) (memory_of-below (with_region r bytes) k below ∙ sym (memory_of-below r k below))
      | inr from ↦
          elim (cases_lt k region_base) [
            | inl within ↦
                outside within (memory_of-data (with_region r bytes) k from within ∙ sym (memory_of-data r k from within))
            | inr above ↦
                memory_of-region (with_region r bytes) k above ∙ written (k - region_base)
                ∙ stored-moved (slice_index r.region_bytes) (memory_of r) region_base at address size value (k - region_base) k begins (omega arith)
                (sym (memory_of-region r k above))
          ]
    ]

pub stored_in_data : (r : Regions) (bytes : List ℕ) (address at size value : ℕ) → Fits r →
    offset_in data_base (length r.data_bytes) address size ≡ Some at →
    ((i : ℕ) → slice_index bytes i ≡ stored (slice_index r.data_bytes) at size value i) →
    memory_of (with_data r bytes) ≡ stored (memory_of r) address size value
stored_in_data r bytes address at size value fits here written =
    fun_ext (stored_in_data-at r bytes address at size value fits (lies_of data_base (length r.data_bytes) address size at here) written)

pub stored_in_region : (r : Regions) (bytes : List ℕ) (address at size value : ℕ) →
    offset_in region_base (length r.region_bytes) address size ≡ Some at →
    ((i : ℕ) → slice_index bytes i ≡ stored (slice_index r.region_bytes) at size value i) →
    memory_of (with_region r bytes) ≡ stored (memory_of r) address size value
stored_in_region r bytes address at size value here written =
    fun_ext (stored_in_region-at r bytes address at size value (lies_of region_base (length r.region_bytes) address size at here) written)

-- ---- words by their addresses

pub word_stored_in_region : (r : Regions) (bytes : List ℕ) (address at size value : ℕ) → region_base + at ≡ address → at + size ≤ length r.region_bytes →
    ((i : ℕ) → slice_index bytes i ≡ stored (slice_index r.region_bytes) at size value i) →
    memory_of (with_region r bytes) ≡ stored (memory_of r) address size value
word_stored_in_region r bytes address at size value begins ends written =
    fun_ext (stored_in_region-at r bytes address at size value (record { begins = begins; ends = ends }) written)

pub word_stored_in_data : (r : Regions) (bytes : List ℕ) (address at size value : ℕ) → Fits r → data_base + at ≡ address → at + size ≤ length r.data_bytes →
    ((i : ℕ) → slice_index bytes i ≡ stored (slice_index r.data_bytes) at size value i) →
    memory_of (with_data r bytes) ≡ stored (memory_of r) address size value
word_stored_in_data r bytes address at size value fits begins ends written =
    fun_ext (stored_in_data-at r bytes address at size value fits (record { begins = begins; ends = ends }) written)

-- a number in the bytes of a part is one in the memory
pub word_loaded_in_region : (r : Regions) (address at size : ℕ) → region_base + at ≡ address →
    loaded (slice_index r.region_bytes) at size ≡ loaded (memory_of r) address size
word_loaded_in_region r address at size begins =
    loaded-ext (slice_index r.region_bytes) (memory_of r) at address size (λ i below. byte i)
  where
    byte : (i : ℕ) → slice_index r.region_bytes (at + i) ≡ memory_of r (address + i)
    byte i =
        let place : address + i - region_base ≡ at + i = omega arith in
        sym (memory_of-region r (address + i) (omega arith) ∙ ap (slice_index r.region_bytes) place)

pub word_loaded_in_data : (r : Regions) (address at size : ℕ) → Fits r → data_base + at ≡ address → at + size ≤ length r.data_bytes →
    loaded (slice_index r.data_bytes) at size ≡ loaded (memory_of r) address size
word_loaded_in_data r address at size fits begins ends =
    loaded-ext (slice_index r.data_bytes) (memory_of r) at address size byte
  where
    byte : (i : ℕ) → i < size → slice_index r.data_bytes (at + i) ≡ memory_of r (address + i)
    byte i below =
        let most = fits.initial in
        let place : address + i - data_base ≡ at + i = omega arith in
        sym (memory_of-data r (address + i) (omega arith) (omega (arith, begins, ends, below, most)) ∙ ap (slice_index r.data_bytes) place)
