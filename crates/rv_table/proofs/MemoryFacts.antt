-- Loads after stores.
use Rattle.std.proofs.Common.{◌≡◌, ℕ, zero, suc, ◌+◌, ◌-◌, ◌*◌, ◌/◌, ◌%◌, ◌<◌, ◌≤◌, ◌^◌, ◌⊎◌, inl, inr, refl, sym, arith, add-zero}
use Rattle.std.proofs.Math.Nat.{div-one, div-div-eq-div-mul}
use Rattle.std.specs.Prelude.{nat_lt, nat_le, true, false}
use Rattle.std.proofs.lemmas.Bool.Decides.{nat_tests}
use Rattle.std.proofs.lemmas.Nat.{pow-add, mod-pow-add}
use Rattle.rv_table.specs.Memory.{loaded, stored}

-- a byte within what was stored, and one outside of it
pub stored-inside : (memory : ℕ → ℕ) (address size value at : ℕ) → address ≤ at → at < address + size →
    stored memory address size value at ≡ value / 2 ^ (8 * (at - address)) % 256
stored-inside memory address size value at low high =
    let a : nat_le address at ≡ true = grind (arith, nat_tests) in
    let b : nat_lt at (address + size) ≡ true = grind (arith, nat_tests) in
    rw (stored, a, b)

stored-below : (memory : ℕ → ℕ) (address size value at : ℕ) → at < address → stored memory address size value at ≡ memory at
stored-below memory address size value at h =
    let a : nat_le address at ≡ false = grind (arith, nat_tests) in
    rw (stored, a)

stored-above : (memory : ℕ → ℕ) (address size value at : ℕ) → address + size ≤ at →
    stored memory address size value at ≡ memory at
stored-above memory address size value at h =
    let a : nat_le address at ≡ true = grind (arith, nat_tests) in
    let b : nat_lt at (address + size) ≡ false = grind (arith, nat_tests) in
    rw (stored, a, b)

pub stored-outside : (memory : ℕ → ℕ) (address size value at : ℕ) → (at < address) ⊎ (address + size ≤ at) →
    stored memory address size value at ≡ memory at
stored-outside memory address size value at (inl below) = stored-below memory address size value at below
stored-outside memory address size value at (inr above) = stored-above memory address size value at above

-- what ends where the store begins, or below
pub loaded-below : (memory : ℕ → ℕ) (address size value from count : ℕ) → from + count ≤ address →
    loaded (stored memory address size value) from count ≡ loaded memory from count
loaded-below memory address size value from zero h = refl
loaded-below memory address size value from (suc count) h =
    let here : stored memory address size value from ≡ memory from = stored-below memory address size value from (omega arith) in
    let rest = loaded-below memory address size value (from + 1) count (omega arith) in
    rw (here, rest)

-- what begins where the store ends, or above
pub loaded-above : (memory : ℕ → ℕ) (address size value from count : ℕ) → address + size ≤ from →
    loaded (stored memory address size value) from count ≡ loaded memory from count
loaded-above memory address size value from zero h = refl
loaded-above memory address size value from (suc count) h =
    let here : stored memory address size value from ≡ memory from = stored-above memory address size value from h in
    let rest = loaded-above memory address size value (from + 1) count (omega arith) in
    rw (here, rest)

-- the lowest byte and the others make up the number
one_more_byte : (u count : ℕ) → u % 256 + 256 * (u / 256 % 2 ^ (8 * count)) ≡ u % 2 ^ (8 * suc count)
one_more_byte u count =
    let e : 8 * suc count ≡ 8 * count + 8 = omega arith in
    let m : u % 2 ^ (8 * count + 8) ≡ u / 2 ^ 8 % 2 ^ (8 * count) * 2 ^ 8 + u % 2 ^ 8 = mod-pow-add u (8 * count) 8 in
    rw (e, m) (omega arith)

-- the bytes of a number from one on are those of a 256th
next_bytes : (value offset : ℕ) → value / 2 ^ (8 * (offset + 1)) ≡ value / 2 ^ (8 * offset) / 256
next_bytes value offset =
    let e : 8 * (offset + 1) ≡ 8 * offset + 8 = omega arith in
    rw (e, pow-add 2 (8 * offset) 8) (sym (div-div-eq-div-mul value (2 ^ (8 * offset)) 256))

-- n bytes from within what was stored
pub loaded-within : (memory : ℕ → ℕ) (address size value offset count : ℕ) → offset + count ≤ size →
    loaded (stored memory address size value) (address + offset) count ≡ value / 2 ^ (8 * offset) % 2 ^ (8 * count)
loaded-within memory address size value offset zero h = omega arith
loaded-within memory address size value offset (suc count) h =
    let here : stored memory address size value (address + offset) ≡ value / 2 ^ (8 * (address + offset - address)) % 256 =
    stored-inside memory address size value (address + offset) (omega arith) (omega arith)
    in
    let at : address + offset - address ≡ offset = omega arith in
    let on : address + offset + 1 ≡ address + (offset + 1) = omega arith in
    let rest = loaded-within memory address size value (offset + 1) count (omega arith) in
    rw (here, at, on, rest, next_bytes value offset) (one_more_byte (value / 2 ^ (8 * offset)) count)

pub loaded-same : (memory : ℕ → ℕ) (address size value : ℕ) →
    loaded (stored memory address size value) address size ≡ value % 2 ^ (8 * size)
loaded-same memory address size value =
    let e : loaded (stored memory address size value) (address + 0) size ≡ value / 1 % 2 ^ (8 * size) =
    loaded-within memory address size value 0 size (omega arith)
    in
    rw (add-zero address, div-one value) at e

pub loaded-lt : (memory : ℕ → ℕ) (address count : ℕ) → ((k : ℕ) → memory k < 2 ^ 8) → loaded memory address count < 2 ^ (8 * count)
loaded-lt memory address zero bytes = omega arith
loaded-lt memory address (suc count) bytes =
    let b = bytes address in
    let r = loaded-lt memory (address + 1) count bytes in
    let e : 8 * suc count ≡ 8 * count + 8 = omega arith in
    rw (e, pow-add 2 (8 * count) 8) (omega arith)
