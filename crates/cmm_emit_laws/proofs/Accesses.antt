-- Where the definition has a word, code may access it.
use Rattle.std.proofs.Common.{◌≡◌, ℕ, zero, suc, ◌+◌, ◌*◌, ◌%◌, ◌-◌, ◌⊎◌, inl, inr, ◌<◌, ◌≤◌, ◌^◌, sym, subst, arith, true, map, IsTrue}
use Rattle.std.specs.Prelude.{◌==◌}
use Rattle.std.specs.List.{list_all, range_with_len}
use Rattle.std.proofs.lemmas.Bool.{and_parts}
use Rattle.std.proofs.lemmas.Bool.Decides.{nat_tests}
use Rattle.cmm_words.specs.Widths.{bytes}
use Rattle.cmm_words.specs.declared.width.Width.{Width}
use Rattle.cmm_words.specs.declared.width.Width.TheVariants.{W8, W16, W32, W64}
use Rattle.rv_table.specs.Machine.{MemoryMap, data_base, is_accessible, bottom, top}
use Rattle.cmm_program.specs.Memory.{Cell, cell_at}
use Rattle.cmm_program.specs.State.{Setting, Store}
use Rattle.cmm_program.specs.Typing.{is_alignment}
use Rattle.cmm_program.specs.Values.{is_there, may_access}
use Rattle.cmm_machine_laws.specs.Stacks.{IsStack, stack_of}
use Rattle.cmm_select.specs.Memory.{IsCellBy, access_of}
use Rattle.cmm_emit_laws.proofs.Accessing.{there_is_accessible, there_is_placed}
use Rattle.cmm_emit_laws.specs.Represented.{IsFor, stack_region}

-- each of the bytes is there
each_there : (cell : ℕ → Cell) (size address : ℕ) → list_all is_there (map cell (range_with_len address size)) ≡ true → (i : ℕ) → i < size → is_there (cell (address + i)) ≡ true
each_there cell zero address all i less = absurd (omega arith)
each_there cell (suc size) address all zero less =
    let first = (and_parts (is_there (cell address)) (list_all is_there (map cell (range_with_len (address + 1) size))) all).0 in
    subst (λ (n : ℕ). is_there (cell n) ≡ true) (omega arith) first
each_there cell (suc size) address all (suc i) less =
    let rest = (and_parts (is_there (cell address)) (list_all is_there (map cell (range_with_len (address + 1) size))) all).1 in
    subst (λ (n : ℕ). is_there (cell n) ≡ true) (omega arith) (each_there cell size (address + 1) rest i (omega arith))

pub some_bytes : (w : Width) → (1 ≤ bytes w) × (bytes w ≤ 8)
some_bytes W8 = (omega arith, omega arith)
some_bytes W16 = (omega arith, omega arith)
some_bytes W32 = (omega arith, omega arith)
some_bytes W64 = (omega arith, omega arith)

-- ---- the accesses of a word at an address that is a multiple of n bytes are no wider than the word, and of multiples of their bytes

abbrev Divides : ℕ → ℕ → Width → Type 0
Divides a aligned w = (bytes (access_of w aligned) ≤ bytes w) × (a % bytes (access_of w aligned) ≡ 0)

by_1 : (a : ℕ) (w : Width) → Divides a 1 w
by_1 a W8 = (omega arith, omega arith)
by_1 a W16 = (omega arith, omega arith)
by_1 a W32 = (omega arith, omega arith)
by_1 a W64 = (omega arith, omega arith)

by_2 : (a : ℕ) (w : Width) → a % 2 ≡ 0 → Divides a 2 w
by_2 a W8 is = (omega arith, omega arith)
by_2 a W16 is = (omega arith, omega arith)
by_2 a W32 is = (omega arith, omega arith)
by_2 a W64 is = (omega arith, omega arith)

by_4 : (a : ℕ) (w : Width) → a % 4 ≡ 0 → Divides a 4 w
by_4 a W8 is = (omega arith, omega arith)
by_4 a W16 is = (omega arith, omega arith)
by_4 a W32 is = (omega arith, omega arith)
by_4 a W64 is = (omega arith, omega arith)

by_8 : (a : ℕ) (w : Width) → a % 8 ≡ 0 → Divides a 8 w
by_8 a W8 is = (omega arith, omega arith)
by_8 a W16 is = (omega arith, omega arith)
by_8 a W32 is = (omega arith, omega arith)
by_8 a W64 is = (omega arith, omega arith)

by_16 : (a : ℕ) (w : Width) → a % 16 ≡ 0 → Divides a 16 w
by_16 a W8 is = (omega arith, omega arith)
by_16 a W16 is = (omega arith, omega arith)
by_16 a W32 is = (omega arith, omega arith)
by_16 a W64 is = (omega arith, omega arith)

one_of : (n : ℕ) → is_alignment n ≡ true → (n ≡ 1) ⊎ ((n ≡ 2) ⊎ ((n ≡ 4) ⊎ ((n ≡ 8) ⊎ (n ≡ 16))))
one_of n is = grind (arith, nat_tests)

divides : (a aligned : ℕ) (w : Width) → is_alignment aligned ≡ true → a % aligned ≡ 0 → Divides a aligned w
divides a aligned w is at = by (one_of aligned is)
  where
    by : (aligned ≡ 1) ⊎ ((aligned ≡ 2) ⊎ ((aligned ≡ 4) ⊎ ((aligned ≡ 8) ⊎ (aligned ≡ 16)))) → Divides a aligned w
    by (inl e) = subst (λ (n : ℕ). Divides a n w) (sym e) (by_1 a w)
    by (inr (inl e)) = subst (λ (n : ℕ). Divides a n w) (sym e) (by_2 a w (subst (λ (n : ℕ). a % n ≡ 0) e at))
    by (inr (inr (inl e))) = subst (λ (n : ℕ). Divides a n w) (sym e) (by_4 a w (subst (λ (n : ℕ). a % n ≡ 0) e at))
    by (inr (inr (inr (inl e)))) = subst (λ (n : ℕ). Divides a n w) (sym e) (by_8 a w (subst (λ (n : ℕ). a % n ≡ 0) e at))
    by (inr (inr (inr (inr e)))) = subst (λ (n : ℕ). Divides a n w) (sym e) (by_16 a w (subst (λ (n : ℕ). a % n ≡ 0) e at))

-- ---- a word whose bytes are all there

module _ (s : Setting) (m : MemoryMap) (is_for : IsFor s m) (store : Store) (stack : IsStack s (stack_of store)) (a : ℕ) where
  -- its bytes have addresses of 64 bits
  near : (w : Width) → ((i : ℕ) → i < bytes w → is_there (cell_at store.memory (a + i)) ≡ true) → a + bytes w ≤ 2 ^ 64
  near w there = by (there_is_placed s m is_for store (a + (bytes w - 1)) stack (there (bytes w - 1) (omega (arith, (some_bytes w).0))))
    where
      by : ((data_base ≤ a + (bytes w - 1)) × (a + (bytes w - 1) < data_base + m.data_length)) ⊎ ((bottom (stack_region s) ≤ a + (bytes w - 1)) × (a + (bytes w - 1) < top (stack_region s))) →
          a + bytes w ≤ 2 ^ 64
      by (inl place) = omega (arith, place.1, is_for.region, is_for.lies.narrow, (some_bytes w).0)
      by (inr place) = omega (arith, place.1, is_for.lies.narrow, (some_bytes w).0)

  module _ (w : Width) (there : (i : ℕ) → i < bytes w → is_there (cell_at store.memory (a + i)) ≡ true) where
    -- an access that begins n bytes on
    one : (size offset : ℕ) → 1 ≤ size → size ≤ 8 → offset + size ≤ bytes w → (a + offset) % size ≡ 0 → IsTrue (is_accessible m (a + offset) size)
    one size offset some few inside aligned =
        let at : ((a + offset) % size == 0) ≡ true = grind (arith, nat_tests, aligned) in
        let is : is_accessible m (a + offset) size ≡ true = there_is_accessible s m is_for store (a + offset) size stack some few at
        (λ i less. subst (λ (n : ℕ). is_there (cell_at store.memory n) ≡ true) (omega arith) (there (offset + i) (omega (arith, less, inside)))) in
        grind (arith, is)

  by_accesses : (p w : Width) → bytes p ≤ bytes w → a % bytes p ≡ 0 → ((i : ℕ) → i < bytes w → is_there (cell_at store.memory (a + i)) ≡ true) → IsCellBy p w a m
  by_accesses W8 W8 fit at there = record { fits = near W8 there; accessible = λ k less. one W8 there 1 (k * 1) (omega arith) (omega arith) (omega (arith, less)) (omega (arith, at)) }
  by_accesses W8 W16 fit at there = record { fits = near W16 there; accessible = λ k less. one W16 there 1 (k * 1) (omega arith) (omega arith) (omega (arith, less)) (omega (arith, at)) }
  by_accesses W8 W32 fit at there = record { fits = near W32 there; accessible = λ k less. one W32 there 1 (k * 1) (omega arith) (omega arith) (omega (arith, less)) (omega (arith, at)) }
  by_accesses W8 W64 fit at there = record { fits = near W64 there; accessible = λ k less. one W64 there 1 (k * 1) (omega arith) (omega arith) (omega (arith, less)) (omega (arith, at)) }
  by_accesses W16 W16 fit at there = record { fits = near W16 there; accessible = λ k less. one W16 there 2 (k * 2) (omega arith) (omega arith) (omega (arith, less)) (omega (arith, at)) }
  by_accesses W16 W32 fit at there = record { fits = near W32 there; accessible = λ k less. one W32 there 2 (k * 2) (omega arith) (omega arith) (omega (arith, less)) (omega (arith, at)) }
  by_accesses W16 W64 fit at there = record { fits = near W64 there; accessible = λ k less. one W64 there 2 (k * 2) (omega arith) (omega arith) (omega (arith, less)) (omega (arith, at)) }
  by_accesses W32 W32 fit at there = record { fits = near W32 there; accessible = λ k less. one W32 there 4 (k * 4) (omega arith) (omega arith) (omega (arith, less)) (omega (arith, at)) }
  by_accesses W32 W64 fit at there = record { fits = near W64 there; accessible = λ k less. one W64 there 4 (k * 4) (omega arith) (omega arith) (omega (arith, less)) (omega (arith, at)) }
  by_accesses W64 W64 fit at there = record { fits = near W64 there; accessible = λ k less. one W64 there 8 (k * 8) (omega arith) (omega arith) (omega (arith, less)) (omega (arith, at)) }
  by_accesses W16 W8 fit at there = absurd (omega (arith, fit))
  by_accesses W32 W8 fit at there = absurd (omega (arith, fit))
  by_accesses W32 W16 fit at there = absurd (omega (arith, fit))
  by_accesses W64 W8 fit at there = absurd (omega (arith, fit))
  by_accesses W64 W16 fit at there = absurd (omega (arith, fit))
  by_accesses W64 W32 fit at there = absurd (omega (arith, fit))

  module _ (w : Width) (aligned : ℕ) (may : may_access (cell_at store.memory) (bytes w) aligned a ≡ true) where
    parts : ((a % aligned == 0) ≡ true) × (list_all is_there (map (cell_at store.memory) (range_with_len a (bytes w))) ≡ true)
    parts = and_parts (a % aligned == 0) (list_all is_there (map (cell_at store.memory) (range_with_len a (bytes w)))) may

    pub all_there : (i : ℕ) → i < bytes w → is_there (cell_at store.memory (a + i)) ≡ true
    all_there = each_there (cell_at store.memory) (bytes w) a parts.1

    pub may_is_cell : is_alignment aligned ≡ true → IsCellBy (access_of w aligned) w a m
    may_is_cell is =
        let at : a % aligned ≡ 0 = grind (arith, nat_tests, parts.0) in
        let found = divides a aligned w is at in
        by_accesses (access_of w aligned) w found.0 found.1 all_there
