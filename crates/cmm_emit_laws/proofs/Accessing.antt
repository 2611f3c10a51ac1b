-- Cells are where the machine may access, and what it loads is what they spell.
use Rattle.std.proofs.Common.{◌≡◌, ◌⊎◌, inl, inr, ℕ, zero, suc, ◌+◌, ◌-◌, ◌%◌, ◌<◌, ◌≤◌, refl, sym, ap, subst, arith, Bool, true, false, List, [], ◌∷◌, length, map, None}
use Rattle.std.specs.Prelude.{◌==◌, ◌&&◌, ◌||◌, nat_le, slice_index_or, Ok, Err}
use Rattle.std.specs.List.{range_with_len}
use Rattle.std.proofs.lemmas.Bool.Decides.{nat_tests}
use Rattle.cmm_program.specs.Errors.{Tried, and_then, all_of}
use Rattle.cmm_program.specs.Layout.{data_bytes}
use Rattle.cmm_program.specs.Memory.{Cell, Outside, Unwritten, Byte, Room, Memory, cell_of, cell_in, cell_at, is_in, number_of, rooms_of}
use Rattle.cmm_program.specs.State.{Setting, Activation, Store, stack_top}
use Rattle.cmm_program.specs.Values.{byte_of, is_there}
use Rattle.cmm_machine_laws.specs.Stacks.{Extent, extent, IsStack, LiesIn, Stackdata, stack_of}
use Rattle.cmm_machine_laws.proofs.Shared.{older_are_stack, parts_in_frame}
use Rattle.rv_table.specs.Machine.{MemoryMap, data_base, is_accessible, loaded, region_base, bottom, top}
use Rattle.cmm_emit_laws.specs.Words.{RepresentsCell, RepresentsCells, RepresentsRooms}
use Rattle.cmm_emit_laws.specs.Represented.{IsFor, stack_region}
use Rattle.cmm_emit_laws.proofs.Regions.{bottom_is, top_is}

-- a written byte is shown, whichever room has it
cell_shown_in : (rooms : List Room) (bytes : ℕ → ℕ) (a byte : ℕ) → RepresentsRooms rooms bytes → cell_in rooms a ≡ Byte byte → bytes a ≡ byte
cell_shown_in [] bytes a byte shows is = absurd (cc)
cell_shown_in (room ∷ rooms) bytes a byte shows is = by (cell_shown_in rooms bytes a byte shows.1) (is_in room a) refl is
  where
    by : (cell_in rooms a ≡ Byte byte → bytes a ≡ byte) → (test : Bool) → is_in room a ≡ test →
        elim test as (λ _. Cell) [ true ↦ cell_of (slice_index_or room.cells (a - room.address) None) | false ↦ cell_in rooms a ] ≡ Byte byte → bytes a ≡ byte
    by again true inside e = subst (λ (c : Cell). RepresentsCell c (bytes a)) e (shows.0 a inside)
    by again false inside e = again e

pub cell_shown : (memory : Memory) (bytes : ℕ → ℕ) (a byte : ℕ) → RepresentsCells memory bytes → cell_at memory a ≡ Byte byte → bytes a ≡ byte
cell_shown memory bytes a byte shows is = cell_shown_in (rooms_of memory) bytes a byte shows is

byte_found : (c : Cell) (byte : ℕ) → byte_of c ≡ Ok byte → c ≡ Byte byte
byte_found (Byte b) byte is = ap Byte (cc)
byte_found Outside byte is = absurd (cc)
byte_found Unwritten byte is = absurd (cc)

-- what is loaded is the number that the cells spell
pub loaded_is_spelled : (memory : Memory) (bytes : ℕ → ℕ) (size a : ℕ) (found : List ℕ) → RepresentsCells memory bytes →
    all_of (map (λ k. byte_of (cell_at memory k)) (range_with_len a size)) ≡ Ok found → loaded bytes a size ≡ number_of found
loaded_is_spelled memory bytes zero a found shows is = let e : [] ≡ found = cc in rw (sym e) refl
loaded_is_spelled memory bytes (suc n) a found shows is =
    by (λ xs is_xs. loaded_is_spelled memory bytes n (a + 1) xs shows is_xs) (byte_of (cell_at memory a)) refl (all_of (map (λ k. byte_of (cell_at memory k)) (range_with_len (a + 1) n))) refl is
  where
    by : ((xs : List ℕ) → all_of (map (λ k. byte_of (cell_at memory k)) (range_with_len (a + 1) n)) ≡ Ok xs → loaded bytes (a + 1) n ≡ number_of xs) →
        (first : Tried ℕ) → byte_of (cell_at memory a) ≡ first → (rest : Tried (List ℕ)) → all_of (map (λ k. byte_of (cell_at memory k)) (range_with_len (a + 1) n)) ≡ rest →
        and_then first (λ x. and_then rest (λ xs. Ok (x ∷ xs))) ≡ Ok found → loaded bytes a (suc n) ≡ number_of found
    by again (Ok x) is_x (Ok xs) is_xs e =
        let whole : x ∷ xs ≡ found = cc in
        let here : bytes a ≡ x = cell_shown memory bytes a x shows (byte_found (cell_at memory a) x is_x) in
        let later : loaded bytes (a + 1) n ≡ number_of xs = again xs is_xs in
        rw (sym whole) (omega (arith, here, later))
    by again (Ok x) is_x (Err e') is_xs e = absurd (cc)
    by again (Err e') is_x rest is_xs e = absurd (cc)

module _ (s : Setting) (m : MemoryMap) (is_for : IsFor s m) where
  -- stackdata lies in the stack
  rooms_placed : (activations : List Activation) (rooms : List Room) (data_room : Extent) (a : ℕ) →
      IsStack s (record { activations = activations; data_room = data_room; rooms = map extent rooms }) → is_there (cell_in rooms a) ≡ true →
      (s.stack_base ≤ a) × (a < stack_top s)
  rooms_placed activations [] data_room a stack there = absurd (cc)
  rooms_placed [] (room ∷ rooms) data_room a stack there = let none = stack.rooms in absurd (cc)
  rooms_placed (f ∷ fs) (room ∷ rooms) data_room a stack there =
      by (rooms_placed fs rooms data_room a (older_are_stack.of_stack s (record { activations = f ∷ fs; data_room = data_room; rooms = extent room ∷ map extent rooms }) stack 1)) (is_in room a) refl there
    where
      lies : LiesIn s (f ∷ fs) (extent room)
      lies = parts_in_frame.of_stack s (record { activations = f ∷ fs; data_room = data_room; rooms = extent room ∷ map extent rooms }) stack is_for.set (extent room) (Stackdata (map extent rooms) refl)

      by : (is_there (cell_in rooms a) ≡ true → (s.stack_base ≤ a) × (a < stack_top s)) → (test : Bool) → is_in room a ≡ test →
          is_there (elim test as (λ _. Cell) [ true ↦ cell_of (slice_index_or room.cells (a - room.address) None) | false ↦ cell_in rooms a ]) ≡ true →
          (s.stack_base ≤ a) × (a < stack_top s)
      by again true inside e =
          let low : room.address ≤ a = grind (arith, nat_tests, inside) in
          let high : a < room.address + length room.cells = grind (arith, nat_tests, inside) in
          (omega (arith, lies.0, low, stack.fits), omega (arith, lies.1, high))
      by again false inside e = again e

  -- a cell that is there is in data or in the stack
  pub there_is_placed : (store : Store) (a : ℕ) → IsStack s (stack_of store) → is_there (cell_at store.memory a) ≡ true →
      ((data_base ≤ a) × (a < data_base + m.data_length)) ⊎ ((bottom (stack_region s) ≤ a) × (a < top (stack_region s)))
  there_is_placed store a stack there = by (is_in store.memory.data_room a) refl there
    where
      by : (test : Bool) → is_in store.memory.data_room a ≡ test →
          is_there (elim test as (λ _. Cell) [ true ↦ cell_of (slice_index_or store.memory.data_room.cells (a - store.memory.data_room.address) None) | false ↦ cell_in store.memory.rooms a ]) ≡ true →
          ((data_base ≤ a) × (a < data_base + m.data_length)) ⊎ ((bottom (stack_region s) ≤ a) × (a < top (stack_region s)))
      by true inside e =
          let p : store.memory.data_room.address ≡ data_base = ap (λ (z : Extent). z.address) stack.data_room in
          let q : length store.memory.data_room.cells ≡ length (data_bytes s.program s.placement) = ap (λ (z : Extent). z.length) stack.data_room in
          let low : store.memory.data_room.address ≤ a = grind (arith, nat_tests, inside) in
          let high : a < store.memory.data_room.address + length store.memory.data_room.cells = grind (arith, nat_tests, inside) in
          inl ((omega (arith, p, low), omega (arith, p, q, high, is_for.data_length)))
      by false inside e =
          let placed = rooms_placed store.activations store.memory.rooms (extent store.memory.data_room) a stack e in
          inr ((omega (arith, placed.0, bottom_is s m is_for), omega (arith, placed.1, top_is s m is_for)))

  -- so where each byte is there, an aligned access does not trap
  pub there_is_accessible : (store : Store) (a size : ℕ) → IsStack s (stack_of store) → 1 ≤ size → size ≤ 8 → (a % size == 0) ≡ true →
      ((i : ℕ) → i < size → is_there (cell_at store.memory (a + i)) ≡ true) → is_accessible m a size ≡ true
  there_is_accessible store a size stack some few aligned there =
      by (there_is_placed store (a + 0) stack (there 0 (omega arith))) (there_is_placed store (a + (size - 1)) stack (there (size - 1) (omega arith)))
    where
      by : ((data_base ≤ a + 0) × (a + 0 < data_base + m.data_length)) ⊎ ((bottom (stack_region s) ≤ a + 0) × (a + 0 < top (stack_region s))) →
          ((data_base ≤ a + (size - 1)) × (a + (size - 1) < data_base + m.data_length)) ⊎ ((bottom (stack_region s) ≤ a + (size - 1)) × (a + (size - 1) < top (stack_region s))) →
          is_accessible m a size ≡ true
      by (inl first) (inl last) =
          let p : nat_le data_base a ≡ true = grind (arith, nat_tests, first.0) in
          let q : nat_le (a + size) (data_base + m.data_length) ≡ true = grind (arith, nat_tests, last.1, some) in
          rw (is_accessible, aligned, p, q) refl
      by (inr first) (inr last) =
          let low : region_base ≤ a = omega (arith, first.0, is_for.lies.low) in
          let high : a + size ≤ region_base + m.region_length = omega (arith, last.1, some, is_for.lies.high) in
          let p : nat_le region_base a ≡ true = grind (arith, nat_tests, low) in
          let q : nat_le (a + size) (region_base + m.region_length) ≡ true = grind (arith, nat_tests, high) in
          rw (is_accessible, aligned, p, q) (or_true (nat_le data_base a && nat_le (a + size) (data_base + m.data_length)))
        where
          or_true : (b : Bool) → (b || true) ≡ true
          or_true true = refl
          or_true false = refl
      by (inl first) (inr last) = absurd (omega (arith, first.1, last.0, is_for.region, few))
      by (inr first) (inl last) = absurd (omega (arith, first.0, last.1, is_for.region))
