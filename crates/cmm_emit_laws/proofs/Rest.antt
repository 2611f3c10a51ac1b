-- Memory that is no data and lies outside of the region stays as it is.
use Rattle.std.proofs.Common.{◌≡◌, ◌⊎◌, inl, inr, ℕ, ◌+◌, ◌-◌, ◌<◌, ◌≤◌, refl, ◌∙◌, ap, subst, arith, Bool, true, false, List, [], ◌∷◌, length, map, drop}
use Rattle.std.specs.Prelude.{◌&&◌, nat_le, nat_lt}
use Rattle.std.proofs.lemmas.Bool.Decides.{nat_tests}
use Rattle.cmm_program.specs.Layout.{data_bytes}
use Rattle.cmm_program.specs.Memory.{Outside, Room, cell_at, cell_in, is_in}
use Rattle.cmm_program.specs.Frames.{frame_address}
use Rattle.cmm_program.specs.State.{Setting, Activation, Store, stack_top}
use Rattle.cmm_program.specs.Values.{is_there}
use Rattle.cmm_machine_laws.specs.Stacks.{Extent, extent, IsStack, IsSet, Stackdata, stack_of}
use Rattle.cmm_machine_laws.proofs.Shared.{none_below, older_are_stack, parts_in_stack}
use Rattle.rv_table.proofs.Shared.{stored-outside}
use Rattle.rv_table.specs.Machine.{MemoryMap, Region, bottom, data_base, stored, top}
use Rattle.cmm_emit_laws.specs.Words.{RepresentsRest}
use Rattle.cmm_emit_laws.specs.Represented.{IsFor, stack_region}
use Rattle.cmm_emit_laws.proofs.Regions.{bottom_is, top_is}
use Rattle.cmm_emit_laws.proofs.WrittenWords.{in_none}

-- what is stored in the region
pub rest_stays : (rest : ℕ → ℕ) (r : Region) (room : Room) (bytes : ℕ → ℕ) (a size n : ℕ) → r.address ≤ a → a + size ≤ top r →
    RepresentsRest rest r room bytes → RepresentsRest rest r room (stored bytes a size n)
rest_stays rest r room bytes a size n low high shows b lacks (inl under) = stored-outside bytes a size n b (inl (omega (arith, low, under))) ∙ shows b lacks (inl under)
rest_stays rest r room bytes a size n low high shows b lacks (inr above) = stored-outside bytes a size n b (inr (omega (arith, high, above))) ∙ shows b lacks (inr above)

-- behind the stack nothing stands
none_above : (s : Setting) (set : IsSet s) (as_ : List Activation) (data_room : Extent) (rooms : List Room) (at : ℕ) →
    IsStack s (record { activations = as_; data_room = data_room; rooms = map extent rooms }) → stack_top s ≤ at → cell_in rooms at ≡ Outside
none_above s set as_ data_room [] at stack high = refl
none_above s set as_ data_room (room ∷ rooms) at stack high =
    let part = parts_in_stack.of_stack s (record { activations = as_; data_room = data_room; rooms = map extent (room ∷ rooms) }) stack set (extent room) (Stackdata (map extent rooms) refl) in
    let top : room.address + length room.cells ≤ stack_top s = part.1 in
    in_none room rooms at (grind (arith, nat_tests, top, high))
    (none_above s set (drop 1 as_) data_room rooms at
    (older_are_stack.of_stack s (record { activations = as_; data_room = data_room; rooms = map extent (room ∷ rooms) }) stack 1) high)

module _ (s : Setting) (m : MemoryMap) (is_for : IsFor s m) where
  outside_lacks : (store : Store) (b : ℕ) → IsStack s (stack_of store) → is_in store.memory.data_room b ≡ false → (b < (stack_region s).address) ⊎ (top (stack_region s) ≤ b) →
      cell_at store.memory b ≡ Outside
  outside_lacks store b stack lacks (inl under) =
      let low : b < bottom (stack_region s) = omega (arith, under) in
      in_none store.memory.data_room store.memory.rooms b lacks (none_below s store b stack (omega (arith, low, stack.fits, bottom_is s m is_for)))
  outside_lacks store b stack lacks (inr above) = in_none store.memory.data_room store.memory.rooms b lacks
      (none_above s is_for.set store.activations (extent store.memory.data_room) store.memory.rooms b stack (omega (arith, above, top_is s m is_for)))

  -- data lies where it lay
  same_data : (store after : Store) (b : ℕ) → IsStack s (stack_of store) → IsStack s (stack_of after) → is_in after.memory.data_room b ≡ false → is_in store.memory.data_room b ≡ false
  same_data store after b stack stack' lacks =
      let begin : store.memory.data_room.address ≡ data_base = ap (λ (x : Extent). x.address) stack.data_room in
      let count : length store.memory.data_room.cells ≡ length (data_bytes s.program s.placement) = ap (λ (x : Extent). x.length) stack.data_room in
      let begin' : after.memory.data_room.address ≡ data_base = ap (λ (x : Extent). x.address) stack'.data_room in
      let count' : length after.memory.data_room.cells ≡ length (data_bytes s.program s.placement) = ap (λ (x : Extent). x.length) stack'.data_room in
      grind (arith, nat_tests, begin, count, begin', count', lacks)

  -- what is stored where cells stand
  pub rest_by_cells : (rest : ℕ → ℕ) (store after : Store) (bytes : ℕ → ℕ) (address size n : ℕ) → IsStack s (stack_of store) → IsStack s (stack_of after) →
      ((i : ℕ) → i < size → is_there (cell_at store.memory (address + i)) ≡ true) → RepresentsRest rest (stack_region s) store.memory.data_room bytes →
      RepresentsRest rest (stack_region s) after.memory.data_room (stored bytes address size n)
  rest_by_cells rest store after bytes address size n stack stack' there shows b lacks out = by (nat_le address b) refl (nat_lt b (address + size)) refl
    where
      before : is_in store.memory.data_room b ≡ false
      before = same_data store after b stack stack' lacks

      by : (low : Bool) → nat_le address b ≡ low → (high : Bool) → nat_lt b (address + size) ≡ high → stored bytes address size n b ≡ rest b
      by false low high also = stored-outside bytes address size n b (inl (grind (arith, nat_tests, low))) ∙ shows b before out
      by true low false also = stored-outside bytes address size n b (inr (grind (arith, nat_tests, also))) ∙ shows b before out
      by true low true also =
          let e : address + (b - address) ≡ b = grind (arith, nat_tests, low) in
          let has : is_there (cell_at store.memory (address + (b - address))) ≡ true = there (b - address) (grind (arith, nat_tests, low, also)) in
          let has' : is_there (cell_at store.memory b) ≡ true = subst (λ (k : ℕ). is_there (cell_at store.memory k) ≡ true) e has in
          let none : is_there (cell_at store.memory b) ≡ false = ap is_there (outside_lacks store b stack before out) in
          absurd (cc)
