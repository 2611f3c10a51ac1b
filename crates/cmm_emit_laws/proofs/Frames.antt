-- Words of the youngest frame sit; a frame comes, and frames go.
use Rattle.std.proofs.Common.{◌≡◌, ◌⊎◌, inl, inr, ℕ, zero, suc, ◌+◌, ◌%◌, ◌<◌, ◌≤◌, refl, sym, ◌∙◌, ap, subst, arith, Bool, true, false, List, [], ◌∷◌, length, map, drop}
use Rattle.std.specs.Prelude.{◌&&◌, nat_le, nat_lt}
use Rattle.std.proofs.lemmas.Bool.Decides.{nat_tests}
use Rattle.cmm_chain.specs.Contents.{Unknown, Contents}
use Rattle.cmm_chain.specs.Running.{blank}
use Rattle.cmm_program.specs.Layout.{data_bytes}
use Rattle.cmm_program.specs.Memory.{Outside, Room, Memory, is_in, cell_in, cell_at}
use Rattle.cmm_program.specs.Frames.{frame_size, frame_address}
use Rattle.cmm_program.specs.State.{Setting, Activation, Store, stack_top}
use Rattle.cmm_machine_laws.specs.Stacks.{Extent, extent, IsStack, LiesIn, Stackdata, stack_of, stackdata_of, stackdata_at}
use Rattle.cmm_machine_laws.proofs.Shared.{frames_adjoin, frames_aligned, none_below, own_alone, parts_in_frame}
use Rattle.rv_table.specs.Machine.{MemoryMap, Region, bottom, data_base, loaded}
use Rattle.cmm_emit_laws.specs.Words.{Symbols, Represents, is_known, Sits, RepresentsWords, RepresentsRooms, IsRegionFree}
use Rattle.cmm_emit_laws.specs.Represented.{IsFor, IsWordAt, stack_region}
use Rattle.cmm_emit_laws.proofs.Regions.{bottom_is, top_is}
use Rattle.cmm_emit_laws.proofs.WrittenWords.{not_in, in_none}

module _ (s : Setting) (m : MemoryMap) (is_for : IsFor s m) where
  -- data is below the region of the stack
  data_lacks : (store : Store) (at : ℕ) → IsStack s (stack_of store) → (stack_region s).address ≤ at → is_in store.memory.data_room at ≡ false
  data_lacks store at stack low =
      let begin : store.memory.data_room.address ≡ data_base = ap (λ (x : Extent). x.address) stack.data_room in
      let count : length store.memory.data_room.cells ≡ length (data_bytes s.program s.placement) = ap (λ (x : Extent). x.length) stack.data_room in
      grind (arith, nat_tests, is_for.data_length, is_for.region, low, begin, count)

  -- no frame begins below the stack
  frames_above : (store : Store) → IsStack s (stack_of store) → bottom (stack_region s) ≤ frame_address s store.activations
  frames_above store stack = omega (arith, stack.fits, bottom_is s m is_for)

  -- nothing stands in the region below the stack
  pub region_free : (store : Store) → IsStack s (stack_of store) → IsRegionFree (stack_region s) store.memory
  region_free store stack at low high =
      let above : bottom (stack_region s) ≤ frame_address s store.activations = frames_above store stack in
      in_none store.memory.data_room store.memory.rooms at (data_lacks store at stack low) (none_below s store at stack (omega arith))

  -- ---- the youngest frame

  module _ (store : Store) (a : Activation) (older : List Activation) (stack : IsStack s (stack_of store)) (youngest : store.activations ≡ a ∷ older) where
    -- it ends where the next older one begins
    pub ends_at_next : frame_address s store.activations + frame_size s a ≡ frame_address s older
    ends_at_next = ap (λ as_. frame_address s as_ + frame_size s a) youngest ∙ frames_adjoin.of_stack s (stack_of store) stack a older youngest

    pub frame_aligned : frame_address s store.activations % 16 ≡ 0
    frame_aligned = (frames_aligned.of_stack s (stack_of store) stack is_for.set).0

    -- its room is that of its stackdata
    room_here : (room : Room) (rooms : List Room) → store.memory.rooms ≡ room ∷ rooms → extent room ≡ stackdata_at s a (frame_address s store.activations)
    room_here room rooms is =
        let all : map extent (room ∷ rooms) ≡ stackdata_of s (a ∷ older) = ap (map extent) (sym is) ∙ stack.rooms ∙ ap (stackdata_of s) youngest in
        let first : extent room ≡ stackdata_at s a (frame_address s (a ∷ older)) = grind (arith, all) in
        first ∙ ap (λ as_. stackdata_at s a (frame_address s as_)) (sym youngest)

    no_room : store.memory.rooms ≡ [] → ⊥
    no_room is =
        let all : map extent [] ≡ stackdata_of s (a ∷ older) = ap (map extent) (sym is) ∙ stack.rooms ∙ ap (stackdata_of s) youngest in
        absurd (cc)

    -- a byte of a word of it
    lacks_own : (offset i : ℕ) → IsWordAt s a offset → i < 8 → cell_in store.memory.rooms (frame_address s store.activations + offset + i) ≡ Outside
    lacks_own offset i word less = by store.memory.rooms refl
      where
        at : ℕ
        at = frame_address s store.activations + offset + i

        below : frame_address s store.activations + offset + i < frame_address s older
        below = omega (arith, ends_at_next, word.inside, less)

        by : (rooms : List Room) → store.memory.rooms ≡ rooms → cell_in store.memory.rooms (frame_address s store.activations + offset + i) ≡ Outside
        by [] is = absurd (no_room is)
        by (room ∷ rooms) is =
            let clear : (frame_address s store.activations + offset + i < room.address) ⊎ (room.address + length room.cells ≤ frame_address s store.activations + offset + i) =
            subst (λ (e : Extent). (frame_address s store.activations + offset + i < e.address) ⊎ (e.address + e.length ≤ frame_address s store.activations + offset + i))
            (sym (room_here room rooms is)) (word.clear (frame_address s store.activations) i less) in
            own_alone s store a older room rooms (frame_address s store.activations + offset + i) stack youngest is below (grind (arith, nat_tests, clear))

    -- a word of it sits
    pub word_sits : (offset : ℕ) → IsWordAt s a offset → Sits (stack_region s) store.memory (frame_address s store.activations + offset)
    word_sits offset word =
        let above : bottom (stack_region s) ≤ frame_address s store.activations = frames_above store stack in
        let highest : frame_address s older ≤ stack_top s = omega arith in
        record {
          aligned = omega (arith, frame_aligned, word.aligned);
          low = omega (arith, above);
          high = omega (arith, ends_at_next, word.inside, highest, top_is s m is_for);
          apart = λ i less.
              in_none store.memory.data_room store.memory.rooms (frame_address s store.activations + offset + i)
              (data_lacks store (frame_address s store.activations + offset + i) stack (omega (arith, above))) (lacks_own offset i word less);
        }

  -- ---- a frame comes: what is known of words outside of it stays known

  module _ (y : Symbols) (contents : Contents) (bytes : ℕ → ℕ) (store : Store) (a : Activation) (older : List Activation) (room : Room) (rooms : List Room)
      (stack : IsStack s (stack_of store)) (youngest : store.activations ≡ a ∷ older) (first : store.memory.rooms ≡ room ∷ rooms) where
    abbrev at : ℕ
    at = frame_address s store.activations

    abbrev to : ℕ
    to = frame_address s older

    abbrev before : Memory
    before = record store.memory { rooms = rooms }

    room_inside : (at ≤ room.address) × (room.address + length room.cells ≤ to)
    room_inside =
        let lies : LiesIn s store.activations (extent room) =
        parts_in_frame.of_stack s (stack_of store) stack is_for.set (extent room) (Stackdata (map extent rooms) (ap (map extent) first)) in
        let here : frame_address s (drop 1 store.activations) ≡ to = ap (λ (as_ : List Activation). frame_address s (drop 1 as_)) youngest in
        (lies.0, omega (arith, lies.1, here))

    still_lacks : (b i : ℕ) → Sits (stack_region s) before b → (b + 8 ≤ at) ⊎ (to ≤ b) → i < 8 → cell_at store.memory (b + i) ≡ Outside
    still_lacks b i sits out less =
        let old : (is_in store.memory.data_room (b + i) ≡ false) × (cell_in rooms (b + i) ≡ Outside) = not_in store.memory.data_room rooms (b + i) (sits.apart i less) in
        let other : is_in room (b + i) ≡ false = grind (arith, nat_tests, out, room_inside.0, room_inside.1, less) in
        in_none store.memory.data_room store.memory.rooms (b + i) old.0
        (ap (λ (rs : List Room). cell_in rs (b + i)) first ∙ in_none room rooms (b + i) other old.1)

    still_sits : (b : ℕ) → (b + 8 ≤ at) ⊎ (to ≤ b) → Sits (stack_region s) before b → Sits (stack_region s) store.memory b
    still_sits b out sits = record { aligned = sits.aligned; low = sits.low; high = sits.high; apart = λ i less. still_lacks b i sits out less }

    pub room_comes : RepresentsWords y (stack_region s) before contents bytes → RepresentsWords y (stack_region s) store.memory (blank at to contents) bytes
    room_comes shows = record {
      sits = λ b known. sits_at b (nat_le at b) refl (nat_lt b to) refl known;
      shown = λ b. shown_at b (nat_le at b && nat_lt b to);
    }
      where
        sits_at : (b : ℕ) (low : Bool) → nat_le at b ≡ low → (high : Bool) → nat_lt b to ≡ high →
            is_known (elim (low && high) [ true ↦ Unknown | false ↦ contents b ]) ≡ true → Sits (stack_region s) store.memory b
        sits_at b false low high top known =
            let sits : Sits (stack_region s) before b = shows.sits b known in
            let less : b < at = grind (arith, nat_tests) in
            still_sits b (inl (omega (arith, sits.aligned, frame_aligned store a older stack youngest, less))) sits
        sits_at b true low false top known = still_sits b (inr (grind (arith, nat_tests))) (shows.sits b known)
        sits_at b true low true top known = absurd (cc)

        shown_at : (b : ℕ) (test : Bool) → Represents y (elim test [ true ↦ Unknown | false ↦ contents b ]) (loaded bytes b 8)
        shown_at b true = tt
        shown_at b false = shows.shown b

-- ---- rooms go

pub lack_fewer : (rooms : List Room) (n a : ℕ) → cell_in rooms a ≡ Outside → cell_in (drop n rooms) a ≡ Outside
lack_fewer rooms zero a lacks = lacks
lack_fewer [] (suc n) a lacks = refl
lack_fewer (room ∷ rooms) (suc n) a lacks = lack_fewer rooms n a (not_in room rooms a lacks).1

pub show_fewer : (rooms : List Room) (n : ℕ) (bytes : ℕ → ℕ) → RepresentsRooms rooms bytes → RepresentsRooms (drop n rooms) bytes
show_fewer rooms zero bytes shows = shows
show_fewer [] (suc n) bytes shows = tt
show_fewer (room ∷ rooms) (suc n) bytes shows = show_fewer rooms n bytes shows.1

pub rooms_go : (y : Symbols) (r : Region) (memory : Memory) (n : ℕ) (contents : Contents) (bytes : ℕ → ℕ) →
    RepresentsWords y r memory contents bytes → RepresentsWords y r (record memory { rooms = drop n memory.rooms }) contents bytes
rooms_go y r memory n contents bytes before = record {
  sits = λ b known. let sits = before.sits b known in record {
    aligned = sits.aligned;
    low = sits.low;
    high = sits.high;
    apart = λ i less.
        let old = not_in memory.data_room memory.rooms (b + i) (sits.apart i less) in
        in_none memory.data_room (drop n memory.rooms) (b + i) old.0 (lack_fewer memory.rooms n (b + i) old.1);
  };
  shown = before.shown;
}
