-- A chain on its own is a stopped program, and a stopped program has a chain.
use Rattle.std.proofs.Common.{◌≡◌, ℕ, ◌+◌, ◌-◌, ◌<◌, false, List, [], ◌∷◌, length, map, Option, None, refl, ap, ◌∙◌, subst, arith}
use Rattle.std.proofs.lemmas.Bool.Decides.{nat_tests}
use Rattle.std.proofs.lemmas.List.{get_or-replicate, length-replicate}
use Rattle.rv_table.specs.Machine.{data_base}
use Rattle.cmm_machine_laws.specs.Stacks.{Extent, extent}
use Rattle.cmm_program.specs.Layout.{data_bytes}
use Rattle.cmm_program.specs.Memory.{Outside, Room, cell_in, is_in, rooms_of}
use Rattle.cmm_emit_laws.specs.Words.{RepresentsRoom, RepresentsRooms, Sits}
use Rattle.cmm_emit_laws.specs.Represented.{stack_region}
use Rattle.cmm_emit_laws.proofs.Shared.{in_none, no_values, not_in}
use Rattle.cmm_client_laws.specs.Alone.{ChainsAreStopped, StoppedAreChains, bare_store, unwritten}

-- ---- rooms without written bytes

same_extent : (e : Extent) → extent (unwritten e) ≡ e
same_extent e = ap (λ (n : ℕ). record { address = e.address; length = n }) (length-replicate {A = Option ℕ} e.length None)

same_extents : (es : List Extent) → map extent (map unwritten es) ≡ es
same_extents [] = refl
same_extents (e ∷ es) = ap (λ (x : Extent). x ∷ map extent (map unwritten es)) (same_extent e) ∙ ap (λ (xs : List Extent). e ∷ xs) (same_extents es)

none_written : (e : Extent) (bytes : ℕ → ℕ) → RepresentsRoom (unwritten e) bytes
none_written e bytes a inside =
    let count : length (unwritten e).cells ≡ e.length = length-replicate {A = Option ℕ} e.length None in
    let less : a - e.address < e.length = grind (arith, nat_tests, inside, count) in
    rw (get_or-replicate {A = Option ℕ} e.length (a - e.address) None None less) tt

none_written_each : (es : List Extent) (bytes : ℕ → ℕ) → RepresentsRooms (map unwritten es) bytes
none_written_each [] bytes = tt
none_written_each (e ∷ es) bytes = (none_written e bytes, none_written_each es bytes)

-- ---- where nothing stands in rooms, nothing does in those of the same extents

lacks_too : (room : Room) (a : ℕ) → is_in room a ≡ false → is_in (unwritten (extent room)) a ≡ false
lacks_too room a lacks =
    let count : length (unwritten (extent room)).cells ≡ length room.cells = length-replicate {A = Option ℕ} (length room.cells) None in
    grind (arith, nat_tests, lacks, count)

outside_too : (rooms : List Room) (a : ℕ) → cell_in rooms a ≡ Outside → cell_in (map unwritten (map extent rooms)) a ≡ Outside
outside_too [] a is = refl
outside_too (room ∷ rooms) a is =
    let both = not_in room rooms a is in
    in_none (unwritten (extent room)) (map unwritten (map extent rooms)) a (lacks_too room a both.0) (outside_too rooms a both.1)

-- ---- both ways

pub chains_are_stopped : ChainsAreStopped
chains_are_stopped s c y i h activations t chain = record {
  suspended = chain.suspended;
  walked = chain.walked;
  shown = record {
    holdings = chain.holdings;
    words = chain.words;
    cells = (none_written (record { address = data_base; length = length (data_bytes s.program s.placement) }) t.memory, none_written_each _ t.memory);
    registers = (omega arith, λ k less. absurd (omega arith));
    elsewhere = λ a lacks out. refl;
    values = no_values (stack_region s) t;
    stack = record { fits = chain.fits; rooms = same_extents _; data_room = same_extent (record { address = data_base; length = length (data_bytes s.program s.placement) }) };
    at = chain.at;
  };
  sound = chain.sound;
}

pub stopped_are_chains : StoppedAreChains
stopped_are_chains s c y rest i at t same = record {
  suspended = same.suspended;
  walked = same.walked;
  fits = same.shown.stack.fits;
  at = same.shown.at;
  holdings = same.shown.holdings;
  words = record { sits = λ a known. sits_too a (same.shown.words.sits a known); shown = same.shown.words.shown };
  sound = same.sound;
}
  where
    -- the rooms of the bare store have the extents of those that are there
    same_rooms : map unwritten (map extent (rooms_of at.store.memory)) ≡ rooms_of (bare_store s at.store.activations).memory
    same_rooms =
        ap (λ (e : Extent). unwritten e ∷ map unwritten (map extent at.store.memory.rooms)) same.shown.stack.data_room
        ∙ ap (λ (es : List Extent). unwritten (record { address = data_base; length = length (data_bytes s.program s.placement) }) ∷ map unwritten es) same.shown.stack.rooms

    sits_too : (a : ℕ) → Sits (stack_region s) at.store.memory a → Sits (stack_region s) (bare_store s at.store.activations).memory a
    sits_too a sits = record {
      aligned = sits.aligned;
      low = sits.low;
      high = sits.high;
      apart = λ k less. subst (λ (rooms : List Room). cell_in rooms (a + k) ≡ Outside) same_rooms (outside_too (rooms_of at.store.memory) (a + k) (sits.apart k less));
    }
