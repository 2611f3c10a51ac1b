-- What is shown as a frame is made.
use Rattle.std.proofs.Common.{◌≡◌, ℕ, suc, ◌+◌, ◌-◌, ◌<◌, ◌≤◌, ◌^◌, refl, sym, ◌∙◌, ap, subst, arith, true, false, List, [], ◌∷◌, ◌++◌, length, map, Option, None}
use Rattle.std.specs.Prelude.{◌==◌, slice_index_or}
use Rattle.std.specs.List.{list_all}
use Rattle.std.proofs.lemmas.Bool.Decides.{nat_tests}
use Rattle.std.proofs.lemmas.Bool.{or_from, and_parts}
use Rattle.std.proofs.lemmas.List.{get_or-replicate, length-replicate}
use Rattle.std.proofs.lemmas.List.Sums.{sum_by-cons}
use Rattle.cmm_chain.proofs.Shared.{callee_saves_is_kept}
use Rattle.cmm_chain.specs.declared.frame.Frame.{Frame}
use Rattle.cmm_abi.specs.Registers.{is_callee_saves, is_scratch}
use Rattle.cmm_chain.specs.Contents.{Content, Contents, with_content}
use Rattle.cmm_chain.specs.Plans.{Plan, pair_offsets, saved_offsets}
use Rattle.cmm_chain.specs.Running.{Holdings, blank, entered, fixed_words, pair_words, saved_words, with_words}
use Rattle.cmm_program.specs.Frames.{frame_address, frame_size}
use Rattle.cmm_program.specs.Memory.{Room, Memory}
use Rattle.cmm_program.specs.State.{Setting, Activation, Store}
use Rattle.cmm_machine_laws.specs.Stacks.{IsStack, extent, stack_of, stackdata_of}
use Rattle.rv_asm.specs.declared.part.Label.{Label}
use Rattle.rv_table.specs.Machine.{MemoryMap, State, loaded, stored, bottom, Region}
use Rattle.cmm_calls.specs.Frames.{Makes, fixed_numbers, pair_numbers, saved_numbers, stored_words}
use Rattle.cmm_emit_laws.specs.Words.{Symbols, Represents, RepresentsCells, RepresentsRest, RepresentsRoom, RepresentsWords, Sits}
use Rattle.cmm_emit_laws.specs.Represented.{AreLandings, AreWordsAt, AreWritten, IsFor, IsMade, IsRepresented, IsWordAt, stack_region}
use Rattle.cmm_emit_laws.proofs.WrittenWords.{below_stays, cells_stay, shown_same, word_written}
use Rattle.cmm_emit_laws.proofs.Frames.{room_comes, word_sits}
use Rattle.cmm_emit_laws.proofs.Rest.{rest_stays}
use Rattle.cmm_emit_laws.proofs.Showing.{registers_same, values_same}

-- ---- words are written, one after the other

abbrev AreSitting : Region → Memory → ℕ → List (ℕ × Content) → Type 0
AreSitting w memory at [] = Unit {0}
AreSitting w memory at ((offset, c) ∷ rest) = Sits w memory (at + offset) × AreSitting w memory at rest

-- what one or many writes leave
record Written (y : Symbols) (rest : ℕ → ℕ) (w : Region) (memory : Memory) (contents : Contents) (before after : ℕ → ℕ) : Type 0 where
  words : RepresentsWords y w memory contents after
  cells : RepresentsCells memory after
  below : (b : ℕ) → b + 8 ≤ bottom w → loaded after b 8 ≡ loaded before b 8
  elsewhere : RepresentsRest rest w memory.data_room after

words_written : (y : Symbols) (rest : ℕ → ℕ) (w : Region) (memory : Memory) (at : ℕ) (numbers : List (ℕ × ℕ)) (words : List (ℕ × Content)) (contents : Contents) (first before : ℕ → ℕ) →
    AreSitting w memory at words → AreWritten y numbers words → Written y rest w memory contents first before →
    Written y rest w memory (with_words at words contents) first (stored_words at numbers before)
words_written y rest w memory at [] [] contents first before sit written so_far = so_far
words_written y rest w memory at ((offset, n) ∷ numbers) ((place, c) ∷ words) contents first before sit written so_far =
    subst (λ (o : ℕ). Written y rest w memory (with_words at words (with_content (at + place) c contents)) first (stored_words at numbers (stored before (at + o) 8 n))) (sym written.0)
    (words_written y rest w memory at numbers words (with_content (at + place) c contents) first (stored before (at + place) 8 n) sit.1 written.1.1.1 (record {
      words = word_written y w memory (at + place) n sit.0 contents before c written.1.1.0 written.1.0 so_far.words;
      cells = cells_stay y w memory (at + place) n sit.0 before so_far.cells;
      below = λ b low. below_stays y w memory (at + place) n sit.0 before b low ∙ so_far.below b low;
      elsewhere = rest_stays rest w memory.data_room before (at + place) 8 n (omega (arith, sit.0.low)) sit.0.high so_far.elsewhere;
    }))
words_written y rest w memory at [] (word ∷ words) contents first before sit written so_far = absurd written
words_written y rest w memory at (number ∷ numbers) [] contents first before sit written so_far = absurd written

-- ---- the words of a new frame represent its contents

written_pairs : (y : Symbols) (address_of : ℕ → ℕ) (q at k : ℕ) (pairs : List ℕ) (landings : List Label) → length landings ≡ length pairs → at < 2 ^ 64 →
    AreLandings y address_of q k landings → AreWritten y (pair_numbers address_of at pairs landings) (pair_words q at k pairs)
written_pairs y address_of q at k [] landings count small are = tt
written_pairs y address_of q at k (offset ∷ rest) [] count small are = absurd (omega arith)
written_pairs y address_of q at k (offset ∷ rest) (landing ∷ landings) count small are =
    (refl, (are.1.0, (are.0, (refl, (small, (refl, written_pairs y address_of q at (suc k) rest landings (omega arith) small are.1.1))))))

written_saved : (y : Symbols) (registers : ℕ → ℕ) (kept : Contents) (saved : List (ℕ × ℕ)) (numbers : List (ℕ × ℕ)) (words : List (ℕ × Content)) → ((r : ℕ) → registers r < 2 ^ 64) →
    ((r : ℕ) → is_callee_saves r ≡ true → Represents y (kept r) (registers r)) → list_all (λ word. is_callee_saves word.0) saved ≡ true → AreWritten y numbers words →
    AreWritten y (saved_numbers registers saved ++ numbers) (saved_words kept saved ++ words)
written_saved y registers kept [] numbers words small shows are rest = rest
written_saved y registers kept ((r, offset) ∷ saved) numbers words small shows are rest =
    let parts : (is_callee_saves r ≡ true) × (list_all (λ word. is_callee_saves word.0) saved ≡ true) = and_parts (is_callee_saves r) (list_all (λ word. is_callee_saves word.0) saved) are in
    (refl, (small r, (shows r parts.0, written_saved y registers kept saved numbers words small shows parts.1 rest)))

-- ---- and sit in it

sit_pairs : (s : Setting) (w : Region) (memory : Memory) (a : Activation) (q at k : ℕ) (pairs : List ℕ) → ((offset : ℕ) → IsWordAt s a offset → Sits w memory (at + offset)) →
    AreWordsAt s a (pair_offsets pairs) → AreSitting w memory at (pair_words q at k pairs)
sit_pairs s w memory a q at k [] sits all = tt
sit_pairs s w memory a q at k (offset ∷ rest) sits all = (sits offset all.0, (sits (offset + 8) all.1.0, sit_pairs s w memory a q at (suc k) rest sits all.1.1))

sit_saved : (s : Setting) (w : Region) (memory : Memory) (a : Activation) (q at : ℕ) (kept : Contents) (saved : List (ℕ × ℕ)) (pairs : List ℕ) →
    ((offset : ℕ) → IsWordAt s a offset → Sits w memory (at + offset)) → AreWordsAt s a (saved_offsets saved ++ pair_offsets pairs) →
    AreSitting w memory at (saved_words kept saved ++ pair_words q at 0 pairs)
sit_saved s w memory a q at kept [] pairs sits all = sit_pairs s w memory a q at 0 pairs sits all
sit_saved s w memory a q at kept ((r, offset) ∷ rest) pairs sits all = (sits offset all.0, sit_saved s w memory a q at kept rest pairs sits all.1)

-- ---- a frame comes

module _ (y : Symbols) (rest : ℕ → ℕ) (s : Setting) (m : MemoryMap) (is_for : IsFor s m) (plan : Plan) (q : ℕ) (h : Holdings) (store : Store) (carried : List ℕ) (a : Activation) (room : Room)
    (address_of : ℕ → ℕ) (landings : List Label) (t t' : State) (is_made : IsMade y s plan q a room address_of landings h) (small : (r : ℕ) → t.registers r < 2 ^ 64)
    (makes : Makes (plan.frame q).size (fixed_numbers address_of (plan.frame q) landings t.registers (t'.registers 2)) t t') (shows : IsRepresented y rest s h store carried t) where
  abbrev f : Frame
  f = plan.frame q

  abbrev at : ℕ
  at = h.point.at - f.size

  abbrev after : Store
  after = record store { activations = a ∷ store.activations; memory = record store.memory { rooms = room ∷ store.memory.rooms } }

  address : t'.registers 2 ≡ at
  address = let e : t'.registers 2 + f.size ≡ t.registers 2 = makes.frame in let g : t.registers 2 ≡ h.point.at = shows.holdings.frame in omega arith

  here : at ≡ frame_address s (a ∷ store.activations)
  here = omega (arith, sum_by-cons (frame_size s) a store.activations, shows.at, is_made.size)

  rooms_now : extent room ∷ map extent store.memory.rooms ≡ stackdata_of s (a ∷ store.activations)
  rooms_now = grind (arith, is_made.stackdata, here, shows.stack.rooms)

  new_stack : IsStack s (stack_of after)
  new_stack = record {
    fits = omega (arith, sum_by-cons (frame_size s) a store.activations, shows.at, is_made.size, is_made.fits, shows.stack.fits);
    rooms = rooms_now;
    data_room = shows.stack.data_room;
  }

  lookup : (o : ℕ) → IsWordAt s a o → Sits (stack_region s) after.memory (at + o)
  lookup o word = subst (λ (b : ℕ). Sits (stack_region s) after.memory (b + o)) (sym here) (word_sits s m is_for after a store.activations new_stack refl o word)

  -- the room of its stackdata has no byte that was written
  room_shown : RepresentsRoom room t.memory
  room_shown b inside =
      let count : length room.cells ≡ is_made.count = ap (length {A = Option ℕ}) is_made.unwritten ∙ length-replicate is_made.count None in
      let less : b - room.address < is_made.count = grind (arith, nat_tests, inside, count) in
      let none : slice_index_or room.cells (b - room.address) None ≡ None =
      ap (λ (c : List (Option ℕ)). slice_index_or c (b - room.address) None) is_made.unwritten ∙ get_or-replicate is_made.count (b - room.address) None None less in
      rw none tt

  blanked : RepresentsWords y (stack_region s) after.memory (blank at h.point.at h.contents) t.memory
  blanked = subst (λ (b : ℕ). RepresentsWords y (stack_region s) after.memory (blank b h.point.at h.contents) t.memory) (sym here)
      (subst (λ (b : ℕ). RepresentsWords y (stack_region s) after.memory (blank (frame_address s (a ∷ store.activations)) b h.contents) t.memory) (sym shows.at)
      (room_comes s m is_for y h.contents t.memory after a store.activations room store.memory.rooms new_stack refl refl shows.words))

  words : List (ℕ × Content)
  words = fixed_words f q at h.point.back h.point.kept

  numbers : List (ℕ × ℕ)
  numbers = fixed_numbers address_of f landings t.registers at

  are_written : AreWritten y numbers words
  unfolding numbers words
  are_written = (
    refl,
    (
      small 1,
      (
        shows.holdings.back,
        written_saved y t.registers h.point.kept f.saved (pair_numbers address_of at f.pairs landings) (pair_words q at 0 f.pairs) small shows.holdings.kept is_made.saves
            (written_pairs y address_of q at 0 f.pairs landings is_made.pairs (omega (arith, here, is_for.small)) is_made.addresses),
      ),
    ),
  )

  written : Written y rest (stack_region s) after.memory (with_words at words (blank at h.point.at h.contents)) t.memory (stored_words at numbers t.memory)
  unfolding numbers words
  written = words_written y rest (stack_region s) after.memory at numbers words (blank at h.point.at h.contents) t.memory t.memory
      (lookup f.return_at is_made.words.0, sit_saved s (stack_region s) after.memory a q at h.point.kept f.saved f.pairs lookup is_made.words.1) are_written
      (record { words = blanked; cells = (shows.cells.0, (room_shown, shows.cells.1)); below = λ b low. refl; elsewhere = shows.elsewhere })

  stored_there : t'.memory ≡ stored_words at numbers t.memory
  unfolding numbers
  stored_there = makes.memory ∙ ap (λ (b : ℕ). stored_words b (fixed_numbers address_of f landings t.registers b) t.memory) address

  keeps : (r : ℕ) → (r == 2) ≡ false → is_scratch r ≡ false → t'.registers r ≡ t.registers r
  keeps r two scratch = makes.registers r (or_from (r == 2) (is_scratch r) two scratch)

  pub made_shows : IsRepresented y rest s (entered plan q h.point h.contents) after carried t'
  unfolding numbers words
  made_shows = record {
    holdings = record {
      zero = keeps 0 refl refl ∙ shows.holdings.zero;
      frame = address;
      region = keeps 4 refl refl ∙ shows.holdings.region;
      back = tt;
      kept = λ r is. shown_same y (h.point.kept r) (t.registers r) (t'.registers r)
          (λ known. keeps r (grind (arith, nat_tests, is)) (callee_saves_is_kept r is)) (shows.holdings.kept r is);
      temps = λ r is. tt;
    };
    words = rw stored_there written.words;
    cells = rw stored_there written.cells;
    elsewhere = rw stored_there written.elsewhere;
    registers = rw stored_there (registers_same (stack_region s) store.registers t.memory (stored_words at numbers t.memory) (λ b less low. written.below b less) shows.registers);
    values = values_same (stack_region s) carried t t'
        (λ i less. keeps (10 + i) (grind (arith, nat_tests)) (grind (arith, nat_tests))) (λ b less low. rw stored_there (written.below b less)) shows.values;
    stack = new_stack;
    at = here;
  }
