-- What is read of a shown state: places of the activation, and global registers, which are written as well.
use Rattle.std.proofs.Common.{◌≡◌, ◌≢◌, ◌⊎◌, inl, inr, ℕ, ◌+◌, ◌%◌, ◌<◌, ◌≤◌, ◌^◌, refl, sym, ◌∙◌, ap, subst, arith, Bool, true, false, List, [], ◌∷◌, length, length-set}
use Rattle.std.specs.Prelude.{◌==◌, nat_lt, slice_index_or, slice_set, IsTrue}
use Rattle.std.proofs.lemmas.Bool.Decides.{nat_tests}
use Rattle.std.proofs.lemmas.Grind.{common_steps}
use Rattle.cmm_abi.specs.Regions.{global_address}
use Rattle.cmm_chain.specs.declared.frame.Location.{Location}
use Rattle.cmm_chain.specs.declared.frame.Location.TheVariants.{Slot, Saved, Temp}
use Rattle.cmm_chain.specs.Contents.{Content, Number}
use Rattle.cmm_chain.specs.Running.{Holdings, held}
use Rattle.cmm_program.specs.Memory.{Memory, Outside, cell_at, rooms_of}
use Rattle.cmm_program.specs.State.{Setting, Activation, Store}
use Rattle.rv_table.proofs.Shared.{loaded-above, loaded-below, loaded-same, stored-outside}
use Rattle.rv_table.specs.Machine.{LiesIn, MemoryMap, Region, State, is_accessible, loaded, region_base, stored}
use Rattle.cmm_effects.specs.Changes.{CanReach, Writes, read_at}
use Rattle.cmm_emit_laws.specs.Words.{Symbols, Represents, Sits}
use Rattle.cmm_emit_laws.specs.Represented.{IsFor, IsPlaceOf, IsRepresented, stack_region}
use Rattle.cmm_emit_laws.proofs.Rest.{rest_stays}
use Rattle.cmm_emit_laws.proofs.WrittenWords.{rooms_same, shown_same}
use Rattle.cmm_emit_laws.proofs.Frames.{region_free}
use Rattle.cmm_emit_laws.proofs.Showing.{holdings_same, no_values, own_word_sits}

shown_number : (y : Symbols) (c : Content) (n x : ℕ) → c ≡ Number n → Represents y c x → x ≡ n
shown_number y c n x is shows = subst (λ (k : Content). Represents y k x) is shows

-- instructions reach a word that sits in the stack of a region of the memory
pub sits_accessible : (r : Region) (m : MemoryMap) (memory : Memory) (b : ℕ) → LiesIn r m → Sits r memory b → IsTrue (is_accessible m b 8)
sits_accessible r m memory b lies sits =
    let low : region_base ≤ b = omega (arith, sits.low, lies.low) in
    let high : b + 8 ≤ region_base + m.region_length = omega (arith, sits.high, lies.high) in
    let aligned : b % 8 ≡ 0 = sits.aligned in
    grind (arith, nat_tests, low, high, aligned)

module _ (y : Symbols) (rest : ℕ → ℕ) (s : Setting) (m : MemoryMap) (is_for : IsFor s m) (h : Holdings) (store : Store) (carried : List ℕ) (a : Activation) (older : List Activation) (t : State)
    (youngest : store.activations ≡ a ∷ older) (shows : IsRepresented y rest s h store carried t) where
  pub held_is_read : (place : Location) (n : ℕ) → IsPlaceOf s a place → held h place ≡ Number n → read_at place t ≡ n
  held_is_read (Slot offset) n is holds =
      ap (λ (at : ℕ). loaded t.memory (at + offset) 8) shows.holdings.frame
      ∙ shown_number y (h.contents (h.point.at + offset)) n (loaded t.memory (h.point.at + offset) 8) holds (shows.words.shown (h.point.at + offset))
  held_is_read (Saved r) n is holds = shown_number y (h.point.kept r) n (t.registers r) holds (shows.holdings.kept r is)
  held_is_read (Temp r) n is holds = shown_number y (h.temps r) n (t.registers r) holds (shows.holdings.temps r is)

  pub place_is_reachable : (place : Location) → IsPlaceOf s a place → CanReach place m t
  place_is_reachable (Slot offset) is =
      let sits : Sits (stack_region s) store.memory (h.point.at + offset) = own_word_sits y rest s m is_for h store a older t t youngest offset carried is shows in
      subst (λ (at : ℕ). (at + offset < 2 ^ 64) × IsTrue (is_accessible m (at + offset) 8)) (sym shows.holdings.frame)
      ((omega (arith, sits.high, is_for.lies.narrow), sits_accessible (stack_region s) m store.memory (h.point.at + offset) is_for.lies sits))
  place_is_reachable (Saved r) is = tt
  place_is_reachable (Temp r) is = tt

-- ---- global registers

module _ (y : Symbols) (rest : ℕ → ℕ) (s : Setting) (m : MemoryMap) (is_for : IsFor s m) (h : Holdings) (store : Store) (r : ℕ) (within : r < length store.registers) (t : State) where
  pub register_is_read : (carried : List ℕ) → IsRepresented y rest s h store carried t → loaded t.memory (global_address (stack_region s) r) 8 ≡ slice_index_or store.registers r 0
  register_is_read carried shows = shows.registers.1 r within

  module _ (n : ℕ) (small : n < 2 ^ 64) (u : State) (writes : Writes (global_address (stack_region s) r) 8 n t u) (shows : IsRepresented y rest s h store [] t) where
    free : (k : ℕ) (low : Bool) → nat_lt k (global_address (stack_region s) r) ≡ low → (high : Bool) → nat_lt k (global_address (stack_region s) r + 8) ≡ high →
        (stored t.memory (global_address (stack_region s) r) 8 n k ≡ t.memory k) ⊎ (cell_at store.memory k ≡ Outside)
    free k true low high top = inl (stored-outside t.memory (global_address (stack_region s) r) 8 n k (inl (grind (arith, nat_tests))))
    free k false low false top = inl (stored-outside t.memory (global_address (stack_region s) r) 8 n k (inr (grind (arith, nat_tests))))
    free k false low true top =
        let l : global_address (stack_region s) r ≤ k = grind (arith, nat_tests) in
        let g : k < global_address (stack_region s) r + 8 = grind (arith, nat_tests) in
        inr (region_free s m is_for store shows.stack k (omega (arith, l)) (omega (arith, g, within, shows.registers.0)))

    other : (j : ℕ) (low : Bool) → nat_lt j r ≡ low → j ≢ r → loaded (stored t.memory (global_address (stack_region s) r) 8 n) (global_address (stack_region s) j) 8 ≡ loaded t.memory (global_address (stack_region s) j) 8
    other j true low d = let l : j < r = grind (arith, nat_tests) in loaded-below t.memory (global_address (stack_region s) r) 8 n (global_address (stack_region s) j) 8 (omega (arith, l))
    other j false low d = let l : r < j = grind (arith, nat_tests, d) in loaded-above t.memory (global_address (stack_region s) r) 8 n (global_address (stack_region s) j) 8 (omega (arith, l))

    now : (k : ℕ) → k < length store.registers → (test : Bool) → (k == r) ≡ test →
        loaded (stored t.memory (global_address (stack_region s) r) 8 n) (global_address (stack_region s) k) 8 ≡ slice_index_or (slice_set store.registers r n) k 0
    now k under true test =
        let e : k ≡ r = grind (arith, nat_tests) in
        let p : loaded (stored t.memory (global_address (stack_region s) r) 8 n) (global_address (stack_region s) r) 8 ≡ n = loaded-same t.memory (global_address (stack_region s) r) 8 n ∙ omega (arith, small) in
        let q : slice_index_or (slice_set store.registers r n) r 0 ≡ n = grind (arith, nat_tests, common_steps, within) in
        subst (λ (j : ℕ). loaded (stored t.memory (global_address (stack_region s) r) 8 n) (global_address (stack_region s) j) 8 ≡ slice_index_or (slice_set store.registers r n) j 0) (sym e) (p ∙ sym q)
    now k under false test =
        let differ : k ≢ r = grind (arith, nat_tests) in
        let q : slice_index_or (slice_set store.registers r n) k 0 ≡ slice_index_or store.registers k 0 = grind (arith, nat_tests, common_steps, within, differ) in
        other k (nat_lt k r) refl differ ∙ shows.registers.1 k under ∙ sym q

    pub register_shows : IsRepresented y rest s h (record store { registers = slice_set store.registers r n }) [] u
    register_shows = record {
      holdings = holdings_same y (stack_region s) h t.registers u.registers writes.registers shows.holdings;
      words = rw writes.memory (record {
        sits = shows.words.sits;
        shown = λ b. shown_same y (h.contents b) (loaded t.memory b 8) (loaded (stored t.memory (global_address (stack_region s) r) 8 n) b 8)
            (λ known. loaded-above t.memory (global_address (stack_region s) r) 8 n b 8 (omega (arith, (shows.words.sits b known).low, within, shows.registers.0))) (shows.words.shown b);
      });
      cells = rw writes.memory (rooms_same (rooms_of store.memory) t.memory (stored t.memory (global_address (stack_region s) r) 8 n)
          (λ k. free k (nat_lt k (global_address (stack_region s) r)) refl (nat_lt k (global_address (stack_region s) r + 8)) refl) shows.cells);
      registers = rw writes.memory ((
        rw (length-set store.registers r n) (shows.registers.0),
        λ k under. now k (rw (length-set store.registers r n) at under) (k == r) refl,
      ));
      elsewhere = rw writes.memory (rest_stays rest (stack_region s) store.memory.data_room t.memory (global_address (stack_region s) r) 8 n (omega arith)
          (omega (arith, within, shows.registers.0)) shows.elsewhere);
      values = no_values (stack_region s) u;
      stack = shows.stack;
      at = shows.at;
    }
