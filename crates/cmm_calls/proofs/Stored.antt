-- Values come to memory.
use Rattle.std.proofs.Common.{◌≡◌, inl, inr, ℕ, ◌+◌, ◌-◌, ◌*◌, ◌<◌, ◌≤◌, Bool, true, false, List, [], ◌∷◌, ◌++◌, length, take, get_or, refl, sym, ◌∙◌, ap, subst, arith}
use Rattle.std.specs.List.{All}
use Rattle.std.proofs.lemmas.Bool.{cases_lt}
use Rattle.std.proofs.lemmas.List.Elements.{All-get_or}
use Rattle.std.proofs.lemmas.List.{length-take-le, take_all, take_more}
use Rattle.cmm_abi.specs.Regions.{value_place, word_at}
use Rattle.cmm_chain.specs.declared.frame.Frame.{Frame}
use Rattle.cmm_chain.specs.declared.frame.Location.TheVariants.{Slot, Saved, Temp}
use Rattle.rv_asm.specs.Parts.{Code}
use Rattle.rv_asm.specs.declared.part.Part.{Part}
use Rattle.rv_table.proofs.Shared.{loaded-below}
use Rattle.rv_table.specs.Machine.{Region, State, bottom, loaded, stored}
use Rattle.cmm_effects.proofs.Shared.{adds_none, adds_then, adds_weaker, runs_none}
use Rattle.cmm_effects.specs.Changes.{Writes}
use Rattle.cmm_effects.specs.Pieces.{Adds}
use Rattle.cmm_select.specs.declared.destination.Destination.{Destination}
use Rattle.cmm_select.specs.declared.destination.Destination.TheVariants.{Place, Register}
use Rattle.cmm_calls.proofs.Copied.{destination_reached, values_to-append}
use Rattle.cmm_calls.proofs.Moved.{by_both, by_weaker}
use Rattle.cmm_calls.proofs.Standing.{frame_stays}
use Rattle.cmm_calls.proofs.Taken.{no_scratch_value, value_in_area, value_in_register}
use Rattle.cmm_calls.specs.Copying.{IsGlobal, IsGlobalBy, is_destination, values_to}
use Rattle.cmm_calls.specs.Values.{HasRegion}
use Rattle.cmm_calls.specs.inside.Arriving.{CopiesIf, HasStored, after_memory, cost_if, is_stored, put_memory, store_cost, stored_count}
use Rattle.cmm_calls.specs.inside.Giving.{one_if}
use Rattle.cmm_calls.specs.inside.Moves.{PassesBy}
use Rattle.cmm_calls.specs.inside.Taking.{CanCopyIn}

after_memory-append : (at : ℕ → ℕ) (xs : List (Destination × ℕ)) (d : Destination) (n frame region : ℕ) (m : ℕ → ℕ) →
    after_memory at (xs ++ (d, n) ∷ []) frame region m ≡ put_memory at d n frame region (after_memory at xs frame region m)
after_memory-append at [] d n frame region m = refl
after_memory-append at ((e, k) ∷ xs) d n frame region m = after_memory-append at xs d n frame region (put_memory at e k frame region m)

module _ (region : Region) (at : ℕ → ℕ) (xs : List Destination) (d : Destination) (i : ℕ) (s t u : State) (count : length xs ≡ i) where
  memory_then : HasStored region at xs s t → u.memory ≡ put_memory at d (word_at s (value_place region i)) (s.registers 2) (s.registers 4) t.memory →
      u.memory ≡ after_memory at (values_to region 0 (xs ++ d ∷ []) s) (s.registers 2) (s.registers 4) s.memory
  memory_then first is =
      let e : i ≡ 0 + length xs = omega (arith, count) in
      is ∙ ap (put_memory at d (word_at s (value_place region i)) (s.registers 2) (s.registers 4)) first.memory
      ∙ ap (λ (n : ℕ). put_memory at d (word_at s (value_place region n)) (s.registers 2) (s.registers 4) (after_memory at (values_to region 0 xs s) (s.registers 2) (s.registers 4) s.memory)) e
      ∙ sym (after_memory-append at (values_to region 0 xs s) d (word_at s (value_place region (0 + length xs))) (s.registers 2) (s.registers 4) s.memory)
      ∙ ap (λ (ws : List (Destination × ℕ)). after_memory at ws (s.registers 2) (s.registers 4) s.memory) (sym (values_to-append region 0 xs (d ∷ []) s))

  -- what is stored behind the argument area
  stored_then : (a n : ℕ) → region.address + 8 * 56 ≤ a → HasStored region at xs s t → Writes a 8 n t u → stored t.memory a 8 n ≡ put_memory at d (word_at s (value_place region i)) (s.registers 2) (s.registers 4) t.memory →
      HasStored region at (xs ++ d ∷ []) s u
  stored_then a n high first wrote is = record {
    registers = λ r kept. wrote.registers r kept ∙ first.registers r kept;
    memory = memory_then first (wrote.memory ∙ is);
    values = λ k few. elim (cases_lt k 8) [
      | inl near ↦ value_in_register region k u near ∙ wrote.registers (10 + k) (no_scratch_value k) ∙ sym (value_in_register region k t near) ∙ first.values k few
      | inr far ↦ value_in_area region k u far ∙ ap (λ (m : ℕ → ℕ). loaded m (region.address + 8 * (k - 8)) 8) wrote.memory
          ∙ loaded-below t.memory a 8 n (region.address + 8 * (k - 8)) 8 (omega (arith, high, few, far)) ∙ sym (value_in_area region k t far) ∙ first.values k few
    ];
  }

  same_then : HasStored region at xs s t → t ≡ u → ((m : ℕ → ℕ) → m ≡ put_memory at d (word_at s (value_place region i)) (s.registers 2) (s.registers 4) m) → HasStored region at (xs ++ d ∷ []) s u
  same_then first is none =
      subst (λ (w : State). w.memory ≡ t.memory → HasStored region at (xs ++ d ∷ []) s w) is
      (λ e. record { registers = first.registers; memory = plain first; values = first.values }) (ap (λ (w : State). w.memory) (sym is))
    where
      plain : HasStored region at xs s t → t.memory ≡ after_memory at (values_to region 0 (xs ++ d ∷ []) s) (s.registers 2) (s.registers 4) s.memory
      plain first =
          let e : i ≡ 0 + length xs = omega (arith, count) in
          none t.memory ∙ ap (put_memory at d (word_at s (value_place region i)) (s.registers 2) (s.registers 4)) first.memory
          ∙ ap (λ (n : ℕ). put_memory at d (word_at s (value_place region n)) (s.registers 2) (s.registers 4) (after_memory at (values_to region 0 xs s) (s.registers 2) (s.registers 4) s.memory)) e
          ∙ sym (after_memory-append at (values_to region 0 xs s) d (word_at s (value_place region (0 + length xs))) (s.registers 2) (s.registers 4) s.memory)
          ∙ ap (λ (ws : List (Destination × ℕ)). after_memory at ws (s.registers 2) (s.registers 4) s.memory) (sym (values_to-append region 0 xs (d ∷ []) s))

store_step : (region : Region) (at : ℕ → ℕ) (xs : List Destination) (d : Destination) (i : ℕ) (s t u : State) (now : Bool) → length xs ≡ i → i < 64 → now ≡ is_stored d → IsGlobalBy at d → bottom region ≤ s.registers 2 →
    s.registers 4 ≡ region.address → HasStored region at xs s t → CopiesIf now at d (word_at t (value_place region i)) t u → HasStored region at (xs ++ d ∷ []) s u
store_step region at xs (Place (Slot o)) i s t u true count few is global low is_region first wrote =
    let frame = first.registers 2 refl in
    stored_then region at xs (Place (Slot o)) i s t u count (t.registers 2 + o) (word_at t (value_place region i)) (omega (arith, low, frame)) first wrote
    (ap (λ (a : ℕ). stored t.memory (a + o) 8 (word_at t (value_place region i))) frame ∙ ap (λ (n : ℕ). stored t.memory (s.registers 2 + o) 8 n) (first.values i few))
store_step region at xs (Register l) i s t u true count few is global low is_region first wrote =
    let same = first.registers 4 refl in
    stored_then region at xs (Register l) i s t u count (t.registers 4 + at l.number) (word_at t (value_place region i)) (behind (t.registers 4) (at l.number) (same ∙ is_region) global) first wrote
    (ap (λ (a : ℕ). stored t.memory (a + at l.number) 8 (word_at t (value_place region i))) same ∙ ap (λ (n : ℕ). stored t.memory (s.registers 4 + at l.number) 8 n) (first.values i few))
  where
    behind : (a o : ℕ) → a ≡ region.address → IsGlobal o → region.address + 8 * 56 ≤ a + o
    behind a o same is_global = omega (arith, same, is_global.behind)
store_step region at xs (Place (Saved r)) i s t u true count few is global low is_region first wrote = absurd (cc (is))
store_step region at xs (Place (Temp r)) i s t u true count few is global low is_region first wrote = absurd (cc (is))
store_step region at xs (Place (Slot o)) i s t u false count few is global low is_region first same = absurd (cc (is))
store_step region at xs (Register l) i s t u false count few is global low is_region first same = absurd (cc (is))
store_step region at xs (Place (Saved r)) i s t u false count few is global low is_region first same = same_then region at xs (Place (Saved r)) i s t u count first same (λ m. refl)
store_step region at xs (Place (Temp r)) i s t u false count few is global low is_region first same = same_then region at xs (Place (Temp r)) i s t u count first same (λ m. refl)

-- ---- one after the other

abbrev pub StoresSome : ℕ → ℕ → ℕ → List Destination → List Destination → Code → ℕ → ℕ → Type 0
StoresSome least most size to some x from on =
    All (IsGlobalBy x.at) to → (region : Region) → PassesBy least most (HasRegion region size) (HasStored region x.at some) x from on

pub stored_none : (old : List Part) (size : ℕ) (to : List Destination) → Adds 0 old old (StoresSome 0 0 size to [])
stored_none old size to =
    adds_weaker (adds_none old) (omega arith)
    (λ x from on is. λ knows region. record { begins = inl (is, refl); runs = runs_none is (λ s sound has. record { registers = λ r kept. refl; memory = refl; values = λ k few. refl }) })

store_cost-append : (xs : List Destination) (d : Destination) → store_cost (xs ++ d ∷ []) ≡ store_cost xs + cost_if (is_stored d) d
store_cost-append [] d = omega arith
store_cost-append (e ∷ xs) d = let h = store_cost-append xs d in omega (arith, h)

stored_count-append : (xs : List Destination) (d : Destination) → stored_count (xs ++ d ∷ []) ≡ stored_count xs + one_if (is_stored d)
stored_count-append [] d = omega arith
stored_count-append (e ∷ xs) d = let h = stored_count-append xs d in omega (arith, h)

pub stored_more : (old mid new : List Part) (f : Frame) (to : List Destination) (i : ℕ) (e : Destination) (now : Bool) → i < length to → length to ≤ 64 → is_destination f (get_or to i e) ≡ true →
    now ≡ is_stored (get_or to i e) → Adds (store_cost (take i to)) old mid (StoresSome (stored_count (take i to)) (store_cost (take i to)) f.size to (take i to)) →
    Adds (cost_if now (get_or to i e)) mid new
    (λ x from on. (region : Region) → PassesBy (one_if now) (cost_if now (get_or to i e)) (CanCopyIn region x.at (get_or to i e)) (λ s t. CopiesIf now x.at (get_or to i e) (word_at s (value_place region i)) s t) x from on) →
    Adds (store_cost (take (i + 1) to)) old new (StoresSome (stored_count (take (i + 1) to)) (store_cost (take (i + 1) to)) f.size to (take (i + 1) to))
stored_more old mid new f to i e now within few good is first second =
    let d = get_or to i e in
    let count : length (take i to) ≡ i = length-take-le i to (omega (arith, within)) in
    let c : store_cost (take i to ++ d ∷ []) ≡ store_cost (take i to) + cost_if now d =
    store_cost-append (take i to) d ∙ ap (λ (b : Bool). store_cost (take i to) + cost_if b d) (sym is) in
    let k : stored_count (take i to ++ d ∷ []) ≡ stored_count (take i to) + one_if now =
    stored_count-append (take i to) d ∙ ap (λ (b : Bool). stored_count (take i to) + one_if b) (sym is) in
    let most : store_cost (take i to) + cost_if now d ≤ store_cost (take i to ++ d ∷ []) = omega (arith, c) in
    rw (take_more to i e within)
    (adds_weaker (adds_then first second) most
    (λ x from on does. λ knows region.
    let global = All-get_or (IsGlobalBy x.at) to i e within knows in
    by_weaker {l = stored_count (take i to) + one_if now} {k = stored_count (take i to ++ d ∷ [])}
    (by_both (does.1 knows region) (does.2 region)
    (λ s t sound also has stored.
    let stands = frame_stays f.size x.map s t (stored.registers 2 refl) has.stack in
    let same = stored.registers 4 refl ∙ has.region in
    record { reaches = destination_reached region f x.at d x.map t good global record { stack = stands; region = same }; lies = has.stack.lies; region = same }))
    (omega (arith, k)) most (λ s sound has. has)
    (λ s u sound has passed.
    store_step region x.at (take i to) d i s passed.0 u now count (omega (arith, within, few)) is global has.stack.low has.region passed.1 passed.2)))

pub stored_all : (old new : List Part) (size : ℕ) (to : List Destination) (i : ℕ) → length to ≤ i →
    Adds (store_cost (take i to)) old new (StoresSome (stored_count (take i to)) (store_cost (take i to)) size to (take i to)) →
    Adds (store_cost to) old new (StoresSome (stored_count to) (store_cost to) size to to)
stored_all old new size to i past first =
    subst (λ (ds : List Destination). Adds (store_cost ds) old new (StoresSome (stored_count ds) (store_cost ds) size to ds)) (take_all i to past) first
