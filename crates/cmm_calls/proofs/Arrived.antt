-- Values come from registers to registers, and from the argument area to registers.
use Rattle.std.proofs.lemmas.Bool.{and_parts, or_parts, or_from, or_right}
use Rattle.std.proofs.Common.{◌≡◌, ◌≢◌, ◌⊎◌, inl, inr, ℕ, zero, suc, ◌+◌, ◌-◌, ◌*◌, ◌<◌, ◌≤◌, Bool, true, false, List, [], ◌∷◌, ◌++◌, drop, length, take, get_or, refl, sym, ◌∙◌, ap, subst, arith, Option, Some, None}
use Rattle.std.specs.Prelude.{◌==◌, ◌&&◌, not, nat_le, nat_lt, slice_get, is_some, if◌then◌else◌}
use Rattle.std.specs.List.{All, list_all}
use Rattle.std.proofs.Math.Seq.{drop-cons}
use Rattle.std.proofs.lemmas.Bool.Decides.{nat_tests}
use Rattle.std.proofs.lemmas.List.Elements.{All-get_or}
use Rattle.std.proofs.lemmas.List.{length-drop, take_all}
use Rattle.std.proofs.lemmas.Option.{get_or_from_slice_get, slice_get-get_or, slice_get_within}
use Rattle.cmm_abi.specs.Registers.{is_callee_saves, is_scratch}
use Rattle.cmm_abi.specs.Regions.{value_place, word_at}
use Rattle.cmm_chain.specs.declared.frame.Frame.{Frame}
use Rattle.cmm_chain.specs.declared.frame.Location.TheVariants.{Slot, Saved, Temp}
use Rattle.cmm_moves.specs.Moves.{are_apart, at_once, is_outside, is_source, is_target}
use Rattle.cmm_moves.specs.declared.sequencing.Move.{Move}
use Rattle.rv_asm.specs.Parts.{Code}
use Rattle.rv_asm.specs.declared.part.Part.{Part}
use Rattle.rv_table.specs.Machine.{Region, State, loaded}
use Rattle.cmm_effects.proofs.Shared.{adds_none, adds_then, adds_weaker, runs_none}
use Rattle.cmm_effects.specs.Changes.{PutsRegister}
use Rattle.cmm_effects.specs.Pieces.{Adds, Always}
use Rattle.cmm_select.specs.Destinations.{PutsTo}
use Rattle.cmm_select.specs.declared.destination.Destination.{Destination}
use Rattle.cmm_select.specs.declared.destination.Destination.TheVariants.{Place, Register}
use Rattle.cmm_calls.proofs.Copied.{destination_reached}
use Rattle.cmm_calls.proofs.Moved.{by_both, by_passes, by_weaker, passes_both, passes_by, passes_weaker}
use Rattle.cmm_calls.proofs.Standing.{each, frame_stays}
use Rattle.cmm_calls.proofs.Taken.{value_in_area, value_in_register}
use Rattle.cmm_calls.proofs.Tests.{alike, at_least, is_under, itself, under, unlike}
use Rattle.cmm_calls.specs.Copying.{IsGlobalBy, PutsEachTo, is_destination, values_to}
use Rattle.cmm_calls.specs.Values.{HasRegion, Passes}
use Rattle.cmm_calls.specs.inside.Arriving.{CopiesAll, CopiesIf, HasAllTo, HasArrived, HasStored, after_memory, after_registers, copy_cost, copy_least, copy_moves, cost_if, cost_of, is_again, is_loaded, is_register, last_to, load_cost, move_from, put_memory, put_register, register_of, store_cost, stored_count, unless}
use Rattle.cmm_calls.specs.inside.Giving.{one_if}
use Rattle.cmm_calls.specs.inside.Moves.{MovesAtOnce, PassesBy, begins_moving, is_movable}
use Rattle.cmm_calls.specs.inside.Taking.{CanCopyIn}

some_is : (a b : ℕ) → Some a ≡ Some b → a ≡ b
some_is a b h = cc (h)

-- ---- the last that comes to a register

pub last_is : (h : Option ℕ) (rest : List Destination) (r : ℕ) → last_to h rest ≡ Some r → (h ≡ Some r) × (is_again r rest ≡ false)
last_is None rest r is = absurd (cc (is))
last_is (Some k) rest r is = by (is_again k rest) refl is
  where
    by : (c : Bool) → is_again k rest ≡ c → unless c k ≡ Some r → (Some k ≡ Some r) × (is_again r rest ≡ false)
    by true e g = absurd (cc (g))
    by false e g = (g, ap (λ (n : ℕ). is_again n rest) (sym (some_is k r g)) ∙ e)

is_last : (rest : List Destination) (r : ℕ) → is_again r rest ≡ false → last_to (Some r) rest ≡ Some r
is_last rest r nay = ap (λ (c : Bool). unless c r) nay

again_found : (rest : List Destination) (j r : ℕ) (d : Destination) → slice_get rest j ≡ Some d → register_of d ≡ Some r → is_again r rest ≡ true
again_found [] j r d found is = absurd (cc (found))
again_found (e ∷ rest) zero r d found is =
    let same : e ≡ d = cc (found) in
    let here : is_register r (register_of e) ≡ true = ap (λ (b : Destination). is_register r (register_of b)) same ∙ ap (is_register r) is ∙ itself r in
    rw here refl
again_found (e ∷ rest) (suc j) r d found is = or_right (is_register r (register_of e)) (is_again r rest) (again_found rest j r d found is)

again_behind : (to : List Destination) (k j r : ℕ) (d : Destination) → slice_get to j ≡ Some d → k < j → register_of d ≡ Some r → is_again r (drop (suc k) to) ≡ true
again_behind [] k j r d found later is = absurd (cc (found))
again_behind (e ∷ to) k zero r d found later is = absurd (omega (arith, later))
again_behind (e ∷ to) zero (suc j) r d found later is = again_found to j r d found is
again_behind (e ∷ to) (suc k) (suc j) r d found later is = again_behind to k j r d found (omega (arith, later)) is

abbrev Last : List Destination → ℕ → ℕ → Destination → Type 0
Last to k r d = (slice_get to k ≡ Some d) × (last_to (register_of d) (drop (suc k) to) ≡ Some r)

sides : (a b : ℕ) → (a == b) ≡ false → (a < b) ⊎ (b < a)
sides a b h = by (nat_lt a b) refl
  where
    by : (c : Bool) → nat_lt a b ≡ c → (a < b) ⊎ (b < a)
    by true is = inl (under a b is)
    by false is = inr (grind (arith, nat_tests, is, h))

-- a register has one
one_last : (to : List Destination) (k j r : ℕ) (d e : Destination) → Last to k r d → Last to j r e → k ≡ j
one_last to k j r d e first second = by (k == j) refl
  where
    earlier : (a b : ℕ) (x y : Destination) → Last to a r x → Last to b r y → a < b → true ≡ false
    earlier a b x y p q less = sym (again_behind to a b r y q.0 less (last_is (register_of y) (drop (suc b) to) r q.1).0) ∙ (last_is (register_of x) (drop (suc a) to) r p.1).1

    by : (c : Bool) → (k == j) ≡ c → k ≡ j
    by true is = alike k j is
    by false is = elim (sides k j is) [
      | inl less ↦ absurd (let nay = earlier k j d e first second less in cc (nay))
      | inr more ↦ absurd (let nay = earlier j k e d second first more in cc (nay))
    ]

-- ---- the moves

abbrev may : ℕ → Bool → Option ℕ → List Move
may k c h = elim c [ true ↦ move_from k h | false ↦ [] ]

not_target : (k : ℕ) (to : List Destination) (r : ℕ) → is_again r to ≡ false → is_target r (copy_moves k to) ≡ false
not_target k [] r nay = refl
not_target k (d ∷ to) r nay =
    let parts = or_parts (is_register r (register_of d)) (is_again r to) nay in
    by (nat_lt k 8) (last_to (register_of d) to) (copy_moves (suc k) to) (λ j h e. other (register_of d) j (last_is (register_of d) to j h).0 parts.0 e) (not_target (suc k) to r parts.1)
  where
    other : (h : Option ℕ) (j : ℕ) → h ≡ Some j → is_register r h ≡ false → r ≡ j → ⊥
    other h j is nay e = let yes : is_register r h ≡ true = ap (is_register r) is ∙ ap (λ (n : ℕ). j == n) e ∙ itself j in cc (yes, nay)

    by : (c : Bool) (h : Option ℕ) (rest : List Move) → ((j : ℕ) → h ≡ Some j → r ≡ j → ⊥) → is_target r rest ≡ false → is_target r (may k c h ++ rest) ≡ false
    by true (Some j) rest differ g = let e = unlike r j (differ j refl) in rw (e, g) refl
    by true None rest differ g = g
    by false h rest differ g = g

pub copy_moves_apart : (k : ℕ) (to : List Destination) → are_apart (copy_moves k to) ≡ true
copy_moves_apart k [] = refl
copy_moves_apart k (d ∷ to) =
    by (nat_lt k 8) (last_to (register_of d) to) (copy_moves (suc k) to) (λ j h. not_target (suc k) to j (last_is (register_of d) to j h).1) (copy_moves_apart (suc k) to)
  where
    by : (c : Bool) (h : Option ℕ) (rest : List Move) → ((j : ℕ) → h ≡ Some j → is_target j rest ≡ false) → are_apart rest ≡ true → are_apart (may k c h ++ rest) ≡ true
    by true (Some j) rest nay g = let e = nay j refl in rw (e, g) refl
    by true None rest nay g = g
    by false h rest nay g = g

pub destination_in : (f : Frame) (d : Destination) (r : ℕ) → is_destination f d ≡ true → register_of d ≡ Some r → (8 ≤ r) × (r < 32)
destination_in f (Place (Slot o)) r is h = absurd (cc (h))
destination_in f (Place (Saved k)) r is h = let e : k ≡ r = cc (h) in let ok = (and_parts (is_callee_saves k) _ is).0 in (grind (arith, nat_tests, ok, e), grind (arith, nat_tests, ok, e))
destination_in f (Place (Temp k)) r is h = let e : k ≡ r = cc (h) in (grind (arith, nat_tests, is, e), grind (arith, nat_tests, is, e))
destination_in f (Register l) r is h = absurd (cc (h))

pub copy_moves_clear : (f : Frame) (k : ℕ) (to : List Destination) → list_all (is_destination f) to ≡ true →
    (is_target 5 (copy_moves k to) ≡ false) × (is_source 5 (copy_moves k to) ≡ false) × (is_outside is_movable (copy_moves k to) ≡ false)
copy_moves_clear f k [] all = (refl, refl, refl)
copy_moves_clear f k (d ∷ to) all =
    let parts = and_parts (is_destination f d) (list_all (is_destination f) to) all in
    by (nat_lt k 8) refl (last_to (register_of d) to) (copy_moves (suc k) to) (λ r h. destination_in f d r parts.0 (last_is (register_of d) to r h).0) (copy_moves_clear f (suc k) to parts.1)
  where
    from_movable : nat_lt k 8 ≡ true → is_movable (10 + k) ≡ true
    from_movable h = grind (arith, nat_tests, h)

    to_movable : (r : ℕ) → 8 ≤ r → r < 32 → is_movable r ≡ true
    to_movable r h g = grind (arith, nat_tests, h, g)

    by : (c : Bool) → nat_lt k 8 ≡ c → (h : Option ℕ) (rest : List Move) → ((r : ℕ) → h ≡ Some r → (8 ≤ r) × (r < 32)) →
        (is_target 5 rest ≡ false) × (is_source 5 rest ≡ false) × (is_outside is_movable rest ≡ false) →
        (is_target 5 (may k c h ++ rest) ≡ false) × (is_source 5 (may k c h ++ rest) ≡ false) × (is_outside is_movable (may k c h ++ rest) ≡ false)
    by true low (Some r) rest high g =
        let t = unlike 5 r (λ e. let h = (high r refl).0 in omega (arith, e, h)) in
        let s = unlike 5 (10 + k) (λ e. omega (arith, e)) in
        (rw (t, g.0) refl, rw (s, g.1) refl, rw (to_movable r (high r refl).0 (high r refl).1, from_movable low, g.2) refl)
    by true low None rest high g = g
    by false far h rest high g = g

passed_by : (k : ℕ) (c : Bool) (h : Option ℕ) (rest : List Move) (g : ℕ → ℕ) (r : ℕ) → (c ≡ true → h ≡ Some r → ⊥) → at_once (may k c h ++ rest) g r ≡ at_once rest g r
passed_by k true (Some j) rest g r away = ap (λ (b : Bool). if b then g (10 + k) else at_once rest g r) (unlike r j (λ e. away refl (ap (λ (n : ℕ). Some n) (sym e))))
passed_by k true None rest g r away = refl
passed_by k false h rest g r away = refl

moved_to : (k : ℕ) (to : List Destination) (j : ℕ) (d : Destination) (r : ℕ) (g : ℕ → ℕ) → Last to j r d → k + j < 8 → at_once (copy_moves k to) g r ≡ g (10 + (k + j))
moved_to k [] j d r g last low = absurd (let found = last.0 in cc (found))
moved_to k (e ∷ to) zero d r g last low =
    let found = last.0 in
    let same : e ≡ d = cc (found) in
    let h : last_to (register_of e) to ≡ Some r = ap (λ (b : Destination). last_to (register_of b) to) same ∙ last.1 in
    let n : k ≡ k + 0 = omega arith in
    let t = is_under k 8 (omega (arith, low)) in
    ap (λ (c : Bool). at_once (may k c (last_to (register_of e) to) ++ copy_moves (suc k) to) g r) t
    ∙ ap (λ (o : Option ℕ). at_once (may k true o ++ copy_moves (suc k) to) g r) h
    ∙ ap (λ (c : Bool). if c then g (10 + k) else at_once (copy_moves (suc k) to) g r) (itself r)
    ∙ ap (λ (i : ℕ). g (10 + i)) n
moved_to k (e ∷ to) (suc j) d r g last low =
    let n : suc k + j ≡ k + suc j = omega arith in
    passed_by k (nat_lt k 8) (last_to (register_of e) to) (copy_moves (suc k) to) g r
    (λ near h. let nay = (last_is (register_of e) to r h).1 in let yes = again_found to j r d last.0 (last_is (register_of d) (drop (suc j) to) r last.1).0 in cc (yes, nay))
    ∙ moved_to (suc k) to j d r g (last.0, last.1) (omega (arith, low)) ∙ ap (λ (i : ℕ). g (10 + i)) n

moved_beside : (k : ℕ) (to : List Destination) (r : ℕ) (g : ℕ → ℕ) → ((j : ℕ) (d : Destination) → Last to j r d → 8 ≤ k + j) → at_once (copy_moves k to) g r ≡ g r
moved_beside k [] r g away = refl
moved_beside k (e ∷ to) r g away =
    passed_by k (nat_lt k 8) (last_to (register_of e) to) (copy_moves (suc k) to) g r
    (λ near h. let low = under k 8 near in let far = away 0 e (refl, h) in omega (arith, low, far))
    ∙ moved_beside (suc k) to r g (λ j d last. let far = away (suc j) d (last.0, last.1) in omega (arith, far))

last_in : (f : Frame) (to : List Destination) (k r : ℕ) (d : Destination) → list_all (is_destination f) to ≡ true → Last to k r d → (8 ≤ r) × (r < 32)
last_in f to k r d good last =
    destination_in f d r
    (subst (λ (b : Destination). is_destination f b ≡ true) (get_or_from_slice_get to k d d last.0) (each (is_destination f) to k d good (slice_get_within to k d last.0)))
    (last_is (register_of d) (drop (suc k) to) r last.1).0

pub moves_arrive : (region : Region) (f : Frame) (at : ℕ → ℕ) (to : List Destination) (s t : State) → list_all (is_destination f) to ≡ true → MovesAtOnce (copy_moves 0 to) s t → HasArrived region at (λ k. nat_lt k 8) to s t
moves_arrive region f at to s t good moved = record {
  arrive = λ k r d found last come.
      let low = under k 8 come in
      let n : 0 + k ≡ k = omega arith in
      moved.registers r (not_five k r d found last) ∙ moved_to 0 to k d r s.registers (found, last) (omega (arith, low)) ∙ ap (λ (i : ℕ). s.registers (10 + i)) n ∙ sym (value_in_register region k s low);
  registers = λ r kept away. moved.registers r (λ e. let g : is_scratch 5 ≡ false = subst (λ (n : ℕ). is_scratch n ≡ false) e kept in cc (g))
      ∙ moved_beside 0 to r s.registers (λ j d last. far j (away j d last.0 last.1));
  memory = moved.memory;
}
  where
    far : (j : ℕ) → nat_lt j 8 ≡ false → 8 ≤ 0 + j
    far j h = grind (arith, nat_tests, h)

    not_five : (k r : ℕ) (d : Destination) → slice_get to k ≡ Some d → last_to (register_of d) (drop (suc k) to) ≡ Some r → r ≢ 5
    not_five k r d found last e = let high = (last_in f to k r d good (found, last)).0 in omega (arith, e, high)

-- ---- from the argument area

abbrev pub so_far : ℕ → ℕ → Bool
so_far i k = nat_le 8 k && nat_lt k i

register_put : (at : ℕ → ℕ) (d : Destination) (r n : ℕ) (t u : State) → register_of d ≡ Some r → PutsTo at d n t u → PutsRegister r n t u
register_put at (Place (Slot o)) r n t u is puts = absurd (cc (is))
register_put at (Place (Saved k)) r n t u is puts = subst (λ (j : ℕ). PutsRegister j n t u) (some_is k r is) puts
register_put at (Place (Temp k)) r n t u is puts = subst (λ (j : ℕ). PutsRegister j n t u) (some_is k r is) puts
register_put at (Register l) r n t u is puts = absurd (cc (is))

some_one : (h : Option ℕ) → is_some h ≡ true → (r : ℕ) × (h ≡ Some r)
some_one None is = absurd (cc (is))
some_one (Some r) is = (r, refl)

high_kept : (r : ℕ) → 8 ≤ r → is_scratch r ≡ false
high_kept r h = grind (arith, nat_tests, h)

so_more : (i k : ℕ) → so_far i k ≡ true → so_far (i + 1) k ≡ true
so_more i k h = let parts = and_parts (nat_le 8 k) (nat_lt k i) h in let less = under k i parts.1 in let more : nat_lt k (i + 1) ≡ true = is_under k (i + 1) (omega (arith, less)) in rw (parts.0, more) refl

so_less : (i k : ℕ) → so_far (i + 1) k ≡ false → so_far i k ≡ false
so_less i k h = by (so_far i k) refl
  where
    by : (c : Bool) → so_far i k ≡ c → c ≡ false
    by true is = absurd (let yes = so_more i k is in cc (yes, h))
    by false is = refl

so_before : (i k : ℕ) → so_far (i + 1) k ≡ true → (k == i) ≡ false → so_far i k ≡ true
so_before i k h g = let parts = and_parts (nat_le 8 k) (nat_lt k (i + 1)) h in let less : nat_lt k i ≡ true = grind (arith, nat_tests, parts.1, g) in rw (parts.0, less) refl

area_same : (region : Region) (k : ℕ) (s t : State) → 8 ≤ k → t.memory ≡ s.memory → word_at t (value_place region k) ≡ word_at s (value_place region k)
area_same region k s t far is = value_in_area region k t far ∙ ap (λ (m : ℕ → ℕ). loaded m (region.address + 8 * (k - 8)) 8) is ∙ sym (value_in_area region k s far)

found_same : (to : List Destination) (k i : ℕ) (a b : Destination) → slice_get to k ≡ Some a → slice_get to i ≡ Some b → k ≡ i → a ≡ b
found_same to k i a b f g e = let h : Some a ≡ Some b = sym f ∙ ap (λ (n : ℕ). slice_get to n) e ∙ g in cc (h)

module _ (region : Region) (f : Frame) (at : ℕ → ℕ) (to : List Destination) (good : list_all (is_destination f) to ≡ true) (i : ℕ) (d : Destination) (found : slice_get to i ≡ Some d) (s t u : State) where
  put_step : (r : ℕ) → last_to (register_of d) (drop (suc i) to) ≡ Some r → nat_le 8 i ≡ true → HasArrived region at (so_far i) to s t → PutsRegister r (word_at t (value_place region i)) t u → HasArrived region at (so_far (i + 1)) to s u
  put_step r last far first puts = record {
    arrive = λ k j e there its come. by k j e there its come (k == i) refl;
    registers = λ j kept away.
        puts.1 j (or_from (j == r) (is_scratch j) (unlike j r (λ e. let off = away i d found (last ∙ ap (λ (n : ℕ). Some n) (sym e)) in cc (off, now))) kept)
        ∙ first.registers j kept (λ k e there its. so_less i k (away k e there its));
    memory = puts.2 ∙ first.memory;
  }
    where
      now : so_far (i + 1) i ≡ true
      now = let more : nat_lt i (i + 1) ≡ true = is_under i (i + 1) (omega arith) in rw (far, more) refl

      by : (k j : ℕ) (e : Destination) → slice_get to k ≡ Some e → last_to (register_of e) (drop (suc k) to) ≡ Some j → so_far (i + 1) k ≡ true → (c : Bool) → (k == i) ≡ c → u.registers j ≡ word_at s (value_place region k)
      by k j e there its come true is =
          let w = alike k i is in
          let same : e ≡ d = found_same to k i e d there found w in
          let h : Some j ≡ Some r = sym its ∙ ap (λ (n : ℕ). last_to (register_of e) (drop (suc n) to)) w ∙ ap (λ (b : Destination). last_to (register_of b) (drop (suc i) to)) same ∙ last in
          ap u.registers (some_is j r h) ∙ puts.0 ∙ area_same region i s t (at_least i far) first.memory ∙ ap (λ (n : ℕ). word_at s (value_place region n)) (sym w)
      by k j e there its come false is =
          let differ : (j == r) ≡ false = unlike j r (λ w. let same = one_last to k i j e d (there, its) (found, last ∙ ap (λ (n : ℕ). Some n) (sym w)) in let yes : (k == i) ≡ true = ap (λ (n : ℕ). n == i) same ∙ itself i in cc (yes, is)) in
          puts.1 j (or_from (j == r) (is_scratch j) differ (high_kept j (last_in f to k j e good (there, its)).0)) ∙ first.arrive k j e there its (so_before i k come is)

  pub load_step : (now : Bool) → now ≡ is_loaded i d (drop (suc i) to) → HasArrived region at (so_far i) to s t → CopiesIf now at d (word_at t (value_place region i)) t u → HasArrived region at (so_far (i + 1)) to s u
  load_step true is first puts =
      let parts = and_parts (nat_le 8 i) (is_some (last_to (register_of d) (drop (suc i) to))) (sym is) in
      let one = some_one (last_to (register_of d) (drop (suc i) to)) parts.1 in
      put_step one.0 one.1 parts.0 first (register_put at d one.0 (word_at t (value_place region i)) t u (last_is (register_of d) (drop (suc i) to) one.0 one.1).0 puts)
  load_step false is first same = subst (λ (w : State). HasArrived region at (so_far (i + 1)) to s w) same record {
    arrive = λ k j e there its come. first.arrive k j e there its (before k j e there its come (k == i) refl);
    registers = λ j kept away. first.registers j kept (λ k e there its. so_less i k (away k e there its));
    memory = first.memory;
  }
    where
      before : (k j : ℕ) (e : Destination) → slice_get to k ≡ Some e → last_to (register_of e) (drop (suc k) to) ≡ Some j → so_far (i + 1) k ≡ true → (c : Bool) → (k == i) ≡ c → so_far i k ≡ true
      before k j e there its come false g = so_before i k come g
      before k j e there its come true g =
          let w = alike k i g in
          let same : e ≡ d = found_same to k i e d there found w in
          let h : last_to (register_of d) (drop (suc i) to) ≡ Some j = sym (ap (λ (n : ℕ). last_to (register_of e) (drop (suc n) to)) w ∙ ap (λ (b : Destination). last_to (register_of b) (drop (suc i) to)) same) ∙ its in
          let far : nat_le 8 i ≡ true = ap (λ (n : ℕ). nat_le 8 n) (sym w) ∙ (and_parts (nat_le 8 k) (nat_lt k (i + 1)) come).0 in
          let yes : is_loaded i d (drop (suc i) to) ≡ true = rw (far, h) refl in
          absurd (cc (yes, is))

-- ---- all numbers of a list are put

registers_from_end : (region : Region) (k : ℕ) (to : List Destination) (s t : State) (g : ℕ → ℕ) (r : ℕ) → ((j : ℕ) (d : Destination) → Last to j r d → t.registers r ≡ word_at s (value_place region (k + j))) →
    (is_again r to ≡ false → t.registers r ≡ g r) → t.registers r ≡ after_registers (values_to region k to s) g r
registers_from_end region k [] s t g r arrive other = other refl
registers_from_end region k (d ∷ to) s t g r arrive other =
    registers_from_end region (suc k) to s t (put_register (register_of d) (word_at s (value_place region k)) g) r
    (λ j e last. arrive (suc j) e (last.0, last.1) ∙ (let n : k + suc j ≡ suc k + j = omega arith in ap (λ (i : ℕ). word_at s (value_place region i)) n))
    (λ none. here (register_of d) refl none)
  where
    here : (h : Option ℕ) → register_of d ≡ h → is_again r to ≡ false → t.registers r ≡ put_register h (word_at s (value_place region k)) g r
    here None is none = other (or_from (is_register r (register_of d)) (is_again r to) (ap (is_register r) is) none)
    here (Some j) is none = by (r == j) refl
      where
        by : (c : Bool) → (r == j) ≡ c → t.registers r ≡ (if r == j then word_at s (value_place region k) else g r)
        by true e =
            let w = alike r j e in
            let last : last_to (register_of d) to ≡ Some r = ap (λ (h : Option ℕ). last_to h to) (is ∙ ap (λ (n : ℕ). Some n) (sym w)) ∙ is_last to r none in
            let n : k + 0 ≡ k = omega arith in
            arrive 0 d (refl, last) ∙ ap (λ (i : ℕ). word_at s (value_place region i)) n ∙ sym (ap (λ (c : Bool). if c then word_at s (value_place region k) else g r) e)
        by false e =
            let differ : (j == r) ≡ false = unlike j r (λ w. let yes : (r == j) ≡ true = ap (λ (n : ℕ). r == n) w ∙ itself r in cc (yes, e)) in
            other (or_from (is_register r (register_of d)) (is_again r to) (ap (is_register r) is ∙ differ) none) ∙ sym (ap (λ (c : Bool). if c then word_at s (value_place region k) else g r) e)

pub all_come : (region : Region) (f : Frame) (at : ℕ → ℕ) (to : List Destination) (s t u w : State) → length to ≤ 64 → list_all (is_destination f) to ≡ true → HasStored region at to s t →
    HasArrived region at (λ k. nat_lt k 8) to t u → HasArrived region at (λ k. nat_le 8 k) to u w → HasAllTo at (values_to region 0 to s) s w
all_come region f at to s t u w few good first second third = record {
  registers = λ r kept. registers_from_end region 0 to s w s.registers r
      (λ j d last. let n : j ≡ 0 + j = omega arith in come r kept j d last (nat_lt j 8) refl ∙ ap (λ (i : ℕ). word_at s (value_place region i)) n)
      (λ none. third.registers r kept (λ k d there its. absurd (never r none k d (there, its))) ∙ second.registers r kept (λ k d there its. absurd (never r none k d (there, its))) ∙ first.registers r kept);
  memory = third.memory ∙ second.memory ∙ first.memory;
}
  where
    never : (r : ℕ) → is_again r to ≡ false → (k : ℕ) (d : Destination) → Last to k r d → ⊥
    never r none k d last = let yes = again_found to k r d last.0 (last_is (register_of d) (drop (suc k) to) r last.1).0 in cc (yes, none)

    near_not_far : (j : ℕ) → nat_lt j 8 ≡ true → nat_le 8 j ≡ false
    near_not_far j h = grind (arith, nat_tests, h)

    far_from : (j : ℕ) → nat_lt j 8 ≡ false → nat_le 8 j ≡ true
    far_from j h = grind (arith, nat_tests, h)

    come : (r : ℕ) → is_scratch r ≡ false → (j : ℕ) (d : Destination) → Last to j r d → (c : Bool) → nat_lt j 8 ≡ c → w.registers r ≡ word_at s (value_place region j)
    come r kept j d last true near =
        third.registers r kept (λ k e there its. let same = one_last to k j r e d (there, its) last in ap (λ (n : ℕ). nat_le 8 n) same ∙ near_not_far j near)
        ∙ second.arrive j r d last.0 last.1 near ∙ first.values j (let within = slice_get_within to j d last.0 in omega (arith, within, few))
    come r kept j d last false far =
        third.arrive j r d last.0 last.1 (far_from j far) ∙ area_same region j t u (at_least j (far_from j far)) second.memory
        ∙ first.values j (let within = slice_get_within to j d last.0 in omega (arith, within, few))

-- ---- and so put one after the other

put_to : (k n : ℕ) (s t : State) → is_scratch k ≡ false → ((r : ℕ) → is_scratch r ≡ false → t.registers r ≡ (if r == k then n else s.registers r)) → t.memory ≡ s.memory → PutsRegister k n s t
put_to k n s t kept registers memory = (
  registers k kept ∙ ap (λ (b : Bool). if b then n else s.registers k) (itself k),
  λ r h. registers r (or_parts (r == k) (is_scratch r) h).1 ∙ ap (λ (b : Bool). if b then n else s.registers r) (or_parts (r == k) (is_scratch r) h).0,
  memory,
)

pub puts_one : (f : Frame) (at : ℕ → ℕ) (d : Destination) (n : ℕ) (s t : State) → is_destination f d ≡ true → ((r : ℕ) → is_scratch r ≡ false → t.registers r ≡ put_register (register_of d) n s.registers r) →
    t.memory ≡ put_memory at d n (s.registers 2) (s.registers 4) s.memory → PutsTo at d n s t
puts_one f at (Place (Slot o)) n s t good registers memory = record { registers = registers; memory = memory }
puts_one f at (Place (Saved k)) n s t good registers memory = put_to k n s t (high_kept k (destination_in f (Place (Saved k)) k good refl).0) registers memory
puts_one f at (Place (Temp k)) n s t good registers memory = put_to k n s t (high_kept k (destination_in f (Place (Temp k)) k good refl).0) registers memory
puts_one f at (Register l) n s t good registers memory = record { registers = registers; memory = memory }

pub put_beside : (f : Frame) (d : Destination) (n r : ℕ) (g : ℕ → ℕ) → is_destination f d ≡ true → r < 8 → put_register (register_of d) n g r ≡ g r
put_beside f d n r g good low = by (register_of d) refl
  where
    by : (h : Option ℕ) → register_of d ≡ h → put_register h n g r ≡ g r
    by None is = refl
    by (Some k) is = ap (λ (b : Bool). if b then n else g r) (unlike r k (λ e. let high = (destination_in f d k good is).0 in omega (arith, e, high, low)))

pub puts_from_end : (region : Region) (f : Frame) (at : ℕ → ℕ) (k : ℕ) (d : Destination) (rest : List Destination) (v s t : State) → list_all (is_destination f) (d ∷ rest) ≡ true →
    HasAllTo at (values_to region k (d ∷ rest) v) s t → PutsEachTo at (values_to region k (d ∷ rest) v) s t
puts_from_end region f at k d [] v s t good has = (t, puts_one f at d (word_at v (value_place region k)) s t (and_parts (is_destination f d) true good).0 has.registers has.memory, refl)
puts_from_end region f at k d (e ∷ rest) v s t good has = (between, puts_one f at d n s between parts.0 (λ r kept. refl) refl, puts_from_end region f at (suc k) e rest v between t parts.1 later)
  where
    n : ℕ
    n = word_at v (value_place region k)

    parts : (is_destination f d ≡ true) × (list_all (is_destination f) (e ∷ rest) ≡ true)
    parts = and_parts (is_destination f d) (list_all (is_destination f) (e ∷ rest)) good

    between : State
    between = record { registers = put_register (register_of d) n s.registers; pc = t.pc; memory = put_memory at d n (s.registers 2) (s.registers 4) s.memory }

    later : HasAllTo at (values_to region (suc k) (e ∷ rest) v) between t
    later = record {
      registers = has.registers;
      memory = has.memory
          ∙ ap (λ (a : ℕ). after_memory at (values_to region (suc k) (e ∷ rest) v) a (s.registers 4) (put_memory at d n (s.registers 2) (s.registers 4) s.memory)) (sym (put_beside f d n 2 s.registers parts.0 (omega arith)))
          ∙ ap (λ (a : ℕ). after_memory at (values_to region (suc k) (e ∷ rest) v) (between.registers 2) a (put_memory at d n (s.registers 2) (s.registers 4) s.memory)) (sym (put_beside f d n 4 s.registers parts.0 (omega arith)));
    }

-- ---- loaded one after the other

abbrev pub LoadsSome : ℕ → ℕ → ℕ → List Destination → Code → ℕ → ℕ → Type 0
LoadsSome most size i to x from on =
    All (IsGlobalBy x.at) to → (region : Region) → Passes most (HasRegion region size) (HasArrived region x.at (so_far i) to) x from on

-- what is left of the cost
abbrev pub left : ℕ → List Destination → ℕ
left i to = load_cost i (drop i to)

pub loaded_none : (old : List Part) (size : ℕ) (to : List Destination) → Adds (load_cost 0 to - left 0 to) old old (LoadsSome (load_cost 0 to - left 0 to) size 0 to)
loaded_none old size to =
    adds_weaker (adds_none old) (omega arith)
    (λ x from on is. λ knows region. record {
      begins = inl is;
      runs = runs_none is (λ s sound has. record {
        arrive = λ k r d found last come. absurd (let low = under k 0 (and_parts (nat_le 8 k) (nat_lt k 0) come).1 in omega (arith, low));
        registers = λ r kept away. refl;
        memory = refl;
      });
    })

pub left_step : (to : List Destination) (i : ℕ) (e : Destination) → i < length to → left i to ≡ cost_if (is_loaded i (get_or to i e) (drop (suc i) to)) (get_or to i e) + left (suc i) to
left_step to i e within = ap (load_cost i) (drop-cons to i e within)

pub loaded_more : (old mid new : List Part) (f : Frame) (to : List Destination) (i : ℕ) (e : Destination) (now : Bool) → i < length to → length to ≤ 64 → list_all (is_destination f) to ≡ true →
    now ≡ is_loaded i (get_or to i e) (drop (suc i) to) → left i to ≤ load_cost 0 to → Adds (load_cost 0 to - left i to) old mid (LoadsSome (load_cost 0 to - left i to) f.size i to) →
    Adds (cost_if now (get_or to i e)) mid new
    (λ x from on. (region : Region) → PassesBy (one_if now) (cost_if now (get_or to i e)) (CanCopyIn region x.at (get_or to i e)) (λ s t. CopiesIf now x.at (get_or to i e) (word_at s (value_place region i)) s t) x from on) →
    Adds (load_cost 0 to - left (i + 1) to) old new (LoadsSome (load_cost 0 to - left (i + 1) to) f.size (i + 1) to)
loaded_more old mid new f to i e now within few good is less first second =
    let d = get_or to i e in
    let step = left_step to i e within ∙ ap (λ (b : Bool). cost_if b d + left (suc i) to) (sym is) in
    let n : suc i ≡ i + 1 = omega arith in
    let further : left (suc i) to ≡ left (i + 1) to = ap (λ (k : ℕ). left k to) n in
    let most : (load_cost 0 to - left i to) + cost_if now d ≤ load_cost 0 to - left (i + 1) to = omega (arith, step, further, less) in
    adds_weaker (adds_then first second) most
    (λ x from on does. λ knows region.
    let global = All-get_or (IsGlobalBy x.at) to i e within knows in
    let one = each (is_destination f) to i e good within in
    passes_weaker
    (passes_both (does.1 knows region) (passes_by (does.2 region))
    (λ s t sound also has come.
    let stands = frame_stays f.size x.map s t (come.registers 2 refl (λ k c there its. absurd (let high = (last_in f to k 2 c good (there, its)).0 in omega (arith, high)))) has.stack in
    let same = come.registers 4 refl (λ k c there its. absurd (let high = (last_in f to k 4 c good (there, its)).0 in omega (arith, high))) ∙ has.region in
    record { reaches = destination_reached region f x.at d x.map t one global record { stack = stands; region = same }; lies = has.stack.lies; region = same }))
    most (λ s sound has. has)
    (λ s u sound has passed. load_step region f x.at to good i d (slice_get-get_or to i e within) s passed.0 u now is passed.1 passed.2))

pub loaded_all : (old new : List Part) (size : ℕ) (to : List Destination) (i : ℕ) → length to ≤ i → Adds (load_cost 0 to - left i to) old new (LoadsSome (load_cost 0 to - left i to) size i to) →
    Adds (load_cost 0 to) old new (λ x from on. All (IsGlobalBy x.at) to → (region : Region) → Passes (load_cost 0 to) (HasRegion region size) (HasArrived region x.at (λ k. nat_le 8 k) to) x from on)
loaded_all old new size to i past first =
    adds_weaker first (omega arith)
    (λ x from on does. λ knows region. passes_weaker (does knows region) (omega arith) (λ s sound has. has)
    (λ s t sound has come. record {
      arrive = λ k r d found last far. come.arrive k r d found last (let less : nat_lt k i ≡ true = is_under k i (let within = slice_get_within to k d found in omega (arith, within, past)) in rw (far, less) refl);
      registers = λ r kept away. come.registers r kept (λ k d found last. rw (away k d found last) refl);
      memory = come.memory;
    }))

-- ---- all together

costs : (k : ℕ) (to : List Destination) → store_cost to + (2 * length (copy_moves k to) + load_cost k to) ≤ copy_cost to
costs k [] = omega arith
costs k (d ∷ to) = by (nat_lt k 8) refl (register_of d) (last_to (register_of d) to) (λ r is. (last_is (register_of d) to r is).0) (cost_of d) (least d) (copy_moves (suc k) to) (store_cost to) (load_cost (suc k) to) (copy_cost to) (costs (suc k) to)
  where
    least : (d : Destination) → 4 ≤ cost_of d
    least (Place p) = omega arith
    least (Register l) = omega arith

    far_not : nat_lt k 8 ≡ true → nat_le 8 k ≡ false
    far_not h = grind (arith, nat_tests, h)

    far_is : nat_lt k 8 ≡ false → nat_le 8 k ≡ true
    far_is h = grind (arith, nat_tests, h)

    by : (c : Bool) → nat_lt k 8 ≡ c → (h o : Option ℕ) → ((r : ℕ) → o ≡ Some r → h ≡ Some r) → (n : ℕ) → 4 ≤ n → (rest : List Move) (p q m : ℕ) → p + (2 * length rest + q) ≤ m →
        (cost_if (not (is_some h)) d + p) + (2 * length (may k c o ++ rest) + (cost_if (nat_le 8 k && is_some o) d + q)) ≤ cost_of d + m
    by true is None None from n four rest p q m less = rw (far_not is) (omega (arith, less))
    by true is None (Some r) from n four rest p q m less = absurd (let bad = from r refl in cc (bad))
    by true is (Some j) None from n four rest p q m less = rw (far_not is) (omega (arith, less))
    by true is (Some j) (Some r) from n four rest p q m less = let low = least d in rw (far_not is) (omega (arith, less, low))
    by false is None None from n four rest p q m less = rw (far_is is) (omega (arith, less))
    by false is None (Some r) from n four rest p q m less = absurd (let bad = from r refl in cc (bad))
    by false is (Some j) None from n four rest p q m less = rw (far_is is) (omega (arith, less))
    by false is (Some j) (Some r) from n four rest p q m less = rw (far_is is) (omega (arith, less))

pub copied_whole : (old one two new : List Part) (f : Frame) (d : Destination) (more : List Destination) (to : List Destination) → to ≡ d ∷ more → length to ≤ 64 → list_all (is_destination f) to ≡ true →
    Adds (store_cost to) old one (λ x from on. All (IsGlobalBy x.at) to → (region : Region) → PassesBy (stored_count to) (store_cost to) (HasRegion region f.size) (HasStored region x.at to) x from on) →
    Adds (2 * length (copy_moves 0 to)) one two (PassesBy (one_if (begins_moving (copy_moves 0 to))) (2 * length (copy_moves 0 to)) Always (MovesAtOnce (copy_moves 0 to))) →
    Adds (load_cost 0 to) two new (λ x from on. All (IsGlobalBy x.at) to → (region : Region) → Passes (load_cost 0 to) (HasRegion region f.size) (HasArrived region x.at (λ k. nat_le 8 k) to) x from on) →
    Adds (copy_cost to) old new (CopiesAll (copy_least to) (copy_cost to) f.size to)
copied_whole old one two new f d more to is few good first second third =
    let most = costs 0 to in
    let n = one_if (begins_moving (copy_moves 0 to)) in
    adds_weaker (adds_then first (adds_then second third)) most
    (λ x from on does. record {
      none = λ e. absurd (let no = sym is ∙ e in cc (no));
      all = λ knows region.
          by_weaker {l = stored_count to + (n + 0)} {k = copy_least to}
          (by_both (does.1 knows region)
          (by_both
          (by_weaker {R = HasRegion region f.size} {S = MovesAtOnce (copy_moves 0 to)} {b = 2 * length (copy_moves 0 to)} {l = n} {k = n} does.2.1 (omega arith) (omega arith) (λ s sound has. tt) (λ s t sound has moved. moved))
          (by_passes (does.2.2 knows region))
          (λ s t sound also has moved.
          let come = moves_arrive region f x.at to s t good moved in record {
            stack = frame_stays f.size x.map s t (come.registers 2 refl (λ k c there its. absurd (let high = (last_in f to k 2 c good (there, its)).0 in omega (arith, high)))) has.stack;
            region = come.registers 4 refl (λ k c there its. absurd (let high = (last_in f to k 4 c good (there, its)).0 in omega (arith, high))) ∙ has.region;
          }))
          (λ s t sound also has put. record { stack = frame_stays f.size x.map s t (put.registers 2 refl) has.stack; region = put.registers 4 refl ∙ has.region }))
          (omega arith) most (λ s sound has. has)
          (λ s w sound has passed.
          let all = all_come region f x.at to s passed.0 passed.2.0 w few good passed.1 (moves_arrive region f x.at to passed.0 passed.2.0 good passed.2.1) passed.2.2 in
          subst (λ (ds : List Destination). PutsEachTo x.at (values_to region 0 ds s) s w) (sym is)
          (puts_from_end region f x.at 0 d more s s w (subst (λ (ds : List Destination). list_all (is_destination f) ds ≡ true) is good)
          (subst (λ (ds : List Destination). HasAllTo x.at (values_to region 0 ds s) s w) is all)));
    })

pub behind_all : (to : List Destination) (i : ℕ) → take (length to - (i + 1)) (drop (i + 1) to) ≡ drop (suc i) to
behind_all to i =
    let n : i + 1 ≡ suc i = omega arith in
    take_all (length to - (i + 1)) (drop (i + 1) to) (let e = length-drop (i + 1) to in omega (arith, e)) ∙ ap (λ (k : ℕ). drop k to) n

pub copied_nothing : (old : List Part) (f : Frame) (to : List Destination) → length to ≡ 0 → Adds (copy_cost to) old old (CopiesAll (copy_least to) (copy_cost to) f.size to)
copied_nothing old f [] is =
    adds_weaker (adds_none old) (omega arith) (λ x from on same. record { none = λ e. same; all = λ knows region. record { begins = inl (same, refl); runs = runs_none same (λ s sound has. refl) } })
copied_nothing old f (d ∷ to) is = absurd (omega (arith, is))

pub copied_filled : (old one two new : List Part) (f : Frame) (to : List Destination) → length to ≢ 0 → length to ≤ 64 → list_all (is_destination f) to ≡ true →
    Adds (store_cost to) old one (λ x from on. All (IsGlobalBy x.at) to → (region : Region) → PassesBy (stored_count to) (store_cost to) (HasRegion region f.size) (HasStored region x.at to) x from on) →
    Adds (2 * length (copy_moves 0 to)) one two (PassesBy (one_if (begins_moving (copy_moves 0 to))) (2 * length (copy_moves 0 to)) Always (MovesAtOnce (copy_moves 0 to))) →
    Adds (load_cost 0 to) two new (λ x from on. All (IsGlobalBy x.at) to → (region : Region) → Passes (load_cost 0 to) (HasRegion region f.size) (HasArrived region x.at (λ k. nat_le 8 k) to) x from on) →
    Adds (copy_cost to) old new (CopiesAll (copy_least to) (copy_cost to) f.size to)
copied_filled old one two new f [] some few good first second third = absurd (some refl)
copied_filled old one two new f (d ∷ to) some few good first second third = copied_whole old one two new f d to (d ∷ to) refl few good first second third

pub some_left : (n : ℕ) → (n == 0) ≡ false → n ≢ 0
some_left n is e = let yes : (n == 0) ≡ true = ap (λ (k : ℕ). k == 0) e in cc (yes, is)
