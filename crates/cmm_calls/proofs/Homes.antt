-- Values that are in registers go to registers, and the others one by one.
use Rattle.std.proofs.lemmas.Bool.{and_parts, or_right, or_cases}
use Rattle.std.proofs.Common.{◌≡◌, ◌≢◌, ◌⊎◌, inl, inr, ℕ, zero, suc, ◌+◌, ◌*◌, ◌<◌, ◌≤◌, Bool, true, false, List, [], ◌∷◌, ◌++◌, length, take, get_or, refl, sym, ◌∙◌, ap, subst, arith, Option, Some, None}
use Rattle.std.specs.Prelude.{◌==◌, ◌&&◌, ◌||◌, not, nat_le, nat_lt, slice_get, is_some, if◌then◌else◌}
use Rattle.std.specs.List.{list_all}
use Rattle.std.proofs.lemmas.Bool.Decides.{nat_tests}
use Rattle.std.proofs.lemmas.List.{length-take-le, take_all, take_more}
use Rattle.std.proofs.lemmas.Option.{get_or_from_slice_get, slice_get-get_or, slice_get_within}
use Rattle.cmm_abi.specs.Registers.{is_callee_saves, is_scratch}
use Rattle.cmm_chain.specs.declared.frame.Frame.{Frame}
use Rattle.cmm_chain.specs.declared.frame.Location.TheVariants.{Slot, Saved, Temp}
use Rattle.cmm_moves.specs.Moves.{are_apart, at_once, is_outside, is_source, is_target}
use Rattle.cmm_moves.specs.declared.sequencing.Move.{Move}
use Rattle.rv_asm.specs.Parts.{Code}
use Rattle.rv_asm.specs.declared.part.Part.{Part}
use Rattle.rv_table.specs.Machine.{MemoryMap, Region, State, bottom}
use Rattle.cmm_effects.proofs.Shared.{adds_none, adds_then, adds_weaker, runs_none}
use Rattle.cmm_effects.specs.Pieces.{Adds, Always}
use Rattle.cmm_select.specs.Operands.{operand_at}
use Rattle.cmm_select.specs.declared.operand.Operand.{Operand}
use Rattle.cmm_select.specs.declared.operand.Operand.TheVariants.{Held, Symbol}
use Rattle.cmm_select.specs.declared.source.Source.TheVariants.{Place, Number, Address}
use Rattle.cmm_calls.proofs.Brought.{operand_brought}
use Rattle.cmm_calls.proofs.Gone.{fixed_stays, gives_all, one_goes, operand_stays, those_same, those_then}
use Rattle.cmm_calls.proofs.Moved.{passes_both, passes_by, passes_weaker}
use Rattle.cmm_calls.proofs.Standing.{each, frame_stays}
use Rattle.cmm_calls.proofs.Taken.{value_in_register}
use Rattle.cmm_calls.proofs.Tests.{at_least, is_under, itself, under, unlike}
use Rattle.cmm_calls.specs.Values.{Gives, GivesIn, HasRegion, Passes, is_operand}
use Rattle.cmm_calls.specs.inside.Giving.{CanGive, GivesIf, GivesThose, Goes, count_in, goes_in, home, move_for, move_to, moves_from, one_if}
use Rattle.cmm_calls.specs.inside.Moves.{MovesAtOnce, PassesBy, begins_moving, is_movable}

-- ---- the moves

pub moves_then : (k : ℕ) (xs : List Operand) (a : Operand) → moves_from k (xs ++ a ∷ []) ≡ moves_from k xs ++ move_for (k + length xs) a
moves_then k [] a = end (move_for k a) ∙ ap (λ (n : ℕ). move_for n a) (omega arith)
  where
    end : (ms : List Move) → ms ++ [] ≡ ms
    end [] = refl
    end (m ∷ ms) = ap (λ rest. m ∷ rest) (end ms)
moves_then k (x ∷ xs) a =
    let e : suc k + length xs ≡ k + suc (length xs) = omega arith in
    ap (λ rest. move_for k x ++ rest) (moves_then (suc k) xs a ∙ ap (λ (n : ℕ). moves_from (suc k) xs ++ move_for n a) e)
    ∙ sym (joined (move_for k x) (moves_from (suc k) xs) (move_for (k + suc (length xs)) a))
  where
    joined : (xs ys zs : List Move) → (xs ++ ys) ++ zs ≡ xs ++ (ys ++ zs)
    joined [] ys zs = refl
    joined (m ∷ xs) ys zs = ap (λ rest. m ∷ rest) (joined xs ys zs)

abbrev may_move : ℕ → Bool → Option ℕ → List Move
may_move k c h = elim c [ true ↦ move_to k h | false ↦ [] ]

-- targets go up
below_targets : (j : ℕ) (vs : List Operand) (x : ℕ) → x < 10 + j → is_target x (moves_from j vs) ≡ false
below_targets j [] x low = refl
below_targets j (a ∷ vs) x low = by (nat_lt j 8) (home a) (moves_from (suc j) vs) (below_targets (suc j) vs x (omega (arith, low)))
  where
    by : (c : Bool) (h : Option ℕ) (rest : List Move) → is_target x rest ≡ false → is_target x (may_move j c h ++ rest) ≡ false
    by true (Some r) rest g = let e = unlike x (10 + j) (λ e. absurd (omega (arith, e, low))) in rw (e, g) refl
    by true None rest g = g
    by false h rest g = g

pub moves_apart : (j : ℕ) (vs : List Operand) → are_apart (moves_from j vs) ≡ true
moves_apart j [] = refl
moves_apart j (a ∷ vs) = by (nat_lt j 8) (home a) (moves_from (suc j) vs) (below_targets (suc j) vs (10 + j) (omega arith)) (moves_apart (suc j) vs)
  where
    by : (c : Bool) (h : Option ℕ) (rest : List Move) → is_target (10 + j) rest ≡ false → are_apart rest ≡ true → are_apart (may_move j c h ++ rest) ≡ true
    by true (Some r) rest g h = rw (g, h) refl
    by true None rest g h = h
    by false k rest g h = h

pub moves_untouched : (vs : List Operand) → is_target 5 (moves_from 0 vs) ≡ false
moves_untouched vs = below_targets 0 vs 5 (omega arith)

-- a home is a register in which a local may be
is_home : ℕ → Bool
is_home r = nat_le 8 r && nat_le r 31

home_in : (f : Frame) (a : Operand) (r : ℕ) → is_operand f a ≡ true → home a ≡ Some r → (8 ≤ r) × (r < 32)
home_in f (Held (Place (Slot o))) r is h = absurd (cc (h))
home_in f (Held (Place (Saved k))) r is h = let e : k ≡ r = cc (h) in let ok = (and_parts (is_callee_saves k) _ is).0 in (grind (arith, nat_tests, ok, e), grind (arith, nat_tests, ok, e))
home_in f (Held (Place (Temp k))) r is h = let e : k ≡ r = cc (h) in (grind (arith, nat_tests, is, e), grind (arith, nat_tests, is, e))
home_in f (Held (Number n)) r is h = absurd (cc (h))
home_in f (Held (Address o)) r is h = absurd (cc (h))
home_in f (Symbol l plus) r is h = absurd (cc (h))

pub moves_unread : (f : Frame) (j : ℕ) (vs : List Operand) → list_all (is_operand f) vs ≡ true → is_source 5 (moves_from j vs) ≡ false
moves_unread f j [] all = refl
moves_unread f j (a ∷ vs) all =
    let parts = and_parts (is_operand f a) (list_all (is_operand f) vs) all in
    by (nat_lt j 8) (home a) (moves_from (suc j) vs) (λ r h. home_in f a r parts.0 h) (moves_unread f (suc j) vs parts.1)
  where
    by : (c : Bool) (h : Option ℕ) (rest : List Move) → ((r : ℕ) → h ≡ Some r → (8 ≤ r) × (r < 32)) → is_source 5 rest ≡ false → is_source 5 (may_move j c h ++ rest) ≡ false
    by true (Some r) rest high g = let e = unlike 5 r (λ e. absurd (let h = (high r refl).0 in omega (arith, e, h))) in rw (e, g) refl
    by true None rest high g = g
    by false h rest high g = g

pub moves_inside : (f : Frame) (j : ℕ) (vs : List Operand) → list_all (is_operand f) vs ≡ true → is_outside is_movable (moves_from j vs) ≡ false
moves_inside f j [] all = refl
moves_inside f j (a ∷ vs) all =
    let parts = and_parts (is_operand f a) (list_all (is_operand f) vs) all in
    by (nat_lt j 8) refl (home a) (moves_from (suc j) vs) (λ r h. home_in f a r parts.0 h) (moves_inside f (suc j) vs parts.1)
  where
    to_movable : nat_lt j 8 ≡ true → is_movable (10 + j) ≡ true
    to_movable h = grind (arith, nat_tests, h)

    from_movable : (r : ℕ) → 8 ≤ r → r < 32 → is_movable r ≡ true
    from_movable r h g = grind (arith, nat_tests, h, g)

    by : (c : Bool) → nat_lt j 8 ≡ c → (h : Option ℕ) (rest : List Move) → ((r : ℕ) → h ≡ Some r → (8 ≤ r) × (r < 32)) → is_outside is_movable rest ≡ false →
        is_outside is_movable (may_move j c h ++ rest) ≡ false
    by true low (Some r) rest high g = rw (to_movable low, from_movable r (high r refl).0 (high r refl).1, g) refl
    by true low None rest high g = g
    by false far h rest high g = g

-- what is in none of the targets is passed by
passed_by : (j : ℕ) (c : Bool) (h : Option ℕ) (rest : List Move) (has : ℕ → ℕ) (x : ℕ) → (c ≡ true → is_some h ≡ true → x ≢ 10 + j) →
    at_once (may_move j c h ++ rest) has x ≡ at_once rest has x
passed_by j true (Some r) rest has x away = ap (λ (b : Bool). if b then has r else at_once rest has x) (unlike x (10 + j) (away refl refl))
passed_by j true None rest has x away = refl
passed_by j false h rest has x away = refl

moved_other : (j : ℕ) (vs : List Operand) (has : ℕ → ℕ) (x : ℕ) → ((k : ℕ) (a : Operand) → slice_get vs k ≡ Some a → j + k < 8 → is_some (home a) ≡ true → x ≢ 10 + (j + k)) →
    at_once (moves_from j vs) has x ≡ has x
moved_other j [] has x away = refl
moved_other j (a ∷ vs) has x away =
    passed_by j (nat_lt j 8) (home a) (moves_from (suc j) vs) has x
    (λ low some e. away 0 a refl (let h = under j 8 low in omega (arith, h)) some (omega (arith, e)))
    ∙ moved_other (suc j) vs has x (λ k b found low some e. away (suc k) b found (omega (arith, low)) some (omega (arith, e)))

moved_home : (j : ℕ) (vs : List Operand) (k : ℕ) (a : Operand) (r : ℕ) (has : ℕ → ℕ) → slice_get vs k ≡ Some a → j + k < 8 → home a ≡ Some r →
    at_once (moves_from j vs) has (10 + (j + k)) ≡ has r
moved_home j [] k a r has found low is = absurd (cc (found))
moved_home j (b ∷ vs) zero a r has found low is =
    let same : b ≡ a = cc (found) in
    let e : home b ≡ Some r = ap home same ∙ is in
    let n : j + 0 ≡ j = omega arith in
    let t = is_under j 8 (omega (arith, low)) in
    ap (λ (i : ℕ). at_once (moves_from j (b ∷ vs)) has (10 + i)) n
    ∙ ap (λ (c : Bool). at_once (may_move j c (home b) ++ moves_from (suc j) vs) has (10 + j)) t
    ∙ ap (λ (h : Option ℕ). at_once (may_move j true h ++ moves_from (suc j) vs) has (10 + j)) e
    ∙ ap (λ (c : Bool). if c then has r else at_once (moves_from (suc j) vs) has (10 + j)) (itself (10 + j))
moved_home j (b ∷ vs) (suc k) a r has found low is =
    let n : j + suc k ≡ suc j + k = omega arith in
    passed_by j (nat_lt j 8) (home b) (moves_from (suc j) vs) has (10 + (j + suc k)) (λ near some e. absurd (omega (arith, e)))
    ∙ ap (λ (i : ℕ). at_once (moves_from (suc j) vs) has (10 + i)) n
    ∙ moved_home (suc j) vs k a r has found (omega (arith, low)) is

-- ---- those that are in registers

abbrev pub at_home : ℕ → Operand → Bool
at_home k a = nat_lt k 8 && is_some (home a)

home_value : (at : ℕ → ℕ) (a : Operand) (s : State) → is_some (home a) ≡ true → (r : ℕ) × (home a ≡ Some r) × (s.registers r ≡ operand_at at a s)
home_value at (Held (Place (Slot o))) s some = absurd (cc (some))
home_value at (Held (Place (Saved r))) s some = (r, refl, refl)
home_value at (Held (Place (Temp r))) s some = (r, refl, refl)
home_value at (Held (Number n)) s some = absurd (cc (some))
home_value at (Held (Address o)) s some = absurd (cc (some))
home_value at (Symbol l plus) s some = absurd (cc (some))

pub homes_gone : (region : Region) (at : ℕ → ℕ) (values : List Operand) (s t : State) → MovesAtOnce (moves_from 0 values) s t → GivesThose region at at_home values s t
homes_gone region at values s t moved = record {
  arrive = λ k a goes.
      let parts = and_parts (nat_lt k 8) (is_some (home a)) goes.goes in
      let low = under k 8 parts.0 in
      let there = home_value at a s parts.1 in
      value_in_register region k t low ∙ moved.registers (10 + k) (λ e. absurd (omega (arith, e)))
      ∙ ap (λ (n : ℕ). at_once (moves_from 0 values) s.registers (10 + n)) (none k) ∙ moved_home 0 values k a there.0 s.registers goes.found (omega (arith, low)) there.1 ∙ there.2;
  registers = λ r kept away. moved.registers r (no_scratch r kept) ∙ moved_other 0 values s.registers r (λ k a found low some e. away k a record { found = found; goes = rw (is_under k 8 (omega (arith, low)), some) refl } (omega (arith, low)) (omega (arith, e)));
  waits = moved.registers 7 (λ e. absurd (omega (arith, e))) ∙ moved_other 0 values s.registers 7 (λ k a found low some e. absurd (omega (arith, e)));
  memory = λ b away. ap (λ (m : ℕ → ℕ). m b) moved.memory;
}
  where
    none : (k : ℕ) → k ≡ 0 + k
    none k = omega arith

    no_scratch : (r : ℕ) → is_scratch r ≡ false → r ≢ 5
    no_scratch r kept e = let g : is_scratch 5 ≡ false = subst (λ (n : ℕ). is_scratch n ≡ false) e kept in absurd (cc (g))

-- ---- those so far

abbrev pub so_far : Bool → ℕ → ℕ → Operand → Bool
so_far area i k a = goes_in area k a && nat_lt k i

abbrev pub GivesSoFar : ℕ → ℕ → Bool → ℕ → List Operand → Code → ℕ → ℕ → Type 0
GivesSoFar most size area i values x from to = (region : Region) → Passes most (HasRegion region size) (GivesThose region x.at (so_far area i) values) x from to

pub count_then : (area : Bool) (k : ℕ) (xs : List Operand) (a : Operand) → count_in area k (xs ++ a ∷ []) ≡ count_in area k xs + one_if (goes_in area (k + length xs) a)
count_then area k [] a =
    let e : k ≡ k + 0 = omega arith in
    let z : one_if (goes_in area k a) + 0 ≡ 0 + one_if (goes_in area k a) = omega arith in
    z ∙ ap (λ (n : ℕ). 0 + one_if (goes_in area n a)) e
count_then area k (x ∷ xs) a =
    let e : suc k + length xs ≡ k + suc (length xs) = omega arith in
    let h = count_then area (suc k) xs a ∙ ap (λ (n : ℕ). count_in area (suc k) xs + one_if (goes_in area n a)) e in
    omega (arith, h)

pub each_once : (k : ℕ) (vs : List Operand) → count_in true k vs + (length (moves_from k vs) + count_in false k vs) ≡ length vs
each_once k [] = refl
each_once k (a ∷ vs) = by (nat_lt k 8) refl (home a) (moves_from (suc k) vs) (count_in true (suc k) vs) (count_in false (suc k) vs) (length vs) (each_once (suc k) vs)
  where
    near : nat_lt k 8 ≡ true → nat_le 8 k ≡ false
    near h = grind (arith, nat_tests, h)

    far : nat_lt k 8 ≡ false → nat_le 8 k ≡ true
    far h = grind (arith, nat_tests, h)

    by : (c : Bool) → nat_lt k 8 ≡ c → (h : Option ℕ) (rest : List Move) (p q n : ℕ) → p + (length rest + q) ≡ n →
        (one_if (nat_le 8 k) + p) + (length (may_move k c h ++ rest) + (one_if (c && not (is_some h)) + q)) ≡ suc n
    by true is (Some r) rest p q n e = rw (near is) (omega (arith, e))
    by true is None rest p q n e = rw (near is) (omega (arith, e))
    by false is h rest p q n e = rw (far is) (omega (arith, e))

module _ (region : Region) (at : ℕ → ℕ) (f : Frame) (values : List Operand) (few : length values ≤ 64) (area : Bool) (i : ℕ) (v : Operand) (found : slice_get values i ≡ Some v) where
  so_far_step : (now : Bool) → now ≡ goes_in area i v → (s t u : State) → is_operand f v ≡ true → bottom region ≤ s.registers 2 → GivesThose region at (so_far area i) values s t →
      GivesIf region now i (operand_at at v t) t u → GivesThose region at (so_far area (i + 1)) values s u
  so_far_step true is s t u good low first second =
      those_then region at values (so_far area i) (λ k a. k == i) (so_far area (i + 1)) split wider this apart s t u stays first (one_goes region at values i (operand_at at v t) v t u found refl second)
    where
      same_value : (k : ℕ) (a : Operand) → slice_get values k ≡ Some a → k ≡ i → v ≡ a
      same_value k a is_there e = let g : Some v ≡ Some a = sym found ∙ ap (λ (n : ℕ). slice_get values n) (sym e) ∙ is_there in cc (g)

      step_test : (k : ℕ) → nat_lt k (i + 1) ≡ true → (nat_lt k i ≡ true) ⊎ ((k == i) ≡ true)
      step_test k h = by (k == i) refl
        where
          by : (c : Bool) → (k == i) ≡ c → (nat_lt k i ≡ true) ⊎ (c ≡ true)
          by true e = inr refl
          by false e = inl (grind (arith, nat_tests, h, e))

      split : (k : ℕ) (a : Operand) → Goes (so_far area (i + 1)) values k a → Goes (so_far area i) values k a ⊎ Goes (λ k a. k == i) values k a
      split k a goes =
          let parts = and_parts (goes_in area k a) (nat_lt k (i + 1)) goes.goes in
          elim (step_test k parts.1) [
            | inl before ↦ inl record { found = goes.found; goes = rw (parts.0, before) refl }
            | inr now ↦ inr record { found = goes.found; goes = now }
          ]

      wider : (k : ℕ) (a : Operand) → Goes (so_far area i) values k a → Goes (so_far area (i + 1)) values k a
      wider k a goes =
          let parts = and_parts (goes_in area k a) (nat_lt k i) goes.goes in
          let more : nat_lt k (i + 1) ≡ true = is_under k (i + 1) (let h = under k i parts.1 in omega (arith, h)) in
          record { found = goes.found; goes = rw (parts.0, more) refl }

      equal : (a b : ℕ) → (a == b) ≡ true → a ≡ b
      equal a b h = grind (arith, nat_tests, h)

      this : (k : ℕ) (a : Operand) → Goes (λ k a. k == i) values k a → Goes (so_far area (i + 1)) values k a
      this k a goes =
          let e = equal k i goes.goes in
          let w = same_value k a goes.found e in
          let less : nat_lt k (i + 1) ≡ true = is_under k (i + 1) (omega (arith, e)) in
          let g : goes_in area k a ≡ true = ap (λ (n : ℕ). goes_in area n a) e ∙ ap (λ (b : Operand). goes_in area i b) (sym w) ∙ sym is in
          record { found = goes.found; goes = rw (g, less) refl }

      apart : (k : ℕ) (a : Operand) → Goes (so_far area i) values k a → Goes (λ k a. k == i) values k a → true ≡ false
      apart k a goes now =
          let h = under k i (and_parts (goes_in area k a) (nat_lt k i) goes.goes).1 in
          let e = equal k i now.goes in
          absurd (omega (arith, h, e))

      only : (b : Bool) → b ≡ area → is_some (home v) ≡ true → (k : ℕ) (a : Operand) → Goes (so_far area i) values k a → 8 ≤ k
      only true e some k a goes =
          let g : nat_le 8 k ≡ true = ap (λ (c : Bool). goes_in c k a) e ∙ (and_parts (goes_in area k a) (nat_lt k i) goes.goes).0 in
          grind (arith, nat_tests, g)
      only false e some k a goes =
          let g : (nat_lt i 8 && not (is_some (home v))) ≡ true = ap (λ (c : Bool). goes_in c i v) e ∙ sym is in
          let n : not (is_some (home v)) ≡ true = (and_parts (nat_lt i 8) (not (is_some (home v))) g).1 in
          absurd (let m : not true ≡ true = ap not (sym some) ∙ n in cc (m))

      stays : (k : ℕ) (a : Operand) → Goes (λ k a. k == i) values k a → operand_at at a t ≡ operand_at at a s
      stays k a goes =
          subst (λ (b : Operand). operand_at at b t ≡ operand_at at b s) (same_value k a goes.found (equal k i goes.goes))
          (operand_stays region at (so_far area i) values few s t first f v good (only area refl) low)
  so_far_step false is s t u good low first second = subst (λ (w : State). GivesThose region at (so_far area (i + 1)) values s w) second (those_same region at values (so_far area i) (so_far area (i + 1)) s t back forth first)
    where
      equal : (a b : ℕ) → (a == b) ≡ true → a ≡ b
      equal a b h = grind (arith, nat_tests, h)

      back : (k : ℕ) (a : Operand) → Goes (so_far area (i + 1)) values k a → Goes (so_far area i) values k a
      back k a goes = by (k == i) refl
        where
          parts : (goes_in area k a ≡ true) × (nat_lt k (i + 1) ≡ true)
          parts = and_parts (goes_in area k a) (nat_lt k (i + 1)) goes.goes

          by : (c : Bool) → (k == i) ≡ c → Goes (so_far area i) values k a
          by true e =
              let w = equal k i e in
              let g : Some v ≡ Some a = sym found ∙ ap (λ (n : ℕ). slice_get values n) (sym w) ∙ goes.found in
              let same : v ≡ a = cc (g) in
              let no : false ≡ true = is ∙ ap (λ (n : ℕ). goes_in area n v) (sym w) ∙ ap (λ (b : Operand). goes_in area k b) same ∙ parts.0 in
              absurd (cc (no))
          by false e =
              let less : nat_lt k i ≡ true = grind (arith, nat_tests, parts.1, e) in
              record { found = goes.found; goes = rw (parts.0, less) refl }

      forth : (k : ℕ) (a : Operand) → Goes (so_far area i) values k a → Goes (so_far area (i + 1)) values k a
      forth k a goes =
          let parts = and_parts (goes_in area k a) (nat_lt k i) goes.goes in
          let more : nat_lt k (i + 1) ≡ true = is_under k (i + 1) (let h = under k i parts.1 in omega (arith, h)) in
          record { found = goes.found; goes = rw (parts.0, more) refl }

pub so_far_none : (old : List Part) (size : ℕ) (area : Bool) (values : List Operand) → Adds 0 old old (GivesSoFar 0 size area 0 values)
so_far_none old size area values =
    adds_weaker (adds_none old) (omega arith)
    (λ x from to is. λ region. record {
      begins = inl is;
      runs = runs_none is (λ s sound has. record {
        arrive = λ k a goes. absurd (let h = under k 0 (and_parts (goes_in area k a) (nat_lt k 0) goes.goes).1 in omega (arith, h));
        registers = λ r kept away. refl;
        waits = refl;
        memory = λ b away. refl;
      });
    })

-- the state stands as before
region_stays : (region : Region) (at : ℕ → ℕ) (gone : ℕ → Operand → Bool) (values : List Operand) (few : length values ≤ 64) (size : ℕ) (m : MemoryMap) (s t : State) → GivesThose region at gone values s t → HasRegion region size m s →
    HasRegion region size m t
region_stays region at gone values few size m s t gives has = record {
  stack = frame_stays size m s t (fixed_stays region at gone values few s t gives 2 (omega arith)) has.stack;
  region = fixed_stays region at gone values few s t gives 4 (omega arith) ∙ has.region;
}

pub so_far_more : (old mid new : List Part) (f : Frame) (values : List Operand) (area now : Bool) (i : ℕ) (d : Operand) → i < length values → length values ≤ 64 → is_operand f (get_or values i d) ≡ true →
    now ≡ goes_in area i (get_or values i d) → Adds (12 * count_in area 0 (take i values)) old mid (GivesSoFar (12 * count_in area 0 (take i values)) f.size area i values) →
    Adds (12 * one_if now) mid new (λ x from to. (region : Region) → Passes (12 * one_if now) (CanGive region (get_or values i d)) (λ s t. GivesIf region now i (operand_at x.at (get_or values i d) s) s t) x from to) →
    Adds (12 * count_in area 0 (take (i + 1) values)) old new (GivesSoFar (12 * count_in area 0 (take (i + 1) values)) f.size area (i + 1) values)
so_far_more old mid new f values area now i d within few good is first second =
    let v = get_or values i d in
    let len0 : length (take i values) ≡ i = length-take-le i values (omega (arith, within)) in
    let len : i ≡ 0 + length (take i values) = omega (arith, len0) in
    let c : count_in area 0 (take (i + 1) values) ≡ count_in area 0 (take i values) + one_if now =
    ap (count_in area 0) (take_more values i d within) ∙ count_then area 0 (take i values) v
    ∙ ap (λ (b : Bool). count_in area 0 (take i values) + one_if b) (ap (λ (n : ℕ). goes_in area n v) (sym len) ∙ sym is) in
    let most : 12 * count_in area 0 (take i values) + 12 * one_if now ≤ 12 * count_in area 0 (take (i + 1) values) = omega (arith, c) in
    adds_weaker (adds_then first second) most
    (λ x from to does. λ region.
    passes_weaker
    (passes_both (does.1 region) (does.2 region)
    (λ s t sound also has gives.
    let stands = region_stays region x.at (so_far area i) values few f.size x.map s t gives has in
    record { brings = operand_brought f v x.map t good stands.stack; lies = has.stack.lies; region = stands.region }))
    most (λ s sound has. has)
    (λ s u sound has passed.
    so_far_step region x.at f values few area i v (slice_get-get_or values i d within) now is s passed.0 u good has.stack.low passed.1 passed.2))

pub so_far_all : (old new : List Part) (size : ℕ) (values : List Operand) (area : Bool) (i : ℕ) → length values ≤ i → Adds (12 * count_in area 0 (take i values)) old new (GivesSoFar (12 * count_in area 0 (take i values)) size area i values) →
    Adds (12 * count_in area 0 values) old new (λ x from to. (region : Region) → Passes (12 * count_in area 0 values) (HasRegion region size) (GivesThose region x.at (goes_in area) values) x from to)
so_far_all old new size values area i past first =
    let e : take i values ≡ values = take_all i values past in
    let most : 12 * count_in area 0 (take i values) ≤ 12 * count_in area 0 values = let c = ap (count_in area 0) e in omega (arith, c) in
    adds_weaker first most
    (λ x from to does. λ region. passes_weaker (does region) most (λ s sound has. has)
    (λ s t sound has gives. those_same region x.at values (so_far area i) (goes_in area) s t
    (λ k a goes. record { found = goes.found; goes = let less = is_under k i (let h = slice_get_within values k a goes.found in omega (arith, h, past)) in rw (goes.goes, less) refl })
    (λ k a goes. record { found = goes.found; goes = (and_parts (goes_in area k a) (nat_lt k i) goes.goes).0 })
    gives))

-- ---- the area's, those in registers, and the others

is_good : (f : Frame) (values : List Operand) (k : ℕ) (a : Operand) → list_all (is_operand f) values ≡ true → slice_get values k ≡ Some a → is_operand f a ≡ true
is_good f values k a good found =
    subst (λ (b : Operand). is_operand f b ≡ true) (get_or_from_slice_get values k a a found) (each (is_operand f) values k a good (slice_get_within values k a found))

abbrev two_parts : ℕ → Operand → Bool
two_parts k a = nat_le 8 k || at_home k a

far_not_near : (k : ℕ) → nat_le 8 k ≡ true → nat_lt k 8 ≡ false
far_not_near k h = grind (arith, nat_tests, h)

near_or_far : (k : ℕ) → (nat_lt k 8 ≡ true) ⊎ (nat_le 8 k ≡ true)
near_or_far k = by (nat_lt k 8) refl
  where
    by : (c : Bool) → nat_lt k 8 ≡ c → (c ≡ true) ⊎ (nat_le 8 k ≡ true)
    by true is = inl refl
    by false is = inr (grind (arith, nat_tests, is))

clash : (c : Bool) → c ≡ true → not c ≡ true → true ≡ false
clash true h g = sym (cc (g))
clash false h g = sym h

module _ (region : Region) (at : ℕ → ℕ) (f : Frame) (values : List Operand) (few : length values ≤ 64) (good : list_all (is_operand f) values ≡ true) where
  two_gone : (s t u : State) → bottom region ≤ s.registers 2 → GivesThose region at (goes_in true) values s t → GivesThose region at at_home values t u → GivesThose region at two_parts values s u
  two_gone s t u low first second =
      those_then region at values (goes_in true) at_home two_parts
      (λ k a goes. elim (or_cases (nat_le 8 k) (at_home k a) goes.goes) [
        | inl far ↦ inl record { found = goes.found; goes = far }
        | inr there ↦ inr record { found = goes.found; goes = there }
      ])
      (λ k a goes. record { found = goes.found; goes = rw goes.goes refl })
      (λ k a goes. record { found = goes.found; goes = or_right (nat_le 8 k) (at_home k a) goes.goes })
      (λ k a far there. sym (and_parts (nat_lt k 8) (is_some (home a)) there.goes).0 ∙ far_not_near k far.goes)
      s t u
      (λ k a goes. operand_stays region at (goes_in true) values few s t first f a (is_good f values k a good goes.found) (λ some j b far. at_least j far.goes) low)
      first second

  three_gone : (s t u : State) → bottom region ≤ s.registers 2 → GivesThose region at two_parts values s t → GivesThose region at (goes_in false) values t u → Gives region at values s u
  three_gone s t u low first second =
      gives_all region at values s u
      (those_then region at values two_parts (goes_in false) (λ k a. true)
      (λ k a goes. split k a goes.found)
      (λ k a goes. record { found = goes.found; goes = refl })
      (λ k a goes. record { found = goes.found; goes = refl })
      (λ k a goes other. apart k a goes.goes other.goes)
      s t u
      (λ k a goes. operand_stays region at two_parts values few s t first f a (is_good f values k a good goes.found)
      (λ some j b other. absurd (let no = clash (is_some (home a)) some (and_parts (nat_lt k 8) (not (is_some (home a))) goes.goes).1 in cc (no))) low)
      first second)
    where
      split : (k : ℕ) (a : Operand) → slice_get values k ≡ Some a → Goes two_parts values k a ⊎ Goes (goes_in false) values k a
      split k a found = elim (near_or_far k) [
        | inl near ↦ by (is_some (home a)) refl near
        | inr far ↦ inl record { found = found; goes = rw far refl }
      ]
        where
          by : (c : Bool) → is_some (home a) ≡ c → nat_lt k 8 ≡ true → Goes two_parts values k a ⊎ Goes (goes_in false) values k a
          by true some near = inl record { found = found; goes = or_right (nat_le 8 k) (at_home k a) (rw (near, some) refl) }
          by false none near = inr record { found = found; goes = rw (near, none) refl }

      apart : (k : ℕ) (a : Operand) → two_parts k a ≡ true → goes_in false k a ≡ true → true ≡ false
      apart k a h g =
          let parts = and_parts (nat_lt k 8) (not (is_some (home a))) g in
          elim (or_cases (nat_le 8 k) (at_home k a) h) [
            | inl far ↦ sym parts.0 ∙ far_not_near k far
            | inr there ↦ clash (is_some (home a)) (and_parts (nat_lt k 8) (is_some (home a)) there).1 parts.1
          ]

pub given_all : (old one two new : List Part) (f : Frame) (values : List Operand) → length values ≤ 64 → list_all (is_operand f) values ≡ true →
    Adds (12 * count_in true 0 values) old one (λ x from to. (region : Region) → Passes (12 * count_in true 0 values) (HasRegion region f.size) (GivesThose region x.at (goes_in true) values) x from to) →
    Adds (2 * length (moves_from 0 values)) one two (PassesBy (one_if (begins_moving (moves_from 0 values))) (2 * length (moves_from 0 values)) Always (MovesAtOnce (moves_from 0 values))) →
    Adds (12 * count_in false 0 values) two new (λ x from to. (region : Region) → Passes (12 * count_in false 0 values) (HasRegion region f.size) (GivesThose region x.at (goes_in false) values) x from to) →
    Adds (12 * length values) old new (GivesIn (12 * length values) f.size values)
given_all old one two new f values few good first second third =
    let all = each_once 0 values in
    let most : 12 * count_in true 0 values + (2 * length (moves_from 0 values) + 12 * count_in false 0 values) ≤ 12 * length values = omega (arith, all) in
    adds_weaker (adds_then first (adds_then second third)) most
    (λ x from to does. λ region.
    passes_weaker
    (passes_both (does.1 region)
    (passes_both
    (passes_weaker {R = HasRegion region f.size} {S = MovesAtOnce (moves_from 0 values)} {b = 2 * length (moves_from 0 values)} (passes_by does.2.1) (omega arith) (λ s sound has. tt) (λ s t sound has moved. moved))
    (does.2.2 region)
    (λ s t sound also has moved. region_stays region x.at at_home values few f.size x.map s t (homes_gone region x.at values s t moved) has))
    (λ s t sound also has gives. region_stays region x.at (goes_in true) values few f.size x.map s t gives has))
    most (λ s sound has. has)
    (λ s w sound has passed.
    three_gone region x.at f values few good s passed.2.0 w has.stack.low
    (two_gone region x.at f values few good s passed.0 passed.2.0 has.stack.low passed.1 (homes_gone region x.at values passed.0 passed.2.0 passed.2.1)) passed.2.2))
