-- Values are copied by an instruction at least, which does nothing where the first value comes nowhere.
use Rattle.std.proofs.Common.{◌≡◌, ◌≢◌, inl, inr, ℕ, suc, ◌+◌, ◌-◌, ◌*◌, ◌<◌, ◌≤◌, Bool, true, false, List, [], ◌∷◌, ◌++◌, length, refl, sym, ◌∙◌, ap, subst, arith, pos, Option, Some, None}
use Rattle.std.specs.Prelude.{◌==◌, ◌&&◌, not, is_some}
use Rattle.std.specs.List.{list_all}
use Rattle.std.proofs.lemmas.Bool.{cases_lt, and_parts}
use Rattle.std.proofs.lemmas.Bool.Decides.{nat_tests}
use Rattle.cmm_abi.specs.Regions.{value_place, word_at}
use Rattle.cmm_abi.specs.Registers.{is_callee_saves}
use Rattle.cmm_chain.specs.declared.frame.Frame.{Frame}
use Rattle.cmm_chain.specs.declared.frame.Location.TheVariants.{Slot, Saved, Temp}
use Rattle.rv_asm.specs.declared.part.Part.{Part}
use Rattle.rv_table.specs.Machine.{Region, State, loaded}
use Rattle.rv_table.specs.declared.instruction.Instr.TheVariants.{Addi}
use Rattle.cmm_effects.proofs.Shared.{adds_then, adds_weaker, set_keeps}
use Rattle.cmm_effects.specs.Changes.{Keeps, Sets}
use Rattle.cmm_effects.specs.Pieces.{Adds}
use Rattle.cmm_select.proofs.Shared.{One}
use Rattle.cmm_select.specs.Destinations.{PutsTo}
use Rattle.cmm_select.specs.declared.destination.Destination.{Destination}
use Rattle.cmm_select.specs.declared.destination.Destination.TheVariants.{Place, Register}
use Rattle.cmm_calls.proofs.Arrived.{last_is}
use Rattle.cmm_calls.proofs.Copied.{puts_global_after}
use Rattle.cmm_calls.proofs.Moved.{by_both, by_of, by_weaker, leads_by, moves_one}
use Rattle.cmm_calls.proofs.Standing.{frame_stays}
use Rattle.cmm_calls.proofs.Taken.{no_scratch_value, puts_after, value_in_area, value_in_register}
use Rattle.cmm_calls.proofs.Tests.{unlike}
use Rattle.cmm_calls.specs.Copying.{CopiesIn, PutsEachTo, is_destination, values_to}
use Rattle.cmm_calls.specs.Values.{HasRegion}
use Rattle.cmm_calls.specs.inside.Arriving.{CopiesAll, begins_idle, copy_cost, copy_least, copy_moves, cost_of, is_stored, last_to, move_from, register_of}
use Rattle.cmm_calls.specs.inside.Giving.{one_if}
use Rattle.cmm_calls.specs.inside.Moves.{begins_moving}

-- ---- behind an instruction that changes scratch registers alone

value_kept : (region : Region) (k : ℕ) (s t : State) → Keeps s t → word_at t (value_place region k) ≡ word_at s (value_place region k)
value_kept region k s t keeps = elim (cases_lt k 8) [
  | inl near ↦ value_in_register region k t near ∙ keeps.registers (10 + k) (no_scratch_value k) ∙ sym (value_in_register region k s near)
  | inr far ↦ value_in_area region k t far ∙ ap (λ (m : ℕ → ℕ). loaded m (region.address + 8 * (k - 8)) 8) keeps.memory ∙ sym (value_in_area region k s far)
]

values_kept : (region : Region) (k : ℕ) (to : List Destination) (s t : State) → Keeps s t → values_to region k to t ≡ values_to region k to s
values_kept region k [] s t keeps = refl
values_kept region k (d ∷ to) s t keeps =
    ap (λ (n : ℕ). (d, n) ∷ values_to region (suc k) to t) (value_kept region k s t keeps)
    ∙ ap (λ rest. (d, word_at s (value_place region k)) ∷ rest) (values_kept region (suc k) to s t keeps)

puts_to_after : (at : ℕ → ℕ) (d : Destination) (n : ℕ) (s t u : State) → Keeps s t → PutsTo at d n t u → PutsTo at d n s u
puts_to_after at (Place p) n s t u keeps puts = puts_after p n s t u keeps puts
puts_to_after at (Register l) n s t u keeps puts = puts_global_after (at l.number) n s t u keeps puts

each_after : (at : ℕ → ℕ) (d : Destination) (n : ℕ) (rest : List (Destination × ℕ)) (s t u : State) → Keeps s t → PutsEachTo at ((d, n) ∷ rest) t u → PutsEachTo at ((d, n) ∷ rest) s u
each_after at d n rest s t u keeps puts = (puts.0, puts_to_after at d n s t puts.0 keeps puts.1, puts.2)

all_after : (region : Region) (at : ℕ → ℕ) (d : Destination) (to : List Destination) (s t u : State) → Keeps s t → PutsEachTo at (values_to region 0 (d ∷ to) t) t u →
    PutsEachTo at (values_to region 0 (d ∷ to) s) s u
all_after region at d to s t u keeps puts =
    each_after at d (word_at s (value_place region 0)) (values_to region 1 to s) s t u keeps
    (subst (λ (list : List (Destination × ℕ)). PutsEachTo at list t u) (values_kept region 0 (d ∷ to) s t keeps) puts)

-- ---- how many instructions

at_most_five : (to : List Destination) → copy_cost to ≤ 5 * length to
at_most_five [] = omega arith
at_most_five (d ∷ to) = let h = at_most_five to in let one = most d in omega (arith, h, one)
  where
    most : (d : Destination) → cost_of d ≤ 5
    most (Place p) = omega arith
    most (Register l) = omega arith

-- a place costs one less
one_to_spare : (to : List Destination) → begins_idle to ≡ true → 1 + copy_cost to ≤ 5 * length to
one_to_spare [] idle = absurd (cc (idle))
one_to_spare (d ∷ to) idle =
    let h = at_most_five to in
    let four = four_of d (and_parts (is_some (register_of d)) (not (is_some (last_to (register_of d) to))) idle).0 in
    omega (arith, h, four)
  where
    four_of : (d : Destination) → is_some (register_of d) ≡ true → cost_of d ≡ 4
    four_of (Place p) some = refl
    four_of (Register l) some = absurd (cc (some))

-- the first value does not come from where it goes
not_ten : (f : Frame) (d : Destination) (r : ℕ) → is_destination f d ≡ true → register_of d ≡ Some r → r ≢ 10
not_ten f (Place (Slot o)) r is h e = absurd (cc (h))
not_ten f (Place (Saved k)) r is h e = let w : k ≡ r = cc (h) in let ok = (and_parts (is_callee_saves k) _ is).0 in grind (arith, nat_tests, ok, w, e)
not_ten f (Place (Temp k)) r is h e = let w : k ≡ r = cc (h) in grind (arith, nat_tests, is, w, e)
not_ten f (Register l) r is h e = absurd (cc (h))

begins : (f : Frame) (d : Destination) (to : List Destination) → is_destination f d ≡ true → begins_idle (d ∷ to) ≡ false → 1 ≤ copy_least (d ∷ to)
begins f d to is idle = by (register_of d) refl
  where
    some_first : (o : Option ℕ) → not (is_some o) ≡ false → (r : ℕ) × (o ≡ Some r)
    some_first None h = absurd (cc (h))
    some_first (Some r) h = (r, refl)

    by : (o : Option ℕ) → register_of d ≡ o → 1 ≤ copy_least (d ∷ to)
    by None e =
        let one : one_if (is_stored d) ≡ 1 = ap (λ (o : Option ℕ). one_if (not (is_some o))) e in
        omega (arith, one)
    by (Some r) e =
        let last : not (is_some (last_to (register_of d) to)) ≡ false = ap (λ (o : Option ℕ). is_some o && not (is_some (last_to (register_of d) to))) (sym e) ∙ idle in
        let there = some_first (last_to (register_of d) to) last in
        let moving : begins_moving (copy_moves 0 (d ∷ to)) ≡ not (there.0 == 10) = ap (λ (o : Option ℕ). begins_moving (move_from 0 o ++ copy_moves 1 to)) there.1 in
        let other : (there.0 == 10) ≡ false = unlike there.0 10 (not_ten f d there.0 is (last_is (register_of d) to there.0 there.1).0) in
        let one : one_if (begins_moving (copy_moves 0 (d ∷ to))) ≡ 1 = ap one_if moving ∙ ap (λ (b : Bool). one_if (not b)) other in
        omega (arith, one)

-- ---- both cases

pub copied_plainly : (old new : List Part) (f : Frame) (to : List Destination) → list_all (is_destination f) to ≡ true → begins_idle to ≡ false →
    Adds (copy_cost to) old new (CopiesAll (copy_least to) (copy_cost to) f.size to) → Adds (5 * length to) old new (CopiesIn (5 * length to) f to)
copied_plainly old new f to good idle adds =
    adds_weaker adds (at_most_five to)
    (λ x from on copied. record {
      none = copied.none;
      some = λ more knows region.
          leads_by {l = copy_least to} (at_least_one to more good idle)
          (by_weaker {l = copy_least to} {k = copy_least to} (copied.all knows region) (omega arith) (at_most_five to) (λ s sound has. has) (λ s t sound has puts. puts));
    })
  where
    at_least_one : (to : List Destination) → 0 < length to → list_all (is_destination f) to ≡ true → begins_idle to ≡ false → 1 ≤ copy_least to
    at_least_one [] more good idle = absurd (omega (arith, more))
    at_least_one (d ∷ to) more good idle = begins f d to (and_parts (is_destination f d) (list_all (is_destination f) to) good).0 idle

pub copied_idly : (old mid new : List Part) (f : Frame) (to : List Destination) → begins_idle to ≡ true → Adds 1 old mid (λ x from on. One (Addi 5 5 (pos 0)) x from on) →
    Adds (copy_cost to) mid new (CopiesAll (copy_least to) (copy_cost to) f.size to) → Adds (5 * length to) old new (CopiesIn (5 * length to) f to)
copied_idly old mid new f [] idle first second = absurd (cc (idle))
copied_idly old mid new f (d ∷ to) idle first second =
    let n = copy_least (d ∷ to) in
    adds_weaker (adds_then first second) (one_to_spare (d ∷ to) idle)
    (λ x from on does. record {
      none = λ e. absurd (cc (e));
      some = λ more knows region.
          leads_by {l = 1 + n} (omega arith)
          (by_weaker {l = 1 + n} {k = 1 + n}
          (by_both
          (by_weaker {R = HasRegion region f.size} {S = λ s t. Sets 5 (s.registers 5) s t} {b = 1} {l = 1} {k = 1} (by_of (moves_one x 5 5 from does.0 (omega arith) does.1)) (omega arith) (omega arith) (λ s sound has. tt)
          (λ s t sound has sets. sets))
          (does.2.all knows region)
          (λ s t sound also has sets.
          let keeps = set_keeps 5 (s.registers 5) s t refl sets in
          record { stack = frame_stays f.size x.map s t (keeps.registers 2 refl) has.stack; region = keeps.registers 4 refl ∙ has.region }))
          (omega arith) (one_to_spare (d ∷ to) idle) (λ s sound has. has)
          (λ s u sound has passed. all_after region x.at d to s passed.0 u (set_keeps 5 (s.registers 5) s passed.0 refl passed.1) passed.2));
    })
