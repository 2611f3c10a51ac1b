-- Values that control brings come to destinations, one after the other.
use Rattle.std.proofs.Common.{◌≡◌, ℕ, suc, ◌+◌, ◌-◌, ◌*◌, ◌<◌, ◌≤◌, ◌^◌, true, List, [], ◌∷◌, ◌++◌, length, map, refl, sym, ◌∙◌, ap, subst, arith, pos}
use Rattle.std.specs.Prelude.{IsTrue}
use Rattle.cmm_abi.proofs.Shared.{low_word_accessible}
use Rattle.cmm_abi.specs.Regions.{value_place, word_at}
use Rattle.cmm_chain.specs.declared.frame.Frame.{Frame}
use Rattle.cmm_chain.specs.declared.frame.Location.{Location}
use Rattle.rv_asm.specs.Appending.{Then}
use Rattle.rv_asm.specs.Parts.{Code}
use Rattle.rv_asm.specs.declared.part.Label.{Label}
use Rattle.rv_table.specs.Machine.{MemoryMap, Region, State, is_accessible, stored}
use Rattle.rv_table.specs.declared.instruction.Instr.TheVariants.{Ld}
use Rattle.cmm_effects.proofs.Shared.{leads_then, leads_weaker, runs_of, set_keeps}
use Rattle.cmm_effects.specs.Accesses.{CanReachGlobal, PutsGlobal}
use Rattle.cmm_effects.specs.Changes.{Keeps, Sets}
use Rattle.cmm_effects.specs.Pieces.{Leads}
use Rattle.cmm_select.specs.Destinations.{CanPut, PutsTo}
use Rattle.cmm_select.specs.declared.destination.Destination.{Destination}
use Rattle.cmm_select.specs.declared.destination.Destination.TheVariants.{Place, Register}
use Rattle.cmm_select.proofs.Shared.{One}
use Rattle.cmm_calls.proofs.Standing.{place_reached}
use Rattle.cmm_calls.proofs.Taken.{area_below, area_loads, value_in_register}
use Rattle.cmm_calls.specs.Copying.{IsGlobal, IsGlobalBy, PutsEachTo, is_destination, values_to}
use Rattle.cmm_calls.specs.Frames.{PutsEach}
use Rattle.cmm_calls.specs.Values.{HasRegion, values_for}
use Rattle.cmm_calls.specs.inside.Taking.{CanCopyIn}

-- ---- one value comes to a global register

-- a change behind one of scratch registers alone
pub puts_global_after : (o n : ℕ) (s t u : State) → Keeps s t → PutsGlobal o n t u → PutsGlobal o n s u
puts_global_after o n s t u keeps wrote = record {
  registers = λ r h. wrote.registers r h ∙ keeps.registers r h;
  memory = wrote.memory ∙ ap (λ (a : ℕ). stored t.memory (a + o) 8 n) (keeps.registers 4 refl) ∙ ap (λ (m : ℕ → ℕ). stored m (s.registers 4 + o) 8 n) keeps.memory;
}

module _ (x : Code) (k : ℕ) (few : k < 64) (l : Label) (from to : ℕ) where
  pub copies_from_register : k < 8 → Leads 4 (CanReachGlobal (x.at l.number)) (λ s t. PutsGlobal (x.at l.number) (s.registers (10 + k)) s t) x from to → (region : Region) →
      Leads 5 (CanCopyIn region x.at (Register l)) (λ s t. PutsTo x.at (Register l) (word_at s (value_place region k)) s t) x from to
  copies_from_register low leads region =
      leads_weaker leads (omega arith) (λ s sound can. can.reaches)
      (λ s t sound can puts. subst (λ (n : ℕ). PutsGlobal (x.at l.number) n s t) (sym (value_in_register region k s low)) puts)

  pub copies_from_area : 8 ≤ k →
      Then (One (Ld 5 4 (pos (8 * (k - 8))))) (Leads 4 (CanReachGlobal (x.at l.number)) (λ s t. PutsGlobal (x.at l.number) (s.registers 5) s t)) x from to → (region : Region) →
      Leads 5 (CanCopyIn region x.at (Register l)) (λ s t. PutsTo x.at (Register l) (word_at s (value_place region k)) s t) x from to
  copies_from_area low does region =
      leads_weaker
      (leads_then
      (leads_weaker {R = CanCopyIn region x.at (Register l)} {S = λ s t. Sets 5 (word_at s (value_place region k)) s t} {b = 1} (area_loads x k few from does.0 low does.1 region) (omega arith) (λ s sound can. (can.lies, can.region))
      (λ s t sound can sets. sets))
      (runs_of does.2)
      (λ s t sound also can sets. reached_after s t (set_keeps 5 (word_at s (value_place region k)) s t refl sets) can.reaches))
      (omega arith) (λ s sound can. can)
      (λ s u sound can both. puts_global_after (x.at l.number) (word_at s (value_place region k)) s both.0 u (set_keeps 5 (word_at s (value_place region k)) s both.0 refl both.1)
      (subst (λ (n : ℕ). PutsGlobal (x.at l.number) n both.0 u) both.1.given both.2))
    where
      reached_after : (s t : State) → Keeps s t → CanReachGlobal (x.at l.number) x.map s → CanReachGlobal (x.at l.number) x.map t
      reached_after s t keeps can =
          subst (λ (a : ℕ). (a + x.at l.number < 2 ^ 64) × IsTrue (is_accessible x.map (a + x.at l.number) 8)) (sym (keeps.registers 4 refl)) can

-- ---- what a destination leaves as it was

-- a destination in a frame is reached
pub destination_reached : (region : Region) (f : Frame) (at : ℕ → ℕ) (to : Destination) (m : MemoryMap) (s : State) → is_destination f to ≡ true → IsGlobalBy at to → HasRegion region f.size m s → CanPut at to m s
destination_reached region f at (Place p) m s is global has = place_reached f p m s is has.stack
destination_reached region f at (Register l) m s is global has =
    subst (λ (a : ℕ). (a + at l.number < 2 ^ 64) × IsTrue (is_accessible m (a + at l.number) 8)) (sym has.region)
    (small (at l.number) global, low_word_accessible region m (at l.number) has.stack.lies global.aligned global.below)
  where
    small : (o : ℕ) → IsGlobal o → region.address + o < 2 ^ 64
    small o is_global = omega (arith, is_global.below, area_below region m has.stack.lies)

-- ---- lists of values

pub values_to-append : (region : Region) (k : ℕ) (xs ys : List Destination) (s : State) → values_to region k (xs ++ ys) s ≡ values_to region k xs s ++ values_to region (k + length xs) ys s
values_to-append region k [] ys s = ap (λ (n : ℕ). values_to region n ys s) (omega arith)
values_to-append region k (p ∷ xs) ys s =
    let e : suc k + length xs ≡ k + suc (length xs) = omega arith in
    ap (λ rest. (p, word_at s (value_place region k)) ∷ rest) (values_to-append region (suc k) xs ys s ∙ ap (λ (n : ℕ). values_to region (suc k) xs s ++ values_to region n ys s) e)

pub puts_places : (region : Region) (at : ℕ → ℕ) (k : ℕ) (places : List Location) (r s t : State) → PutsEachTo at (values_to region k (map Place places) r) s t → PutsEach (values_for region k places r) s t
puts_places region at k [] r s t puts = puts
puts_places region at k (p ∷ places) r s t puts = (puts.0, puts.1, puts_places region at (suc k) places r puts.0 t puts.2)
