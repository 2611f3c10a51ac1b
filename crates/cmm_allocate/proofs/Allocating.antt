-- Registers by colours, and slots for the other locals, are what a colouring is to give.
use Rattle.std.proofs.Common.{◌≡◌, ◌≢◌, ◌⊎◌, inl, inr, ℕ, zero, suc, ◌+◌, ◌*◌, ◌<◌, ◌≤◌, ◌==◌, nat_lt, Bool, true, false, ◌&&◌, not, Contains, List, [], ◌∷◌, ◌++◌, get_or, length, Option, Some, None, is_none, is_some, refl, ap, sym, ◌∙◌, subst, arith, length-append}
use Rattle.std.proofs.lemmas.Bool.{and_parts, eq-eqb, not-true, or_right}
use Rattle.std.proofs.lemmas.Bool.Decides.{nat_tests}
use Rattle.std.proofs.lemmas.List.{get_or_append_left, get_or-append-add, get_or_default}
use Rattle.cmm_abi.specs.Registers.{callee_saves}
use Rattle.cmm_bitset.specs.Sets.{has}
use Rattle.cmm_chain.specs.declared.frame.Location.{Location}
use Rattle.cmm_chain.specs.declared.frame.Location.TheVariants.{Slot, Saved, Temp}
use Rattle.cmm_colour.specs.Colours.{colour_of}
use Rattle.cmm_colour.specs.Peeling.{Peels}
use Rattle.cmm_graph.specs.declared.graph.Graph.{Graph}
use Rattle.cmm_graph.specs.declared.operand.Local.{Local}
use Rattle.cmm_graph.specs.declared.operand.Local.TheVariants as local
use Rattle.cmm_live.specs.declared.live_sets.LiveSets.{LiveSets}
use Rattle.cmm_live.specs.Conflicts.{conflicts, is_same}
use Rattle.cmm_live.specs.Exact.{AreLiveSets}
use Rattle.cmm_live.specs.Laws.{SetsDecideConflicts}
use Rattle.cmm_live.specs.Locals.{local_count}
use Rattle.cmm_located.specs.Layouts.{slot_offset}
use Rattle.cmm_allocate.specs.Allocated.{AreAllocated, is_in_callee_saves, is_in_register, is_in_temporary, temporaries}
use Rattle.cmm_allocate.specs.Classes.{conflict, conflict_within, is_in_some, is_live_past_cut, local_at, suits_callee_saves, suits_register, suits_temporary}
use Rattle.cmm_allocate.specs.Compiling.{no_place}
use Rattle.cmm_allocate.specs.Placed.{place_at}
use Rattle.cmm_allocate.specs.inside.Colouring.{AreHomes, AreRegisters, IsHome, home, if_in, in_register, next_slot, register_in, register_of, with_colour}
use Rattle.cmm_allocate.proofs.Coloured.{full, proper}
use Rattle.cmm_allocate.proofs.Sharing.{AreSecond, PeelsAmongAll, are_second, second_coloured}
use Rattle.cmm_allocate.proofs.SlotOrder.{no_more_slot, one_more_slot, slots_ordered, words}

-- ---- lists of registers

-- a number is not in a list
abbrev is_absent : ℕ → List ℕ → Bool
is_absent x [] = true
is_absent x (y ∷ ys) = not (x == y) && is_absent x ys

-- no number of a list comes again
abbrev differ : List ℕ → Bool
differ [] = true
differ (x ∷ xs) = is_absent x xs && differ xs

absent_at : (x : ℕ) (ys : List ℕ) (c : ℕ) → is_absent x ys ≡ true → c < length ys → x ≡ get_or ys c 0 → ⊥
absent_at x [] c is less same = omega (arith, less)
absent_at x (y ∷ ys) zero is less same = let other = not-true (x == y) (and_parts (not (x == y)) (is_absent x ys) is).0 in grind (arith, nat_tests, other, same)
absent_at x (y ∷ ys) (suc c) is less same = let both = and_parts (not (x == y)) (is_absent x ys) is in absent_at x ys c both.1 (omega (arith, less)) same

-- registers of different colours differ
registers_differ : (xs : List ℕ) (c d : ℕ) → differ xs ≡ true → c < length xs → d < length xs → get_or xs c 0 ≡ get_or xs d 0 → c ≡ d
registers_differ [] c d is c_low d_low same = absurd (omega (arith, c_low))
registers_differ (x ∷ xs) zero zero is c_low d_low same = refl
registers_differ (x ∷ xs) zero (suc d) is c_low d_low same = absurd (absent_at x xs d (and_parts (is_absent x xs) (differ xs) is).0 (omega (arith, d_low)) same)
registers_differ (x ∷ xs) (suc c) zero is c_low d_low same = absurd (absent_at x xs c (and_parts (is_absent x xs) (differ xs) is).0 (omega (arith, c_low)) (sym same))
registers_differ (x ∷ xs) (suc c) (suc d) is c_low d_low same =
    ap suc (registers_differ xs c d (and_parts (is_absent x xs) (differ xs) is).1 (omega (arith, c_low)) (omega (arith, d_low)) same)

-- ---- conflicts

-- a local does not conflict with itself
same_itself : (l : Local) → is_same l l ≡ true
same_itself (local.Variable v) = eq-eqb v.number v.number refl
same_itself (local.Temporary t) = eq-eqb t.number t.number refl

no_self : (g : Graph) (live : LiveSets) (l : Local) → conflicts g live l l ≡ true → ⊥
no_self g live l are =
    let both = and_parts (not (is_same l l)) _ are in
    let same : is_same l l ≡ true = same_itself l in
    let none : not (is_same l l) ≡ false = ap not same in
    let is : not (is_same l l) ≡ true = both.0 in cc (none, is)

-- ---- homes

-- a register is no slot
pub register_only : (first second : Option ℕ) (place : Location) → in_register first second ≡ Some place → slot_offset place ≡ []
register_only (Some r) second (Slot offset) is = absurd (cc (is))
register_only (Some r) second (Saved s) is = refl
register_only (Some r) second (Temp t) is = refl
register_only None (Some r) (Slot offset) is = absurd (cc (is))
register_only None (Some r) (Saved s) is = refl
register_only None (Some r) (Temp t) is = refl
register_only None None place is = absurd (cc (is))

pub no_homes : (register : ℕ → Option Location) → AreHomes register 0 [] 0
no_homes register = record { length_is = refl; each = λ v less. absurd (omega (arith, less)); slots = refl; end_is = refl }

-- one local more
pub homes_more : (register : ℕ → Option Location) (count : ℕ) (locals : List Location) (end : ℕ) →
    ((place : Location) → register count ≡ Some place → slot_offset place ≡ []) → AreHomes register count locals end →
    AreHomes register (count + 1) (locals ++ home (register count) end ∷ []) (next_slot (register count) end)
homes_more register count locals end only are = by (register count) refl
  where
    each_is : (place : Location) → IsHome (register count) place → (v : ℕ) → v < count + 1 → IsHome (register v) (place_at (locals ++ place ∷ []) v)
    each_is place here v less = at (nat_lt v count) refl
      where
        at : (b : Bool) → nat_lt v count ≡ b → IsHome (register v) (place_at (locals ++ place ∷ []) v)
        at true before =
            (let low : v < count = grind (arith, nat_tests, before) in
            subst (IsHome (register v)) (sym (get_or_append_left locals (place ∷ []) no_place v (omega (arith, low, are.length_is)))) (are.each v low))
        at false before =
            (let high : count ≤ v = grind (arith, nat_tests, before) in
            let same : v ≡ count = omega (arith, high, less) in
            let last : place_at (locals ++ place ∷ []) (length locals + 0) ≡ place = get_or-append-add locals (place ∷ []) 0 no_place in
            let index : length locals + 0 ≡ count = omega (arith, are.length_is) in
            let now : place_at (locals ++ place ∷ []) count ≡ place = subst (λ n. place_at (locals ++ place ∷ []) n ≡ place) index last in
            subst (λ n. IsHome (register n) (place_at (locals ++ place ∷ []) n)) (sym same) (subst (IsHome (register count)) (sym now) here))

    counted : (place : Location) → length (locals ++ place ∷ []) ≡ count + 1
    counted place = length-append locals (place ∷ []) ∙ ap (λ n. n + 1) are.length_is

    by : (o : Option Location) → register count ≡ o → AreHomes register (count + 1) (locals ++ home o end ∷ []) (next_slot o end)
    by (Some place) is = (let same = no_more_slot locals place (only place is) in record {
      length_is = counted place;
      each = each_is place (subst (λ o. IsHome o place) (sym is) refl);
      slots = subst (λ (l : List ℕ). l ≡ words 0 (length l)) (sym same) are.slots;
      end_is = are.end_is ∙ ap (λ (l : List ℕ). 8 * length l) (sym same);
    })
    by None is = (let more = one_more_slot locals end are.slots are.end_is in record {
      length_is = counted (Slot end);
      each = each_is (Slot end) (subst (λ o. IsHome o (Slot end)) (sym is) (end, refl));
      slots = more.0;
      end_is = more.1;
    })

-- ---- all locals

module _ (decide : SetsDecideConflicts) (g : Graph) (live : LiveSets) (sets : AreLiveSets g live) (first : List Bool) (colours : List (Option ℕ)) (second : List Bool)
    (others : List (Option ℕ)) (registers : AreRegisters g live first colours second others) (locals : List Location) (end : ℕ)
    (homes : AreHomes (register_in first colours second others) (local_count g) locals end) where
  -- a register by the colour
  record HasColour (class : List Bool) (of : List (Option ℕ)) (list : List ℕ) (v r : ℕ) : Type 0 where
    pub member : has class v ≡ true
    pub colour : ℕ
    pub is_colour : colour_of of v ≡ Some colour
    pub is_register : r ≡ get_or list colour 0

  coloured_by : (class : List Bool) (of : List (Option ℕ)) (list : List ℕ) (v r : ℕ) → register_of class of list v ≡ Some r → HasColour class of list v r
  coloured_by class of list v r is = by (has class v) (colour_of of v) refl refl is
    where
      by : (b : Bool) (o : Option ℕ) → has class v ≡ b → colour_of of v ≡ o → if_in b (with_colour list o) ≡ Some r → HasColour class of list v r
      by true (Some c) in_v has_c e = (let same : get_or list c 0 ≡ r = cc (e) in record { member = in_v; colour = c; is_colour = has_c; is_register = sym same })
      by true None in_v none e = absurd (cc (e))
      by false o out any e = absurd (cc (e))

  -- a member of a class with a colour has a register
  has_register : (class : List Bool) (of : List (Option ℕ)) (list : List ℕ) (v : ℕ) → has class v ≡ true → is_some (colour_of of v) ≡ true → register_of class of list v ≡ None → ⊥
  has_register class of list v in_v some none = by (colour_of of v) refl (sym (ap (λ (b : Bool). if_in b (with_colour list (colour_of of v))) in_v) ∙ none)
    where
      by : (o : Option ℕ) → colour_of of v ≡ o → with_colour list o ≡ None → ⊥
      by (Some c) is e = cc (e)
      by None is e = (let no : is_some (colour_of of v) ≡ false = ap (λ (o : Option ℕ). is_some o) is in cc (no, some))

  -- where a local is
  Kind : ℕ → Type 0
  Kind v = ((r : ℕ) × HasColour first colours temporaries v r × (place_at locals v ≡ Temp r))
      ⊎ (((register_of first colours temporaries v ≡ None) × ((r : ℕ) × HasColour second others callee_saves v r × (place_at locals v ≡ Saved r)))
      ⊎ ((register_of first colours temporaries v ≡ None) × (register_of second others callee_saves v ≡ None) × ((offset : ℕ) × (place_at locals v ≡ Slot offset))))

  kind_of : (v : ℕ) → v < local_count g → Kind v
  unfolding Kind
  kind_of v low = by (register_of first colours temporaries v) (register_of second others callee_saves v) refl refl (homes.each v low)
    where
      by : (o p : Option ℕ) → register_of first colours temporaries v ≡ o → register_of second others callee_saves v ≡ p → IsHome (in_register o p) (place_at locals v) →
          ((r : ℕ) × HasColour first colours temporaries v r × (place_at locals v ≡ Temp r))
          ⊎ (((register_of first colours temporaries v ≡ None) × ((r : ℕ) × HasColour second others callee_saves v r × (place_at locals v ≡ Saved r)))
          ⊎ ((register_of first colours temporaries v ≡ None) × (register_of second others callee_saves v ≡ None) × ((offset : ℕ) × (place_at locals v ≡ Slot offset))))
      by (Some r) p one other is = inl (r, coloured_by first colours temporaries v r one, is)
      by None (Some r) one other is = inr (inl (one, (r, coloured_by second others callee_saves v r other, is)))
      by None None one other is = inr (inr (one, other, is))

  suits_first : (v : ℕ) → v < local_count g → has first v ≡ suits_temporary g live v
  suits_first v low = registers.apart.classes.temporary.exact v low

  saved : AreSecond g live colours second others
  saved = are_second decide g live sets first colours second others registers

  listed : (xs : List ℕ) (c : ℕ) (r : ℕ) → c < length xs → r ≡ get_or xs c 0 → Contains xs r
  listed xs c r low is = (c, low, get_or_default xs c r 0 low ∙ sym is)

  colour_low : (v c : ℕ) → colour_of colours v ≡ Some c → c < length temporaries
  colour_low v c is = registers.apart.first_coloured.colours_are.below v c is

  other_low : (v c : ℕ) → colour_of others v ≡ Some c → c < length callee_saves
  other_low v c is = (second_coloured registers).colours_are.below v c is

  in_temporary : (v r : ℕ) → v < local_count g → place_at locals v ≡ Temp r → Contains temporaries r × (suits_temporary g live v ≡ true)
  unfolding Kind
  in_temporary v r low at = by (kind_of v low)
    where
      by : Kind v → Contains temporaries r × (suits_temporary g live v ≡ true)
      by (inl k) =
          let h : HasColour first colours temporaries v k.0 = k.1 in
          let place : place_at locals v ≡ Temp k.0 = k.2 in
          let same : k.0 ≡ r = cc (place, at) in
          (listed temporaries h.colour r (colour_low v h.colour h.is_colour) (sym same ∙ h.is_register), sym (suits_first v low) ∙ h.member)
      by (inr (inl k)) = let place : place_at locals v ≡ Saved (k.1.0) = k.1.2 in absurd (cc (place, at))
      by (inr (inr k)) = let place : place_at locals v ≡ Slot (k.2.0) = k.2.1 in absurd (cc (place, at))

  in_saved : (v r : ℕ) → v < local_count g → place_at locals v ≡ Saved r → Contains callee_saves r × (suits_register g live v ≡ true)
  unfolding Kind
  in_saved v r low at = by (kind_of v low)
    where
      by : Kind v → Contains callee_saves r × (suits_register g live v ≡ true)
      by (inl k) = let place : place_at locals v ≡ Temp k.0 = k.2 in absurd (cc (place, at))
      by (inr (inl k)) =
          let h : HasColour second others callee_saves v k.1.0 = k.1.1 in
          let place : place_at locals v ≡ Saved (k.1.0) = k.1.2 in
          let same : k.1.0 ≡ r = cc (place, at) in
          (listed callee_saves h.colour r (other_low v h.colour h.is_colour) (sym same ∙ h.is_register), saved.suits v low h.member)
      by (inr (inr k)) = let place : place_at locals v ≡ Slot (k.2.0) = k.2.1 in absurd (cc (place, at))

  slots_differ : (v w : ℕ) → v < local_count g → w < local_count g → v ≢ w → (a b : ℕ) → place_at locals v ≡ Slot a → place_at locals w ≡ Slot b → a ≢ b
  slots_differ v w v_low w_low other a b is_v is_w same = by (nat_lt v w) (nat_lt w v) refl refl
    where
      by : (x y : Bool) → nat_lt v w ≡ x → nat_lt w v ≡ y → ⊥
      by true y less more =
          (let lower : v < w = grind (arith, nat_tests, less) in
          let apart = slots_ordered locals 0 v w a b no_place homes.slots lower (omega (arith, w_low, homes.length_is)) is_v is_w in omega (arith, apart, same))
      by false true less more =
          (let lower : w < v = grind (arith, nat_tests, more) in
          let apart = slots_ordered locals 0 w v b a no_place homes.slots lower (omega (arith, v_low, homes.length_is)) is_w is_v in omega (arith, apart, same))
      by false false less more =
          (let one : w ≤ v = grind (arith, nat_tests, less) in let two : v ≤ w = grind (arith, nat_tests, more) in other (omega (arith, one, two)))

  different : (v w : ℕ) → conflict g live v w ≡ true → v ≢ w
  different v w are same =
      let itself : conflict g live v v ≡ true = subst (λ n. conflict g live v n ≡ true) (sym same) are in no_self g live (local_at g v) itself

  apart : (v w : ℕ) → v < local_count g → w < local_count g → conflict g live v w ≡ true → place_at locals v ≢ place_at locals w
  unfolding Kind
  apart v w v_low w_low are same = by (kind_of v v_low) (kind_of w w_low)
    where
      by : Kind v → Kind w → ⊥
      by (inl k) (inl l) =
          let h : HasColour first colours temporaries v k.0 = k.1 in
          let i : HasColour first colours temporaries w l.0 = l.1 in
          let one : place_at locals v ≡ Temp k.0 = k.2 in
          let two : place_at locals w ≡ Temp l.0 = l.2 in
          let register : k.0 ≡ l.0 = cc (one, two, same) in
          let colour : h.colour ≡ i.colour = registers_differ temporaries h.colour i.colour refl (colour_low v h.colour h.is_colour) (colour_low w i.colour i.is_colour)
          (sym h.is_register ∙ (register ∙ i.is_register)) in
          proper decide g live sets first (length temporaries) colours registers.apart.first_coloured v w h.colour v_low w_low h.member i.member are
          h.is_colour (i.is_colour ∙ ap (λ (n : ℕ). Some n) (sym colour))
      by (inl k) (inr (inl l)) = let one : place_at locals v ≡ Temp k.0 = k.2 in let two : place_at locals w ≡ Saved (l.1.0) = l.1.2 in cc (one, two, same)
      by (inl k) (inr (inr l)) = let one : place_at locals v ≡ Temp k.0 = k.2 in let two : place_at locals w ≡ Slot (l.2.0) = l.2.1 in cc (one, two, same)
      by (inr (inl k)) (inl l) = let one : place_at locals v ≡ Saved (k.1.0) = k.1.2 in let two : place_at locals w ≡ Temp l.0 = l.2 in cc (one, two, same)
      by (inr (inl k)) (inr (inl l)) =
          let h : HasColour second others callee_saves v k.1.0 = k.1.1 in
          let i : HasColour second others callee_saves w l.1.0 = l.1.1 in
          let one : place_at locals v ≡ Saved (k.1.0) = k.1.2 in
          let two : place_at locals w ≡ Saved (l.1.0) = l.1.2 in
          let register : k.1.0 ≡ l.1.0 = cc (one, two, same) in
          let colour : h.colour ≡ i.colour = registers_differ callee_saves h.colour i.colour refl (other_low v h.colour h.is_colour) (other_low w i.colour i.is_colour)
          (sym h.is_register ∙ (register ∙ i.is_register)) in
          proper decide g live sets second (length callee_saves) others (second_coloured registers) v w h.colour v_low w_low h.member i.member are h.is_colour (i.is_colour ∙ ap (λ (n : ℕ). Some n) (sym colour))
      by (inr (inl k)) (inr (inr l)) = let one : place_at locals v ≡ Saved (k.1.0) = k.1.2 in let two : place_at locals w ≡ Slot (l.2.0) = l.2.1 in cc (one, two, same)
      by (inr (inr k)) (inl l) = let one : place_at locals v ≡ Slot (k.2.0) = k.2.1 in let two : place_at locals w ≡ Temp l.0 = l.2 in cc (one, two, same)
      by (inr (inr k)) (inr (inl l)) = let one : place_at locals v ≡ Slot (k.2.0) = k.2.1 in let two : place_at locals w ≡ Saved (l.1.0) = l.1.2 in cc (one, two, same)
      by (inr (inr k)) (inr (inr l)) =
          let one : place_at locals v ≡ Slot (k.2.0) = k.2.1 in
          let two : place_at locals w ≡ Slot (l.2.0) = l.2.1 in
          let offset : k.2.0 ≡ l.2.0 = cc (one, two, same) in
          slots_differ v w v_low w_low (different v w are) (k.2.0) (l.2.0) one two offset

  temporary_full : (v : ℕ) → v < local_count g → suits_temporary g live v ≡ true →
      Peels (local_count g) (conflict_within g live (suits_temporary g live)) (length temporaries) v → is_in_temporary (place_at locals v) ≡ true
  unfolding Kind
  temporary_full v low suits peels = by (kind_of v low)
    where
      member : has first v ≡ true
      member = suits_first v low ∙ suits

      some : is_some (colour_of colours v) ≡ true
      some = full decide g live sets first (length temporaries) colours registers.apart.first_coloured (suits_temporary g live) registers.apart.classes.temporary v low peels

      by : Kind v → is_in_temporary (place_at locals v) ≡ true
      by (inl k) = let place : place_at locals v ≡ Temp k.0 = k.2 in ap is_in_temporary place
      by (inr (inl k)) = absurd (has_register first colours temporaries v member some k.0)
      by (inr (inr k)) = absurd (has_register first colours temporaries v member some k.0)

  saved_full : (v : ℕ) → v < local_count g → suits_callee_saves live v ≡ true →
      Peels (local_count g) (conflict_within g live (suits_callee_saves live)) (length callee_saves) v → is_in_callee_saves (place_at locals v) ≡ true
  unfolding Kind
  saved_full v low suits peels = by (kind_of v low)
    where
      member : has second v ≡ true
      member = saved.all v low suits

      some : is_some (colour_of others v) ≡ true
      some = saved.full v low suits peels

      -- who is live at a site suits no temporary register
      not_both : suits_temporary g live v ≡ true → ⊥
      not_both is =
          let live_at : is_in_some live.sites v ≡ true = (and_parts (is_in_some live.sites v) (not (is_in_some live.cuts v)) suits).0 in
          let none : suits_temporary g live v ≡ false = ap not (or_right (is_live_past_cut g live v) (is_in_some live.sites v) live_at) in cc (none, is)

      by : Kind v → is_in_callee_saves (place_at locals v) ≡ true
      by (inl k) = let h : HasColour first colours temporaries v k.0 = k.1 in absurd (not_both (sym (suits_first v low) ∙ h.member))
      by (inr (inl k)) = let place : place_at locals v ≡ Saved (k.1.0) = k.1.2 in ap is_in_callee_saves place
      by (inr (inr k)) = absurd (has_register second others callee_saves v member some k.1)

  either_full : ((w : ℕ) → w < local_count g → suits_callee_saves live w ≡ true → PeelsAmongAll g live w) → (v : ℕ) → v < local_count g → suits_temporary g live v ≡ true →
      PeelsAmongAll g live v → is_in_register (place_at locals v) ≡ true
  unfolding Kind
  either_full all v low suits peels = by (kind_of v low)
    where
      -- a member of the first class without a register of that kind has no colour of it
      lacks : register_of first colours temporaries v ≡ None → (o : Option ℕ) → colour_of colours v ≡ o → is_none (colour_of colours v) ≡ true
      lacks none (Some c) is = absurd (has_register first colours temporaries v (suits_first v low ∙ suits) (ap (λ (o : Option ℕ). is_some o) is) none)
      lacks none None is = ap (λ (o : Option ℕ). is_none o) is

      by : Kind v → is_in_register (place_at locals v) ≡ true
      by (inl k) = let place : place_at locals v ≡ Temp k.0 = k.2 in ap is_in_register place
      by (inr (inl k)) = let place : place_at locals v ≡ Saved (k.1.0) = k.1.2 in ap is_in_register place
      by (inr (inr k)) =
          let has_colour = saved.either_full all v low suits peels (lacks k.0 (colour_of colours v) refl) in absurd (has_register second others callee_saves v has_colour.0 has_colour.1 k.1)

  pub are_allocated : AreAllocated g live locals
  are_allocated = record {
    count = homes.length_is;
    temporary = in_temporary;
    saved = in_saved;
    apart = apart;
    slots = homes.slots;
    temporary_full = temporary_full;
    saved_full = saved_full;
    either_full = either_full;
  }
