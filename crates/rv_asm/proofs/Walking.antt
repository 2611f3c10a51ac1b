-- One step of each walk.
use Rattle.std.proofs.Common.{◌≡◌, ◌≢◌, ℕ, zero, suc, ◌+◌, ◌<◌, ◌≤◌, inl, inr, refl, sym, ◌∙◌, ap, subst, arith, List, length, set}
use Rattle.std.specs.Prelude.{slice_get, slice_index, Option, Some, None, Bool, true, false, nat_le, nat_lt, ◌&&◌}
use Rattle.std.proofs.lemmas.Bool.{and_parts, cases_eq, le-leb, leb-true, lt-ltb, ltb-false, ltb-true}
use Rattle.std.proofs.lemmas.List.{get_or-set_same, get_or-set_other}
use Rattle.std.proofs.lemmas.Option.{slice_get_within}
use Rattle.rv_asm.proofs.Forming.{near_reach, part_grows, most_size, start_grows}
use Rattle.rv_asm.proofs.Starts.{set_same_value, start-next, start-set_after, start-set_before, start-up}
use Rattle.rv_asm.specs.Reach.{near_label}
use Rattle.rv_asm.specs.Sizes.{longest}
use Rattle.rv_asm.specs.inside.Growing.{AreGrown, AreSettledAhead, AreSettledBack, AreSpots, ArePlacedBefore, HasPlace, HasRest, HaveRests, IsIn, IsSettled, LabelIsOut, grown, out_ahead_by, out_back_by, spot_address, start}
use Rattle.rv_asm.specs.inside.Sound.{PlaceFits, noted}
use Rattle.rv_asm.specs.declared.part.Label.{Label}
use Rattle.rv_asm.specs.declared.part.Meaning.{Meaning}
use Rattle.rv_asm.specs.declared.part.Part.{Part}
use Rattle.rv_asm.specs.declared.part.Part.TheVariants.{Single, Place, Branch, Jump, Call, Address, Table}

-- ---- what a walk notes
-- a number is written for the label that a part places, and every other one is kept
pub noted_other : (places : List ℕ) (p : Part) (address n : ℕ) → ((l : Label) → p ≡ Place l → l.number ≢ n) → slice_index (noted places p address) n ≡ slice_index places n
noted_other places (Place l) address n other = get_or-set_other places l.number n address 0 (λ e. other l refl (sym e))
noted_other places (Single i) address n other = refl
noted_other places (Branch c a b l) address n other = refl
noted_other places (Jump l) address n other = refl
noted_other places (Call l) address n other = refl
noted_other places (Address rd l) address n other = refl
noted_other places (Table ls) address n other = refl

pub noted_here : (places : List ℕ) (p : Part) (address : ℕ) (l : Label) → PlaceFits (length places) p → p ≡ Place l → slice_index (noted places p address) l.number ≡ address
noted_here places p address l fits is = rw is (get_or-set_same places l.number address 0 (rw is at fits))

pub number_same : (a b : Label) → ◌≡◌ {A = Part} (Place a) (Place b) → a.number ≡ b.number
number_same a b e = cc

-- a part that is no place has a label in reach
place_has_none : (labels : List Meaning) (p : Part) (near : Label × ℕ) (l : Label) → near_label labels p ≡ Some near → p ≢ Place l
place_has_none labels p near l is e = let none : near_label labels p ≡ None = rw e refl in absurd (cc)

-- ---- tests
second_false : (a b : Bool) → a ≡ true → (a && b) ≡ false → b ≡ false
second_false true b is e = e
second_false false b is e = absurd (cc)

-- ---- the size of the part that is walked over
module _ (labels : List Meaning) (parts : List Part) (spots : List ℕ) (base : ℕ) (sizes : List ℕ) (i : ℕ) (p : Part) (is : slice_get parts i ≡ Some p)
    (sound : AreGrown labels parts spots base sizes) where
  within : i < length sizes
  within = omega (arith, sound.count, slice_get_within parts i p is)

  most : slice_index sizes i ≤ longest p
  most = most_size labels parts spots base sizes sound i p is

  pub grown_most : (b : Bool) → grown p (slice_index sizes i) b ≤ longest p
  grown_most true = omega arith
  grown_most false = most

  pub grown_more : (b : Bool) → slice_index sizes i ≤ grown p (slice_index sizes i) b
  grown_more true = most
  grown_more false = omega arith

  pub step_grown : (b : Bool) → (b ≡ true → (n : Label × ℕ) → near_label labels p ≡ Some n → LabelIsOut labels parts spots base sizes i n) →
      AreGrown labels parts spots base (set sizes i (grown p (slice_index sizes i) b))
  step_grown true out = part_grows labels parts spots base sizes sound i p is (longest p) refl (out refl)
  step_grown false out = subst (AreGrown labels parts spots base) (sym (set_same_value sizes i)) sound

  pub step_before : (b : Bool) (k : ℕ) → k ≤ i → start (set sizes i (grown p (slice_index sizes i) b)) k ≡ start sizes k
  step_before b k le = start-set_before sizes i (grown p (slice_index sizes i) b) k le

  pub step_after : (b : Bool) (k : ℕ) → i < k →
      start (set sizes i (grown p (slice_index sizes i) b)) k + slice_index sizes i ≡ start sizes k + grown p (slice_index sizes i) b
  step_after b k less = start-set_after sizes i (grown p (slice_index sizes i) b) k less within

  pub step_next : (b : Bool) → start (set sizes i (grown p (slice_index sizes i) b)) (suc i) ≡ start sizes i + grown p (slice_index sizes i) b
  step_next b = omega (arith, step_after b (suc i) (omega arith), start-next sizes i within)

  pub step_more : (b : Bool) (k : ℕ) → start sizes k ≤ start (set sizes i (grown p (slice_index sizes i) b)) k
  step_more b k = start_grows base sizes i (grown p (slice_index sizes i) b) within (grown_more b) k

  pub step_other : (b : Bool) (k : ℕ) → k ≢ i → slice_index (set sizes i (grown p (slice_index sizes i) b)) k ≡ slice_index sizes k
  step_other b k other = get_or-set_other sizes i k (grown p (slice_index sizes i) b) 0 other

  pub step_here : (b : Bool) → slice_index (set sizes i (grown p (slice_index sizes i) b)) i ≡ grown p (slice_index sizes i) b
  step_here b = get_or-set_same sizes i (grown p (slice_index sizes i) b) 0 within

  -- ---- up
  module _ (spotted : AreSpots parts spots) (places : List ℕ) (fits : PlaceFits (length places) p) (placed : ArePlacedBefore base sizes i places spots) where
    abbrev places' : List ℕ
    places' = noted places p (base + start sizes i)

    not_this : (n : ℕ) → slice_index spots n ≢ suc i → (l : Label) → p ≡ Place l → l.number ≢ n
    not_this n other l e same =
        let at : slice_index spots l.number ≡ suc i = spotted.at i l (is ∙ ap Some e) in
        other (rw same at at)

    pub up_places : (b : Bool) → ArePlacedBefore base (set sizes i (grown p (slice_index sizes i) b)) (suc i) places' spots
    up_places b n = by (slice_index spots n) refl (placed n)
      where
        by : (spot : ℕ) → slice_index spots n ≡ spot → HasPlace base sizes i (slice_index places n) spot →
            HasPlace base (set sizes i (grown p (slice_index sizes i) b)) (suc i) (slice_index places' n) spot
        by zero e has = noted_other places p (base + start sizes i) n (not_this n (λ f. absurd (omega (arith, e, f)))) ∙ has
        by (suc j) e has = λ less.
            elim (cases_eq j i) [
              | inl same ↦
                  let found = spotted.back n i (e ∙ ap suc same) in
                  let place : p ≡ Place found.0 = let f : Some p ≡ Some (Place found.0) = sym is ∙ found.1 in cc in
                  let here = noted_here places p (base + start sizes i) found.0 fits place in
                  rw same (rw found.2 at here ∙ ap (λ n. base + n) (sym (step_before b i (omega arith))))
              | inr other ↦
                  noted_other places p (base + start sizes i) n (not_this n (λ f. absurd (other (omega (arith, e, f)))))
                  ∙ has (omega (arith, less, other)) ∙ ap (λ n. base + n) (sym (step_before b j (omega (arith, less, other))))
            ]

    -- the address of a label behind the part, as the walk has it
    behind_address : (spot n : ℕ) → spot ≤ i → HasPlace base (set sizes i (grown p (slice_index sizes i) false)) (suc i) (slice_index places' n) spot → slice_index places' n ≡ spot_address base sizes spot
    behind_address zero n le has = has
    behind_address (suc j) n le has = has (omega arith) ∙ ap (λ n. base + n) (step_before false j (omega arith))

    address : (n : ℕ) → slice_index spots n ≤ i → slice_index places' n ≡ spot_address base sizes (slice_index spots n)
    address n le = behind_address (slice_index spots n) n le (up_places false n)

    abbrev is_out : Bool
    is_out = out_back_by spots places' i (base + start sizes i) (near_label labels p)

    out_by : (near : Option (Label × ℕ)) (n : Label × ℕ) → near ≡ Some n → out_back_by spots places' i (base + start sizes i) near ≡ true →
        (slice_index spots n.0.number ≤ i) × (slice_index places' n.0.number + n.1 < base + start sizes i)
    out_by None n e out = absurd (cc)
    out_by (Some m) n e out =
        let same : m ≡ n = cc in
        let h = and_parts (nat_le (slice_index spots m.0.number) i) (nat_lt (slice_index places' m.0.number + m.1) (base + start sizes i)) out in
        let both : (slice_index spots m.0.number ≤ i) × (slice_index places' m.0.number + m.1 < base + start sizes i) =
        (leb-true (slice_index spots m.0.number) i h.0, ltb-true (slice_index places' m.0.number + m.1) (base + start sizes i) h.1)
        in
        rw same at both

    in_by : (near : Option (Label × ℕ)) (n : Label × ℕ) → near ≡ Some n → out_back_by spots places' i (base + start sizes i) near ≡ false →
        slice_index spots n.0.number ≤ i → base + start sizes i ≤ slice_index places' n.0.number + n.1
    in_by None n e out le = absurd (cc)
    in_by (Some m) n e out le =
        let same : m ≡ n = cc in
        let test = le-leb (slice_index spots m.0.number) i (rw same le) in
        let h = second_false (nat_le (slice_index spots m.0.number) i) (nat_lt (slice_index places' m.0.number + m.1) (base + start sizes i)) test out in
        rw same at (ltb-false (slice_index places' m.0.number + m.1) (base + start sizes i) h)

    pub up_grown : AreGrown labels parts spots base (set sizes i (grown p (slice_index sizes i) is_out))
    up_grown = step_grown is_out out
      where
        out : is_out ≡ true → (n : Label × ℕ) → near_label labels p ≡ Some n → LabelIsOut labels parts spots base sizes i n
        out positive n near =
            let h = out_by (near_label labels p) n near positive in
            inl (omega (arith, h.1, address n.0.number h.0))

    spot_below : (spot : ℕ) → spot ≤ i → spot_address base sizes spot ≤ base + start sizes i
    spot_below zero le = omega arith
    spot_below (suc j) le = omega (arith, start-up sizes j i (omega arith))

    pub up_settled : AreSettledBack labels parts spots base sizes i → AreSettledBack labels parts spots base (set sizes i (grown p (slice_index sizes i) is_out)) (suc i)
    up_settled settled k q near less at is_near le =
        elim (cases_eq k i) [
          | inl same ↦
              let here : slice_get parts i ≡ Some q = subst (λ j. slice_get parts j ≡ Some q) same at in
              let equal : q ≡ p = cc in
              rw (same, equal) (last is_out refl near (rw equal at is_near) (omega (arith, le, same)))
          | inr other ↦ kept k q near (omega (arith, less, other)) le (settled k q near (omega (arith, less, other)) at is_near le)
        ]
      where
        sizes' : List ℕ
        sizes' = set sizes i (grown p (slice_index sizes i) is_out)

        same_address : (spot : ℕ) → spot ≤ i → spot_address base sizes' spot ≡ spot_address base sizes spot
        same_address zero le = refl
        same_address (suc j) le = ap (λ n. base + n) (step_before is_out j (omega arith))

        kept : (k : ℕ) (q : Part) (near : Label × ℕ) → k < i → slice_index spots near.0.number ≤ k → IsSettled labels parts spots base sizes k q near →
            IsSettled labels parts spots base sizes' k q near
        kept k q near less le (inl long) = inl (step_other is_out k (λ e. absurd (omega arith)) ∙ long)
        kept k q near less le (inr fine) =
            inr (rw (same_address (slice_index spots near.0.number) (omega (arith, le)), step_before is_out k (omega arith)) fine)

        last : (b : Bool) → is_out ≡ b → (near : Label × ℕ) → near_label labels p ≡ Some near → slice_index spots near.0.number ≤ i →
            IsSettled labels parts spots base sizes' i p near
        last true e near found le = inl (step_here is_out ∙ ap (grown p (slice_index sizes i)) e)
        last false e near found le =
            let h = in_by (near_label labels p) near found e le in
            let a = address near.0.number le in
            let low = spot_below (slice_index spots near.0.number) le in
            inr (rw (same_address (slice_index spots near.0.number) le, step_before is_out i (omega arith))
            (omega (arith, h, a), omega (arith, low, near_reach labels p near found)))

  -- ---- down
  module _ (spotted : AreSpots parts spots) (count : ℕ) (all : count ≡ length parts) (rests : List ℕ) (rest : ℕ)
      (here : rest + start sizes (suc i) ≡ start sizes count) (have : HaveRests sizes count (suc i) rests spots) where
    below_end : i < count
    below_end = omega (arith, all, slice_get_within parts i p is)

    abbrev is_ahead : Bool
    is_ahead = out_ahead_by spots rests i (rest + slice_index sizes i) (near_label labels p)

    pub down_here : (b : Bool) → rest + grown p (slice_index sizes i) b + start (set sizes i (grown p (slice_index sizes i) b)) i ≡ start (set sizes i (grown p (slice_index sizes i) b)) count
    down_here b = omega (arith, here, start-next sizes i within, step_before b i (omega arith), step_after b count below_end)

    pub down_rests : (b : Bool) → PlaceFits (length rests) p →
        HaveRests (set sizes i (grown p (slice_index sizes i) b)) count i (noted rests p (rest + grown p (slice_index sizes i) b)) spots
    down_rests b fits n = by (slice_index spots n) refl (have n)
      where
        end : ℕ
        end = rest + grown p (slice_index sizes i) b

        by : (spot : ℕ) → slice_index spots n ≡ spot → HasRest sizes count (suc i) (slice_index rests n) spot →
            HasRest (set sizes i (grown p (slice_index sizes i) b)) count i (slice_index (noted rests p end) n) spot
        by zero e has = tt
        by (suc j) e has = λ le.
            elim (cases_eq j i) [
              | inl same ↦
                  let found = spotted.back n i (e ∙ ap suc same) in
                  let place : p ≡ Place found.0 = let f : Some p ≡ Some (Place found.0) = sym is ∙ found.1 in cc in
                  let noted_is = noted_here rests p end found.0 fits place in
                  let noted_n : slice_index (noted rests p end) n ≡ end = rw found.2 at noted_is in
                  rw (noted_n, same) (down_here b)
              | inr other ↦
                  let kept : slice_index (noted rests p end) n ≡ slice_index rests n = noted_other rests p end n (not_here other) in
                  let old = has (omega (arith, le, other)) in
                  omega (arith, kept, old, step_after b j (omega (arith, le, other)), step_after b count below_end)
            ]
          where
            not_here : j ≢ i → (l : Label) → p ≡ Place l → l.number ≢ n
            not_here other l f same =
                let at : slice_index spots l.number ≡ suc i = spotted.at i l (is ∙ ap Some f) in
                absurd (other (omega (arith, e, rw same at at)))

    -- the label of this part stands ahead, where the walk has been
    ahead : (near : Label × ℕ) → near_label labels p ≡ Some near → i < slice_index spots near.0.number →
        (j : ℕ) × (slice_index spots near.0.number ≡ suc j) × (i < j) × (slice_index rests near.0.number + start sizes j ≡ start sizes count)
    ahead near found less = by (slice_index spots near.0.number) refl (have near.0.number)
      where
        by : (spot : ℕ) → slice_index spots near.0.number ≡ spot → HasRest sizes count (suc i) (slice_index rests near.0.number) spot →
            (j : ℕ) × (slice_index spots near.0.number ≡ suc j) × (i < j) × (slice_index rests near.0.number + start sizes j ≡ start sizes count)
        by zero e has = absurd (omega (arith, e, less))
        by (suc j) e has =
            let apart : j ≢ i = λ same.
            let f = spotted.back near.0.number i (e ∙ ap suc same) in
            let place : p ≡ Place f.0 = let g : Some p ≡ Some (Place f.0) = sym is ∙ f.1 in cc in
            place_has_none labels p near f.0 found place
            in
            let above : i < j = omega (arith, less, e, apart) in
            (j, e, above, has (omega (arith, above)))

    out_ahead : (near : Option (Label × ℕ)) (n : Label × ℕ) → near ≡ Some n → out_ahead_by spots rests i (rest + slice_index sizes i) near ≡ true →
        (i < slice_index spots n.0.number) × (slice_index rests n.0.number + n.1 < rest + slice_index sizes i + 2)
    out_ahead None n e out = absurd (cc)
    out_ahead (Some m) n e out =
        let same : m ≡ n = cc in
        let h = and_parts (nat_lt i (slice_index spots m.0.number)) (nat_lt (slice_index rests m.0.number + m.1) (rest + slice_index sizes i + 2)) out in
        let both : (i < slice_index spots m.0.number) × (slice_index rests m.0.number + m.1 < rest + slice_index sizes i + 2) =
        (ltb-true i (slice_index spots m.0.number) h.0, ltb-true (slice_index rests m.0.number + m.1) (rest + slice_index sizes i + 2) h.1)
        in
        rw same at both

    in_ahead : (near : Option (Label × ℕ)) (n : Label × ℕ) → near ≡ Some n → out_ahead_by spots rests i (rest + slice_index sizes i) near ≡ false →
        i < slice_index spots n.0.number → rest + slice_index sizes i + 2 ≤ slice_index rests n.0.number + n.1
    in_ahead None n e out less = absurd (cc)
    in_ahead (Some m) n e out less =
        let same : m ≡ n = cc in
        let test = lt-ltb i (slice_index spots m.0.number) (rw same less) in
        let h = second_false (nat_lt i (slice_index spots m.0.number)) (nat_lt (slice_index rests m.0.number + m.1) (rest + slice_index sizes i + 2)) test out in
        rw same at (ltb-false (slice_index rests m.0.number + m.1) (rest + slice_index sizes i + 2) h)

    pub down_grown : AreGrown labels parts spots base (set sizes i (grown p (slice_index sizes i) is_ahead))
    down_grown = step_grown is_ahead out
      where
        out : is_ahead ≡ true → (n : Label × ℕ) → near_label labels p ≡ Some n → LabelIsOut labels parts spots base sizes i n
        out positive n near =
            let h = out_ahead (near_label labels p) n near positive in
            let a = ahead n near h.0 in
            rw a.1 (inr (omega (arith, h.1, a.3, here, start-next sizes i within)))

    pub down_settled : AreSettledAhead labels parts spots base sizes (suc i) → AreSettledAhead labels parts spots base (set sizes i (grown p (slice_index sizes i) is_ahead)) i
    down_settled settled k q near le at found less =
        elim (cases_eq k i) [
          | inl same ↦
              let this : slice_get parts i ≡ Some q = subst (λ j. slice_get parts j ≡ Some q) same at in
              let equal : q ≡ p = cc in
              rw (same, equal) (first is_ahead refl near (rw equal at found) (omega (arith, less, same)))
          | inr other ↦ kept k q near (omega (arith, le, other)) less (settled k q near (omega (arith, le, other)) at found less)
        ]
      where
        sizes' : List ℕ
        sizes' = set sizes i (grown p (slice_index sizes i) is_ahead)

        kept_by : (spot k reach : ℕ) → i < k → k < spot → IsIn reach (spot_address base sizes spot) (base + start sizes k) →
            IsIn reach (spot_address base sizes' spot) (base + start sizes' k)
        kept_by zero k reach above less fine = absurd (omega arith)
        kept_by (suc j) k reach above less fine =
            let e = step_after is_ahead j (omega arith) in
            let f = step_after is_ahead k above in
            (omega (arith, fine.0, e, f), omega (arith, fine.1, e, f))

        kept : (k : ℕ) (q : Part) (near : Label × ℕ) → i < k → k < slice_index spots near.0.number → IsSettled labels parts spots base sizes k q near →
            IsSettled labels parts spots base sizes' k q near
        kept k q near above less (inl long) = inl (step_other is_ahead k (λ e. absurd (omega arith)) ∙ long)
        kept k q near above less (inr fine) = inr (kept_by (slice_index spots near.0.number) k near.1 above less fine)

        first : (b : Bool) → is_ahead ≡ b → (near : Label × ℕ) → near_label labels p ≡ Some near → i < slice_index spots near.0.number →
            IsSettled labels parts spots base sizes' i p near
        first true e near found less = inl (step_here is_ahead ∙ ap (grown p (slice_index sizes i)) e)
        first false e near found less =
            let h = in_ahead (near_label labels p) near found e less in
            let a = ahead near found less in
            let up = start-up sizes i a.0 (omega (arith, a.2)) in
            let same : slice_index sizes' i ≡ slice_index sizes i = step_here is_ahead ∙ ap (grown p (slice_index sizes i)) e in
            let not_moved : grown p (slice_index sizes i) is_ahead ≡ slice_index sizes i = ap (grown p (slice_index sizes i)) e in
            let f = step_after is_ahead a.0 a.2 in
            let g = step_before is_ahead i (omega arith) in
            inr (rw a.1 (omega (arith, up, f, g, not_moved, near_reach labels p near found), omega (arith, h, a.3, here, start-next sizes i within, f, g, not_moved)))
