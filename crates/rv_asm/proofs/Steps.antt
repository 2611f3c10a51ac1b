-- What each walk keeps, and one step of it.
use Rattle.std.proofs.Common.{◌≡◌, ℕ, zero, suc, ◌+◌, ◌<◌, ◌≤◌, ◌^◌, refl, ◌∙◌, ap, subst, arith, List, length, set, Some}
use Rattle.std.specs.Prelude.{Bool, slice_get, slice_index}
use Rattle.std.specs.List.{All}
use Rattle.std.proofs.lemmas.Option.{slice_get_within}
use Rattle.rv_asm.proofs.Forming.{most_size}
use Rattle.rv_asm.proofs.Noted.{length-noted, noted_low, place_fits}
use Rattle.rv_asm.proofs.Starts.{set_same_value, start-next, start-zero, start_within}
use Rattle.rv_asm.proofs.Walking.{down_grown, down_here, down_rests, down_settled, step_after, step_more, step_next, up_grown, up_places, up_settled}
use Rattle.rv_asm.specs.Reach.{near_label}
use Rattle.rv_asm.specs.Sizes.{all_longest}
use Rattle.rv_asm.specs.inside.Growing.{AreGrown, AreSettledAhead, AreSettledBack, AreSpots, ArePlacedBefore, HasRest, HaveRests, IsGrowth, grown, out_ahead_by, out_back_by, start}
use Rattle.rv_asm.specs.inside.Sound.{IsSound, PlaceFits, noted}
use Rattle.rv_asm.specs.declared.part.Meaning.{Meaning}
use Rattle.rv_asm.specs.declared.part.Part.{Part}

module _ (labels : List Meaning) (parts : List Part) (spots : List ℕ) (base : ℕ) where
  -- ---- down
  pub record DownState (first : List ℕ) (i : ℕ) (sizes rests : List ℕ) (rest : ℕ) : Type 0 where
    pub here : rest + start sizes i ≡ start sizes (length parts)
    pub count : length rests ≡ length labels
    pub low : All (λ a. a ≤ 2 ^ 30) rests
    pub have : HaveRests sizes (length parts) i rests spots
    pub grown : AreGrown labels parts spots base sizes
    pub settled : AreSettledAhead labels parts spots base sizes i
    pub growth : IsGrowth (length parts) first sizes

  pub down_begins : (sizes rests : List ℕ) → AreSpots parts spots → length rests ≡ length labels → All (λ a. a ≤ 2 ^ 30) rests → AreGrown labels parts spots base sizes →
      DownState sizes (length parts) sizes rests 0
  down_begins sizes rests spotted count low sound = record {
    here = omega arith;
    count = count;
    low = low;
    have = none;
    grown = sound;
    settled = λ k p near le at found less. absurd (omega (arith, le, slice_get_within parts k p at));
    growth = record { more = omega arith; same = λ e. refl };
  }
    where
      none : HaveRests sizes (length parts) (length parts) rests spots
      none n = by (slice_index spots n) refl
        where
          by : (spot : ℕ) → slice_index spots n ≡ spot → HasRest sizes (length parts) (length parts) (slice_index rests n) spot
          by zero e = tt
          by (suc j) e = λ le. let found = spotted.back n j e in absurd (omega (arith, le, slice_get_within parts j _ found.1))

  module _ (sound : IsSound parts labels) (room : base + all_longest parts ≤ 2 ^ 30) (spotted : AreSpots parts spots) (i : ℕ) (p : Part) (is : slice_get parts i ≡ Some p) where
    all_within : (sizes : List ℕ) → AreGrown labels parts spots base sizes → (k : ℕ) → start sizes k ≤ all_longest parts
    all_within sizes g k = start_within parts sizes k g.count (most_size labels parts spots base sizes g)

    within_parts : i < length parts
    within_parts = slice_get_within parts i p is

    module _ (first sizes rests : List ℕ) (rest : ℕ) (state : DownState first (suc i) sizes rests rest) where
      pub down_room : rest + slice_index sizes i ≤ 2 ^ 30
      down_room =
          omega (arith, state.here, start-next sizes i (omega (arith, state.grown.count, within_parts)), all_within sizes state.grown (length parts), room)

      pub down_step : (b : Bool) (v : ℕ) → b ≡ out_ahead_by spots rests i (rest + slice_index sizes i) (near_label labels p) → v ≡ grown p (slice_index sizes i) b →
          (rest + v ≤ 2 ^ 30) × DownState first i (set sizes i v) (noted rests p (rest + v)) (rest + v)
      down_step b v is_b is_v = rw (is_v, is_b) (end_low, next)
        where
          out : Bool
          out = out_ahead_by spots rests i (rest + slice_index sizes i) (near_label labels p)

          new : ℕ
          new = grown p (slice_index sizes i) out

          sizes' : List ℕ
          sizes' = set sizes i new

          grown' : AreGrown labels parts spots base sizes'
          grown' = down_grown labels parts spots base sizes i p is state.grown spotted (length parts) refl rests rest state.here state.have

          here' : rest + new + start sizes' i ≡ start sizes' (length parts)
          here' = down_here labels parts spots base sizes i p is state.grown spotted (length parts) refl rests rest state.here state.have out

          end_low : rest + new ≤ 2 ^ 30
          end_low = omega (arith, here', all_within sizes' grown' (length parts), room)

          fits : PlaceFits (length rests) p
          fits = place_fits labels parts i p (length rests) is sound.fit state.count

          more : start sizes (length parts) ≤ start sizes' (length parts)
          more = step_more labels parts spots base sizes i p is state.grown out (length parts)

          same : start sizes' (length parts) ≡ start first (length parts) → sizes' ≡ first
          same e =
              let equal : start sizes (length parts) ≡ start first (length parts) = omega (arith, e, more, state.growth.more) in
              let after = step_after labels parts spots base sizes i p is state.grown out (length parts) within_parts in
              let value : new ≡ slice_index sizes i = omega (arith, after, e, equal) in
              ap (set sizes i) value ∙ set_same_value sizes i ∙ state.growth.same equal

          next : DownState first i sizes' (noted rests p (rest + new)) (rest + new)
          next = record {
            here = here';
            count = length-noted rests p (rest + new) ∙ state.count;
            low = noted_low rests p (rest + new) end_low state.low;
            have = down_rests labels parts spots base sizes i p is state.grown spotted (length parts) refl rests rest state.here state.have out fits;
            grown = grown';
            settled = down_settled labels parts spots base sizes i p is state.grown spotted (length parts) refl rests rest state.here state.have state.settled;
            growth = record { more = omega (arith, more, state.growth.more); same = same };
          }

  -- ---- up
  pub record UpState (first : List ℕ) (i : ℕ) (sizes places : List ℕ) (address : ℕ) : Type 0 where
    pub here : address ≡ base + start sizes i
    pub count : length places ≡ length labels
    pub low : All (λ a. a ≤ 2 ^ 30) places
    pub placed : ArePlacedBefore base sizes i places spots
    pub grown : AreGrown labels parts spots base sizes
    pub settled : AreSettledBack labels parts spots base sizes i
    pub more : start first (length parts) ≤ start sizes (length parts)

  pub up_begins : (sizes places : List ℕ) → length places ≡ length labels → All (λ a. a ≤ 2 ^ 30) places → ArePlacedBefore base sizes 0 places spots →
      AreGrown labels parts spots base sizes → UpState sizes 0 sizes places base
  up_begins sizes places count low placed sound = record {
    here = omega (arith, start-zero sizes);
    count = count;
    low = low;
    placed = placed;
    grown = sound;
    settled = λ k p near less. absurd (omega arith);
    more = omega arith;
  }

  module _ (sound : IsSound parts labels) (room : base + all_longest parts ≤ 2 ^ 30) (spotted : AreSpots parts spots) (i : ℕ) (p : Part) (is : slice_get parts i ≡ Some p) where
    module _ (first sizes places : List ℕ) (address : ℕ) (state : UpState first i sizes places address) where
      pub up_address : address ≤ 2 ^ 30
      up_address = omega (arith, state.here, all_within sound room spotted i p is sizes state.grown i, room)

      pub up_low : All (λ a. a ≤ 2 ^ 30) (noted places p address)
      up_low = noted_low places p address up_address state.low

      pub up_step : (b : Bool) (v : ℕ) → b ≡ out_back_by spots (noted places p address) i address (near_label labels p) → v ≡ grown p (slice_index sizes i) b →
          (address + v ≤ 2 ^ 30) × UpState first (suc i) (set sizes i v) (noted places p address) (address + v)
      up_step b v is_b is_v = rw (is_v, is_b, state.here) (end_low, next)
        where
          from : ℕ
          from = base + start sizes i

          fits : PlaceFits (length places) p
          fits = place_fits labels parts i p (length places) is sound.fit state.count

          out : Bool
          out = out_back_by spots (noted places p from) i from (near_label labels p)

          new : ℕ
          new = grown p (slice_index sizes i) out

          sizes' : List ℕ
          sizes' = set sizes i new

          grown' : AreGrown labels parts spots base sizes'
          grown' = up_grown labels parts spots base sizes i p is state.grown spotted places fits state.placed

          end : from + new ≡ base + start sizes' (suc i)
          end = omega (arith, step_next labels parts spots base sizes i p is state.grown out)

          end_low : from + new ≤ 2 ^ 30
          end_low = omega (arith, end, all_within sound room spotted i p is sizes' grown' (suc i), room)

          next : UpState first (suc i) sizes' (noted places p from) (from + new)
          next = record {
            here = end;
            count = length-noted places p from ∙ state.count;
            low = subst (λ a. All (λ b. b ≤ 2 ^ 30) (noted places p a)) state.here up_low;
            placed = up_places labels parts spots base sizes i p is state.grown spotted places fits state.placed out;
            grown = grown';
            settled = up_settled labels parts spots base sizes i p is state.grown spotted places fits state.placed state.settled;
            more = omega (arith, state.more, step_more labels parts spots base sizes i p is state.grown out (length parts));
          }
