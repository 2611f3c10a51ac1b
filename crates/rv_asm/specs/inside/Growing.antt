-- How forms grow: each part is short until its label lies out of reach.
use Rattle.std.specs.Prelude.{◌≡◌, ℕ, zero, suc, ◌+◌, ◌<◌, ◌≤◌, ◌⊎◌, ◌&&◌, nat_le, nat_lt, Bool, true, false, List, [], ◌∷◌, length, slice_get, slice_index, Option, Some, None}
use Rattle.rv_asm.specs.Reach.{near_label}
use Rattle.rv_asm.specs.Sizes.{longest, shortest}
use Rattle.rv_asm.specs.declared.part.Label.{Label}
use Rattle.rv_asm.specs.declared.part.Meaning.{Meaning}
use Rattle.rv_asm.specs.declared.part.Part.{Part}
use Rattle.rv_asm.specs.declared.part.Part.TheVariants.{Place}

-- the bytes before a part, where parts have these sizes
abbrev pub start : List ℕ → ℕ → ℕ
start [] k = 0
start (s ∷ sizes) zero = 0
start (s ∷ sizes) (suc k) = s + start sizes k

-- the size of a part at first
abbrev pub first_by : Part → Option (Label × ℕ) → ℕ
first_by p None = longest p
first_by p (Some near) = shortest p

abbrev pub first_size : List Meaning → Part → ℕ
first_size labels p = first_by p (near_label labels p)

-- The spot of a label is 0 where no part places it, or else one more than the index of the part that does.
pub record AreSpots (parts : List Part) (spots : List ℕ) : Type 0 where
  pub at : (k : ℕ) (l : Label) → slice_get parts k ≡ Some (Place l) → slice_index spots l.number ≡ suc k
  pub back : (n k : ℕ) → slice_index spots n ≡ suc k → (l : Label) × (slice_get parts k ≡ Some (Place l)) × (l.number ≡ n)

-- as far as the parts before an index tell
pub record AreSpotsBefore (i : ℕ) (parts : List Part) (spots : List ℕ) : Type 0 where
  pub at : (k : ℕ) (l : Label) → k < i → slice_get parts k ≡ Some (Place l) → slice_index spots l.number ≡ suc k
  pub back : (n k : ℕ) → slice_index spots n ≡ suc k → (l : Label) × (slice_get parts k ≡ Some (Place l)) × (l.number ≡ n)

-- the address of a label by its spot
abbrev pub spot_address : ℕ → List ℕ → ℕ → ℕ
spot_address base sizes zero = 0
spot_address base sizes (suc j) = base + start sizes j

-- an address lies out of the reach of a form, or within it
abbrev pub IsOut : ℕ → ℕ → ℕ → Type 0
IsOut reach to from = (to + reach < from) ⊎ (from + reach < to + 2)

abbrev pub IsIn : ℕ → ℕ → ℕ → Type 0
IsIn reach to from = (from ≤ to + reach) × (to + 2 ≤ from + reach)

module _ (labels : List Meaning) (parts : List Part) (spots : List ℕ) (base : ℕ) where
  abbrev pub LabelIsOut : List ℕ → ℕ → Label × ℕ → Type 0
  LabelIsOut sizes k near = IsOut near.1 (spot_address base sizes (slice_index spots near.0.number)) (base + start sizes k)

  abbrev pub LabelIsIn : List ℕ → ℕ → Label × ℕ → Type 0
  LabelIsIn sizes k near = IsIn near.1 (spot_address base sizes (slice_index spots near.0.number)) (base + start sizes k)

  -- a part has its first size, or its longest one because its label is out of reach
  abbrev pub HasSize : List ℕ → ℕ → Part → Option (Label × ℕ) → Type 0
  HasSize sizes k p None = slice_index sizes k ≡ longest p
  HasSize sizes k p (Some near) = (slice_index sizes k ≡ shortest p) ⊎ ((slice_index sizes k ≡ longest p) × LabelIsOut sizes k near)

  pub record AreGrown (sizes : List ℕ) : Type 0 where
    pub count : length sizes ≡ length parts
    pub each : (k : ℕ) (p : Part) → slice_get parts k ≡ Some p → HasSize sizes k p (near_label labels p)

  -- a part needs not grow
  abbrev pub IsSettled : List ℕ → ℕ → Part → Label × ℕ → Type 0
  IsSettled sizes k p near = (slice_index sizes k ≡ longest p) ⊎ LabelIsIn sizes k near

  -- so for those before an index whose labels stand before them, or have no place
  abbrev pub AreSettledBack : List ℕ → ℕ → Type 0
  AreSettledBack sizes i = (k : ℕ) (p : Part) (near : Label × ℕ) → k < i → slice_get parts k ≡ Some p → near_label labels p ≡ Some near →
      slice_index spots near.0.number ≤ k → IsSettled sizes k p near

  -- and for those from an index on whose labels stand behind them
  abbrev pub AreSettledAhead : List ℕ → ℕ → Type 0
  AreSettledAhead sizes i = (k : ℕ) (p : Part) (near : Label × ℕ) → i ≤ k → slice_get parts k ≡ Some p → near_label labels p ≡ Some near →
      k < slice_index spots near.0.number → IsSettled sizes k p near

-- labels that stand before an index have their addresses, and those without a place have 0
abbrev pub HasPlace : ℕ → List ℕ → ℕ → ℕ → ℕ → Type 0
HasPlace base sizes i place zero = place ≡ 0
HasPlace base sizes i place (suc j) = j < i → place ≡ base + start sizes j

abbrev pub ArePlacedBefore : ℕ → List ℕ → ℕ → List ℕ → List ℕ → Type 0
ArePlacedBefore base sizes i places spots = (n : ℕ) → HasPlace base sizes i (slice_index places n) (slice_index spots n)

-- those that stand from an index on have the bytes from there to the end
abbrev pub HasRest : List ℕ → ℕ → ℕ → ℕ → ℕ → Type 0
HasRest sizes count i rest zero = Unit {0}
HasRest sizes count i rest (suc j) = i ≤ j → rest + start sizes j ≡ start sizes count

abbrev pub HaveRests : List ℕ → ℕ → ℕ → List ℕ → List ℕ → Type 0
HaveRests sizes count i rests spots = (n : ℕ) → HasRest sizes count i (slice_index rests n) (slice_index spots n)

-- ---- what one step of a walk asks

abbrev pub out_back_by : List ℕ → List ℕ → ℕ → ℕ → Option (Label × ℕ) → Bool
out_back_by spots places k from None = false
out_back_by spots places k from (Some near) = nat_le (slice_index spots near.0.number) k && nat_lt (slice_index places near.0.number + near.1) from

abbrev pub out_ahead_by : List ℕ → List ℕ → ℕ → ℕ → Option (Label × ℕ) → Bool
out_ahead_by spots rests k rest None = false
out_ahead_by spots rests k rest (Some near) = nat_lt k (slice_index spots near.0.number) && nat_lt (slice_index rests near.0.number + near.1) (rest + 2)

-- the size of a part that grows, or stays as it is
abbrev pub grown : Part → ℕ → Bool → ℕ
grown p size true = longest p
grown p size false = size

-- Sizes have grown, or are the same where they come to as much.
pub record IsGrowth (count : ℕ) (old new : List ℕ) : Type 0 where
  pub more : start old count ≤ start new count
  pub same : start new count ≡ start old count → new ≡ old
