-- Which parts have a short form, how far it reaches, and where each part begins.
use Rattle.std.specs.Prelude.{◌≡◌, ℕ, zero, suc, ◌+◌, ◌^◌, ◌&&◌, nat_le, Bool, true, false, List, [], ◌∷◌, length, slice_get, slice_index, Option, Some, None}
use Rattle.rv_asm.specs.Assembly.{meaning}
use Rattle.rv_asm.specs.Sizes.{longest, shortest}
use Rattle.rv_asm.specs.declared.part.Label.{Label}
use Rattle.rv_asm.specs.declared.part.Meaning.{Meaning}
use Rattle.rv_asm.specs.declared.part.Meaning.TheVariants.{Inner, Outer}
use Rattle.rv_asm.specs.declared.part.Part.{Part}
use Rattle.rv_asm.specs.declared.part.Part.TheVariants.{Branch, Jump, Call, Place}

-- the label of a part that has a short form, and how many bytes back that reaches; ahead it reaches two fewer
abbrev pub near_by : Meaning → Label → Option (Label × ℕ)
near_by (Inner placed) l = Some (l, 2 ^ 20)
near_by (Outer symbol target) l = None

abbrev pub near_label : List Meaning → Part → Option (Label × ℕ)
near_label labels (Branch c a b l) = Some (l, 2 ^ 12)
near_label labels (Jump l) = near_by (meaning labels l) l
near_label labels (Call l) = near_by (meaning labels l) l
near_label labels _ = None

-- an address is in reach of a form whose first byte stands at another
abbrev pub is_near : ℕ → ℕ → ℕ → Bool
is_near reach to from = nat_le from (to + reach) && nat_le (to + 2) (from + reach)

-- Where labels are at these places, a part that begins at an address has its short form if it has one, and its label is in reach.
abbrev pub short_by : List ℕ → ℕ → Option (Label × ℕ) → Bool
short_by places from None = false
short_by places from (Some near) = is_near near.1 (slice_index places near.0.number) from

abbrev pub is_short : List Meaning → List ℕ → ℕ → Part → Bool
is_short labels places from p = short_by places from (near_label labels p)

-- its bytes
abbrev pub size_as : Bool → Part → ℕ
size_as true p = shortest p
size_as false p = longest p

abbrev pub size_at : List Meaning → List ℕ → ℕ → Part → ℕ
size_at labels places from p = size_as (is_short labels places from p) p

-- the address behind parts, if the first begins at one
abbrev pub end_at : List Meaning → List ℕ → ℕ → List Part → ℕ
end_at labels places from [] = from
end_at labels places from (p ∷ ps) = end_at labels places (from + size_at labels places from p) ps

-- where each part begins, by its index, if the first begins at an address; at their count, where they end
abbrev pub begins_at : List Meaning → List ℕ → ℕ → List Part → ℕ → ℕ
begins_at labels places from [] k = from
begins_at labels places from (p ∷ ps) zero = from
begins_at labels places from (p ∷ ps) (suc k) = begins_at labels places (from + size_at labels places from p) ps k

-- Finished code of n bytes has each part in its longest form just where its label lies out of the reach of its short one, counted from the part's
-- first byte: labels stand where parts of these sizes put them, and the code ends where they do.
pub record HasForms (labels : List Meaning) (parts : List Part) (base size : ℕ) (places : List ℕ) : Type 0 where
  pub placed : (k : ℕ) (l : Label) → slice_get parts k ≡ Some (Place l) → slice_index places l.number ≡ begins_at labels places base parts k
  pub whole : base + size ≡ begins_at labels places base parts (length parts)
