-- Sets of the locals that are left without a colour.
use Rattle.std.proofs.Common.{◌≡◌, ℕ, ◌<◌, Bool, true, false, ◌||◌, not, List, [], ◌∷◌, length, replicate, Option, Some, None, is_none, is_some, refl, ap, sym, ◌∙◌, subst, arith}
use Rattle.std.proofs.lemmas.Bool.{and_from, and_parts}
use Rattle.std.specs.Bool.{OnTrue, OnFalse}
use Rattle.cmm_bitset.proofs.Shared.{has-union, length-union, same_from_has, union_settled}
use Rattle.cmm_bitset.specs.Sets.{has, member_count, union}
use Rattle.cmm_colour.specs.Colours.{colour_of}
use Rattle.cmm_allocate.specs.inside.Colouring.{AreKept, HaveNoColour}
use Rattle.cmm_allocate.proofs.Living.{has_within}

-- ---- unions

none_joined : (set : List Bool) → union (replicate (length set) false) set ≡ set
none_joined [] = refl
none_joined (b ∷ set) = ap (λ (s : List Bool). b ∷ s) (none_joined set)

-- an empty set that takes in another one is that
pub taken_in : (empty set all : List Bool) (size : ℕ) → size ≡ length set → empty ≡ replicate size false → all ≡ union empty set → all ≡ set
taken_in empty set all size is_size is_empty is_all =
    is_all ∙ (ap (λ (s : List Bool). union s set) (is_empty ∙ ap (λ (n : ℕ). replicate n false) is_size) ∙ none_joined set)

-- ---- who is left

module _ {class : List Bool} {colours : List (Option ℕ)} {left : List Bool} (are : HaveNoColour class colours (length class) left) where
  pub without_is_left : (v : ℕ) → has class v ≡ true → colour_of colours v ≡ None → has left v ≡ true
  without_is_left v member none =
      are.below v (has_within class v member) ∙ and_from (has class v) (is_none (colour_of colours v)) member (ap (λ (o : Option ℕ). is_none o) none)

  pub left_is_without : (v : ℕ) → has left v ≡ true → (has class v ≡ true) × (colour_of colours v ≡ None)
  left_is_without v is =
      let low : v < length class = subst (λ n. v < n) are.size_is (has_within left v is) in
      let both = and_parts (has class v) (is_none (colour_of colours v)) (sym (are.below v low) ∙ is) in
      (both.0, by (colour_of colours v) refl both.1)
    where
      by : (o : Option ℕ) → colour_of colours v ≡ o → is_none o ≡ true → colour_of colours v ≡ None
      by (Some c) is none = absurd (cc (none))
      by None is none = is

-- a class keeps its colours just where others leave no more without one
module _ (class : List Bool) (colours others : List (Option ℕ)) (left more : List Bool) (first : HaveNoColour class colours (length class) left)
    (second : HaveNoColour class others (length class) more) where
  same_size : length left ≡ length more
  same_size = first.size_is ∙ sym second.size_is

  kept_if_settled : union left more ≡ left → AreKept class colours others
  kept_if_settled settled v member some = by (colour_of others v) refl
    where
      by : (o : Option ℕ) → colour_of others v ≡ o → is_some (colour_of others v) ≡ true
      by (Some c) is = ap (λ (o : Option ℕ). is_some o) is
      by None is =
          let none = (left_is_without first v (union_settled left more v same_size settled (without_is_left second v member is))).1 in
          let not_some : is_some (colour_of colours v) ≡ false = ap (λ (o : Option ℕ). is_some o) none in absurd (cc (some, not_some))

  lost_if_grown : member_count left < member_count (union left more) → AreKept class colours others → ⊥
  lost_if_grown grown kept =
      let same : union left more ≡ left = same_from_has (union left more) left (length-union left more same_size)
      (λ v low. has-union left more v same_size ∙ each v (has left v) (has more v) refl refl) in
      let count : member_count (union left more) ≡ member_count left = ap (λ (s : List Bool). member_count s) same in
      omega (arith, grown, count)
    where
      none_more : (v : ℕ) (o : Option ℕ) → has more v ≡ true → colour_of colours v ≡ o → has left v ≡ true
      none_more v (Some c) is some =
          let without = left_is_without second v is in
          let one : is_some (colour_of others v) ≡ true = kept v without.0 (ap (λ (o : Option ℕ). is_some o) some) in
          let none : is_some (colour_of others v) ≡ false = ap (λ (o : Option ℕ). is_some o) without.1 in absurd (cc (one, none))
      none_more v None is none = without_is_left first v (left_is_without second v is).0 none

      each : (v : ℕ) (a b : Bool) → has left v ≡ a → has more v ≡ b → (has left v || has more v) ≡ has left v
      each v true b one other = ap (λ x. x || has more v) one ∙ sym one
      each v false false one other = ap (λ x. x || has more v) one ∙ (other ∙ sym one)
      each v false true one other = let is = none_more v (colour_of colours v) other refl in absurd (cc (is, one))

  -- which is what the union tells
  pub told : (grew : Bool) (all : List Bool) → all ≡ union left more → OnTrue grew (member_count left < member_count all) → OnFalse grew (all ≡ left) →
      OnTrue (not grew) (AreKept class colours others) × OnFalse (not grew) (AreKept class colours others → ⊥)
  told true all is grown settled = (tt, lost_if_grown (subst (λ s. member_count left < member_count s) is grown))
  told false all is grown settled = (kept_if_settled (sym is ∙ settled), tt)
