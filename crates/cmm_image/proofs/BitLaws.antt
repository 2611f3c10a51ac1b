-- Places under others, each that of its variable or none, are spelled by bits.
use Rattle.std.proofs.Common.{◌≡◌, ◌⊎◌, inl, inr, ℕ, zero, suc, ◌+◌, ◌*◌, ◌/◌, ◌%◌, ◌<◌, ◌≤◌, ◌^◌, ◌||◌, Bool, true, false, nat_eq, if◌then◌else◌, List, [], ◌∷◌, length, take, drop, refl, sym, arith}
use Rattle.std.proofs.lemmas.Nat.{pow_pos}
use Rattle.std.proofs.lemmas.List.{length-drop, length-take}
use Rattle.cmm_image.specs.declared.rows.VariablePlace.{VariablePlace}
use Rattle.cmm_image.specs.declared.rows.VariablePlace.TheVariants.{Dead, Slot, Register}
use Rattle.cmm_image.specs.ImageFormat.{one_if}
use Rattle.cmm_image.specs.SecondFormat.{is_live, is_mask, live_places, mask, mask_count, mask_number, masked, masks}
use Rattle.cmm_image.proofs.MaskLaws.{Under, under-length}

-- ---- one byte

low_bit : (b n : ℕ) → b ≤ 1 → (b + 2 * n) % 2 ≡ b
low_bit b n small = omega (arith, small)

high_bits : (b n : ℕ) → b ≤ 1 → (b + 2 * n) / 2 ≡ n
high_bits b n small = omega (arith, small)

bit_small : (b : Bool) → one_if b ≤ 1
bit_small true = omega arith
bit_small false = omega arith

bit_back : (p q : VariablePlace) → (q ≡ Dead) ⊎ (q ≡ p) → (if nat_eq (one_if (is_live q)) 1 then p else Dead) ≡ q
bit_back p Dead under = refl
bit_back p (Slot offset) (inl dead) = absurd cc
bit_back p (Slot offset) (inr same) = sym same
bit_back p (Register register) (inl dead) = absurd cc
bit_back p (Register register) (inr same) = sym same

bit_allowed : (p q : VariablePlace) → (q ≡ Dead) ⊎ (q ≡ p) → (is_live p || nat_eq (one_if (is_live q)) 0) ≡ true
bit_allowed Dead Dead under = refl
bit_allowed Dead (Slot offset) (inl dead) = absurd cc
bit_allowed Dead (Slot offset) (inr same) = absurd cc
bit_allowed Dead (Register register) (inl dead) = absurd cc
bit_allowed Dead (Register register) (inr same) = absurd cc
bit_allowed (Slot offset) q under = refl
bit_allowed (Register register) q under = refl

mask_again : (ps qs : List VariablePlace) → Under ps qs → masked ps (mask_number qs) ≡ qs
mask_again [] [] under = refl
mask_again [] (q ∷ qs) under = absurd under
mask_again (p ∷ ps) [] under = absurd under
mask_again (p ∷ ps) (q ∷ qs) under =
    let small = bit_small (is_live q) in
    rw (low_bit (one_if (is_live q)) (mask_number qs) small, high_bits (one_if (is_live q)) (mask_number qs) small, bit_back p q under.0, mask_again ps qs under.1) refl

mask_is : (ps qs : List VariablePlace) → Under ps qs → is_mask ps (mask_number qs) ≡ true
mask_is [] [] under = refl
mask_is [] (q ∷ qs) under = absurd under
mask_is (p ∷ ps) [] under = absurd under
mask_is (p ∷ ps) (q ∷ qs) under =
    let small = bit_small (is_live q) in
    rw (low_bit (one_if (is_live q)) (mask_number qs) small, high_bits (one_if (is_live q)) (mask_number qs) small, bit_allowed p q under.0, mask_is ps qs under.1) refl

mask_small : (n : ℕ) (qs : List VariablePlace) → length qs ≤ n → mask_number qs < 2 ^ n
mask_small n [] few = (let some = pow_pos n in omega (arith, some))
mask_small zero (q ∷ qs) few = absurd (omega (arith, few))
mask_small (suc n) (q ∷ qs) few =
    let rest = mask_small n qs (omega (arith, few)) in
    let bit = bit_small (is_live q) in
    omega (arith, rest, bit)

mask_holds : (ps qs : List VariablePlace) → length ps ≤ 8 → Under ps qs → (mask ps).Holds qs
mask_holds ps qs few under =
    let long = under-length ps qs under in
    ((mask_small 8 qs (omega (arith, few, long)), (mask_is ps qs under, tt)), mask_again ps qs under)

-- ---- all bytes

under_take : (n : ℕ) (ps qs : List VariablePlace) → Under ps qs → Under (take n ps) (take n qs)
under_take zero ps qs under = tt
under_take (suc n) [] [] under = tt
under_take (suc n) [] (q ∷ qs) under = absurd under
under_take (suc n) (p ∷ ps) [] under = absurd under
under_take (suc n) (p ∷ ps) (q ∷ qs) under = (under.0, under_take n ps qs under.1)

under_drop : (n : ℕ) (ps qs : List VariablePlace) → Under ps qs → Under (drop n ps) (drop n qs)
under_drop zero ps qs under = under
under_drop (suc n) [] [] under = tt
under_drop (suc n) [] (q ∷ qs) under = absurd under
under_drop (suc n) (p ∷ ps) [] under = absurd under
under_drop (suc n) (p ∷ ps) (q ∷ qs) under = under_drop n ps qs under.1

masks_hold : (n : ℕ) (ps qs : List VariablePlace) → length ps ≤ 8 * n → Under ps qs → (masks n ps).Holds qs
masks_hold zero [] [] few under = refl
masks_hold zero [] (q ∷ qs) few under = absurd under
masks_hold zero (p ∷ ps) qs few under = absurd (omega (arith, few))
masks_hold (suc n) ps qs few under = (
  mask_holds (take 8 ps) (take 8 qs) (omega (arith, length-take 8 ps)) (under_take 8 ps qs under),
  masks_hold n (drop 8 ps) (drop 8 qs) (omega (arith, few, length-drop 8 ps)) (under_drop 8 ps qs under),
)

-- the bits of a site are those of its places
pub live_places_hold : (ps qs : List VariablePlace) → Under ps qs → (live_places ps).Holds qs
live_places_hold ps qs under = masks_hold (mask_count (length ps)) ps qs (omega arith) under
