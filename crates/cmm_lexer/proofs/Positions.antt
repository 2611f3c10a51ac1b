-- Where the first element that passes a test stands.
use Rattle.std.proofs.Common.{◌≡◌, ℕ, ◌<◌, Bool, true, false, List, length, get_or, Some, None, nat_lt, refl, arith}
use Rattle.std.proofs.lemmas.Bool.Decides.{nat_tests}
use Rattle.std.proofs.lemmas.List.Sums.{position_or_len_is}
use Rattle.std.specs.List.{position}

pub position-found : {X : Type 0} (p : X → Bool) (xs : List X) (i : ℕ) (d : X) → i < length xs → ((k : ℕ) → k < i → p (get_or xs k d) ≡ false) → p (get_or xs i d) ≡ true → Some i ≡ position p xs
position-found p xs i d h before here =
    let at = position_or_len_is p xs i d (omega arith) before (λ _. here) in
    let lt : nat_lt i (length xs) ≡ true = grind (arith, nat_tests) in
    rw (at, lt) refl

pub position-none : {X : Type 0} (p : X → Bool) (xs : List X) (d : X) → ((k : ℕ) → k < length xs → p (get_or xs k d) ≡ false) → None ≡ position p xs
position-none p xs d before =
    let at = position_or_len_is p xs (length xs) d (omega arith) before (λ h. absurd (omega arith)) in
    let lt : nat_lt (length xs) (length xs) ≡ false = grind (arith, nat_tests) in
    rw (at, lt) refl
