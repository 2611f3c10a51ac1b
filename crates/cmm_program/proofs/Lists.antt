-- What holds of the elements of a list holds of one of them.
use Rattle.std.proofs.Common.{◌≡◌, ℕ, suc, Bool, Some, List, ◌∷◌, slice_get, All, IsTrue, arith}
use Rattle.std.proofs.lemmas.Bool.Decides.{nat_tests}
use Rattle.std.proofs.lemmas.Option.{get_or_from_slice_get, slice_get_within}
use Rattle.std.specs.List.{list_all}

pub list_all_get : {A : Type 0} (test : A → Bool) (xs : List A) (n : ℕ) (x : A) → IsTrue (list_all test xs) → slice_get xs n ≡ Some x → IsTrue (test x)
list_all_get test (y ∷ ys) (suc n) x all is = grind (arith, nat_tests, list_all_get test ys n x)
list_all_get test xs n x all is = grind (arith, nat_tests)

pub all_get : {A : Type 0} (P : A → Type 0) (xs : List A) (n : ℕ) (x : A) → All P xs → slice_get xs n ≡ Some x → P x
all_get P xs n x all is = grind (arith, get_or_from_slice_get, slice_get_within)
