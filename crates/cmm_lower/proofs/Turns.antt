-- A turn of a loop that makes something of each item that fits.
use Rattle.std.proofs.Common.{◌≡◌, ℕ, ◌+◌, ◌<◌, length, take, get_or, sym, ap, ◌∙◌, subst, List, [], ◌∷◌, ◌++◌, append_assoc}
use Rattle.std.specs.Prelude.{map}
use Rattle.std.specs.List.{All}
use Rattle.cmm_static_semantics.proofs.Shared.{mapped_next}

pub at_ : {A : Type 0} (P : A → Type 0) (xs : List A) (i : ℕ) (x : A) → i < length xs → x ≡ get_or xs i x → All P xs → P x
at_ P xs i x within is all = subst P (sym is) (all i x within)

pub mapped_if : {A B : Type 0} {old new : List B} (Fits : A → Type 0) (f : A → B) (xs : List A) (i : ℕ) (x : A) (y : B) (base : List B) → i < length xs → x ≡ get_or xs i x →
    (Fits x → y ≡ f x) → new ≡ old ++ y ∷ [] → (All Fits xs → old ≡ base ++ map f (take i xs)) → All Fits xs → new ≡ base ++ map f (take (i + 1) xs)
mapped_if Fits f xs i x y base within is made grown before fit =
    grown ∙ ap (λ t. t ++ y ∷ []) (before fit) ∙ append_assoc base (map f (take i xs)) (y ∷ [])
    ∙ ap (λ m. base ++ (map f (take i xs) ++ m ∷ [])) (made (at_ Fits xs i x within is fit)) ∙ ap (λ t. base ++ t) (sym (mapped_next f xs i x within is))
