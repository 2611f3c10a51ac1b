-- Units of which something is known, one after another.
use Rattle.std.proofs.Common.{◌≡◌, ℕ, zero, suc, ◌+◌, ◌<◌, length, take, drop, get_or, refl, ap, sym, ◌∙◌, subst, arith, List, [], ◌∷◌, ◌++◌, append_assoc}
use Rattle.std.specs.List.{All, AllZip}
use Rattle.std.proofs.lemmas.List.{take-append-drop}
use Rattle.std.proofs.lemmas.List.Elements.{All-cons, All-nil}
use Rattle.cmm_static_semantics.specs.Declarations.{NamedUnit}
use Rattle.cmm_static_semantics.specs.Linking.{Program as Linked}
use Rattle.cmm_checked.specs.Known.{IsKnown, names_of}
use Rattle.cmm_checked.specs.declared.unit.CheckedUnit.{CheckedUnit}
use Rattle.cmm_typing.specs.Fitting.{AreWords}

-- what stands beside an item of the second of two lists
pub zip_at : {A B : Type 0} (R : A → B → Type 0) (xs : List A) (ys : List B) (k : ℕ) (y : B) → AllZip R xs ys → k < length ys → y ≡ get_or ys k y →
    (x : A) × (R x y × ((take (k + 1) xs ≡ take k xs ++ x ∷ []) × (k ≡ length (take k xs))))
zip_at R [] [] k y zip inside is = absurd (omega arith)
zip_at R [] (z ∷ zs) k y zip inside is = absurd zip
zip_at R (x ∷ xs) [] k y zip inside is = absurd zip
zip_at R (x ∷ xs) (z ∷ zs) zero y zip inside is = (x, (subst (R x) (sym is) zip.0, (refl, refl)))
zip_at R (x ∷ xs) (z ∷ zs) (suc k) y zip inside is =
    let e : suc k + 1 ≡ suc (k + 1) = omega arith in
    let rest : (w : _) × (R w y × ((take (k + 1) xs ≡ take k xs ++ w ∷ []) × (k ≡ length (take k xs)))) = zip_at R xs zs k y zip.1 (omega arith) is in (
      rest.0,
      (rest.1.0, (ap (λ n. take n (x ∷ xs)) e ∙ ap (λ t. x ∷ t) rest.1.1.0, ap suc rest.1.1.1)),
    )

-- some units, the next, and those behind it
pub parted : (us : List NamedUnit) (k : ℕ) (u : NamedUnit) → take (k + 1) us ≡ take k us ++ u ∷ [] → us ≡ take k us ++ u ∷ drop (k + 1) us
parted us k u more = sym (take-append-drop (k + 1) us) ∙ ap (λ t. t ++ drop (k + 1) us) more ∙ append_assoc (take k us) (u ∷ []) (drop (k + 1) us)

pub words_known : (program : Linked) (us : List NamedUnit) (cs : List CheckedUnit) → AllZip (IsKnown program) us cs → All (λ (c : CheckedUnit). AreWords (names_of c)) cs
words_known program [] [] known = All-nil (λ (c : CheckedUnit). AreWords (names_of c))
words_known program [] (c ∷ cs) known = absurd known
words_known program (u ∷ us) [] known = absurd known
words_known program (u ∷ us) (c ∷ cs) known =
    All-cons (λ (x : CheckedUnit). AreWords (names_of x)) c cs known.0.words (words_known program us cs known.1)
