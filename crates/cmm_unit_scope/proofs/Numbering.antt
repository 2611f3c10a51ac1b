-- Declarations by their numbers.
use Rattle.std.proofs.Common.{◌≡◌, ℕ, suc, ◌<◌, Bool, true, false, List, [], ◌∷◌, length, Option, Some, None, option_map, refl, sym, ◌∙◌, ap, subst, arith}
use Rattle.std.specs.Prelude.{option_and_then, bytes_eq}
use Rattle.cmm_static_semantics.specs.Declarations.{Declared, Entry, found}
use Rattle.cmm_symbols.proofs.Shared.{found_with}
use Rattle.cmm_symbols.specs.Numbering.{numbering}
use Rattle.cmm_unit_scope.specs.Numbers.{entry_at}

or_later : (b : Bool) (e : Entry) (ds : List (Declared Entry)) (d : Declared Entry) (o : Option ℕ) (p : Option Entry) → d.as_what ≡ e → option_and_then (entry_at ds) o ≡ p →
    option_and_then (entry_at (d ∷ ds)) (elim b as (λ _. Option ℕ) [ true ↦ Some 0 | false ↦ option_map (λ n. suc n) o ]) ≡ elim b as (λ _. Option Entry) [ true ↦ Some e | false ↦ p ]
or_later true e ds d o p same h = ap Some same
or_later false e ds d None p same h = h
or_later false e ds d (Some j) p same h = h

-- what is found, by its number
pub found_numbering : (name : List ℕ) (ds : List (Declared Entry)) → option_and_then (entry_at ds) (found name (numbering ds)) ≡ found name ds
found_numbering name [] = refl
found_numbering name (d ∷ ds) =
    ap (λ o. option_and_then (entry_at (d ∷ ds)) (elim (bytes_eq name d.name.name) as (λ _. Option ℕ) [ true ↦ Some 0 | false ↦ o ])) (found_with (λ n. suc n) name (numbering ds))
    ∙ or_later (bytes_eq name d.name.name) d.as_what ds d (found name (numbering ds)) (found name ds) refl (found_numbering name ds)

abbrev pub IsBelow : ℕ → Option ℕ → Type 0
IsBelow size None = Unit {0}
IsBelow size (Some j) = j < size

below_or : (b : Bool) (size : ℕ) (o : Option ℕ) → IsBelow size o → IsBelow (suc size) (elim b as (λ _. Option ℕ) [ true ↦ Some 0 | false ↦ option_map (λ n. suc n) o ])
below_or true size o h = omega arith
below_or false size None h = tt
below_or false size (Some j) h = omega arith

pub found_below : (name : List ℕ) (ds : List (Declared Entry)) → IsBelow (length ds) (found name (numbering ds))
found_below name [] = tt
found_below name (d ∷ ds) =
    let P : Option ℕ → Type 0 = λ o. IsBelow (suc (length ds)) (elim (bytes_eq name d.name.name) as (λ _. Option ℕ) [ true ↦ Some 0 | false ↦ o ]) in
    subst P (sym (found_with (λ n. suc n) name (numbering ds))) (below_or (bytes_eq name d.name.name) (length ds) (found name (numbering ds)) (found_below name ds))

pub host_below : (host : Bool) (size : ℕ) (o : Option ℕ) → IsBelow size o → IsBelow size (elim host as (λ _. Option ℕ) [ true ↦ None | false ↦ o ])
host_below true size o h = tt
host_below false size o h = h
