-- Numbers noted for labels.
use Rattle.std.proofs.Common.{◌≡◌, ℕ, ◌≤◌, ◌^◌, refl, subst, arith, List, length, length-set, Some}
use Rattle.std.specs.Prelude.{slice_get}
use Rattle.std.specs.List.{All}
use Rattle.std.proofs.lemmas.List.Elements.{All-set}
use Rattle.std.proofs.lemmas.Option.{slice_get_within, get_or_from_slice_get}
use Rattle.rv_asm.specs.Assembly.{Fits}
use Rattle.rv_asm.specs.inside.Sound.{PlaceFits, noted}
use Rattle.rv_asm.specs.declared.part.Meaning.{Meaning}
use Rattle.rv_asm.specs.declared.part.Part.{Part}
use Rattle.rv_asm.specs.declared.part.Part.TheVariants.{Single, Place, Branch, Jump, Call, Address, Table}

fits_of : (labels : List Meaning) (count : ℕ) (p : Part) → count ≡ length labels → Fits labels p → PlaceFits count p
fits_of labels count (Place l) same fits = omega (arith, fits.0)
fits_of labels count (Single i) same fits = tt
fits_of labels count (Branch c a b l) same fits = tt
fits_of labels count (Jump l) same fits = tt
fits_of labels count (Call l) same fits = tt
fits_of labels count (Address rd l) same fits = tt
fits_of labels count (Table ls) same fits = tt

-- a part among parts that fit
pub part_fits : (labels : List Meaning) (parts : List Part) (i : ℕ) (p : Part) → slice_get parts i ≡ Some p → All (Fits labels) parts → Fits labels p
part_fits labels parts i p is fit =
    subst (Fits labels) (get_or_from_slice_get parts i p p is) (fit i p (slice_get_within parts i p is))

pub place_fits : (labels : List Meaning) (parts : List Part) (i : ℕ) (p : Part) (count : ℕ) → slice_get parts i ≡ Some p →
    All (Fits labels) parts → count ≡ length labels → PlaceFits count p
place_fits labels parts i p count is fit same = fits_of labels count p same (part_fits labels parts i p is fit)

pub length-noted : (places : List ℕ) (p : Part) (address : ℕ) → length (noted places p address) ≡ length places
length-noted places (Place l) address = length-set places l.number address
length-noted places (Single i) address = refl
length-noted places (Branch c a b l) address = refl
length-noted places (Jump l) address = refl
length-noted places (Call l) address = refl
length-noted places (Address rd l) address = refl
length-noted places (Table ls) address = refl

pub noted_low : (places : List ℕ) (p : Part) (address : ℕ) → address ≤ 2 ^ 30 → All (λ a. a ≤ 2 ^ 30) places → All (λ a. a ≤ 2 ^ 30) (noted places p address)
noted_low places (Place l) address here all = All-set (λ a. a ≤ 2 ^ 30) places l.number address here all
noted_low places (Single i) address here all = all
noted_low places (Branch c a b l) address here all = all
noted_low places (Jump l) address here all = all
noted_low places (Call l) address here all = all
noted_low places (Address rd l) address here all = all
noted_low places (Table ls) address here all = all
