-- Where parts begin, by their sizes, before and after one of them grows.
use Rattle.std.proofs.Common.{◌≡◌, ℕ, zero, suc, ◌+◌, ◌<◌, ◌≤◌, refl, ap, arith, List, [], ◌∷◌, length, set, get_or}
use Rattle.std.specs.Prelude.{slice_get, slice_index, Some}
use Rattle.rv_asm.specs.Sizes.{all_longest, longest}
use Rattle.rv_asm.specs.inside.Growing.{start}
use Rattle.rv_asm.specs.declared.part.Part.{Part}

pub start-zero : (sizes : List ℕ) → start sizes 0 ≡ 0
start-zero [] = refl
start-zero (s ∷ sizes) = refl

pub start-next : (sizes : List ℕ) (k : ℕ) → k < length sizes → start sizes (suc k) ≡ start sizes k + slice_index sizes k
start-next [] k less = absurd (omega arith)
start-next (s ∷ sizes) zero less = omega (arith, start-zero sizes)
start-next (s ∷ sizes) (suc k) less = omega (arith, start-next sizes k (omega arith))

pub start-up : (sizes : List ℕ) (j k : ℕ) → j ≤ k → start sizes j ≤ start sizes k
start-up [] j k le = omega arith
start-up (s ∷ sizes) zero zero le = omega arith
start-up (s ∷ sizes) zero (suc k) le = omega arith
start-up (s ∷ sizes) (suc j) zero le = absurd (omega arith)
start-up (s ∷ sizes) (suc j) (suc k) le = omega (arith, start-up sizes j k (omega arith))

-- a part that has another size moves those behind it alone
pub start-set_before : (sizes : List ℕ) (i v k : ℕ) → k ≤ i → start (set sizes i v) k ≡ start sizes k
start-set_before [] i v k le = refl
start-set_before (s ∷ sizes) zero v zero le = refl
start-set_before (s ∷ sizes) zero v (suc k) le = absurd (omega arith)
start-set_before (s ∷ sizes) (suc i) v zero le = refl
start-set_before (s ∷ sizes) (suc i) v (suc k) le = ap (λ n. s + n) (start-set_before sizes i v k (omega arith))

pub start-set_after : (sizes : List ℕ) (i v k : ℕ) → i < k → i < length sizes → start (set sizes i v) k + slice_index sizes i ≡ start sizes k + v
start-set_after [] i v k less within = absurd (omega arith)
start-set_after (s ∷ sizes) zero v zero less within = absurd (omega arith)
start-set_after (s ∷ sizes) zero v (suc k) less within = omega arith
start-set_after (s ∷ sizes) (suc i) v zero less within = absurd (omega arith)
start-set_after (s ∷ sizes) (suc i) v (suc k) less within = omega (arith, start-set_after sizes i v k (omega arith) (omega arith))

pub set_same_value : (sizes : List ℕ) (i : ℕ) → set sizes i (slice_index sizes i) ≡ sizes
set_same_value [] i = refl
set_same_value (s ∷ sizes) zero = refl
set_same_value (s ∷ sizes) (suc i) = ap (λ (ss : List ℕ). s ∷ ss) (set_same_value sizes i)

-- sizes that are no more than the longest
pub start_within : (parts : List Part) (sizes : List ℕ) (k : ℕ) → length sizes ≡ length parts →
    ((i : ℕ) (p : Part) → slice_get parts i ≡ Some p → slice_index sizes i ≤ longest p) → start sizes k ≤ all_longest parts
start_within [] [] k same short = omega arith
start_within [] (s ∷ sizes) k same short = absurd (omega arith)
start_within (p ∷ parts) [] k same short = absurd (omega arith)
start_within (p ∷ parts) (s ∷ sizes) zero same short = omega arith
start_within (p ∷ parts) (s ∷ sizes) (suc k) same short =
    omega (arith, short 0 p refl, start_within parts sizes k (omega arith) (λ i q is. short (suc i) q is))

-- a size that is there, whatever stands in for those that are not
pub read_size : (sizes : List ℕ) (i v : ℕ) → i < length sizes → v ≡ get_or sizes i v → v ≡ slice_index sizes i
read_size [] i v less is = absurd (omega arith)
read_size (s ∷ sizes) zero v less is = is
read_size (s ∷ sizes) (suc i) v less is = read_size sizes i v (omega arith) is
