-- Labels whose numbers follow each other.
use Rattle.std.proofs.Common.{◌≡◌, ℕ, zero, suc, ◌+◌, ◌<◌, refl, sym, ◌∙◌, ap, arith, false, List, [], ◌∷◌, ◌++◌, length, Some, slice_get, get_or, zero-add}
use Rattle.std.specs.Prelude.{replicate}
use Rattle.rv_asm.specs.declared.part.Label.{Label}
use Rattle.rv_asm.specs.declared.part.Meaning.{Meaning}
use Rattle.rv_asm.specs.declared.part.Meaning.TheVariants.{Inner, Outer}
use Rattle.cmm_unit_code.specs.declared.unit_code.Reference.{Reference}
use Rattle.cmm_emit.specs.Labels.{is_reached, labels_from, symbol_labels, symbol_labels_from}

pub length-labels_from : (first count : ℕ) → length (labels_from first count) ≡ count
length-labels_from first zero = refl
length-labels_from first (suc count) = ap suc (length-labels_from (suc first) count)

pub length-symbol_labels_from : (first : ℕ) (rs : List Reference) → length (symbol_labels_from first rs) ≡ length rs
length-symbol_labels_from first [] = refl
length-symbol_labels_from first (r ∷ rs) = ap suc (length-symbol_labels_from (suc first) rs)

pub length-symbol_labels : (rs : List Reference) → length (symbol_labels rs) ≡ length rs
length-symbol_labels rs = length-symbol_labels_from 0 rs

pub labels_more : (first count : ℕ) → labels_from first count ++ record { number = first + count } ∷ [] ≡ labels_from first (count + 1)
labels_more first zero = let e : first + 0 ≡ first = omega arith in rw e refl
labels_more first (suc count) =
    let e : first + suc count ≡ suc first + count = omega arith in
    let n : suc count + 1 ≡ suc (count + 1) = omega arith in
    rw (e, n) (ap (λ (ls : List Label). record { number = first } ∷ ls) (labels_more (suc first) count))

symbols_from_more : (first : ℕ) (rs : List Reference) (r : Reference) →
    symbol_labels_from first rs ++ Outer (first + length rs) (is_reached r) ∷ [] ≡ symbol_labels_from first (rs ++ r ∷ [])
symbols_from_more first [] r = let e : first + 0 ≡ first = omega arith in rw e refl
symbols_from_more first (x ∷ rs) r =
    let e : first + suc (length rs) ≡ suc first + length rs = omega arith in
    rw e (ap (λ (ms : List Meaning). Outer first (is_reached x) ∷ ms) (symbols_from_more (suc first) rs r))

-- one more is named
pub symbols_more : (rs : List Reference) (r : Reference) → symbol_labels rs ++ Outer (length rs) (is_reached r) ∷ [] ≡ symbol_labels (rs ++ r ∷ [])
symbols_more rs r =
    ap (λ (n : ℕ). symbol_labels rs ++ Outer n (is_reached r) ∷ []) (sym (zero-add (length rs))) ∙ symbols_from_more 0 rs r

pub replicate_more : (count : ℕ) → replicate count (Inner false) ++ Inner false ∷ [] ≡ replicate (count + 1) (Inner false)
replicate_more zero = refl
replicate_more (suc count) = let n : suc count + 1 ≡ suc (count + 1) = omega arith in rw n (ap (λ (ms : List Meaning). Inner false ∷ ms) (replicate_more count))

pub label_from : (first count k : ℕ) (d : Label) → k < count → get_or (labels_from first count) k d ≡ record { number = first + k }
label_from first zero k d less = absurd (omega arith)
label_from first (suc count) zero d less = let e : first + 0 ≡ first = omega arith in rw e refl
label_from first (suc count) (suc k) d less =
    let e : first + suc k ≡ suc first + k = omega arith in
    rw e (label_from (suc first) count k d (omega (arith, less)))

symbol_from_at : (first : ℕ) (rs : List Reference) (k : ℕ) (r : Reference) → slice_get rs k ≡ Some r → slice_get (symbol_labels_from first rs) k ≡ Some (Outer (first + k) (is_reached r))
symbol_from_at first [] k r is = absurd (cc)
symbol_from_at first (x ∷ rs) zero r is =
    let same : x ≡ r = cc in
    let e : first + 0 ≡ first = omega arith in
    rw e (ap (λ (z : Reference). Some (Outer first (is_reached z))) same)
symbol_from_at first (x ∷ rs) (suc k) r is =
    let e : first + suc k ≡ suc first + k = omega arith in
    rw e (symbol_from_at (suc first) rs k r is)

-- each is the symbol of its place
pub symbol_at : (rs : List Reference) (k : ℕ) (r : Reference) → slice_get rs k ≡ Some r → slice_get (symbol_labels rs) k ≡ Some (Outer k (is_reached r))
symbol_at rs k r is = symbol_from_at 0 rs k r is ∙ ap (λ (n : ℕ). Some (Outer n (is_reached r))) (zero-add k)

pub inner_at : (count k : ℕ) → k < count → slice_get (replicate count (Inner false)) k ≡ Some (Inner false)
inner_at zero k less = absurd (omega arith)
inner_at (suc count) zero less = refl
inner_at (suc count) (suc k) less = inner_at count k (omega (arith, less))
