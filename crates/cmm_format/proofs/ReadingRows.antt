-- Reading records one after the other, as a loop does.
use Rattle.std.proofs.Common.{◌≡◌, ℕ, suc, ◌-◌, ◌+◌, ◌≤◌, ◌<◌, List, [], ◌∷◌, ◌++◌, length, slice_get, Option, Some, Ok, Err, refl, sym, ap, ◌∙◌, append_assoc, arith}
use Rattle.std.proofs.lemmas.List.{append-nil, length-append, get_or_at}
use Rattle.std.proofs.lemmas.Option.{slice_get-get_or}
use Rattle.cmm_format.specs.declared.fault.Unread.{Unread}
use Rattle.cmm_format.specs.declared.fault.Unread.TheVariants.{Breaks, Memory}
use Rattle.cmm_format.specs.Formats.{◌>>=◌, Front, rows_at}
use Rattle.cmm_format.specs.Reading.{Reads}

-- what was read before, and what is still read
abbrev pub with_front : {A : Type 0} → List A → Front (List A) → Front (List A)
with_front front read = read >>= λ x. Ok (front ++ x.0, x.1)

-- the last of the records so far
abbrev pub last_of : {A : Type 0} → List A → Option A
last_of as_ = slice_get as_ (length as_ - 1)

regroup : {A : Type 0} (front : List A) (a : A) (read : Front (List A)) → with_front front (read >>= λ x. Ok (a ∷ x.0, x.1)) ≡ with_front (front ++ a ∷ []) read
regroup {A = A} front a (Ok x) = ap (λ (as_ : List A). Ok (as_, x.1)) (simp append_assoc)
regroup front a (Err f) = refl

pub last_of-push : {A : Type 0} (as_ : List A) (a : A) → last_of (as_ ++ a ∷ []) ≡ Some a
last_of-push as_ a =
    let len = length-append as_ (a ∷ []) in
    let k : length (as_ ++ a ∷ []) - 1 ≡ length as_ = omega (arith, len) in
    rw (k, slice_get-get_or (as_ ++ a ∷ []) (length as_) a (omega (arith, len)), get_or_at as_ a [] a (length as_) refl) refl

pub goes_on : {A : Type 0} (each : Option A → List ℕ → Front A) (front : List A) (count i : ℕ) (last previous : Option A) (bytes : List ℕ) (a : A) (after : List ℕ) (total : Front (List A)) → i < count → last ≡ previous → each last bytes ≡ Ok (a, after)
    → with_front front (rows_at each (count - i) previous bytes) ≡ total → with_front (front ++ a ∷ []) (rows_at each (count - (i + 1)) (Some a) after) ≡ total
goes_on each front count i last previous bytes a after total lt same read so_far =
    let h : each previous bytes ≡ Ok (a, after) = rw same at read in
    let k : count - i ≡ suc (count - (i + 1)) = omega arith in
    let one : with_front front (rows_at each (count - i) previous bytes) ≡ with_front (front ++ a ∷ []) (rows_at each (count - (i + 1)) (Some a) after) = rw (k, h) (regroup front a (rows_at each (count - (i + 1)) (Some a) after)) in
    sym one ∙ so_far

pub ends : {A : Type 0} (e : Unread) (each : Option A → List ℕ → Front A) (front : List A) (count i : ℕ) (last previous : Option A) (bytes left end : List ℕ) (total : Front (List A)) → i < count → last ≡ previous → Reads {A = A} (Err e) (each last bytes) left
    → with_front front (rows_at each (count - i) previous bytes) ≡ total → Reads {A = List A} (Err e) total end
ends Memory each front count i last previous bytes left end total lt same h so_far = tt
ends (Breaks b) each front count i last previous bytes left end total lt same read so_far =
    let h : each previous bytes ≡ Err b = rw same at read in
    let k : count - i ≡ suc (count - (i + 1)) = omega arith in
    let one : with_front front (rows_at each (count - i) previous bytes) ≡ Err b = rw (k, h) refl in
    sym so_far ∙ one

pub is_done : {A : Type 0} (each : Option A → List ℕ → Front A) (front : List A) (count i : ℕ) (previous : Option A) (bytes : List ℕ) (total : Front (List A)) → count ≤ i → with_front front (rows_at each (count - i) previous bytes) ≡ total → total ≡ Ok (front, bytes)
is_done {A = A} each front count i previous bytes total le so_far =
    let k : count - i ≡ 0 = omega arith in
    let one : with_front front (rows_at each (count - i) previous bytes) ≡ Ok (front, bytes) = rw k (ap (λ (as_ : List A). Ok (as_, bytes)) (append-nil front)) in
    sym so_far ∙ one
