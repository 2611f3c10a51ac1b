-- Registers that are read one after the other into an array, and what is written.
use Rattle.std.proofs.Common.{◌≡◌, ℕ, zero, suc, ◌+◌, ◌-◌, ◌<◌, ◌≤◌, List, [], ◌∷◌, ◌++◌, length, drop, take, slice_index, Ok, Err, refl, ap, ◌∙◌, arith}
use Rattle.std.specs.Prelude.{slice_set}
use Rattle.std.proofs.lemmas.List.{take_more_set, take_all}
use Rattle.cmm_format.specs.declared.fault.Unread.{Unread}
use Rattle.cmm_format.specs.declared.fault.Unread.TheVariants.{Breaks, Memory}
use Rattle.cmm_format.specs.Formats.{Front, rows_at}
use Rattle.cmm_format.specs.Reading.{Reads, Sees}
use Rattle.cmm_format.proofs.Shared.{with_front, last_of, last_of-push, goes_on, ends, is_done}
use Rattle.cmm_snapshot.specs.SnapshotFormat.{numbered_count, u64}

pub count_is : numbered_count ≡ 31
unfolding numbered_count
count_is = refl

-- one register more behind the first
behind-set : (x : List ℕ) (i v : ℕ) → 1 ≤ i → i < length x → drop 1 (take (i + 1) (slice_set x i v)) ≡ drop 1 (take i x) ++ v ∷ []
behind-set x i v some lt = ap (drop 1) (take_more_set x i v lt) ∙ behind x i some lt
  where
    behind : (x : List ℕ) (i : ℕ) → 1 ≤ i → i < length x → drop 1 (take i x ++ v ∷ []) ≡ drop 1 (take i x) ++ v ∷ []
    behind [] i some lt = absurd (omega arith)
    behind (y ∷ ys) zero some lt = absurd (omega arith)
    behind (y ∷ ys) (suc i) some lt = refl

-- a register behind the first leaves that
pub first-kept : (x : List ℕ) (i v : ℕ) → 1 ≤ i → slice_index x 0 ≡ 0 → slice_index (slice_set x i v) 0 ≡ 0
first-kept [] i v some h = h
first-kept (y ∷ ys) zero v some h = absurd (omega arith)
first-kept (y ∷ ys) (suc i) v some h = h

-- the words that are left of all, behind those of an array up to a place
abbrev pub Left : List ℕ → ℕ → List ℕ → Front (List ℕ)
Left x i bytes = with_front (drop 1 (take i x)) (rows_at (λ previous. u64.at) (numbered_count + 1 - i) (last_of (drop 1 (take i x))) bytes)

pub word-read : (x : List ℕ) (i v : ℕ) (bytes after : List ℕ) (total : Front (List ℕ)) → 1 ≤ i → i < 32 → length x ≡ 32 → u64.at bytes ≡ Ok (v, after)
    → Left x i bytes ≡ total → Left (slice_set x i v) (i + 1) after ≡ total
word-read x i v bytes after total some lt long read so_far =
    let more = behind-set x i v some (omega (arith, long)) in
    rw (more, last_of-push (drop 1 (take i x)) v)
    (goes_on (λ previous. u64.at) (drop 1 (take i x)) (numbered_count + 1) i (last_of (drop 1 (take i x))) (last_of (drop 1 (take i x))) bytes v after total (omega (arith, count_is)) refl read so_far)

pub word-missed : (x : List ℕ) (i : ℕ) (why : Unread) (bytes left end : List ℕ) (total : Front (List ℕ)) → i < 32 → Reads {A = ℕ} (Err why) (u64.at bytes) left
    → Left x i bytes ≡ total → Sees {A = List ℕ} (drop 1) (Err why) total end
word-missed x i Memory bytes left end total lt read so_far = tt
word-missed x i (Breaks b) bytes left end total lt read so_far =
    ends (Breaks b) (λ previous. u64.at) (drop 1 (take i x)) (numbered_count + 1) i (last_of (drop 1 (take i x))) (last_of (drop 1 (take i x))) bytes left end total (omega (arith, count_is)) refl read so_far

pub words-done : (x : List ℕ) (i : ℕ) (bytes : List ℕ) (total : Front (List ℕ)) → 32 ≤ i → length x ≡ 32 → Left x i bytes ≡ total → total ≡ Ok (drop 1 x, bytes)
words-done x i bytes total le long so_far =
    is_done (λ previous. u64.at) (drop 1 (take i x)) (numbered_count + 1) i (last_of (drop 1 (take i x))) bytes total (omega (arith, count_is)) so_far
    ∙ ap (λ (as_ : List ℕ). Ok (as_, bytes)) (ap (drop 1) (take_all i x (omega (arith, long))))
