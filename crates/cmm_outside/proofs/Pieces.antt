-- Writing pieces, one after another: what was written stands, and a front of the piece whose write failed.
use Rattle.std.proofs.Common.{◌≡◌, ℕ, suc, ◌+◌, ◌<◌, List, ◌∷◌, ◌++◌, length, take, drop, get_or, Option, Result, Ok, Err, ap, sym, ◌∙◌, arith, length-append}
use Rattle.std.proofs.Math.Seq.{take-append-add, drop-cons}
use Rattle.std.proofs.lemmas.List.{take-append-le, take-append-drop}
use Rattle.std.proofs.lemmas.Grind.{flat_map-append}
use Rattle.std.specs.List.{flat_map}
use Rattle.std.specs.Result.{IsErr, OnErr}
use Rattle.cmm_outside.specs.Output.{Appends, AppendsFront, WritesAll}
use Rattle.cmm_outside.proofs.Appending.{Appends-append}

-- a front of bytes that come after those that are written, and before others, is a front of all
AppendsFront-between : (before mid after : Option (List ℕ)) (done piece rest : List ℕ) →
    Appends before mid done → AppendsFront mid after piece → AppendsFront before after (done ++ (piece ++ rest))
AppendsFront-between before mid after done piece rest a (n, within, b) =
    let front : take (length done + n) (done ++ (piece ++ rest)) ≡ done ++ take n piece =
    take-append-add done (piece ++ rest) n ∙ ap (λ (ys : List ℕ). done ++ ys) (take-append-le n piece rest within) in (
      length done + n,
      omega (arith, length-append done (piece ++ rest), length-append piece rest),
      rw front (Appends-append before mid after done (take n piece) a b),
    )

-- the pieces from one on
flat_map-from : {X : Type 0} (f : X → List ℕ) (xs : List X) (i : ℕ) (d : X) → i < length xs → flat_map f xs ≡ flat_map f (take i xs) ++ (f (get_or xs i d) ++ flat_map f (drop (i + 1) xs))
flat_map-from {X} f xs i d h =
    let e : i + 1 ≡ suc i = omega arith in
    ap (flat_map f) (sym (take-append-drop i xs) ∙ ap (λ (ys : List X). take i xs ++ ys) (rw e (drop-cons xs i d h)))
    ∙ flat_map-append f (take i xs) (get_or xs i d ∷ drop (i + 1) xs)

-- a front of the piece after those that are written is a front of all
AppendsFront-pieces : {X : Type 0} (f : X → List ℕ) (xs : List X) (i : ℕ) (d : X) (before mid after : Option (List ℕ)) → i < length xs →
    Appends before mid (flat_map f (take i xs)) → AppendsFront mid after (f (get_or xs i d)) → AppendsFront before after (flat_map f xs)
AppendsFront-pieces f xs i d before mid after h a b =
    let front = AppendsFront-between before mid after (flat_map f (take i xs)) (f (get_or xs i d)) (flat_map f (drop (i + 1) xs)) a b in
    rw (flat_map-from f xs i d h) front

-- what holds in any case holds on an error
OnErr-always : {T E : Type 0} (r : Result T E) {P : Type 0} → P → OnErr r P
OnErr-always (Ok x) p = tt
OnErr-always (Err e) p = p

-- these bytes were written, and no call failed
pub record HasWritten {Sink : Type 0} (taken : Sink → Option (List ℕ)) (faults : Sink → ℕ) (old new : Sink) (bytes : List ℕ) : Type 0 where
  pub appended : Appends (taken old) (taken new) bytes
  pub same_faults : faults new ≡ faults old

-- where a piece's write fails after those that are written, so does the write of all of them
pub fails_at_piece : {Sink Answer Error Other : Type 0} {taken : Sink → Option (List ℕ)} {faults : Sink → ℕ} {old mid new : Sink}
    {failed : Result Answer Error} {error : Error} {result : Result Other Error} {X : Type 0} (f : X → List ℕ) (xs : List X) (i : ℕ) (d : X) →
    i < length xs → HasWritten taken faults old mid (flat_map f (take i xs)) →
    WritesAll taken faults mid new (f (get_or xs i d)) failed → failed ≡ Err error → IsErr result → WritesAll taken faults old new (flat_map f xs) result
fails_at_piece {failed = Ok _} f xs i d here so_far piece fails is_err = absurd (cc)
fails_at_piece {failed = Err _} {result = Ok _} f xs i d here so_far piece fails is_err = absurd (cc)
fails_at_piece {taken = taken} {old = old} {mid = mid} {new = new} {failed = Err _} {result = Err _} f xs i d here so_far piece fails is_err = record {
  ok = tt;
  err = AppendsFront-pieces f xs i d (taken old) (taken mid) (taken new) here so_far.appended piece.err;
  no_fault = tt;
  fault = rw (← so_far.same_faults) piece.fault;
}
