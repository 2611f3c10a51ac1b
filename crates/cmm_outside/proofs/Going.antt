-- The reads of one file, one after another.
use Rattle.std.proofs.lemmas.Bool.{or_left, or_right}
use Rattle.std.proofs.Common.{◌≡◌, ℕ, ◌+◌, ◌≤◌, refl, sym, ◌∙◌, ap, subst, arith, Bool, true, false, List, [], ◌∷◌, ◌++◌, Option, Some, None, IfSome, inl, inr}
use Rattle.std.specs.Prelude.{◌||◌, ◌==◌, ◌≢◌, nat_lt, Result, Ok, Err}
use Rattle.std.specs.Result.{IsErrAnd}
use Rattle.std.proofs.Common.{◌<◌}
use Rattle.std.proofs.lemmas.Bool.Decides.{nat_tests}
use Rattle.cmm_outside.specs.declared.storage.FileError.{FileError}
use Rattle.cmm_outside.specs.declared.storage.FileError.TheVariants.{Failed, TooLong, Memory}
use Rattle.std.proofs.lemmas.List.{append-nil, append_assoc}
use Rattle.cmm_outside.specs.Reads.{GoOn, IsReadFor, Made, MadeOne, MadeOrNot, ReadCall, end_of, is_last, is_whole, meets_end}

-- a read of a file from a byte on, which asks for no more than the byte behind a limit
pub record IsNext (name : List ℕ) (limit at : ℕ) (call : ReadCall) : Type 0 where
  pub named : call.name ≡ name
  pub begins : call.from ≡ at
  pub within : call.from + call.room ≤ limit + 1

-- reads of a file from a byte on to another, each of which gave some, and none the last
abbrev pub Going : List ℕ → ℕ → ℕ → ℕ → List ReadCall → Type 0
Going name limit at to [] = at ≡ to
Going name limit at to (call ∷ calls) = IsNext name limit at call × (is_last limit call ≡ false) × Going name limit (end_of call) to calls

-- one more
pub going_on : (name : List ℕ) (limit at to : ℕ) (calls : List ReadCall) (call : ReadCall) → Going name limit at to calls → IsNext name limit to call → is_last limit call ≡ false →
    Going name limit at (end_of call) (calls ++ call ∷ [])
going_on name limit at to [] call here next on = (subst (λ (k : ℕ). IsNext name limit k call) (sym here) next, on, refl)
going_on name limit at to (first ∷ calls) call (is, more, going) next on = (is, more, going_on name limit (end_of first) to calls call going next on)

-- nothing is the last of these
not_last : {b : Bool} → {T : Type 0} → b ≡ false → b ≡ true → T
not_last is last = absurd (cc)

pub going_goes_on : (name : List ℕ) (limit at to : ℕ) (calls : List ReadCall) → Going name limit at to calls → GoOn name limit at calls
going_goes_on name limit at to [] here = tt
going_goes_on name limit at to (first ∷ calls) (is, more, going) =
    (is.named, is.begins, is.within, (λ last. not_last more last), going_goes_on name limit (end_of first) to calls going)

-- and one more, which may be the last
pub ends_there : (name : List ℕ) (limit at to : ℕ) (calls : List ReadCall) (call : ReadCall) → Going name limit at to calls → IsNext name limit to call →
    GoOn name limit at (calls ++ call ∷ [])
ends_there name limit at to [] call here next = (next.named, next.begins ∙ sym here, next.within, (λ last. refl), tt)
ends_there name limit at to (first ∷ calls) call (is, more, going) next =
    (is.named, is.begins, is.within, (λ last. not_last more last), ends_there name limit (end_of first) to calls call going next)

-- which is the last where it meets the end
pub whole_there : (limit : ℕ) (calls : List ReadCall) (call : ReadCall) → meets_end limit call ≡ true → is_whole limit (calls ++ call ∷ []) ≡ true
whole_there limit [] call met = or_left (meets_end limit call) false met
whole_there limit (first ∷ calls) call met = or_right (meets_end limit first) (is_whole limit (calls ++ call ∷ [])) (whole_there limit calls call met)

-- ---- where reads are told

-- one more was made
pub made_more : (before between after : Option (List ReadCall)) (P Q : List ReadCall → Type 0) (call : ReadCall) → Made before between P → MadeOne between after call →
    ((calls : List ReadCall) → P calls → Q (calls ++ call ∷ [])) → Made before after Q
made_more None between after P Q call made one holds = tt
made_more (Some earlier) between after P Q call (calls, are, p) one holds =
    let last = subst (λ (o : Option (List ReadCall)). MadeOne o after call) are one in (
      calls ++ call ∷ [],
      last.1 ∙ ap (λ (xs : List ReadCall). Some ((earlier ++ calls) ++ xs)) last.2 ∙ ap (λ (xs : List ReadCall). Some xs) (append_assoc earlier calls (call ∷ [])),
      holds calls p,
    )

-- one more was made, or none
pub made_or_not : (before between after : Option (List ReadCall)) (P Q : List ReadCall → Type 0) (call : ReadCall) → Made before between P → MadeOrNot between after call →
    ((calls : List ReadCall) → P calls → Q calls) → ((calls : List ReadCall) → P calls → Q (calls ++ call ∷ [])) → Made before after Q
made_or_not None between after P Q call made one so holds = tt
made_or_not (Some earlier) between after P Q call (calls, are, p) one so holds =
    by (subst (λ (o : Option (List ReadCall)). MadeOrNot o after call) are one)
  where
    by : MadeOrNot (Some (earlier ++ calls)) after call → Made (Some earlier) after Q
    by (last, is, inl none) = (
      calls,
      is ∙ ap (λ (xs : List ReadCall). Some ((earlier ++ calls) ++ xs)) none ∙ ap (λ (xs : List ReadCall). Some xs) (append-nil (earlier ++ calls)),
      so calls p,
    )
    by (last, is, inr this) = (
      calls ++ call ∷ [],
      is ∙ ap (λ (xs : List ReadCall). Some ((earlier ++ calls) ++ xs)) this ∙ ap (λ (xs : List ReadCall). Some xs) (append_assoc earlier calls (call ∷ [])),
      holds calls p,
    )

-- they are as well of another kind
pub made_so : (before after : Option (List ReadCall)) (P Q : List ReadCall → Type 0) → Made before after P → ((calls : List ReadCall) → P calls → Q calls) → Made before after Q
made_so None after P Q made holds = tt
made_so (Some earlier) after P Q (calls, are, p) holds = (calls, are, holds calls p)

-- ---- by the numbers of one read

-- a read that gives some bytes, and none behind the limit, goes on to where it has ended
pub goes_on : (name : List ℕ) (limit before from room n to : ℕ) (calls : List ReadCall) → Going name limit 0 before calls → from ≡ before → from + room ≤ limit + 1 → 1 ≤ n →
    from + n ≤ limit → from + n ≡ to → Going name limit 0 to (calls ++ record { name = name; from = from; room = room; came = Some n } ∷ [])
goes_on name limit before from room n to calls going here within some low there =
    subst (λ (k : ℕ). Going name limit 0 k (calls ++ call ∷ [])) there
    (going_on name limit 0 before calls call going (record { named = refl; begins = here; within = within }) (grind (arith, nat_tests, some, low)))
  where
    call : ReadCall
    call = record { name = name; from = from; room = room; came = Some n }

-- any read behind these goes on, whatever comes of it
pub read_behind : (name : List ℕ) (limit before from room : ℕ) (came : Option ℕ) (calls : List ReadCall) → Going name limit 0 before calls → from ≡ before → from + room ≤ limit + 1 →
    GoOn name limit 0 (calls ++ record { name = name; from = from; room = room; came = came } ∷ [])
read_behind name limit before from room came calls going here within =
    ends_there name limit 0 before calls _ going (record { named = refl; begins = here; within = within })

-- the file is read to its end where none came
pub whole_at_end : (name : List ℕ) (limit from room n : ℕ) (calls : List ReadCall) → n ≡ 0 → is_whole limit (calls ++ record { name = name; from = from; room = room; came = Some n } ∷ []) ≡ true
whole_at_end name limit from room n calls none = whole_there limit calls _ (grind (arith, nat_tests, none))

-- and to the byte behind the limit where that came
pub whole_past : (name : List ℕ) (limit from room n : ℕ) (calls : List ReadCall) → limit < from + n →
    is_whole limit (calls ++ record { name = name; from = from; room = room; came = Some n } ∷ []) ≡ true
whole_past name limit from room n calls past = whole_there limit calls _ (grind (arith, nat_tests, past))

-- an error leaves it so far
pub read_in_vain : {T : Type 0} (name : List ℕ) (limit : ℕ) (calls : List ReadCall) (r : Result T FileError) (e : FileError) → IsErrAnd r (λ error. error ≡ e) → e ≢ TooLong → GoOn name limit 0 calls →
    IsReadFor name limit r calls
read_in_vain name limit calls (Err Failed) e is other on = on
read_in_vain name limit calls (Err Memory) e is other on = on
read_in_vain name limit calls (Err TooLong) e is other on = absurd (other (sym is))
read_in_vain name limit calls (Ok _) e is other on = absurd is
