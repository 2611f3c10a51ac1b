-- The reads that are made of files.
use Rattle.std.proofs.Common.{◌≡◌, ℕ, List, [], ◌∷◌, ◌++◌, Option, Result, Ok, Err, Vec, Global, ◌+◌, refl, subst}
use Rattle.std.specs.Result.{IsErrAnd}
use Rattle.cmm_outside.proofs.Shared.{made_none, made_so, made_then, one_in_order, one_whole, others_behind, whole_in_order, whole_then, whole_then_in_order}
use Rattle.cmm_outside.specs.Reads.{AreReadInOrder, AreReadWhole, GoOn, IsReadFor, Made, ReadCall, WantedFile}
use Rattle.cmm_outside.specs.declared.storage.FileError.{FileError}
use Rattle.cmm_outside.specs.declared.storage.FileError.TheVariants.{Failed, TooLong, Memory}
use Rattle.cmm_work.specs.Reading.{ReadsEach}

abbrev pub Reads : Type 0
Reads = Option (List ReadCall)

-- where nothing was read, any files are read in order so far
pub none_in_order : (files : List WantedFile) → AreReadInOrder files []
none_in_order [] = refl
none_in_order (file ∷ files) = ([], [], refl, tt, (λ part. refl), none_in_order files)

pub read_none : (files : List WantedFile) (before after : Reads) → after ≡ before → Made before after (AreReadInOrder files)
read_none files before after same = made_none before after (AreReadInOrder files) same (none_in_order files)

-- ---- one file

goes_on_for : (name : List ℕ) (limit : ℕ) (r : Result (Vec ℕ Global) FileError) (calls : List ReadCall) → IsReadFor name limit r calls → GoOn name limit 0 calls
goes_on_for name limit (Ok _) calls is = is.0
goes_on_for name limit (Err TooLong) calls is = is.0
goes_on_for name limit (Err Failed) calls is = is
goes_on_for name limit (Err Memory) calls is = is

pub file_whole : (name : List ℕ) (limit : ℕ) (read : Vec ℕ Global) (before after : Reads) → Made before after (IsReadFor name limit (Ok read)) →
    Made before after (AreReadWhole (record { name = name; limit = limit } ∷ []))
file_whole name limit read before after made = made_so before after _ _ made (λ calls is. one_whole (record { name = name; limit = limit }) calls is.0 is.1)

pub file_too_long : (name : List ℕ) (limit : ℕ) (e : FileError) (before after : Reads) → e ≡ TooLong → Made before after (IsReadFor {T = Vec ℕ Global} name limit (Err e)) →
    Made before after (AreReadWhole (record { name = name; limit = limit } ∷ []))
file_too_long name limit e before after is made =
    made_so before after (IsReadFor {T = Vec ℕ Global} name limit (Err TooLong)) _ (subst (λ (z : FileError). Made before after (IsReadFor {T = Vec ℕ Global} name limit (Err z))) is made)
    (λ calls so. one_whole (record { name = name; limit = limit }) calls so.0 so.1)

pub file_in_order : (name : List ℕ) (limit : ℕ) (r : Result (Vec ℕ Global) FileError) (before after : Reads) → Made before after (IsReadFor name limit r) →
    Made before after (AreReadInOrder (record { name = name; limit = limit } ∷ []))
file_in_order name limit r before after made =
    made_so before after (IsReadFor name limit r) _ made (λ calls so. one_in_order (record { name = name; limit = limit }) calls (goes_on_for name limit r calls so))

-- an error has read files so far
pub in_order_for : {T E : Type 0} (files : List WantedFile) (before after : Reads) (r : Result T E) (P : E → Type 0) → IsErrAnd r P → Made before after (AreReadInOrder files) →
    ReadsEach files before after r
in_order_for files before after (Ok _) P is made = absurd is
in_order_for files before after (Err _) P is made = made

-- ---- files, and others behind them

pub read_whole : (files : List WantedFile) (before after : Reads) → Made before after (AreReadWhole files) → Made before after (AreReadInOrder files)
read_whole files before after made = made_so before after (AreReadWhole files) _ made (whole_in_order files)

pub read_first : (first second : List WantedFile) (before after : Reads) → Made before after (AreReadInOrder first) → Made before after (AreReadInOrder (first ++ second))
read_first first second before after made = made_so before after (AreReadInOrder first) _ made (others_behind first second)

pub read_part : (first second : List WantedFile) (before between after : Reads) → Made before between (AreReadWhole first) → Made between after (AreReadInOrder second) →
    Made before after (AreReadInOrder (first ++ second))
read_part first second before between after made more =
    made_then before between after (AreReadWhole first) (AreReadInOrder second) _ made more (λ x y. whole_then_in_order first second x y)

pub read_both : (first second : List WantedFile) (before between after : Reads) → Made before between (AreReadWhole first) → Made between after (AreReadWhole second) →
    Made before after (AreReadWhole (first ++ second))
read_both first second before between after made more =
    made_then before between after (AreReadWhole first) (AreReadWhole second) _ made more (λ x y. whole_then first second x y)

pub read_all : (first second : List WantedFile) (before between after : Reads) → Made before between (AreReadWhole first) → Made between after (AreReadWhole second) →
    Made before after (AreReadInOrder (first ++ second))
read_all first second before between after made more =
    made_so before after (AreReadWhole (first ++ second)) _ (read_both first second before between after made more) (whole_in_order (first ++ second))
