-- What the bits of words say of the set that they stand for.
use Rattle.std.proofs.Common.{◌≡◌, ◌≢◌, ℕ, ◌+◌, ◌*◌, ◌/◌, ◌%◌, ◌^◌, ◌-◌, ◌<◌, ◌≤◌, ◌==◌, inl, inr, suc, zero, max, Bool, true, false, ◌||◌, List, [], ◌∷◌, length, map, replicate, get_or, set, refl, sym, ◌∙◌, ap, arith, bit_or, bit_and, w64, not, cond, nat_lt, take, drop, Some, None}
use Rattle.std.specs.Int.{bit_at, trailing_zeros}
use Rattle.std.specs.List.{zip, position, position_or_len}
use Rattle.std.proofs.lemmas.Bool.{cases_eq, cases_lt, ltb-true, ltb-false, eqb-true, eqb-false, not-true, not-false}
use Rattle.std.proofs.lemmas.Bool.Decides.{nat_tests}
use Rattle.std.proofs.lemmas.List.{get_or-set_same, get_or-set_other, get_or-replicate, get_or_past, take_rest, get_or_read, get_or-drop, length-drop, length-set, length-replicate}
use Rattle.std.proofs.lemmas.List.Sums.{fails_before_first, passes_at_first}
use Rattle.std.proofs.lemmas.List.FromFn.{length-map-range_with_len, get_or-map-range_with_len, fill_by_all}
use Rattle.std.proofs.lemmas.Nat.Bits.{shr_and_one, bit_at_set_same, bit_at_set_other, bit_at_clear_same, bit_at_clear_other, bit_at-zero, bit_at-lt, bit_at_or, bit_at_and, bit_at_mask_inside, bit_at_mask_below, ones_shl, bit_at-trailing_zeros}
use Rattle.cmm_bitset.specs.Sets.{has, union, members_from}
use Rattle.cmm_bitset.proofs.Membership.{has-union, length-union, members_from-none, members_from-least}
use Rattle.cmm_bitset.specs.inside.Words.{bit, set_of, IsTrimmed, IsLowest}

-- the set has the size that it was given
pub length-set_of : (words : List ℕ) (size : ℕ) → length (set_of words size) ≡ size
length-set_of words size = length-map-range_with_len _ 0 size

-- a number below the size is a member where its bit is 1
pub has-set_of : (words : List ℕ) (size number : ℕ) → number < size → has (set_of words size) number ≡ (bit words number == 1)
has-set_of words size number within = get_or-map-range_with_len _ 0 size number number false within (omega arith)

-- of words that fit, so is every number
pub has-set_of_all : (words : List ℕ) (size number : ℕ) → IsTrimmed words size → has (set_of words size) number ≡ (bit words number == 1)
has-set_of_all words size number fits =
    elim (cases_lt number size) [
      | inl within ↦ has-set_of words size number within
      | inr past ↦ rw (get_or_past (set_of words size) number false (rw (length-set_of words size) past), fits.unused number past) refl
    ]

-- the word of a number below the size is there
pub word_within : (words : List ℕ) (size number : ℕ) → IsTrimmed words size → number < size → number / 64 < length words
word_within words size number fits within = omega (arith, fits.enough)

-- a bit of a word that was replaced
pub bit-set_same : (words : List ℕ) (number word : ℕ) → number / 64 < length words → bit (set words (number / 64) word) number ≡ bit_at word (number % 64)
bit-set_same words number word within = rw (get_or-set_same words (number / 64) word 0 within) refl

-- where a word is replaced by one that differs in one bit, the others stay
pub bit-set_other : (words : List ℕ) (number word other : ℕ) → number / 64 < length words → other ≢ number
    → ((i : ℕ) → i < 64 → i ≢ number % 64 → bit_at word i ≡ bit_at (get_or words (number / 64) 0) i)
    → bit (set words (number / 64) word) other ≡ bit words other
bit-set_other words number word other within differ same =
    elim (cases_eq (other / 64) (number / 64)) [
      | inl here ↦
          let place : other % 64 ≢ number % 64 = λ e. differ (omega arith) in
          rw (here, get_or-set_same words (number / 64) word 0 within) (same (other % 64) (omega arith) place)
      | inr elsewhere ↦ rw (get_or-set_other words (number / 64) (other / 64) word 0 elsewhere) refl
    ]

-- the replacement sets or clears one number of the set
pub set_of-set : (words : List ℕ) (size number word : ℕ) (value : Bool) → IsTrimmed words size → number < size
    → (bit_at word (number % 64) == 1) ≡ value
    → ((i : ℕ) → i < 64 → i ≢ number % 64 → bit_at word i ≡ bit_at (get_or words (number / 64) 0) i)
    → set_of (set words (number / 64) word) size ≡ set (set_of words size) number value
set_of-set words size number word value fits within written same =
    let there = word_within words size number fits within in
    sym (fill_by_all (λ i. bit (set words (number / 64) word) i == 1) (set (set_of words size) number value) size false
    (length-set _ _ _ ∙ length-set_of words size)
    (λ i low. elim (cases_eq i number) [
      | inl e ↦ rw (e, get_or-set_same (set_of words size) number value false (rw (length-set_of words size) within), bit-set_same words number word there) (sym written)
      | inr differ ↦ rw (get_or-set_other (set_of words size) number i value false differ, bit-set_other words number word i there differ same) (has-set_of words size i low)
    ]))

-- and the words fit as before
pub IsTrimmed-set : (words : List ℕ) (size number word : ℕ) → IsTrimmed words size → number < size
    → ((i : ℕ) → i < 64 → i ≢ number % 64 → bit_at word i ≡ bit_at (get_or words (number / 64) 0) i)
    → IsTrimmed (set words (number / 64) word) size
IsTrimmed-set words size number word fits within same = record {
  enough = length-set _ _ _ ∙ fits.enough;
  unused = λ other past. bit-set_other words number word other (word_within words size number fits within) (λ e. absurd (omega arith)) same ∙ fits.unused other past;
}

-- words of zeros have no bit that is 1
zero-replicate : (count i : ℕ) → get_or (replicate {A = ℕ} count 0) i 0 ≡ 0
zero-replicate zero i = refl
zero-replicate (suc count) zero = refl
zero-replicate (suc count) (suc i) = zero-replicate count i

pub bit-replicate : (count number : ℕ) → bit (replicate count 0) number ≡ 0
bit-replicate count number = rw (zero-replicate count (number / 64)) (bit_at-zero (number % 64))

-- and stand for the empty set
pub set_of-replicate : (count size : ℕ) → set_of (replicate count 0) size ≡ replicate size false
set_of-replicate count size =
    sym (fill_by_all (λ i. bit (replicate count 0) i == 1) (replicate size false) size false (length-replicate size false)
    (λ i low. get_or-replicate size i false false low ∙ sym (rw (bit-replicate count i) refl)))

pub IsTrimmed-replicate : (count size : ℕ) → count ≡ (size + 63) / 64 → IsTrimmed (replicate count 0) size
IsTrimmed-replicate count size enough = record {
  enough = length-replicate count 0 ∙ enough;
  unused = λ number _. bit-replicate count number;
}

-- two rows of words, joined bit by bit
abbrev pub joined : List ℕ → List ℕ → List ℕ
joined words others = map (λ pair. bit_or pair.0 pair.1) (zip words others)

pub length-joined : (words others : List ℕ) → length words ≡ length others → length (joined words others) ≡ length words
length-joined [] [] e = refl
length-joined [] (other ∷ others) e = refl
length-joined (word ∷ words) [] e = absurd (omega arith)
length-joined (word ∷ words) (other ∷ others) e = ap suc (length-joined words others (omega arith))

pub word-joined : (words others : List ℕ) (i : ℕ) → length words ≡ length others → get_or (joined words others) i 0 ≡ bit_or (get_or words i 0) (get_or others i 0)
word-joined [] [] i e = refl
word-joined [] (other ∷ others) i e = absurd (omega arith)
word-joined (word ∷ words) [] i e = absurd (omega arith)
word-joined (word ∷ words) (other ∷ others) zero e = refl
word-joined (word ∷ words) (other ∷ others) (suc i) e = word-joined words others i (omega arith)

pub bit-joined : (words others : List ℕ) (number : ℕ) → length words ≡ length others → bit (joined words others) number ≡ max (bit words number) (bit others number)
bit-joined words others number e = rw (word-joined words others (number / 64) e) (bit_at_or _ _ (number % 64))

pub IsTrimmed-joined : (words others : List ℕ) (size : ℕ) → IsTrimmed words size → IsTrimmed others size → IsTrimmed (joined words others) size
IsTrimmed-joined words others size fits fits' =
    let e : length words ≡ length others = fits.enough ∙ sym fits'.enough in
    record {
      enough = length-joined words others e ∙ fits.enough;
      unused = λ number past. rw (bit-joined words others number e, fits.unused number past, fits'.unused number past) refl;
    }

either_is_one : (a b : ℕ) → a < 2 → b < 2 → (max a b == 1) ≡ ((a == 1) || (b == 1))
either_is_one a b h h' = grind (arith, nat_tests)

-- joined words stand for the union
pub set_of-joined : (words others : List ℕ) (size : ℕ) → IsTrimmed words size → IsTrimmed others size
    → set_of (joined words others) size ≡ union (set_of words size) (set_of others size)
set_of-joined words others size fits fits' =
    let e : length words ≡ length others = fits.enough ∙ sym fits'.enough in
    let same_size : length (set_of words size) ≡ length (set_of others size) = length-set_of words size ∙ sym (length-set_of others size) in
    sym (fill_by_all (λ i. bit (joined words others) i == 1) (union (set_of words size) (set_of others size)) size false
    (length-union _ _ same_size ∙ length-set_of words size)
    (λ i low. has-union _ _ i same_size ∙ rw (has-set_of words size i low, has-set_of others size i low, bit-joined words others i e)
    (sym (either_is_one (bit words i) (bit others i) (bit_at-lt _ _) (bit_at-lt _ _)))))

same_bits : (a b : ℕ) → a < 2 → b < 2 → (a == 1) ≡ (b == 1) → a ≡ b
same_bits a b h h' e = grind (arith, nat_tests)

-- words that stand for one set have the same bits
pub same_bit : (words others : List ℕ) (size number : ℕ) → IsTrimmed words size → IsTrimmed others size
    → set_of words size ≡ set_of others size → bit words number ≡ bit others number
same_bit words others size number trimmed trimmed' same =
    same_bits (bit words number) (bit others number) (bit_at-lt _ _) (bit_at-lt _ _)
    (sym (has-set_of_all words size number trimmed) ∙ ap (λ s. has s number) same ∙ has-set_of_all others size number trimmed')

-- a number below a set's size is below that of its words
pub below_size : (words : List ℕ) (size number : ℕ) (s : List Bool) → set_of words size ≡ s → number < length s → number < size
below_size words size number s view within = omega (arith, sym (length-set_of words size) ∙ ap length view)

-- what a read of a bit answers
pub read_bit : (words : List ℕ) (size number word : ℕ) (s : List Bool) → IsTrimmed words size → set_of words size ≡ s → number < length s
    → word ≡ get_or words (number / 64) word → (bit_and (word / 2 ^ (number % 64)) 1 == 1) ≡ has s number
read_bit words size number word s trimmed view within read =
    let low = below_size words size number s view within in
    let word_is : word ≡ get_or words (number / 64) 0 = get_or_read words (number / 64) word (word_within words size number trimmed low) read 0 in
    rw (shr_and_one word (number % 64), word_is) (sym (has-set_of words size number low) ∙ ap (λ r. has r number) view)

-- a write of a bit, where the word is the present one but for that bit
pub written : (words : List ℕ) (size number word new : ℕ) (s : List Bool) (value : Bool) → IsTrimmed words size → set_of words size ≡ s → number < length s
    → word ≡ get_or words (number / 64) word
    → (bit_at new (number % 64) == 1) ≡ value
    → ((i : ℕ) → i < 64 → i ≢ number % 64 → bit_at new i ≡ bit_at word i)
    → (set_of (set words (number / 64) new) size ≡ set s number value) × IsTrimmed (set words (number / 64) new) size
written words size number word new s value trimmed view within read bit_is same =
    let low = below_size words size number s view within in
    let word_is : word ≡ get_or words (number / 64) 0 = get_or_read words (number / 64) word (word_within words size number trimmed low) read 0 in
    let same' : (i : ℕ) → i < 64 → i ≢ number % 64 → bit_at new i ≡ bit_at (get_or words (number / 64) 0) i =
    λ i h differ. same i h differ ∙ ap (λ w. bit_at w i) word_is in (
      set_of-set words size number new value trimmed low bit_is same' ∙ ap (λ r. set r number value) view,
      IsTrimmed-set words size number new trimmed low same',
    )

pub inserted : (words : List ℕ) (size number word : ℕ) (s : List Bool) → IsTrimmed words size → set_of words size ≡ s → number < length s
    → word ≡ get_or words (number / 64) word
    → let new = bit_or word (1 * 2 ^ (number % 64) % 2 ^ 64) in
    (set_of (set words (number / 64) new) size ≡ set s number true) × IsTrimmed (set words (number / 64) new) size
inserted words size number word s trimmed view within read =
    written words size number word _ s true trimmed view within read
    (rw (bit_at_set_same w64 word (number % 64) (omega arith)) refl)
    (λ i _ differ. bit_at_set_other w64 word (number % 64) (omega arith) i differ)

pub removed : (words : List ℕ) (size number word : ℕ) (s : List Bool) → IsTrimmed words size → set_of words size ≡ s → number < length s
    → word ≡ get_or words (number / 64) word
    → let new = bit_and word (2 ^ 64 - 1 - 1 * 2 ^ (number % 64) % 2 ^ 64) in
    (set_of (set words (number / 64) new) size ≡ set s number false) × IsTrimmed (set words (number / 64) new) size
removed words size number word s trimmed view within read =
    written words size number word _ s false trimmed view within read
    (rw (bit_at_clear_same w64 word (number % 64) (omega arith)) refl)
    (λ i low differ. bit_at_clear_other w64 word (number % 64) (omega arith) i low differ)

-- a word that is 0 has no bit that is 1
pub bit-zero : (words : List ℕ) (number : ℕ) → get_or words (number / 64) 0 ≡ 0 → bit words number ≡ 0
bit-zero words number e = rw e (bit_at-zero (number % 64))

-- past the words no bit is 1
pub bit-past : (words : List ℕ) (number : ℕ) → length words ≤ number / 64 → bit words number ≡ 0
bit-past words number past = bit-zero words number (get_or_past words (number / 64) 0 past)

-- the bits of a word below a place, masked away
masked-below : (word place i : ℕ) → place ≤ 64 → i < place → bit_at (bit_and word ((2 ^ 64 - 1) * 2 ^ place % 2 ^ 64)) i ≡ 0
masked-below word place i within low =
    rw (ones_shl 64 place within, bit_at_and word (2 ^ 64 - 2 ^ place) i, bit_at_mask_below place 64 i low) (omega arith)

-- and those that are kept
masked-kept : (word place i : ℕ) → place ≤ i → i < 64 → bit_at (bit_and word ((2 ^ 64 - 1) * 2 ^ place % 2 ^ 64)) i ≡ bit_at word i
masked-kept word place i behind within =
    rw (ones_shl 64 place (omega arith), bit_at_and word (2 ^ 64 - 2 ^ place) i, bit_at_mask_inside place 64 i behind within)
    (let small = bit_at-lt word i in omega arith)

-- where the masked word is 0, none of its bits from there on is 1
pub none_in_masked : (words : List ℕ) (from : ℕ) → bit_and (get_or words (from / 64) 0) ((2 ^ 64 - 1) * 2 ^ (from % 64) % 2 ^ 64) ≡ 0
    → (number : ℕ) → from ≤ number → number / 64 ≡ from / 64 → bit words number ≡ 0
none_in_masked words from none number behind here =
    let kept = masked-kept (get_or words (from / 64) 0) (from % 64) (number % 64) (omega arith) (omega arith) in
    rw here (sym kept ∙ rw none (bit_at-zero (number % 64)))

-- a place of a word is that of a number
pub number_at : (at place : ℕ) → place < 64 → ((at * 64 + place) / 64 ≡ at) × ((at * 64 + place) % 64 ≡ place)
number_at at place low = (omega arith, omega arith)

-- where it is not, its lowest 1 is the lowest bit from there on
lowest_of_masked : (words : List ℕ) (from place : ℕ)
    → let masked = bit_and (get_or words (from / 64) 0) ((2 ^ 64 - 1) * 2 ^ (from % 64) % 2 ^ 64) in
    place < 64 → bit_at masked place ≡ 1 → ((i : ℕ) → i < place → bit_at masked i ≡ 0) → IsLowest words from (from / 64 * 64 + place)
lowest_of_masked words from place low set before =
    let word = get_or words (from / 64) 0 in
    let at = number_at (from / 64) place low in
    let above : from % 64 ≤ place =
    elim (cases_lt place (from % 64)) [
      | inl below ↦ absurd (let zero_there = masked-below word (from % 64) place (omega arith) below in omega arith)
      | inr above ↦ above
    ] in
    record {
      behind = omega arith;
      set = rw (at.0, at.1) (sym (masked-kept word (from % 64) place above low) ∙ set);
      others = λ number behind ahead.
          let here : number / 64 ≡ from / 64 = omega arith in
          let low' : number % 64 < place = omega arith in
          rw here (sym (masked-kept word (from % 64) (number % 64) (omega arith) (omega arith)) ∙ before (number % 64) low');
    }

pub lowest_in_masked : (words : List ℕ) (from masked : ℕ) → masked ≡ bit_and (get_or words (from / 64) 0) ((2 ^ 64 - 1) * 2 ^ (from % 64) % 2 ^ 64)
    → 0 < masked → masked < 2 ^ 64 → IsLowest words from (from / 64 * 64 + trailing_zeros w64 masked)
lowest_in_masked words from masked is some low =
    let found = bit_at-trailing_zeros w64 masked some low in
    lowest_of_masked words from (trailing_zeros w64 masked) found.0
    (ap (λ m. bit_at m (trailing_zeros w64 masked)) (sym is) ∙ found.1)
    (λ i h. ap (λ m. bit_at m i) (sym is) ∙ found.2 i h)

-- the lowest 1 of a word is the lowest from a number on, where there is none between
lowest_of_word : (words : List ℕ) (from at place : ℕ) → from ≤ at * 64 → place < 64
    → bit_at (get_or words at 0) place ≡ 1 → ((i : ℕ) → i < place → bit_at (get_or words at 0) i ≡ 0)
    → ((number : ℕ) → from ≤ number → number < at * 64 → bit words number ≡ 0)
    → IsLowest words from (at * 64 + place)
lowest_of_word words from at place behind low set before none =
    let there = number_at at place low in
    record {
      behind = omega arith;
      set = rw (there.0, there.1) set;
      others = λ number behind' ahead.
          elim (cases_lt number (at * 64)) [
            | inl earlier ↦ none number behind' earlier
            | inr here ↦
                let word_is : number / 64 ≡ at = omega arith in
                let low' : number % 64 < place = omega arith in
                rw word_is (before (number % 64) low')
          ];
    }

pub lowest_in_word : (words : List ℕ) (from at word : ℕ) → word ≡ get_or words at 0 → from ≤ at * 64 → 0 < word → word < 2 ^ 64
    → ((number : ℕ) → from ≤ number → number < at * 64 → bit words number ≡ 0)
    → IsLowest words from (at * 64 + trailing_zeros w64 word)
lowest_in_word words from at word is behind some low none =
    let found = bit_at-trailing_zeros w64 word some low in
    lowest_of_word words from at (trailing_zeros w64 word) behind found.0
    (ap (λ m. bit_at m (trailing_zeros w64 word)) (sym is) ∙ found.1)
    (λ i h. ap (λ m. bit_at m i) (sym is) ∙ found.2 i h) none

is_none : (found : Bool) (place : ℕ) → cond found (Some place) None ≡ None → found ≡ false
is_none true place e = cc
is_none false place e = refl

is_some : (found : Bool) (place index : ℕ) → cond found (Some place) None ≡ Some index → (found ≡ true) × (place ≡ index)
is_some true place index e = (refl, cc)
is_some false place index e = cc

-- the words from one on are 0 where none is found that is not
pub no_word : (words : List ℕ) (next : ℕ) → position (λ word. not (word == 0)) (drop next words) ≡ None
    → (at : ℕ) → next ≤ at → get_or words at 0 ≡ 0
no_word words next none at behind =
    let p : ℕ → Bool = λ word. not (word == 0) in
    let rest = drop next words in
    let all : length rest ≤ position_or_len p rest = ltb-false _ _ (is_none (nat_lt (position_or_len p rest) (length rest)) (position_or_len p rest) none) in
    let there : next + (at - next) ≡ at = omega arith in
    let read : get_or rest (at - next) 0 ≡ get_or words at 0 = get_or-drop next words (at - next) 0 ∙ ap (λ i. get_or words i 0) there in
    elim (cases_lt (at - next) (length rest)) [
      | inl within ↦ sym read ∙ eqb-true _ 0 (not-false _ (fails_before_first p rest (at - next) 0 (omega arith)))
      | inr past ↦ sym read ∙ get_or_past rest (at - next) 0 past
    ]

-- the word at an index is the first from another on that is not 0
pub record IsFirstWord (words : List ℕ) (next at : ℕ) : Type 0 where
  pub behind : next ≤ at
  pub within : at < length words
  pub some : 0 < get_or words at 0
  pub none : (i : ℕ) → next ≤ i → i < at → get_or words i 0 ≡ 0

-- and so it is where it was found
pub first_word : (words : List ℕ) (next skipped : ℕ) → next ≤ length words → position (λ word. not (word == 0)) (drop next words) ≡ Some skipped
    → IsFirstWord words next (next + skipped)
first_word words next skipped inside found =
    let p : ℕ → Bool = λ word. not (word == 0) in
    let rest = drop next words in
    let here = is_some (nat_lt (position_or_len p rest) (length rest)) (position_or_len p rest) skipped found in
    let within : position_or_len p rest < length rest = ltb-true _ _ here.0 in
    let passes : not (get_or rest (position_or_len p rest) 0 == 0) ≡ true = passes_at_first p rest 0 within in
    let read : get_or rest (position_or_len p rest) 0 ≡ get_or words (next + skipped) 0 =
    get_or-drop next words (position_or_len p rest) 0 ∙ ap (λ i. get_or words (next + i) 0) here.1 in
    let length_is = length-drop next words in
    record {
      behind = omega arith;
      within = omega arith;
      some = let differs = eqb-false _ 0 (not-true _ passes) in omega arith;
      none = λ i low high.
          let there : next + (i - next) ≡ i = omega arith in
          ap (λ k. get_or words k 0) (sym there) ∙ sym (get_or-drop next words (i - next) 0)
          ∙ eqb-true _ 0 (not-false _ (fails_before_first p rest (i - next) 0 (omega arith)));
    }

-- no member is left where no bit is 1
pub none_found : (words : List ℕ) (size from : ℕ) (s : List Bool) → IsTrimmed words size → set_of words size ≡ s
    → ((number : ℕ) → from ≤ number → bit words number ≡ 0) → members_from s from ≡ []
none_found words size from s trimmed view none =
    members_from-none s from (λ number behind.
    ap (λ r. has r number) (sym view) ∙ has-set_of_all words size number trimmed ∙ rw (none number behind) refl)

-- nor from the size on
pub none_past : (words : List ℕ) (size from : ℕ) (s : List Bool) → IsTrimmed words size → set_of words size ≡ s → size ≤ from → members_from s from ≡ []
none_past words size from s trimmed view past = none_found words size from s trimmed view (λ number behind. trimmed.unused number (omega arith))

-- the lowest bit is the least member
pub least_found : (words : List ℕ) (size from least : ℕ) (s : List Bool) → IsTrimmed words size → set_of words size ≡ s → IsLowest words from least
    → (least < size) × (members_from s from ≡ least ∷ members_from s (least + 1))
least_found words size from least s trimmed view lowest =
    let within : least < size = elim (cases_lt least size) [
      | inl within ↦ within
      | inr past ↦ absurd (let zero_there = trimmed.unused least past in let one_there = lowest.set in omega arith)
    ] in
    let has_is : (n : ℕ) → has s n ≡ (bit words n == 1) = λ n. ap (λ r. has r n) (sym view) ∙ has-set_of_all words size n trimmed in (
      within,
      members_from-least s from least lowest.behind (omega (arith, sym (length-set_of words size) ∙ ap length view))
          (has_is least ∙ rw lowest.set refl)
          (λ n behind ahead. has_is n ∙ rw (lowest.others n behind ahead) refl),
    )

-- words of zeros stand for the empty set
pub set_of-zeros : (words : List ℕ) (count size : ℕ) → words ≡ replicate count 0 → set_of words size ≡ replicate size false
set_of-zeros words count size zeros = ap (λ w. set_of w size) zeros ∙ set_of-replicate count size

-- from a number on no bit is 1 where none is in its word and all later words are 0
pub none_after : (words : List ℕ) (from : ℕ) → from / 64 < length words
    → bit_and (get_or words (from / 64) 0) ((2 ^ 64 - 1) * 2 ^ (from % 64) % 2 ^ 64) ≡ 0
    → position (λ word. not (word == 0)) (take (length words - (from / 64 + 1)) (drop (from / 64 + 1) words)) ≡ None
    → (number : ℕ) → from ≤ number → bit words number ≡ 0
none_after words from within masked none number behind =
    let none' : position (λ word. not (word == 0)) (drop (from / 64 + 1) words) ≡ None = rw (take_rest words (from / 64 + 1)) at none in
    elim (cases_lt (number / 64) (from / 64 + 1)) [
      | inl here ↦ none_in_masked words from masked number behind (omega arith)
      | inr later ↦ bit-zero words number (no_word words (from / 64 + 1) none' (number / 64) later)
    ]

-- and else the lowest is that of the first word that is not 0
pub lowest_after : (words : List ℕ) (from skipped : ℕ) → from / 64 < length words
    → bit_and (get_or words (from / 64) 0) ((2 ^ 64 - 1) * 2 ^ (from % 64) % 2 ^ 64) ≡ 0
    → position (λ word. not (word == 0)) (take (length words - (from / 64 + 1)) (drop (from / 64 + 1) words)) ≡ Some skipped
    → let at = from / 64 + 1 + skipped in
    get_or words at 0 < 2 ^ 64 → IsLowest words from (at * 64 + trailing_zeros w64 (get_or words at 0))
lowest_after words from skipped within masked found low =
    let found' : position (λ word. not (word == 0)) (drop (from / 64 + 1) words) ≡ Some skipped = rw (take_rest words (from / 64 + 1)) at found in
    let first = first_word words (from / 64 + 1) skipped (omega arith) found' in
    let at = from / 64 + 1 + skipped in
    lowest_in_word words from at (get_or words at 0) refl (omega arith) first.some low (λ number behind ahead.
    elim (cases_lt (number / 64) (from / 64 + 1)) [
      | inl here ↦ none_in_masked words from masked number behind (omega arith)
      | inr later ↦ bit-zero words number (first.none (number / 64) later (omega arith))
    ])

-- sets of one size have the same size of words
pub one_size : (words others : List ℕ) (size size' : ℕ) (s t : List Bool) → set_of words size ≡ s → set_of others size' ≡ t → length s ≡ length t → size' ≡ size
one_size words others size size' s t view view' same =
    omega (arith, sym (length-set_of words size) ∙ ap length view, sym (length-set_of others size') ∙ ap length view')
