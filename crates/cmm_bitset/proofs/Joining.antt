-- The steps of a loop that joins words.
use Rattle.std.proofs.Common.{◌≡◌, ◌≢◌, ℕ, zero, suc, ◌+◌, ◌*◌, ◌^◌, ◌<◌, ◌⊎◌, inl, inr, ◌≤◌, Bool, true, false, ◌||◌, not, ◌==◌, List, length, get_or, set, refl, sym, ◌∙◌, ap, subst, arith, bit_or}
use Rattle.std.specs.Bool.{MatchBool, OnTrue, OnFalse}
use Rattle.std.specs.Int.{bit_at}
use Rattle.std.proofs.lemmas.Bool.{cases_eq, cases_lt, eqb-true, eqb-false}
use Rattle.std.proofs.lemmas.List.{get_or-set_same, get_or-set_other, ext_get_or, get_or_past, get_or_read, length-set, set-get_or}
use Rattle.std.proofs.lemmas.Nat.{le_or_l}
use Rattle.std.proofs.lemmas.Nat.Bits.{same_from_bits_below}
use Rattle.cmm_bitset.proofs.WordBits.{joined, length-joined, word-joined, IsTrimmed-joined, set_of-joined, one_size, same_bit, number_at}
use Rattle.cmm_bitset.proofs.Membership.{union_grows}
use Rattle.cmm_bitset.specs.Sets.{union, member_count}
use Rattle.cmm_bitset.specs.inside.Words.{bit, set_of, IsTrimmed}

-- the words before a place are joined, those from it on are as they were, and some word differs where the set grew
pub record Joining (old words others : List ℕ) (i : ℕ) (grew : Bool) : Type 0 where
  pub long : length words ≡ length old
  pub before : (k : ℕ) → k < i → get_or words k 0 ≡ bit_or (get_or old k 0) (get_or others k 0)
  pub from : (k : ℕ) → i ≤ k → get_or words k 0 ≡ get_or old k 0
  pub grown : MatchBool grew ((k : ℕ) × (get_or words k 0 ≢ get_or old k 0)) (words ≡ old)

pub joins_none : (words others : List ℕ) → Joining words words others 0 false
joins_none words others = record {
  long = refl;
  before = λ k h. absurd (omega arith);
  from = λ k _. refl;
  grown = refl;
}

-- whether some word differs, after one more was written
grown_more : (old words : List ℕ) (i new : ℕ) (grew : Bool) → i < length words → ((k : ℕ) → i ≤ k → get_or words k 0 ≡ get_or old k 0)
    → MatchBool grew ((k : ℕ) × (get_or words k 0 ≢ get_or old k 0)) (words ≡ old)
    → (same : Bool) → (same ≡ true → new ≡ get_or words i 0) → (same ≡ false → new ≢ get_or words i 0)
    → MatchBool (grew || not same) ((k : ℕ) × (get_or (set words i new) k 0 ≢ get_or old k 0)) (set words i new ≡ old)
grown_more old words i new true within from some same yes' no' = (
  some.0,
  λ e. elim (cases_eq some.0 i) [
    | inl here ↦ some.1 (from some.0 (omega arith))
    | inr other ↦ some.1 (sym (get_or-set_other words i some.0 new 0 other) ∙ e)
  ],
)
grown_more old words i new false within from unchanged true yes' no' = ap (set words i) (yes' refl) ∙ set-get_or words i 0 ∙ unchanged
grown_more old words i new false within from unchanged false yes' no' =
    (i, λ e. no' refl (sym (get_or-set_same words i new 0 within) ∙ e ∙ sym (from i (omega arith))))

-- one more word
joins_more : (old words others : List ℕ) (i new : ℕ) (grew : Bool) → i < length words → new ≡ bit_or (get_or words i 0) (get_or others i 0)
    → Joining old words others i grew → Joining old (set words i new) others (i + 1) (grew || not (new == get_or words i 0))
joins_more old words others i new grew within new_is so_far = record {
  long = length-set words i new ∙ so_far.long;
  before = λ k h. elim (cases_eq k i) [
    | inl here ↦ rw (here, get_or-set_same words i new 0 within) (new_is ∙ ap (λ w. bit_or w (get_or others i 0)) (so_far.from i (omega arith)))
    | inr other ↦ get_or-set_other words i k new 0 other ∙ so_far.before k (omega arith)
  ];
  from = λ k h. get_or-set_other words i k new 0 (λ e. absurd (omega arith)) ∙ so_far.from k (omega arith);
  grown = grown_more old words i new grew within so_far.from so_far.grown (new == get_or words i 0)
      (eqb-true new (get_or words i 0)) (eqb-false new (get_or words i 0));
}

-- one turn of the loop, which reads a word twice
pub joins_read : (old words others : List ℕ) (i read again : ℕ) (grew : Bool) → i < length words
    → read ≡ get_or words i read → again ≡ get_or words i again → Joining old words others i grew
    → let new = bit_or read (get_or others i 0) in Joining old (set words i new) others (i + 1) (grew || not (new == again))
joins_read old words others i read again grew within read_is again_is so_far =
    let first : read ≡ get_or words i 0 = get_or_read words i read within read_is 0 in
    let second : again ≡ get_or words i 0 = get_or_read words i again within again_is 0 in
    let new = bit_or read (get_or others i 0) in
    let P : ℕ → Type 0 = λ w. Joining old (set words i new) others (i + 1) (grew || not (new == w)) in
    subst P (sym second) (joins_more old words others i new grew within (ap (λ w. bit_or w (get_or others i 0)) first) so_far)

-- all words
pub joins_all : (old words others : List ℕ) (i : ℕ) (grew : Bool) → length old ≡ length others → length words ≤ i
    → Joining old words others i grew → words ≡ joined old others
joins_all old words others i grew same past so_far =
    ext_get_or 0 words (joined old others) (so_far.long ∙ sym (length-joined old others same))
    (λ k h. so_far.before k (omega arith) ∙ sym (word-joined old others k same))

-- two numbers have the same bits below a place, or there is a bit in which they differ
bit_search : (a b place : ℕ) → ((i : ℕ) → i < place → bit_at a i ≡ bit_at b i) ⊎ ((k : ℕ) × (k < place) × (bit_at a k ≢ bit_at b k))
bit_search a b zero = inl (λ i h. absurd (omega arith))
bit_search a b (suc place) =
    elim (bit_search a b place) [
      | inl same ↦ elim (cases_eq (bit_at a place) (bit_at b place)) [
        | inl here ↦ inl (λ i h. elim (cases_eq i place) [
          | inl last ↦ rw last here
          | inr earlier ↦ same i (omega arith)
        ])
        | inr differ ↦ inr (place, omega arith, differ)
      ]
      | inr found ↦ inr (found.0, omega arith, found.2)
    ]

-- words that differ do so in a bit
differ_at : (old words others : List ℕ) (i : ℕ) (grew : Bool) → Joining old words others i grew
    → ((k d : ℕ) → k < length words → get_or words k d < 2 ^ 64)
    → (k : ℕ) → get_or words k 0 ≢ get_or old k 0 → (number : ℕ) × (bit words number ≢ bit old number)
differ_at old words others i grew so_far low k differs =
    let within : k < length words = elim (cases_lt k (length words)) [
      | inl within ↦ within
      | inr past ↦ absurd (differs (get_or_past words k 0 past ∙ sym (get_or_past old k 0 (omega (arith, so_far.long)))))
    ] in
    let low_old : get_or old k 0 ≤ get_or words k 0 = elim (cases_lt k i) [
      | inl done ↦ rw (so_far.before k done) (le_or_l (get_or old k 0) (get_or others k 0))
      | inr later ↦ omega (arith, so_far.from k later)
    ] in
    let low_new = low k 0 within in
    elim (bit_search (get_or words k 0) (get_or old k 0) 64) [
      | inl same ↦ absurd (differs (same_from_bits_below 64 (get_or words k 0) (get_or old k 0) low_new (omega arith) same))
      | inr found ↦
          let there = number_at k found.0 found.1 in
          (k * 64 + found.0, rw (there.0, there.1) found.2)
    ]

-- where the set grew, a bit differs
pub differ : (old words others : List ℕ) (i : ℕ) (grew : Bool) → Joining old words others i grew
    → ((k d : ℕ) → k < length words → get_or words k d < 2 ^ 64)
    → OnTrue grew ((number : ℕ) × (bit words number ≢ bit old number))
differ old words others i true so_far low = differ_at old words others i true so_far low so_far.grown.0 so_far.grown.1
differ old words others i false so_far low = tt

-- and else they are the same
pub stay : (old words : List ℕ) (grew : Bool) → MatchBool grew ((k : ℕ) × (get_or words k 0 ≢ get_or old k 0)) (words ≡ old) → OnFalse grew (words ≡ old)
stay old words true some = tt
stay old words false unchanged = unchanged

-- two sets of one size, as words, and the words of the first after it took in the second
pub record Joined (words others new : List ℕ) (size size' : ℕ) (s t : List Bool) : Type 0 where
  pub new_is : new ≡ joined words others
  pub trimmed : IsTrimmed words size
  pub trimmed' : IsTrimmed others size'
  pub view : set_of words size ≡ s
  pub view' : set_of others size' ≡ t
  pub same : length s ≡ length t

other_trimmed : {words others new : List ℕ} {size size' : ℕ} {s t : List Bool} → Joined words others new size size' s t → IsTrimmed others size
other_trimmed j = subst (IsTrimmed _) (one_size _ _ _ _ _ _ j.view j.view' j.same) j.trimmed'

other_view : {words others new : List ℕ} {size size' : ℕ} {s t : List Bool} → Joined words others new size size' s t → set_of others size ≡ t
other_view j = ap (set_of _) (sym (one_size _ _ _ _ _ _ j.view j.view' j.same)) ∙ j.view'

pub join_trims : {words others new : List ℕ} {size size' : ℕ} {s t : List Bool} → Joined words others new size size' s t → IsTrimmed new size
join_trims {size = size} j = subst (λ w. IsTrimmed w size) (sym j.new_is) (IsTrimmed-joined _ _ _ j.trimmed (other_trimmed j))

pub join_unites : {words others new : List ℕ} {size size' : ℕ} {s t : List Bool} → Joined words others new size size' s t → set_of new size ≡ union s t
join_unites {others = others} {size = size} {s = s} j =
    ap (λ w. set_of w size) j.new_is ∙ set_of-joined _ _ _ j.trimmed (other_trimmed j)
    ∙ ap (λ r. union r (set_of others size)) j.view ∙ ap (union s) (other_view j)

pub join_grows : {words others new : List ℕ} {size size' : ℕ} {s t : List Bool} → Joined words others new size size' s t
    → (number : ℕ) × (bit new number ≢ bit words number) → member_count s < member_count (set_of new size)
join_grows {words = words} {new = new} {size = size} {s = s} {t = t} j some =
    let same_size : length s ≡ length t = j.same in
    let unchanged : union s t ≡ s → ⊥ = λ e. some.1 (same_bit new words size some.0 (join_trims j) j.trimmed (join_unites j ∙ e ∙ sym j.view)) in
    elim (union_grows s t same_size) [
      | inl same ↦ absurd (unchanged same)
      | inr more ↦ subst (λ r. member_count s < member_count r) (sym (join_unites j)) more
    ]

-- what follows from a fact holds where that does
pub on_true : (b : Bool) {P Q : Type 0} → (P → Q) → OnTrue b P → OnTrue b Q
on_true true f h = f h
on_true false f h = tt
