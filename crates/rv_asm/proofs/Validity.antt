-- The instructions of parts are valid.
use Rattle.std.proofs.Common.{◌≡◌, ℕ, ◌+◌, ◌*◌, ◌%◌, ◌<◌, ◌≤◌, ◌^◌, ◌⊎◌, inl, inr, refl, arith, List, [], ◌∷◌, length, pos, negsuc}
use Rattle.std.specs.Prelude.{Bool, true, false, IsTrue, slice_index, ◌-◌}
use Rattle.std.specs.List.{All}
use Rattle.std.proofs.lemmas.Int.{ints}
use Rattle.std.proofs.lemmas.Bool.Decides.{nat_tests}
use Rattle.std.proofs.lemmas.List.Elements.{All-nil, All-cons, All-append, All-get_or, All-head, All-tail}
use Rattle.cmm_words.specs.declared.operators.Cmp.{Cmp}
use Rattle.cmm_words.specs.declared.operators.Cmp.TheVariants.{Eq, Ne, Lt, Le, Gt, Ge, Ltu, Leu, Gtu, Geu}
use Rattle.rv_table.specs.declared.instruction.Instr.{Instr}
use Rattle.rv_table.specs.declared.instruction.Instr.TheVariants.{Auipc, Jal, Jalr, Addi}
use Rattle.rv_table.specs.Encoding.{IsBetween, IsEven}
use Rattle.rv_table.specs.Table.{IsValid}
use Rattle.rv_asm.specs.Assembly.{Fits, is_inner, meaning}
use Rattle.rv_asm.specs.Filling.{distance}
use Rattle.rv_asm.specs.Reach.{is_near, is_short, near_by, short_by, size_at, end_at}
use Rattle.rv_asm.specs.ShortForms.{branch_on}
use Rattle.rv_asm.specs.inside.Forms.{all_instructions, begins, by_sign, entries, far, far_form, far_jumps, form_as, high, instructions, low, number_by, number_of, past_unless, short_form}
use Rattle.rv_asm.specs.inside.Sound.{IsCodeAddress}
use Rattle.rv_asm.proofs.Sizes.{end_least, size_aligned}
use Rattle.rv_asm.specs.declared.part.Label.{Label}
use Rattle.rv_asm.specs.declared.part.Meaning.{Meaning}
use Rattle.rv_asm.specs.declared.part.Meaning.TheVariants.{Inner, Outer}
use Rattle.rv_asm.specs.declared.part.Part.{Part}
use Rattle.rv_asm.specs.declared.part.Part.TheVariants.{Single, Place, Branch, Jump, Call, Address, Table}

high_between : (n : ℕ) → IsBetween (pos 0) (pos 1048575) (high n)
high_between n = (omega (arith, ints), omega (arith, ints))

low_between : (n : ℕ) → IsBetween (negsuc 2047) (pos 2047) (low n)
low_between n = (grind (arith, ints, nat_tests), grind (arith, ints, nat_tests))

pub past_valid : (c : Cmp) (a b : ℕ) → a < 32 → b < 32 → IsValid (past_unless c a b)
past_valid Eq a b h g = ((h, g), ((omega (arith, ints), omega (arith, ints)), refl))
past_valid Ne a b h g = ((h, g), ((omega (arith, ints), omega (arith, ints)), refl))
past_valid Lt a b h g = ((h, g), ((omega (arith, ints), omega (arith, ints)), refl))
past_valid Le a b h g = ((h, g), ((omega (arith, ints), omega (arith, ints)), refl))
past_valid Gt a b h g = ((h, g), ((omega (arith, ints), omega (arith, ints)), refl))
past_valid Ge a b h g = ((h, g), ((omega (arith, ints), omega (arith, ints)), refl))
past_valid Ltu a b h g = ((h, g), ((omega (arith, ints), omega (arith, ints)), refl))
past_valid Leu a b h g = ((h, g), ((omega (arith, ints), omega (arith, ints)), refl))
past_valid Gtu a b h g = ((h, g), ((omega (arith, ints), omega (arith, ints)), refl))
past_valid Geu a b h g = ((h, g), ((omega (arith, ints), omega (arith, ints)), refl))

pub auipc_valid : (rd n : ℕ) → rd < 32 → IsValid (Auipc rd (high n))
auipc_valid rd n h = (h, high_between n)

pub begins_valid : (meant : Meaning) (rd n : ℕ) → rd < 32 → IsValid (begins meant rd (high n))
begins_valid (Inner placed) rd n h = (h, high_between n)
begins_valid (Outer symbol target) rd n h = (h, high_between n)

pub jalr_valid : (rd rs n : ℕ) → rd < 32 → rs < 32 → IsValid (Jalr rd rs (low n))
jalr_valid rd rs n h g = ((h, g), low_between n)

pub addi_valid : (rd rs n : ℕ) → rd < 32 → rs < 32 → IsValid (Addi rd rs (low n))
addi_valid rd rs n h g = ((h, g), low_between n)

-- a jump ahead by a multiple of 4
pub jal_valid : (ahead : ℕ) → ahead % 4 ≡ 0 → ahead ≤ 2 ^ 19 → IsValid (Jal 0 (pos ahead))
jal_valid ahead even near = (omega arith, ((omega (arith, ints), omega (arith, ints)), omega arith))

one : (i : Instr) → IsValid i → All IsValid (i ∷ [])
one i h = All-cons IsValid i [] h (All-nil IsValid)

two : (i j : Instr) → IsValid i → IsValid j → All IsValid (i ∷ j ∷ [])
two i j h g = All-cons IsValid i (j ∷ []) h (one j g)

far_valid : (through link n : ℕ) → through < 32 → link < 32 → All IsValid (far through link n)
far_valid through link n h g = two (Auipc through (high n)) (Jalr link through (low n)) (auipc_valid through n h) (jalr_valid link through n g h)

entries_valid : (ahead : ℕ) (ls : List Label) → ahead % 4 ≡ 0 → ahead + 4 * length ls ≤ 2 ^ 19 → All IsValid (entries ahead ls)
entries_valid ahead [] even near = All-nil IsValid
entries_valid ahead (l ∷ ls) even near =
    All-cons IsValid (Jal 0 (pos ahead)) (entries (ahead + 4) ls) (jal_valid ahead even (omega arith)) (entries_valid (ahead + 4) ls (omega arith) (omega arith))

module _ (number : Bool → Label → ℕ → ℕ) (labels : List Meaning) where
  far_jumps_valid : (from : ℕ) (ls : List Label) → All IsValid (far_jumps number from ls)
  far_jumps_valid from [] = All-nil IsValid
  far_jumps_valid from (l ∷ ls) =
      All-append IsValid (far 6 0 (number true l from)) (far_jumps number (from + 8) ls) (far_valid 6 0 (number true l from) (omega arith) (omega arith))
      (far_jumps_valid (from + 8) ls)

  far_form_valid : (from : ℕ) (p : Part) → Fits labels p → All IsValid (far_form number labels from p)
  far_form_valid from (Single i) fits = one i fits
  far_form_valid from (Place l) fits = All-nil IsValid
  far_form_valid from (Branch c a b l) fits =
      All-cons IsValid (past_unless c a b) (far 6 0 (number true l (from + 4))) (past_valid c a b fits.2 fits.3)
      (far_valid 6 0 (number true l (from + 4)) (omega arith) (omega arith))
  far_form_valid from (Jump l) fits = far_valid 6 0 (number true l from) (omega arith) (omega arith)
  far_form_valid from (Call l) fits = far_valid 1 1 (number true l from) (omega arith) (omega arith)
  far_form_valid from (Address rd l) fits =
      two (begins (meaning labels l) rd (high (number false l from))) (Addi rd rd (low (number false l from)))
      (begins_valid (meaning labels l) rd (number false l from) fits.2) (addi_valid rd rd (number false l from) fits.2 fits.2)
  far_form_valid from (Table ls) fits =
      let few : length ls ≤ 64 = fits.1 in
      All-append IsValid (entries (4 * length ls + 4) ls) (Jal 0 (pos (8 * length ls + 4)) ∷ far_jumps number (from + 4 * length ls + 4) ls)
      (entries_valid (4 * length ls + 4) ls (omega arith) (omega arith))
      (All-cons IsValid (Jal 0 (pos (8 * length ls + 4))) (far_jumps number (from + 4 * length ls + 4) ls)
      (jal_valid (8 * length ls + 4) (omega arith) (omega arith)) (far_jumps_valid (from + 4 * length ls + 4) ls))

-- ---- a number by its sign, where it is near and even
by_sign_between : (n low high : ℕ) → low < 2 ^ 21 → high < 2 ^ 21 → ((n ≤ high) ⊎ ((2 ^ 64 - 1 - low ≤ n) × (n < 2 ^ 64))) → IsBetween (negsuc low) (pos high) (by_sign n)
by_sign_between n low high h g (inl near) = (grind (arith, ints, nat_tests), grind (arith, ints, nat_tests))
by_sign_between n low high h g (inr near) = let a = near.0 in let b = near.1 in (grind (arith, ints, nat_tests), grind (arith, ints, nat_tests))

by_sign_even : (n : ℕ) → n % 2 ≡ 0 → n < 2 ^ 64 → IsEven (by_sign n)
by_sign_even n even less = grind (arith, ints, nat_tests)

-- how far a label is that is in reach
near_distance : (reach to from : ℕ) → is_near reach to from ≡ true → 2 ≤ reach → reach ≤ 2 ^ 20 → to ≤ 2 ^ 30 → from ≤ 2 ^ 30 →
    ((distance to from ≤ reach - 2) ⊎ ((2 ^ 64 - reach ≤ distance to from) × (distance to from < 2 ^ 64)))
near_distance reach to from near wide most h g =
    elim (either to from) [
      | inl le ↦ inl (grind (arith, nat_tests, near, le))
      | inr less ↦ inr (grind (arith, nat_tests, near, less), omega arith)
    ]
  where
    either : (a b : ℕ) → (b ≤ a) ⊎ (a < b)
    either a b = grind arith

distance_even : (to from : ℕ) → to % 4 ≡ 0 → from % 4 ≡ 0 → distance to from % 2 ≡ 0
distance_even to from h g = omega arith

distance_less : (to from : ℕ) → distance to from < 2 ^ 64
distance_less to from = omega arith

module _ (c : Cmp) (a b : ℕ) (imm : _) (h : a < 32) (g : b < 32) (between : IsBetween (negsuc 4095) (pos 4094) imm) (even : IsEven imm) where
  branch_valid : (c : Cmp) → IsValid (branch_on c a b imm)
  branch_valid Eq = ((h, g), (between, even))
  branch_valid Ne = ((h, g), (between, even))
  branch_valid Lt = ((h, g), (between, even))
  branch_valid Le = ((h, g), (between, even))
  branch_valid Gt = ((h, g), (between, even))
  branch_valid Ge = ((h, g), (between, even))
  branch_valid Ltu = ((h, g), (between, even))
  branch_valid Leu = ((h, g), (between, even))
  branch_valid Gtu = ((h, g), (between, even))
  branch_valid Geu = ((h, g), (between, even))

-- ---- parts in the forms that they have
module _ (outer : ℕ → Bool → ℕ → ℕ) (places : List ℕ) (labels : List Meaning) (addresses : All IsCodeAddress places) (count : length places ≡ length labels) where
  abbrev number : Bool → Label → ℕ → ℕ
  number = number_of labels places outer

  place_in_code : (l : Label) → l.number < length labels → IsCodeAddress (slice_index places l.number)
  place_in_code l h = All-get_or IsCodeAddress places l.number 0 (omega arith) addresses

  -- a label in the code that is in reach
  near_imm : (l : Label) (meant : Meaning) (reach from : ℕ) → IsTrue (is_inner meant) → l.number < length labels → is_near reach (slice_index places l.number) from ≡ true →
      2 ≤ reach → reach ≤ 2 ^ 20 → from ≤ 2 ^ 30 → from % 4 ≡ 0 →
      IsBetween (negsuc (reach - 1)) (pos (reach - 2)) (by_sign (number_by outer places meant true l.number from)) × IsEven (by_sign (number_by outer places meant true l.number from))
  near_imm l (Inner placed) reach from is there near wide most low aligned =
      let here = place_in_code l there in
      let n = distance (slice_index places l.number) from in
      let d = near_distance reach (slice_index places l.number) from near wide most here.0 low in
      let e : 2 ^ 64 - 1 - (reach - 1) ≡ 2 ^ 64 - reach = omega arith in (
        by_sign_between n (reach - 1) (reach - 2) (omega arith) (omega arith) (rw e d),
        by_sign_even n (distance_even (slice_index places l.number) from here.1 aligned) (distance_less (slice_index places l.number) from),
      )
  near_imm l (Outer symbol target) reach from is there near wide most low aligned = absurd (cc)

  jal_short : (link : ℕ) (l : Label) (meant : Meaning) (from : ℕ) → link < 32 → l.number < length labels → short_by places from (near_by meant l) ≡ true → from ≤ 2 ^ 30 → from % 4 ≡ 0 →
      IsValid (Jal link (by_sign (number_by outer places meant true l.number from)))
  jal_short link l (Inner placed) from h there short low aligned =
      let imm = near_imm l (Inner placed) (2 ^ 20) from refl there short (omega arith) (omega arith) low aligned in
      (h, (imm.0, imm.1))
  jal_short link l (Outer symbol target) from h there short low aligned = absurd (cc)

  form_valid : (from : ℕ) (p : Part) (b : Bool) → is_short labels places from p ≡ b → Fits labels p → from ≤ 2 ^ 30 → from % 4 ≡ 0 → All IsValid (form_as number b labels from p)
  form_valid from p false e fits low aligned = far_form_valid number labels from p fits
  form_valid from (Single i) true e fits low aligned = absurd (cc)
  form_valid from (Place l) true e fits low aligned = absurd (cc)
  form_valid from (Branch c a b l) true e fits low aligned =
      let imm = near_imm l (meaning labels l) (2 ^ 12) from fits.0.1 fits.0.0 e (omega arith) (omega arith) low aligned in
      one (branch_on c a b (by_sign (number true l from))) (branch_valid c a b (by_sign (number true l from)) fits.2 fits.3 imm.0 imm.1 c)
  form_valid from (Jump l) true e fits low aligned = one (Jal 0 (by_sign (number true l from))) (jal_short 0 l (meaning labels l) from (omega arith) fits.0 e low aligned)
  form_valid from (Call l) true e fits low aligned = one (Jal 1 (by_sign (number true l from))) (jal_short 1 l (meaning labels l) from (omega arith) fits.0 e low aligned)
  form_valid from (Address rd l) true e fits low aligned = absurd (cc)
  form_valid from (Table ls) true e fits low aligned = absurd (cc)

  pub part_valid : (from : ℕ) (p : Part) → Fits labels p → from ≤ 2 ^ 30 → from % 4 ≡ 0 → All IsValid (instructions number places labels from p)
  part_valid from p fits low aligned = form_valid from p (is_short labels places from p) refl fits low aligned

  pub all_valid : (from : ℕ) (ps : List Part) → All (Fits labels) ps → end_at labels places from ps ≤ 2 ^ 30 → from % 4 ≡ 0 → All IsValid (all_instructions number places labels from ps)
  all_valid from [] fit low aligned = All-nil IsValid
  all_valid from (p ∷ ps) fit low aligned =
      let next = from + size_at labels places from p in
      let more = end_least labels places next ps in
      All-append IsValid (instructions number places labels from p) (all_instructions number places labels next ps)
      (part_valid from p (All-head (Fits labels) p ps fit) (omega (arith, more, low)) aligned)
      (all_valid next ps (All-tail (Fits labels) p ps fit) low (omega (arith, aligned, size_aligned (is_short labels places from p) p)))

-- ---- the word of a branch
inner_number : (outer : ℕ → Bool → ℕ → ℕ) (places : List ℕ) (meant : Meaning) (l from : ℕ) → IsTrue (is_inner meant) →
    number_by outer places meant true l from ≡ distance (slice_index places l) from
inner_number outer places (Inner placed) l from is = refl
inner_number outer places (Outer symbol target) l from is = absurd (cc)

module _ (outer : ℕ → Bool → ℕ → ℕ) (places : List ℕ) (labels : List Meaning) (from : ℕ) (c : Cmp) (a b : ℕ) (l : Label) (fits : Fits labels (Branch c a b l)) where
  pub branch_form : short_form (number_of labels places outer) labels from (Branch c a b l) ≡ branch_on c a b (by_sign (distance (slice_index places l.number) from)) ∷ []
  branch_form = rw (inner_number outer places (meaning labels l) l.number from fits.0.1) refl

  pub branch_word_valid : All IsCodeAddress places → length places ≡ length labels → is_short labels places from (Branch c a b l) ≡ true → from ≤ 2 ^ 30 → from % 4 ≡ 0 →
      IsValid (branch_on c a b (by_sign (distance (slice_index places l.number) from)))
  branch_word_valid addresses count short low aligned =
      rw (inner_number outer places (meaning labels l) l.number from fits.0.1) at
      (All-head IsValid (branch_on c a b (by_sign (number_of labels places outer true l from))) []
      (form_valid outer places labels addresses count from (Branch c a b l) true short fits low aligned))
