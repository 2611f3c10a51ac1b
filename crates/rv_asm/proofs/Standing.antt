-- Where the instructions of parts stand, the parts stand.
use Rattle.std.proofs.Common.{◌≡◌, ◌≢◌, ℕ, ◌+◌, ◌*◌, ◌%◌, ◌<◌, ◌≤◌, ◌^◌, refl, sym, ◌∙◌, ap, subst, arith, List, [], ◌∷◌, ◌++◌, length, length-append, take, get_or, append_assoc, Some}
use Rattle.std.specs.Prelude.{slice_get, slice_index, Bool, true, false, IsTrue}
use Rattle.std.specs.List.{All}
use Rattle.std.proofs.Math.Seq.{take-append_seam, get_or-append_seam}
use Rattle.std.proofs.lemmas.List.Elements.{All-get_or, All-head}
use Rattle.std.proofs.lemmas.List.{get_or_append_left, get_or-append-add}
use Rattle.std.proofs.lemmas.Bool.Decides.{nat_tests}
use Rattle.std.proofs.lemmas.Int.{ints}
use Rattle.std.proofs.lemmas.Option.{slice_get-get_or, slice_get_within, get_or_from_slice_get}
use Rattle.rv_table.specs.declared.instruction.Instr.TheVariants.{Addi, Jal}
use Rattle.rv_table.specs.Machine.{MemoryMap}
use Rattle.rv_table.specs.Stands.{Stands}
use Rattle.rv_table.specs.Words.{modulo, sum}
use Rattle.rv_asm.proofs.Distances.{distance_near, distance_back, distance_up}
use Rattle.rv_asm.proofs.FarForms.{LeadsTo, does_single, does_jump, does_call, does_branch, does_relative, does_absolute}
use Rattle.rv_asm.proofs.ShortForms.{branch_row, short_branch, short_call, short_jump}
use Rattle.rv_asm.proofs.Sizes.{end-append, end_aligned, end_least, instructions_size}
use Rattle.rv_asm.proofs.Tables.{Stands-append, does_table}
use Rattle.rv_asm.specs.Assembly.{Fits, is_inner, is_target, meaning}
use Rattle.rv_asm.specs.Filling.{IsReached, distance}
use Rattle.rv_asm.specs.Finishing.{GoesToCode, IsAligned, address_of, stands_for}
use Rattle.rv_asm.specs.Parts.{Code, Does, Stand}
use Rattle.rv_asm.specs.Reach.{end_at, is_short, near_by, short_by, size_as, size_at}
use Rattle.rv_asm.specs.ShortForms.{branch_on}
use Rattle.rv_asm.specs.Sizes.{longest}
use Rattle.rv_asm.specs.inside.Forms.{all_instructions, begins, by_sign, filled_up, fix_by, fix_of, fixes_of, form_as, high, instructions, low, number_by, number_of}
use Rattle.rv_asm.specs.inside.Sound.{IsCodeAddress}
use Rattle.rv_asm.specs.declared.part.Label.{Label}
use Rattle.rv_asm.specs.declared.part.Meaning.{Meaning}
use Rattle.rv_asm.specs.declared.part.Meaning.TheVariants.{Inner, Outer}
use Rattle.rv_asm.specs.declared.part.Part.{Part}
use Rattle.rv_asm.specs.declared.part.Part.TheVariants.{Single, Place, Branch, Jump, Call, Address, Table}

All-left : {X : Type 0} (P : X → Type 0) (xs ys : List X) → All P (xs ++ ys) → All P xs
All-left P xs ys all = λ i d h. subst P (get_or_append_left xs ys d i h) (all i d (rw length-append (omega arith)))

All-right : {X : Type 0} (P : X → Type 0) (xs ys : List X) → All P (xs ++ ys) → All P ys
All-right P xs ys all = λ i d h. subst P (get_or-append-add xs ys i d) (all (length xs + i) d (rw length-append (omega arith)))

by_sign_back : (n : ℕ) → n < 2 ^ 64 → modulo 64 (by_sign n) ≡ n
by_sign_back n less = grind (arith, ints, nat_tests)

module _ (m : MemoryMap) (labels : List Meaning) (places : List ℕ) (base up : ℕ) (value : ℕ → ℕ) (even : up % 4 ≡ 0) (small : up < 2 ^ 63) where
  abbrev code : Code
  code = record { map = m; at = address_of labels places up value }

  abbrev number : Bool → Label → ℕ → ℕ
  number = number_of labels places (filled_up value up)

  -- a place in the code, seen from an address
  inner_leads : (l : Label) (meant : Meaning) (from : ℕ) → IsTrue (is_inner meant) → IsCodeAddress (slice_index places l.number) → from ≤ 2 ^ 30 →
      LeadsTo (from + up) (stands_for value up places meant l.number) (number_by (filled_up value up) places meant true l.number from)
  inner_leads l (Inner placed) from is within low = record {
    near = distance_near (slice_index places l.number) from within.0 low;
    there = distance_up up (slice_index places l.number) from small within.0 low;
    aligned = omega (arith, within.1, even);
  }
  inner_leads l (Outer symbol target) from is within low = absurd (cc)

  -- and by the number's sign, as a short form has it
  inner_short : (l : Label) (meant : Meaning) (from : ℕ) → IsTrue (is_inner meant) → IsCodeAddress (slice_index places l.number) → from ≤ 2 ^ 30 →
      sum (from + up) (modulo 64 (by_sign (number_by (filled_up value up) places meant true l.number from))) ≡ stands_for value up places meant l.number
  inner_short l (Inner placed) from is within low =
      rw (by_sign_back (distance (slice_index places l.number) from) (omega arith)) (distance_up up (slice_index places l.number) from small within.0 low)
  inner_short l (Outer symbol target) from is within low = absurd (cc)

  -- what control goes to, seen from there: a place in the code or a symbol
  target_leads : (l : Label) (meant : Meaning) (place : ℕ) → IsTrue (is_target meant) → IsAligned value meant →
      All (IsReached value (base + up)) (fix_by true meant place) → IsCodeAddress (slice_index places l.number) → base + place ≤ 2 ^ 30 →
      LeadsTo (base + place + up) (stands_for value up places meant l.number) (number_by (filled_up value up) places meant true l.number (base + place))
  target_leads l (Inner placed) place is aligned reached within low = inner_leads l (Inner placed) (base + place) refl within low
  target_leads l (Outer symbol target) place is aligned reached within low =
      let here : IsReached value (base + up) (record { place = place; symbol = symbol; relative = true }) =
      All-head (IsReached value (base + up)) (record { place = place; symbol = symbol; relative = true }) [] reached
      in
      let same : base + up + place ≡ base + place + up = omega arith in
      record { near = rw same at here.1; there = distance_back (value symbol) (base + place + up) here.0 (omega arith); aligned = aligned }

  -- an address that is taken: that of a symbol by its value
  taken : (l : Label) (rd : ℕ) (meant : Meaning) (place : ℕ) → meaning labels l ≡ meant → rd ≢ 0 →
      All (IsReached value (base + up)) (fix_by false meant place) → IsCodeAddress (slice_index places l.number) → base + place ≤ 2 ^ 30 →
      Stands m.code (base + place + up) (begins meant rd (high (number_by (filled_up value up) places meant false l.number (base + place)))
      ∷ Addi rd rd (low (number_by (filled_up value up) places meant false l.number (base + place))) ∷ []) →
      Does code (Address rd l) (base + place + up) (base + place + up + 8)
  taken l rd (Inner placed) place is written reached within low stands =
      let leads = inner_leads l (Inner placed) (base + place) refl within low in
      does_relative code l rd (base + place + up) _ written stands leads.near (leads.there ∙ ap (λ n. stands_for value up places n l.number) (sym is))
  taken l rd (Outer symbol target) place is written reached within low stands =
      let here = All-head (IsReached value (base + up)) (record { place = place; symbol = symbol; relative = false }) [] reached in
      does_absolute code l rd (base + place + up) _ written stands here.1 (ap (λ n. stands_for value up places n l.number) (sym is))

  inner_stands_for : (meant : Meaning) (l : ℕ) → IsTrue (is_inner meant) → stands_for value up places meant l ≡ slice_index places l + up
  inner_stands_for (Inner placed) l is = refl
  inner_stands_for (Outer symbol target) l is = absurd (cc)

  module _ (addresses : All IsCodeAddress places) (count : length places ≡ length labels) where
    within : (l : Label) → l.number < length labels → IsCodeAddress (slice_index places l.number)
    within l h = All-get_or IsCodeAddress places l.number 0 (omega arith) addresses

    -- a part whose far form stands does what it means
    far_does : (p : Part) (place : ℕ) → base + place + longest p ≤ 2 ^ 30 → (base + place) % 4 ≡ 0 → Fits labels p →
        All (IsReached value (base + up)) (fix_of labels place p) → GoesToCode labels value p →
        ((l : Label) → p ≡ Place l → slice_index places l.number ≡ base + place) →
        Stands m.code (base + place + up) (form_as number false labels (base + place) p) →
        Does code p (base + place + up) (base + place + up + longest p)
    far_does (Single i) place low aligned fits reached goes here stands = does_single code i (base + place + up) stands.0
    far_does (Place l) place low aligned fits reached goes here stands =
        (omega arith, inner_stands_for (meaning labels l) l.number fits.1 ∙ ap (λ a. a + up) (here l refl))
    far_does (Branch c a b l) place low aligned fits reached goes here stands =
        let e : base + place + 4 + up ≡ base + place + up + 4 = omega arith in
        does_branch code l (base + place + up) _ c a b fits.1 stands
        (rw e at (inner_leads l (meaning labels l) (base + place + 4) fits.0.1 (within l fits.0.0) (omega arith))) (omega arith) (omega (arith, even))
    far_does (Jump l) place low aligned fits reached goes here stands =
        does_jump code l (base + place + up) _ stands (target_leads l (meaning labels l) place fits.1 goes reached (within l fits.0) (omega arith))
    far_does (Call l) place low aligned fits reached goes here stands =
        does_call code l (base + place + up) _ stands (target_leads l (meaning labels l) place fits.1 goes reached (within l fits.0) (omega arith)) (omega arith)
    far_does (Address rd l) place low aligned fits reached goes here stands =
        taken l rd (meaning labels l) place refl fits.1 reached (within l fits.0) (omega arith) stands
    far_does (Table ls) place low aligned fits reached goes here stands =
        does_table code number ls (base + place + up) (base + place + 4 * length ls + 4) stands leads (omega (arith, even)) (omega arith)
      where
        leads : (i : ℕ) (l : Label) → slice_get ls i ≡ Some l →
            LeadsTo (base + place + up + (4 * length ls + 4) + 8 * i) (address_of labels places up value l.number)
            (number true l (base + place + 4 * length ls + 4 + 8 * i))
        leads i l is =
            let less = slice_get_within ls i l is in
            let inner : (l.number < length labels) × IsTrue (is_inner (meaning labels l)) =
            subst (λ k. (k.number < length labels) × IsTrue (is_inner (meaning labels k))) (get_or_from_slice_get ls i l l is) (fits.0 i l less)
            in
            let e : base + place + 4 * length ls + 4 + 8 * i + up ≡ base + place + up + (4 * length ls + 4) + 8 * i = omega arith in
            rw e at (inner_leads l (meaning labels l) (base + place + 4 * length ls + 4 + 8 * i) inner.1 (within l inner.0) (omega arith))

    -- the short form of a jump and of a call, whose label stands in the code
    jump_short : (l : Label) (meant : Meaning) (place : ℕ) → meaning labels l ≡ meant → short_by places (base + place) (near_by meant l) ≡ true → base + place ≤ 2 ^ 30 → l.number < length labels →
        Stands m.code (base + place + up) (Jal 0 (by_sign (number_by (filled_up value up) places meant true l.number (base + place))) ∷ []) →
        Does code (Jump l) (base + place + up) (base + place + up + 4)
    jump_short l (Inner placed) place is short low there stands =
        let to = within l there in
        let at : address_of labels places up value l.number ≡ slice_index places l.number + up = ap (λ n. stands_for value up places n l.number) is in
        short_jump code l (base + place + up) (by_sign (number_by (filled_up value up) places (Inner placed) true l.number (base + place)))
        (rw at (inner_short l (Inner placed) (base + place) refl to low)) (rw at (omega (arith, to.1, even))) (omega arith) stands.0
    jump_short l (Outer symbol target) place is short low there stands = absurd (cc)

    call_short : (l : Label) (meant : Meaning) (place : ℕ) → meaning labels l ≡ meant → short_by places (base + place) (near_by meant l) ≡ true → base + place ≤ 2 ^ 30 → l.number < length labels →
        Stands m.code (base + place + up) (Jal 1 (by_sign (number_by (filled_up value up) places meant true l.number (base + place))) ∷ []) →
        Does code (Call l) (base + place + up) (base + place + up + 4)
    call_short l (Inner placed) place is short low there stands =
        let to = within l there in
        let at : address_of labels places up value l.number ≡ slice_index places l.number + up = ap (λ n. stands_for value up places n l.number) is in
        short_call code l (base + place + up) (by_sign (number_by (filled_up value up) places (Inner placed) true l.number (base + place)))
        (rw at (inner_short l (Inner placed) (base + place) refl to low)) (rw at (omega (arith, to.1, even))) (omega arith) stands.0
    call_short l (Outer symbol target) place is short low there stands = absurd (cc)

    -- a part whose form stands does what it means
    does_as : (b : Bool) (p : Part) (place : ℕ) → is_short labels places (base + place) p ≡ b → base + place + size_as b p ≤ 2 ^ 30 → (base + place) % 4 ≡ 0 → Fits labels p →
        All (IsReached value (base + up)) (fix_of labels place p) → GoesToCode labels value p →
        ((l : Label) → p ≡ Place l → slice_index places l.number ≡ base + place) →
        Stands m.code (base + place + up) (form_as number b labels (base + place) p) →
        Does code p (base + place + up) (base + place + up + size_as b p)
    does_as false p place e low aligned fits reached goes here stands = far_does p place low aligned fits reached goes here stands
    does_as true (Single i) place e low aligned fits reached goes here stands = absurd (cc)
    does_as true (Place l) place e low aligned fits reached goes here stands = absurd (cc)
    does_as true (Branch c a b l) place e low aligned fits reached goes here stands =
        let to = within l fits.0.0 in
        let at = inner_stands_for (meaning labels l) l.number fits.0.1 in
        let imm = by_sign (number true l (base + place)) in
        short_branch code l (base + place + up) imm (inner_short l (meaning labels l) (base + place) fits.0.1 to (omega arith))
        (rw at (omega (arith, to.1, even))) (omega arith) (branch_on c a b imm) c a b (branch_row c a b imm fits.1) stands.0
    does_as true (Jump l) place e low aligned fits reached goes here stands = jump_short l (meaning labels l) place refl e (omega arith) fits.0 stands
    does_as true (Call l) place e low aligned fits reached goes here stands = call_short l (meaning labels l) place refl e (omega arith) fits.0 stands
    does_as true (Address rd l) place e low aligned fits reached goes here stands = absurd (cc)
    does_as true (Table ls) place e low aligned fits reached goes here stands = absurd (cc)

    module _ (parts : List Part) (aligned : base % 4 ≡ 0) (room : end_at labels places base parts ≤ 2 ^ 30) (fit : All (Fits labels) parts)
        (noted : (k : ℕ) (l : Label) → slice_get parts k ≡ Some (Place l) → slice_index places l.number ≡ end_at labels places base (take k parts))
        (goes : All (GoesToCode labels value) parts) where
      seam : (xs : List Part) (y : Part) (ys : List Part) → slice_get (xs ++ y ∷ ys) (length xs) ≡ Some y
      seam xs y ys =
          slice_get-get_or (xs ++ y ∷ ys) (length xs) y (rw (length-append xs (y ∷ ys)) (omega arith)) ∙ ap Some (get_or-append_seam xs y ys y)

      at_seam : (P : Part → Type 0) (front : List Part) (p : Part) (rest : List Part) → parts ≡ front ++ p ∷ rest → All P parts → P p
      at_seam P front p rest whole all =
          let h : P (get_or (front ++ p ∷ rest) (length front) p) =
          subst (All P) whole all (length front) p (rw (length-append front (p ∷ rest)) (omega arith))
          in
          subst P (get_or-append_seam front p rest p) h

      pub all_do : (front rest : List Part) → parts ≡ front ++ rest → (place : ℕ) → base + place ≡ end_at labels places base front →
          Stands m.code (base + place + up) (all_instructions number places labels (base + place) rest) →
          All (IsReached value (base + up)) (fixes_of labels places base place rest) →
          Stand code rest (base + place + up) (end_at labels places base parts + up)
      all_do front [] whole place is stands reached =
          let e : end_at labels places base parts ≡ end_at labels places (end_at labels places base front) [] = ap (end_at labels places base) whole ∙ end-append labels places base front [] in
          omega (arith, e, is)
      all_do front (p ∷ rest) whole place is stands reached =
          let from = base + place in
          let b = is_short labels places from p in
          let size = size_at labels places from p in
          let both = Stands-append m.code (from + up) (instructions number places labels from p) (all_instructions number places labels (from + size) rest) stands in
          let end : end_at labels places base parts ≡ end_at labels places (from + size) rest =
          ap (end_at labels places base) whole ∙ end-append labels places base front (p ∷ rest) ∙ ap (λ n. end_at labels places n (p ∷ rest)) (sym is)
          in
          let more = end_least labels places (from + size) rest in
          let at : slice_get parts (length front) ≡ Some p = rw whole (seam front p rest) in
          let front_is : take (length front) parts ≡ front = rw whole (take-append_seam front (p ∷ rest)) in
          let even_from : from % 4 ≡ 0 = rw is (end_aligned labels places base front aligned) in
          let first : Does code p (from + up) (from + up + size) =
          does_as b p place refl (omega (arith, end, more, room)) even_from (at_seam (Fits labels) front p rest whole fit)
          (All-left (IsReached value (base + up)) (fix_of labels place p) (fixes_of labels places base (place + size) rest) reached)
          (at_seam (GoesToCode labels value) front p rest whole goes)
          (λ l same. noted (length front) l (at ∙ ap Some same) ∙ ap (end_at labels places base) front_is ∙ sym is) both.0
          in
          let around : base + (place + size) ≡ from + size = omega arith in
          let next : base + (place + size) ≡ end_at labels places base (front ++ p ∷ []) =
          around ∙ ap (λ n. n + size_at labels places n p) is ∙ sym (end-append labels places base front (p ∷ []))
          in
          let moved : from + size + up ≡ from + up + size = omega arith in
          let later = all_do (front ++ p ∷ []) rest (whole ∙ sym (append_assoc front (p ∷ []) rest)) (place + size) next
          (rw (around, moved) (rw (instructions_size number places labels from p) at both.1))
          (All-right (IsReached value (base + up)) (fix_of labels place p) (fixes_of labels places base (place + size) rest) reached)
          in
          (from + up + size, first, rw (around, moved) at later)
