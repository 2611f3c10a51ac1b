-- Once its fixes are filled, the code is that of the symbols' numbers.
use Rattle.std.proofs.Common.{◌≡◌, ℕ, ◌+◌, ◌*◌, ◌<◌, ◌≤◌, refl, sym, ◌∙◌, ap, arith, List, [], ◌∷◌, ◌++◌, length, length-append, append_assoc}
use Rattle.std.specs.Prelude.{Bool, true, false, IsTrue}
use Rattle.std.specs.Int.{w32, to_le_bytes}
use Rattle.std.specs.List.{All}
use Rattle.std.proofs.lemmas.Grind.{flat_map-append}
use Rattle.std.proofs.lemmas.List.{map-append}
use Rattle.std.proofs.lemmas.List.Elements.{All-head, All-tail}
use Rattle.cmm_items.proofs.Shared.{apart_later}
use Rattle.rv_table.proofs.Shared.{length-code_of, word_of-lt}
use Rattle.rv_table.specs.declared.instruction.Instr.{Instr}
use Rattle.rv_table.specs.declared.instruction.Instr.TheVariants.{Auipc, Jal, Jalr, Addi}
use Rattle.rv_table.specs.Stands.{code_of}
use Rattle.rv_table.specs.Table.{word_of}
use Rattle.rv_asm.proofs.Filled.{addi_filled, auipc_filled, begins_filled, jalr_filled, pair_filled}
use Rattle.rv_asm.proofs.Sizes.{instructions_size}
use Rattle.rv_asm.proofs.Validity.{addi_valid, auipc_valid, begins_valid, jalr_valid}
use Rattle.rv_asm.specs.Assembly.{Fits, IsInner, is_inner, meaning}
use Rattle.rv_asm.specs.Filling.{AreApart, filled, number_at}
use Rattle.rv_asm.specs.Finishing.{fix_symbols, symbol_by, symbol_of, symbols_of}
use Rattle.rv_asm.specs.Reach.{end_at, is_short, near_by, short_by, size_as, size_at}
use Rattle.rv_asm.specs.inside.Forms.{all_instructions, begins, by_sign, far, far_jumps, filled_up, fix_by, fix_of, fixes_of, form_as, high, instructions, low, number_by, number_of, unfilled}
use Rattle.rv_asm.specs.declared.filling.CodeFix.{CodeFix}
use Rattle.rv_asm.specs.declared.part.Label.{Label}
use Rattle.rv_asm.specs.declared.part.Meaning.{Meaning}
use Rattle.rv_asm.specs.declared.part.Meaning.TheVariants.{Inner, Outer}
use Rattle.rv_asm.specs.declared.part.Part.{Part}
use Rattle.rv_asm.specs.declared.part.Part.TheVariants.{Single, Place, Branch, Jump, Call, Address, Table}

pub code-append : (is js : List Instr) → code_of (is ++ js) ≡ code_of is ++ code_of js
code-append is js = flat_map-append (λ i. to_le_bytes w32 (word_of i)) is js

pub filled-append : (value : ℕ → ℕ) (at : ℕ) (fs gs : List CodeFix) (bytes : List ℕ) → filled value at (fs ++ gs) bytes ≡ filled value at gs (filled value at fs bytes)
filled-append value at [] gs bytes = refl
filled-append value at (f ∷ fs) gs bytes = filled-append value at fs gs _

module _ (labels : List Meaning) (places : List ℕ) (value : ℕ → ℕ) (up base : ℕ) where
  abbrev before : Bool → Label → ℕ → ℕ
  before = number_of labels places unfilled

  abbrev after : Bool → Label → ℕ → ℕ
  after = number_of labels places (filled_up value up)

  -- a pair that jumps: its number is relative
  jump_filled : (meant : Meaning) (l r d : ℕ) (front back : List ℕ) → r < 32 → d < 32 →
      filled value (base + up) (fix_by true meant (length front))
      (front ++ (code_of (far r d (number_by unfilled places meant true l (base + length front))) ++ back))
      ≡ front ++ (code_of (far r d (number_by (filled_up value up) places meant true l (base + length front))) ++ back)
  jump_filled (Inner placed) l r d front back h g = refl
  jump_filled (Outer symbol target) l r d front back h g =
      let same : base + up + length front ≡ base + length front + up = omega arith in
      let n = number_at true (value symbol) (base + length front + up) in
      rw same
      (pair_filled front back n (word_of (Auipc r (high 0))) (word_of (Jalr d r (low 0))) (word_of (Auipc r (high n))) (word_of (Jalr d r (low n)))
      (word_of-lt (Auipc r (high 0)) (auipc_valid r 0 h)) (word_of-lt (Jalr d r (low 0)) (jalr_valid d r 0 g h)) (auipc_filled r n h) (jalr_filled d r n g h))

  -- and one that gives an address
  address_filled : (meant : Meaning) (l r : ℕ) (front back : List ℕ) → r < 32 →
      filled value (base + up) (fix_by false meant (length front))
      (front ++ (code_of (begins meant r (high (number_by unfilled places meant false l (base + length front))) ∷ Addi r r (low (number_by unfilled places meant false l (base + length front))) ∷ []) ++ back))
      ≡ front ++ (code_of (begins meant r (high (number_by (filled_up value up) places meant false l (base + length front))) ∷ Addi r r (low (number_by (filled_up value up) places meant false l (base + length front))) ∷ []) ++ back)
  address_filled (Inner placed) l r front back h = refl
  address_filled (Outer symbol target) l r front back h =
      let n = value symbol in
      let first = begins (Outer symbol target) r in
      pair_filled front back n (word_of (first (high 0))) (word_of (Addi r r (low 0))) (word_of (first (high n))) (word_of (Addi r r (low n)))
      (word_of-lt (first (high 0)) (begins_valid (Outer symbol target) r 0 h)) (word_of-lt (Addi r r (low 0)) (addi_valid r r 0 h h))
      (begins_filled (Outer symbol target) r n h) (addi_filled r r n h h)

  inner_same : (meant : Meaning) (l from : ℕ) → IsTrue (is_inner meant) → number_by unfilled places meant true l from ≡ number_by (filled_up value up) places meant true l from
  inner_same (Inner placed) l from is = refl
  inner_same (Outer symbol target) l from is = absurd (cc)

  far_jumps_same : (from : ℕ) (ls : List Label) → All (IsInner labels) ls → far_jumps before from ls ≡ far_jumps after from ls
  far_jumps_same from [] inner = refl
  far_jumps_same from (l ∷ ls) inner =
      let here = All-head (IsInner labels) l ls inner in
      rw (inner_same (meaning labels l) l.number from here.1, far_jumps_same (from + 8) ls (All-tail (IsInner labels) l ls inner)) refl

  -- a jump or a call, in its short form or its far one
  either_filled : (meant : Meaning) (l : Label) (r d link : ℕ) (b : Bool) (front back : List ℕ) → r < 32 → d < 32 →
      short_by places (base + length front) (near_by meant l) ≡ b →
      filled value (base + up) (fix_by true meant (length front))
      (front ++ (code_of (elim b [ true ↦ Jal link (by_sign (number_by unfilled places meant true l.number (base + length front))) ∷ [] | false ↦ far r d (number_by unfilled places meant true l.number (base + length front)) ]) ++ back))
      ≡ front ++ (code_of (elim b [ true ↦ Jal link (by_sign (number_by (filled_up value up) places meant true l.number (base + length front))) ∷ [] | false ↦ far r d (number_by (filled_up value up) places meant true l.number (base + length front)) ]) ++ back)
  either_filled (Inner placed) l r d link b front back h g e = refl
  either_filled (Outer symbol target) l r d link true front back h g e = absurd (cc)
  either_filled (Outer symbol target) l r d link false front back h g e = jump_filled (Outer symbol target) l.number r d front back h g

  jump_form : (number : Bool → Label → ℕ → ℕ) (b : Bool) (from : ℕ) (l : Label) →
      form_as number b labels from (Jump l) ≡ elim b [ true ↦ Jal 0 (by_sign (number true l from)) ∷ [] | false ↦ far 6 0 (number true l from) ]
  jump_form number true from l = refl
  jump_form number false from l = refl

  call_form : (number : Bool → Label → ℕ → ℕ) (b : Bool) (from : ℕ) (l : Label) →
      form_as number b labels from (Call l) ≡ elim b [ true ↦ Jal 1 (by_sign (number true l from)) ∷ [] | false ↦ far 1 1 (number true l from) ]
  call_form number true from l = refl
  call_form number false from l = refl

  branch_same : (b : Bool) (from : ℕ) (c : _) (x y : ℕ) (l : Label) → IsTrue (is_inner (meaning labels l)) →
      form_as before b labels from (Branch c x y l) ≡ form_as after b labels from (Branch c x y l)
  branch_same true from c x y l is = rw (inner_same (meaning labels l) l.number from is) refl
  branch_same false from c x y l is = rw (inner_same (meaning labels l) l.number (from + 4) is) refl

  part_filled : (p : Part) (front back : List ℕ) → Fits labels p →
      filled value (base + up) (fix_of labels (length front) p) (front ++ (code_of (instructions before places labels (base + length front) p) ++ back))
      ≡ front ++ (code_of (instructions after places labels (base + length front) p) ++ back)
  part_filled (Single i) front back fits = refl
  part_filled (Place l) front back fits = refl
  part_filled (Branch c a b l) front back fits =
      ap (λ is. front ++ (code_of is ++ back)) (branch_same (is_short labels places (base + length front) (Branch c a b l)) (base + length front) c a b l fits.0.1)
  part_filled (Jump l) front back fits =
      let b = is_short labels places (base + length front) (Jump l) in
      rw (jump_form before b (base + length front) l, jump_form after b (base + length front) l)
      (either_filled (meaning labels l) l 6 0 0 b front back (omega arith) (omega arith) refl)
  part_filled (Call l) front back fits =
      let b = is_short labels places (base + length front) (Call l) in
      rw (call_form before b (base + length front) l, call_form after b (base + length front) l)
      (either_filled (meaning labels l) l 1 1 1 b front back (omega arith) (omega arith) refl)
  part_filled (Address rd l) front back fits = address_filled (meaning labels l) l.number rd front back fits.2
  part_filled (Table ls) front back fits = rw (far_jumps_same (base + length front + 4 * length ls + 4) ls fits.0) refl

  pub parts_filled : (ps : List Part) (front : List ℕ) → All (Fits labels) ps →
      filled value (base + up) (fixes_of labels places base (length front) ps) (front ++ code_of (all_instructions before places labels (base + length front) ps))
      ≡ front ++ code_of (all_instructions after places labels (base + length front) ps)
  parts_filled [] front fit = refl
  parts_filled (p ∷ ps) front fit =
      let from = base + length front in
      let size = size_at labels places from p in
      let is = instructions before places labels from p in
      let js = all_instructions before places labels (from + size) ps in
      let is' = instructions after places labels from p in
      let js' = all_instructions after places labels (from + size) ps in
      let next = front ++ code_of is' in
      let there : length next ≡ length front + size =
      length-append front (code_of is') ∙ ap (λ n. length front + n) (length-code_of is' ∙ instructions_size after places labels from p)
      in
      let on : base + (length front + size) ≡ from + size = omega arith in
      let here = part_filled p front (code_of js) (All-head (Fits labels) p ps fit) in
      let rest : filled value (base + up) (fixes_of labels places base (length front + size) ps) (next ++ code_of js) ≡ next ++ code_of js' =
      rw (there, on) at (parts_filled ps next (All-tail (Fits labels) p ps fit))
      in
      ap (λ (bytes : List ℕ). filled value (base + up) (fix_of labels (length front) p ++ fixes_of labels places base (length front + size) ps) (front ++ bytes)) (code-append is js)
      ∙ filled-append value (base + up) (fix_of labels (length front) p) (fixes_of labels places base (length front + size) ps) (front ++ (code_of is ++ code_of js))
      ∙ ap (λ (bytes : List ℕ). filled value (base + up) (fixes_of labels places base (length front + size) ps) bytes) (here ∙ sym (append_assoc front (code_of is') (code_of js)))
      ∙ rest ∙ append_assoc front (code_of is') (code_of js') ∙ ap (λ (bytes : List ℕ). front ++ bytes) (sym (code-append is' js'))

-- ---- what the fixes are
by_symbols : (relative : Bool) (meant : Meaning) (place : ℕ) → fix_symbols (fix_by relative meant place) ≡ symbol_by relative meant
by_symbols relative (Inner placed) place = refl
by_symbols relative (Outer symbol target) place = refl

module _ (labels : List Meaning) where
  of_symbols : (place : ℕ) (p : Part) → fix_symbols (fix_of labels place p) ≡ symbol_of labels p
  of_symbols place (Jump l) = by_symbols true (meaning labels l) place
  of_symbols place (Call l) = by_symbols true (meaning labels l) place
  of_symbols place (Address rd l) = by_symbols false (meaning labels l) place
  of_symbols place (Single i) = refl
  of_symbols place (Place l) = refl
  of_symbols place (Branch c a b l) = refl
  of_symbols place (Table ls) = refl

  pub symbols_are : (places : List ℕ) (base place : ℕ) (ps : List Part) → fix_symbols (fixes_of labels places base place ps) ≡ symbols_of labels ps
  symbols_are places base place [] = refl
  symbols_are places base place (p ∷ ps) =
      let next = place + size_at labels places (base + place) p in
      let whole : fix_symbols (fix_of labels place p ++ fixes_of labels places base next ps)
      ≡ fix_symbols (fix_of labels place p) ++ fix_symbols (fixes_of labels places base next ps) =
      map-append (λ f. (f.symbol, f.relative)) (fix_of labels place p) (fixes_of labels places base next ps)
      in
      rw (whole, of_symbols place p, symbols_are places base next ps) refl

  -- a jump or a call that has a symbol has two words
  by_apart : (places : List ℕ) (meant : Meaning) (l : Label) (from place end : ℕ) (b : Bool) (fs : List CodeFix) → short_by places from (near_by meant l) ≡ b →
      AreApart (place + elim b [ true ↦ 4 | false ↦ 8 ]) fs end → AreApart place (fix_by true meant place ++ fs) end
  by_apart places (Inner placed) l from place end b fs e apart = apart_later (λ (f : CodeFix). f.place) place (place + elim b [ true ↦ 4 | false ↦ 8 ]) end fs (omega arith) apart
  by_apart places (Outer symbol target) l from place end true fs e apart = absurd (cc)
  by_apart places (Outer symbol target) l from place end false fs e apart = (omega arith, apart)

  address_apart : (meant : Meaning) (place end : ℕ) (fs : List CodeFix) → AreApart (place + 8) fs end → AreApart place (fix_by false meant place ++ fs) end
  address_apart (Inner placed) place end fs apart = apart_later (λ (f : CodeFix). f.place) place (place + 8) end fs (omega arith) apart
  address_apart (Outer symbol target) place end fs apart = (omega arith, apart)

  jump_bytes : (b : Bool) (l : Label) → size_as b (Jump l) ≡ elim b [ true ↦ 4 | false ↦ 8 ]
  jump_bytes true l = refl
  jump_bytes false l = refl

  call_bytes : (b : Bool) (l : Label) → size_as b (Call l) ≡ elim b [ true ↦ 4 | false ↦ 8 ]
  call_bytes true l = refl
  call_bytes false l = refl

  part_apart : (places : List ℕ) (from place end : ℕ) (p : Part) (fs : List CodeFix) → AreApart (place + size_at labels places from p) fs end → AreApart place (fix_of labels place p ++ fs) end
  part_apart places from place end (Jump l) fs apart =
      by_apart places (meaning labels l) l from place end (is_short labels places from (Jump l)) fs refl (rw (jump_bytes (is_short labels places from (Jump l)) l) at apart)
  part_apart places from place end (Call l) fs apart =
      by_apart places (meaning labels l) l from place end (is_short labels places from (Call l)) fs refl (rw (call_bytes (is_short labels places from (Call l)) l) at apart)
  part_apart places from place end (Address rd l) fs apart = address_apart (meaning labels l) place end fs apart
  part_apart places from place end (Single i) fs apart = apart_later (λ (f : CodeFix). f.place) place (place + 4) end fs (omega arith) apart
  part_apart places from place end (Place l) fs apart = apart_later (λ (f : CodeFix). f.place) place (place + 0) end fs (omega arith) apart
  part_apart places from place end (Branch c a b l) fs apart =
      apart_later (λ (f : CodeFix). f.place) place (place + size_at labels places from (Branch c a b l)) end fs (omega arith) apart
  part_apart places from place end (Table ls) fs apart = apart_later (λ (f : CodeFix). f.place) place (place + (12 * length ls + 4)) end fs (omega arith) apart

  -- each fix has its own two words
  pub fixes_apart : (places : List ℕ) (base place end : ℕ) (ps : List Part) → end_at labels places (base + place) ps ≤ base + end → AreApart place (fixes_of labels places base place ps) end
  fixes_apart places base place end [] within = omega arith
  fixes_apart places base place end (p ∷ ps) within =
      let size = size_at labels places (base + place) p in
      let e : base + (place + size) ≡ base + place + size = omega arith in
      part_apart places (base + place) place end p (fixes_of labels places base (place + size) ps) (fixes_apart places base (place + size) end ps (rw e within))
