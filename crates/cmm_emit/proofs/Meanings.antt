-- What symbols stand for in finished code, and that their fixes reach it.
use Rattle.std.proofs.Common.{◌≡◌, ◌⊎◌, inl, inr, ℕ, zero, suc, ◌+◌, ◌%◌, ◌<◌, ◌≤◌, ◌^◌, refl, sym, ap, subst, arith, Bool, true, false, List, [], ◌∷◌, ◌++◌, length, get_or, Option, Some, None, slice_get}
use Rattle.std.specs.Prelude.{nat_lt, slice_index}
use Rattle.std.specs.List.{All, AllByRecursion}
use Rattle.std.proofs.lemmas.Bool.Decides.{nat_tests}
use Rattle.std.proofs.lemmas.List.{get_or_past}
use Rattle.std.proofs.lemmas.List.Elements.{All-cons, All-nil}
use Rattle.std.proofs.lemmas.Option.{get_or_from_slice_get, slice_get_within}
use Rattle.cmm_items.proofs.Shared.{apart_end}
use Rattle.rv_asm.specs.Assembly.{Fits, is_inner, is_target, meaning}
use Rattle.rv_asm.specs.Filling.{AreApart, IsNear, IsReached, number_at}
use Rattle.rv_asm.specs.Finishing.{GoesToCode, IsAligned, address_of, fix_symbols, stands_for, symbol_by, symbol_of, symbols_of}
use Rattle.rv_asm.specs.declared.filling.CodeFix.{CodeFix}
use Rattle.rv_asm.specs.declared.part.Label.{Label}
use Rattle.rv_asm.specs.declared.part.Meaning.{Meaning}
use Rattle.rv_asm.specs.declared.part.Meaning.TheVariants.{Inner, Outer}
use Rattle.rv_asm.specs.declared.part.Part.{Part}
use Rattle.rv_asm.specs.declared.part.Part.TheVariants.{Single, Place, Branch, Jump, Call, Address, Table}
use Rattle.cmm_unit_code.specs.declared.unit_code.Reference.{Reference}
use Rattle.cmm_emit.specs.Labels.{is_reached}
use Rattle.cmm_emit.specs.LaidProcedures.{AreInnerFrom, AreSymbolsIn}

-- nothing is there from the length on
past_from_none : {A : Type 0} (xs : List A) (n : ℕ) → slice_get xs n ≡ None → length xs ≤ n
past_from_none [] n past = omega arith
past_from_none (x ∷ xs) zero past = absurd (cc)
past_from_none (x ∷ xs) (suc n) past = omega (arith, past_from_none xs n past)

-- what labels mean: symbols by their own numbers, and places in the code
pub record AreMeant (references : List Reference) (labels : List Meaning) : Type 0 where
  pub symbols : AreSymbolsIn references labels
  pub inner : AreInnerFrom (length references) labels

module _ (references : List Reference) (labels : List Meaning) (meant : AreMeant references labels) where
  symbol_means : (l : Label) (r : Reference) → slice_get references l.number ≡ Some r → meaning labels l ≡ Outer l.number (is_reached r)
  symbol_means l r there = get_or_from_slice_get labels l.number (Outer l.number (is_reached r)) (Inner false) (meant.symbols l.number r there)

  inner_means : (l : Label) → length references ≤ l.number → is_inner (meaning labels l) ≡ true
  inner_means l far = by (nat_lt l.number (length labels)) refl
    where
      by : (b : Bool) → nat_lt l.number (length labels) ≡ b → is_inner (meaning labels l) ≡ true
      by true less = meant.inner l.number far (grind (arith, nat_tests, less))
      by false past =
          let out : length labels ≤ l.number = grind (arith, nat_tests, past) in
          ap is_inner (get_or_past labels l.number (Inner false) out)

  -- ---- targets

  module _ (value : ℕ → ℕ) (aligned : (k : ℕ) (r : Reference) → slice_get references k ≡ Some r → is_reached r ≡ true → value k % 4 ≡ 0) where
    target_aligned : (l : Label) → is_target (meaning labels l) ≡ true → IsAligned value (meaning labels l)
    target_aligned l is = by (slice_get references l.number) refl
      where
        inner_aligned : (m : Meaning) → is_inner m ≡ true → IsAligned value m
        inner_aligned (Inner placed) e = tt
        inner_aligned (Outer symbol relative) e = absurd (cc)

        by : (o : Option Reference) → slice_get references l.number ≡ o → IsAligned value (meaning labels l)
        by (Some r) there =
            let means = symbol_means l r there in
            subst (λ (m : Meaning). IsAligned value m) (sym means) (aligned l.number r there (subst (λ (m : Meaning). is_target m ≡ true) means is))
        by None past = inner_aligned (meaning labels l) (inner_means l (past_from_none references l.number past))

    part_aligned : (part : Part) → Fits labels part → GoesToCode labels value part
    part_aligned (Single i) fits = tt
    part_aligned (Place l) fits = tt
    part_aligned (Branch c a b l) fits = tt
    part_aligned (Jump l) fits = target_aligned l fits.1
    part_aligned (Call l) fits = target_aligned l fits.1
    part_aligned (Address rd l) fits = tt
    part_aligned (Table ls) fits = tt

    pub targets_aligned : (parts : List Part) → All (Fits labels) parts → All (GoesToCode labels value) parts
    targets_aligned parts fit i d h = part_aligned (get_or parts i d) (fit i d h)

  -- ---- what labels stand for

  pub symbol_stands : (places : List ℕ) (up : ℕ) (value : ℕ → ℕ) (n : ℕ) (r : Reference) → slice_get references n ≡ Some r → address_of labels places up value n ≡ value n
  symbol_stands places up value n r there = ap (λ (m : Meaning). stands_for value up places m n) (symbol_means (record { number = n }) r there)

  pub inner_stands : (places : List ℕ) (up : ℕ) (value : ℕ → ℕ) (n : ℕ) → length references ≤ n → address_of labels places up value n ≡ slice_index places n + up
  inner_stands places up value n far = by (meaning labels (record { number = n })) (inner_means (record { number = n }) far)
    where
      by : (m : Meaning) → is_inner m ≡ true → stands_for value up places m n ≡ slice_index places n + up
      by (Inner placed) is = refl
      by (Outer symbol relative) is = absurd (cc)

  -- ---- fixes name what is named

  -- the symbol of a label, if it has one, is among the references
  label_named : (b : Bool) (l : Label) → AllByRecursion (λ f. f.0 < length references) (symbol_by b (meaning labels l))
  label_named b l = by (slice_get references l.number) refl
    where
      inner_none : (m : Meaning) → is_inner m ≡ true → AllByRecursion (λ f. f.0 < length references) (symbol_by b m)
      inner_none (Inner placed) e = tt
      inner_none (Outer symbol relative) e = absurd (cc)

      by : (o : Option Reference) → slice_get references l.number ≡ o → AllByRecursion (λ f. f.0 < length references) (symbol_by b (meaning labels l))
      by (Some r) there =
          subst (λ (m : Meaning). AllByRecursion (λ f. f.0 < length references) (symbol_by b m)) (sym (symbol_means l r there)) (slice_get_within references l.number r there, tt)
      by None past = inner_none (meaning labels l) (inner_means l (past_from_none references l.number past))

  part_named : (part : Part) → AllByRecursion (λ f. f.0 < length references) (symbol_of labels part)
  part_named (Single i) = tt
  part_named (Place l) = tt
  part_named (Branch c a b l) = tt
  part_named (Jump l) = label_named true l
  part_named (Call l) = label_named true l
  part_named (Address rd l) = label_named false l
  part_named (Table ls) = tt

  both_named : (xs ys : List (ℕ × Bool)) → AllByRecursion (λ f. f.0 < length references) xs → AllByRecursion (λ f. f.0 < length references) ys →
      AllByRecursion (λ f. f.0 < length references) (xs ++ ys)
  both_named [] ys first second = second
  both_named (x ∷ xs) ys first second = (first.0, both_named xs ys first.1 second)

  parts_named : (parts : List Part) → AllByRecursion (λ f. f.0 < length references) (symbols_of labels parts)
  parts_named [] = tt
  parts_named (part ∷ parts) = both_named (symbol_of labels part) (symbols_of labels parts) (part_named part) (parts_named parts)

  fixes_named : (fixes : List CodeFix) → AllByRecursion (λ f. f.0 < length references) (fix_symbols fixes) → All (λ f. f.symbol < length references) fixes
  fixes_named [] named = All-nil (λ f. f.symbol < length references)
  fixes_named (f ∷ fixes) named = All-cons (λ f. f.symbol < length references) f fixes named.0 (fixes_named fixes named.1)

  pub symbols_named : (parts : List Part) (fixes : List CodeFix) → fix_symbols fixes ≡ symbols_of labels parts → All (λ f. f.symbol < length references) fixes
  symbols_named parts fixes are =
      fixes_named fixes (subst (λ fs. AllByRecursion (λ f. f.0 < length references) fs) (sym are) (parts_named parts))

-- ---- fixes

distance_near : (to from : ℕ) → to + 2048 < 2 ^ 31 → from ≤ 2 ^ 30 → IsNear (number_at true to from)
distance_near to from low here = by (grind arith)
  where
    by : (from ≤ to) ⊎ (to < from) → IsNear (number_at true to from)
    by (inl on) = inl (omega (arith, on, low))
    by (inr back) = inr ((omega (arith, back, low, here)), (omega (arith, back, low, here)))

number_near : (relative : Bool) (to from : ℕ) → to + 2048 < 2 ^ 31 → from ≤ 2 ^ 30 → IsNear (number_at relative to from)
number_near true to from low here = distance_near to from low here
number_near false to from low here = inl low

-- small numbers of symbols are reached from code in the lower 2 ^ 30
pub fixes_reached : (value : ℕ → ℕ) (at size before : ℕ) (fixes : List CodeFix) → ((n : ℕ) → value n + 2048 < 2 ^ 31) → at + size ≤ 2 ^ 30 → AreApart before fixes size →
    All (IsReached value at) fixes
fixes_reached value at size before [] small room apart = All-nil (IsReached value at)
fixes_reached value at size before (f ∷ fixes) small room apart =
    let later = apart_end (λ (f : CodeFix). f.place) (f.place + 8) size fixes apart.1 in
    All-cons (IsReached value at) f fixes
    ((let less = small f.symbol in omega (arith, less)), number_near f.relative (value f.symbol) (at + f.place) (small f.symbol) (omega (arith, later, room)))
    (fixes_reached value at size (f.place + 8) fixes small room apart.1)
