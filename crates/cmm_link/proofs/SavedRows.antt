-- The rows of the registers that a procedure saves: callee-saves registers, each above the one before, with words inside the frame.
use Rattle.std.proofs.Common.{◌≡◌, ℕ, suc, ◌+◌, ◌<◌, ◌≤◌, ◌^◌, ◌%◌, ◌==◌, cond, filter, nat_le, Bool, true, false, IsTrue, Option, Some, None, List, [], ◌∷◌, length, map, refl, ap, sym, subst, arith}
use Rattle.std.proofs.lemmas.Bool.{and_parts, ltb-true, lt-ltb}
use Rattle.std.proofs.lemmas.Bool.Decides.{nat_tests}
use Rattle.std.proofs.lemmas.List.{length-map}
use Rattle.std.specs.List.{list_all}
use Rattle.std.specs.Option.{option_map}
use Rattle.cmm_chain.proofs.Shared.{callee_saves_is_written}
use Rattle.cmm_chain.specs.Plans.{is_word_in, saved_offsets}
use Rattle.cmm_abi.specs.Registers.{callee_saves, is_callee_saves}
use Rattle.cmm_image.specs.declared.rows.SavedRegister.{SavedRegister}
use Rattle.cmm_format.specs.Formats.{AreRows}
use Rattle.cmm_image.specs.ImageFormat.{is_above, saved_register}
use Rattle.cmm_image.specs.Places.{leaves}
use Rattle.cmm_tables.specs.ProcedureRows.{saved_row}

-- registers that may be saved, each above the one before
abbrev AreSaves : Option ℕ → List ℕ → Type 0
AreSaves previous [] = Unit {0}
AreSaves previous (r ∷ rs) = (is_callee_saves r ≡ true) × (is_above previous r ≡ true) × AreSaves (Some r) rs

above_lower : (previous : Option ℕ) (r s : ℕ) → is_above previous r ≡ true → is_above (Some r) s ≡ true → is_above previous s ≡ true
above_lower None r s first then_ = refl
above_lower (Some m) r s first then_ = lt-ltb _ _ (omega (arith, ltb-true m r first, ltb-true r s then_))

-- without the first of them
fewer : (previous : Option ℕ) (r : ℕ) (rs : List ℕ) → is_above previous r ≡ true → AreSaves (Some r) rs → AreSaves previous rs
fewer previous r [] first are = tt
fewer previous r (s ∷ ss) first are = (are.0, above_lower previous r s first are.1, are.2)

either : (previous : Option ℕ) (r : ℕ) (rs : List ℕ) (b : Bool) → AreSaves previous (r ∷ rs) → AreSaves previous rs → AreSaves previous (cond b (r ∷ rs) rs)
either previous r rs true with_it without = with_it
either previous r rs false with_it without = without

filtered : (test : ℕ → Bool) (previous : Option ℕ) (rs : List ℕ) → AreSaves previous rs → AreSaves previous (filter test rs)
filtered test previous [] are = tt
filtered test previous (r ∷ rs) are =
    either previous r (filter test rs) (test r) (are.0, are.1, filtered test (Some r) rs are.2) (filtered test previous rs (fewer previous r rs are.1 are.2))

all_saves : AreSaves None callee_saves
all_saves = (refl, refl, (refl, refl, (refl, refl, (refl, refl, (refl, refl, (refl, refl, (refl, refl, (refl, refl, (refl, refl, (refl, refl, (refl, refl, tt)))))))))))

leaves_word : (size offset : ℕ) → is_word_in size offset ≡ true → IsTrue (leaves 8 size offset)
leaves_word size offset is = (and_parts (offset % 8 == 0) (nat_le (offset + 8) size) is).1

word_small : (size offset : ℕ) → is_word_in size offset ≡ true → offset ≤ size
word_small size offset is = let inside = leaves_word size offset is in grind (arith, nat_tests, inside)

rows_hold : (size : ℕ) (previous : Option SavedRegister) (saved : List (ℕ × ℕ)) → size < 2 ^ 31 → AreSaves (option_map (λ s. s.register) previous) (map (λ s. s.0) saved) →
    list_all (is_word_in size) (saved_offsets saved) ≡ true → AreRows (λ previous. (saved_register size previous).Holds) previous (map saved_row saved)
rows_hold size previous [] small are words = tt
rows_hold size previous ((register, offset) ∷ saved) small are words =
    let both = and_parts (is_word_in size offset) (list_all (is_word_in size) (saved_offsets saved)) words in (
      ((omega (arith, (callee_saves_is_written register are.0).1), (are.0, (are.1, tt))), (omega (arith, small, word_small size offset both.0), (leaves_word size offset both.0, tt))),
      rows_hold size (Some (saved_row (register, offset))) saved small are.2 both.1,
    )

one_more : (b : Bool) (x : ℕ) (xs : List ℕ) (most : ℕ) → length xs ≤ most → length (cond b (x ∷ xs) xs) ≤ suc most
one_more true x xs most few = omega arith
one_more false x xs most few = omega arith

filter_short : (test : ℕ → Bool) (xs : List ℕ) → length (filter test xs) ≤ length xs
filter_short test [] = omega arith
filter_short test (x ∷ xs) = one_more (test x) x (filter test xs) (length xs) (filter_short test xs)

-- those that a procedure saves
pub saved_rows_hold : (size : ℕ) (saved : List (ℕ × ℕ)) (test : ℕ → Bool) → size < 2 ^ 31 → map (λ s. s.0) saved ≡ filter test callee_saves →
    list_all (is_word_in size) (saved_offsets saved) ≡ true → AreRows (λ previous. (saved_register size previous).Holds) None (map saved_row saved)
saved_rows_hold size saved test small are words =
    rows_hold size None saved small (subst (AreSaves None) (sym are) (filtered test None callee_saves all_saves)) words

pub saved_few : (saved : List (ℕ × ℕ)) (test : ℕ → Bool) → map (λ s. s.0) saved ≡ filter test callee_saves → length (map saved_row saved) ≤ length callee_saves
saved_few saved test are =
    let registers = ap (λ (l : List ℕ). length l) are in
    omega (arith, length-map saved (λ (s : ℕ × ℕ). s.0), length-map saved saved_row, registers, filter_short test callee_saves)
