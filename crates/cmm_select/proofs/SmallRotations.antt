-- Rotations of a word by a number, as two shifts and a cut.
use Rattle.std.proofs.Common.{◌≡◌, ◌≢◌, inl, inr, ℕ, ◌+◌, ◌<◌, refl, sym, ◌∙◌, ap, subst, arith, pos, Option, Some, None}
use Rattle.std.specs.Prelude.{Bool, true, false, bit_or, IsTrue}
use Rattle.std.proofs.lemmas.Option.{same_Some}
use Rattle.cmm_abi.specs.Registers.{is_scratch}
use Rattle.cmm_words.specs.Laws.{RotlIsTwoShifts, RotrIsTwoShifts, two_shifts}
use Rattle.cmm_words.specs.Widths.{IsWord}
use Rattle.cmm_words.specs.Words.{low_bits, value2}
use Rattle.cmm_words.specs.declared.operators.Op2.{Op2}
use Rattle.cmm_words.specs.declared.operators.Op2.TheVariants as op
use Rattle.cmm_words.specs.declared.width.Width.{Width}
use Rattle.rv_asm.specs.Appending.{Then}
use Rattle.rv_asm.specs.Parts.{Code}
use Rattle.rv_table.specs.Machine.{State}
use Rattle.rv_table.specs.Words.{shifted_left, shifted_right}
use Rattle.rv_table.specs.declared.instruction.Instr.TheVariants.{Or, Slli, Srli}
use Rattle.cmm_effects.proofs.Shared.{leads_set, leads_then, leads_weaker, runs_of, set_keeps}
use Rattle.cmm_effects.specs.Changes.{Sets}
use Rattle.cmm_effects.specs.Pieces.{Always, Leads, Runs}
use Rattle.cmm_select.proofs.InPlace.{beside_then, keeps_beside, set_beside}
use Rattle.cmm_select.proofs.Places.{One, other_kept}
use Rattle.cmm_select.proofs.SmallNumbers.{six_bits}
use Rattle.cmm_select.proofs.Wide.{some_same}
use Rattle.cmm_select.specs.Operators.{Narrows}
use Rattle.cmm_select.specs.declared.operand.Operand.{Operand}
use Rattle.cmm_select.specs.declared.operand.Operand.TheVariants.{Held, Symbol}
use Rattle.cmm_select.specs.declared.source.Source.TheVariants.{Place, Number, Address}
use Rattle.cmm_select.specs.inside.InPlace.{IsHome, IsValue, KeepsBeside, Makes}
use Rattle.cmm_select.specs.inside.Rotations.{is_rotation, left_by, right_by, turns_of}

-- an operand by which a word is rotated is a number
pub turns_is : (o : Op2) (right : Operand) (n : ℕ) → turns_of o right ≡ Some n → (right ≡ Held (Number n)) × IsTrue (is_rotation o)
turns_is o (Held (Place p)) n is = absurd (cc (is))
turns_is o (Held (Address k)) n is = absurd (cc (is))
turns_is o (Symbol l plus) n is = absurd (cc (is))
turns_is o (Held (Number k)) n is = by (is_rotation o) refl is
  where
    by : (b : Bool) → is_rotation o ≡ b → elim b as (λ _. Option ℕ) [ true ↦ Some k | false ↦ None ] ≡ Some n → (Held (Number k) ≡ Held (Number n)) × IsTrue (is_rotation o)
    by true test e = (ap (λ (m : ℕ). Held (Number m)) (same_Some k n e), test)
    by false test e = absurd (cc (e))

-- a register that has an operand does not help
pub home_beside : (r : ℕ) → IsHome 5 r → r ≢ 6
home_beside r (inl five) e = omega (arith, five, e)
home_beside r (inr home) e = let g : is_scratch 6 ≡ false = subst (λ (n : ℕ). is_scratch n ≡ false) e home.0 in absurd (cc)

-- a rotation's value is two shifts, cut
rotation_law : (o : Op2) → IsTrue (is_rotation o) → RotlIsTwoShifts → RotrIsTwoShifts → (w : Width) (a n : ℕ) → IsWord w a →
    value2 o w a n ≡ Some (two_shifts w a (left_by o w n) (right_by o w n))
rotation_law op.Rotl is rotl rotr w a n word = rotl w a n word
rotation_law op.Rotr is rotl rotr w a n word = rotr w a n word
rotation_law _ is rotl rotr w a n word = absurd (cc)

-- two shifts of the word in a register, and both together
abbrev pub both_shifted : ℕ → ℕ → ℕ → ℕ
both_shifted a l r = bit_or (shifted_left a l) (shifted_right a r)

module _ (x : Code) (from to rd a l r : ℕ) (written : rd ≢ 0) (beside : rd ≢ 6) (other : a ≢ 6) where
  shifts_both : l < 64 → r < 64 → Then (One (Slli 6 a (pos l))) (Then (One (Srli rd a (pos r))) (One (Or rd 6 rd))) x from to →
      Leads 3 Always (λ s t. Makes rd (λ n. n ≡ both_shifted (s.registers a) l r) s t) x from to
  shifts_both h g d =
      leads_weaker
      (leads_then (leads_set x (Slli 6 a (pos l)) from d.0 6 (λ k. shifted_left (k a) l) (omega arith) (λ k pc. rw (six_bits l h) refl) d.1)
      (runs_of (leads_then (leads_set x (Srli rd a (pos r)) d.0 d.2.0 rd (λ k. shifted_right (k a) r) written (λ k pc. rw (six_bits r g) refl) d.2.1)
      (runs_of (leads_set x (Or rd 6 rd) d.2.0 to rd (λ k. bit_or (k 6) (k rd)) written (λ k pc. refl) d.2.2))
      (λ s t sound also p q. tt)))
      (λ s t sound also p q. tt))
      (omega arith) (λ s sound p. tt)
      (λ s z sound p k. all s k.0 k.2.0 z k.1 k.2.1 k.2.2)
    where
      all : (s t u z : State) → Sets 6 (shifted_left (s.registers a) l) s t → Sets rd (shifted_right (t.registers a) r) t u → Sets rd (bit_or (u.registers 6) (u.registers rd)) u z →
          Makes rd (λ n. n ≡ both_shifted (s.registers a) l r) s z
      all s t u z first second third =
          let six : u.registers 6 ≡ shifted_left (s.registers a) l =
          other_kept rd (shifted_right (t.registers a) r) 6 t u (λ e. beside (sym e)) second ∙ first.given
          in
          let word : t.registers a ≡ s.registers a = other_kept 6 (shifted_left (s.registers a) l) a s t other first in
          let low : u.registers rd ≡ shifted_right (s.registers a) r = second.given ∙ ap (λ (n : ℕ). shifted_right n r) word in
          record {
            given = third.given ∙ ap (λ (n : ℕ). bit_or n (u.registers rd)) six ∙ ap (bit_or (shifted_left (s.registers a) l)) low;
            keeps = beside_then rd s t z (six_beside s t first)
                (beside_then rd t u z (set_beside rd (shifted_right (t.registers a) r) t u second) (set_beside rd (bit_or (u.registers 6) (u.registers rd)) u z third));
          }
        where
          six_beside : (s t : State) → Sets 6 (shifted_left (s.registers a) l) s t → KeepsBeside rd s t
          six_beside s t sets = keeps_beside rd s t (set_keeps 6 (shifted_left (s.registers a) l) s t refl sets)

pub rotates_small : (x : Code) (from mid to k rd a n : ℕ) (o : Op2) (w : Width) → rd ≢ 0 → rd ≢ 6 → a ≢ 6 → IsTrue (is_rotation o) → RotlIsTwoShifts → RotrIsTwoShifts →
    left_by o w n < 64 → right_by o w n < 64 →
    Then (One (Slli 6 a (pos (left_by o w n)))) (Then (One (Srli rd a (pos (right_by o w n)))) (One (Or rd 6 rd))) x from mid →
    Runs 0 k Always (Narrows w rd) x mid to →
    Leads (3 + k) (λ m s. IsWord w (s.registers a) × IsWord w n) (λ s t. Makes rd (IsValue o w (s.registers a) n) s t) x from to
rotates_small x from mid to k rd a n o w written beside other is rotl rotr h g d narrows =
    leads_weaker (leads_then (shifts_both x from mid rd a (left_by o w n) (right_by o w n) written beside other h g d) narrows (λ s t sound also p q. tt)) (omega arith)
    (λ s sound words. tt)
    (λ s u sound words both. record {
      given = λ v has.
          both.2.given ∙ ap (low_bits w) both.1.given
          ∙ some_same (two_shifts w (s.registers a) (left_by o w n) (right_by o w n)) v (sym (rotation_law o is rotl rotr w (s.registers a) n words.0) ∙ has);
      keeps = beside_then rd s both.0 u both.1.keeps (set_beside rd (low_bits w (both.0.registers rd)) both.0 u both.2);
    })
