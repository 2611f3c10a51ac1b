-- Rotations as two shifts, by what the count leaves of the width and by the rest of the width.
use Rattle.std.proofs.Common.{◌≡◌, ℕ, ◌-◌, ◌%◌, ◌<◌, refl, sym, ◌∙◌, ap, arith, pos, negsuc, Some}
use Rattle.std.specs.Prelude.{bit_and, bit_or}
use Rattle.std.proofs.lemmas.Nat.{and_mask}
use Rattle.cmm_words.specs.Laws.{RotlIsTwoShifts, RotrIsTwoShifts, two_shifts}
use Rattle.cmm_words.specs.Widths.{bits}
use Rattle.cmm_words.specs.Words.{low_bits, value2}
use Rattle.cmm_words.specs.declared.operators.Op2.{Op2}
use Rattle.cmm_words.specs.declared.operators.Op2.TheVariants as op
use Rattle.cmm_words.specs.declared.width.Width.{Width}
use Rattle.cmm_words.specs.declared.width.Width.TheVariants.{W8, W16, W32, W64}
use Rattle.rv_asm.specs.Appending.{Then}
use Rattle.rv_asm.specs.Parts.{Code}
use Rattle.rv_table.specs.Machine.{State}
use Rattle.rv_table.specs.Row.{row}
use Rattle.rv_table.specs.Words.{difference, modulo, shifted_left, shifted_right, sum}
use Rattle.rv_table.specs.declared.effects.Effect.TheVariants.{Set}
use Rattle.rv_table.specs.declared.instruction.Instr.{Instr}
use Rattle.rv_table.specs.declared.instruction.Instr.TheVariants.{Addi, Andi, Or, Sll, Srl, Sub}
use Rattle.cmm_effects.proofs.Shared.{keeps_then, leads_set, leads_then, leads_weaker, runs_of, set_keeps}
use Rattle.cmm_effects.specs.Changes.{Keeps, Sets}
use Rattle.cmm_effects.specs.Pieces.{Always, Leads}
use Rattle.cmm_select.proofs.Places.{One}
use Rattle.cmm_select.proofs.Wide.{some_same}
use Rattle.cmm_select.specs.Operators.{HaveWords}

-- the count by which a word is rotated
masked : (w : Width) (b : ℕ) → bit_and b (modulo 64 (pos (bits w - 1))) ≡ b % bits w
masked W8 b = and_mask b 3
masked W16 b = and_mask b 4
masked W32 b = and_mask b 5
masked W64 b = and_mask b 6

count_small : (w : Width) (b : ℕ) → b % bits w < bits w
count_small W8 b = omega arith
count_small W16 b = omega arith
count_small W32 b = omega arith
count_small W64 b = omega arith

count_kept : (w : Width) (l : ℕ) → l < bits w → l % 64 ≡ l
count_kept W8 l h = omega arith
count_kept W16 l h = omega arith
count_kept W32 l h = omega arith
count_kept W64 l h = omega arith

-- and what it leaves of the width, for a shift, which takes it modulo 64
left_over : (w : Width) (l : ℕ) → l < bits w → difference 0 (sum l (modulo 64 (negsuc (bits w - 1)))) % 64 ≡ (bits w - l) % 64
left_over W8 l h = omega arith
left_over W16 l h = omega arith
left_over W32 l h = omega arith
left_over W64 l h = omega arith

-- a value that is still to be cut to its width
pub record OperatesUncut (o : Op2) (w : Width) (s t : State) : Type 0 where
  pub given : (v : ℕ) → value2 o w (s.registers 5) (s.registers 7) ≡ Some v → low_bits w (t.registers 5) ≡ v
  pub keeps : Keeps s t

-- the count, one shift by it, the rest of the width, the other shift by that, and both together
abbrev pub Rotation : Width → Instr → Instr → Instr → Code → ℕ → ℕ → Type 0
Rotation w one other both =
    Then (One (Andi 7 7 (pos (bits w - 1)))) (Then (One one) (Then (One (Addi 7 7 (negsuc (bits w - 1)))) (Then (One (Sub 7 0 7)) (Then (One other) (One both)))))

module _ (x : Code) (from to : ℕ) (w : Width) where
  -- f shifts by the count, g by the rest, and h puts both together
  rotates : (one other both : Instr) (f g h : ℕ → ℕ → ℕ) → ((r : ℕ → ℕ) (pc : ℕ) → row r pc one ≡ Set 6 (f (r 5) (r 7 % 64))) →
      ((r : ℕ → ℕ) (pc : ℕ) → row r pc other ≡ Set 5 (g (r 5) (r 7 % 64))) → ((r : ℕ → ℕ) (pc : ℕ) → row r pc both ≡ Set 5 (h (r 6) (r 5))) →
      Rotation w one other both x from to →
      Leads 6 Always (λ s t. (t.registers 5 ≡ h (f (s.registers 5) (s.registers 7 % bits w)) (g (s.registers 5) ((bits w - s.registers 7 % bits w) % 64))) × Keeps s t) x from to
  rotates one other both f g h is_one is_other is_both d =
      leads_weaker
      (leads_then (leads_set x (Andi 7 7 (pos (bits w - 1))) from d.0 7 (λ r. bit_and (r 7) (modulo 64 (pos (bits w - 1)))) (omega arith) (λ r pc. refl) d.1)
      (runs_of (leads_then (leads_set x one d.0 d.2.0 6 (λ r. f (r 5) (r 7 % 64)) (omega arith) is_one d.2.1)
      (runs_of (leads_then (leads_set x (Addi 7 7 (negsuc (bits w - 1))) d.2.0 d.2.2.0 7 (λ r. sum (r 7) (modulo 64 (negsuc (bits w - 1)))) (omega arith) (λ r pc. refl) d.2.2.1)
      (runs_of (leads_then (leads_set x (Sub 7 0 7) d.2.2.0 d.2.2.2.0 7 (λ r. difference (r 0) (r 7)) (omega arith) (λ r pc. refl) d.2.2.2.1)
      (runs_of (leads_then (leads_set x other d.2.2.2.0 d.2.2.2.2.0 5 (λ r. g (r 5) (r 7 % 64)) (omega arith) is_other d.2.2.2.2.1)
      (runs_of (leads_set x both d.2.2.2.2.0 to 5 (λ r. h (r 6) (r 5)) (omega arith) is_both d.2.2.2.2.2))
      (λ s t sound also p q. tt))) (λ s t sound also p q. tt))) (λ s t sound also p q. tt))) (λ s t sound also p q. tt))) (λ s t sound also p q. tt))
      (omega arith) (λ s sound p. tt)
      (λ s z sound p k. all s k.0 k.2.0 k.2.2.0 k.2.2.2.0 k.2.2.2.2.0 z sound.zero k.1 k.2.1 k.2.2.1 k.2.2.2.1 k.2.2.2.2.1 k.2.2.2.2.2)
    where
      all : (s a b c e q z : State) → s.registers 0 ≡ 0 → Sets 7 (bit_and (s.registers 7) (modulo 64 (pos (bits w - 1)))) s a → Sets 6 (f (a.registers 5) (a.registers 7 % 64)) a b →
          Sets 7 (sum (b.registers 7) (modulo 64 (negsuc (bits w - 1)))) b c → Sets 7 (difference (c.registers 0) (c.registers 7)) c e →
          Sets 5 (g (e.registers 5) (e.registers 7 % 64)) e q → Sets 5 (h (q.registers 6) (q.registers 5)) q z →
          (z.registers 5 ≡ h (f (s.registers 5) (s.registers 7 % bits w)) (g (s.registers 5) ((bits w - s.registers 7 % bits w) % 64))) × Keeps s z
      all s a b c e q z none first second third fourth fifth sixth =
          let l = s.registers 7 % bits w in
          let small = count_small w (s.registers 7) in
          let count : a.registers 7 ≡ l = first.given ∙ masked w (s.registers 7) in
          let one_by : a.registers 7 % 64 ≡ l = ap (λ (n : ℕ). n % 64) count ∙ count_kept w l small in
          let shifted : q.registers 6 ≡ f (s.registers 5) l =
          fifth.others 6 refl ∙ fourth.others 6 refl ∙ third.others 6 refl ∙ second.given ∙ ap (λ (n : ℕ). f n (a.registers 7 % 64)) (first.others 5 refl) ∙ ap (f (s.registers 5)) one_by
          in
          let zero_there : c.registers 0 ≡ 0 = third.others 0 refl ∙ second.others 0 refl ∙ first.others 0 refl ∙ none in
          let rest : e.registers 7 % 64 ≡ (bits w - l) % 64 =
          ap (λ (n : ℕ). n % 64) (fourth.given ∙ ap (λ (n : ℕ). difference n (c.registers 7)) zero_there
          ∙ ap (difference 0) (third.given ∙ ap (λ (n : ℕ). sum n (modulo 64 (negsuc (bits w - 1)))) (second.others 7 refl ∙ count)))
          ∙ left_over w l small
          in
          let word : e.registers 5 ≡ s.registers 5 = fourth.others 5 refl ∙ third.others 5 refl ∙ second.others 5 refl ∙ first.others 5 refl in
          let back : q.registers 5 ≡ g (s.registers 5) ((bits w - l) % 64) =
          fifth.given ∙ ap (λ (n : ℕ). g n (e.registers 7 % 64)) word ∙ ap (g (s.registers 5)) rest
          in (
            sixth.given ∙ ap (λ (n : ℕ). h n (q.registers 5)) shifted ∙ ap (h (f (s.registers 5) l)) back,
            keeps_then s a z (set_keeps 7 (bit_and (s.registers 7) (modulo 64 (pos (bits w - 1)))) s a refl first)
                (keeps_then a b z (set_keeps 6 (f (a.registers 5) (a.registers 7 % 64)) a b refl second)
                (keeps_then b c z (set_keeps 7 (sum (b.registers 7) (modulo 64 (negsuc (bits w - 1)))) b c refl third)
                (keeps_then c e z (set_keeps 7 (difference (c.registers 0) (c.registers 7)) c e refl fourth)
                (keeps_then e q z (set_keeps 5 (g (e.registers 5) (e.registers 7 % 64)) e q refl fifth) (set_keeps 5 (h (q.registers 6) (q.registers 5)) q z refl sixth))))),
          )

  pub rotates_left : RotlIsTwoShifts → Rotation w (Sll 6 5 7) (Srl 5 5 7) (Or 5 6 5) x from to → Leads 6 (HaveWords w) (OperatesUncut op.Rotl w) x from to
  rotates_left law d =
      leads_weaker (rotates (Sll 6 5 7) (Srl 5 5 7) (Or 5 6 5) shifted_left shifted_right bit_or (λ r pc. refl) (λ r pc. refl) (λ r pc. refl) d) (omega arith)
      (λ s sound words. tt)
      (λ s t sound words both. record {
        given = λ v is.
            ap (low_bits w) both.0
            ∙ some_same (two_shifts w (s.registers 5) (s.registers 7 % bits w) ((bits w - s.registers 7 % bits w) % 64)) v (sym (law w (s.registers 5) (s.registers 7) words.0) ∙ is);
        keeps = both.1;
      })

  pub rotates_right : RotrIsTwoShifts → Rotation w (Srl 6 5 7) (Sll 5 5 7) (Or 5 5 6) x from to → Leads 6 (HaveWords w) (OperatesUncut op.Rotr w) x from to
  rotates_right law d =
      leads_weaker (rotates (Srl 6 5 7) (Sll 5 5 7) (Or 5 5 6) shifted_right shifted_left (λ n m. bit_or m n) (λ r pc. refl) (λ r pc. refl) (λ r pc. refl) d) (omega arith)
      (λ s sound words. tt)
      (λ s t sound words both. record {
        given = λ v is.
            ap (low_bits w) both.0
            ∙ some_same (two_shifts w (s.registers 5) ((bits w - s.registers 7 % bits w) % 64) (s.registers 7 % bits w)) v (sym (law w (s.registers 5) (s.registers 7) words.0) ∙ is);
        keeps = both.1;
      })
