-- Comparisons as numbers: at 64 bits one is an instruction, or the contrary of another.
use Rattle.std.proofs.Common.{◌≡◌, ◌≢◌, ℕ, ◌<◌, ◌^◌, refl, ◌∙◌, ap, subst, arith, pos, Some, None}
use Rattle.std.specs.Prelude.{Bool, true, false, not, ◌==◌, nat_lt, bit_xor}
use Rattle.std.proofs.lemmas.Bool.Decides.{nat_tests}
use Rattle.cmm_words.specs.Integers.{signed as word_signed}
use Rattle.cmm_words.specs.Words.{holds}
use Rattle.cmm_words.specs.declared.operators.Cmp.{Cmp}
use Rattle.cmm_words.specs.declared.operators.Cmp.TheVariants.{Eq, Ne, Lt, Le, Gt, Ge, Ltu, Leu, Gtu, Geu}
use Rattle.cmm_words.specs.declared.width.Width.TheVariants.{W64}
use Rattle.rv_asm.specs.Appending.{Then}
use Rattle.rv_asm.specs.Parts.{Code}
use Rattle.rv_table.specs.Row.{row}
use Rattle.rv_table.specs.Words.{difference, flag, is_less, modulo}
use Rattle.rv_table.specs.declared.effects.Effect.TheVariants.{Set}
use Rattle.rv_table.specs.declared.instruction.Instr.{Instr}
use Rattle.rv_table.specs.declared.instruction.Instr.TheVariants.{Sltiu, Sub, Xori}
use Rattle.cmm_effects.proofs.Shared.{leads_set, leads_then, leads_weaker, runs_of}
use Rattle.cmm_select.proofs.Deciding.{less_same, not_below, not_less}
use Rattle.cmm_select.proofs.InPlace.{beside_then, set_beside}
use Rattle.cmm_select.proofs.Places.{One}
use Rattle.cmm_select.specs.inside.Comparing.{TellsIn, contrary_of, less_of}

contrary_holds : (c o : Cmp) → contrary_of c ≡ Some o → (a b : ℕ) → not (holds o W64 a b) ≡ holds c W64 a b
contrary_holds Ne o is a b = let e : Eq ≡ o = cc in subst (λ (k : Cmp). not (holds k W64 a b) ≡ holds Ne W64 a b) e refl
contrary_holds Le o is a b = let e : Gt ≡ o = cc in subst (λ (k : Cmp). not (holds k W64 a b) ≡ holds Le W64 a b) e (not_less (word_signed 64 b) (word_signed 64 a))
contrary_holds Ge o is a b = let e : Lt ≡ o = cc in subst (λ (k : Cmp). not (holds k W64 a b) ≡ holds Ge W64 a b) e (not_less (word_signed 64 a) (word_signed 64 b))
contrary_holds Leu o is a b = let e : Gtu ≡ o = cc in subst (λ (k : Cmp). not (holds k W64 a b) ≡ holds Leu W64 a b) e (not_below b a)
contrary_holds Geu o is a b = let e : Ltu ≡ o = cc in subst (λ (k : Cmp). not (holds k W64 a b) ≡ holds Geu W64 a b) e (not_below a b)
contrary_holds _ o is a b = absurd (cc)

pub contrary_is_plain : (c o : Cmp) → contrary_of c ≡ Some o → contrary_of o ≡ None
contrary_is_plain Ne o is = let e : Eq ≡ o = cc in subst (λ (k : Cmp). contrary_of k ≡ None) e refl
contrary_is_plain Le o is = let e : Gt ≡ o = cc in subst (λ (k : Cmp). contrary_of k ≡ None) e refl
contrary_is_plain Ge o is = let e : Lt ≡ o = cc in subst (λ (k : Cmp). contrary_of k ≡ None) e refl
contrary_is_plain Leu o is = let e : Gtu ≡ o = cc in subst (λ (k : Cmp). contrary_of k ≡ None) e refl
contrary_is_plain Geu o is = let e : Ltu ≡ o = cc in subst (λ (k : Cmp). contrary_of k ≡ None) e refl
contrary_is_plain _ o is = absurd (cc)

pub flag_turned : (h : Bool) → bit_xor (flag h) (modulo 64 (pos 1)) ≡ flag (not h)
flag_turned true = refl
flag_turned false = refl

pub same_by_difference : (a b : ℕ) → a < 2 ^ 64 → b < 2 ^ 64 → nat_lt (difference a b) (modulo 64 (pos 1)) ≡ (a == b)
same_by_difference a b h g = grind (arith, nat_tests)

module _ (x : Code) (from to rd a b : ℕ) (written : rd ≢ 0) where
  tells_by : (c : Cmp) (i : Instr) (test : ℕ → ℕ → Bool) → ((m n : ℕ) → m < 2 ^ 64 → n < 2 ^ 64 → test m n ≡ holds c W64 m n) →
      ((r : ℕ → ℕ) (pc : ℕ) → row r pc i ≡ Set rd (flag (test (r a) (r b)))) → One i x from to → TellsIn 2 c rd a b x from to
  tells_by c i test holds_so is does =
      leads_weaker (leads_set x i from to rd (λ r. flag (test (r a) (r b))) written is does) (omega arith) (λ s sound p. tt)
      (λ s t sound p sets. record {
        given = sets.given ∙ ap flag (holds_so (s.registers a) (s.registers b) (sound.registers a) (sound.registers b));
        keeps = set_beside rd (flag (test (s.registers a) (s.registers b))) s t sets;
      })

  -- one word is less than the other
  pub tells_less : (c : Cmp) → contrary_of c ≡ None → c ≢ Eq → One (less_of c rd a b) x from to → TellsIn 2 c rd a b x from to
  tells_less Lt is other does = tells_by Lt (less_of Lt rd a b) is_less less_same (λ r pc. refl) does
  tells_less Gt is other does = tells_by Gt (less_of Gt rd a b) (λ m n. is_less n m) (λ m n h g. less_same n m g h) (λ r pc. refl) does
  tells_less Ltu is other does = tells_by Ltu (less_of Ltu rd a b) nat_lt (λ m n h g. refl) (λ r pc. refl) does
  tells_less Gtu is other does = tells_by Gtu (less_of Gtu rd a b) (λ m n. nat_lt n m) (λ m n h g. refl) (λ r pc. refl) does
  tells_less Eq is other does = absurd (other refl)
  tells_less _ is other does = absurd (cc)

  -- their difference is less than 1
  pub tells_same : Then (One (Sub rd a b)) (One (Sltiu rd rd (pos 1))) x from to → TellsIn 2 Eq rd a b x from to
  tells_same does =
      leads_weaker
      (leads_then
      (leads_set x (Sub rd a b) from does.0 rd (λ r. difference (r a) (r b)) written (λ r pc. refl) does.1)
      (runs_of (leads_set x (Sltiu rd rd (pos 1)) does.0 to rd (λ r. flag (nat_lt (r rd) (modulo 64 (pos 1)))) written (λ r pc. refl) does.2))
      (λ s t sound also p q. tt))
      (omega arith) (λ s sound p. tt)
      (λ s u sound p both. record {
        given = both.2.given ∙ ap (λ (n : ℕ). flag (nat_lt n (modulo 64 (pos 1)))) both.1.given
            ∙ ap flag (same_by_difference (s.registers a) (s.registers b) (sound.registers a) (sound.registers b));
        keeps = beside_then rd s both.0 u (set_beside rd (difference (s.registers a) (s.registers b)) s both.0 both.1)
            (set_beside rd (flag (nat_lt (both.0.registers rd) (modulo 64 (pos 1)))) both.0 u both.2);
      })

  pub tells_contrary : (c o : Cmp) → contrary_of c ≡ Some o → Then (TellsIn 2 o rd a b) (One (Xori rd rd (pos 1))) x from to → TellsIn 3 c rd a b x from to
  tells_contrary c o is does =
      leads_weaker
      (leads_then does.1
      (runs_of (leads_set x (Xori rd rd (pos 1)) does.0 to rd (λ r. bit_xor (r rd) (modulo 64 (pos 1))) written (λ r pc. refl) does.2))
      (λ s t sound also p q. tt))
      (omega arith) (λ s sound p. tt)
      (λ s u sound p both. record {
        given = both.2.given ∙ ap (λ (n : ℕ). bit_xor n (modulo 64 (pos 1))) both.1.given ∙ flag_turned (holds o W64 (s.registers a) (s.registers b))
            ∙ ap flag (contrary_holds c o is (s.registers a) (s.registers b));
        keeps = beside_then rd s both.0 u both.1.keeps (set_beside rd (bit_xor (both.0.registers rd) (modulo 64 (pos 1))) both.0 u both.2);
      })
