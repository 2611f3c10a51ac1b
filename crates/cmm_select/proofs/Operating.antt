-- An operator at a width is the operator of 64 bits and a cut, on words as they are or with their sign.
use Rattle.std.proofs.Common.{◌≡◌, ◌⊎◌, inl, inr, ℕ, ◌+◌, ◌/◌, ◌^◌, ◌<◌, ◌≤◌, refl, sym, ◌∙◌, ap, subst, arith, min, Some, None, Option}
use Rattle.std.specs.Prelude.{option_map, IsTrue}
use Rattle.std.proofs.Math.Nat.{div-eq_of_lt}
use Rattle.std.proofs.Math.Pow.{pow_mono}
use Rattle.std.proofs.lemmas.Bool.{cases_lt}
use Rattle.cmm_words.specs.Laws.{IsCut2, IsCutOfExtended, IsCutOfExtendedFirst}
use Rattle.cmm_words.specs.Widths.{IsWord, bits}
use Rattle.cmm_words.specs.Words.{low_bits, sign_extended, value2}
use Rattle.cmm_words.specs.declared.operators.Op2.{Op2}
use Rattle.cmm_words.specs.declared.operators.Op2.TheVariants as op
use Rattle.cmm_words.specs.declared.width.Width.{Width}
use Rattle.cmm_words.specs.declared.width.Width.TheVariants.{W8, W16, W32, W64}
use Rattle.rv_asm.specs.Parts.{Code}
use Rattle.rv_table.specs.Machine.{State}
use Rattle.cmm_effects.proofs.Shared.{keeps_then, leads_then, leads_weaker, runs_of, runs_then, runs_weaker, set_keeps}
use Rattle.cmm_effects.specs.Changes.{Keeps, Sets}
use Rattle.cmm_effects.specs.Pieces.{Always, Leads, Runs}
use Rattle.cmm_select.proofs.InPlace.{beside_then, set_beside}
use Rattle.cmm_select.proofs.Rotating.{OperatesUncut}
use Rattle.cmm_select.specs.Operators.{Extends, HasWord, HaveWords, Narrows, Operates}
use Rattle.cmm_select.specs.inside.InPlace.{IsValue, Makes}
use Rattle.cmm_select.specs.inside.Wide.{keeps_width, is_plain, is_shift, is_signed}

-- where a value is cut from one of 64 bits, there is that one
wide_value : (w : Width) (o : Option ℕ) (v : ℕ) → option_map (low_bits w) o ≡ Some v → (u : ℕ) × (o ≡ Some u) × (low_bits w u ≡ v)
wide_value w (Some u) v is = (u, refl, cc)
wide_value w None v is = absurd (cc)

module _ (x : Code) (from mid to n k : ℕ) (o : Op2) (w : Width) where
  pub cut_operates : IsCut2 o → Runs 0 n Always (Operates o W64) x from mid → Runs 0 k Always (Narrows w 5) x mid to →
      Runs 0 (n + k) (HaveWords w) (Operates o w) x from to
  cut_operates cut first second =
      runs_weaker (runs_then first second (λ s t sound also p q. tt)) (omega arith) (omega arith) (λ s sound words. tt)
      (λ s u sound words both. record {
        given = λ v is. cut_value s both.0 u v words both.1 both.2 is;
        keeps = keeps_then s both.0 u both.1.keeps (set_keeps 5 (low_bits w (both.0.registers 5)) both.0 u refl both.2);
      })
    where
      cut_value : (s t u : State) (v : ℕ) → HaveWords w x.map s → Operates o W64 s t → Narrows w 5 t u → value2 o w (s.registers 5) (s.registers 7) ≡ Some v →
          u.registers 5 ≡ v
      cut_value s t u v words operates narrows is =
          let wide = wide_value w (value2 o W64 (s.registers 5) (s.registers 7)) v (sym (cut w (s.registers 5) (s.registers 7) words.0 words.1) ∙ is) in
          narrows.given ∙ ap (low_bits w) (operates.given wide.0 wide.1) ∙ wide.2

-- an operator at a width is that of 64 bits, cut to the width
abbrev pub IsCutAt : Op2 → Width → Type 0
IsCutAt o w = (a b : ℕ) → IsWord w a → IsWord w b → value2 o w a b ≡ option_map (low_bits w) (value2 o W64 a b)

-- an operator on what two functions give
pub cut_makes : (f g : State → ℕ) (x : Code) (from mid to n k rd : ℕ) (o : Op2) (w : Width) → IsCutAt o w →
    Leads n Always (λ s t. Makes rd (IsValue o W64 (f s) (g s)) s t) x from mid → Runs 0 k Always (Narrows w rd) x mid to →
    Leads (n + k) (λ m s. IsWord w (f s) × IsWord w (g s)) (λ s t. Makes rd (IsValue o w (f s) (g s)) s t) x from to
cut_makes f g x from mid to n k rd o w cut first second =
    leads_weaker (leads_then first second (λ s t sound also p q. tt)) (omega arith) (λ s sound words. tt)
    (λ s u sound words both. record {
      given = λ v is. cut_value s both.0 u v words both.1 both.2 is;
      keeps = beside_then rd s both.0 u both.1.keeps (set_beside rd (low_bits w (both.0.registers rd)) both.0 u both.2);
    })
  where
    cut_value : (s t u : State) (v : ℕ) → IsWord w (f s) × IsWord w (g s) → Makes rd (IsValue o W64 (f s) (g s)) s t → Narrows w rd t u →
        value2 o w (f s) (g s) ≡ Some v → u.registers rd ≡ v
    cut_value s t u v words makes narrows is =
        let wide = wide_value w (value2 o W64 (f s) (g s)) v (sym (cut (f s) (g s) words.0 words.1) ∙ is) in
        narrows.given ∙ ap (low_bits w) (makes.given wide.0 wide.1) ∙ wide.2

-- an operator on a word with its sign and a number
pub signed_makes : (x : Code) (from one two to k rd a n : ℕ) (o : Op2) (w : Width) → IsCutOfExtendedFirst o →
    Leads 2 (HasWord w a) (λ s t. Sets rd (sign_extended w W64 (s.registers a)) s t) x from one → Leads 1 Always (λ s t. Makes rd (IsValue o W64 (s.registers rd) n) s t) x one two →
    Runs 0 k Always (Narrows w rd) x two to →
    Leads (3 + k) (λ m s. IsWord w (s.registers a) × IsWord w n) (λ s t. Makes rd (IsValue o w (s.registers a) n) s t) x from to
signed_makes x from one two to k rd a n o w cut first second third =
    leads_weaker
    (leads_then
    (leads_weaker {R = λ m s. IsWord w (s.registers a) × IsWord w n} {S = λ s t. Sets rd (sign_extended w W64 (s.registers a)) s t} {b = 2} first (omega arith)
    (λ s sound words. words.0) (λ s t sound words sets. sets))
    (runs_then (runs_of second) third (λ s t sound also p q. tt)) (λ s t sound also p q. tt))
    (omega arith) (λ s sound words. words)
    (λ s u sound words all. record {
      given = λ v is. cut_value s all.0 all.2.0 u v words all.1 all.2.1 all.2.2 is;
      keeps = beside_then rd s all.0 u (set_beside rd (sign_extended w W64 (s.registers a)) s all.0 all.1)
          (beside_then rd all.0 all.2.0 u all.2.1.keeps (set_beside rd (low_bits w (all.2.0.registers rd)) all.2.0 u all.2.2));
    })
  where
    cut_value : (s r t u : State) (v : ℕ) → IsWord w (s.registers a) × IsWord w n → Sets rd (sign_extended w W64 (s.registers a)) s r →
        Makes rd (IsValue o W64 (r.registers rd) n) r t → Narrows w rd t u → value2 o w (s.registers a) n ≡ Some v → u.registers rd ≡ v
    cut_value s r t u v words sets makes narrows is =
        let wide = wide_value w (value2 o W64 (sign_extended w W64 (s.registers a)) n) v (sym (cut w (s.registers a) n words.0 words.1) ∙ is) in
        narrows.given ∙ ap (low_bits w) (makes.given wide.0 (ap (λ (k : ℕ). value2 o W64 k n) sets.given ∙ wide.1)) ∙ wide.2

-- both words with their sign
pub record Signs (w : Width) (s t : State) : Type 0 where
  pub left : t.registers 5 ≡ sign_extended w W64 (s.registers 5)
  pub right : t.registers 7 ≡ sign_extended w W64 (s.registers 7)
  pub keeps : Keeps s t

module _ (x : Code) (w : Width) where
  pub both_signed : (from mid to n : ℕ) → Runs 0 n (HasWord w 5) (Extends w 5) x from mid → Runs 0 n (HasWord w 7) (Extends w 7) x mid to →
      Runs 0 (n + n) (HaveWords w) (Signs w) x from to
  both_signed from mid to n first second =
      runs_weaker
      (runs_then (runs_weaker {R = HaveWords w} {S = Extends w 5} {b = n} {k = 0} first (omega arith) (omega arith) (λ s sound words. words.0) (λ s t sound words extends. extends)) second
      (λ s t sound also words extends. right_word s t words extends))
      (omega arith) (omega arith) (λ s sound words. words)
      (λ s u sound words both. signs s both.0 u both.1 both.2)
    where
      right_word : (s t : State) → HaveWords w x.map s → Extends w 5 s t → HasWord w 7 x.map t
      right_word s t words extends = subst (λ (a : ℕ). IsWord w a) (sym (extends.others 7 refl)) words.1

      signs : (s t u : State) → Extends w 5 s t → Extends w 7 t u → Signs w s u
      signs s t u left right = record {
        left = right.others 5 refl ∙ left.given;
        right = right.given ∙ ap (sign_extended w W64) (left.others 7 refl);
        keeps = keeps_then s t u (set_keeps 5 (sign_extended w W64 (s.registers 5)) s t refl left) (set_keeps 7 (sign_extended w W64 (t.registers 7)) t u refl right);
      }

  pub signed_operates : (from one two to m n k : ℕ) (o : Op2) → IsCutOfExtended o → Runs 0 m (HaveWords w) (Signs w) x from one →
      Runs 0 n Always (Operates o W64) x one two → Runs 0 k Always (Narrows w 5) x two to → Runs 0 (m + (n + k)) (HaveWords w) (Operates o w) x from to
  signed_operates from one two to m n k o cut first second third =
      runs_weaker (runs_then first (runs_then second third (λ s t sound also p q. tt)) (λ s t sound also p q. tt)) (omega arith) (omega arith) (λ s sound words. words)
      (λ s u sound words all. record {
        given = λ v is. cut_value s all.0 all.2.0 u v words all.1 all.2.1 all.2.2 is;
        keeps = keeps_then s all.0 u all.1.keeps (keeps_then all.0 all.2.0 u all.2.1.keeps (set_keeps 5 (low_bits w (all.2.0.registers 5)) all.2.0 u refl all.2.2));
      })
    where
      cut_value : (s r t u : State) (v : ℕ) → HaveWords w x.map s → Signs w s r → Operates o W64 r t → Narrows w 5 t u →
          value2 o w (s.registers 5) (s.registers 7) ≡ Some v → u.registers 5 ≡ v
      cut_value s r t u v words signs operates narrows is =
          let a = sign_extended w W64 (s.registers 5) in
          let b = sign_extended w W64 (s.registers 7) in
          let wide = wide_value w (value2 o W64 a b) v (sym (cut w (s.registers 5) (s.registers 7) words.0 words.1) ∙ is) in
          let operands : value2 o W64 (r.registers 5) (r.registers 7) ≡ value2 o W64 a b =
          ap (λ (n : ℕ). value2 o W64 n (r.registers 7)) signs.left ∙ ap (value2 o W64 a) signs.right
          in
          narrows.given ∙ ap (low_bits w) (operates.given wide.0 (operands ∙ wide.1)) ∙ wide.2

-- ---- which law an operator has

-- a shift to the right by a word's bits or more leaves nothing of it
right_same : (k a b : ℕ) → a < 2 ^ k → k ≤ 64 → a / 2 ^ min b k ≡ a / 2 ^ min b 64
right_same k a b word most = by (cases_lt b k)
  where
    by : (b < k) ⊎ (k ≤ b) → a / 2 ^ min b k ≡ a / 2 ^ min b 64
    by (inl h) =
        let e : min b k ≡ b = grind (arith, h) in
        let f : min b 64 ≡ b = grind (arith, h, most) in
        ap (λ (n : ℕ). a / 2 ^ n) (e ∙ sym f)
    by (inr h) =
        let e : min b k ≡ k = grind (arith, h) in
        let f : k ≤ min b 64 = grind (arith, h, most) in
        let g : 2 ^ k ≤ 2 ^ min b 64 = pow_mono f in
        ap (λ (n : ℕ). a / 2 ^ n) e ∙ div-eq_of_lt word ∙ sym (div-eq_of_lt (omega (arith, word, g)))

bits_most : (w : Width) → bits w ≤ 64
bits_most W8 = omega arith
bits_most W16 = omega arith
bits_most W32 = omega arith
bits_most W64 = omega arith

-- what has the same value at 64 bits needs no cut
same_value : (o : Op2) → IsTrue (keeps_width o) → (w : Width) (a b : ℕ) → IsWord w a → value2 o w a b ≡ value2 o W64 a b
same_value op.And is w a b word = refl
same_value op.Or is w a b word = refl
same_value op.Xor is w a b word = refl
same_value op.Shrl is w a b word = ap (λ (n : ℕ). Some n) (right_same (bits w) a b word (bits_most w))
same_value op.Divu is w a b word = refl
same_value op.Modu is w a b word = refl
same_value _ is w a b word = absurd (cc)

pub kept_operates : (x : Code) (from to n m : ℕ) (o : Op2) (w : Width) → IsTrue (keeps_width o) → n ≤ m → Runs 0 n Always (Operates o W64) x from to →
    Runs 0 m (HaveWords w) (Operates o w) x from to
kept_operates x from to n m o w is le runs =
    runs_weaker runs (omega arith) le (λ s sound words. tt)
    (λ s t sound words operates. record {
      given = λ v value. operates.given v (sym (same_value o is w (s.registers 5) (s.registers 7) words.0) ∙ value);
      keeps = operates.keeps;
    })

pub kept_makes : (f g : State → ℕ) (x : Code) (from to n m rd : ℕ) (o : Op2) (w : Width) → IsTrue (keeps_width o) → n ≤ m →
    Leads n Always (λ s t. Makes rd (IsValue o W64 (f s) (g s)) s t) x from to →
    Leads m (λ y s. IsWord w (f s) × IsWord w (g s)) (λ s t. Makes rd (IsValue o w (f s) (g s)) s t) x from to
kept_makes f g x from to n m rd o w is le leads =
    leads_weaker leads le (λ s sound words. tt)
    (λ s t sound words makes. record { given = λ v value. makes.given v (sym (same_value o is w (f s) (g s) words.0) ∙ value); keeps = makes.keeps })

pub plain_cut : (o : Op2) → IsTrue (is_plain o) → IsCut2 op.Add → IsCut2 op.Sub → IsCut2 op.Mul → IsCut2 op.And → IsCut2 op.Or → IsCut2 op.Xor →
    IsCut2 op.Divu → IsCut2 op.Modu → IsCut2 o
plain_cut op.Add is add sub mul and or xor divu modu = add
plain_cut op.Sub is add sub mul and or xor divu modu = sub
plain_cut op.Mul is add sub mul and or xor divu modu = mul
plain_cut op.And is add sub mul and or xor divu modu = and
plain_cut op.Or is add sub mul and or xor divu modu = or
plain_cut op.Xor is add sub mul and or xor divu modu = xor
plain_cut op.Divu is add sub mul and or xor divu modu = divu
plain_cut op.Modu is add sub mul and or xor divu modu = modu
plain_cut _ is add sub mul and or xor divu modu = absurd (cc)

pub shift_cut : (o : Op2) → IsTrue (is_shift o) → IsCut2 op.Shl → IsCut2 op.Shrl → IsCut2 o
shift_cut op.Shl is shl shrl = shl
shift_cut op.Shrl is shl shrl = shrl
shift_cut _ is shl shrl = absurd (cc)

pub signed_cut : (o : Op2) → IsTrue (is_signed o) → IsCutOfExtended op.Quot → IsCutOfExtended op.Rem → IsCutOfExtended o
signed_cut op.Quot is quot rem = quot
signed_cut op.Rem is quot rem = rem
signed_cut _ is quot rem = absurd (cc)

-- an operator whose value is only to be cut, and one that takes its first word with its sign
module _ (x : Code) (w : Width) where
  pub uncut_operates : (from mid to n k : ℕ) (o : Op2) → Runs 0 n (HaveWords w) (OperatesUncut o w) x from mid → Runs 0 k Always (Narrows w 5) x mid to →
      Runs 0 (n + k) (HaveWords w) (Operates o w) x from to
  uncut_operates from mid to n k o first second =
      runs_weaker (runs_then first second (λ s t sound also p q. tt)) (omega arith) (omega arith) (λ s sound words. words)
      (λ s u sound words both. record {
        given = λ v is. both.2.given ∙ both.1.given v is;
        keeps = keeps_then s both.0 u both.1.keeps (set_keeps 5 (low_bits w (both.0.registers 5)) both.0 u refl both.2);
      })

  pub first_operates : (from one two to m n k : ℕ) (o : Op2) → IsCutOfExtendedFirst o → Runs 0 m (HasWord w 5) (Extends w 5) x from one →
      Runs 0 n Always (Operates o W64) x one two → Runs 0 k Always (Narrows w 5) x two to → Runs 0 (m + (n + k)) (HaveWords w) (Operates o w) x from to
  first_operates from one two to m n k o cut first second third =
      runs_weaker
      (runs_then (runs_weaker {R = HaveWords w} {S = Extends w 5} {b = m} {k = 0} first (omega arith) (omega arith) (λ s sound words. words.0) (λ s t sound words extends. extends))
      (runs_then second third (λ s t sound also p q. tt)) (λ s t sound also p q. tt))
      (omega arith) (omega arith) (λ s sound words. words)
      (λ s u sound words all. record {
        given = λ v is. cut_value s all.0 all.2.0 u v words all.1 all.2.1 all.2.2 is;
        keeps = keeps_then s all.0 u (set_keeps 5 (sign_extended w W64 (s.registers 5)) s all.0 refl all.1) (keeps_then all.0 all.2.0 u all.2.1.keeps (set_keeps 5 (low_bits w (all.2.0.registers 5)) all.2.0 u refl all.2.2));
      })
    where
      cut_value : (s r t u : State) (v : ℕ) → HaveWords w x.map s → Extends w 5 s r → Operates o W64 r t → Narrows w 5 t u →
          value2 o w (s.registers 5) (s.registers 7) ≡ Some v → u.registers 5 ≡ v
      cut_value s r t u v words extends operates narrows is =
          let a = sign_extended w W64 (s.registers 5) in
          let b = s.registers 7 in
          let wide = wide_value w (value2 o W64 a b) v (sym (cut w (s.registers 5) b words.0 words.1) ∙ is) in
          let operands : value2 o W64 (r.registers 5) (r.registers 7) ≡ value2 o W64 a b =
          ap (λ (n : ℕ). value2 o W64 n (r.registers 7)) extends.given ∙ ap (value2 o W64 a) (extends.others 7 refl)
          in
          narrows.given ∙ ap (low_bits w) (operates.given wide.0 (operands ∙ wide.1)) ∙ wide.2
