-- Comparisons at 64 bits by the six branches that there are: the other four with their operands turned.
use Rattle.std.proofs.Common.{◌≡◌, ℕ, ◌+◌, ◌<◌, ◌^◌, refl, sym, ◌∙◌, ap, subst, arith, ℤ, Some, None}
use Rattle.std.specs.Prelude.{Bool, true, false, not, int_lt, int_le, nat_lt, nat_le, IsTrue}
use Rattle.std.proofs.lemmas.Bool.Decides.{nat_tests}
use Rattle.std.proofs.lemmas.Int.{ints}
use Rattle.cmm_words.specs.Integers.{signed as word_signed}
use Rattle.cmm_words.specs.Laws.{IsWide, IsWideOfExtended}
use Rattle.cmm_words.specs.Words.{holds, sign_extended}
use Rattle.cmm_words.specs.declared.operators.Cmp.{Cmp}
use Rattle.cmm_words.specs.declared.operators.Cmp.TheVariants.{Eq, Ne, Lt, Le, Gt, Ge, Ltu, Leu, Gtu, Geu}
use Rattle.cmm_words.specs.Widths.{IsWord}
use Rattle.cmm_words.specs.declared.width.Width.{Width}
use Rattle.cmm_words.specs.declared.width.Width.TheVariants.{W8, W16, W32, W64}
use Rattle.rv_asm.specs.Assembly.{has_branch}
use Rattle.rv_asm.specs.Parts.{Code, Does, GoesTo, taken, way}
use Rattle.rv_asm.specs.declared.part.Label.{Label}
use Rattle.rv_asm.specs.declared.part.Part.TheVariants.{Branch}
use Rattle.rv_table.specs.Bounds.{IsSound}
use Rattle.rv_table.specs.Machine.{State}
use Rattle.rv_table.specs.Words.{is_less, signed}
use Rattle.cmm_effects.proofs.Shared.{goes_keeps, keeps_then, leads_then, leads_weaker, quiet_if_runs, reaches_more}
use Rattle.cmm_effects.specs.Pieces.{Runs}
use Rattle.cmm_select.proofs.InPlace.{passes_of, passes_weaker}
use Rattle.cmm_select.proofs.Operating.{Signs}
use Rattle.cmm_select.proofs.Wide.{signed_same}
use Rattle.cmm_select.specs.Going.{CanDecide}
use Rattle.cmm_select.specs.Operands.{BringsBoth, HasBoth, most_for, operand_at}
use Rattle.cmm_select.specs.Operators.{HaveWords, shifts_of}
use Rattle.cmm_select.specs.declared.operand.Operand.{Operand}
use Rattle.cmm_select.specs.inside.Comparing.{BranchesIn, Readies, ReadiesBoth, compares_integers, needs_signs, turned_of}
use Rattle.cmm_select.specs.inside.InPlace.{LocatesBoth}

-- ---- what a branch tells of two words

pub not_less : (x y : ℤ) → not (int_lt x y) ≡ int_le y x
not_less x y = grind (arith, ints, nat_tests)

pub less_same : (a b : ℕ) → a < 2 ^ 64 → b < 2 ^ 64 → is_less a b ≡ int_lt (word_signed 64 a) (word_signed 64 b)
less_same a b h g = ap (λ (z : ℤ). int_lt z (signed 64 b)) (signed_same a h) ∙ ap (int_lt (word_signed 64 a)) (signed_same b g)

pub not_below : (a b : ℕ) → not (nat_lt a b) ≡ nat_le b a
not_below a b = grind (arith, nat_tests)

pub straight_taken : (c : Cmp) → turned_of c ≡ None → (a b : ℕ) → a < 2 ^ 64 → b < 2 ^ 64 → taken c a b ≡ holds c W64 a b
straight_taken Eq is a b h g = refl
straight_taken Ne is a b h g = refl
straight_taken Lt is a b h g = less_same a b h g
straight_taken Ge is a b h g = ap not (less_same a b h g) ∙ not_less (word_signed 64 a) (word_signed 64 b)
straight_taken Ltu is a b h g = refl
straight_taken Geu is a b h g = not_below a b
straight_taken _ is a b h g = absurd (cc)

pub turned_taken : (c o : Cmp) → turned_of c ≡ Some o → (a b : ℕ) → a < 2 ^ 64 → b < 2 ^ 64 → taken o b a ≡ holds c W64 a b
turned_taken Le o is a b h g =
    let e : Ge ≡ o = cc in
    subst (λ (k : Cmp). taken k b a ≡ holds Le W64 a b) e (ap not (less_same b a g h) ∙ not_less (word_signed 64 b) (word_signed 64 a))
turned_taken Gt o is a b h g = let e : Lt ≡ o = cc in subst (λ (k : Cmp). taken k b a ≡ holds Gt W64 a b) e (less_same b a g h)
turned_taken Leu o is a b h g = let e : Geu ≡ o = cc in subst (λ (k : Cmp). taken k b a ≡ holds Leu W64 a b) e (not_below b a)
turned_taken Gtu o is a b h g = let e : Ltu ≡ o = cc in subst (λ (k : Cmp). taken k b a ≡ holds Gtu W64 a b) e refl
turned_taken _ o is a b h g = absurd (cc)

pub straight_branches : (c : Cmp) → turned_of c ≡ None → IsTrue (has_branch c)
straight_branches Eq is = refl
straight_branches Ne is = refl
straight_branches Lt is = refl
straight_branches Ge is = refl
straight_branches Ltu is = refl
straight_branches Geu is = refl
straight_branches _ is = absurd (cc)

pub turned_branches : (c o : Cmp) → turned_of c ≡ Some o → IsTrue (has_branch o)
turned_branches Le o is = let e : Ge ≡ o = cc in subst (λ (k : Cmp). IsTrue (has_branch k)) e refl
turned_branches Gt o is = let e : Lt ≡ o = cc in subst (λ (k : Cmp). IsTrue (has_branch k)) e refl
turned_branches Leu o is = let e : Geu ≡ o = cc in subst (λ (k : Cmp). IsTrue (has_branch k)) e refl
turned_branches Gtu o is = let e : Ltu ≡ o = cc in subst (λ (k : Cmp). IsTrue (has_branch k)) e refl
turned_branches _ o is = absurd (cc)

-- ---- a branch, where it stands

module _ (x : Code) (l : Label) (from to a b : ℕ) where
  branch_turns : (c o : Cmp) (p q : ℕ) → ((s : State) → IsSound s → taken o (s.registers p) (s.registers q) ≡ holds c W64 (s.registers a) (s.registers b)) →
      Does x (Branch o p q l) from to → BranchesIn c a b l x from to
  branch_turns c o p q is does = record {
    quiet = quiet_if_runs x from 1 3 (λ s t. GoesTo (way (taken o (s.registers p) (s.registers q)) (x.at l.number) to) s t) (omega arith) does;
    goes = record {
      go = λ s sound at always.
          reaches_more (does s at)
          (λ t goes. (goes.pc ∙ ap (λ (h : Bool). way h (x.at l.number) to) (is s sound), goes_keeps (way (taken o (s.registers p) (s.registers q)) (x.at l.number) to) s t goes));
    };
  }

  pub straight_branch : (c : Cmp) → turned_of c ≡ None → Does x (Branch c a b l) from to → BranchesIn c a b l x from to
  straight_branch c is does =
      branch_turns c c a b (λ s sound. straight_taken c is (s.registers a) (s.registers b) (sound.registers a) (sound.registers b)) does

  pub turned_branch : (c o : Cmp) → turned_of c ≡ Some o → Does x (Branch o b a l) from to → BranchesIn c a b l x from to
  turned_branch c o is does =
      branch_turns c o b a (λ s sound. turned_taken c o is (s.registers a) (s.registers b) (sound.registers a) (sound.registers b)) does

-- ---- words made ready for a comparison at 64 bits

pub as_they_are : (c : Cmp) → compares_integers c ≡ false → IsWide Eq → IsWide Ne → IsWide Ltu → IsWide Leu → IsWide Gtu → IsWide Geu → IsWide c
as_they_are Eq is eq ne ltu leu gtu geu = eq
as_they_are Ne is eq ne ltu leu gtu geu = ne
as_they_are Ltu is eq ne ltu leu gtu geu = ltu
as_they_are Leu is eq ne ltu leu gtu geu = leu
as_they_are Gtu is eq ne ltu leu gtu geu = gtu
as_they_are Geu is eq ne ltu leu gtu geu = geu
as_they_are _ is eq ne ltu leu gtu geu = absurd (cc)

pub with_their_sign : (c : Cmp) → compares_integers c ≡ true → IsWideOfExtended Lt → IsWideOfExtended Le → IsWideOfExtended Gt → IsWideOfExtended Ge → IsWideOfExtended c
with_their_sign Lt is lt le gt ge = lt
with_their_sign Le is lt le gt ge = le
with_their_sign Gt is lt le gt ge = gt
with_their_sign Ge is lt le gt ge = ge
with_their_sign _ is lt le gt ge = absurd (cc)

pub needs_none : (c : Cmp) (w : Width) → needs_signs c w ≡ false → IsWide Eq → IsWide Ne → IsWide Ltu → IsWide Leu → IsWide Gtu → IsWide Geu → (a b : ℕ) → IsWord w a → IsWord w b →
    holds c W64 a b ≡ holds c w a b
needs_none c W64 is eq ne ltu leu gtu geu a b h g = refl
needs_none c W8 is eq ne ltu leu gtu geu a b h g = sym (as_they_are c is eq ne ltu leu gtu geu W8 a b h g)
needs_none c W16 is eq ne ltu leu gtu geu a b h g = sym (as_they_are c is eq ne ltu leu gtu geu W16 a b h g)
needs_none c W32 is eq ne ltu leu gtu geu a b h g = sym (as_they_are c is eq ne ltu leu gtu geu W32 a b h g)

pub needs_both : (c : Cmp) (w : Width) → needs_signs c w ≡ true → compares_integers c ≡ true
needs_both c W64 is = absurd (cc (is))
needs_both c W8 is = is
needs_both c W16 is = is
needs_both c W32 is = is

module _ (x : Code) (c : Cmp) (w : Width) (left right : Operand) (from to : ℕ) where
  pub located_ready : (a b : ℕ) → ((m n : ℕ) → IsWord w m → IsWord w n → holds c W64 m n ≡ holds c w m n) → LocatesBoth left right a b x from to →
      ReadiesBoth c w left right a b x from to
  located_ready a b wide located =
      passes_weaker located (omega arith) (λ s sound can. can.brings)
      (λ s t sound can are. record {
        same = ap (λ (n : ℕ). holds c W64 n (t.registers b)) are.first
            ∙ (ap (holds c W64 (operand_at x.at left s)) are.second ∙ wide (operand_at x.at left s) (operand_at x.at right s) can.words.0 can.words.1);
        keeps = are.keeps;
      })

  pub signed_ready : (mid : ℕ) → IsWideOfExtended c → BringsBoth left right x from mid → Runs 0 (shifts_of w + shifts_of w) (HaveWords w) (Signs w) x mid to →
      ReadiesBoth c w left right 5 7 x from to
  signed_ready mid wide first second =
      passes_of (leads_weaker
      (leads_then
      (leads_weaker {R = CanDecide x.at w left right} {S = HasBoth x.at left right} {b = most_for left + most_for right} first (omega arith) (λ s sound can. can.brings) (λ s t sound can has. has))
      second
      (λ s t sound also can has. (subst (λ (k : ℕ). IsWord w k) (sym has.first) can.words.0, subst (λ (k : ℕ). IsWord w k) (sym has.second) can.words.1)))
      (omega arith) (λ s sound can. can)
      (λ s u sound can both. same s both.0 u can both.1 both.2))
    where
      same : (s t u : State) → CanDecide x.at w left right x.map s → HasBoth x.at left right s t → Signs w t u → Readies x.at c w left right 5 7 s u
      same s t u can has signs =
          let m = operand_at x.at left s in
          let n = operand_at x.at right s in
          record {
            same = ap (λ (k : ℕ). holds c W64 k (u.registers 7)) (signs.left ∙ ap (sign_extended w W64) has.first)
                ∙ (ap (holds c W64 (sign_extended w W64 m)) (signs.right ∙ ap (sign_extended w W64) has.second) ∙ sym (wide w m n can.words.0 can.words.1));
            keeps = keeps_then s t u has.keeps signs.keeps;
          }
