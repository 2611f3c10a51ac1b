-- Operands are brought, something is done with them, and the number in register 5 is put somewhere.
use Rattle.std.proofs.Common.{◌≡◌, ℕ, ◌+◌, ◌*◌, sym, ◌∙◌, ap, subst, arith, Some}
use Rattle.std.specs.Prelude.{Bool, if◌then◌else◌}
use Rattle.cmm_words.specs.Widths.{IsWord}
use Rattle.cmm_words.specs.Words.{holds, low_bits, sign_extended, value2}
use Rattle.cmm_words.specs.declared.operators.Cmp.{Cmp}
use Rattle.cmm_words.specs.declared.operators.Op2.{Op2}
use Rattle.cmm_words.specs.declared.width.Width.{Width}
use Rattle.cmm_words.specs.declared.width.Width.TheVariants.{W8, W16, W32, W64}
use Rattle.rv_asm.specs.Appending.{Then}
use Rattle.rv_asm.specs.Parts.{Code}
use Rattle.rv_table.specs.Machine.{MemoryMap, State}
use Rattle.cmm_effects.proofs.Shared.{keeps_then, leads_then, leads_weaker, runs_of}
use Rattle.cmm_effects.specs.Accesses.{CanReachGlobal, global_at}
use Rattle.cmm_effects.specs.Changes.{Keeps, Sets}
use Rattle.cmm_effects.specs.Pieces.{Always, Leads, Runs}
use Rattle.cmm_select.proofs.Converting.{extended_cut, sign_cut, whole_cut}
use Rattle.cmm_select.proofs.InPlace.{beside_then, both_finished, brings_beside, home_has, keeps_beside, one_finished, passes_leads, set_beside, then_finished}
use Rattle.cmm_select.proofs.Keeping.{put_after, put_as, still_put}
use Rattle.cmm_select.specs.Assignments.{Assigns, AssignsBinary, AssignsComparison, AssignsOne, CanCopyGlobal, Copies}
use Rattle.cmm_select.specs.Destinations.{CanPut, PutsFrom, PutsTo}
use Rattle.cmm_select.specs.Operands.{AreWords, BringsBoth, BringsOperand, CanBringBoth, CanBringOperand, HasBoth, most_for, operand_at}
use Rattle.cmm_select.specs.Going.{CanDecide}
use Rattle.cmm_select.specs.Operators.{HasWord, HaveWords, Narrows, Operates, shifts_of}
use Rattle.cmm_select.specs.declared.destination.Destination.{Destination}
use Rattle.cmm_select.specs.declared.operand.Operand.{Operand}
use Rattle.cmm_select.specs.declared.operand.Operand.TheVariants.{Held}
use Rattle.cmm_select.specs.declared.source.Source.TheVariants.{Number}
use Rattle.cmm_select.specs.inside.Comparing.{Readies, ReadiesBoth, TellsIn}
use Rattle.cmm_select.specs.inside.InPlace.{Finishes, HaveWordsIn, IsValue, LocatesBoth, LocatesOperand, Makes, Tells01, home_of, target_of}

module _ (x : Code) {Q : State → State → Type 0} {n : ℕ} where
  -- something is in register 5, and then it is put
  pub then_put : {P : MemoryMap → State → Type 0} {from mid end : ℕ} (to : Destination) → Leads n P Q x from mid → ((s t : State) → Q s t → Keeps s t) →
      PutsFrom 5 to x mid end →
      Leads (n + 4) (λ m s. P m s × CanPut x.at to m s) (λ s u. (t : State) × Q s t × PutsTo x.at to (t.registers 5) s u) x from end
  then_put {P = P} to first keeps puts =
      leads_weaker
      (leads_then
      (leads_weaker {R = λ m s. P m s × CanPut x.at to m s} {S = Q} {b = n} first (omega arith) (λ s sound p. p.0) (λ s t sound p q. q))
      (runs_of puts)
      (λ s t sound also p q. still_put x.at to x.map s t (keeps s t q) p.1))
      (omega arith) (λ s sound p. p)
      (λ s u sound p both. (both.0, both.1, put_after x.at to (both.0.registers 5) s both.0 u (keeps s both.0 both.1) both.2))

  -- two are brought, and something is done with them
  pub both_then : {from mid end : ℕ} (w : Width) (left right : Operand) → BringsBoth left right x from mid → Runs 0 n (HaveWords w) Q x mid end →
      Leads (most_for left + most_for right + n) (λ m s. CanBringBoth left right m s × AreWords x.at w left right s)
      (λ s u. (t : State) × HasBoth x.at left right s t × Q t u) x from end
  both_then w left right first second =
      leads_then
      (leads_weaker {R = λ m s. CanBringBoth left right m s × AreWords x.at w left right s} {S = HasBoth x.at left right} {b = most_for left + most_for right} first (omega arith)
      (λ s sound p. p.0) (λ s t sound p q. q))
      second
      (λ s t sound also p has. (subst (λ (k : ℕ). IsWord w k) (sym has.first) p.1.0, subst (λ (k : ℕ). IsWord w k) (sym has.second) p.1.1))

module _ (x : Code) (to : Destination) (from end : ℕ) where
  -- what is in a register
  pub copies_home : (a : Operand) (r : ℕ) → home_of a ≡ Some r → PutsFrom r to x from end → Copies 4 a to x from end
  copies_home a r is puts =
      leads_weaker puts (omega arith) (λ s sound can. can.reaches)
      (λ s t sound can put. put_as x.at to (s.registers r) (operand_at x.at a s) s t (home_has x.at a r s sound.zero is) put)

  -- what is brought to the register of the destination
  pub copies_brought : (a : Operand) (rd : ℕ) → rd ≡ target_of to → Then (BringsOperand a rd) (Finishes to) x from end → Copies (most_for a + 4) a to x from end
  copies_brought a rd is does =
      leads_weaker
      (then_finished x (λ s k. k ≡ operand_at x.at a s) to
      (subst (λ (r : ℕ). Leads (most_for a) (CanBringOperand a) (λ s t. Makes r (λ k. k ≡ operand_at x.at a s) s t) x from does.0) is
      (leads_weaker does.1 (omega arith) (λ s sound can. can) (λ s t sound can brings. record { given = brings.given; keeps = brings_beside rd (operand_at x.at a s) s t brings })))
      does.2)
      (omega arith) (λ s sound can. (can.brings, can.reaches))
      (λ s u sound can all. put_as x.at to all.0 (operand_at x.at a s) s u all.1 all.2)

  -- a global register
  pub copies_global : (offset rd : ℕ) → rd ≡ target_of to → Then (λ x. Leads 4 (CanReachGlobal offset) (λ s t. Sets rd (global_at offset s) s t) x) (Finishes to) x from end →
      Leads 8 (CanCopyGlobal x.at offset to) (λ s t. PutsTo x.at to (global_at offset s) s t) x from end
  copies_global offset rd is does =
      leads_weaker
      (then_finished x (λ s k. k ≡ global_at offset s) to
      (subst (λ (r : ℕ). Leads 4 (CanReachGlobal offset) (λ s t. Makes r (λ k. k ≡ global_at offset s) s t) x from does.0) is
      (leads_weaker does.1 (omega arith) (λ s sound can. can) (λ s t sound can sets. record { given = sets.given; keeps = set_beside rd (global_at offset s) s t sets })))
      does.2)
      (omega arith) (λ s sound can. (can.reads, can.reaches))
      (λ s u sound can all. put_as x.at to all.0 (global_at offset s) s u all.1 all.2)

  -- what a function gives for an operand
  pub assigns_one : {n : ℕ} (w : Width) (value : ℕ → ℕ) (a : Operand) (rd r : ℕ) → rd ≡ target_of to →
      Then (LocatesOperand a 5 r) (Then (λ x. Leads n (HasWord w r) (λ s t. Makes rd (λ k. k ≡ value (s.registers r)) s t) x) (Finishes to)) x from end →
      AssignsOne (most_for a + n + 4) w value a to x from end
  assigns_one w value a rd r is does =
      leads_weaker (one_finished x (λ m n k. k ≡ value n) (λ m n. IsWord w n) a to is does.1 does.2.1 does.2.2) (omega arith)
      (λ s sound can. ((can.brings, can.word), can.reaches))
      (λ s u sound can all. put_as x.at to all.0 (value (operand_at x.at a s)) s u all.1 all.2)

  -- its low bits
  pub cuts_one : (v w : Width) (a : Operand) (rd r : ℕ) → rd ≡ target_of to →
      Then (LocatesOperand a 5 r) (Then (λ x. Leads 2 Always (λ s t. Sets rd (low_bits w (s.registers r)) s t) x) (Finishes to)) x from end →
      AssignsOne (most_for a + 2 + 4) v (low_bits w) a to x from end
  cuts_one v w a rd r is does =
      assigns_one v (low_bits w) a rd r is (
        does.0,
        does.1,
        (
          does.2.0,
          leads_weaker {R = HasWord v r} {S = λ s t. Makes rd (λ k. k ≡ low_bits w (s.registers r)) s t} {b = 2} does.2.1 (omega arith) (λ s sound p. tt)
              (λ s t sound p sets. record { given = sets.given; keeps = set_beside rd (low_bits w (s.registers r)) s t sets }),
          does.2.2,
        ),
      )

  pub copies_low : (v : Width) (a : Operand) → Copies (most_for a + 4) a to x from end → AssignsOne (most_for a + 4) v (low_bits W64) a to x from end
  copies_low v a copies =
      leads_weaker copies (omega arith) (λ s sound can. record { brings = can.brings; reaches = can.reaches })
      (λ s t sound can puts. put_as x.at to (operand_at x.at a s) (low_bits W64 (operand_at x.at a s)) s t (whole_cut (operand_at x.at a s) (word_64 v (operand_at x.at a s) can.word)) puts)
    where
      word_64 : (v : Width) (n : ℕ) → IsWord v n → IsWord W64 n
      word_64 W8 n h = omega (arith, h)
      word_64 W16 n h = omega (arith, h)
      word_64 W32 n h = omega (arith, h)
      word_64 W64 n h = h

  -- it with its sign at another width
  pub extends_one : (v w : Width) (a : Operand) (rd r : ℕ) → rd ≡ target_of to →
      Then (LocatesOperand a 5 r)
      (Then (λ x. Leads 2 (HasWord v r) (λ s t. Sets rd (sign_extended v W64 (s.registers r)) s t) x) (Then (λ x. Runs 0 (shifts_of w) Always (Narrows w rd) x) (Finishes to))) x from end →
      AssignsOne (most_for a + (2 + shifts_of w) + 4) v (sign_extended v w) a to x from end
  extends_one v w a rd r is does =
      assigns_one v (sign_extended v w) a rd r is
      (does.0, does.1, (does.2.2.0, extended_cut x does.0 does.2.0 does.2.2.0 rd r 2 (shifts_of w) v w does.2.1 does.2.2.1, does.2.2.2))

  pub extends_low : (w : Width) (a : Operand) → AssignsOne (most_for a + shifts_of w + 4) W64 (low_bits w) a to x from end →
      AssignsOne (most_for a + shifts_of w + 4) W64 (sign_extended W64 w) a to x from end
  extends_low w a low =
      leads_weaker low (omega arith) (λ s sound can. can)
      (λ s t sound can puts. put_as x.at to (low_bits w (operand_at x.at a s)) (sign_extended W64 w (operand_at x.at a s)) s t (sign_cut w (operand_at x.at a s) can.word) puts)

  module _ (w : Width) (left right : Operand) (n : ℕ) where
    pub assigns_binary : (op : Op2) → Then (BringsBoth left right) (Then (Runs 0 n (HaveWords w) (Operates op w)) (PutsFrom 5 to)) x from end →
        AssignsBinary (most_for left + most_for right + n + 4) op w left right to x from end
    assigns_binary op does =
        leads_weaker
        (then_put x to (both_then x w left right does.1 does.2.1) (λ s u both. keeps_then s both.0 u both.1.keeps both.2.keeps) does.2.2)
        (omega arith) (λ s sound can. ((can.brings, can.words), can.reaches))
        (λ s e sound can all. assigned s all.1.0 all.0 e all.1.1 all.1.2 all.2)
      where
        assigned : (s t u e : State) → HasBoth x.at left right s t → Operates op w t u → PutsTo x.at to (u.registers 5) s e → Assigns x.at op w left right to s e
        assigned s t u e has operates puts = record {
          number = u.registers 5;
          given = λ v h.
              operates.given v
              (ap (λ (a : ℕ). value2 op w a (t.registers 7)) has.first ∙ ap (λ (b : ℕ). value2 op w (operand_at x.at left s) b) has.second ∙ h);
          puts = puts;
        }

    pub assigns_in_place : (op : Op2) (rd a b : ℕ) → rd ≡ target_of to →
        Then (LocatesBoth left right a b)
        (Then (λ x. Leads n (HaveWordsIn w a b) (λ s t. Makes rd (IsValue op w (s.registers a) (s.registers b)) s t) x) (Finishes to)) x from end →
        AssignsBinary (most_for left + most_for right + n + 4) op w left right to x from end
    assigns_in_place op rd a b is does =
        leads_weaker (both_finished x (IsValue op w) w left right to is does.1 does.2.1 does.2.2) (omega arith)
        (λ s sound can. ((can.brings, can.words), can.reaches))
        (λ s u sound can all. record { number = all.0; given = all.1; puts = all.2 })

    pub assigns_small : (op : Op2) (rd r k : ℕ) → rd ≡ target_of to → right ≡ Held (Number k) →
        Then (LocatesOperand left 5 r)
        (Then (λ x. Leads n (λ m s. IsWord w (s.registers r) × IsWord w k) (λ s t. Makes rd (IsValue op w (s.registers r) k) s t) x) (Finishes to)) x from end →
        AssignsBinary (most_for left + n + 4) op w left right to x from end
    assigns_small op rd r k is same does =
        let number : (s : State) → operand_at x.at right s ≡ k = (λ s. ap (λ (a : Operand). operand_at x.at a s) same) in
        leads_weaker (one_finished x (λ m a. IsValue op w a k) (λ m a. IsWord w a × IsWord w k) left to is does.1 does.2.1 does.2.2) (omega arith)
        (λ s sound can. ((can.brings.brings_left, (can.words.0, subst (λ (a : ℕ). IsWord w a) (number s) can.words.1)), can.reaches))
        (λ s u sound can all. record {
          number = all.0;
          given = λ v has. all.1 v (ap (λ (a : ℕ). value2 op w (operand_at x.at left s) a) (sym (number s)) ∙ has);
          puts = all.2;
        })

    pub assigns_small_comparison : (c : Cmp) (rd r k : ℕ) → rd ≡ target_of to → right ≡ Held (Number k) →
        Then (LocatesOperand left 5 r)
        (Then (λ x. Leads n (λ m s. IsWord w (s.registers r)) (λ s t. Makes rd (Tells01 c w (s.registers r) k) s t) x) (Finishes to)) x from end →
        AssignsComparison (most_for left + n + 4) c w left right to x from end
    assigns_small_comparison c rd r k is same does =
        let number : (s : State) → operand_at x.at right s ≡ k = (λ s. ap (λ (a : Operand). operand_at x.at a s) same) in
        leads_weaker (one_finished x (λ m a. Tells01 c w a k) (λ m a. IsWord w a) left to is does.1 does.2.1 does.2.2) (omega arith)
        (λ s sound can. ((can.brings.brings_left, can.words.0), can.reaches))
        (λ s u sound can all. put_as x.at to all.0 (if holds c w (operand_at x.at left s) (operand_at x.at right s) then 1 else 0) s u
        (all.1 ∙ ap (λ (a : ℕ). if holds c w (operand_at x.at left s) a then 1 else 0) (sym (number s))) all.2)

    pub assigns_comparison : (c : Cmp) (rd a b : ℕ) → rd ≡ target_of to → Then (ReadiesBoth c w left right a b) (Then (TellsIn n c rd a b) (Finishes to)) x from end →
        AssignsComparison (most_for left + most_for right + 2 * shifts_of w + n + 4) c w left right to x from end
    assigns_comparison c rd a b is does =
        leads_weaker
        (then_finished x (λ s k. k ≡ (if holds c w (operand_at x.at left s) (operand_at x.at right s) then 1 else 0)) to
        (subst (λ (r : ℕ). Leads (most_for left + most_for right + 2 * shifts_of w + n) (CanDecide x.at w left right) (λ s t. Makes r (λ k. k ≡ (if holds c w (operand_at x.at left s) (operand_at x.at right s) then 1 else 0)) s t) x from does.2.0) is
        (leads_weaker (passes_leads does.1 does.2.1 (λ s t sound also can readies. tt)) (omega arith) (λ s sound can. can) (λ s u sound can both. told s both.0 u both.1 both.2)))
        does.2.2)
        (omega arith) (λ s sound can. (record { brings = can.brings; words = can.words }, can.reaches))
        (λ s u sound can all. put_as x.at to all.0 (if holds c w (operand_at x.at left s) (operand_at x.at right s) then 1 else 0) s u all.1 all.2)
      where
        told : (s t u : State) → Readies x.at c w left right a b s t → Makes rd (Tells01 c W64 (t.registers a) (t.registers b)) t u →
            Makes rd (λ k. k ≡ (if holds c w (operand_at x.at left s) (operand_at x.at right s) then 1 else 0)) s u
        told s t u readies makes = record {
          given = makes.given ∙ ap (λ (h : Bool). if h then 1 else 0) readies.same;
          keeps = beside_then rd s t u (keeps_beside rd s t readies.keeps) makes.keeps;
        }
