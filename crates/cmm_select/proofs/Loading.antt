-- Words of memory at operands' addresses.
use Rattle.std.proofs.Common.{◌≡◌, ℕ, ◌+◌, refl, sym, ◌∙◌, ap, subst, arith}
use Rattle.cmm_words.specs.Widths.{bytes}
use Rattle.cmm_words.specs.declared.width.Width.{Width}
use Rattle.rv_asm.specs.Appending.{Then}
use Rattle.rv_asm.specs.Parts.{Code}
use Rattle.rv_table.specs.Machine.{MemoryMap, State, loaded, stored}
use Rattle.cmm_effects.proofs.Shared.{keeps_then, leads_then, leads_weaker, runs_of}
use Rattle.cmm_effects.specs.Changes.{Writes}
use Rattle.cmm_effects.specs.Pieces.{Leads}
use Rattle.cmm_select.proofs.Gathering.{cell_alone, parts}
use Rattle.cmm_select.proofs.InPlace.{one_finished, passes_leads, passes_weaker}
use Rattle.cmm_select.proofs.Keeping.{brings_keeps, put_as}
use Rattle.cmm_select.proofs.Putting.{then_put}
use Rattle.cmm_select.specs.Cells.{IsCell, IsLoaded, Loads}
use Rattle.cmm_select.specs.Destinations.{PutsFrom, PutsTo}
use Rattle.cmm_select.specs.Memory.{AssignsLoaded, CanStore, IsCellBy, StoresWord, access_of, accesses}
use Rattle.cmm_select.specs.Operands.{Brings, BringsBoth, BringsOperand, CanBringOperand, HasBoth, most_for, operand_at}
use Rattle.cmm_select.specs.declared.destination.Destination.{Destination}
use Rattle.cmm_select.specs.declared.operand.Operand.{Operand}
use Rattle.cmm_select.specs.inside.InPlace.{AreIn, Finishes, LocatesBoth, LocatesOperand, Makes, target_of}

module _ (x : Code) (w : Width) (aligned : ℕ) (a : Operand) (n : ℕ) where
  -- the word may be loaded and stored at a register's address
  abbrev IsThere : MemoryMap → State → Type 0
  IsThere m s = IsCellBy (access_of w aligned) w (s.registers 5) m

  -- an address is brought, and the word there may be loaded
  abbrev CanLoad : MemoryMap → State → Type 0
  CanLoad m s = CanBringOperand a m s × IsCellBy (access_of w aligned) w (operand_at x.at a s) m

  abbrev HasLoaded : State → State → Type 0
  HasLoaded s u = (t : State) × Brings 5 (operand_at x.at a s) s t × Loads w t u

  loads_there : (from mid end : ℕ) → BringsOperand a 5 x from mid → Leads n IsThere (Loads w) x mid end → Leads (most_for a + n) CanLoad HasLoaded x from end
  loads_there from mid end first second =
      leads_then
      (leads_weaker {R = CanLoad} {S = λ s t. Brings 5 (operand_at x.at a s) s t} {b = most_for a} first (omega arith) (λ s sound can. can.0) (λ s t sound can brings. brings))
      (runs_of second)
      (λ s t sound also can brings. subst (λ (k : ℕ). IsCellBy (access_of w aligned) w k x.map) (sym brings.given) can.1)

  pub assigns_loaded : (to : Destination) (from end : ℕ) → Then (BringsOperand a 5) (Then (Leads n IsThere (Loads w)) (PutsFrom 5 to)) x from end →
      AssignsLoaded (most_for a + n + 4) w aligned a to x from end
  assigns_loaded to from end does =
      leads_weaker
      (then_put x to (loads_there from does.0 does.2.0 does.1 does.2.1)
      (λ s u both. keeps_then s both.0 u (brings_keeps 5 (operand_at x.at a s) s both.0 refl both.1) both.2.keeps)
      does.2.2)
      (omega arith) (λ s sound can. ((can.brings, can.cell), can.reaches))
      (λ s e sound can all. given s all.1.0 all.0 e all.1.1 all.1.2 all.2)
    where
      given : (s t u e : State) → Brings 5 (operand_at x.at a s) s t → Loads w t u → PutsTo x.at to (u.registers 5) s e →
          PutsTo x.at to (loaded s.memory (operand_at x.at a s) (bytes w)) s e
      given s t u e brings loads puts =
          put_as x.at to (u.registers 5) (loaded s.memory (operand_at x.at a s) (bytes w)) s e
          (loads.given
          ∙ ap (λ (m : ℕ → ℕ). loaded m (t.registers 5) (bytes w)) brings.memory
          ∙ ap (λ (k : ℕ). loaded s.memory k (bytes w)) brings.given) puts

  pub stores_word : (v : Operand) (from end : ℕ) → Then (BringsBoth a v) (Leads n IsThere (λ s t. Writes (s.registers 5) (bytes w) (s.registers 7) s t)) x from end →
      StoresWord (most_for a + most_for v + n) w aligned a v x from end
  stores_word v from end does =
      leads_weaker
      (leads_then
      (leads_weaker {R = CanStore x.at w aligned a v} {S = HasBoth x.at a v} {b = most_for a + most_for v} does.1 (omega arith) (λ s sound can. can.brings) (λ s t sound can has. has))
      (runs_of does.2)
      (λ s t sound also can has. subst (λ (k : ℕ). IsCellBy (access_of w aligned) w k x.map) (sym has.first) can.cell))
      (omega arith) (λ s sound can. can)
      (λ s u sound can both. written s both.0 u both.1 both.2)
    where
      written : (s t u : State) → HasBoth x.at a v s t → Writes (t.registers 5) (bytes w) (t.registers 7) t u →
          Writes (operand_at x.at a s) (bytes w) (operand_at x.at v s) s u
      written s t u has writes = record {
        registers = λ r h. writes.registers r h ∙ has.keeps.registers r h;
        memory =
            writes.memory
            ∙ ap (λ (m : ℕ → ℕ). stored m (t.registers 5) (bytes w) (t.registers 7)) has.keeps.memory
            ∙ ap (λ (k : ℕ). stored s.memory k (bytes w) (t.registers 7)) has.first
            ∙ ap (stored s.memory (operand_at x.at a s) (bytes w)) has.second;
      }

  -- by one access, where the operands are
  module _ (one : accesses w aligned ≡ 1) where
    alone : (k : ℕ) (m : MemoryMap) → IsCellBy (access_of w aligned) w k m → IsCell w m k
    alone k m cell = let made = parts w aligned in cell_alone (access_of w aligned) w m k (made.single one) made.some cell

    pub assigns_cell : (to : Destination) (from end rd base : ℕ) → rd ≡ target_of to →
        Then (LocatesOperand a 5 base) (Then (λ x. Leads 1 (λ m s. IsCell w m (s.registers base)) (λ s t. Makes rd (IsLoaded w s.memory (s.registers base)) s t) x) (Finishes to)) x from end →
        AssignsLoaded (most_for a + 1 + 4) w aligned a to x from end
    assigns_cell to from end rd base is does =
        leads_weaker (one_finished x (IsLoaded w) (IsCell w) a to is does.1 does.2.1 does.2.2) (omega arith)
        (λ s sound can. ((can.brings, alone (operand_at x.at a s) x.map can.cell), can.reaches))
        (λ s u sound can all. put_as x.at to all.0 (loaded s.memory (operand_at x.at a s) (bytes w)) s u all.1 all.2)

    pub stores_at : (v : Operand) (from end base r : ℕ) →
        Then (LocatesBoth a v base r) (λ x. Leads 1 (λ m s. IsCell w m (s.registers base)) (λ s t. Writes (s.registers base) (bytes w) (s.registers r) s t) x) x from end →
        StoresWord (most_for a + most_for v + 1) w aligned a v x from end
    stores_at v from end base r does =
        leads_weaker
        (passes_leads
        (passes_weaker {R = CanStore x.at w aligned a v} {S = AreIn x.at a v base r} {b = most_for a + most_for v} does.1 (omega arith) (λ s sound can. can.brings) (λ s t sound can are. are))
        does.2
        (λ s t sound also can are. subst (λ (k : ℕ). IsCell w x.map k) (sym are.first) (alone (operand_at x.at a s) x.map can.cell)))
        (omega arith) (λ s sound can. can)
        (λ s u sound can both. written_at s both.0 u both.1 both.2)
      where
        written_at : (s t u : State) → AreIn x.at a v base r s t → Writes (t.registers base) (bytes w) (t.registers r) t u →
            Writes (operand_at x.at a s) (bytes w) (operand_at x.at v s) s u
        written_at s t u are writes = record {
          registers = λ k h. writes.registers k h ∙ are.keeps.registers k h;
          memory =
              writes.memory
              ∙ ap (λ (m : ℕ → ℕ). stored m (t.registers base) (bytes w) (t.registers r)) are.keeps.memory
              ∙ ap (λ (k : ℕ). stored s.memory k (bytes w) (t.registers r)) are.first
              ∙ ap (stored s.memory (operand_at x.at a s) (bytes w)) are.second;
        }
