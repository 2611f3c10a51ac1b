-- An operand is brought into a scratch register.
use Rattle.std.proofs.Common.{◌≢◌, ℕ, ◌+◌, ◌*◌, ◌/◌, ◌<◌, ◌^◌, refl, ap, ◌∙◌, arith, pos}
use Rattle.rv_asm.specs.Appending.{Then}
use Rattle.rv_asm.specs.Parts.{Code}
use Rattle.rv_table.specs.Machine.{State}
use Rattle.rv_table.specs.Words.{modulo, signed, sum}
use Rattle.rv_table.specs.declared.instruction.Instr.TheVariants.{Addi}
use Rattle.cmm_effects.proofs.Shared.{leads_set, leads_then, leads_weaker, runs_of}
use Rattle.cmm_effects.specs.Changes.{Sets}
use Rattle.cmm_effects.specs.Pieces.{Always, Leads}
use Rattle.cmm_select.proofs.Places.{One, same_set, set_as}
use Rattle.cmm_select.proofs.Offsets.{far_address}
use Rattle.cmm_select.proofs.Sums.{plus_near}
use Rattle.cmm_select.specs.Sources.{CanBring, brought}
use Rattle.cmm_select.specs.declared.source.Source.TheVariants.{Address}

module _ (x : Code) (from to o rd : ℕ) (written : rd ≢ 0) where
  -- where an immediate reaches it
  pub address_near : o < 2048 → One (Addi rd 2 (pos o)) x from to → Leads 4 (CanBring (Address o)) (λ s t. Sets rd (brought (Address o) s) s t) x from to
  address_near near does =
      leads_weaker (leads_set x (Addi rd 2 (pos o)) from to rd (λ g. sum (g 2) (modulo 64 (pos o))) written (λ g pc. refl) does) (omega arith)
      (λ s sound can. tt)
      (λ s t sound can sets. set_as rd (sum (s.registers 2) (modulo 64 (pos o))) (s.registers 2 + o) s t (plus_near (s.registers 2) o near can) sets)

  -- elsewhere
  pub address_far : o < 2 ^ 21 →
      Then (Leads 2 Always (λ s t. Sets rd (sum ((o + 2048) / 4096 * 4096) (s.registers 2)) s t)) (One (Addi rd rd (signed 12 o))) x from to →
      Leads 4 (CanBring (Address o)) (λ s t. Sets rd (brought (Address o) s) s t) x from to
  address_far small does =
      leads_weaker
      (leads_then does.1
      (runs_of (leads_set x (Addi rd rd (signed 12 o)) does.0 to rd (λ g. sum (g rd) (modulo 64 (signed 12 o))) written (λ g pc. refl) does.2))
      (λ s t sound also p q. tt))
      (omega arith) (λ s sound can. tt)
      (λ s w sound can both. joined s both.0 w can both.1 both.2)
    where
      joined : (s t w : State) → CanBring (Address o) x.map s → Sets rd (sum ((o + 2048) / 4096 * 4096) (s.registers 2)) s t →
          Sets rd (sum (t.registers rd) (modulo 64 (signed 12 o))) t w → Sets rd (brought (Address o) s) s w
      joined s t w can first second =
          same_set rd (sum ((o + 2048) / 4096 * 4096) (s.registers 2)) (s.registers 2 + o) s t w first
          (set_as rd (sum (t.registers rd) (modulo 64 (signed 12 o))) (s.registers 2 + o) t w
          (ap (λ (n : ℕ). sum n (modulo 64 (signed 12 o))) first.given ∙ far_address (s.registers 2) o small can) second)
