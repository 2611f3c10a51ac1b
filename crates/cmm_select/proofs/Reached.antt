-- One word of the frame is stored from a register, or loaded into one, wherever an offset reaches.
use Rattle.std.proofs.Common.{◌≡◌, ◌≢◌, ℕ, ◌+◌, ◌*◌, ◌/◌, ◌<◌, ◌^◌, refl, sym, ◌∙◌, ap, subst, arith, pos, true}
use Rattle.std.specs.Prelude.{false, IsTrue}
use Rattle.cmm_chain.specs.declared.frame.Location.TheVariants.{Slot}
use Rattle.rv_asm.specs.Appending.{Then}
use Rattle.rv_asm.specs.Parts.{Code}
use Rattle.rv_table.specs.Bounds.{IsSound}
use Rattle.rv_table.specs.Machine.{State, extended, is_accessible, loaded, stored}
use Rattle.rv_table.specs.Words.{modulo, signed, sum, upper}
use Rattle.rv_table.specs.declared.instruction.Instr.TheVariants.{Add, Ld, Lui, Sd}
use Rattle.cmm_effects.proofs.Shared.{leads_load, leads_set, leads_store, leads_then, leads_weaker, runs_of}
use Rattle.cmm_abi.specs.Registers.{is_scratch}
use Rattle.cmm_effects.specs.Changes.{CanReach, Sets, Writes, read_at}
use Rattle.cmm_effects.specs.Pieces.{Always, Leads}
use Rattle.cmm_select.proofs.Places.{One, other_kept, same_set, set_as}
use Rattle.cmm_select.proofs.Sums.{loaded_whole}
use Rattle.cmm_select.proofs.Constants.{upper_low}
use Rattle.cmm_select.proofs.Offsets.{far_address, near_address}

pub no_scratch : (r k : ℕ) → IsTrue (is_scratch k) → is_scratch r ≡ false → r ≢ k
no_scratch r k scratch h e = let g : is_scratch k ≡ false = subst (λ (n : ℕ). is_scratch n ≡ false) e h in absurd (cc)

module _ (x : Code) (from to o : ℕ) where
  -- ---- where an immediate reaches the word

  pub saves_near : (r : ℕ) → o < 2048 → One (Sd 2 r (signed 12 o)) x from to → Leads 3 (CanReach (Slot o)) (λ s t. Writes (s.registers 2 + o) 8 (s.registers r) s t) x from to
  saves_near r near does =
      leads_weaker (leads_store x (Sd 2 r (signed 12 o)) from to 8 (λ g. sum (g 2) (modulo 64 (signed 12 o))) (λ g. g r) (λ g pc. refl) does) (omega arith)
      (λ s sound can. subst (λ (a : ℕ). IsTrue (is_accessible x.map a 8)) (sym (near_address (s.registers 2) o near can.0)) can.1)
      (λ s t sound can wrote. record {
        registers = wrote.registers;
        memory = wrote.memory ∙ ap (λ (a : ℕ). stored s.memory a 8 (s.registers r)) (near_address (s.registers 2) o near can.0);
      })

  pub restores_near : (rd : ℕ) → o < 2048 → rd ≢ 0 → One (Ld rd 2 (signed 12 o)) x from to → Leads 3 (CanReach (Slot o)) (λ s t. Sets rd (read_at (Slot o) s) s t) x from to
  restores_near rd near written does =
      leads_weaker (leads_load x (Ld rd 2 (signed 12 o)) from to rd 8 true (λ g. sum (g 2) (modulo 64 (signed 12 o))) written (λ g pc. refl) does) (omega arith)
      (λ s sound can. subst (λ (a : ℕ). IsTrue (is_accessible x.map a 8)) (sym (near_address (s.registers 2) o near can.0)) can.1)
      (λ s t sound can sets. set_as rd (extended true 8 (loaded s.memory (sum (s.registers 2) (modulo 64 (signed 12 o))) 8)) (read_at (Slot o) s) s t
      (loaded_whole s.memory (sum (s.registers 2) (modulo 64 (signed 12 o))) sound.memory ∙ ap (λ (a : ℕ). loaded s.memory a 8) (near_address (s.registers 2) o near can.0)) sets)

  -- ---- elsewhere, behind the upper part of the offset

  pub approaches : (rd : ℕ) → o < 2 ^ 21 → rd ≢ 0 → rd ≢ 2 → Then (One (Lui rd (pos ((o + 2048) / 4096)))) (One (Add rd rd 2)) x from to →
      Leads 2 Always (λ s t. Sets rd (sum ((o + 2048) / 4096 * 4096) (s.registers 2)) s t) x from to
  approaches rd small written other does =
      leads_weaker
      (leads_then (leads_set x (Lui rd (pos ((o + 2048) / 4096))) from does.0 rd (λ g. upper (pos ((o + 2048) / 4096))) written (λ g pc. refl) does.1)
      (runs_of (leads_set x (Add rd rd 2) does.0 to rd (λ g. sum (g rd) (g 2)) written (λ g pc. refl) does.2))
      (λ s t sound also p q. tt))
      (omega arith) (λ s sound p. tt) (λ s w sound p both. all s both.0 w both.1 both.2)
    where
      all : (s t w : State) → Sets rd (upper (pos ((o + 2048) / 4096))) s t → Sets rd (sum (t.registers rd) (t.registers 2)) t w →
          Sets rd (sum ((o + 2048) / 4096 * 4096) (s.registers 2)) s w
      all s t w first second =
          same_set rd (upper (pos ((o + 2048) / 4096))) (sum ((o + 2048) / 4096 * 4096) (s.registers 2)) s t w first
          (set_as rd (sum (t.registers rd) (t.registers 2)) (sum ((o + 2048) / 4096 * 4096) (s.registers 2)) t w
          (ap (λ (n : ℕ). sum n (t.registers 2)) (first.given ∙ upper_low o (omega (arith, small)))
          ∙ ap (sum ((o + 2048) / 4096 * 4096)) (other_kept rd (upper (pos ((o + 2048) / 4096))) 2 s t (λ e. other (sym e)) first)) second)

  module _ (small : o < 2 ^ 21) where
    reached_address : (rd : ℕ) (s t : State) → s.registers 2 + o < 2 ^ 64 → Sets rd (sum ((o + 2048) / 4096 * 4096) (s.registers 2)) s t →
        sum (t.registers rd) (modulo 64 (signed 12 o)) ≡ s.registers 2 + o
    reached_address rd s t fits sets = ap (λ (n : ℕ). sum n (modulo 64 (signed 12 o))) sets.given ∙ far_address (s.registers 2) o small fits

    far_accessible : (rd : ℕ) (s t : State) → CanReach (Slot o) x.map s → Sets rd (sum ((o + 2048) / 4096 * 4096) (s.registers 2)) s t →
        IsTrue (is_accessible x.map (sum (t.registers rd) (modulo 64 (signed 12 o))) 8)
    far_accessible rd s t can sets = subst (λ (a : ℕ). IsTrue (is_accessible x.map a 8)) (sym (reached_address rd s t can.0 sets)) can.1

    pub saves_far : (r : ℕ) → r ≢ 6 → Then (Leads 2 Always (λ s t. Sets 6 (sum ((o + 2048) / 4096 * 4096) (s.registers 2)) s t)) (One (Sd 6 r (signed 12 o))) x from to →
        Leads 3 (CanReach (Slot o)) (λ s t. Writes (s.registers 2 + o) 8 (s.registers r) s t) x from to
    saves_far r other does =
        leads_weaker
        (leads_then
        (leads_weaker {R = CanReach (Slot o)} {S = λ s t. Sets 6 (sum ((o + 2048) / 4096 * 4096) (s.registers 2)) s t} {b = 2} does.1 (omega arith) (λ s sound can. tt)
        (λ s t sound can sets. sets))
        (runs_of (leads_store x (Sd 6 r (signed 12 o)) does.0 to 8 (λ g. sum (g 6) (modulo 64 (signed 12 o))) (λ g. g r) (λ g pc. refl) does.2))
        (λ s t sound also can sets. far_accessible 6 s t can sets))
        (omega arith) (λ s sound can. can) (λ s w sound can both. stored_there s both.0 w can both.1 both.2)
      where
        stored_there : (s t w : State) → CanReach (Slot o) x.map s → Sets 6 (sum ((o + 2048) / 4096 * 4096) (s.registers 2)) s t →
            Writes (sum (t.registers 6) (modulo 64 (signed 12 o))) 8 (t.registers r) t w → Writes (s.registers 2 + o) 8 (s.registers r) s w
        stored_there s t w can first second = record {
          registers = λ k h. second.registers k h ∙ other_kept 6 (sum ((o + 2048) / 4096 * 4096) (s.registers 2)) k s t (no_scratch k 6 refl h) first;
          memory = second.memory
              ∙ ap (λ (a : ℕ). stored t.memory a 8 (t.registers r)) (reached_address 6 s t can.0 first)
              ∙ ap (λ (n : ℕ). stored t.memory (s.registers 2 + o) 8 n) (other_kept 6 (sum ((o + 2048) / 4096 * 4096) (s.registers 2)) r s t other first)
              ∙ ap (λ (m : ℕ → ℕ). stored m (s.registers 2 + o) 8 (s.registers r)) first.memory;
        }

    pub restores_far : (rd : ℕ) → rd ≢ 0 →
        Then (Leads 2 Always (λ s t. Sets rd (sum ((o + 2048) / 4096 * 4096) (s.registers 2)) s t)) (One (Ld rd rd (signed 12 o))) x from to →
        Leads 3 (CanReach (Slot o)) (λ s t. Sets rd (read_at (Slot o) s) s t) x from to
    restores_far rd written does =
        leads_weaker
        (leads_then
        (leads_weaker {R = CanReach (Slot o)} {S = λ s t. Sets rd (sum ((o + 2048) / 4096 * 4096) (s.registers 2)) s t} {b = 2} does.1 (omega arith) (λ s sound can. tt)
        (λ s t sound can sets. sets))
        (runs_of (leads_load x (Ld rd rd (signed 12 o)) does.0 to rd 8 true (λ g. sum (g rd) (modulo 64 (signed 12 o))) written (λ g pc. refl) does.2))
        (λ s t sound also can sets. far_accessible rd s t can sets))
        (omega arith) (λ s sound can. can) (λ s w sound can both. loaded_there s both.0 w sound can both.1 both.2)
      where
        loaded_there : (s t w : State) → IsSound s → CanReach (Slot o) x.map s → Sets rd (sum ((o + 2048) / 4096 * 4096) (s.registers 2)) s t →
            Sets rd (extended true 8 (loaded t.memory (sum (t.registers rd) (modulo 64 (signed 12 o))) 8)) t w → Sets rd (read_at (Slot o) s) s w
        loaded_there s t w sound can first second =
            same_set rd (sum ((o + 2048) / 4096 * 4096) (s.registers 2)) (read_at (Slot o) s) s t w first
            (set_as rd (extended true 8 (loaded t.memory (sum (t.registers rd) (modulo 64 (signed 12 o))) 8)) (read_at (Slot o) s) t w
            (ap (λ (m : ℕ → ℕ). extended true 8 (loaded m (sum (t.registers rd) (modulo 64 (signed 12 o))) 8)) first.memory
            ∙ loaded_whole s.memory (sum (t.registers rd) (modulo 64 (signed 12 o))) sound.memory
            ∙ ap (λ (a : ℕ). loaded s.memory a 8) (reached_address rd s t can.0 first)) second)
