-- What names a label: operands, and global registers.
use Rattle.std.proofs.lemmas.Bool.{or_parts}
use Rattle.std.proofs.Common.{◌≡◌, ◌≢◌, ℕ, ◌+◌, ◌<◌, ◌^◌, refl, sym, ◌∙◌, ap, subst, arith, pos, true, false}
use Rattle.std.specs.Prelude.{◌==◌, IsTrue}
use Rattle.rv_asm.specs.Appending.{Then}
use Rattle.rv_asm.specs.Parts.{Code, Does}
use Rattle.rv_asm.specs.declared.part.Label.{Label}
use Rattle.rv_asm.specs.declared.part.Part.TheVariants.{Address}
use Rattle.rv_table.specs.Bounds.{IsSound}
use Rattle.rv_table.specs.Machine.{State, extended, is_accessible, loaded, stored}
use Rattle.rv_table.specs.Words.{modulo, sum}
use Rattle.rv_table.specs.declared.instruction.Instr.TheVariants.{Add, Ld, Sd}
use Rattle.cmm_effects.proofs.Shared.{leads_address, leads_load, leads_set, leads_sound, leads_store, leads_then, leads_weaker, runs_of}
use Rattle.cmm_effects.specs.Accesses.{CanReachGlobal, PutsGlobal, global_at}
use Rattle.cmm_abi.specs.Registers.{is_scratch}
use Rattle.cmm_effects.specs.Changes.{Sets, Writes}
use Rattle.cmm_effects.specs.Pieces.{Always, Leads}
use Rattle.cmm_select.proofs.Places.{One, not_same, same_set, set_as}
use Rattle.cmm_select.proofs.Sums.{loaded_whole}
use Rattle.cmm_select.specs.Operands.{Brings}

-- the number of a label, where a part gives it to a register
abbrev pub Names : ℕ → Label → Code → ℕ → ℕ → Type 0
Names rd l x from to = Does x (Address rd l) from to

-- where a register is set, nothing but it and register 6 is changed
pub brings_set : (rd n : ℕ) (s t : State) → Sets rd n s t → Brings rd n s t
brings_set rd n s t sets = record {
  given = sets.given;
  others = λ r h. sets.others r (or_parts (r == rd) (r == 6) h).0;
  memory = sets.memory;
}

-- ---- operands

no_more : (n : ℕ) → n < 2 ^ 64 → n ≡ sum n 0
no_more n h = omega arith

module _ (x : Code) (rd from to : ℕ) (l : Label) where
  -- the number itself
  pub brings_address : Names rd l x from to → Leads 11 Always (λ s t. Brings rd (sum (x.at l.number) 0) s t) x from to
  brings_address does =
      leads_weaker (leads_sound (leads_address x rd from to l does)) (omega arith) (λ s sound p. tt)
      (λ s t sound p arrived. brings_set rd (sum (x.at l.number) 0) s t (set_as rd (x.at l.number) (sum (x.at l.number) 0) s t
      (no_more (x.at l.number) (subst (λ (n : ℕ). n < 2 ^ 64) arrived.0.given (arrived.1.registers rd))) arrived.0))

  -- n bytes on
  pub brings_address_on : (plus : ℕ) → rd ≢ 0 → rd ≢ 6 →
      Then (Leads 8 Always (λ s t. Sets 6 plus s t)) (Then (Names rd l) (One (Add rd rd 6))) x from to →
      Leads 11 Always (λ s t. Brings rd (sum (x.at l.number) plus) s t) x from to
  brings_address_on plus written other does =
      leads_weaker
      (leads_then does.1
      (runs_of (leads_then (leads_address x rd does.0 does.2.0 l does.2.1)
      (runs_of (leads_set x (Add rd rd 6) does.2.0 to rd (λ g. sum (g rd) (g 6)) written (λ g pc. refl) does.2.2))
      (λ s t sound also p q. tt)))
      (λ s t sound also p q. tt))
      (omega arith) (λ s sound p. tt)
      (λ s w sound p three. all s three.0 three.2.0 w three.1 three.2.1 three.2.2)
    where
      all : (s t u w : State) → Sets 6 plus s t → Sets rd (x.at l.number) t u → Sets rd (sum (u.registers rd) (u.registers 6)) u w →
          Brings rd (sum (x.at l.number) plus) s w
      all s t u w first second third = record {
        given = third.given ∙ ap (λ (n : ℕ). sum n (u.registers 6)) second.given
            ∙ ap (sum (x.at l.number)) (second.others 6 (not_same 6 rd (λ e. other (sym e))) ∙ first.given);
        others = λ r h.
            third.others r (or_parts (r == rd) (r == 6) h).0 ∙ second.others r (or_parts (r == rd) (r == 6) h).0
            ∙ first.others r (or_parts (r == rd) (r == 6) h).1;
        memory = third.memory ∙ second.memory ∙ first.memory;
      }

  -- ---- global registers

  -- the address of one
  pub finds_global : rd ≢ 0 → rd ≢ 4 → Then (Names rd l) (One (Add rd rd 4)) x from to →
      Leads 3 Always (λ s t. Sets rd (sum (x.at l.number) (s.registers 4)) s t) x from to
  finds_global written other does =
      leads_weaker
      (leads_then (leads_address x rd from does.0 l does.1)
      (runs_of (leads_set x (Add rd rd 4) does.0 to rd (λ g. sum (g rd) (g 4)) written (λ g pc. refl) does.2))
      (λ s t sound also p q. tt))
      (omega arith) (λ s sound p. tt)
      (λ s w sound p both. joined s both.0 w both.1 both.2)
    where
      joined : (s t w : State) → Sets rd (x.at l.number) s t → Sets rd (sum (t.registers rd) (t.registers 4)) t w →
          Sets rd (sum (x.at l.number) (s.registers 4)) s w
      joined s t w first second =
          same_set rd (x.at l.number) (sum (x.at l.number) (s.registers 4)) s t w first
          (set_as rd (sum (t.registers rd) (t.registers 4)) (sum (x.at l.number) (s.registers 4)) t w
          (ap (λ (n : ℕ). sum n (t.registers 4)) first.given ∙ ap (sum (x.at l.number)) (first.others 4 (not_same 4 rd (λ e. other (sym e))))) second)

-- the address that is found
plus_region : (a o : ℕ) → a + o < 2 ^ 64 → sum (sum o a) (modulo 64 (pos 0)) ≡ a + o
plus_region a o h = omega arith

module _ (x : Code) (from to : ℕ) (l : Label) where
  -- the address of the global register is in a register
  there : (rd : ℕ) (s t : State) → CanReachGlobal (x.at l.number) x.map s → Sets rd (sum (x.at l.number) (s.registers 4)) s t →
      sum (t.registers rd) (modulo 64 (pos 0)) ≡ s.registers 4 + x.at l.number
  there rd s t can sets = ap (λ (n : ℕ). sum n (modulo 64 (pos 0))) sets.given ∙ plus_region (s.registers 4) (x.at l.number) can.0

  reached : (rd : ℕ) (s t : State) → CanReachGlobal (x.at l.number) x.map s → Sets rd (sum (x.at l.number) (s.registers 4)) s t →
      IsTrue (is_accessible x.map (sum (t.registers rd) (modulo 64 (pos 0))) 8)
  reached rd s t can sets = subst (λ (a : ℕ). IsTrue (is_accessible x.map a 8)) (sym (there rd s t can sets)) can.1

  pub loads_global : (rd : ℕ) → rd ≢ 0 → Then (Leads 3 Always (λ s t. Sets rd (sum (x.at l.number) (s.registers 4)) s t)) (One (Ld rd rd (pos 0))) x from to →
      Leads 4 (CanReachGlobal (x.at l.number)) (λ s t. Sets rd (global_at (x.at l.number) s) s t) x from to
  loads_global rd written does =
      leads_weaker
      (leads_then
      (leads_weaker {R = CanReachGlobal (x.at l.number)} {S = λ s t. Sets rd (sum (x.at l.number) (s.registers 4)) s t} {b = 3} does.1 (omega arith) (λ s sound can. tt) (λ s t sound can sets. sets))
      (runs_of (leads_load x (Ld rd rd (pos 0)) does.0 to rd 8 true (λ g. sum (g rd) (modulo 64 (pos 0))) written (λ g pc. refl) does.2))
      (λ s t sound also can sets. reached rd s t can sets))
      (omega arith) (λ s sound can. can)
      (λ s w sound can both. loaded_there s both.0 w can both.1 both.2 (bytes s both.0 sound both.1))
    where
      bytes : (s t : State) → IsSound s → Sets rd (sum (x.at l.number) (s.registers 4)) s t → (a : ℕ) → t.memory a < 2 ^ 8
      bytes s t sound sets a = subst (λ (m : ℕ → ℕ). m a < 2 ^ 8) (sym sets.memory) (sound.memory a)

      loaded_there : (s t w : State) → CanReachGlobal (x.at l.number) x.map s → Sets rd (sum (x.at l.number) (s.registers 4)) s t →
          Sets rd (extended true 8 (loaded t.memory (sum (t.registers rd) (modulo 64 (pos 0))) 8)) t w → ((a : ℕ) → t.memory a < 2 ^ 8) →
          Sets rd (global_at (x.at l.number) s) s w
      loaded_there s t w can first second small =
          same_set rd (sum (x.at l.number) (s.registers 4)) (global_at (x.at l.number) s) s t w first
          (set_as rd (extended true 8 (loaded t.memory (sum (t.registers rd) (modulo 64 (pos 0))) 8)) (global_at (x.at l.number) s) t w
          (loaded_whole t.memory (sum (t.registers rd) (modulo 64 (pos 0))) small
          ∙ ap (λ (a : ℕ). loaded t.memory a 8) (there rd s t can first)
          ∙ ap (λ (m : ℕ → ℕ). loaded m (s.registers 4 + x.at l.number) 8) first.memory) second)

  pub stores_global : (k : ℕ) → k ≢ 6 → Then (Leads 3 Always (λ s t. Sets 6 (sum (x.at l.number) (s.registers 4)) s t)) (One (Sd 6 k (pos 0))) x from to →
      Leads 4 (CanReachGlobal (x.at l.number)) (λ s t. PutsGlobal (x.at l.number) (s.registers k) s t) x from to
  stores_global k other does =
      leads_weaker
      (leads_then
      (leads_weaker {R = CanReachGlobal (x.at l.number)} {S = λ s t. Sets 6 (sum (x.at l.number) (s.registers 4)) s t} {b = 3} does.1 (omega arith) (λ s sound can. tt) (λ s t sound can sets. sets))
      (runs_of (leads_store x (Sd 6 k (pos 0)) does.0 to 8 (λ g. sum (g 6) (modulo 64 (pos 0))) (λ g. g k) (λ g pc. refl) does.2))
      (λ s t sound also can sets. reached 6 s t can sets))
      (omega arith) (λ s sound can. can)
      (λ s w sound can both. stored_there s both.0 w can both.1 both.2)
    where
      six : (r : ℕ) → is_scratch r ≡ false → r ≢ 6
      six r h e = let g : is_scratch 6 ≡ false = subst (λ (k : ℕ). is_scratch k ≡ false) e h in absurd (cc)

      stored_there : (s t w : State) → CanReachGlobal (x.at l.number) x.map s → Sets 6 (sum (x.at l.number) (s.registers 4)) s t →
          Writes (sum (t.registers 6) (modulo 64 (pos 0))) 8 (t.registers k) t w → Writes (s.registers 4 + x.at l.number) 8 (s.registers k) s w
      stored_there s t w can first second = record {
        registers = λ r h. second.registers r h ∙ first.others r (not_same r 6 (six r h));
        memory =
            second.memory
            ∙ ap (λ (m : ℕ → ℕ). stored m (sum (t.registers 6) (modulo 64 (pos 0))) 8 (t.registers k)) first.memory
            ∙ ap (λ (a : ℕ). stored s.memory a 8 (t.registers k)) (there 6 s t can first)
            ∙ ap (stored s.memory (s.registers 4 + x.at l.number) 8) (first.others k (not_same k 6 other));
      }
