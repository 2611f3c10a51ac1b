-- A word of memory is loaded or stored, at the address in a register.
use Rattle.std.proofs.Common.{◌≡◌, ◌≢◌, ℕ, refl, sym, ◌∙◌, ap, subst, arith, pos}
use Rattle.std.specs.Prelude.{Bool, true, false, IsTrue}
use Rattle.cmm_words.specs.Widths.{bytes}
use Rattle.cmm_words.specs.declared.width.Width.{Width}
use Rattle.cmm_words.specs.declared.width.Width.TheVariants.{W8, W16, W32, W64}
use Rattle.rv_asm.specs.Parts.{Code}
use Rattle.rv_table.specs.Bounds.{IsSound}
use Rattle.rv_table.specs.Machine.{State, extended, is_accessible, loaded, stored}
use Rattle.rv_table.specs.Row.{row}
use Rattle.rv_table.specs.Words.{modulo, sum}
use Rattle.rv_table.specs.declared.effects.Effect.TheVariants.{Load, Store}
use Rattle.rv_table.specs.declared.instruction.Instr.{Instr}
use Rattle.cmm_effects.proofs.Shared.{leads_load, leads_store, leads_weaker}
use Rattle.cmm_effects.specs.Changes.{Writes}
use Rattle.cmm_effects.specs.Pieces.{Leads}
use Rattle.cmm_select.proofs.InPlace.{set_beside}
use Rattle.cmm_select.proofs.Places.{One}
use Rattle.cmm_select.proofs.Sums.{loaded_whole, plus_none}
use Rattle.cmm_select.specs.Cells.{IsCell, IsLoaded}
use Rattle.cmm_select.specs.inside.Accesses.{load_part, store_part}
use Rattle.cmm_select.specs.inside.InPlace.{Makes}

module _ (x : Code) (from to base : ℕ) where
  loads_by : (w : Width) (rd : ℕ) (i : Instr) (signed : Bool) → rd ≢ 0 → ((r : ℕ → ℕ) (pc : ℕ) → row r pc i ≡ Load rd (sum (r base) (modulo 64 (pos 0))) (bytes w) signed) →
      ((s : State) (a : ℕ) → IsSound s → extended signed (bytes w) (loaded s.memory a (bytes w)) ≡ loaded s.memory a (bytes w)) →
      One i x from to → Leads 1 (λ m s. IsCell w m (s.registers base)) (λ s t. Makes rd (IsLoaded w s.memory (s.registers base)) s t) x from to
  loads_by w rd i signed written is value does =
      leads_weaker (leads_load x i from to rd (bytes w) signed (λ r. sum (r base) (modulo 64 (pos 0))) written is does) (omega arith)
      (λ s sound cell. subst (λ (a : ℕ). IsTrue (is_accessible x.map a (bytes w))) (sym (plus_none (s.registers base) (sound.registers base))) cell)
      (λ s t sound cell sets. record {
        given = sets.given ∙ value s (sum (s.registers base) (modulo 64 (pos 0))) sound
            ∙ ap (λ (a : ℕ). loaded s.memory a (bytes w)) (plus_none (s.registers base) (sound.registers base));
        keeps = set_beside rd (extended signed (bytes w) (loaded s.memory (sum (s.registers base) (modulo 64 (pos 0))) (bytes w))) s t sets;
      })

  pub loads_cell : (w : Width) (rd : ℕ) → rd ≢ 0 → One (load_part w rd base 0) x from to →
      Leads 1 (λ m s. IsCell w m (s.registers base)) (λ s t. Makes rd (IsLoaded w s.memory (s.registers base)) s t) x from to
  loads_cell W8 rd written does = loads_by W8 rd (load_part W8 rd base 0) false written (λ r pc. refl) (λ s a sound. refl) does
  loads_cell W16 rd written does = loads_by W16 rd (load_part W16 rd base 0) false written (λ r pc. refl) (λ s a sound. refl) does
  loads_cell W32 rd written does = loads_by W32 rd (load_part W32 rd base 0) false written (λ r pc. refl) (λ s a sound. refl) does
  loads_cell W64 rd written does = loads_by W64 rd (load_part W64 rd base 0) true written (λ r pc. refl) (λ s a sound. loaded_whole s.memory a sound.memory) does

  stores_by : (w : Width) (v : ℕ) (i : Instr) → ((r : ℕ → ℕ) (pc : ℕ) → row r pc i ≡ Store (sum (r base) (modulo 64 (pos 0))) (bytes w) (r v)) →
      One i x from to → Leads 1 (λ m s. IsCell w m (s.registers base)) (λ s t. Writes (s.registers base) (bytes w) (s.registers v) s t) x from to
  stores_by w v i is does =
      leads_weaker (leads_store x i from to (bytes w) (λ r. sum (r base) (modulo 64 (pos 0))) (λ r. r v) is does) (omega arith)
      (λ s sound cell. subst (λ (a : ℕ). IsTrue (is_accessible x.map a (bytes w))) (sym (plus_none (s.registers base) (sound.registers base))) cell)
      (λ s t sound cell wrote. record {
        registers = wrote.registers;
        memory = wrote.memory ∙ ap (λ (a : ℕ). stored s.memory a (bytes w) (s.registers v)) (plus_none (s.registers base) (sound.registers base));
      })

  pub stores_cell : (w : Width) (v : ℕ) → One (store_part w base v 0) x from to →
      Leads 1 (λ m s. IsCell w m (s.registers base)) (λ s t. Writes (s.registers base) (bytes w) (s.registers v) s t) x from to
  stores_cell W8 v does = stores_by W8 v (store_part W8 base v 0) (λ r pc. refl) does
  stores_cell W16 v does = stores_by W16 v (store_part W16 base v 0) (λ r pc. refl) does
  stores_cell W32 v does = stores_by W32 v (store_part W32 base v 0) (λ r pc. refl) does
  stores_cell W64 v does = stores_by W64 v (store_part W64 base v 0) (λ r pc. refl) does
