-- What places have after a change.
use Rattle.std.proofs.Common.{◌≡◌, ◌≢◌, ℕ, ◌+◌, ◌*◌, ◌%◌, ◌<◌, ◌^◌, refl, sym, ◌∙◌, ap, subst, arith}
use Rattle.std.specs.Prelude.{◌==◌, Bool, true, false, IsTrue}
use Rattle.std.proofs.lemmas.Bool.Decides.{nat_tests}
use Rattle.cmm_abi.specs.Registers.{is_scratch}
use Rattle.cmm_chain.proofs.Shared.{callee_saves_is_kept, temporary_is_kept}
use Rattle.cmm_chain.specs.declared.frame.Location.{Location}
use Rattle.cmm_chain.specs.declared.frame.Location.TheVariants.{Slot, Saved, Temp}
use Rattle.rv_table.proofs.Shared.{loaded-same}
use Rattle.rv_table.specs.Machine.{MemoryMap, State, is_accessible, loaded}
use Rattle.cmm_effects.specs.Changes.{CanReach, IsPlace, Keeps, Puts, Sets, read_at}
use Rattle.cmm_effects.specs.Laws.{KeptIsReachable, KeptIsRead, PutIsRead}

pub put_is_read : PutIsRead
put_is_read (Slot o) n s t small puts =
    ap (λ (a : ℕ). loaded t.memory (a + o) 8) (puts.registers 2 refl)
    ∙ ap (λ (m : ℕ → ℕ). loaded m (s.registers 2 + o) 8) puts.memory
    ∙ loaded-same s.memory (s.registers 2 + o) 8 n
    ∙ omega arith
put_is_read (Saved r) n s t small puts = puts.0
put_is_read (Temp r) n s t small puts = puts.0

pub kept_is_read : KeptIsRead
kept_is_read (Slot o) s t is keeps =
    ap (λ (a : ℕ). loaded t.memory (a + o) 8) (keeps.registers 2 refl) ∙ ap (λ (m : ℕ → ℕ). loaded m (s.registers 2 + o) 8) keeps.memory
kept_is_read (Saved r) s t is keeps = keeps.registers r (callee_saves_is_kept r is)
kept_is_read (Temp r) s t is keeps = keeps.registers r (temporary_is_kept r is)

pub kept_is_reachable : KeptIsReachable
kept_is_reachable (Slot o) m s t keeps can =
    subst (λ (a : ℕ). (a + o < 2 ^ 64) × IsTrue (is_accessible m (a + o) 8)) (sym (keeps.registers 2 refl)) can
kept_is_reachable (Saved r) m s t keeps can = tt
kept_is_reachable (Temp r) m s t keeps can = tt

pub keeps_same : (s : State) → Keeps s s
keeps_same s = record { registers = λ r is. refl; memory = refl }

pub keeps_then : (s t u : State) → Keeps s t → Keeps t u → Keeps s u
keeps_then s t u first second = record {
  registers = λ r is. second.registers r is ∙ first.registers r is;
  memory = second.memory ∙ first.memory;
}

-- a scratch register that is set is no change of what is kept
pub set_keeps : (rd n : ℕ) (s t : State) → IsTrue (is_scratch rd) → Sets rd n s t → Keeps s t
set_keeps rd n s t scratch sets = record {
  registers = λ r is. sets.others r (differ r (r == rd) refl is);
  memory = sets.memory;
}
  where
    differ : (r : ℕ) (test : Bool) → (r == rd) ≡ test → is_scratch r ≡ false → test ≡ false
    differ r false e is = refl
    differ r true e is =
        let same : r ≡ rd = grind (arith, nat_tests) in
        let h : IsTrue (is_scratch r) = subst (λ (k : ℕ). IsTrue (is_scratch k)) (sym same) scratch in
        absurd (cc)
