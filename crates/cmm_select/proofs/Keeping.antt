-- What is as it was where only scratch registers are changed: operands, and what is put somewhere.
use Rattle.std.proofs.lemmas.Bool.{or_parts}
use Rattle.std.proofs.Common.{◌≡◌, ℕ, ◌+◌, ◌<◌, ◌^◌, refl, sym, ◌∙◌, ap, subst, arith, true, false}
use Rattle.std.specs.Prelude.{◌==◌, ◌||◌, Bool, IsTrue}
use Rattle.std.proofs.lemmas.Bool.Decides.{nat_tests}
use Rattle.cmm_chain.specs.declared.frame.Location.{Location}
use Rattle.cmm_chain.specs.declared.frame.Location.TheVariants.{Slot, Saved, Temp}
use Rattle.rv_asm.specs.declared.part.Meaning.{Meaning}
use Rattle.rv_table.specs.Machine.{MemoryMap, State, is_accessible, stored}
use Rattle.std.specs.Prelude.{List}
use Rattle.cmm_effects.proofs.Shared.{kept_is_reachable, kept_is_read}
use Rattle.cmm_abi.specs.Registers.{is_scratch}
use Rattle.cmm_effects.specs.Changes.{Keeps, Puts, PutsRegister, Writes}
use Rattle.cmm_select.specs.Destinations.{CanPut, PutsTo}
use Rattle.cmm_select.specs.Operands.{Brings, CanBringOperand, IsOperand, operand_at}
use Rattle.cmm_select.specs.Sources.{CanBring, IsSource, brought}
use Rattle.cmm_select.specs.declared.destination.Destination.{Destination}
use Rattle.cmm_select.specs.declared.destination.Destination.TheVariants as destination
use Rattle.cmm_select.specs.declared.operand.Operand.{Operand}
use Rattle.cmm_select.specs.declared.operand.Operand.TheVariants.{Held, Symbol}
use Rattle.cmm_select.specs.declared.source.Source.{Source}
use Rattle.cmm_select.specs.declared.source.Source.TheVariants.{Place, Number, Address}

-- ---- operands

source_as_before : (from : Source) (s t : State) → IsSource from → Keeps s t → brought from t ≡ brought from s
source_as_before (Place p) s t is keeps = kept_is_read p s t is keeps
source_as_before (Number n) s t is keeps = refl
source_as_before (Address o) s t is keeps = ap (λ (a : ℕ). a + o) (keeps.registers 2 refl)

source_still_brought : (from : Source) (m : MemoryMap) (s t : State) → Keeps s t → CanBring from m s → CanBring from m t
source_still_brought (Place p) m s t keeps can = kept_is_reachable p m s t keeps can
source_still_brought (Number n) m s t keeps can = tt
source_still_brought (Address o) m s t keeps can = subst (λ (a : ℕ). a + o < 2 ^ 64) (sym (keeps.registers 2 refl)) can

pub operand_as_before : (labels : List Meaning) (at : ℕ → ℕ) (a : Operand) (s t : State) → IsOperand labels a → Keeps s t → operand_at at a t ≡ operand_at at a s
operand_as_before labels at (Held from) s t is keeps = source_as_before from s t is keeps
operand_as_before labels at (Symbol l plus) s t is keeps = refl

pub still_brought : (a : Operand) (m : MemoryMap) (s t : State) → Keeps s t → CanBringOperand a m s → CanBringOperand a m t
still_brought (Held from) m s t keeps can = source_still_brought from m s t keeps can
still_brought (Symbol l plus) m s t keeps can = tt

-- a scratch register gets an operand
pub brings_keeps : (rd n : ℕ) (s t : State) → IsTrue (is_scratch rd) → Brings rd n s t → Keeps s t
brings_keeps rd n s t scratch brings = record {
  registers = λ r is. brings.others r (differ r (r == rd) (r == 6) refl refl is);
  memory = brings.memory;
}
  where
    differ : (r : ℕ) (one other : Bool) → (r == rd) ≡ one → (r == 6) ≡ other → is_scratch r ≡ false → (one || other) ≡ false
    differ r false false e f is = refl
    differ r false true e f is =
        let same : r ≡ 6 = grind (arith, nat_tests) in
        let g : is_scratch 6 ≡ false = subst (λ (k : ℕ). is_scratch k ≡ false) same is in
        absurd (cc)
    differ r true other e f is =
        let same : r ≡ rd = grind (arith, nat_tests) in
        let h : IsTrue (is_scratch r) = subst (λ (k : ℕ). IsTrue (is_scratch k)) (sym same) scratch in
        absurd (cc)

-- ---- what is put

register_put_after : (r n : ℕ) (s t u : State) → Keeps s t → PutsRegister r n t u → PutsRegister r n s u
register_put_after r n s t u keeps puts = (
  puts.0,
  λ k h. puts.1 k h ∙ keeps.registers k (or_parts (k == r) (is_scratch k) h).1,
  puts.2 ∙ keeps.memory,
)

pub write_after : (r o size n : ℕ) (s t u : State) → is_scratch r ≡ false → Keeps s t → Writes (t.registers r + o) size n t u →
    Writes (s.registers r + o) size n s u
write_after r o size n s t u kept keeps writes = record {
  registers = λ k h. writes.registers k h ∙ keeps.registers k h;
  memory =
      writes.memory
      ∙ ap (λ (m : ℕ → ℕ). stored m (t.registers r + o) size n) keeps.memory
      ∙ ap (λ (a : ℕ). stored s.memory (a + o) size n) (keeps.registers r kept);
}

place_put_after : (to : Location) (n : ℕ) (s t u : State) → Keeps s t → Puts to n t u → Puts to n s u
place_put_after (Slot o) n s t u keeps puts = write_after 2 o 8 n s t u refl keeps puts
place_put_after (Saved r) n s t u keeps puts = register_put_after r n s t u keeps puts
place_put_after (Temp r) n s t u keeps puts = register_put_after r n s t u keeps puts

module _ (at : ℕ → ℕ) where
  pub put_after : (to : Destination) (n : ℕ) (s t u : State) → Keeps s t → PutsTo at to n t u → PutsTo at to n s u
  put_after (destination.Place p) n s t u keeps puts = place_put_after p n s t u keeps puts
  put_after (destination.Register l) n s t u keeps puts = write_after 4 (at l.number) 8 n s t u refl keeps puts

  pub still_put : (to : Destination) (m : MemoryMap) (s t : State) → Keeps s t → CanPut at to m s → CanPut at to m t
  still_put (destination.Place p) m s t keeps can = kept_is_reachable p m s t keeps can
  still_put (destination.Register l) m s t keeps can =
      subst (λ (a : ℕ). (a + at l.number < 2 ^ 64) × IsTrue (is_accessible m (a + at l.number) 8)) (sym (keeps.registers 4 refl)) can

  pub put_as : (to : Destination) (n k : ℕ) (s t : State) → n ≡ k → PutsTo at to n s t → PutsTo at to k s t
  put_as to n k s t is puts = subst (λ (v : ℕ). PutsTo at to v s t) is puts
