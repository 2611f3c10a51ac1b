-- Runs keep states sound.
use Rattle.std.proofs.Common.{◌≡◌, ℕ, zero, suc, ◌+◌, ◌*◌, ◌%◌, ◌<◌, ◌≤◌, ◌^◌, refl, ◌∙◌, arith, lit<, subst}
use Rattle.std.specs.Prelude.{Option, Some, None, Bool, true, false, ◌==◌, ◌&&◌, nat_le, nat_lt, IsTrue}
use Rattle.std.proofs.lemmas.Bool.Decides.{nat_tests}
use Rattle.std.proofs.Math.Nat.{mod-lt, lt_of_lt_of_le}
use Rattle.std.proofs.Math.Pow.{pow_pos, pow_mono}
use Rattle.rv_table.specs.declared.effects.Effect.{Effect}
use Rattle.rv_table.specs.declared.effects.Effect.TheVariants.{Set, Jump, Branch, Load, Store, Ask, Break}
use Rattle.rv_table.specs.declared.instruction.Instr.{Instr}
use Rattle.rv_table.specs.declared.registers.TheConstants.{FRAME, REGION}
use Rattle.rv_table.specs.declared.request.Request.{Request}
use Rattle.rv_table.specs.declared.trap.TrapKind.TheVariants.{NoRequest}
use Rattle.rv_table.specs.Bounds.{ValuesFit, HasASize, IsSound, is_size}
use Rattle.rv_table.specs.Decoding.{instr_of}
use Rattle.rv_table.specs.Machine.{MemoryMap, State, Outcome, Next, Asks, Traps, and_then, extended, fetched, instruction_step, fetched_step, decoded_step, done, goes_to, with_set, steps, start, request_of, is_accessible, loaded, stored, Region, top}
use Rattle.rv_table.specs.Row.{row}
use Rattle.rv_table.proofs.Immediates.{modulo-lt}
use Rattle.rv_table.proofs.MemoryFacts.{loaded-lt}
use Rattle.rv_table.proofs.RegisterFacts.{with_register-fits, with_register-zero}
use Rattle.rv_table.proofs.RowBounds.{row_values_fit, row_has_a_size}

-- the next state of an outcome, if there is one, is sound
abbrev LeadsSoundly : Outcome → Type 0
LeadsSoundly (Next t) = IsSound t
LeadsSoundly (Asks _) = Unit {0}
LeadsSoundly (Traps _) = Unit {0}

either_soundly : (b : Bool) (o p : Outcome) → LeadsSoundly o → LeadsSoundly p → LeadsSoundly (elim b [ true ↦ o | false ↦ p ])
either_soundly true o p h k = h
either_soundly false o p h k = k

request_soundly : (o : Option Request) → LeadsSoundly (elim o [ Some r ↦ Asks r | None ↦ Traps NoRequest ])
request_soundly None = tt
request_soundly (Some r) = tt

byte_of : (b : Bool) {m n : ℕ} → m < 2 ^ 8 → n < 2 ^ 8 → elim b [ true ↦ m | false ↦ n ] < 2 ^ 8
byte_of true h k = h
byte_of false h k = k

module _ (m : MemoryMap) (s : State) (h : IsSound s) where
  set_soundly : (rd value : ℕ) → value < 2 ^ 64 → IsSound (with_set s rd value)
  set_soundly rd value fits = record {
    registers = with_register-fits s.registers rd value h.registers fits;
    zero = with_register-zero s.registers rd value ∙ h.zero;
    memory = h.memory;
  }

  goes_to_soundly : (rd link target : ℕ) → link < 2 ^ 64 → LeadsSoundly (goes_to s rd link target)
  goes_to_soundly rd link target fits = either_soundly (target % 4 == 0) _ _
      record {
        registers = with_register-fits s.registers rd link h.registers fits;
        zero = with_register-zero s.registers rd link ∙ h.zero;
        memory = h.memory;
      }
      tt

  -- what an access of at most eight bytes gives
  extended-lt : (signed : Bool) (address size : ℕ) → IsTrue (is_size size) →
      extended signed size (loaded s.memory address size) < 2 ^ 64
  extended-lt true address size is = modulo-lt 64 _
  extended-lt false address size is =
      let few : 8 * size ≤ 64 = grind (arith, nat_tests) in
      lt_of_lt_of_le (loaded-lt s.memory address size h.memory) (pow_mono few)

  stored-lt : (address size value at : ℕ) → stored s.memory address size value at < 2 ^ 8
  stored-lt address size value at =
      byte_of (nat_le address at && nat_lt at (address + size)) (mod-lt _ (pow_pos 8)) (h.memory at)

  done_soundly : (e : Effect) → ValuesFit e → HasASize e → LeadsSoundly (done m s e)
  done_soundly (Set rd value) fits sized = set_soundly rd value fits
  done_soundly (Jump rd link target) fits sized = goes_to_soundly rd link target fits.0
  done_soundly (Branch taken target) fits sized =
      either_soundly taken _ _ (goes_to_soundly 0 0 target (lit< tt)) (set_soundly 0 0 (lit< tt))
  done_soundly (Load rd address size signed) fits sized =
      either_soundly (is_accessible m address size) _ _ (set_soundly rd _ (extended-lt signed address size sized)) tt
  done_soundly (Store address size value) fits sized =
      either_soundly (is_accessible m address size) _ _
      record { registers = h.registers; zero = h.zero; memory = stored-lt address size value }
      tt
  done_soundly Ask fits sized = request_soundly (request_of s.registers)
  done_soundly Break fits sized = tt

  decoded_soundly : (o : Option Instr) → LeadsSoundly (decoded_step m s o)
  decoded_soundly None = tt
  decoded_soundly (Some i) = done_soundly (row s.registers s.pc i) (row_values_fit s.registers s.pc i h.registers) (row_has_a_size s.registers s.pc i)

  fetched_soundly : (o : Option ℕ) → LeadsSoundly (fetched_step m s o)
  fetched_soundly None = tt
  fetched_soundly (Some word) = decoded_soundly (instr_of word)

and_then_soundly : (o : Outcome) (go : State → Option State) (t : State) → LeadsSoundly o →
    ((u : State) → IsSound u → go u ≡ Some t → IsSound t) → and_then o go ≡ Some t → IsSound t
and_then_soundly (Next u) go t h on is = on u h is
and_then_soundly (Asks _) go t h on is = absurd (cc)
and_then_soundly (Traps _) go t h on is = absurd (cc)

pub sound_steps : (m : MemoryMap) (n : ℕ) (s t : State) → IsSound s → steps m n s ≡ Some t → IsSound t
sound_steps m zero s t h is = let e : s ≡ t = cc in subst (λ u. IsSound u) e h
sound_steps m (suc n) s t h is =
    and_then_soundly (instruction_step m s) (steps m n) t (fetched_soundly m s h (fetched m.code s.pc))
    (λ u sound. sound_steps m n u t sound)
    is

pub sound_start : (r : Region) (memory : ℕ → ℕ) → top r < 2 ^ 64 → ((address : ℕ) → memory address < 2 ^ 8) → IsSound (start r memory)
sound_start r memory fits bytes = record {
  registers = with_register-fits _ REGION _ (with_register-fits _ FRAME _ (λ k. lit< tt) fits) (omega (arith, fits));
  zero = refl;
  memory = bytes;
}
