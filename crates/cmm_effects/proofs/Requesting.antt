-- A request between two pieces.
use Rattle.std.proofs.Common.{◌≡◌, ℕ, ◌+◌, ◌%◌, ◌<◌, ◌^◌, refl, sym, ◌∙◌, ap, subst, [], ◌∷◌}
use Rattle.std.specs.Prelude.{◌==◌, find, Some}
use Rattle.rv_asm.proofs.Shared.{single_does}
use Rattle.rv_asm.specs.Reaching.{Reaches}
use Rattle.rv_table.proofs.Shared.{with_register-fits, with_register-zero}
use Rattle.rv_asm.specs.Parts.{Code, Does}
use Rattle.rv_asm.specs.declared.part.Part.TheVariants.{Single}
use Rattle.rv_table.specs.Bounds.{IsSound}
use Rattle.rv_table.specs.Machine.{MemoryMap, State, Traps, instruction_step, with_set}
use Rattle.rv_table.specs.Requests.{request_number, request_of}
use Rattle.rv_table.specs.declared.instruction.Instr.TheVariants.{Ebreak, Ecall}
use Rattle.rv_table.specs.declared.request.Request.{Request}
use Rattle.rv_table.specs.declared.request.Request.TheVariants.{PutByte, GetByte, Yield, StackLimit, End}
use Rattle.rv_table.specs.declared.trap.TrapKind.TheVariants.{Breakpoint}
use Rattle.cmm_effects.proofs.Following.{reaches_more, reaches_sound}
use Rattle.cmm_effects.specs.Pieces.{Leads}
use Rattle.cmm_effects.specs.Requests.{IsAnswered, KeepsAsking, Requests}

pub puts_byte : (g : ℕ → ℕ) → g 5 ≡ 1 → request_of g ≡ Some (PutByte (g 10 % 256))
puts_byte g is =
    subst (λ (n : ℕ). find (λ r. request_number r == n) (PutByte (g 10 % 256) ∷ GetByte ∷ Yield ∷ StackLimit ∷ End (g 10) ∷ []) ≡ Some (PutByte (g 10 % 256))) (sym is) refl

pub gets_byte : (g : ℕ → ℕ) → g 5 ≡ 2 → request_of g ≡ Some GetByte
gets_byte g is =
    subst (λ (n : ℕ). find (λ r. request_number r == n) (PutByte (g 10 % 256) ∷ GetByte ∷ Yield ∷ StackLimit ∷ End (g 10) ∷ []) ≡ Some GetByte) (sym is) refl

-- a piece, then the request for which the registers stand, and what is done behind it
pub requests_then : {x : Code} {from mid behind to before after : ℕ} {P : MemoryMap → State → Type 0} {Q B : State → State → Type 0} (asked : State → Request) →
    Leads before P Q x from mid → Does x (Single Ecall) mid behind →
    ((s t : State) → IsSound t → Q s t → KeepsAsking s t × (request_of t.registers ≡ Some (asked s))) →
    ((s t u : State) → IsAnswered (asked s) t u → u.pc ≡ t.pc + 4) →
    ((s t u : State) → IsSound t → P x.map s → Q s t → IsAnswered (asked s) t u → u.pc ≡ behind → Reaches x.map 0 after u (λ v. (v.pc ≡ to) × B u v)) →
    Requests before after P asked B x from to
requests_then {x = x} {mid = mid} {behind = behind} asked first ecall asks on rest = record {
  quiet = first.quiet;
  go = λ s sound at p.
      reaches_more (reaches_sound (first.runs.go s sound at p) sound)
      (λ t there. (
        (asks s t there.1 there.0.1).0,
        (single_does x Ecall mid behind t ecall there.0.0).ask (asked s) refl (asks s t there.1 there.0.1).1,
        λ u answered. rest s t u there.1 p there.0.1 answered (on s t u answered ∙ ap (λ (k : ℕ). k + 4) there.0.0 ∙ sym ecall.0),
      ));
}

-- what is behind a request is sound
pub sound_behind : (t : State) → IsSound t → IsSound (record t { pc = t.pc + 4 })
sound_behind t sound = record { registers = sound.registers; zero = sound.zero; memory = sound.memory }

pub sound_taken : (t : State) (n : ℕ) → n < 2 ^ 64 → IsSound t → IsSound (with_set t 10 n)
sound_taken t n fits sound = record {
  registers = with_register-fits t.registers 10 n sound.registers fits;
  zero = with_register-zero t.registers 10 n ∙ sound.zero;
  memory = sound.memory;
}

-- a state at a breakpoint traps
pub breaks : (x : Code) (from to : ℕ) → Does x (Single Ebreak) from to → (s : State) → s.pc ≡ from → instruction_step x.map s ≡ Traps Breakpoint
breaks x from to does s at = does.1 s at
