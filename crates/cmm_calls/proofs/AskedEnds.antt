-- A number and an ECALL ask for the end of a run, or for the client.
use Rattle.std.proofs.Common.{◌≡◌, ℕ, ◌%◌, ◌<◌, refl, sym, ◌∙◌, subst, arith, [], ◌∷◌, pos}
use Rattle.std.specs.Prelude.{◌==◌, find, Some}
use Rattle.rv_asm.proofs.Shared.{reaches_weaker, single_does}
use Rattle.rv_asm.specs.Parts.{Code, Does}
use Rattle.rv_asm.specs.declared.part.Part.TheVariants.{Single}
use Rattle.rv_table.specs.Machine.{State}
use Rattle.rv_table.specs.Words.{modulo, sum}
use Rattle.rv_table.specs.Requests.{request_number, request_of}
use Rattle.rv_table.specs.declared.instruction.Instr.TheVariants.{Addi, Ecall}
use Rattle.rv_table.specs.declared.request.Request.{Request}
use Rattle.rv_table.specs.declared.request.Request.TheVariants.{PutByte, GetByte, Yield, StackLimit, End}
use Rattle.cmm_effects.proofs.Shared.{leads_set, set_keeps}
use Rattle.cmm_effects.specs.Requests.{AsksFor}

limit_asked : (g : ℕ → ℕ) → g 5 ≡ 4 → request_of g ≡ Some StackLimit
limit_asked g is =
    subst (λ (n : ℕ). find (λ r. request_number r == n) (PutByte (g 10 % 256) ∷ GetByte ∷ Yield ∷ StackLimit ∷ End (g 10) ∷ []) ≡ Some StackLimit) (sym is) refl

client_asked : (g : ℕ → ℕ) → g 5 ≡ 3 → request_of g ≡ Some Yield
client_asked g is =
    subst (λ (n : ℕ). find (λ r. request_number r == n) (PutByte (g 10 % 256) ∷ GetByte ∷ Yield ∷ StackLimit ∷ End (g 10) ∷ []) ≡ Some Yield) (sym is) refl

end_asked : (g : ℕ → ℕ) (v : ℕ) → g 5 ≡ 5 → g 10 ≡ v → request_of g ≡ Some (End v)
end_asked g v is value =
    subst (λ (n : ℕ). request_of g ≡ Some (End n)) value
    (subst (λ (n : ℕ). find (λ r. request_number r == n) (PutByte (g 10 % 256) ∷ GetByte ∷ Yield ∷ StackLimit ∷ End (g 10) ∷ []) ≡ Some (End (g 10))) (sym is) refl)

first_number : (z n : ℕ) → z ≡ 0 → n < 2048 → sum z (modulo 64 (pos n)) ≡ n
first_number z n none small = omega arith

-- a request of a number that this and register 10 tell
asks : (x : Code) (from mid to number : ℕ) (asked : State → Request) → number < 2048 → Does x (Single (Addi 5 0 (pos number))) from mid → Does x (Single Ecall) mid to →
    ((s t : State) → t.registers 5 ≡ number → t.registers 10 ≡ s.registers 10 → request_of t.registers ≡ Some (asked s)) → AsksFor 1 asked x from
asks x from mid to number asked small first ecall tells = record {
  go = λ s sound at. reaches_weaker ((leads_set x (Addi 5 0 (pos number)) from mid 5 (λ g. sum (g 0) (modulo 64 (pos number))) (omega arith) (λ g pc. refl) first).runs.go s sound at tt)
      (omega arith) (omega arith) (λ t there. (
        set_keeps 5 (sum (s.registers 0) (modulo 64 (pos number))) s t refl there.1,
        (single_does x Ecall mid to t ecall there.0).ask (asked s) refl
            (tells s t (there.1.given ∙ first_number (s.registers 0) number sound.zero small) (there.1.others 10 refl)),
      ));
}

pub asks_limit : (x : Code) (from mid to : ℕ) → Does x (Single (Addi 5 0 (pos 4))) from mid → Does x (Single Ecall) mid to → AsksFor 1 (λ t. StackLimit) x from
asks_limit x from mid to first ecall = asks x from mid to 4 (λ t. StackLimit) (omega arith) first ecall (λ s t is same. limit_asked t.registers is)

pub asks_end : (x : Code) (from mid to : ℕ) → Does x (Single (Addi 5 0 (pos 5))) from mid → Does x (Single Ecall) mid to → AsksFor 1 (λ t. End (t.registers 10)) x from
asks_end x from mid to first ecall = asks x from mid to 5 (λ t. End (t.registers 10)) (omega arith) first ecall (λ s t is same. end_asked t.registers (s.registers 10) is same)

pub asks_client : (x : Code) (from mid to : ℕ) → Does x (Single (Addi 5 0 (pos 3))) from mid → Does x (Single Ecall) mid to → AsksFor 1 (λ t. Yield) x from
asks_client x from mid to first ecall = asks x from mid to 3 (λ t. Yield) (omega arith) first ecall (λ s t is same. client_asked t.registers is)
