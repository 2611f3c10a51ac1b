-- Parts that name a label. What such a part means is said of every state at its address, by one instruction at least that doesn't ask: so its
-- first instruction is quiet, whichever it is.
use Rattle.std.proofs.Common.{◌≡◌, ℕ, zero, suc, ◌≤◌, subst, arith}
use Rattle.std.specs.Prelude.{Some, None, false}
use Rattle.rv_asm.specs.Parts.{Code, Does, Gives, GoesTo, Runs as RunsTo}
use Rattle.rv_asm.specs.declared.part.Label.{Label}
use Rattle.rv_asm.specs.declared.part.Part.TheVariants.{Address, Jump}
use Rattle.rv_table.proofs.Shared.{steps_none_if_asks}
use Rattle.rv_table.specs.Bounds.{IsSound}
use Rattle.rv_table.specs.Machine.{MemoryMap, State, Asks, instruction_step, steps}
use Rattle.rv_table.specs.declared.request.Request.{Request}
use Rattle.cmm_effects.proofs.Following.{gives_sets, reaches_more, reaches_sound}
use Rattle.cmm_abi.specs.Registers.{is_scratch}
use Rattle.cmm_effects.specs.Changes.{Keeps, Sets}
use Rattle.cmm_effects.specs.Pieces.{Always, BeginsQuietly, Leads}
use Rattle.cmm_effects.specs.Ways.{Turns}

-- a state that asks makes no step
never_steps : (m : MemoryMap) (s t : State) (r : Request) (n : ℕ) → 1 ≤ n → instruction_step m s ≡ Asks r → steps m n s ≡ Some t → ⊥
never_steps m s t r zero some asks is = absurd (omega arith)
never_steps m s t r (suc n) some asks is =
    let none : steps m (suc n) s ≡ None = steps_none_if_asks m s r n asks in
    absurd (cc)

pub quiet_if_runs : (x : Code) (from least most : ℕ) (Q : State → State → Type 0) → 1 ≤ least → RunsTo x from least most Q → BeginsQuietly x from
quiet_if_runs x from least most Q some runs s r at asks =
    let reached = runs s at in
    absurd (never_steps x.map s reached.to r reached.count (omega (arith, reached.enough)) asks reached.runs)

-- a register gets the number that a label stands for
pub leads_address : (x : Code) (rd from to : ℕ) (l : Label) → Does x (Address rd l) from to → Leads 2 Always (λ s t. Sets rd (x.at l.number) s t) x from to
leads_address x rd from to l does = record {
  quiet = quiet_if_runs x from 1 2 (Gives rd (x.at l.number) to) (omega arith) does;
  runs = record {
    go = λ s sound at p. reaches_more (does s at) (λ t gives. gives_sets rd (x.at l.number) to s t gives);
  };
}

pub goes_keeps : (address : ℕ) (s t : State) → GoesTo address s t → Keeps s t
goes_keeps address s t goes = record { registers = λ r is. goes.registers r (λ e. six r e is); memory = goes.memory }
  where
    six : (r : ℕ) → r ≡ 6 → is_scratch r ≡ false → ⊥
    six r e h = let g : is_scratch 6 ≡ false = subst (λ (k : ℕ). is_scratch k ≡ false) e h in absurd (cc)

-- control goes to a label
pub turns_jump : (x : Code) (from to : ℕ) (l : Label) → Does x (Jump l) from to → Turns 2 Always (λ s. x.at l.number) Keeps x from
turns_jump x from to l does = record {
  quiet = quiet_if_runs x from 1 2 (GoesTo (x.at l.number)) (omega arith) does;
  goes = record { go = λ s sound at p. reaches_more (does s at) (λ t goes. (goes.pc, goes_keeps (x.at l.number) s t goes)) };
}

-- a piece from a sound state arrives in one
pub leads_sound : {x : Code} {from to a : ℕ} {P : MemoryMap → State → Type 0} {Q : State → State → Type 0} → Leads a P Q x from to →
    Leads a P (λ s t. Q s t × IsSound t) x from to
leads_sound leads = record {
  quiet = leads.quiet;
  runs = record {
    go = λ s sound at p. reaches_more (reaches_sound (leads.runs.go s sound at p) sound) (λ t there. (there.0.0, (there.0.1, there.1)));
  };
}
