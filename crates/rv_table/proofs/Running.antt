-- Runs: how they join, and straight pieces.
use Rattle.std.proofs.Common.{◌≡◌, ℕ, zero, suc, ◌+◌, refl, ap, ◌∙◌, arith, zero-add}
use Rattle.std.specs.Prelude.{List, [], ◌∷◌, length, Option, Some, None}
use Rattle.std.specs.Option.{option_and_then}
use Rattle.rv_table.specs.declared.effects.Effect.{Effect}
use Rattle.rv_table.specs.declared.effects.Effect.TheVariants.{Set, Jump, Branch, Load, Store, Ask, Break}
use Rattle.rv_table.specs.declared.instruction.Instr.{Instr}
use Rattle.rv_table.specs.Decoding.{instr_of}
use Rattle.rv_table.specs.Machine.{MemoryMap, State, Outcome, Next, Asks, Traps, fetched, done, decoded_step, fetched_step, instruction_step, steps, with_set, and_then}
use Rattle.rv_table.specs.Row.{row}
use Rattle.rv_table.specs.Stands.{standing, Stands}
use Rattle.rv_table.specs.Straight.{on_set, straight}

and_then-steps : (m : MemoryMap) (a b : ℕ) (o : Outcome) →
    ((t : State) → steps m (a + b) t ≡ option_and_then (steps m b) (steps m a t)) →
    and_then o (steps m (a + b)) ≡ option_and_then (steps m b) (and_then o (steps m a))
and_then-steps m a b (Next t) h = h t
and_then-steps m a b (Asks _) h = refl
and_then-steps m a b (Traps _) h = refl

-- a run of n steps and then m more
pub steps-add : (m : MemoryMap) (a b : ℕ) (s : State) → steps m (a + b) s ≡ option_and_then (steps m b) (steps m a s)
steps-add m zero b s = rw (zero-add b)
steps-add m (suc a) b s =
    let e : suc a + b ≡ suc (a + b) = omega arith in
    rw e (and_then-steps m a b (instruction_step m s) (steps-add m a b))

pub then_runs : (m : MemoryMap) (a b : ℕ) (s t u : State) →
    steps m a s ≡ Some t → steps m b t ≡ Some u → steps m (a + b) s ≡ Some u
then_runs m a b s t u first second = rw (steps-add m a b s, first, second)

step_of_standing : (m : MemoryMap) (s : State) (i : Instr) (o : Option ℕ) → option_and_then instr_of o ≡ Some i →
    fetched_step m s o ≡ done m s (row s.registers s.pc i)
step_of_standing m s i None stands = absurd (cc)
step_of_standing m s i (Some word) stands = ap (decoded_step m s) stands

-- what stands at pc is what the step does
pub instruction_step-standing : (m : MemoryMap) (s : State) (i : Instr) → standing m.code s.pc ≡ Some i →
    instruction_step m s ≡ done m s (row s.registers s.pc i)
instruction_step-standing m s i stands = step_of_standing m s i (fetched m.code s.pc) stands

-- an instruction that sets a register
pub instruction_step-set : (m : MemoryMap) (s : State) (i : Instr) (rd value : ℕ) → standing m.code s.pc ≡ Some i →
    row s.registers s.pc i ≡ Set rd value → instruction_step m s ≡ Next (with_set s rd value)
instruction_step-set m s i rd value stands is = instruction_step-standing m s i stands ∙ ap (done m s) is

step_of_set : (m : MemoryMap) (s : State) (go : State → Option State) (e : Effect) (t : State) →
    on_set e (λ rd value. go (with_set s rd value)) ≡ Some t → and_then (done m s e) go ≡ Some t
step_of_set m s go (Set rd value) t leads = leads
step_of_set m s go (Jump _ _ _) t leads = absurd (cc)
step_of_set m s go (Branch _ _) t leads = absurd (cc)
step_of_set m s go (Load _ _ _ _) t leads = absurd (cc)
step_of_set m s go (Store _ _ _) t leads = absurd (cc)
step_of_set m s go Ask t leads = absurd (cc)
step_of_set m s go Break t leads = absurd (cc)

on_set_more : (e : Effect) (f g : ℕ → ℕ → Option State) (t : State) →
    ((rd value : ℕ) → f rd value ≡ Some t → g rd value ≡ Some t) → on_set e f ≡ Some t → on_set e g ≡ Some t
on_set_more (Set rd value) f g t more leads = more rd value leads
on_set_more (Jump _ _ _) f g t more leads = absurd (cc)
on_set_more (Branch _ _) f g t more leads = absurd (cc)
on_set_more (Load _ _ _ _) f g t more leads = absurd (cc)
on_set_more (Store _ _ _) f g t more leads = absurd (cc)
on_set_more Ask f g t more leads = absurd (cc)
on_set_more Break f g t more leads = absurd (cc)

-- a straight piece that stands at pc is run
pub straight_runs : (m : MemoryMap) (is : List Instr) (s t : State) → Stands m.code s.pc is → straight s is ≡ Some t →
    steps m (length is) s ≡ Some t
straight_runs m [] s t stands leads = leads
straight_runs m (i ∷ is) s t stands leads =
    let e = row s.registers s.pc i in
    let rest : (rd value : ℕ) → straight (with_set s rd value) is ≡ Some t →
    steps m (length is) (with_set s rd value) ≡ Some t =
    λ rd value. straight_runs m is (with_set s rd value) t stands.1
    in
    let go : and_then (done m s e) (steps m (length is)) ≡ Some t =
    step_of_set m s (steps m (length is)) e t (on_set_more e _ _ t rest leads)
    in
    rw (instruction_step-standing m s i stands.0) go
