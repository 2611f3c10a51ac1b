-- Runs of instructions, one more each time.
use Rattle.std.proofs.Common.{◌≡◌, ℕ, ◌+◌, Some, ap, sym, ◌∙◌}
use Rattle.rv_memory.specs.Regions.{Regions, map_of}
use Rattle.rv_sim.specs.declared.event.Event.{Event}
use Rattle.rv_sim.specs.declared.event.Event.TheVariants as event
use Rattle.rv_sim.specs.Stepping.{event_of, outcome_of, state_of, state_after}
use Rattle.rv_table.specs.declared.registers.Regs.{Regs}
use Rattle.rv_table.specs.Machine as machine
use Rattle.rv_table.specs.Machine.{MemoryMap, State, Outcome, instruction_step, steps, and_then}
use Rattle.rv_table.proofs.Shared.{then_runs}

one_next : (m : MemoryMap) (s : State) (o : Outcome) (t : State) (pc : ℕ) → event_of pc o ≡ event.Next → t ≡ state_after s o → and_then o (steps m 0) ≡ Some t
one_next m s (machine.Next u) t pc is after = ap Some (sym after)
one_next m s (machine.Asks r) t pc is after = absurd (cc is)
one_next m s (machine.Traps kind) t pc is after = absurd (cc is)

-- n instructions and then one that ended in the next
pub one_more : (map : MemoryMap) (n : ℕ) (s : State) (r q : Regs) (m k : Regions) (e : Event) → map_of m ≡ map → steps map n s ≡ Some (state_of r m) →
    e ≡ event_of r.pc (outcome_of r m) → e ≡ event.Next → state_of q k ≡ state_after (state_of r m) (outcome_of r m) →
    steps map (n + 1) s ≡ Some (state_of q k)
one_more map n s r q m k e same ran is next after =
    let one : steps (map_of m) 1 (state_of r m) ≡ Some (state_of q k) =
    one_next (map_of m) (state_of r m) (outcome_of r m) (state_of q k) r.pc (sym is ∙ next) after in
    then_runs map n 1 s (state_of r m) (state_of q k) ran (ap (λ (x : MemoryMap). steps x 1 (state_of r m)) (sym same) ∙ one)
