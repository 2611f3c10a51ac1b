-- Requests and traps end a run.
use Rattle.std.proofs.Common.{◌≡◌, ℕ, suc, ap}
use Rattle.std.specs.Prelude.{None}
use Rattle.rv_table.specs.declared.request.Request.{Request}
use Rattle.rv_table.specs.declared.trap.TrapKind.{TrapKind}
use Rattle.rv_table.specs.Machine.{MemoryMap, State, Asks, Traps, and_then, instruction_step, steps}

pub steps_none_if_asks : (m : MemoryMap) (s : State) (r : Request) (n : ℕ) → instruction_step m s ≡ Asks r →
    steps m (suc n) s ≡ None
steps_none_if_asks m s r n is = ap (λ o. and_then o (steps m n)) is

pub steps_none_if_traps : (m : MemoryMap) (s : State) (kind : TrapKind) (n : ℕ) → instruction_step m s ≡ Traps kind →
    steps m (suc n) s ≡ None
steps_none_if_traps m s kind n is = ap (λ o. and_then o (steps m n)) is
