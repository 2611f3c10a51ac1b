use Rattle.std.proofs.Common.{arith}
use Rattle.rv_asm.specs.declared.part.Part.TheVariants.{Call}
use Rattle.cmm_effects.proofs.Shared.{adds_part, adds_then, adds_weaker}
use Rattle.cmm_emit_laws.proofs.Started.{begins_run}
use Rattle.cmm_emit_laws.proofs.starting.start_run.Goals as goal

pub returns-clause-begins : goal.returns-clause-begins
returns-clause-begins c =
    adds_weaker
    (adds_then {a = 2} {b = 2} (rw (c.in_ok-call.ensures.parts) (adds_part c.args.asm.now.parts (Call c.args.main) 2 (omega arith))) c.in_ok-ask_end.ensures.asks)
    (omega arith) (λ x from to does. begins_run x c.args.main from to does)
