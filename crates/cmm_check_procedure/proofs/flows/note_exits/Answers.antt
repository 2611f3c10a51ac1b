use Rattle.std.specs.Prelude.{flat_map}
use Rattle.cmm_static_semantics.proofs.Shared.{noted_next}
use Rattle.cmm_static_semantics.specs.Calls.{exit_spots}
use Rattle.cmm_proc_scope.specs.Bodies.{scope_of_body}
use Rattle.cmm_check_procedure.proofs.flows.note_exits.Goals as goal

pub loop-exit-preserved : goal.loop-exit-preserved
loop-exit-preserved g c = rw (c.note_exit.ensures, c.loop-exit.invariant)
    (noted_next (exit_spots (scope_of_body g.N.Names.senses c.args.names.now)) c.args.best.now c.args.exits.now c.loop-exit.exit-index c.exit-item.result c.loop-exit-test.true c.exit-item.is)
