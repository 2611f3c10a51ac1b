use Rattle.cmm_ast.specs.declared.unit.Item.TheVariants as items
use Rattle.cmm_static_semantics.specs.Faults.{item_procedure_spots}
use Rattle.cmm_static_semantics.proofs.Shared.{noted_next}
use Rattle.cmm_check_units.proofs.procedures.note_procedures.Goals as goal

pub loop-own-preserved : goal.loop-own-preserved
loop-own-preserved g c = rw (c.in_ok-note_proc.ensures, c.loop-own.invariant)
    (noted_next (λ p. item_procedure_spots (g.N.Names.senses c.args.names.now) (items.Proc p)) c.args.best.now c.args.procs.now c.loop-own.own-index c.own-item.result
    c.loop-own-test.true c.own-item.is)
