use Rattle.cmm_check_units.proofs.Whole.{proc_noted}
use Rattle.cmm_check_units.proofs.procedures.note_proc.Goals as goal

pub returns : goal.returns
returns g c = let names = g.N.Names.senses c.args.names.now in
    proc_noted names c.args.own.now c.args.best.now c.note_procedure.new.best c.note_limits.new.best c.in_ok-note_procedure.ensures (c.note_limits.ensures names c.within.ensures.scope)
