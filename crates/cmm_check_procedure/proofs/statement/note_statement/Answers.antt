use Rattle.cmm_static_semantics.proofs.Shared.{on_ok}
use Rattle.cmm_proc_scope.specs.Bodies.{scope_of_body}
use Rattle.cmm_check_procedure.proofs.StatementFaults.{both_parts}
use Rattle.cmm_check_procedure.proofs.statement.note_statement.Goals as goal

pub returns : goal.returns
returns g c = on_ok c.note_arms.result
    (both_parts (scope_of_body g.N.Names.senses c.args.names.now) c.args.stmt.now.token c.args.stmt.now.form c.args.best.now c.note_form.new.best c.note_arms.new.best c.note_form.ensures)
    c.note_arms.ensures
