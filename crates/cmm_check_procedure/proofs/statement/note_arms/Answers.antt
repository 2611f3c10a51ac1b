use Rattle.std.proofs.Common.{map, sym, ap, ◌∙◌}
use Rattle.cmm_static_semantics.specs.Scopes.{senses}
use Rattle.cmm_static_semantics.specs.Spots.{first_of}
use Rattle.cmm_static_semantics.specs.Switches.{switch_spots}
use Rattle.cmm_static_semantics.proofs.Shared.{on_ok}
use Rattle.cmm_proc_scope.specs.Bodies.{scope_of_body}
use Rattle.cmm_check_procedure.specs.Heads.{arm_head}
use Rattle.cmm_check_procedure.specs.inside.Parted.{value_width}
use Rattle.cmm_check_procedure.proofs.StatementFaults.{arms_law}
use Rattle.cmm_check_procedure.proofs.statement.note_arms.Goals as goal

pub returns-in-Switch : goal.returns-in-Switch
returns-in-Switch g c =
    let s = scope_of_body g.N.Names.senses c.args.names.now in
    on_ok c.note_switch.result
    (λ noted. noted ∙ ap (λ width. first_of c.args.best.now (switch_spots (senses s) width c.in-Switch.range (map arm_head c.as_slice.result.now))) c.value_width-width.ensures
    ∙ ap (λ arms. first_of c.args.best.now (switch_spots (senses s) (value_width s c.in-Switch.value) c.in-Switch.range (map arm_head arms))) c.as_slice.ensures
    ∙ ap (first_of c.args.best.now) (sym (arms_law s c.args.form.now c.in-Switch.range c.in-Switch.value c.in-Switch.arms c.in-Switch.is)))
    c.note_switch.ensures
