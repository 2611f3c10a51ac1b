use Rattle.std.proofs.Common.{map, take, ◌++◌, sym, ap, ◌∙◌}
use Rattle.cmm_static_semantics.proofs.Shared.{mapped_next}
use Rattle.cmm_proc_scope.specs.Owned.{own_declared}
use Rattle.cmm_proc_scope.specs.inside.Variables.{names_if_variable, variable_names}
use Rattle.cmm_proc_scope.proofs.VariableNames.{variables_push}
use Rattle.cmm_proc_scope.proofs.variables.variables_of.Goals as goal

pub loop-named-preserved : goal.loop-named-preserved
loop-named-preserved c =
    c.in_ok-add_variable.ensures ∙ ap (λ t. t ++ names_if_variable (own_declared c.named-item.result)) c.loop-named.invariant
    ∙ sym (ap variable_names (mapped_next own_declared c.args.declared.now c.loop-named.named-index c.named-item.result c.loop-named-test.true c.named-item.is)
    ∙ variables_push (map own_declared (take c.loop-named.named-index c.args.declared.now)) (own_declared c.named-item.result))
