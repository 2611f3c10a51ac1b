use Rattle.std.proofs.Common.{sym, ap, ◌∙◌, subst}
use Rattle.cmm_static_semantics.specs.Scopes.{senses}
use Rattle.cmm_elaboration.specs.Bodies as meaning
use Rattle.cmm_elaboration.specs.Resolving as resolving
use Rattle.cmm_lower_parts.specs.Fitting.{ActualsFit}
use Rattle.cmm_proc_scope.specs.Bodies.{scope_of_body}
use Rattle.cmm_lower.proofs.forms.return_form.Goals as goal

pub returns : goal.returns
returns g c exit actuals = let s = scope_of_body g.N.Names.senses c.args.names.now in
    c.exit_form.ensures exit ∙ ap (meaning.return_form s c.args.exit.now)
    (c.in_ok-values.ensures (subst ActualsFit (sym c.passed.ensures) actuals) ∙ ap (resolving.values_of (senses s)) c.passed.ensures)
