use Rattle.std.proofs.Common.{[], sym, ap, ◌∙◌}
use Rattle.cmm_static_semantics.specs.Declarations.{again, own_names}
use Rattle.cmm_static_semantics.specs.Spots.{comes_before, first_of, sooner}
use Rattle.cmm_symbols.proofs.Shared.{first_apart, spot_order}
use Rattle.cmm_proc_scope.proofs.proc_names.ProcNames.note_repeated.Goals as goal

pub returns : goal.returns
returns c =
    c.sooner_of.ensures ∙ ap (sooner c.args.best.now) c.self.invariant.again
    ∙ sym (first_apart comes_before spot_order c.args.best.now (again [] (own_names c.self.inside.proc.now)))
    ∙ ap (λ p. first_of c.args.best.now (again [] (own_names p))) c.self.view_is
