use Rattle.std.proofs.Common.{sym, ap, ◌∙◌}
use Rattle.cmm_limits.specs.Capped.{capped}
use Rattle.cmm_limits.specs.inside.OfUnits.{procs_variables}
use Rattle.cmm_limits.proofs.Sums.{unit_variables}
use Rattle.cmm_limits.proofs.unit_variables.site_variables.Goals as goal

pub returns : goal.returns
returns c = λ names. λ u. λ is. c.in_procs.ensures ∙ ap (λ ps. capped (procs_variables ps)) c.procs.ensures ∙ ap capped (unit_variables names u c.args.unit.now is)
