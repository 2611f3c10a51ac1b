use Rattle.std.proofs.Common.{ap, ◌∙◌}
use Rattle.cmm_static_semantics.specs.Declarations.{found}
use Rattle.cmm_symbols.proofs.Shared.{numbering_shown}
use Rattle.cmm_unit_scope.proofs.unit_senses.number_in.Goals as goal

pub returns : goal.returns
returns c = c.number.ensures ∙ ap (found c.args.name.now) (numbering_shown c.args.table.now.declared)
