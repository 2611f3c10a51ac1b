use Rattle.std.proofs.Common.{◌≡◌, ◌∙◌, sym, ap, refl, Bool, [], ◌∷◌}
use Rattle.std.specs.Prelude.{◌||◌}
use Rattle.std.specs.List.{list_any}
use Rattle.cmm_graph.specs.Counterpart.{targets_of_destination}
use Rattle.cmm_graph.specs.Paths.{operands_of_rvalue}
use Rattle.cmm_graph.specs.declared.operand.Destination.{Destination}
use Rattle.cmm_unit_code.specs.declared.unit_code.Reference.{Reference}
use Rattle.cmm_emit.specs.Mentions.{assignment_names, operand_names, read_names, target_names}
use Rattle.cmm_emit.proofs.Mentioned.{adds_both, adds_so, or_none}
use Rattle.cmm_emit.proofs.mentions.Mentions.add_assignment.Goals as goal

pub returns-in-Target : goal.returns-in-Target
returns-in-Target c =
    let value = c.args.value in
    let target = c.in-Target.target in
    let reads = λ (r : Reference). list_any (operand_names r) (operands_of_rvalue value) || read_names r value in
    adds_so (λ r. reads r || target_names r target) (λ r. assignment_names r c.args.to value) c.args.self.now c.add_target.new.self
    (λ r. ap (λ (b : Bool). reads r || b) (or_none (target_names r target))
    ∙ ap (λ (d : Destination). reads r || list_any (target_names r) (targets_of_destination d)) (sym c.in-Target.is))
    (adds_both reads (λ r. target_names r target) c.args.self.now c.add_rvalue.new.self c.add_target.new.self c.add_rvalue.ensures c.add_target.ensures)
