use Rattle.std.proofs.Common.{sym, ap, ◌∙◌}
use Rattle.std.specs.Prelude.{flat_map}
use Rattle.cmm_ast.specs.declared.unit.Item.TheVariants as items
use Rattle.cmm_static_semantics.specs.Faults.{item_procedure_spots}
use Rattle.cmm_static_semantics.specs.Items.{items_of}
use Rattle.cmm_static_semantics.specs.Spots.{first_of}
use Rattle.cmm_proc_scope.proofs.Shared.{over_procs_of}
use Rattle.cmm_check_units.proofs.Whole.{procedures_alone}
use Rattle.cmm_check_units.proofs.unit.note_and_count.Goals as goal

pub returns-clause-best : goal.returns-clause-best
returns-clause-best g c = let spots = item_procedure_spots (g.N.Names.senses c.args.names.now) in
    c.in_ok-note_procedures.ensures
    ∙ ap (λ ps. first_of c.args.best.now (flat_map (λ p. spots (items.Proc p)) ps)) c.procs.ensures
    ∙ ap (first_of c.args.best.now) (sym (over_procs_of spots (procedures_alone (g.N.Names.senses c.args.names.now)) (items_of c.args.flat.now)))

pub returns-clause-sums : goal.returns-clause-sums
returns-clause-sums g c = c.in_ok-sums.ensures
