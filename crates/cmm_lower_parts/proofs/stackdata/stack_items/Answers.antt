use Rattle.std.proofs.Common.{◌≡◌, ◌∙◌, map, rules}
use Rattle.cmm_elaboration.specs.Procedures.{stack_items}
use Rattle.cmm_lower_parts.specs.Owned.{rooms_in}
use Rattle.cmm_proc_scope.specs.Bodies.{scope_of_body}
use Rattle.cmm_lower_parts.specs.Held.{item_held}
use Rattle.cmm_lower_parts.proofs.Holding.{items_same}
use Rattle.cmm_lower_parts.proofs.stackdata.stack_items.Goals as goal

pub returns-clause-fitting : goal.returns-clause-fitting
returns-clause-fitting g c = λ fit.
    let items = stack_items (scope_of_body g.N.Names.senses c.args.names.now) (rooms_in c.args.own.now) in
    let held : c.from_vec.result ≡ map item_held items = search rules in
    held ∙ items_same items fit
