use Rattle.std.proofs.Common.{ap, sym, ◌∙◌}
use Rattle.std.specs.Prelude.{option_map}
use Rattle.cmm_static_semantics.specs.Spots.{first_of}
use Rattle.cmm_static_semantics.specs.Switches.{extent_spots}
use Rattle.cmm_check_procedure.specs.Extents.{shown}
use Rattle.cmm_check_procedure.proofs.Switched.{extent_noted}
use Rattle.cmm_check_procedure.proofs.ranges.Switch.note_extent.Goals as goal

pub returns-in-Some : goal.returns-in-Some
returns-in-Some g c earlier told = let names = g.N.Names.senses c.args.self.now.names.now in let width = c.args.self.now.width in
    let all = option_map shown c.args.self.now.whole in
    c.unless.ensures
    ∙ extent_noted names width all c.args.seen.now earlier c.args.token (shown c.in-Some.extent) c.allows-allowed.result c.args.best.now told c.allows-allowed.ensures
    ∙ ap (λ o. first_of c.args.best.now (extent_spots names width all earlier c.args.token (option_map shown o))) (sym c.in-Some.is)
