use Rattle.std.proofs.Common.{[], map, subst}
use Rattle.cmm_check_declarations.specs.DataEnds.{IsEnd}
use Rattle.cmm_symbols.specs.Shown.{thing_item}
use Rattle.cmm_check_units.proofs.Totals.{goes_on, stays_past}
use Rattle.cmm_check_units.proofs.sums.end_after.Goals as goal

pub returns-in-Some : goal.returns-in-Some
returns-in-Some g c = λ place. λ before.
    goes_on (g.N.Names.senses c.args.names.now) (map thing_item c.args.things.now) place c.in-Some.place c.end_of_data.result (subst (IsEnd place []) c.in-Some.is before) c.end_of_data.ensures

pub returns-in-None : goal.returns-in-None
returns-in-None g c = λ place. λ before. stays_past (g.N.Names.senses c.args.names.now) (map thing_item c.args.things.now) place (subst (IsEnd place []) c.in-None.is before)
