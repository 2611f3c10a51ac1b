use Rattle.std.proofs.Common.{Some, ap, ◌∙◌}
use Rattle.cmm_proc_scope.specs.Bodies.{scope_of_body}
use Rattle.cmm_proc_scope.specs.Owned.{local_shown}
use Rattle.cmm_proc_scope.proofs.Meanings.{sense_own}
use Rattle.cmm_proc_scope.proofs.body_names.BodyNamesNames.sense.Goals as goal

pub returns-in-Some : goal.returns-in-Some
returns-in-Some g c = ap Some c.own_sense.ensures
    ∙ sense_own (scope_of_body g.N.Names.senses c.args.self.now) c.args.name.now (local_shown c.in-Some.own.local) c.in-Some.own.number c.in-Some.ensures.local c.in-Some.ensures.number
