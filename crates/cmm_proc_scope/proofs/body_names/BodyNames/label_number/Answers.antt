use Rattle.cmm_proc_scope.specs.Bodies.{scope_of_body}
use Rattle.cmm_proc_scope.specs.Owned.{local_shown}
use Rattle.cmm_proc_scope.proofs.Meanings.{label_numbered, no_label}
use Rattle.cmm_proc_scope.proofs.body_names.BodyNames.label_number.Goals as goal

pub returns-in-Some : goal.returns-in-Some
returns-in-Some g c passes = label_numbered c.args.name.now (scope_of_body g.N.Names.senses c.args.self.now).own (local_shown c.in-Some.own.local) c.in-Some.own.number
    c.in-Some.ensures.local c.in-Some.ensures.number passes

pub returns-in-None : goal.returns-in-None
returns-in-None g c passes = absurd (no_label c.args.name.now (scope_of_body g.N.Names.senses c.args.self.now).own c.in-None.ensures.local passes)
