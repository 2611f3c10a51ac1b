use Rattle.std.proofs.Common.{ap, ◌∙◌, option_map}
use Rattle.cmm_proc_scope.specs.Owned.{local_shown}
use Rattle.cmm_proc_scope.proofs.NumberLaws.{found_local}
use Rattle.cmm_proc_scope.proofs.body_types.BodyTypes.find.Goals as goal

pub returns-clause-local : goal.returns-clause-local
returns-clause-local g c = ap (option_map (λ own. local_shown own.local)) c.find.ensures ∙ found_local c.args.self.now.own.now.table.declared c.args.name.now

pub returns-clause-number : goal.returns-clause-number
returns-clause-number g c = ap (option_map (λ own. own.number)) c.find.ensures ∙ c.args.self.now.own.now.numbered c.args.name.now
