use Rattle.cmm_proc_scope.specs.Bodies.{scope_of_body}
use Rattle.cmm_lower.proofs.CallSites.{call_sited}
use Rattle.cmm_lower.proofs.sites.add_site.Goals as goal

pub returns-in_ok-push-in-None : goal.returns-in_ok-push-in-None
returns-in_ok-push-in-None g c = call_sited (scope_of_body g.N.Names.senses c.args.names.now) c.args.spans.now c.args.form.now c.in-Call.results c.as_slice-taken.result.now
    c.in-Call.convention c.in-Call.callee c.in-Call.actuals c.as_slice-passed.result.now c.in-Call.flows c.as_slice-flows.result.now c.in_ok-call_site-in-None.field-0
    c.args.to.now c.push.new.self c.in-Call.is c.in-None.is c.as_slice-taken.ensures c.as_slice-passed.ensures c.as_slice-flows.ensures
    c.in_ok-call_site-in-None.ensures c.in_ok-push-in-None.ensures.ok
