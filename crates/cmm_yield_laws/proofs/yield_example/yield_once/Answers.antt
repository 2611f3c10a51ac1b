use Rattle.rv_asm.proofs.Shared.{appends_one, appends_then, appends_weaker}
use Rattle.rv_asm.specs.declared.part.Part.TheVariants.{Jump, Place}
use Rattle.cmm_yield_laws.proofs.YieldedOnce.{yields_once}
use Rattle.cmm_yield_laws.proofs.yield_example.yield_once.Goals as goal

pub returns : goal.returns
returns c = record {
  code = appends_weaker
      (appends_then c.in_ok-start_run.ensures.begins.appends
      (appends_then (rw (c.place.ensures.parts) (appends_one c.start_run.new.asm.parts (Place c.args.main)))
      (appends_then c.in_ok-begin.ensures.begins.appends
      (appends_then c.in_ok-call.ensures.calls.appends
      (appends_then c.in_ok-lay_exits.ensures.exits.appends
      (appends_then {b = c.jump.new.self.parts} (rw (c.in_ok-jump.ensures.parts) (appends_one c.lay_exits.new.asm.parts (Jump c.args.behind)))
      (appends_then (rw (c.place-2.ensures.parts) (appends_one c.jump.new.self.parts (Place c.args.behind)))
      (appends_then c.in_ok-return_values.ensures.returns.appends
      (appends_then (rw (c.place-3.ensures.parts) (appends_one c.return_values.new.asm.parts (Place c.args.client)))
      (appends_then c.in_ok-ask_client.ensures.asks.appends
      (appends_then (rw (c.place-4.ensures.parts) (appends_one c.ask_client.new.asm.parts (Place c.args.limit)))
      c.in_ok-ask_limit.ensures.asks.appends)))))))))))
      (λ x from to does. yields_once c.args.frame.now c.args.main c.args.client c.args.site c.args.behind c.args.limit x from to does);
}
