use Rattle.rv_asm.proofs.Shared.{appends_one, appends_then, appends_weaker}
use Rattle.rv_asm.specs.declared.part.Part.TheVariants.{Jump, Place}
use Rattle.cmm_emit_laws.proofs.CalledOnce.{calls_once}
use Rattle.cmm_emit_laws.proofs.call_example.call_once.Goals as goal

pub returns : goal.returns
returns c = record {
  code = appends_weaker
      (appends_then c.in_ok-start_run.ensures.begins.appends
      (appends_then (rw (c.place.ensures.parts) (appends_one c.start_run.new.asm.parts (Place c.args.main)))
      (appends_then c.in_ok-begin.ensures.begins.appends
      (appends_then c.in_ok-call.ensures.calls.appends
      (appends_then c.in_ok-lay_exits.ensures.exits.appends
      (appends_then {b = c.jump.new.self.parts} (rw (c.in_ok-jump.ensures.parts) (appends_one c.lay_exits.new.asm.parts (Jump c.args.behind)))
      (appends_then (rw (c.place-2.ensures.parts) (appends_one c.jump.new.self.parts (Place c.args.behind)))
      (appends_then c.in_ok-return_values.ensures.returns.appends
      (appends_then (rw (c.place-3.ensures.parts) (appends_one c.return_values.new.asm.parts (Place c.args.callee)))
      (appends_then c.in_ok-begin-2.ensures.begins.appends
      (appends_then c.in_ok-return_values-2.ensures.returns.appends
      (appends_then (rw (c.place-4.ensures.parts) (appends_one c.return_values-2.new.asm.parts (Place c.args.limit)))
      c.in_ok-ask_limit.ensures.asks.appends))))))))))))
      (λ x from to does. calls_once c.args.frame.now c.args.main c.args.callee c.args.site c.args.behind c.args.limit x from to does);
}
