use Rattle.rv_asm.proofs.Shared.{appends_one, appends_then, appends_weaker}
use Rattle.rv_asm.specs.declared.part.Part.TheVariants.{Place}
use Rattle.cmm_emit_laws.proofs.ReturnedSeven.{returns_seven}
use Rattle.cmm_emit_laws.proofs.examples.return_seven.Goals as goal

pub returns : goal.returns
returns c = record {
  code = appends_weaker
      (appends_then c.in_ok-start_run.ensures.begins.appends
      (appends_then (rw (c.place.ensures.parts) (appends_one c.start_run.new.asm.parts (Place c.args.main)))
      (appends_then c.in_ok-begin.ensures.begins.appends
      (appends_then c.in_ok-return_values.ensures.returns.appends
      (appends_then (rw (c.place-2.ensures.parts) (appends_one c.return_values.new.asm.parts (Place c.args.limit)))
      c.in_ok-ask_limit.ensures.asks.appends)))))
      (λ x from to does. returns_seven c.args.frame.now c.args.main c.args.limit x from to does);
}
