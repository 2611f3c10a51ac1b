use Rattle.std.proofs.Common.{[], ◌∷◌, decimal}
use Rattle.cmm_report.proofs.Writing.{writes_fails, writes_then}
use Rattle.cmm_report.proofs.put_value.Goals as goal

pub returns-in_err-write_all : goal.returns-in_err-write_all
returns-in_err-write_all g c =
    writes_fails g.E.Sink.taken g.E.Sink.faults c.args.to.now c.write_all.new.sink (32 ∷ []) (decimal c.args.value) c.in_err-write_all.field-0.0 c.write_all.result
    c.from_residual.result c.in_err-write_all.was c.from_residual.ensures.0 c.write_all.ensures

pub returns : goal.returns
returns g c =
    writes_then g.E.Sink.taken g.E.Sink.faults c.args.to.now c.write_all.new.sink c.put_number.new.to (32 ∷ []) (decimal c.args.value)
    c.in_ok-write_all.field-0 c.write_all.result c.put_number.result c.in_ok-write_all.was c.write_all.ensures c.put_number.ensures
