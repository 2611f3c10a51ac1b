use Rattle.std.proofs.Common.{[], ◌∷◌, ◌++◌, codes, flat_map}
use Rattle.cmm_report.specs.Texts.{value_text}
use Rattle.cmm_report.proofs.Writing.{writes_fails, writes_then}
use Rattle.cmm_report.proofs.put_yield.Goals as goal

pub returns-in_err-write_all : goal.returns-in_err-write_all
returns-in_err-write_all g c =
    writes_fails g.E.Sink.taken g.E.Sink.faults c.args.to.now c.write_all.new.sink (codes "yield") (flat_map value_text c.args.values.now ++ (10 ∷ []))
    c.in_err-write_all.field-0.0 c.write_all.result c.from_residual.result c.in_err-write_all.was c.from_residual.ensures.0 c.write_all.ensures

pub returns-in_err-put_values : goal.returns-in_err-put_values
returns-in_err-put_values g c =
    writes_then g.E.Sink.taken g.E.Sink.faults c.args.to.now c.write_all.new.sink c.put_values.new.to (codes "yield") (flat_map value_text c.args.values.now ++ (10 ∷ []))
    c.in_ok-write_all.field-0 c.write_all.result c.from_residual-in_err-put_values.result c.in_ok-write_all.was c.write_all.ensures
    (writes_fails g.E.Sink.taken g.E.Sink.faults c.write_all.new.sink c.put_values.new.to (flat_map value_text c.args.values.now) (10 ∷ [])
    c.in_err-put_values.field-0.0 c.put_values.result c.from_residual-in_err-put_values.result c.in_err-put_values.was
    c.from_residual-in_err-put_values.ensures.0 c.put_values.ensures)

pub returns : goal.returns
returns g c =
    writes_then g.E.Sink.taken g.E.Sink.faults c.args.to.now c.write_all.new.sink c.write_all-2.new.sink (codes "yield") (flat_map value_text c.args.values.now ++ (10 ∷ []))
    c.in_ok-write_all.field-0 c.write_all.result c.write_all-2.result c.in_ok-write_all.was c.write_all.ensures
    (writes_then g.E.Sink.taken g.E.Sink.faults c.write_all.new.sink c.put_values.new.to c.write_all-2.new.sink (flat_map value_text c.args.values.now) (10 ∷ [])
    c.in_ok-put_values.field-0 c.put_values.result c.write_all-2.result c.in_ok-put_values.was c.put_values.ensures c.write_all-2.ensures)
