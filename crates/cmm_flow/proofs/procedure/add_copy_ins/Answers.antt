use Rattle.std.proofs.Common.{◌++◌, map, ap, ◌∙◌, sym}
use Rattle.std.proofs.lemmas.Iterator.{YieldsList-from_slice, YieldsList-from_zip}
use Rattle.std.proofs.lemmas.Iterator.Consumers.{YieldsList-end}
use Rattle.std.proofs.lemmas.Simd.{map-map}
use Rattle.cmm_program.specs.declared.procedure.Cont.{Cont}
use Rattle.cmm_graph.specs.declared.number.NodeId.{NodeId}
use Rattle.cmm_flow.specs.inside.Fronts.{copy_in}
use Rattle.cmm_flow.proofs.procedure.add_copy_ins.Goals as goal

pub returns : goal.returns
returns c =
    let e = YieldsList-end (YieldsList-from_zip (YieldsList-from_slice c.args.p.now.conts cc) (YieldsList-from_slice c.args.to.now cc)) c.loop-continuation.yielded _
    c.loop-continuation.yielded_by _ c.next.new.self c.in-None.is c.next.ensures.steps in
    let of = λ (x : Cont × NodeId). copy_in c.args.p.now x.0 x.1 in
    c.loop-continuation.invariant ∙ ap (λ ns. c.args.nodes.now ++ ns) (sym (map-map of (λ y. (y.0.now, y.1.now)) c.loop-continuation.yielded) ∙ ap (map of) e.0)
