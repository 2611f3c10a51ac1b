use Rattle.std.proofs.Common.{◌<◌, Ok, Option, sym, subst}
use Rattle.rv_memory.specs.Regions.{memory_of, region_of}
use Rattle.cmm_abi.specs.Regions.{top}
use Rattle.cmm_walk.specs.declared.activation.Activation.{Activation}
use Rattle.rv_memory.specs.States.{state_of}
use Rattle.cmm_walk.proofs.Steps.{left_of, nearer}
use Rattle.cmm_walk.proofs.WalkLaws.{ends_err, fails, one_more, start, tears}
use Rattle.cmm_walk.proofs.Writes.{written_ok}
use Rattle.cmm_walk.proofs.walking.write_walk.Goals as goal

pub loop-next-init : goal.loop-next-init
loop-next-init g c =
    start g.E.Sink.taken g.E.Sink.faults c.args.i.now c.youngest.ensures.kept (region_of c.args.m.now) (state_of c.args.r.now c.args.m.now) c.args.to.now c.in-Ok.found c.in-Ok.ensures.found c.in-Ok.ensures.fits

pub returns-in-Err-put_activation : goal.returns-in-Err-put_activation
returns-in-Err-put_activation g c =
    fails g.E.Sink.taken g.E.Sink.faults c.args.i.now c.youngest.ensures.kept (region_of c.args.m.now) (state_of c.args.r.now c.args.m.now) c.args.to.now c.loop-next.to c.put_activation.new.to c.loop-next.number
    c.in-Some.a c.put_activation.result _ c.in-Err-put_activation.is (rw c.in-Some.is at c.loop-next.invariant) c.put_activation.ensures

pub returns-in-Err-next_activation : goal.returns-in-Err-next_activation
returns-in-Err-next_activation g c =
    let wrote = written_ok g.E.Sink.taken g.E.Sink.faults c.loop-next.to c.put_activation.new.to _ c.put_activation.result _ c.in-Ok-put_activation.is c.put_activation.ensures in
    tears g.E.Sink.taken g.E.Sink.faults c.args.i.now c.youngest.ensures.kept (region_of c.args.m.now) (state_of c.args.r.now c.args.m.now) c.args.to.now c.loop-next.to c.put_activation.new.to c.loop-next.number
    c.in-Some.a c.in-Err-next_activation.torn (rw c.in-Some.is at c.loop-next.invariant) wrote c.in-Err-next_activation.ensures.found

pub loop-next-smaller : goal.loop-next-smaller
loop-next-smaller g c =
    let r = region_of c.args.m.now in
    let fits = rw c.in-Some.is at c.loop-next.invariant.fits in
    subst (λ (f : Option Activation). left_of (top r) (Ok c.in-Ok-next_activation.found) < left_of (top r) (Ok f)) (sym c.in-Some.is)
    (nearer c.args.i.now c.youngest.ensures.kept r (memory_of c.args.m.now) c.in-Some.a (Ok c.in-Ok-next_activation.found) fits c.in-Ok-next_activation.ensures.found c.in-Ok-next_activation.ensures.fits)

pub loop-next-preserved : goal.loop-next-preserved
loop-next-preserved g c =
    let wrote = written_ok g.E.Sink.taken g.E.Sink.faults c.loop-next.to c.put_activation.new.to _ c.put_activation.result _ c.in-Ok-put_activation.is c.put_activation.ensures in
    one_more g.E.Sink.taken g.E.Sink.faults c.args.i.now c.youngest.ensures.kept (region_of c.args.m.now) (state_of c.args.r.now c.args.m.now) c.args.to.now c.loop-next.to c.put_activation.new.to c.loop-next.number
    c.in-Some.a c.in-Ok-next_activation.found (rw c.in-Some.is at c.loop-next.invariant) wrote c.in-Ok-next_activation.ensures.found c.in-Ok-next_activation.ensures.fits

pub returns-in-Err-write_all : goal.returns-in-Err-write_all
returns-in-Err-write_all g c =
    ends_err g.E.Sink.taken g.E.Sink.faults c.args.i.now c.youngest.ensures.kept (region_of c.args.m.now) (state_of c.args.r.now c.args.m.now) c.args.to.now c.loop-next.to c.write_all.new.sink c.loop-next.number
    c.write_all.result _ c.in-Err-write_all.is (rw c.in_default.is at c.loop-next.invariant) c.write_all.ensures
