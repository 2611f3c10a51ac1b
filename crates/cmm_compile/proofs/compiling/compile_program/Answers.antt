use Rattle.std.proofs.Common.{arith, map, subst, sym}
use Rattle.std.proofs.lemmas.Slice.Zip.{AllZip-long}
use Rattle.std.specs.List.Sorted.{IsNonDecreasingBy}
use Rattle.cmm_hoisted.specs.Flow.{IsHoistedFlow}
use Rattle.cmm_program.specs.declared.program.Program.{Program}
use Rattle.cmm_compile.proofs.Ascending.{sorted_ascend}
use Rattle.cmm_compile.proofs.Few.{few_locals, few_spans}
use Rattle.cmm_compile.proofs.compiling.compile_program.Goals as goal

pub lay_out-requires : goal.lay_out-requires
lay_out-requires c =
    c.passes_fit.ensures.data c.in_ok-program.program c.in_ok-program.ensures.range

pub liveness_of_all-requires : goal.liveness_of_all-requires
liveness_of_all-requires c =
    let flows = c.in_ok-graphs.ensures.flows in
    rw c.as_slice.ensures (few_locals c.passes_fit.ensures.bounded c.in_ok-program.program c.in_ok-program.program.procs c.in_ok-graphs.graphs c.in_ok-program.ensures.range.procedures flows)

pub place_program-requires-clause-flows : goal.place_program-requires-clause-flows
place_program-requires-clause-flows c =
    let flows = c.in_ok-graphs.ensures.flows in
    rw c.as_slice-2.ensures flows

pub place_program-requires-clause-within : goal.place_program-requires-clause-within
place_program-requires-clause-within c = rw c.as_slice-2.ensures c.in_ok-graphs.ensures.within

pub place_program-requires-clause-live : goal.place_program-requires-clause-live
place_program-requires-clause-live c =
    rw c.as_slice-2.ensures (rw c.as_slice.ensures at c.in_ok-live.ensures)

pub lay_program-requires-clause-ascending : goal.lay_program-requires-clause-ascending
lay_program-requires-clause-ascending c =
    let is = c.in_ok-program.ensures.ok in
    subst (λ (p : Program). IsNonDecreasingBy (λ q. q.unit) p.procs) (sym is.is_program) (c.passes_fit.ensures.ascend is.trees)

pub lay_program-requires-clause-flows : goal.lay_program-requires-clause-flows
lay_program-requires-clause-flows c =
    let flows = c.in_ok-graphs.ensures.flows in
    rw c.as_slice-3.ensures flows

pub lay_program-requires-clause-places : goal.lay_program-requires-clause-places
lay_program-requires-clause-places c =
    rw (c.as_slice-3.ensures, c.as_slice-4.ensures) (rw c.as_slice-2.ensures at c.in_ok-places.ensures.places)

pub lay_program-requires-clause-covered : goal.lay_program-requires-clause-covered
lay_program-requires-clause-covered c =
    let flows = c.in_ok-graphs.ensures.flows in
    rw (c.as_slice-3.ensures, c.as_slice-4.ensures) (c.passes_fit.ensures.covered c.in_ok-program.program c.in_ok-graphs.graphs c.in_ok-places.places c.in_ok-program.ensures.range flows (rw c.as_slice-2.ensures at c.in_ok-places.ensures.places))

pub lay_program-requires-clause-short : goal.lay_program-requires-clause-short
lay_program-requires-clause-short c =
    let flows = c.in_ok-graphs.ensures.flows in
    rw (c.as_slice-3.ensures, c.as_slice-4.ensures) (c.passes_fit.ensures.short c.in_ok-program.program c.in_ok-graphs.graphs c.in_ok-places.places c.in_ok-program.ensures.range flows (rw c.as_slice-2.ensures at c.in_ok-places.ensures.places))

pub lay_program-requires-clause-labels : goal.lay_program-requires-clause-labels
lay_program-requires-clause-labels c =
    let room = c.in_ok-program.ensures.room in
    omega (arith, room)

pub link-requires-clause-frames : goal.link-requires-clause-frames
link-requires-clause-frames c =
    let flows = c.in_ok-graphs.ensures.flows in
    rw c.as_slice-5.ensures
    (c.passes_fit.ensures.frames c.in_ok-program.program.procs c.in_ok-graphs.graphs c.in_ok-places.places (AllZip-long IsHoistedFlow c.in_ok-program.program.procs c.in_ok-graphs.graphs flows) (rw c.as_slice-2.ensures at c.in_ok-places.ensures.places))

pub link-requires-clause-live : goal.link-requires-clause-live
link-requires-clause-live c =
    let flows = c.in_ok-graphs.ensures.flows in
    rw c.as_slice-5.ensures
    (c.passes_fit.ensures.live c.in_ok-program.program c.in_ok-graphs.graphs c.in_ok-places.places c.in_ok-program.ensures.range flows (rw c.as_slice-2.ensures at c.in_ok-places.ensures.places))

pub link-requires-clause-spans : goal.link-requires-clause-spans
link-requires-clause-spans c = few_spans c.in_ok-program.program.procs c.in_ok-program.ensures.spans

pub link-requires-clause-globals : goal.link-requires-clause-globals
link-requires-clause-globals c =
    sorted_ascend (map (λ g. g.name) c.in_ok-program.program.globals) c.in_ok-program.ensures.registers

pub link-requires-clause-room : goal.link-requires-clause-room
link-requires-clause-room c t is =
    let room = c.in_ok-program.ensures.room in
    let size = c.in_ok-code.ensures.size t is in
    record { code = omega (arith, room, size); tokens = omega (arith, room) }

pub returns-clause-ok : goal.returns-clause-ok
returns-clause-ok c =
    let flows = c.in_ok-graphs.ensures.flows in
    let linked = c.in_ok-image.ensures in
    let t = linked.0 in (
      c.in_ok-program.ensures.ok,
      c.passes_fit.ensures.agree c.in_ok-program.program c.in_ok-graphs.graphs c.in_ok-places.places t c.in_ok-image.image record {
        range = c.in_ok-program.ensures.range;
        flows = flows;
        places = rw c.as_slice-2.ensures at c.in_ok-places.ensures.places;
        frames =
            c.passes_fit.ensures.frames c.in_ok-program.program.procs c.in_ok-graphs.graphs c.in_ok-places.places
            (AllZip-long IsHoistedFlow c.in_ok-program.program.procs c.in_ok-graphs.graphs flows) (rw c.as_slice-2.ensures at c.in_ok-places.ensures.places);
        runs = rw c.as_slice-2.ensures at c.in_ok-places.ensures.runs;
        text = c.in_ok-code.ensures.text t linked.1;
        size = c.in_ok-code.ensures.size t linked.1;
        code = rw (c.as_slice-3.ensures, c.as_slice-4.ensures) at c.in_ok-code.ensures.code t linked.1;
        is_image = c.know_rules.ensures;
        image = rw c.as_slice-5.ensures at linked.2;
        rows = rw c.as_slice-5.ensures at linked.3;
      },
    )
