use Rattle.std.proofs.Common.{Result, Err, ap, inl, inr, refl, subst, ◌∙◌}
use Rattle.rv_memory.specs.Regions.{region_of}
use Rattle.rv_memory.specs.States.{state_of}
use Rattle.cmm_image_machine.specs.Frames.{chain_of}
use Rattle.cmm_walk.specs.Texts.{WritesWalk}
use Rattle.cmm_walk.specs.declared.walking.WalkError.{WalkError}
use Rattle.cmm_work.proofs.Walked.{has_walked}
use Rattle.cmm_work.proofs.walking.walk.Goals as goal

pub returns-in-Ok-write_walk-clause-walks : goal.returns-in-Ok-write_walk-clause-walks
returns-in-Ok-write_walk-clause-walks g c = λ streams.
    let read = c.in-Ok.ensures in
    let walked = c.in-Ok-write_walk.ensures in
    let halted = c.in-Ok.stopped.halted in
    has_walked c.args.name.now c.args.snapshot.now c.in-Ok.stopped.image c.registers.result.now halted.regs c.memory.result.now halted.memory _ c.registers.ensures c.memory.ensures refl
    read.spelled read.stopped
    (record { files = read.same; file_faults = read.no_fault; last_failed = read.no_failed_call; input = refl; input_faults = refl; log = refl; log_faults = refl })
    (inl record { unbroken = walked.0; output = walked.1; faults = walked.2; ends = record { line = refl; status = refl } })

pub returns-in-Err-Torn-clause-walks : goal.returns-in-Err-Torn-clause-walks
returns-in-Err-Torn-clause-walks g c = λ streams.
    let read = c.in-Ok.ensures in
    let halted = c.in-Ok.stopped.halted in
    let image = c.in-Ok.stopped.image in
    let s = state_of c.registers.result.now c.memory.result.now in
    let walked = subst (λ (r : Result (Unit {0}) WalkError). WritesWalk g.O.Sink.taken g.O.Sink.faults c.args.out.now c.write_walk.new.to s (chain_of image (region_of c.memory.result.now) s) r)
    (c.in-Err-Torn.is ∙ ap Err c.in-Err-Torn.field-0-is) c.write_walk.ensures in
    has_walked c.args.name.now c.args.snapshot.now image c.registers.result.now halted.regs c.memory.result.now halted.memory _ c.registers.ensures c.memory.ensures refl read.spelled read.stopped
    (record { files = read.same; file_faults = read.no_fault; last_failed = read.no_failed_call; input = refl; input_faults = refl; log = refl; log_faults = refl })
    (inr (inl record { torn = c.in-Err-Torn.torn; broken = walked.0; output = walked.1; faults = walked.2; ends = record { line = refl; status = refl } }))

pub returns-clause-walks : goal.returns-clause-walks
returns-clause-walks g c = λ streams.
    let read = c.in-Ok.ensures in
    let halted = c.in-Ok.stopped.halted in
    let image = c.in-Ok.stopped.image in
    let s = state_of c.registers.result.now c.memory.result.now in
    let walked = subst (λ (r : Result (Unit {0}) WalkError). WritesWalk g.O.Sink.taken g.O.Sink.faults c.args.out.now c.write_walk.new.to s (chain_of image (region_of c.memory.result.now) s) r)
    (c.in-Err-Failed.is ∙ ap Err c.in-Err-Failed.field-0-is) c.write_walk.ensures in
    has_walked c.args.name.now c.args.snapshot.now image c.registers.result.now halted.regs c.memory.result.now halted.memory _ c.registers.ensures c.memory.ensures refl read.spelled read.stopped
    (record { files = read.same; file_faults = read.no_fault; last_failed = read.no_failed_call; input = refl; input_faults = refl; log = refl; log_faults = refl })
    (inr (inr record { output = walked.0; faults = walked.1; ends = record { line = refl; status = refl } }))
