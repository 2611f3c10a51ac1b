use Rattle.std.proofs.Common.{◌≡◌, [], drop}
use Rattle.cmm_client.specs.Stops.{cursor_of, map_of, region_of, state_of}
use Rattle.cmm_program.specs.Commands.{answer_of}
use Rattle.cmm_image_machine.specs.Machine.{askable}
use Rattle.cmm_client.proofs.AnswerLaws.{SoFar}
use Rattle.cmm_client.proofs.yielding.answer.Given as goal

abbrev pub invariant-loop-next : goal.invariant-loop-next
invariant-loop-next g l = record {
  so_far : SoFar g.E.Sink.taken g.E.Sink.faults l.initial.log l.log l.i (region_of l.initial.stopped) l.yielded'
      (answer_of (askable l.i (region_of l.initial.stopped)) l.yielded' [] (cursor_of l.i l.initial.cursor) (state_of l.initial.stopped) l.commands)
      l.cursor (state_of l.stopped) (drop l.next-index l.commands);
  map : map_of l.stopped ≡ map_of l.initial.stopped;
  region : region_of l.stopped ≡ region_of l.initial.stopped;
}
