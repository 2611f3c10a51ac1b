-- What is seen of an image that runs, as a machine of the theory of following.
use Rattle.std.specs.Prelude.{ℕ, Bool, true, false, Option, Some, None}
use Rattle.rv_table.specs.declared.request.Request.TheVariants.{GetByte, Yield}
use Rattle.rv_table.specs.Machine as rv
use Rattle.rv_table.specs.Machine.{State, instruction_step}
use Rattle.cmm_simulation.specs.Seen.{Seen, Event, Input, Client, End}
use Rattle.cmm_simulation.specs.Machine.{Machine}
use Rattle.cmm_machine_laws.specs.Observed.{Call, Ending, ending_of}
use Rattle.cmm_image_machine.specs.Frames.{chain_of}
use Rattle.cmm_image_machine.specs.Walks.{chain_walk}
use Rattle.cmm_image_machine.specs.Machine.{Launch, Run, Status, Running, Ended, Trapped, Torn, map_of, region_of, yielded_at, step}

-- the values of the yield, and the walk unless the chain of frames breaks
abbrev pub call_at : Launch → State → Call
call_at l s = record {
  values = yielded_at (region_of l) s (chain_of l.image (region_of l) s).activations;
  walk = chain_walk l.image (region_of l) s;
}

-- an ECALL that takes from the input, and a yield, are events
abbrev pub asked_at : Launch → State → rv.Outcome → Option (Event Call Ending)
asked_at l s (rv.Asks GetByte) = Some Input
asked_at l s (rv.Asks Yield) = Some (Client (call_at l s))
asked_at l s _ = None

abbrev pub event_at : Launch → State → Status → Option (Event Call Ending)
event_at l s Running = asked_at l s (instruction_step (map_of l) s)
event_at l s (Ended outcome) = Some (End (ending_of outcome (chain_walk l.image (region_of l) s)))
event_at l s (Trapped kind pc) = None
event_at l s (Torn b) = None

-- a trap and a break of the chain are what no image does whose program commits no unchecked error
abbrev pub has_failed : Status → Bool
has_failed Running = false
has_failed (Ended outcome) = false
has_failed (Trapped kind pc) = true
has_failed (Torn b) = true

abbrev pub seen_of : Run → Seen ℕ
seen_of run = record { output = run.output; log = run.log; taken = run.taken }

abbrev pub image_machine : Launch → Machine Run ℕ Call Ending
image_machine l = record {
  step = step l;
  seen = seen_of;
  asks = λ run. event_at l run.machine run.status;
  wrong = λ run. has_failed run.status;
}
