-- The line that is written closes the call.
use Rattle.std.proofs.Common.{inl, inr}
use Rattle.cmm_work.specs.declared.ending.Ending.{Ending}
use Rattle.cmm_top.specs.Call.{Call, Closes}
use Rattle.cmm_work.specs.Standing.{Outside, SameButLog}
use Rattle.cmm_work.specs.Ending.{Closes as ClosesBy, line_of, status_at}

pub closes : (c : Call) (last : Outside) (ending : Ending) → SameButLog last c.after →
    ClosesBy ending last.streams.log c.after.streams.log last.streams.log_faults c.after.streams.log_faults c.status → Closes c last (line_of ending) (status_at ending)
closes c last ending same (inl (is, line, faults)) = record { same = same; told = inl record { is = is; log = line; faults = faults } }
closes c last ending same (inr (is, line, faults)) = record { same = same; told = inr record { is = is; log = line; faults = faults } }
