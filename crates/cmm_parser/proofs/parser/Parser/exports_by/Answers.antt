use Rattle.std.proofs.Common.{rules}
use Rattle.cmm_parser.proofs.Steps.{loosely, steps, stops, gives}
use Rattle.cmm_parser.proofs.parser.Parser.exports_by.Goals as goal

pub returns-in_err-exports-in-TypeFirst : goal.returns-in_err-exports-in-TypeFirst
returns-in_err-exports-in-TypeFirst c = rw c.in-TypeFirst.is (loosely (stops _ c.in_err-exports-in-TypeFirst.ensures (search rules)))

pub returns-in_err-exports-in-NameFirst : goal.returns-in_err-exports-in-NameFirst
returns-in_err-exports-in-NameFirst c =
    rw c.in-NameFirst.is (loosely (stops _ (steps _ c.in_ok-first-in-NameFirst.ensures c.in_err-exports-in-NameFirst.ensures) (search rules)))

pub returns-in_err-exports-in-Neither : goal.returns-in_err-exports-in-Neither
returns-in_err-exports-in-Neither c = rw c.in-Neither.is (loosely (stops _ c.in_err-exports-in-Neither.ensures (search rules)))

pub returns-in_ok-exports-in-NameFirst : goal.returns-in_ok-exports-in-NameFirst
returns-in_ok-exports-in-NameFirst c = rw c.in-NameFirst.is (loosely (steps _ (steps _ c.in_ok-first-in-NameFirst.ensures c.in_ok-exports-in-NameFirst.ensures) gives))
