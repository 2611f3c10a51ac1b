use Rattle.std.proofs.Common.{rules}
use Rattle.cmm_parser.proofs.Steps.{loosely, stops}
use Rattle.cmm_parser.proofs.parser.Parser.imports_by.Goals as goal

pub returns-in_err-imports-in-TypeFirst : goal.returns-in_err-imports-in-TypeFirst
returns-in_err-imports-in-TypeFirst c = rw c.in-TypeFirst.is (loosely (stops _ c.in_err-imports-in-TypeFirst.ensures (search rules)))

pub returns-in_err-imports-in-NameFirst : goal.returns-in_err-imports-in-NameFirst
returns-in_err-imports-in-NameFirst c = rw c.in-NameFirst.is (loosely (stops _ c.in_err-imports-in-NameFirst.ensures (search rules)))

pub returns-in_err-imports-in-Neither : goal.returns-in_err-imports-in-Neither
returns-in_err-imports-in-Neither c = rw c.in-Neither.is (loosely (stops _ c.in_err-imports-in-Neither.ensures (search rules)))
