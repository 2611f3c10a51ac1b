use Rattle.std.proofs.Common.{rules}
use Rattle.cmm_parser.proofs.Steps.{steps, stops, gives, gives_same}
use Rattle.cmm_parser.proofs.parser.Parser.item_by.Goals as goal

pub returns-in_err-form-in-Some : goal.returns-in_err-form-in-Some
returns-in_err-form-in-Some c = rw c.in-Some.is (stops _ c.in_err-form-in-Some.ensures (search rules))

pub returns-in_ok-form-in-Some : goal.returns-in_ok-form-in-Some
returns-in_ok-form-in-Some c = rw c.in-Some.is (steps _ c.in_ok-form-in-Some.ensures (gives_same c.datum_at.ensures))

pub returns-in_err-decl-in-None : goal.returns-in_err-decl-in-None
returns-in_err-decl-in-None c = rw c.in-None.is (stops _ c.in_err-decl-in-None.ensures (search rules))

pub returns-in_ok-decl-in-None : goal.returns-in_ok-decl-in-None
returns-in_ok-decl-in-None c = rw c.in-None.is (steps _ c.in_ok-decl-in-None.ensures gives)
