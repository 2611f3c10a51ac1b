-- What the answers of the reader of units say of a unit's tokens.
use Rattle.std.proofs.Common.{◌≡◌, refl, suc, List, length, inl, inr, Result, Ok, Err, IfErr, IsErrAnd, arith, Bool}
use Rattle.cmm_lexer.specs.declared.piece.Lexeme.{Lexeme}
use Rattle.cmm_ast.specs.declared.unit.Unit.{Unit as UnitTree}
use Rattle.cmm_ast.specs.declared.unit.TopLevel.{TopLevel}
use Rattle.cmm_grammar.specs.Derivation.{DerivesWithin, at_start}
use Rattle.cmm_grammar.specs.Reading.{Point}
use Rattle.cmm_grammar.specs.ReadingLaws.{point}
use Rattle.cmm_grammar.specs.UnitLaws.{whole_unit}
use Rattle.cmm_grammar.proofs.Shared.{is_too_deep, is_unexpected, read_is_unit}
use Rattle.cmm_parser.specs.declared.fault.SyntaxFault.{SyntaxFault}
use Rattle.cmm_parser.specs.declared.fault.Stop.{Stop}
use Rattle.cmm_parser.specs.declared.fault.Stop.TheVariants as stop
use Rattle.cmm_parser.specs.inside.Parsing.{Parsed, fault_of}
use Rattle.cmm_parser.specs.Faults.{IsFaultOf}

pub fault_is : {some : Bool} (tokens : List Lexeme) (before after : Point) (e : Stop) → before ≡ point (at_start tokens) →
    Parsed {A = List TopLevel} some whole_unit before (Err e) after → IsFaultOf tokens (fault_of e)
fault_is tokens before after (stop.Unexpected token) is one = inl (refl, is_unexpected tokens token (rw is at one).answers)
fault_is tokens before after (stop.TooDeep token) is one = inr (refl, is_too_deep tokens token (rw is at one).answers)
fault_is tokens before after stop.Memory is one = tt

pub unit_is : {some : Bool} (tokens : List Lexeme) (u : UnitTree) (before after : Point) → before ≡ point (at_start tokens) →
    Parsed some whole_unit before (Ok u.parts) after → DerivesWithin tokens u
unit_is tokens u before after is one =
    read_is_unit (suc (length tokens)) tokens u after ((rw is at one).answers (suc (length tokens)) (omega arith))

-- a fault handed on
pub fault_handed : {A : Type 0} (tokens : List Lexeme) (e : Stop) (result : Result A SyntaxFault) → IsErrAnd result (λ fault. fault ≡ fault_of e) →
    IsFaultOf tokens (fault_of e) → IfErr result (IsFaultOf tokens)
fault_handed tokens e (Ok a) is fault = tt
fault_handed tokens e (Err f) is fault = rw is fault
