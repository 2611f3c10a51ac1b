use Rattle.std.proofs.Common.{ℕ, List}
use Rattle.cmm_lexer.specs.declared.symbol.Symbol.TheVariants.{Open, Close}
use Rattle.cmm_ast.specs.declared.token.Ident.{Ident}
use Rattle.cmm_ast.specs.declared.procedure.Formal.{Formal}
use Rattle.cmm_ast.specs.declared.procedure.Proc.{Proc}
use Rattle.cmm_ast.specs.declared.statement.Block.{Block}
use Rattle.cmm_grammar.specs.Reading.{Reads, give}
use Rattle.cmm_parser.proofs.Steps.{handed, steps, stops, gives, numbered, brackets, stops_inside, stops_closing}
use Rattle.cmm_parser.proofs.parser.Parser.procedure.Goals as goal

-- a procedure whose parts are read, by the number of the token after it
abbrev ended : Ident → List Formal → Block → ℕ → ℕ → Reads Proc
ended name formals body past fuel = give record { name = name; formals = formals; body = body; past = past }

pub returns-in_err-formals : goal.returns-in_err-formals
returns-in_err-formals c =
    stops _ (stops_inside Open Close c.in_ok-outside.ensures c.in_err-formals.ensures) (handed c.from_residual-in_err-formals.ensures.1)

pub returns-in_err-leave : goal.returns-in_err-leave
returns-in_err-leave c =
    stops _ (stops_closing Open Close c.in_ok-outside.ensures c.in_ok-formals.ensures c.in_err-leave.ensures)
    (handed c.from_residual-in_err-leave.ensures.1)

pub returns-in_err-body : goal.returns-in_err-body
returns-in_err-body c =
    steps _ (brackets Open Close c.in_ok-outside.ensures c.in_ok-formals.ensures c.in_ok-leave.ensures)
    (stops _ c.in_err-body.ensures (handed c.from_residual-in_err-body.ensures.1))

pub returns : goal.returns
returns c =
    steps _ (brackets Open Close c.in_ok-outside.ensures c.in_ok-formals.ensures c.in_ok-leave.ensures)
    (steps _ c.in_ok-body.ensures (steps (ended c.args.name c.in_ok-formals.formals c.in_ok-body.body) (numbered c.here-past.ensures) gives))
