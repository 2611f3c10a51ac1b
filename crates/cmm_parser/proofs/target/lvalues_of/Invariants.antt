use Rattle.std.proofs.Common.{◌≡◌, map}
use Rattle.cmm_ast.specs.declared.statement.Lvalue.TheVariants as lvalues
use Rattle.cmm_parser.proofs.target.lvalues_of.Given as goal

abbrev pub invariant-loop-name : goal.invariant-loop-name
invariant-loop-name l = l.to ≡ map lvalues.Name l.yielded
