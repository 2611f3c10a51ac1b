use Rattle.std.proofs.Common.{ℕ}
use Rattle.cmm_ast.specs.declared.expression.Primary.{Primary}
use Rattle.cmm_ast.specs.declared.expression.PrimForm.{PrimForm}
use Rattle.cmm_parser.proofs.Steps.{handed, outer, stopped, halts_numbered}
use Rattle.cmm_parser.proofs.parser.Parser.whole_prim.Goals as goal

abbrev primary : ℕ → PrimForm → Primary
primary token form = record { token = token; form = form }

pub returns-in_err-form : goal.returns-in_err-form
returns-in_err-form c = stopped (outer c.begin_outermost.ensures (halts_numbered primary c.in_err-form.ensures)) (handed c.from_residual.ensures.1)
