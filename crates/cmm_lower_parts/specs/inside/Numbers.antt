-- Continuations by what names mean in their procedure.
use Rattle.std.specs.Prelude.{ℕ, List, [], ◌∷◌, map, Option, Some}
use Rattle.cmm_ast.specs.declared.statement.Kinded.{Kinded}
use Rattle.cmm_ast.specs.declared.statement.Part.{Part}
use Rattle.cmm_ast.specs.declared.statement.Part.TheVariants as parts
use Rattle.cmm_ast.specs.declared.statement.StmtForm.{StmtForm}
use Rattle.cmm_ast.specs.declared.statement.StmtForm.TheVariants as stmts
use Rattle.cmm_program.specs.declared.procedure.Cont.{Cont}
use Rattle.cmm_static_semantics.specs.declared.sense.Sense.{Sense}
use Rattle.cmm_static_semantics.specs.declared.sense.Sense.TheVariants.{Variable, Continuation}
use Rattle.cmm_static_semantics.specs.Senses.{Senses}

abbrev pub numbered : Option Sense → ℕ
numbered (Some (Variable n width)) = n
numbered (Some (Continuation n)) = n
numbered _ = 0

abbrev pub cont_by : Senses → List Kinded → Cont
cont_by names parameters = record { params = map (λ k. numbered (names k.name.name)) parameters }

abbrev pub form_conts : Senses → StmtForm → List Cont
form_conts names (stmts.Continuation name parameters) = cont_by names parameters ∷ []
form_conts names _ = []

abbrev pub part_conts : Senses → Part → List Cont
part_conts names (parts.Local l) = []
part_conts names (parts.Stmt' first past form) = form_conts names form
