-- What a procedure has of its own: its rooms of stackdata and its variables, and the parameters of its continuations.
use Rattle.std.specs.Prelude.{List, flat_map, IsTrue}
use Rattle.std.specs.List.{All}
use Rattle.cmm_ast.specs.declared.procedure.Proc.{Proc}
use Rattle.cmm_ast.specs.declared.procedure.Room.{Room}
use Rattle.cmm_ast.specs.declared.statement.Kinded.{Kinded}
use Rattle.cmm_ast.specs.declared.statement.Part.{Part}
use Rattle.cmm_ast.specs.declared.statement.Part.TheVariants as parts
use Rattle.cmm_ast.specs.declared.statement.StmtForm.{StmtForm}
use Rattle.cmm_ast.specs.declared.statement.StmtForm.TheVariants as stmts
use Rattle.cmm_static_semantics.specs.Items.{parts_of}
use Rattle.cmm_static_semantics.specs.Declarations.{is_declared, is_variable}
use Rattle.cmm_static_semantics.specs.Limits.{local_rooms}
use Rattle.cmm_static_semantics.specs.Scopes.{Scope}

abbrev pub rooms_in : Proc → List Room
rooms_in p = flat_map local_rooms (parts_of p.body)

-- ---- parameters of continuations that are variables

abbrev pub AreVariables : Scope → List Kinded → Type 0
AreVariables s parameters = All (λ k. IsTrue (is_declared is_variable k.name.name s.own)) parameters

abbrev pub FormTakesVariables : Scope → StmtForm → Type 0
FormTakesVariables s (stmts.Continuation name parameters) = AreVariables s parameters
FormTakesVariables s _ = Unit {0}

abbrev pub TakesVariables : Scope → Part → Type 0
TakesVariables s (parts.Local l) = Unit {0}
TakesVariables s (parts.Stmt' first past form) = FormTakesVariables s form
