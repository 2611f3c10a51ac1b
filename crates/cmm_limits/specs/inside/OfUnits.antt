-- Sums over the procedures of what stands in a unit.
use Rattle.std.specs.Prelude.{ℕ, ◌+◌, ◌*◌, List, [], ◌∷◌, length}
use Rattle.cmm_ast.specs.declared.procedure.Proc.{Proc}
use Rattle.cmm_ast.specs.declared.unit.Item.{Item}
use Rattle.cmm_static_semantics.specs.Items.{Within, parts_in, parts_of}
use Rattle.cmm_static_semantics.specs.Limits.{over_procs, site_count, site_tokens, tokens_of, variables}
use Rattle.cmm_static_semantics.specs.Senses.{Senses}
use Rattle.cmm_static_semantics.specs.Statements.{scope_of}

-- for each site the tokens that have a span there
abbrev pub spans_in : Senses → List (Within Item) → ℕ
spans_in names is = over_procs (λ spans p. site_tokens (scope_of names p) (tokens_of names spans) (parts_in [] p.body)) is

-- for each site of a procedure its variables
abbrev pub proc_variables : Proc → ℕ
proc_variables p = site_count (parts_of p.body) * length (variables p)

abbrev pub procs_variables : List Proc → ℕ
procs_variables [] = 0
procs_variables (p ∷ ps) = proc_variables p + procs_variables ps
