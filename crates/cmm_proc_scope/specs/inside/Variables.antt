-- The variables among what a procedure declares.
use Rattle.std.specs.Prelude.{List, [], ◌∷◌, filter, map}
use Rattle.cmm_ast.specs.declared.token.Ident.{Ident}
use Rattle.cmm_static_semantics.specs.Declarations.{Declared, Local, Variable, is_variable}

abbrev pub variable_names : List (Declared Local) → List Ident
variable_names ds = map (λ d. d.name) (filter (λ d. is_variable d.as_what) ds)

-- the name of one declaration, if it is of a variable
abbrev pub names_if_variable : Declared Local → List Ident
names_if_variable d = elim d.as_what [ Variable t ↦ d.name ∷ [] | _ ↦ [] ]
