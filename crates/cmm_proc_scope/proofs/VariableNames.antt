-- The variables among declarations, one declaration after the other.
use Rattle.std.proofs.Common.{◌≡◌, refl, ap, ◌∙◌, map, List, [], ◌∷◌, ◌++◌, Bool, true, false, cond}
use Rattle.std.specs.Prelude.{filter}
use Rattle.cmm_ast.specs.declared.token.Ident.{Ident}
use Rattle.cmm_static_semantics.specs.Declarations.{Declared, Local, Variable, Room, Label, Continuation, is_variable}
use Rattle.cmm_proc_scope.specs.inside.Variables.{names_if_variable, variable_names}

one : (ds : List (Declared Local)) (name : Ident) (l : Local) → variable_names (record { name = name; as_what = l } ∷ ds) ≡ names_if_variable (record { name = name; as_what = l }) ++ variable_names ds
one ds name (Variable t) = refl
one ds name Room = refl
one ds name Label = refl
one ds name Continuation = refl

alone : (name : Ident) (l : Local) → variable_names (record { name = name; as_what = l } ∷ []) ≡ names_if_variable (record { name = name; as_what = l })
alone name (Variable t) = refl
alone name Room = refl
alone name Label = refl
alone name Continuation = refl

further : (before all : List Ident) (d : List Ident) (xs ys : List Ident) → xs ≡ d ++ before → ys ≡ d ++ all → (more : List Ident) → all ≡ before ++ more → ys ≡ xs ++ more
further before all [] xs ys e f more is = f ∙ is ∙ ap (λ t. t ++ more) (sym' e)
  where
    sym' : {A : Type 0} {a b : A} → a ≡ b → b ≡ a
    sym' e = cc
further before all (i ∷ d) xs ys e f more is = f ∙ ap (λ t. i ∷ t) (further before all d (d ++ before) (d ++ all) refl refl more is) ∙ ap (λ t. t ++ more) (let g : i ∷ (d ++ before) ≡ xs = cc in g)

pub variables_push : (ds : List (Declared Local)) (d : Declared Local) → variable_names (ds ++ d ∷ []) ≡ variable_names ds ++ names_if_variable d
variables_push [] d = alone d.name d.as_what
variables_push (e ∷ ds) d =
    further (variable_names ds) (variable_names (ds ++ d ∷ [])) (names_if_variable e) (variable_names (e ∷ ds)) (variable_names (e ∷ (ds ++ d ∷ [])))
    (one ds e.name e.as_what) (one (ds ++ d ∷ []) e.name e.as_what) (names_if_variable d) (variables_push ds d)
