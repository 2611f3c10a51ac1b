-- The numbers of names, listed.
use Rattle.std.proofs.Common.{◌≡◌, ℕ, ◌+◌, ◌<◌, List, [], ◌∷◌, ◌++◌, length, map, take, get_or, Option, Some, None, refl, sym, ◌∙◌, ap, append_assoc, append-nil}
use Rattle.std.specs.Prelude.{flat_map}
use Rattle.std.proofs.lemmas.Grind.{flat_map-append}
use Rattle.std.proofs.lemmas.List.Folds.{flat_map-map}
use Rattle.cmm_ast.specs.declared.token.Ident.{Ident}
use Rattle.cmm_ast.specs.declared.expression.Expr.{Expr}
use Rattle.cmm_ast.specs.declared.expression.TypeName.{TypeName}
use Rattle.cmm_ast.specs.declared.expression.TypeForm.{TypeForm}
use Rattle.cmm_ast.specs.declared.expression.TypeForm.TheVariants.{Bits as OfBits, Named as OfName}
use Rattle.cmm_static_semantics.specs.Declarations.{Declared, Typedef}
use Rattle.cmm_static_semantics.specs.Mentions.{listed, ident, values_alone, expr_names}
use Rattle.cmm_static_semantics.proofs.Shared.{flat_plain}
use Rattle.cmm_symbols.specs.Numbering.{number_in}
use Rattle.cmm_unit_scope.specs.Numbers.{type_number}
use Rattle.cmm_unit_scope.specs.Depending.{numbers_of, mentioned_by}
use Rattle.cmm_unit_scope.specs.inside.Numbered.{numbers_in}

pub numbers_append : (numbers : List (Declared ℕ)) (is js : List Ident) → numbers_in numbers (is ++ js) ≡ numbers_in numbers is ++ numbers_in numbers js
numbers_append numbers is js = flat_map-append (λ i. listed (number_in numbers i.name)) is js

pub no_numbers : (numbers : List (Declared ℕ)) (width : Option TypeName) → numbers_in numbers (flat_map values_alone.of_type (listed width)) ≡ []
no_numbers numbers None = refl
no_numbers numbers (Some t) = refl

pub one_number : (numbers : List (Declared ℕ)) (name : List ℕ) (token number : ℕ) → Some number ≡ number_in numbers name → numbers_in numbers (ident name token ∷ []) ≡ number ∷ []
one_number numbers name token number is = ap (λ o. listed o ++ []) (sym is)

pub no_number : (numbers : List (Declared ℕ)) (name : List ℕ) (token : ℕ) → None ≡ number_in numbers name → numbers_in numbers (ident name token ∷ []) ≡ []
no_number numbers name token is = ap (λ (o : Option ℕ). listed o ++ []) (sym is)

-- what is appended twice
pub added_twice : (old a b : List ℕ) (first second third : List ℕ) → second ≡ old ++ a → third ≡ second ++ b → first ≡ a ++ b → third ≡ old ++ first
added_twice old a b first second third e f g = f ∙ ap (λ q. q ++ b) e ∙ append_assoc old a b ∙ ap (λ q. old ++ q) (sym g)

pub operands_next : (numbers : List (Declared ℕ)) (old now new : List ℕ) (es : List Expr) (k : ℕ) (e : Expr) → k < length es → e ≡ get_or es k e →
    now ≡ old ++ numbers_in numbers (flat_map (expr_names values_alone) (take k es)) → new ≡ now ++ numbers_in numbers (expr_names values_alone e) →
    new ≡ old ++ numbers_in numbers (flat_map (expr_names values_alone) (take (k + 1) es))
operands_next numbers old now new es k e lt is before added =
    added_twice old (numbers_in numbers (flat_map (expr_names values_alone) (take k es))) (numbers_in numbers (expr_names values_alone e)) _ now new before added
    (ap (numbers_in numbers) (flat_plain (expr_names values_alone) es k e lt is) ∙ numbers_append numbers (flat_map (expr_names values_alone) (take k es)) (expr_names values_alone e))

-- what a constant names, and what a typedef does
pub const_numbers : (numbers : List (Declared ℕ)) (e : Expr) → numbers_of numbers (map (λ i. i.name) (expr_names values_alone e)) ≡ numbers_in numbers (expr_names values_alone e)
const_numbers numbers e = flat_map-map (λ n. listed (number_in numbers n)) (λ (i : Ident). i.name) (expr_names values_alone e)

type_numbers : (numbers : List (Declared ℕ)) (token : ℕ) (f : TypeForm) →
    mentioned_by numbers (Some (Typedef (record { token = token; form = f }))) ≡ listed (type_number numbers (record { token = token; form = f }))
type_numbers numbers token (OfBits width) = refl
type_numbers numbers token (OfName name) = append-nil (listed (number_in numbers name))

pub typedef_numbers : (numbers : List (Declared ℕ)) (t : TypeName) → mentioned_by numbers (Some (Typedef t)) ≡ listed (type_number numbers t)
typedef_numbers numbers t = type_numbers numbers t.token t.form
