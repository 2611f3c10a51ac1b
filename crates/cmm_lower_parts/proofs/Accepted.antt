-- What breaks no rule fits a program.
use Rattle.std.proofs.Common.{◌≡◌, ℕ, ◌^◌, ◌<◌, Bool, true, List, [], ◌∷◌, Option, Some, None, arith}
use Rattle.std.specs.Prelude.{IsTrue, flat_map}
use Rattle.std.specs.List.{All}
use Rattle.std.proofs.lemmas.Bool.Decides.{nat_tests}
use Rattle.std.proofs.lemmas.List.Elements.{All-cons}
use Rattle.cmm_words.specs.declared.width.Width.{Width}
use Rattle.cmm_words.specs.declared.width.Width.TheVariants.{W64}
use Rattle.cmm_ast.specs.declared.token.Int.{Int}
use Rattle.cmm_ast.specs.declared.expression.Expr.{Expr}
use Rattle.cmm_ast.specs.declared.statement.Actual.{Actual}
use Rattle.cmm_ast.specs.declared.statement.Callee.{Callee}
use Rattle.cmm_ast.specs.declared.statement.CalleeForm.{CalleeForm}
use Rattle.cmm_ast.specs.declared.statement.CalleeForm.TheVariants as callees
use Rattle.cmm_ast.specs.declared.statement.Kinded.{Kinded}
use Rattle.cmm_ast.specs.declared.statement.Lvalue.{Lvalue}
use Rattle.cmm_ast.specs.declared.statement.Lvalue.TheVariants as lvalues
use Rattle.cmm_ast.specs.declared.statement.StmtForm.{StmtForm}
use Rattle.cmm_ast.specs.declared.statement.StmtForm.TheVariants as stmts
use Rattle.cmm_program.specs.Typing.{is_alignment}
use Rattle.cmm_static_semantics.specs.declared.spot.Spot.{Spot}
use Rattle.cmm_static_semantics.specs.Senses.{Senses}
use Rattle.cmm_static_semantics.specs.Algebras.{knowns}
use Rattle.cmm_static_semantics.specs.Expressions.{alignment_spots, bits_spots, host_spots, inner_spots}
use Rattle.cmm_static_semantics.specs.Judging.{spots}
use Rattle.cmm_static_semantics.specs.Calls.{actuals_spots, callee_spots, parameter_spots, too_many_actuals, too_many_names}
use Rattle.cmm_static_semantics.specs.Declarations.{is_declared, is_variable}
use Rattle.cmm_static_semantics.specs.Scopes.{Scope, senses}
use Rattle.cmm_static_semantics.specs.Statements.{lvalue_spots, lvalue_width, memory_expr, sides, stmt_spots}
use Rattle.cmm_static_semantics.specs.Typing.{of_memory, wanted}
use Rattle.cmm_static_semantics.specs.Mentions.{expr_names, form_alignments, values_alone}
use Rattle.cmm_elaboration.proofs.Shared.{no_left, no_right, no_unless}
use Rattle.cmm_typing.specs.Resolved.{AlignmentsFit}
use Rattle.cmm_typing.proofs.Shared.{IsSmall}
use Rattle.cmm_lower_parts.specs.Fitting.{ActualsFit, CalleeFits, PlaceFits}
use Rattle.cmm_lower_parts.specs.Laws.{AlignmentsAreSmall}
use Rattle.cmm_lower_parts.specs.Owned.{FormTakesVariables}

-- ---- alignments

alignment_small : (n : ℕ) → is_alignment n ≡ true → n < 2 ^ 32
alignment_small n is = grind (arith, nat_tests, is)

one_small : (k : Int) → alignment_spots k ≡ [] → IsSmall k
one_small k none = alignment_small k.value (no_unless (is_alignment k.value) _ k.token none)

-- where nothing is broken in any of some things
pub each_good : {A : Type 0} (f : A → List Spot) (P : A → Type 0) (xs : List A) → ((x : A) → f x ≡ [] → P x) → flat_map f xs ≡ [] → All P xs
each_good f P [] good none = λ k d inside. absurd (omega (arith, inside))
each_good f P (x ∷ xs) good none = All-cons P x xs (good x (no_left (f x) (flat_map f xs) none)) (each_good f P xs good (no_right (f x) (flat_map f xs) none))

-- an expression in which nothing is broken whatever is wanted of it
pub expression_fits : (names : Senses) (e : Expr) → inner_spots names e ≡ [] → AlignmentsFit e
expression_fits names e none =
    each_good alignment_spots IsSmall (form_alignments e.form) one_small (no_right (flat_map (host_spots names) (expr_names values_alone e)) (flat_map alignment_spots (form_alignments e.form)) none)

-- ---- what stands in statements

bits_fit : (names : Senses) (width : Option Width) (e : Expr) → bits_spots names width e ≡ [] → AlignmentsFit e
bits_fit names width e none = expression_fits names e (no_right (spots (wanted knowns names width e)) (inner_spots names e) none)

callee_fits : (s : Scope) (may_yield : Bool) (c : Callee) → callee_spots s may_yield c ≡ [] → CalleeFits c.form
callee_fits s may_yield c = by c.token c.form
  where
    by : (token : ℕ) (form : CalleeForm) → callee_spots s may_yield record { token = token; form = form } ≡ [] → CalleeFits form
    by token (callees.Name i) none = tt
    by token (callees.Memory m) none = bits_fit (senses s) (Some W64) (of_memory token m) none
    by token (callees.Bracketed e) none = bits_fit (senses s) (Some W64) e none

actuals_fit : (s : Scope) (as_ : List Actual) → actuals_spots s as_ ≡ [] → ActualsFit as_
actuals_fit s as_ none =
    each_good (λ a. bits_spots (senses s) None a.value) (λ a. AlignmentsFit a.value) as_ (λ a one. bits_fit (senses s) None a.value one)
    (no_right (too_many_actuals as_) (flat_map (λ a. bits_spots (senses s) None a.value) as_) none)

place_fits : (s : Scope) (l : Lvalue) → lvalue_spots s l ≡ [] → PlaceFits l
place_fits s (lvalues.Name i) none = tt
place_fits s (lvalues.Memory m) none = bits_fit (senses s) None (memory_expr m) none

places_fit : (s : Scope) (ls : List Lvalue) → flat_map (lvalue_spots s) ls ≡ [] → All PlaceFits ls
places_fit s ls none = each_good (lvalue_spots s) PlaceFits ls (place_fits s) none

sides_fit : (s : Scope) (ls : List Lvalue) (es : List Expr) → sides s ls es ≡ [] → All AlignmentsFit es
sides_fit s ls [] none = λ k d inside. absurd (omega (arith, inside))
sides_fit s [] (e ∷ es) none =
    All-cons AlignmentsFit e es (bits_fit (senses s) None e (no_left (bits_spots (senses s) None e) (sides s [] es) none)) (sides_fit s [] es (no_right (bits_spots (senses s) None e) (sides s [] es) none))
sides_fit s (l ∷ ls) (e ∷ es) none =
    let width = lvalue_width s l in
    All-cons AlignmentsFit e es (bits_fit (senses s) width e (no_left (bits_spots (senses s) width e) (sides s ls es) none)) (sides_fit s ls es (no_right (bits_spots (senses s) width e) (sides s ls es) none))

pub alignments_are_small : AlignmentsAreSmall
alignments_are_small = record { expression = expression_fits; callee = callee_fits; actuals = actuals_fit; places = places_fit; right_sides = sides_fit }

-- ---- parameters of continuations

one_variable : (s : Scope) (k : Kinded) → parameter_spots s k ≡ [] → IsTrue (is_declared is_variable k.name.name s.own)
one_variable s k none = no_unless (is_declared is_variable k.name.name s.own) _ k.name.token none

pub parameters_are_variables : (s : Scope) (token : ℕ) (form : StmtForm) → stmt_spots s token form ≡ [] → FormTakesVariables s form
parameters_are_variables s token (stmts.Continuation name parameters) none =
    each_good (parameter_spots s) (λ k. IsTrue (is_declared is_variable k.name.name s.own)) parameters (one_variable s) (no_right (too_many_names parameters) (flat_map (parameter_spots s) parameters) none)
parameters_are_variables s token stmts.Empty none = tt
parameters_are_variables s token (stmts.If' condition _ body otherwise) none = tt
parameters_are_variables s token (stmts.Switch' range value _ arms) none = tt
parameters_are_variables s token (stmts.Span' key value _ body) none = tt
parameters_are_variables s token (stmts.Assign to values) none = tt
parameters_are_variables s token (stmts.Checked result operator left right flows) none = tt
parameters_are_variables s token (stmts.Call results convention callee actuals flows) none = tt
parameters_are_variables s token (stmts.Jump callee actuals) none = tt
parameters_are_variables s token (stmts.Return exit values) none = tt
parameters_are_variables s token (stmts.Label name) none = tt
parameters_are_variables s token (stmts.Goto name) none = tt
parameters_are_variables s token (stmts.Cut callee actuals flows) none = tt
