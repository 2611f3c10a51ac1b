-- What stands inside a statement, with the spans around it, and the different tokens at its call sites.
use Rattle.std.proofs.Common.{◌≡◌, ℕ, suc, ◌+◌, ◌*◌, ◌-◌, ◌^◌, ◌<◌, length, min, take, drop, get_or, refl, sym, ap, ◌∙◌, subst, arith, Bool, true, false, ◌==◌, ◌||◌, List, [], ◌∷◌, ◌++◌, Option}
use Rattle.std.specs.Prelude.{flat_map, Result, Ok, Err, IfOk}
use Rattle.std.specs.List.{list_any}
use Rattle.std.proofs.lemmas.List.{drop_more}
use Rattle.std.proofs.lemmas.List.Folds.{list_any-append}
use Rattle.std.proofs.lemmas.Bool.Decides.{nat_tests}
use Rattle.cmm_ast.specs.declared.expression.Expr.{Expr}
use Rattle.cmm_ast.specs.declared.expression.Primary.{Primary}
use Rattle.cmm_ast.specs.declared.statement.Arm.{Arm}
use Rattle.cmm_ast.specs.declared.statement.Block.{Block}
use Rattle.cmm_ast.specs.declared.statement.Otherwise.{Otherwise}
use Rattle.cmm_ast.specs.declared.statement.Otherwise.TheVariants as otherwises
use Rattle.cmm_ast.specs.declared.statement.Part.{Part}
use Rattle.cmm_ast.specs.declared.statement.Part.TheVariants as parts
use Rattle.cmm_ast.specs.declared.statement.Span.{Span as SwitchSpan}
use Rattle.cmm_ast.specs.declared.statement.Stmt.{Stmt}
use Rattle.cmm_ast.specs.declared.statement.StmtForm.{StmtForm}
use Rattle.cmm_ast.specs.declared.statement.StmtForm.TheVariants as stmts
use Rattle.cmm_static_semantics.specs.Items.{SpanTree, Within, parts_in, part_within, parts_inside, parts_otherwise}
use Rattle.cmm_static_semantics.specs.Limits.{different, is_in, is_site, number_or_zero, site_tokens, sites_of, tokens_of}
use Rattle.cmm_static_semantics.specs.Scopes.{Scope, senses}
use Rattle.cmm_static_semantics.specs.Senses.{Senses}
use Rattle.cmm_static_semantics.specs.Typing.{of_primary}
use Rattle.cmm_static_semantics.proofs.Shared.{if_inside, span_inside, switch_inside, else_inside, else_if_inside, flat_plain}
use Rattle.cmm_limits.specs.Capped.{capped}
use Rattle.cmm_limits.specs.inside.InForce.{HasTokens, one_more, parts_of_arms, tokens_at}

-- ---- what stands inside a statement

pub if_law : (spans : List SpanTree) (f : StmtForm) (c : Expr) (b : Block) (o : Otherwise) → f ≡ stmts.If c b o → parts_inside spans f ≡ parts_in spans b ++ parts_otherwise spans o
if_law spans f c b o is = ap (parts_inside spans) is ∙ if_inside spans c b o

pub span_law : (spans : List SpanTree) (f : StmtForm) (key : Primary) (v : Expr) (b : Block) → f ≡ stmts.Span key v b →
    parts_inside spans f ≡ parts_in (record { key = key; value = v } ∷ spans) b
span_law spans f key v b is = ap (parts_inside spans) is ∙ span_inside spans key v b

pub switch_law : (spans : List SpanTree) (f : StmtForm) (over : Option SwitchSpan) (v : Expr) (as_ : List Arm) → f ≡ stmts.Switch over v as_ → parts_inside spans f ≡ parts_of_arms spans as_
switch_law spans f over v as_ is = ap (parts_inside spans) is ∙ switch_inside spans over v as_

pub else_law : (spans : List SpanTree) (o : Otherwise) (b : Block) → o ≡ otherwises.Else b → parts_otherwise spans o ≡ parts_in spans b
else_law spans o b is = ap (parts_otherwise spans) is ∙ else_inside spans b

pub else_if_law : (spans : List SpanTree) (o : Otherwise) (s : Stmt) → o ≡ otherwises.ElseIf s → parts_otherwise spans o ≡ part_within spans (parts.Stmt s)
else_if_law spans o s is = ap (parts_otherwise spans) is ∙ else_if_inside spans s

-- ---- sums

pub tokens_append : (s : Scope) (around : List ℕ) (xs ys : List (Within Part)) → site_tokens s around (xs ++ ys) ≡ site_tokens s around xs + site_tokens s around ys
tokens_append s around [] ys = omega arith
tokens_append s around (x ∷ xs) ys =
    ap (λ t. sites_of x.what * different (tokens_of (senses s) x.spans ++ around) + t) (tokens_append s around xs ys) ∙ regrouped _ (site_tokens s around xs) (site_tokens s around ys)
  where
    regrouped : (a b c : ℕ) → a + (b + c) ≡ (a + b) + c
    regrouped a b c = omega arith

pub capped_sum : (a b c d : ℕ) → c ≡ capped a → d ≡ capped b → capped (c + d) ≡ capped (a + b)
capped_sum a b c d e f = under (2 ^ 64 - 1) a b c d e f
  where
    under : (m a b c d : ℕ) → c ≡ min a m → d ≡ min b m → min (c + d) m ≡ min (a + b) m
    under m a b c d e f = omega arith

-- a turn of a loop that adds what stands in each item
pub tokens_next : {A : Type 0} (s : Scope) (around : List ℕ) (f : A → List (Within Part)) (xs : List A) (i : ℕ) (x : A) (so_far more : ℕ) → i < length xs → x ≡ get_or xs i x →
    so_far ≡ capped (site_tokens s around (flat_map f (take i xs))) → more ≡ capped (site_tokens s around (f x)) →
    capped (so_far + more) ≡ capped (site_tokens s around (flat_map f (take (i + 1) xs)))
tokens_next s around f xs i x so_far more within is e g =
    capped_sum (site_tokens s around (flat_map f (take i xs))) (site_tokens s around (f x)) so_far more e g
    ∙ ap capped (sym (tokens_append s around (flat_map f (take i xs)) (f x)) ∙ ap (site_tokens s around) (sym (flat_plain f xs i x within is)))

pub both : (s : Scope) (around : List ℕ) (xs ys whole : List (Within Part)) (a b : ℕ) → whole ≡ xs ++ ys → a ≡ capped (site_tokens s around xs) → b ≡ capped (site_tokens s around ys) →
    capped (a + b) ≡ capped (site_tokens s around whole)
both s around xs ys whole a b is e f = capped_sum (site_tokens s around xs) (site_tokens s around ys) a b e f ∙ ap capped (sym (tokens_append s around xs ys) ∙ ap (site_tokens s around) (sym is))

-- a statement and what stands inside it
own_is : (b : Bool) (count d : ℕ) → count ≡ capped d → tokens_at b count ≡ capped (elim b [ true ↦ 1 | false ↦ 0 ] * d)
own_is true count d e = e ∙ ap capped (one d)
  where
    one : (n : ℕ) → n ≡ 1 * n
    one n = omega arith
own_is false count d e = ap capped (none d)
  where
    none : (n : ℕ) → 0 ≡ 0 * n
    none n = omega arith

pub stmt_tokens : (s : Scope) (around : List ℕ) (spans : List SpanTree) (stmt : Stmt) (count own inner : ℕ) → count ≡ capped (different (tokens_of (senses s) spans ++ around)) →
    own ≡ tokens_at (is_site stmt.form) count → inner ≡ capped (site_tokens s around (parts_inside spans stmt.form)) →
    capped (own + inner) ≡ capped (site_tokens s around (part_within spans (parts.Stmt stmt)))
stmt_tokens s around spans stmt count own inner counted is e =
    capped_sum (elim (is_site stmt.form) [ true ↦ 1 | false ↦ 0 ] * different (tokens_of (senses s) spans ++ around)) (site_tokens s around (parts_inside spans stmt.form)) own inner
    (is ∙ own_is (is_site stmt.form) count (different (tokens_of (senses s) spans ++ around)) counted) e

-- ---- one more span

swapped : (a b : Bool) → (a || (b || false)) ≡ (b || a)
swapped true true = refl
swapped true false = refl
swapped false true = refl
swapped false false = refl

flipped : (a b : ℕ) → (a == b) ≡ (b == a)
flipped a b = grind (arith, nat_tests)

counted_more : (b : Bool) (count d : ℕ) → count ≡ capped d → one_more b count ≡ capped (elim b [ true ↦ d | false ↦ suc d ])
counted_more true count d e = e
counted_more false count d e = under (2 ^ 64 - 1) count d e
  where
    under : (m c d : ℕ) → c ≡ min d m → min (c + 1) m ≡ min (suc d) m
    under m c d e = omega arith

pub entered : (tokens : List ℕ) (count token count' : ℕ) (all : List ℕ) → count' ≡ one_more (list_any (λ t. t == token) tokens) count → HasTokens tokens count all →
    HasTokens (tokens ++ token ∷ []) count' (token ∷ all)
entered tokens count token count' all more has = record {
  member = λ n. list_any-append (λ t. t == n) tokens (token ∷ []) ∙ ap (λ b. b || ((token == n) || false)) (has.member n) ∙ swapped (is_in n all) (token == n)
      ∙ ap (λ b. b || is_in n all) (flipped token n);
  counted = more ∙ counted_more (list_any (λ t. t == token) tokens) count (different all) has.counted
      ∙ ap (λ b. capped (elim b [ true ↦ different all | false ↦ suc (different all) ])) (has.member token);
}

-- a span is entered by its key
pub span_entered : (names : Senses) (tokens : List ℕ) (count token count' : ℕ) (rest : List ℕ) (key : Primary) → token ≡ number_or_zero names (of_primary key) →
    count' ≡ one_more (list_any (λ t. t == token) tokens) count → HasTokens tokens count rest →
    HasTokens (tokens ++ token ∷ []) count' (number_or_zero names (of_primary key) ∷ rest)
span_entered names tokens count token count' rest key is more has =
    subst (λ n. HasTokens (tokens ++ token ∷ []) count' (n ∷ rest)) is (entered tokens count token count' rest more has)

-- one more of the spans around, from the last to the first
pub more_around : (tokens : List ℕ) (count : ℕ) (around : List ℕ) (i token count' : ℕ) → i < length around → token ≡ get_or around i 0 →
    count' ≡ one_more (list_any (λ t. t == token) tokens) count → HasTokens tokens count (drop (i + 1) around) → HasTokens (tokens ++ token ∷ []) count' (drop i around)
more_around tokens count around i token count' within is more has =
    subst (HasTokens (tokens ++ token ∷ []) count') (ap (λ t. t ∷ drop (i + 1) around) is ∙ sym (drop_more around i 0 within))
    (entered tokens count token count' (drop (i + 1) around) more has)

-- what holds of the value where there is one, from what does
pub from_ok : {A E : Type 0} {P Q : A → Type 0} (r : Result A E) → ((a : A) → P a → Q a) → IfOk r P → IfOk r Q
from_ok (Ok a) f p = f a p
from_ok (Err e) f p = p
