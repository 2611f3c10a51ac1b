-- What types and expressions take, in terms of the parts that a tree is made of; and which tokens are widths and operators.
use Rattle.std.proofs.Common.{◌≡◌, ℕ, ◌≤◌, Bool, true, false, ◌&&◌, ◌==◌, nat_le, List, [], ◌∷◌, Option, Some, None, refl, sym, ap, ◌∙◌, arith, find, cond}
use Rattle.std.proofs.Math.Path.{fun_ext}
use Rattle.std.proofs.lemmas.Bool.Decides.{nat_tests}
use denote.Hole.Carrier as Carrier
use Rattle.cmm_lexer.specs.declared.piece.Lexeme.{Lexeme}
use Rattle.cmm_lexer.specs.declared.piece.Lexeme.TheVariants as l
use Rattle.cmm_lexer.specs.declared.symbol.Symbol.TheVariants.{Colons, Comma}
use Rattle.cmm_ast.specs.declared.expression.TypeName.{TypeName}
use Rattle.cmm_ast.specs.declared.expression.Number.{Number}
use Rattle.cmm_ast.specs.declared.expression.Number.TheVariants as number
use Rattle.cmm_ast.specs.declared.expression.Infix.{Infix as InfixOperator}
use Rattle.cmm_ast.specs.declared.expression.Infix.TheVariants.{Eq, Ne, Lt, Le, Gt, Ge, Or, Xor, And, Shl, Shr, Add, Sub, Mul, Div, Mod}
use Rattle.cmm_ast.specs.declared.expression.Expr.{Expr}
use Rattle.cmm_ast.specs.declared.expression.ExprForm.{ExprForm, Row_of-Expr, end_of-Expr, more_of-Expr, items-the_row-Expr, items_hidden-the_row-Expr-1}
use Rattle.cmm_ast.specs.declared.expression.ExprForm.TheBlock as ExprForms
use Rattle.cmm_ast.specs.declared.expression.ExprForm.TheVariants.{Infix}
use Rattle.cmm_ast.specs.declared.expression.Memory.{roll-Memory}
use Rattle.cmm_grammar.specs.Taking.{Reading, Takes, ◌⨾◌, token, is_sign, is_int, is_char, symbol as symbol_is, here as here_is, operator as operator_is, optional as optional_is, may_comma}
use Rattle.cmm_grammar.specs.ExpressionGrammar as grammar
use Rattle.cmm_grammar.specs.ExpressionGrammar.{infix_symbol, infix_level, left_level, right_level, unary_level, level_of, binds, expr_form, number_of}
use Rattle.cmm_grammar.specs.ExpressionReading.{infix_in, number_in, tight, infix_next}
use Rattle.cmm_grammar.proofs.Takings.{same_number, takes_assoc, rest_to}
use Rattle.cmm_grammar.proofs.Tokens.{some_is}

-- what the laws of trees unfold beside definitions that always unfold
unfoldable pub opened : Unit {0}
unfolding ExprForms.hidden-the_row-Expr-0 Carrier.hidden roll-Memory Carrier.roll
opened = tt

-- ---- words and symbols

found_by : {A : Type 0} (test : A → Bool) (b a : A) (bs : List A) (o : Bool) → test b ≡ o → (find test bs ≡ Some a → test a ≡ true) →
    cond o (Some b) (find test bs) ≡ Some a → test a ≡ true
found_by test b a bs true is later e = rw (some_is e) is
found_by test b a bs false is later e = later e

pub found : {A : Type 0} (test : A → Bool) (as_ : List A) (a : A) → find test as_ ≡ Some a → test a ≡ true
found test [] a e = absurd cc
found test (b ∷ bs) a e = found_by test b a bs (test b) refl (found test bs a) e

abbrev pub all_infix : List InfixOperator
all_infix = Eq ∷ Ne ∷ Lt ∷ Le ∷ Gt ∷ Ge ∷ Or ∷ Xor ∷ And ∷ Shl ∷ Shr ∷ Add ∷ Sub ∷ Mul ∷ Div ∷ Mod ∷ []

-- ---- types and numbers

abbrev pub number_test : Number → Lexeme → Bool
number_test (number.Int value) = is_int value
number_test (number.Char byte) = is_char byte

pub number_is : (n : Number) → number_of n ≡ token (number_test n)
number_is (number.Int value) = refl
number_is (number.Char byte) = refl

pub number_in_is : (x : Lexeme) (n : Number) → number_in x ≡ Some n → number_test n x ≡ true
number_in_is (l.Int value) n e = rw (some_is e) (same_number value)
number_in_is (l.Char byte) n e = rw (some_is e) (same_number byte)
number_in_is _ n e = absurd cc

abbrev pub typed_is : Option TypeName → Takes
typed_is = optional_is (λ t. symbol_is Colons ⨾ grammar.type_name t)

-- ---- operands

-- an expression that binds at least as tightly as a level
abbrev pub operand_is : ℕ → Expr → Takes
operand_is level e = binds level e.form ⨾ here_is e.token ⨾ expr_form e.form

-- an expression without an operator between operands
abbrev pub unary_is : ExprForm → Takes
unary_is f = binds unary_level f ⨾ expr_form f

pub form_of_infix : (left : Expr) (op : InfixOperator) (right : Expr) →
    expr_form (Infix left op right)
    ≡ (operand_is (left_level op) left ⨾ operator_is (symbol_is (infix_symbol op)) ⨾ operand_is (right_level op) right)
unfolding opened
form_of_infix left op right = refl

pub level_of_infix : (left : Expr) (op : InfixOperator) (right : Expr) → level_of (Infix left op right) ≡ infix_level op
unfolding opened
level_of_infix left op right = refl

-- the operands of an operator that is written by its name
abbrev pub operands_are : List Expr → Takes
operands_are es = grammar.operand_list (ExprForms.hidden-the_row-Expr-1 es) ⨾ may_comma

item_then : (h f more k : Takes) → ((h ⨾ f ⨾ more) ⨾ k) ≡ ((h ⨾ f) ⨾ more ⨾ k)
item_then h f more k = takes_assoc h (f ⨾ more) k ∙ ap (λ t. h ⨾ t) (takes_assoc f more k) ∙ sym (takes_assoc h f (more ⨾ k))

rows_then : (n : _) (row : Row_of-Expr n) (k : Takes) → (grammar.more_operands row ⨾ k) ≡ rest_to grammar.expr (items-the_row-Expr n row) k
rows_then n end_of-Expr k = refl
rows_then n (more_of-Expr {n = m} token f rest) k =
    takes_assoc (symbol_is Comma) (here_is token ⨾ expr_form f ⨾ grammar.more_operands rest) k
    ∙ ap (λ t. symbol_is Comma ⨾ t)
    (item_then (here_is token) (expr_form f) (grammar.more_operands rest) k
    ∙ ap (λ t. (here_is token ⨾ expr_form f) ⨾ t) (rows_then m rest k))

pub row_operands : (n : _) (row : Row_of-Expr n) (e : Expr) (es : List Expr) (k : Takes) → items-the_row-Expr n row ≡ e ∷ es →
    (grammar.operand_list row ⨾ k) ≡ (grammar.expr e ⨾ rest_to grammar.expr es k)
row_operands n end_of-Expr e es k same = absurd cc
row_operands n (more_of-Expr {n = m} token f rest) e es k same =
    let first : record { token = token; form = f } ≡ e = cc in
    let others : items-the_row-Expr m rest ≡ es = cc in
    item_then (here_is token) (expr_form f) (grammar.more_operands rest) k
    ∙ ap (λ t. (here_is token ⨾ expr_form f) ⨾ t) (rows_then m rest k)
    ∙ ap (λ x. grammar.expr x ⨾ rest_to grammar.expr (items-the_row-Expr m rest) k) first
    ∙ ap (λ xs. grammar.expr e ⨾ rest_to grammar.expr xs k) others

pub operands_same : (e : Expr) (es : List Expr) → operands_are (e ∷ es) ≡ (grammar.expr e ⨾ rest_to grammar.expr es may_comma)
operands_same e es = row_operands _ (ExprForms.hidden-the_row-Expr-1 (e ∷ es)) e es may_comma (items_hidden-the_row-Expr-1 (e ∷ es))

-- what binds at least as tightly as 0
pub bound_by : (test : Bool) (next_ : Takes) → test ≡ true →
    ((λ r. elim test as (λ _. Option Reading) [ true ↦ Some r | false ↦ None ]) ⨾ next_) ≡ next_
bound_by true next_ e = refl
bound_by false next_ e = absurd cc

pub any_level : (e : Expr) → operand_is 0 e ≡ grammar.expr e
any_level e = bound_by (nat_le 0 (level_of e.form)) (grammar.expr e) (grind (arith, nat_tests))

-- ---- operators between operands

-- the operator that is next
pub record Grows (level : ℕ) (left : ExprForm) (x : Option Lexeme) (op : InfixOperator) : Type 0 where
  pub symbol : Lexeme
  pub is_next : x ≡ Some symbol
  pub passed : is_sign (infix_symbol op) symbol ≡ true
  pub high : nat_le level (infix_level op) ≡ true
  pub left_high : nat_le (left_level op) (level_of left) ≡ true

pub grows : (level : ℕ) (left : ExprForm) (x : Option Lexeme) (op : InfixOperator) → infix_next level left x ≡ Some op → Grows level left x op
grows level left (Some (l.Symbol n)) op e = of_symbol (infix_in n) refl e where
  of_test : (o : InfixOperator) (high left_high : Bool) → nat_le level (infix_level o) ≡ high → nat_le (left_level o) (level_of left) ≡ left_high →
      infix_in n ≡ Some o → elim (high && left_high) as (λ _. Option InfixOperator) [ true ↦ Some o | false ↦ None ] ≡ Some op →
      Grows level left (Some (l.Symbol n)) op
  of_test o true true h lh is e =
      let same : o ≡ op = cc in
      record {
        symbol = l.Symbol n;
        is_next = refl;
        passed = rw (sym same) (found (λ x. is_sign (infix_symbol x) (l.Symbol n)) all_infix o is);
        high = rw (sym same) h;
        left_high = rw (sym same) lh;
      }
  of_test o true false h lh is e = absurd cc
  of_test o false lh' h lh is e = absurd cc

  of_symbol : (o : Option InfixOperator) → infix_in n ≡ o → tight level left o ≡ Some op → Grows level left (Some (l.Symbol n)) op
  of_symbol (Some o) is e = of_test o (nat_le level (infix_level o)) (nat_le (left_level o) (level_of left)) refl refl is e
  of_symbol None is e = absurd cc
grows level left _ op e = absurd cc

pub small_level : (op : InfixOperator) → right_level op ≤ unary_level
small_level Or = omega arith
small_level Xor = omega arith
small_level And = omega arith
small_level Shl = omega arith
small_level Shr = omega arith
small_level Add = omega arith
small_level Sub = omega arith
small_level Mul = omega arith
small_level Div = omega arith
small_level Mod = omega arith
small_level _ = omega arith

here_or : (n : ℕ) (test : Bool) (y : Takes) (r : Reading) → (n == r.taken) ≡ test → (here_is n ⨾ here_is n ⨾ y) r ≡ (here_is n ⨾ y) r
here_or n true y r e = rw (◌⨾◌, here_is, e, e) refl
here_or n false y r e = rw (◌⨾◌, here_is, e) refl

pub here_twice : (n : ℕ) (y : Takes) → (here_is n ⨾ here_is n ⨾ y) ≡ (here_is n ⨾ y)
here_twice n y = fun_ext (λ r. here_or n (n == r.taken) y r refl)

pub joined_same : (n : ℕ) (f o r k form left_is : Takes) → form ≡ (left_is ⨾ o ⨾ r) → left_is ≡ (here_is n ⨾ f) →
    (here_is n ⨾ f ⨾ o ⨾ r ⨾ k) ≡ (here_is n ⨾ form ⨾ k)
joined_same n f o r k form left_is is same =
    sym (here_twice n (f ⨾ o ⨾ r ⨾ k))
    ∙ ap (λ t. here_is n ⨾ t) (sym (takes_assoc (here_is n) f (o ⨾ r ⨾ k)))
    ∙ ap (λ t. here_is n ⨾ t ⨾ o ⨾ r ⨾ k) (sym same)
    ∙ ap (λ t. here_is n ⨾ left_is ⨾ t) (sym (takes_assoc o r k))
    ∙ ap (λ t. here_is n ⨾ t) (sym (takes_assoc left_is (o ⨾ r) k))
    ∙ ap (λ t. here_is n ⨾ t ⨾ k) (sym is)

pub at_least : (level : ℕ) (e : Expr) → nat_le level (level_of e.form) ≡ true → operand_is level e ≡ grammar.expr e
at_least level e high = bound_by (nat_le level (level_of e.form)) (grammar.expr e) high

pub bound_never : (test : Bool) (next_ : Takes) → test ≡ false →
    ((λ r. elim test as (λ _. Option Reading) [ true ↦ Some r | false ↦ None ]) ⨾ next_) ≡ (λ r. None)
bound_never true next_ e = absurd cc
bound_never false next_ e = refl

-- nothing after anything
pub none_after : (o : Option Reading) (after : Reading) → elim o as (λ _. Option Reading) [ Some x ↦ None | None ↦ None ] ≡ Some after → ⊥
none_after (Some x) after e = absurd cc
none_after None after e = absurd cc
