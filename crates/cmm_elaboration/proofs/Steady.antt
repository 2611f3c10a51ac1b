-- A spelling takes tokens from the front of those that are left: as many as it counts.
use mathlib.Core.Former.{one_more}
use Rattle.std.proofs.Common.{◌≡◌, ℕ, suc, ◌+◌, ◌≤◌, refl, sym, ap, ◌∙◌, subst, Bool, true, false, List, [], ◌∷◌, ◌++◌, append_assoc, Option, Some, None, arith, length}
use Rattle.std.specs.Prelude.{nat_le, nat_lt, ◌==◌}
use Rattle.std.proofs.lemmas.Bool.{eqb-true}
use Rattle.cmm_lexer.specs.declared.piece.Lexeme.{Lexeme}
use Rattle.cmm_lexer.specs.declared.keyword.Keyword.{Keyword}
use Rattle.cmm_lexer.specs.declared.keyword.Keyword.TheVariants.{Align, Aligned}
use Rattle.cmm_lexer.specs.declared.symbol.Symbol.{Symbol}
use Rattle.cmm_lexer.specs.declared.symbol.Symbol.TheVariants as sign
use Rattle.cmm_ast.specs.declared.token.Ident.{Ident}
use Rattle.cmm_ast.specs.declared.token.Int.{Int}
use Rattle.cmm_ast.specs.declared.token.Text.{Text}
use Rattle.cmm_ast.specs.declared.expression.Expr.{Expr}
use Rattle.cmm_ast.specs.declared.expression.ExprForm.{ExprForm, Row_of-Expr, end_of-Expr, more_of-Expr}
use Rattle.cmm_ast.specs.declared.expression.ExprForm.TheVariants.{Infix', Prefix', Prim, Memory as InMemory, Named'}
use Rattle.cmm_ast.specs.declared.expression.Memory.{Memory, Memory'}
use Rattle.cmm_ast.specs.declared.expression.Number.{Number}
use Rattle.cmm_ast.specs.declared.expression.Number.TheVariants as number
use Rattle.cmm_ast.specs.declared.expression.Primary.{Primary}
use Rattle.cmm_ast.specs.declared.expression.PrimForm.{PrimForm}
use Rattle.cmm_ast.specs.declared.expression.PrimForm.TheVariants.{Literal, Name as NameOf, Bracketed'}
use Rattle.cmm_ast.specs.declared.expression.TypeForm.{TypeForm}
use Rattle.cmm_ast.specs.declared.expression.TypeForm.TheVariants.{Bits, Named as OfName}
use Rattle.cmm_ast.specs.declared.expression.TypeName.{TypeName}
use Rattle.cmm_grammar.specs.Taking.{Reading, Takes, ◌⨾◌, token, is_name, is_text, is_operator, is_int, is_char, is_word, is_sign, keyword, symbol, here, nothing, first_over, opening, enclosed, operator, outermost, in_brackets, round, square, braces, optional, many, commas, may_comma, listed, may_list}
use Rattle.cmm_grammar.specs.ExpressionGrammar.{width_word, infix_symbol, prefix_symbol, unary_level, left_level, right_level, ident, text, int, type_form, type_name, number_of, aligned_by, level_of, binds, expr_form, operand, operand_list, more_operands, prim_form, memory, expr, prim, whole, whole_prim, whole_memory}
use Rattle.cmm_elaboration.proofs.Derived.{middle}

-- from one reading to another, n tokens were taken from the front, and what is left is the end of what was; no bracket is closed that was
-- open before, and no limit is passed at first that isn't at last
pub record Moves (r s : Reading) : Type 0 where
  pub grows : r.taken ≤ s.taken
  pub kept : s.taken + length s.left ≡ r.taken + length r.left
  pub suffix : (front : List Lexeme) × (r.left ≡ front ++ s.left)
  pub opens : r.open_brackets ≤ s.open_brackets
  pub fits : s.over ≡ None → r.over ≡ None

abbrev pub IsSteady : Takes → Type 0
IsSteady p = (r s : Reading) → p r ≡ Some s → Moves r s

stays : (r s : Reading) → s.taken ≡ r.taken → s.left ≡ r.left → r.open_brackets ≤ s.open_brackets → (s.over ≡ None → r.over ≡ None) → Moves r s
stays r s t l opens fits = record {
  grows = omega arith;
  kept = ap (λ n. n + length s.left) t ∙ ap (λ xs. r.taken + length xs) l;
  suffix = ([], sym l);
  opens = opens;
  fits = fits;
}

-- nothing is taken
same : (r : Reading) → Moves r r
same r = stays r r refl refl (omega arith) (λ within. within)

-- a limit that isn't passed at last wasn't before, and isn't by the last token
pub fits_before : (over : Option ℕ) (test : Bool) (n : ℕ) → first_over over test n ≡ None → over ≡ None
fits_before (Some k) test n is = is
fits_before None test n is = refl

pub fits_here : (over : Option ℕ) (test : Bool) (n : ℕ) → first_over over test n ≡ None → test ≡ false
fits_here (Some k) test n is = let bad : Some k ≡ None = is in cc
fits_here None true n is = let bad : Some n ≡ None = is in cc
fits_here None false n is = refl

pub after : (r m s : Reading) → Moves r m → Moves m s → Moves r s
after r m s a b = record {
  grows = let h : r.taken ≤ m.taken = a.grows in let k : m.taken ≤ s.taken = b.grows in omega arith;
  kept = b.kept ∙ a.kept;
  suffix = (a.suffix.0 ++ b.suffix.0, a.suffix.1 ∙ ap (λ xs. a.suffix.0 ++ xs) b.suffix.1 ∙ sym (append_assoc a.suffix.0 b.suffix.0 s.left));
  opens = let h : r.open_brackets ≤ m.open_brackets = a.opens in let k : m.open_brackets ≤ s.open_brackets = b.opens in omega arith;
  fits = λ within. a.fits (b.fits within);
}

pub same_reading : (r s : Reading) → Some r ≡ Some s → r ≡ s
same_reading r s is = cc

pub steady_then : (a b : Takes) → IsSteady a → IsSteady b → IsSteady (a ⨾ b)
steady_then a b h k r s is = let m = middle (a r) b s is in after r m.at_ s (h r m.at_ m.first) (k m.at_ s m.next)

pub steady_nothing : IsSteady nothing
steady_nothing r s is = subst (Moves r) (same_reading r s is) (same r)

chosen : (b : Bool) (r m s : Reading) → ◌≡◌ {A = Option Reading} (elim b [ true ↦ Some m | false ↦ None ]) (Some s) → Moves r m → Moves r s
chosen true r m s is h = subst (Moves r) (same_reading m s is) h
chosen false r m s is h = let bad : None ≡ Some s = is in cc

next_chosen : (b : Bool) (r m s : Reading) → ◌≡◌ {A = Option Reading} (elim b [ true ↦ Some m | false ↦ None ]) (Some s) → m.taken ≡ suc r.taken → s.taken ≡ suc r.taken
next_chosen true r m s is h = sym (ap (λ x. x.taken) (same_reading m s is)) ∙ h
next_chosen false r m s is h = let bad : None ≡ Some s = is in cc

one_taken : (test : Lexeme → Bool) (left : List Lexeme) (r s : Reading) → r.left ≡ left →
    ◌≡◌ {A = Option Reading} (elim left [ [] ↦ None | x ∷ xs ↦ elim (test x) [ true ↦ Some record r { left = xs; taken = suc r.taken } | false ↦ None ] ]) (Some s) → Moves r s
one_taken test [] r s l is = let bad : None ≡ Some s = is in cc
one_taken test (x ∷ xs) r s l is =
    chosen (test x) r record r { left = xs; taken = suc r.taken } s is
    (record {
      grows = omega arith;
      kept = let e : length r.left ≡ suc (length xs) = ap length l in omega arith;
      suffix = (x ∷ [], l);
      opens = omega arith;
      fits = λ within. within;
    })

next_by : (test : Lexeme → Bool) (left : List Lexeme) (r s : Reading) →
    ◌≡◌ {A = Option Reading} (elim left [ [] ↦ None | x ∷ xs ↦ elim (test x) [ true ↦ Some record r { left = xs; taken = suc r.taken } | false ↦ None ] ]) (Some s) → s.taken ≡ suc r.taken
next_by test [] r s is = let bad : None ≡ Some s = is in cc
next_by test (x ∷ xs) r s is = next_chosen (test x) r record r { left = xs; taken = suc r.taken } s is refl

-- a token is one
pub next_token : (test : Lexeme → Bool) (r s : Reading) → token test r ≡ Some s → s.taken ≡ suc r.taken
next_token test r s is = next_by test r.left r s is

pub steady_token : (test : Lexeme → Bool) → IsSteady (token test)
steady_token test r s is = one_taken test r.left r s refl is

by_here : (b : Bool) (n : ℕ) (r s : Reading) → (n == r.taken) ≡ b → ◌≡◌ {A = Option Reading} (elim b [ true ↦ Some r | false ↦ None ]) (Some s) → (n ≡ r.taken) × (r ≡ s)
by_here true n r s same is = (eqb-true n r.taken same, same_reading r s is)
by_here false n r s same is = let bad : None ≡ Some s = is in cc

-- a place is where it says, and takes nothing
pub here_is : (n : ℕ) (r s : Reading) → here n r ≡ Some s → (n ≡ r.taken) × (r ≡ s)
here_is n r s is = by_here (n == r.taken) n r s refl is

pub steady_here : (n : ℕ) → IsSteady (here n)
steady_here n r s is = chosen (n == r.taken) r r s is (same r)

pub steady_keyword : (k : Keyword) → IsSteady (keyword k)
steady_keyword k = steady_token (is_word k)

pub steady_symbol : (x : Symbol) → IsSteady (symbol x)
steady_symbol x = steady_token (is_sign x)

changed : (p : Takes) (f : Reading → Reading) → ((m : Reading) → Moves m (f m)) → (r s : Reading) → IsSteady p → ◌≡◌ {A = Option Reading} (elim (p r) [ Some m ↦ Some (f m) | None ↦ None ]) (Some s) → Moves r s
changed p f each r s h is = let m = middle (p r) (λ x. Some (f x)) s is in
    subst (Moves r) (same_reading (f m.at_) s m.next) (after r m.at_ (f m.at_) (h r m.at_ m.first) (each m.at_))

pub steady_opening : (p : Takes) → IsSteady p → IsSteady (opening p)
steady_opening p h r s is =
    changed p (λ m. record m { open_brackets = suc m.open_brackets; over = first_over m.over (nat_lt 200 (suc m.open_brackets)) r.taken })
    (λ m. stays m _ refl refl (omega arith) (fits_before m.over (nat_lt 200 (suc m.open_brackets)) r.taken)) r s h is

pub steady_enclosed : (p : Takes) → IsSteady p → IsSteady (enclosed p)
steady_enclosed p h r s is =
    let m = middle (p r) (λ x. Some record x { open_brackets = r.open_brackets }) s is in let moves = h r m.at_ m.first in
    subst (Moves r) (same_reading record m.at_ { open_brackets = r.open_brackets } s m.next)
    (record { grows = moves.grows; kept = moves.kept; suffix = moves.suffix; opens = omega arith; fits = moves.fits })

steady_operator : (p : Takes) → IsSteady p → IsSteady (operator p)
steady_operator p h r s is =
    changed p (λ m. record m { operators = suc m.operators; over = first_over m.over (nat_lt 500 (suc m.operators)) r.taken })
    (λ m. stays m _ refl refl (omega arith) (fits_before m.over (nat_lt 500 (suc m.operators)) r.taken)) r s h is

pub steady_outermost : (p : Takes) → IsSteady p → IsSteady (outermost p)
steady_outermost p h r s is = let m = h record r { operators = 0 } s is in record { grows = m.grows; kept = m.kept; suffix = m.suffix; opens = m.opens; fits = m.fits }

steady_brackets : (opens : Symbol) (p : Takes) (closes : Symbol) → IsSteady p → IsSteady (in_brackets opens p closes)
steady_brackets opens p closes h =
    steady_enclosed (opening (symbol opens) ⨾ p ⨾ symbol closes)
    (steady_then (opening (symbol opens)) (p ⨾ symbol closes) (steady_opening (symbol opens) (steady_symbol opens)) (steady_then p (symbol closes) h (steady_symbol closes)))

pub steady_round : (p : Takes) → IsSteady p → IsSteady (round p)
steady_round p h = steady_brackets sign.Open p sign.Close h

pub steady_square : (p : Takes) → IsSteady p → IsSteady (square p)
steady_square p h = steady_brackets sign.OpenSquare p sign.CloseSquare h

pub steady_braces : (p : Takes) → IsSteady p → IsSteady (braces p)
steady_braces p h = steady_brackets sign.OpenBrace p sign.CloseBrace h

-- ---- lists

module _ {A : Type 0} (p : A → Takes) (each : (a : A) → IsSteady (p a)) where
  pub steady_optional : (o : Option A) → IsSteady (optional p o)
  steady_optional None = steady_nothing
  steady_optional (Some a) = each a

  pub steady_many : (as_ : List A) → IsSteady (many p as_)
  steady_many [] = steady_nothing
  steady_many (a ∷ as_) = steady_then (p a) (many p as_) (each a) (steady_many as_)

  pub steady_commas : (as_ : List A) → IsSteady (commas p as_)
  steady_commas [] r s is = let bad : None ≡ Some s = is in cc
  steady_commas (a ∷ []) r s is = each a r s is
  steady_commas (a ∷ b ∷ rest) r s is =
      steady_then (p a) (symbol sign.Comma ⨾ commas p (b ∷ rest)) (each a) (steady_then (symbol sign.Comma) (commas p (b ∷ rest)) (steady_symbol sign.Comma) (steady_commas (b ∷ rest))) r s is

maybe : (o : Option Reading) (r s : Reading) → ◌≡◌ {A = Option Reading} (elim o [ Some m ↦ Some m | None ↦ Some r ]) (Some s) → ((m : Reading) → o ≡ Some m → Moves r m) → Moves r s
maybe (Some m) r s is h = subst (Moves r) (same_reading m s is) (h m refl)
maybe None r s is h = subst (Moves r) (same_reading r s is) (same r)

pub steady_comma : IsSteady may_comma
steady_comma r s is = maybe (symbol sign.Comma r) r s is (λ m at_. steady_symbol sign.Comma r m at_)

module _ {A : Type 0} (p : A → Takes) (each : (a : A) → IsSteady (p a)) where
  pub steady_listed : (as_ : List A) → IsSteady (listed p as_)
  steady_listed as_ = steady_then (commas p as_) may_comma (steady_commas p each as_) steady_comma

  pub steady_list : (as_ : List A) → IsSteady (may_list p as_)
  steady_list [] = steady_nothing
  steady_list (a ∷ as_) = steady_listed (a ∷ as_)

-- ---- expressions

pub steady_ident : (i : Ident) → IsSteady (ident i)
steady_ident i = steady_then (here i.token) (token (is_name i.name)) (steady_here i.token) (steady_token (is_name i.name))

pub steady_text : (t : Text) → IsSteady (text t)
steady_text t = steady_then (here t.token) (token (is_text t.bytes)) (steady_here t.token) (steady_token (is_text t.bytes))

pub steady_int : (i : Int) → IsSteady (int i)
steady_int i = steady_then (here i.token) (token (is_int i.value)) (steady_here i.token) (steady_token (is_int i.value))

steady_type_form : (form : TypeForm) → IsSteady (type_form form)
steady_type_form (Bits w) = steady_keyword (width_word w)
steady_type_form (OfName n) = steady_token (is_name n)

pub steady_type : (t : TypeName) → IsSteady (type_name t)
steady_type t = steady_then (here t.token) (type_form t.form) (steady_here t.token) (steady_type_form t.form)

steady_number : (n : Number) → IsSteady (number_of n)
steady_number (number.Int value) = steady_token (is_int value)
steady_number (number.Char byte) = steady_token (is_char byte)

aligned_from : (i : Int) (o : Option Reading) (r s : Reading) → ◌≡◌ {A = Option Reading} (elim o [ Some m ↦ int i m | None ↦ (keyword Align ⨾ int i) r ]) (Some s) → ((m : Reading) → o ≡ Some m → Moves r m) → Moves r s
aligned_from i (Some m) r s is h = after r m s (h m refl) (steady_int i m s is)
aligned_from i None r s is h = steady_then (keyword Align) (int i) (steady_keyword Align) (steady_int i) r s is

pub steady_aligned : (i : Int) → IsSteady (aligned_by i)
steady_aligned i r s is = aligned_from i (keyword Aligned r) r s is (λ m at_. steady_keyword Aligned r m at_)

steady_binds : (level : ℕ) (form : ExprForm) → IsSteady (binds level form)
steady_binds level form r s is = chosen (nat_le level (level_of form)) r r s is (same r)

mutual
  steady_form : (form : ExprForm) → IsSteady (expr_form form)
  steady_form (Infix' _ left op _ right) =
      steady_then (operand (left_level op) left) (operator (symbol (infix_symbol op)) ⨾ operand (right_level op) right) (steady_operand _ (left_level op) left)
      (steady_then (operator (symbol (infix_symbol op))) (operand (right_level op) right) (steady_operator (symbol (infix_symbol op)) (steady_symbol (infix_symbol op))) (steady_operand _ (right_level op) right))
  steady_form (Prefix' op _ inner) =
      steady_then (operator (symbol (prefix_symbol op))) (operand unary_level inner) (steady_operator (symbol (prefix_symbol op)) (steady_symbol (prefix_symbol op))) (steady_operand _ unary_level inner)
  steady_form (Prim prim) = steady_prim_form prim
  steady_form (InMemory m) = steady_memory m
  steady_form (Named' name _ operands) =
      steady_then (operator (token (is_operator name))) (round (operand_list operands ⨾ may_comma)) (steady_operator (token (is_operator name)) (steady_token (is_operator name)))
      (steady_round (operand_list operands ⨾ may_comma) (steady_then (operand_list operands) may_comma (steady_operands _ operands) steady_comma))

  pub steady_operand : (n : _) (level : ℕ) (row : Row_of-Expr (one_more n)) → IsSteady (operand level row)
  steady_operand n level (more_of-Expr first form rest) =
      steady_then (binds level form) (here first ⨾ expr_form form) (steady_binds level form) (steady_then (here first) (expr_form form) (steady_here first) (steady_form form))

  pub steady_operands : (n : _) (row : Row_of-Expr n) → IsSteady (operand_list row)
  steady_operands n end_of-Expr = λ r s is. let bad : None ≡ Some s = is in cc
  steady_operands n (more_of-Expr {n = m} first form rest) =
      steady_then (here first) (expr_form form ⨾ more_operands rest) (steady_here first) (steady_then (expr_form form) (more_operands rest) (steady_form form) (steady_more m rest))

  steady_more : (n : _) (row : Row_of-Expr n) → IsSteady (more_operands row)
  steady_more n end_of-Expr = steady_nothing
  steady_more n (more_of-Expr {n = m} first form rest) =
      steady_then (symbol sign.Comma) (here first ⨾ expr_form form ⨾ more_operands rest) (steady_symbol sign.Comma)
      (steady_then (here first) (expr_form form ⨾ more_operands rest) (steady_here first) (steady_then (expr_form form) (more_operands rest) (steady_form form) (steady_more m rest)))

  steady_prim_form : (p : PrimForm) → IsSteady (prim_form p)
  steady_prim_form (Literal value width) =
      steady_then (number_of value) (optional (λ t. symbol sign.Colons ⨾ type_name t) width) (steady_number value)
      (steady_optional (λ t. symbol sign.Colons ⨾ type_name t) (λ t. steady_then (symbol sign.Colons) (type_name t) (steady_symbol sign.Colons) (steady_type t)) width)
  steady_prim_form (NameOf name) = steady_token (is_name name)
  steady_prim_form (Bracketed' _ inner) = steady_round (operand 0 inner) (steady_operand _ 0 inner)

  steady_memory : (m : Memory) → IsSteady (memory m)
  steady_memory (Memory' width _ address aligned) =
      steady_then (type_name width) (square (operand 0 address ⨾ optional aligned_by aligned)) (steady_type width)
      (steady_square (operand 0 address ⨾ optional aligned_by aligned) (steady_then (operand 0 address) (optional aligned_by aligned) (steady_operand _ 0 address) (steady_optional aligned_by steady_aligned aligned)))

pub steady_whole : (e : Expr) → IsSteady (whole e)
steady_whole e = steady_outermost (expr e) (steady_then (here e.token) (expr_form e.form) (steady_here e.token) (steady_form e.form))

pub steady_primary : (p : Primary) → IsSteady (whole_prim p)
steady_primary p = steady_outermost (prim p) (steady_then (here p.token) (prim_form p.form) (steady_here p.token) (steady_prim_form p.form))

pub steady_place : (m : Memory) → IsSteady (whole_memory m)
steady_place m = steady_outermost (memory m) (steady_memory m)
