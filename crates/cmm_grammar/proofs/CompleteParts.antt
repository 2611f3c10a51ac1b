-- Each part of a statement that what follows does not go on is read.
use Rattle.std.proofs.Common.{◌≡◌, ℕ, ◌⊎◌, inl, inr, Bool, true, false, ◌==◌, ◌||◌, List, Option, Some, None, refl, sym, ap, arith, is_some}
use Rattle.std.proofs.lemmas.Bool.{or_left, or_right}
use Rattle.cmm_lexer.specs.declared.piece.Lexeme.{Lexeme}
use Rattle.cmm_lexer.specs.declared.piece.Lexeme.TheVariants as l
use Rattle.cmm_lexer.specs.declared.symbol.Symbol.TheVariants.{Open, Close, OpenSquare, Less, Greater, Slash}
use Rattle.cmm_lexer.specs.declared.symbol.Symbol.TheVariants as sign
use Rattle.cmm_ast.specs.declared.expression.Expr.{Expr}
use Rattle.cmm_ast.specs.declared.expression.TypeName.{TypeName}
use Rattle.cmm_ast.specs.declared.expression.TypeForm.TheVariants.{Bits, Named as OfName}
use Rattle.cmm_ast.specs.declared.expression.ExprForm.{end_of-Expr, more_of-Expr}
use Rattle.cmm_ast.specs.declared.expression.Memory.{Memory', roll-Memory}
use Rattle.cmm_ast.specs.declared.expression.Number.TheVariants as number
use Rattle.cmm_ast.specs.declared.expression.Primary.{Primary}
use Rattle.cmm_ast.specs.declared.expression.PrimForm.TheVariants.{Literal, Name as NameOf, Bracketed'}
use Rattle.cmm_ast.specs.declared.statement.Actual.{Actual}
use Rattle.cmm_ast.specs.declared.statement.Callee.{Callee}
use Rattle.cmm_ast.specs.declared.statement.CalleeForm.{CalleeForm}
use Rattle.cmm_ast.specs.declared.statement.CalleeForm.TheVariants as callees
use Rattle.cmm_ast.specs.declared.statement.Exit.{Exit}
use Rattle.cmm_ast.specs.declared.statement.Kinded.{Kinded}
use Rattle.cmm_ast.specs.declared.statement.Lvalue.{Lvalue}
use Rattle.cmm_ast.specs.declared.statement.Lvalue.TheVariants as lvalues
use Rattle.cmm_ast.specs.declared.statement.Range.{Range}
use Rattle.cmm_lexer.specs.Spellings.{keyword_number, symbol_number}
use Rattle.cmm_grammar.specs.Taking.{◌⨾◌, is_name, is_sign, square as square_is, outermost as outermost_is, optional as optional_is, symbol as symbol_is}
use Rattle.cmm_grammar.specs.ExpressionGrammar as grammar
use Rattle.cmm_grammar.specs.ExpressionGrammar.{width_word, aligned_by}
use Rattle.cmm_grammar.specs.StatementGrammar as statements
use Rattle.cmm_grammar.specs.Reading.{◌>>=◌, give, look}
use Rattle.cmm_grammar.specs.inside.Duties.{Complete}
use Rattle.cmm_grammar.specs.ExpressionReading.{width_in, begins_expression, named_type, operand, whole_memory, prim_by, whole_prim}
use Rattle.cmm_grammar.specs.PartReading.{is_any_text, is_any_name, is_width, begins_kinded, kinded, begins_actual, actual, arguments, lvalue, called, callee_form, callee, exit, range_end, range}
use Rattle.cmm_grammar.proofs.Takings.{takes_nothing}
use Rattle.cmm_grammar.proofs.ExpressionForms.{opened, operand_is}
use Rattle.cmm_grammar.proofs.StatementForms.{outer_type}
use Rattle.cmm_grammar.proofs.Completes.{Next, Anything, after_complete, give_complete, last_complete, follow_complete, less_complete, holds_complete, fails_complete, here_complete, outermost_complete, skip_complete, at_complete, same_complete}
use Rattle.cmm_grammar.proofs.Tokens.{only_name, only_symbol, symbol_complete, ident_complete, text_complete}
use Rattle.cmm_grammar.proofs.Lists.{Parts, may_list_complete}
use Rattle.cmm_grammar.proofs.CompleteExpressions.{Begins, Ends, NoMore, spine, width_in_is, literal_complete, bracketed_complete, type_name_complete, in_brackets_complete, memory_complete, whole_complete, ends_after}
use Rattle.cmm_grammar.proofs.CompleteRepeats.{Passes, Not, optional_complete, parts_before, other_symbol}

either_passes : (one two : Lexeme → Bool) (x : Option Lexeme) → Passes one x ⊎ Passes two x → Passes (λ y. one y || two y) x
either_passes one two (Some x) (inl e) = or_left (one x) (two x) e
either_passes one two (Some x) (inr e) = or_right (one x) (two x) e
either_passes one two None (inl e) = absurd cc
either_passes one two None (inr e) = absurd cc

-- ---- what is passed

name_no_text : (x : Option Lexeme) → Passes is_any_name x → Not is_any_text x
name_no_text (Some (l.Text bytes)) e = absurd cc
name_no_text (Some _) e = refl
name_no_text None e = refl

pub kinded_complete : {fuel : ℕ} (k : Kinded) → Complete fuel (statements.kinded k) k kinded (Passes begins_kinded) Anything
kinded_complete k =
    follow_complete (either_passes is_any_text is_any_name) (λ x f. f)
    (after_complete
    (optional_complete {follow = Passes is_any_name} is_any_text (λ x e. e) name_no_text
    (λ t. follow_complete (λ x e. rw e refl) (λ x f. tt) (text_complete t)) k.kind)
    (λ x e. e)
    (λ kind. last_complete (λ name. record { kind = kind; name = name }) (follow_complete (λ x e. rw e refl) (λ x f. f) (ident_complete k.name))))

expression_no_text : (x : Option Lexeme) → Begins x → Not is_any_text x
expression_no_text (Some (l.Text bytes)) e = absurd cc
expression_no_text (Some _) e = refl
expression_no_text None e = refl

pub actual_complete : (fuel : ℕ) (a : Actual) → Complete fuel (statements.actual a) a (actual fuel) (Passes begins_actual) (Ends 0)
actual_complete fuel a =
    follow_complete (either_passes is_any_text begins_expression) (λ x f. f)
    (after_complete
    (optional_complete {follow = Begins} is_any_text (λ x e. e) expression_no_text
    (λ t. follow_complete (λ x e. rw e refl) (λ x f. tt) (text_complete t)) a.kind)
    (λ x e. e) (λ kind. last_complete (λ value. record { kind = kind; value = value }) (whole_complete fuel a.value)))

actuals : Parts begins_actual (Passes begins_actual) (Ends 0) (Next (l.Symbol (symbol_number Close)))
actuals = parts_before begins_actual Close refl refl (ends_after Close refl refl)

pub arguments_complete : (fuel : ℕ) (as_ : List Actual) →
    Complete fuel (statements.arguments as_) as_ (arguments fuel) (Next (l.Symbol (symbol_number Open))) Anything
arguments_complete fuel as_ =
    less_complete (omega arith)
    (outermost_complete (in_brackets_complete Open Close (λ x e. e) (may_list_complete (actual fuel) statements.actual actuals as_ (actual_complete fuel))))

-- ---- what is assigned to and called

abbrev pub begins_lvalue : Lexeme → Bool
begins_lvalue x = is_width x || is_any_name x

-- a name goes on with this
abbrev pub NoSquare : Option Lexeme → Type 0
NoSquare = Not (is_sign OpenSquare)

whole_memory_complete : (fuel : ℕ) (width : TypeName) (e : Expr) (bytes : Option _) →
    Complete fuel (outermost_is (square_is (operand_is 0 e ⨾ optional_is aligned_by bytes))) (roll-Memory (record { width = width; address = e; aligned = bytes }))
    (whole_memory fuel width) (Next (l.Symbol (symbol_number OpenSquare))) Anything
whole_memory_complete fuel width e bytes = less_complete (omega arith) (outermost_complete (memory_complete fuel e (spine e.form) width bytes))

word_complete : (fuel token_ : ℕ) (form : _) (e : Expr) (bytes : Option _) →
    Complete fuel
    (grammar.type_name (record { token = token_; form = form }) ⨾ outermost_is (square_is (operand_is 0 e ⨾ optional_is aligned_by bytes)))
    (lvalues.Memory (roll-Memory (record { width = record { token = token_; form = form }; address = e; aligned = bytes }))) (lvalue fuel)
    (Passes begins_lvalue) NoSquare
word_complete fuel token_ (Bits width) e bytes =
    follow_complete (λ x is. rw is (or_left (is_some (width_in (keyword_number (width_word width)))) false (ap is_some (width_in_is width)))) (λ x f. tt)
    (holds_complete is_width (λ x is. rw is (ap is_some (width_in_is width)))
    (after_complete {b = λ t. lvalues.Memory (roll-Memory (record { width = t; address = e; aligned = bytes }))}
    (type_name_complete (record { token = token_; form = Bits width })) (λ x f. tt)
    (λ t. last_complete (λ m. lvalues.Memory m) (whole_memory_complete fuel t e bytes))))
word_complete fuel token_ (OfName name_) e bytes =
    follow_complete (λ x is. rw is refl) (λ x f. tt)
    (fails_complete is_width (λ x is. rw is refl)
    (after_complete {b = λ i. lvalues.Memory (roll-Memory (record { width = named_type i; address = e; aligned = bytes }))}
    (ident_complete (record { name = name_; token = token_ })) (λ x f. tt)
    (λ i. holds_complete {fails = give (lvalues.Name i)} (is_sign OpenSquare) (λ x is. rw is refl)
    (last_complete (λ m. lvalues.Memory m) (whole_memory_complete fuel (named_type i) e bytes)))))

pub lvalue_complete : (fuel : ℕ) (v : Lvalue) → Complete fuel (statements.lvalue v) v (lvalue fuel) (Passes begins_lvalue) NoSquare
unfolding opened
lvalue_complete fuel (lvalues.Name i) =
    same_complete (sym (takes_nothing (grammar.ident i)))
    (follow_complete (λ x is. rw is refl) (λ x f. f)
    (fails_complete is_width (λ x is. rw is refl)
    (after_complete {b = λ i. lvalues.Name i} (ident_complete i) (λ x f. tt)
    (λ i. fails_complete (is_sign OpenSquare) (λ x f. f) (give_complete (lvalues.Name i))))))
lvalue_complete fuel (lvalues.Memory (Memory' width a (more_of-Expr t f end_of-Expr) bytes)) =
    same_complete (outer_type width (square_is (operand_is 0 (record { token = t; form = f }) ⨾ optional_is aligned_by bytes)))
    (word_complete fuel width.token width.form (record { token = t; form = f }) bytes)

-- an expression in round brackets begins with this, and a name or a word in memory does not
lvalue_no_bracket : (x : Option Lexeme) → Passes begins_lvalue x → Not (is_sign Open) x
lvalue_no_bracket = other_symbol begins_lvalue Open refl

abbrev pub begins_callee : Lexeme → Bool
begins_callee x = is_sign Open x || begins_lvalue x

ends_bracket : (x : Option Lexeme) → x ≡ Some (l.Symbol (symbol_number Close)) → Ends 0 x
ends_bracket x e = rw e (record { no_more = refl; no_infix = λ op is. absurd cc })

of_lvalue : (fuel : ℕ) (v : Lvalue) → Complete fuel (statements.lvalue v) (called v) (callee_form fuel) (Passes begins_callee) NoSquare
of_lvalue fuel v =
    follow_complete (λ x f. either_passes (is_sign Open) begins_lvalue x (inr f)) (λ x f. f)
    (fails_complete (is_sign Open) lvalue_no_bracket (last_complete (λ v. called v) (lvalue_complete fuel v)))

callee_form_complete : (fuel : ℕ) (c : CalleeForm) → Complete fuel (statements.callee_form c) c (callee_form fuel) (Passes begins_callee) NoSquare
callee_form_complete fuel (callees.Name name) = of_lvalue fuel (lvalues.Name name)
callee_form_complete fuel (callees.Memory m) = of_lvalue fuel (lvalues.Memory m)
callee_form_complete fuel (callees.Bracketed e) =
    follow_complete (λ x is. rw is refl) (λ x f. tt)
    (holds_complete {fails = lvalue fuel >>= λ v. give (called v)} (is_sign Open) (λ x is. rw is refl)
    (last_complete (λ e. callees.Bracketed e) (less_complete (omega arith) (in_brackets_complete Open Close ends_bracket (whole_complete fuel e)))))

pub callee_complete : (fuel : ℕ) (c : Callee) → Complete fuel (statements.callee c) c (callee fuel) (Passes begins_callee) NoSquare
callee_complete fuel c =
    after_complete (here_complete c.token) (λ x f. f)
    (λ token. last_complete (λ form. record { token = token; form = form }) (callee_form_complete fuel c.form))

-- ---- exits

abbrev pub begins_prim : Lexeme → Bool
begins_prim (l.Name bytes) = true
begins_prim (l.Int value) = true
begins_prim (l.Char byte) = true
begins_prim (l.Symbol n) = symbol_number Open == n
begins_prim _ = false

prim_form_complete : (fuel : ℕ) (p : _) → Complete fuel (grammar.prim_form p) p (look (prim_by (operand fuel))) (Passes begins_prim) NoMore
unfolding opened
prim_form_complete fuel (Literal (number.Int value) width) =
    follow_complete (λ x is. rw is refl) (λ x f. f) (at_complete (prim_by (operand fuel)) (l.Int value) (literal_complete (number.Int value) width))
prim_form_complete fuel (Literal (number.Char byte) width) =
    follow_complete (λ x is. rw is refl) (λ x f. f) (at_complete (prim_by (operand fuel)) (l.Char byte) (literal_complete (number.Char byte) width))
prim_form_complete fuel (NameOf bytes) =
    follow_complete (λ x is. rw is refl) (λ x f. tt)
    (at_complete (prim_by (operand fuel)) (l.Name bytes) (last_complete (λ _. NameOf bytes) (skip_complete (is_name bytes) (only_name bytes))))
prim_form_complete fuel (Bracketed' a (more_of-Expr t f end_of-Expr)) =
    follow_complete (λ x is. rw is refl) (λ x f. tt)
    (at_complete (prim_by (operand fuel)) (l.Symbol (symbol_number Open))
    (less_complete (omega arith) (bracketed_complete fuel (record { token = t; form = f }) (spine f))))

pub whole_prim_complete : (fuel : ℕ) (p : Primary) → Complete fuel (grammar.whole_prim p) p (whole_prim fuel) (Passes begins_prim) NoMore
whole_prim_complete fuel p =
    outermost_complete
    (after_complete (here_complete p.token) (λ x f. f)
    (λ token. last_complete (λ form. record { token = token; form = form }) (prim_form_complete fuel p.form)))

pub exit_complete : (fuel : ℕ) (e : Exit) → Complete fuel (statements.exit e) e (exit fuel) (Next (l.Symbol (symbol_number Less))) Anything
exit_complete fuel e =
    after_complete {b = λ token. record { token = token; index = e.index; count = e.count }} (here_complete e.token) (λ x f. f) (λ token.
    after_complete {b = λ _. record { token = token; index = e.index; count = e.count }} (symbol_complete Less) (λ x f. tt) (λ _.
    after_complete {b = λ index. record { token = token; index = index; count = e.count }} (whole_prim_complete fuel e.index) (λ x is. rw is refl) (λ index.
    after_complete {b = λ _. record { token = token; index = index; count = e.count }} (symbol_complete Slash) (λ x f. tt) (λ _.
    after_complete {b = λ count. record { token = token; index = index; count = count }} (whole_prim_complete fuel e.count) (λ x is. rw is refl) (λ count.
    last_complete (λ _. record { token = token; index = index; count = count }) (symbol_complete Greater))))))

-- ---- ranges

range_ends : (fuel : ℕ) (to : Option Expr) →
    Complete fuel (optional_is (λ e. symbol_is sign.Range ⨾ grammar.whole e) to) to (range_end fuel)
    (λ x. (x ≡ Some (l.Symbol (symbol_number sign.Range))) ⊎ (Ends 0 x × Not (is_sign sign.Range) x))
    (λ x. Ends 0 x × Not (is_sign sign.Range) x)
range_ends fuel (Some e) =
    follow_complete (λ x f. inl f) (λ x f. f.0)
    (holds_complete {fails = give None} (is_sign sign.Range) (λ x is. rw is refl)
    (after_complete {b = λ _. Some e} (skip_complete (is_sign sign.Range) (only_symbol sign.Range)) (λ x f. tt)
    (λ _. last_complete (λ e. Some e) (whole_complete fuel e))))
range_ends fuel None = follow_complete (λ x f. inr f) (λ x f. f) (fails_complete (is_sign sign.Range) (λ x f. f.1) (give_complete None))

pub range_complete : (fuel : ℕ) (r : Range) →
    Complete fuel (statements.range r) r (range fuel) Begins (λ x. Ends 0 x × Not (is_sign sign.Range) x)
range_complete fuel r =
    after_complete {b = λ from. record { from = from; to = r.to }} (whole_complete fuel r.from) ends
    (λ from. last_complete (λ to. record { from = from; to = to }) (range_ends fuel r.to)) where
      ends : (x : Option Lexeme) → (x ≡ Some (l.Symbol (symbol_number sign.Range))) ⊎ (Ends 0 x × Not (is_sign sign.Range) x) → Ends 0 x
      ends x (inl e) = rw e (record { no_more = refl; no_infix = λ op is. absurd cc })
      ends x (inr f) = f.0
