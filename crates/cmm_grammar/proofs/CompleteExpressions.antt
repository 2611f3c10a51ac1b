-- Each type and expression that what follows does not go on is read.
use Rattle.std.proofs.Common.{◌≡◌, ℕ, zero, suc, ◌<◌, ◌≤◌, ◌⊎◌, inl, inr, Bool, true, false, ◌||◌, ◌==◌, nat_le, List, [], ◌∷◌, length, Option, Some, None, refl, sym, ap, ◌∙◌, arith, subst, is_some}
use Rattle.std.proofs.lemmas.Bool.{or_parts, eqb-true}
use Rattle.std.proofs.lemmas.Bool.Decides.{nat_tests}
use denote.Hole.Carrier as Carrier
use Rattle.cmm_words.specs.declared.width.Width.{Width}
use Rattle.cmm_words.specs.declared.width.Width.TheVariants.{W8, W16, W32, W64}
use Rattle.cmm_lexer.specs.declared.piece.Lexeme.{Lexeme}
use Rattle.cmm_lexer.specs.declared.piece.Lexeme.TheVariants as l
use Rattle.cmm_ast.specs.declared.token.Int.{Int}
use Rattle.cmm_lexer.specs.declared.keyword.Keyword.TheVariants.{Align, Aligned}
use Rattle.cmm_lexer.specs.declared.symbol.Symbol.{Symbol}
use Rattle.cmm_lexer.specs.declared.symbol.Symbol.TheVariants.{Open, Close, OpenSquare, CloseSquare, Colons, Comma}
use Rattle.cmm_ast.specs.declared.expression.TypeName.{TypeName}
use Rattle.cmm_ast.specs.declared.expression.TypeForm.{TypeForm}
use Rattle.cmm_ast.specs.declared.expression.TypeForm.TheVariants.{Bits, Named as OfName}
use Rattle.cmm_ast.specs.declared.expression.Number.{Number}
use Rattle.cmm_ast.specs.declared.expression.Number.TheVariants as number
use Rattle.cmm_ast.specs.declared.expression.Infix.{Infix as InfixOperator}
use Rattle.cmm_ast.specs.declared.expression.Infix.TheVariants.{Eq, Ne, Lt, Le, Gt, Ge, Or, Xor, And, Shl, Shr, Add, Sub, Mul, Div, Mod}
use Rattle.cmm_ast.specs.declared.expression.Prefix.{Prefix as PrefixOperator}
use Rattle.cmm_ast.specs.declared.expression.Prefix.TheVariants.{Negate, Complement}
use Rattle.cmm_ast.specs.declared.expression.Expr.{Expr}
use Rattle.cmm_ast.specs.declared.expression.ExprForm.{ExprForm, Row_of-Expr, end_of-Expr, more_of-Expr, items-the_row-Expr, items_shown-the_row-Expr-1, roll-ExprForm, out-ExprForm, roll-out-ExprForm}
use Rattle.cmm_ast.specs.declared.expression.ExprForm.TheVariants.{Infix, Prefix, Prim, Memory as InMemory, Named, Infix', Prefix', Named'}
use Rattle.cmm_ast.specs.declared.expression.PrimForm.TheVariants.{Literal, Name as NameOf, Bracketed, Bracketed'}
use Rattle.cmm_ast.specs.declared.expression.Memory.{Memory', roll-Memory}
use Rattle.cmm_lexer.specs.Spellings.{keyword_number, symbol_number}
use Rattle.cmm_grammar.specs.Taking.{Reading, Takes, ◌⨾◌, token, nothing, is_word, is_sign, is_name, is_operator, is_int, is_char, keyword as keyword_is, symbol as symbol_is, here as here_is, operator as operator_is, optional as optional_is, square as square_is, in_brackets as in_brackets_is, may_comma}
use Rattle.cmm_grammar.specs.ExpressionGrammar as grammar
use Rattle.cmm_grammar.specs.ExpressionGrammar.{width_word, prefix_symbol, infix_symbol, infix_level, left_level, right_level, unary_level, level_of, expr_form, prim_form, aligned_by, number_of}
use Rattle.cmm_grammar.specs.Reading.{Point, TooDeep, Answer, Read, Stopped, Reads, and_then, ◌>>=◌, give, next, look, passes, skip_operator, stop, in_brackets, pick, listed}
use Rattle.cmm_grammar.specs.ReadingLaws.{point}
use Rattle.cmm_grammar.specs.inside.Duties.{passed, outcome, Moves, Complete}
use Rattle.cmm_grammar.specs.ExpressionReading.{width_in, infix_in, sized, type_by, type_name, named_type, number_in, typed, literal, bracketed, aligned, located, memory, name_or_memory, prefixed, unary_by, begins_expression, tight, infix_next, joined, climb, operand, whole}
use Rattle.cmm_grammar.proofs.Takings.{takes_nothing, same_number}
use Rattle.cmm_grammar.proofs.ExpressionForms.{opened, operand_is, form_of_infix, level_of_infix, small_level, row_operands, any_level}
use Rattle.cmm_grammar.proofs.Completes.{Next, Anything, Strict, moves_trans, outcome_read, outcome_stopped, after_outcome, after_outcome_if, after_complete, fewer_complete, give_complete, last_complete, follow_complete, less_complete, at_complete, holds_complete, fails_complete, skip_complete, operator_complete, operator_strict, opening_complete, opening_strict, here_complete, enclosed_complete, outermost_complete, both, never_complete, by_taken, same_complete}
use Rattle.cmm_grammar.proofs.Tokens.{only_symbol, only_keyword, only_int, only_char, only_name, only_operator, symbol_complete, ident_complete, int_complete, pick_complete, some_is}
use Rattle.cmm_grammar.proofs.Lists.{After, Parts, Each, list_complete}
use Rattle.cmm_grammar.proofs.CompleteRepeats.{parts_before}

-- ---- what may follow

-- a literal and a name go on with these
abbrev pub more : Lexeme → Bool
more (l.Symbol n) = symbol_number Colons == n || symbol_number OpenSquare == n
more _ = false

abbrev pub NoMore : Option Lexeme → Type 0
NoMore x = passes more x ≡ false

abbrev pub next_infix : Option Lexeme → Option InfixOperator
next_infix (Some (l.Symbol n)) = infix_in n
next_infix _ = None

-- an expression of at least this level ends before it
pub record Ends (level : ℕ) (x : Option Lexeme) : Type 0 where
  pub no_more : NoMore x
  pub no_infix : (op : InfixOperator) → next_infix x ≡ Some op → infix_level op < level

abbrev pub Begins : Option Lexeme → Type 0
Begins x = passes begins_expression x ≡ true

-- the symbol of an operator is its own, and goes on with no literal or name
infix_is : (op : InfixOperator) → (infix_in (symbol_number (infix_symbol op)) ≡ Some op) × (more (l.Symbol (symbol_number (infix_symbol op))) ≡ false)
infix_is Eq = (refl, refl)
infix_is Ne = (refl, refl)
infix_is Lt = (refl, refl)
infix_is Le = (refl, refl)
infix_is Gt = (refl, refl)
infix_is Ge = (refl, refl)
infix_is Or = (refl, refl)
infix_is Xor = (refl, refl)
infix_is And = (refl, refl)
infix_is Shl = (refl, refl)
infix_is Shr = (refl, refl)
infix_is Add = (refl, refl)
infix_is Sub = (refl, refl)
infix_is Mul = (refl, refl)
infix_is Div = (refl, refl)
infix_is Mod = (refl, refl)

pub width_in_is : (width : Width) → width_in (keyword_number (width_word width)) ≡ Some width
width_in_is W8 = refl
width_in_is W16 = refl
width_in_is W32 = refl
width_in_is W64 = refl

-- ---- types

abbrev pub type_token : TypeForm → Lexeme
type_token (Bits width) = l.Word (keyword_number (width_word width))
type_token (OfName bytes) = l.Name bytes

type_form_complete : {fuel : ℕ} (form : TypeForm) → Complete fuel (grammar.type_form form) form (look type_by) (Next (type_token form)) Anything
type_form_complete (Bits width) =
    at_complete type_by (l.Word (keyword_number (width_word width)))
    (rw (ap sized (width_in_is width)) (last_complete (λ _. Bits width) (skip_complete (is_word (width_word width)) (only_keyword (width_word width)))))
type_form_complete (OfName bytes) =
    at_complete type_by (l.Name bytes) (last_complete (λ _. OfName bytes) (skip_complete (is_name bytes) (only_name bytes)))

pub type_name_complete : {fuel : ℕ} (t : TypeName) → Complete fuel (grammar.type_name t) t type_name (Next (type_token t.form)) Anything
type_name_complete t =
    after_complete (here_complete t.token) (λ x f. f)
    (λ token. last_complete (λ form. record { token = token; form = form }) (type_form_complete t.form))

-- ---- literals

typed_complete : {fuel : ℕ} (width : Option TypeName) →
    Complete fuel (optional_is (λ t. symbol_is Colons ⨾ grammar.type_name t) width) width typed Anything NoMore
typed_complete (Some t) =
    follow_complete (λ x f. tt) (λ x f. tt)
    (holds_complete (is_sign Colons) (λ x e. rw e refl)
    (after_complete (skip_complete (is_sign Colons) (only_symbol Colons)) (λ x f. tt)
    (λ _. last_complete (λ t. Some t) (type_name_complete t))))
typed_complete None =
    follow_complete (λ x f. tt) (λ x f. f) (fails_complete (is_sign Colons) no_colons (give_complete None)) where
      no_colons : (x : Option Lexeme) → NoMore x → passes (is_sign Colons) x ≡ false
      no_colons (Some (l.Symbol n)) e = (or_parts (symbol_number Colons == n) (symbol_number OpenSquare == n) e).0
      no_colons (Some _) e = refl
      no_colons None e = refl

abbrev pub number_token : Number → Lexeme
number_token (number.Int value) = l.Int value
number_token (number.Char byte) = l.Char byte

number_complete : {fuel : ℕ} (n : Number) → Complete fuel (number_of n) n (pick number_in) (Next (number_token n)) Anything
number_complete (number.Int value) = pick_complete number_in (is_int value) (l.Int value) (number.Int value) (only_int value) refl
number_complete (number.Char byte) = pick_complete number_in (is_char byte) (l.Char byte) (number.Char byte) (only_char byte) refl

pub literal_complete : {fuel : ℕ} (n : Number) (width : Option TypeName) →
    Complete fuel (prim_form (Literal n width)) (Literal n width) literal (Next (number_token n)) NoMore
literal_complete n width =
    after_complete (number_complete n) (λ x f. f) (λ m. last_complete (λ w. Literal m w) (typed_complete width))

-- ---- brackets

pub in_brackets_complete : {A : Type 0} {fuel : ℕ} {p : Takes} {a : A} {reads : Reads A} {first follow : Option Lexeme → Type 0} (opened_by closed_by : Symbol) →
    ((x : Option Lexeme) → x ≡ Some (l.Symbol (symbol_number closed_by)) → follow x) → Complete fuel p a reads first follow →
    Complete (suc fuel) (in_brackets_is opened_by p closed_by) a (in_brackets opened_by reads closed_by) (Next (l.Symbol (symbol_number opened_by))) Anything
in_brackets_complete opened_by closed_by ends inner =
    enclosed_complete
    (fewer_complete (opening_strict (only_symbol opened_by))
    (holds_complete {fails = stop} (is_sign opened_by) (λ x e. rw e (same_number (symbol_number opened_by)))
    (opening_complete (is_sign opened_by) (only_symbol opened_by)))
    (λ x f. tt) (λ _. after_complete inner ends (λ a. last_complete (λ _. a) (symbol_complete closed_by))))

-- ---- what is aligned

abbrev AfterAddress : Option Lexeme → Type 0
AfterAddress x =
    (x ≡ Some (l.Word (keyword_number Aligned))) ⊎ (x ≡ Some (l.Word (keyword_number Align))) ⊎ (x ≡ Some (l.Symbol (symbol_number CloseSquare)))

-- by either word
abbrev by_word : Int → Bool → Takes
by_word i first r = elim first [ true ↦ (keyword_is Aligned ⨾ grammar.int i) r | false ↦ (keyword_is Align ⨾ grammar.int i) r ]

by_aligned : (o : Option Reading) (i : Int) (r after : Reading) →
    elim o as (λ _. Option Reading) [ Some x ↦ grammar.int i x | None ↦ (keyword_is Align ⨾ grammar.int i) r ] ≡ Some after →
    (first : Bool) × (elim first as (λ _. Option Reading) [
      | true ↦ elim o as (λ _. Option Reading) [ Some x ↦ grammar.int i x | None ↦ None ]
      | false ↦ (keyword_is Align ⨾ grammar.int i) r
    ] ≡ Some after)
by_aligned (Some x) i r after e = (true, e)
by_aligned None i r after e = (false, e)

aligned_complete : {fuel : ℕ} (bytes : Option Int) →
    Complete fuel (optional_is aligned_by bytes) bytes aligned AfterAddress (Next (l.Symbol (symbol_number CloseSquare)))
aligned_complete {fuel} (Some i) = by_taken (by_word i) (λ r after e. by_aligned (keyword_is Aligned r) i r after e) each where
  each : (first : Bool) → Complete fuel (by_word i first) (Some i) aligned AfterAddress (Next (l.Symbol (symbol_number CloseSquare)))
  each true =
      follow_complete (λ x e. inl e) (λ x e. tt)
      (holds_complete (is_word Aligned) (λ x e. rw e refl)
      (after_complete (skip_complete (is_word Aligned) (only_keyword Aligned)) (λ x f. tt) (λ _. last_complete (λ i. Some i) (int_complete i))))
  each false =
      follow_complete (λ x e. inr (inl e)) (λ x e. tt)
      (fails_complete (is_word Aligned) (λ x e. rw e refl)
      (holds_complete {fails = give None} (is_word Align) (λ x e. rw e refl)
      (after_complete (skip_complete (is_word Align) (only_keyword Align)) (λ x f. tt) (λ _. last_complete (λ i. Some i) (int_complete i)))))
aligned_complete None =
    follow_complete (λ x e. inr (inr e)) (λ x e. e)
    (fails_complete (is_word Aligned) (λ x e. rw e refl)
    (fails_complete (is_word Align) (λ x e. rw e refl) (give_complete None)))

ends_address : (x : Option Lexeme) → AfterAddress x → Ends 0 x
ends_address x (inl e) = rw e (record { no_more = refl; no_infix = λ op is. absurd cc })
ends_address x (inr (inl e)) = rw e (record { no_more = refl; no_infix = λ op is. absurd cc })
ends_address x (inr (inr e)) = rw e (record { no_more = refl; no_infix = λ op is. absurd cc })

-- ---- expressions, where each form without an operator between operands is read whole

-- where an expression goes on with an operator, it is that operator's left operand
pub record EndsFor (level : ℕ) (form : ExprForm) (x : Option Lexeme) : Type 0 where
  pub no_more : NoMore x
  pub goes_on : (op : InfixOperator) → next_infix x ≡ Some op → (infix_level op < level) ⊎ (left_level op ≤ level_of form)

-- a form is read as the left operand of what follows it
pub record Grown (fuel level token : ℕ) (form : ExprForm) (limited : Bool) (r after : Reading) : Type 0 where
  pub turns : ℕ
  pub enough : length after.left < turns
  pub reads : and_then (look (unary_by fuel (operand fuel)) limited (point r))
      (λ f p. climb (suc fuel) (operand fuel) level (record { token = token; form = f }) limited p)
      ≡ and_then (outcome limited form after) (λ f p. climb turns (operand fuel) level (record { token = token; form = f }) limited p)

pub record Spine (fuel : ℕ) (form : ExprForm) : Type 0 where
  pub moves : (r after : Reading) → expr_form form r ≡ Some after → Moves r after
  pub begins : (r after : Reading) → expr_form form r ≡ Some after → NoMore (next after.left) → Begins (next r.left)
  pub grown : (level : ℕ) (limited : Bool) (r after : Reading) → expr_form form r ≡ Some after → level ≤ level_of form →
      EndsFor level form (next after.left) → length r.left < suc fuel → passed limited r ≡ None → Grown fuel level r.taken form limited r after

spine_of_unary : (fuel : ℕ) (form : ExprForm) → Complete (suc fuel) (expr_form form) form (look (unary_by fuel (operand fuel))) Begins NoMore → Spine fuel form
spine_of_unary fuel form one = record {
  moves = one.moves;
  begins = one.begins;
  grown = λ level limited r after e le ends less fits.
      let m = one.moves r after e in
      record {
        turns = suc fuel;
        enough = (let s = m.shrinks in omega arith);
        reads = ap (λ o. and_then o (λ f p. climb (suc fuel) (operand fuel) level (record { token = r.taken; form = f }) limited p))
            (one.complete limited r after e ends.no_more less fits);
      };
}

-- ---- an operand

-- no operator of this level or above is next
no_tight : (level : ℕ) (form : ExprForm) (x : Option Lexeme) → Ends level x → infix_next level form x ≡ None
no_tight level form (Some (l.Symbol n)) ends = by (infix_in n) ends.no_infix where
  by : (o : Option InfixOperator) → ((op : InfixOperator) → o ≡ Some op → infix_level op < level) → tight level form o ≡ None
  by (Some op) low = let less = low op refl in let e : nat_le level (infix_level op) ≡ false = grind (arith, nat_tests) in rw (tight, e) refl
  by None low = refl
no_tight level form (Some _) ends = refl
no_tight level form None ends = refl

climbed : (turns fuel level : ℕ) (left : Expr) (p : Point) (limited : Bool) → infix_next level left.form (next p.left) ≡ None →
    climb (suc turns) (operand fuel) level left limited p ≡ Read left p
climbed turns fuel level left p limited e =
    ap (λ o. (elim o as (λ _. Reads Expr) [
      | Some op ↦ skip_operator >>= λ _. operand fuel (right_level op) >>= λ right. climb turns (operand fuel) level (joined left op right)
      | None ↦ give left
    ]) limited p) e

ended : (turns fuel level : ℕ) (left : Expr) (after : Reading) (limited : Bool) → length after.left < turns → Ends level (next after.left) →
    climb turns (operand fuel) level left limited (point after) ≡ Read left (point after)
ended zero fuel level left after limited less ends = absurd (omega arith)
ended (suc turns) fuel level left after limited less ends =
    climbed turns fuel level left (point after) limited (no_tight level left.form (next after.left) ends)

-- what an operand takes
pub record Operand (level : ℕ) (e : Expr) (r after : Reading) : Type 0 where
  pub high : level ≤ level_of e.form
  pub token : e.token ≡ r.taken
  pub form : expr_form e.form r ≡ Some after

high_enough : (test : Bool) (rest : Takes) (r after : Reading) →
    ((λ r. elim test as (λ _. Option Reading) [ true ↦ Some r | false ↦ None ]) ⨾ rest) r ≡ Some after → (test ≡ true) × (rest r ≡ Some after)
high_enough true rest r after e = (refl, e)
high_enough false rest r after e = absurd cc

pub operand_taken : (level : ℕ) (e : Expr) (r after : Reading) → operand_is level e r ≡ Some after → Operand level e r after
operand_taken level e r after is =
    let o = high_enough (nat_le level (level_of e.form)) (here_is e.token ⨾ expr_form e.form) r after is in
    let h = high_enough (e.token == r.taken) (expr_form e.form) r after o.1 in
    let test = o.0 in
    record { high = grind (arith, nat_tests); token = eqb-true e.token r.taken h.0; form = h.1 }

pub operand_complete : (fuel level : ℕ) (e : Expr) → ((n : ℕ) → Spine n e.form) → Complete fuel (operand_is level e) e (operand fuel level) Begins (Ends level)
operand_complete fuel level e spine = record {
  moves = λ r after is. (spine 0).moves r after (operand_taken level e r after is).form;
  begins = λ r after is ends. (spine 0).begins r after (operand_taken level e r after is).form ends.no_more;
  complete = λ limited r after is ends less fits. by fuel limited r after (operand_taken level e r after is) ends less fits;
}
  where
    by : (fuel : ℕ) (limited : Bool) (r after : Reading) → Operand level e r after → Ends level (next after.left) → length r.left < fuel →
        passed limited r ≡ None → operand fuel level limited (point r) ≡ outcome limited e after
    by zero limited r after taken ends less fits = absurd (omega arith)
    by (suc fuel) limited r after taken ends less fits =
        let g = (spine fuel).grown level limited r after taken.form taken.high
        (record { no_more = ends.no_more; goes_on = λ op is. inl (ends.no_infix op is) }) less fits in
        g.reads
        ∙ after_outcome limited e.form e after after (λ f p. climb g.turns (operand fuel) level (record { token = r.taken; form = f }) limited p)
        (record { shrinks = omega arith; stays = λ token is. is })
        (λ fits. ended g.turns fuel level (record { token = r.taken; form = e.form }) after limited g.enough ends
        ∙ ap (λ n. Read (record { token = n; form = e.form }) (point after)) (sym taken.token) ∙ sym (outcome_read limited e after fits))

-- ---- an operator between operands

infix_next_is : (level : ℕ) (left : ExprForm) (op : InfixOperator) → level ≤ infix_level op → left_level op ≤ level_of left →
    infix_next level left (Some (l.Symbol (symbol_number (infix_symbol op)))) ≡ Some op
infix_next_is level left op le high =
    let low_enough : nat_le level (infix_level op) ≡ true = grind (arith, nat_tests) in
    let left_enough : nat_le (left_level op) (level_of left) ≡ true = grind (arith, nat_tests) in
    ap (tight level left) (infix_is op).0 ∙ rw (tight, low_enough, left_enough) refl

infix_below_left : (op : InfixOperator) → infix_level op ≤ left_level op
infix_below_left op = grind (arith, nat_tests)

climbs : (turns fuel level : ℕ) (left : Expr) (op : InfixOperator) (p : Point) (limited : Bool) → infix_next level left.form (next p.left) ≡ Some op →
    climb (suc turns) (operand fuel) level left limited p
    ≡ (skip_operator >>= λ _. operand fuel (right_level op) >>= λ right. climb turns (operand fuel) level (joined left op right)) limited p
climbs turns fuel level left op p limited e =
    ap (λ o. (elim o as (λ _. Reads Expr) [
      | Some op ↦ skip_operator >>= λ _. operand fuel (right_level op) >>= λ right. climb turns (operand fuel) level (joined left op right)
      | None ↦ give left
    ]) limited p) e

-- what an infix form takes: the left operand, the operator and the right operand
pub record Joined (left : Expr) (op : InfixOperator) (right : Expr) (r after : Reading) : Type 0 where
  pub between : Reading
  pub past_operator : Reading
  pub left_taken : Operand (left_level op) left r between
  pub operator_taken : operator_is (symbol_is (infix_symbol op)) between ≡ Some past_operator
  pub right_taken : operand_is (right_level op) right past_operator ≡ Some after

joined_taken : (left : Expr) (op : InfixOperator) (right : Expr) (r after : Reading) → expr_form (Infix left op right) r ≡ Some after →
    Joined left op right r after
joined_taken left op right r after e =
    let f : (operand_is (left_level op) left ⨾ operator_is (symbol_is (infix_symbol op)) ⨾ operand_is (right_level op) right) r ≡ Some after =
    ap (λ t. t r) (sym (form_of_infix left op right)) ∙ e
    in
    let s = both (operand_is (left_level op) left) (operator_is (symbol_is (infix_symbol op)) ⨾ operand_is (right_level op) right) r after f in
    let t = both (operator_is (symbol_is (infix_symbol op))) (operand_is (right_level op) right) s.between after s.second in
    record {
      between = s.between;
      past_operator = t.between;
      left_taken = operand_taken (left_level op) left r s.between s.first;
      operator_taken = t.first;
      right_taken = t.second;
    }

the_operator : {fuel : ℕ} (op : InfixOperator) →
    Complete fuel (operator_is (symbol_is (infix_symbol op))) tt skip_operator (Next (l.Symbol (symbol_number (infix_symbol op)))) Anything
the_operator op = operator_complete (is_sign (infix_symbol op)) (only_symbol (infix_symbol op))

operator_fewer : (op : InfixOperator) → Strict (operator_is (symbol_is (infix_symbol op)))
operator_fewer op = operator_strict (only_symbol (infix_symbol op))

module _ (left : Expr) (op : InfixOperator) (right : Expr) (left_spine : (n : ℕ) → Spine n left.form) (right_spine : (n : ℕ) → Spine n right.form)
    (fuel : ℕ) where
  right_read : Complete fuel (operand_is (right_level op) right) right (operand fuel (right_level op)) Begins (Ends (right_level op))
  right_read = operand_complete fuel (right_level op) right right_spine

  -- from the operator on
  from_operator : (level token turns : ℕ) (limited : Bool) (r after : Reading) (j : Joined left op right r after) → token ≡ left.token →
      level ≤ infix_level op → Ends (right_level op) (next after.left) → length j.past_operator.left < fuel → passed limited j.between ≡ None →
      climb (suc turns) (operand fuel) level (record { token = token; form = left.form }) limited (point j.between)
      ≡ and_then (outcome limited (Infix left op right) after) (λ f p. climb turns (operand fuel) level (record { token = token; form = f }) limited p)
  from_operator level token turns limited r after j same le ends less fits =
      let l : Expr = record { token = token; form = left.form } in
      let whole : ExprForm → Point → Answer Expr = λ f p. climb turns (operand fuel) level (record { token = token; form = f }) limited p in
      let one : Expr → Point → Answer Expr = λ right p. climb turns (operand fuel) level (joined l op right) limited p in
      let rest : Unit {0} → Point → Answer Expr = λ _ p. and_then (operand fuel (right_level op) limited p) one in
      let answer : Answer Expr = and_then (outcome limited (Infix left op right) after) whole in
      let stops : (t : ℕ) → passed limited after ≡ Some t → answer ≡ Stopped TooDeep t =
      λ t e. ap (λ o. and_then o whole) (outcome_stopped limited (Infix left op right) after t e)
      in
      let symbol_next = (the_operator {fuel = 0} op).begins j.between j.past_operator j.operator_taken tt in
      climbs turns fuel level l op (point j.between) limited
      (ap (infix_next level left.form) symbol_next ∙ infix_next_is level left.form op le j.left_taken.high)
      ∙ ap (λ o. and_then o rest)
      ((the_operator {fuel = suc (length j.between.left)} op).complete limited j.between j.past_operator j.operator_taken tt (omega arith) fits)
      ∙ after_outcome_if limited tt j.past_operator after rest answer (right_read.moves j.past_operator after j.right_taken) stops
      (λ fits. ap (λ o. and_then o one) (right_read.complete limited j.past_operator after j.right_taken ends less fits)
      ∙ after_outcome_if limited right after after one answer (record { shrinks = omega arith; stays = λ t e. e }) stops
      (λ fits. ap (λ n. climb turns (operand fuel) level (record { token = token; form = Infix (record { token = n; form = left.form }) op right }) limited (point after)) same
      ∙ sym (ap (λ o. and_then o whole) (outcome_read limited (Infix left op right) after fits))))

  infix_ends : (level : ℕ) (x : Option Lexeme) → level ≤ infix_level op → EndsFor level (Infix left op right) x → Ends (right_level op) x
  infix_ends level x le ends = record { no_more = ends.no_more; no_infix = λ other is. by other (ends.goes_on other is) } where
    by : (other : InfixOperator) → (infix_level other < level) ⊎ (left_level other ≤ level_of (Infix left op right)) → infix_level other < right_level op
    by other (inl less) = omega arith
    by other (inr le') =
        let e : level_of (Infix left op right) ≡ infix_level op = level_of_infix left op right in
        let b = infix_below_left other in
        omega arith

  left_ends : (level : ℕ) (between past_operator : Reading) → operator_is (symbol_is (infix_symbol op)) between ≡ Some past_operator →
      left_level op ≤ level_of left.form → EndsFor level left.form (next between.left)
  left_ends level between past_operator taken high =
      let symbol_next = (the_operator {fuel = 0} op).begins between past_operator taken tt in
      record {
        no_more = rw symbol_next (infix_is op).1;
        goes_on = λ other is.
            let same : other ≡ op = some_is (sym (infix_is op).0 ∙ ap next_infix (sym symbol_next) ∙ is) in
            inr (rw same high);
      }

  moves_on : (r after : Reading) (j : Joined left op right r after) → Moves j.between after
  moves_on r after j =
      moves_trans ((the_operator {fuel = 0} op).moves j.between j.past_operator j.operator_taken) (right_read.moves j.past_operator after j.right_taken)

  infix_grown : (level : ℕ) (limited : Bool) (r after : Reading) (j : Joined left op right r after) → level ≤ infix_level op →
      EndsFor level (Infix left op right) (next after.left) → length r.left < suc fuel → passed limited r ≡ None → (turns : ℕ) →
      length j.between.left < turns →
      and_then (look (unary_by fuel (operand fuel)) limited (point r))
      (λ f p. climb (suc fuel) (operand fuel) level (record { token = r.taken; form = f }) limited p)
      ≡ and_then (outcome limited left.form j.between) (λ f p. climb turns (operand fuel) level (record { token = r.taken; form = f }) limited p) →
      Grown fuel level r.taken (Infix left op right) limited r after
  infix_grown level limited r after j le ends less fits zero enough reads = absurd (omega arith)
  infix_grown level limited r after j le ends less fits (suc turns) enough reads =
      let m1 = ((left_spine 0).moves r j.between j.left_taken.form).shrinks in
      let m2 = (operator_fewer op).strict j.between j.past_operator j.operator_taken in
      let m3 = (right_read.moves j.past_operator after j.right_taken).shrinks in
      let whole : ExprForm → Point → Answer Expr = λ f p. climb turns (operand fuel) level (record { token = r.taken; form = f }) limited p in
      record {
        turns = turns;
        enough = omega arith;
        reads = reads
            ∙ after_outcome_if limited left.form j.between after
            (λ f p. climb (suc turns) (operand fuel) level (record { token = r.taken; form = f }) limited p)
            (and_then (outcome limited (Infix left op right) after) whole) (moves_on r after j)
            (λ t e. ap (λ o. and_then o whole) (outcome_stopped limited (Infix left op right) after t e))
            (λ fits. from_operator level r.taken turns limited r after j (sym j.left_taken.token) le (infix_ends level (next after.left) le ends)
            (omega arith) fits);
      }

  pub infix_spine : Spine fuel (Infix left op right)
  infix_spine = record {
    moves = λ r after e.
        let j = joined_taken left op right r after e in
        moves_trans ((left_spine 0).moves r j.between j.left_taken.form) (moves_on r after j);
    begins = λ r after e f.
        let j = joined_taken left op right r after e in
        (left_spine 0).begins r j.between j.left_taken.form (left_ends 0 j.between j.past_operator j.operator_taken j.left_taken.high).no_more;
    grown = λ level limited r after e le ends less fits.
        let j = joined_taken left op right r after e in
        let low : level ≤ infix_level op = rw (level_of_infix left op right) at le in
        let b = infix_below_left op in
        let h = j.left_taken.high in
        let g = (left_spine fuel).grown level limited r j.between j.left_taken.form (omega arith)
        (left_ends level j.between j.past_operator j.operator_taken j.left_taken.high) less fits
        in
        infix_grown level limited r after j low ends less fits g.turns g.enough g.reads;
  }

-- ---- the forms without an operator between operands

free : (p : Takes) (r : Reading) → (here_is r.taken ⨾ p) r ≡ p r
free p r = rw (◌⨾◌, here_is, same_number r.taken) refl

-- a tree may be told the number of the next token
free_complete : {A : Type 0} {fuel : ℕ} {p : Takes} {a : A} {reads : Reads A} {first follow : Option Lexeme → Type 0} →
    ((token : ℕ) → Complete fuel (here_is token ⨾ p) a reads first follow) → Complete fuel p a reads first follow
free_complete {p = p} each = by_taken (λ token. here_is token ⨾ p) (λ r after e. (r.taken, free p r ∙ e)) each

module _ (fuel : ℕ) where
  abbrev Unary : ExprForm → Type 0
  Unary form = Complete (suc fuel) (expr_form form) form (look (unary_by fuel (operand fuel))) Begins NoMore

  no_square : (x : Option Lexeme) → NoMore x → passes (is_sign OpenSquare) x ≡ false
  no_square (Some (l.Symbol n)) e = (or_parts (symbol_number Colons == n) (symbol_number OpenSquare == n) e).1
  no_square (Some _) e = refl
  no_square None e = refl

  literal_unary : (n : Number) (width : Option TypeName) → Unary (Prim (Literal n width))
  literal_unary (number.Int value) width =
      follow_complete (λ x e. rw e refl) (λ x f. f)
      (at_complete (unary_by fuel (operand fuel)) (l.Int value) (last_complete (λ p. Prim p) (literal_complete (number.Int value) width)))
  literal_unary (number.Char byte) width =
      follow_complete (λ x e. rw e refl) (λ x f. f)
      (at_complete (unary_by fuel (operand fuel)) (l.Char byte) (last_complete (λ p. Prim p) (literal_complete (number.Char byte) width)))

  named_by : (bytes : List ℕ) (token_ : ℕ) →
      Complete (suc fuel) ((here_is token_ ⨾ token (is_name bytes)) ⨾ nothing) (Prim (NameOf bytes)) (name_or_memory (operand fuel)) (Next (l.Name bytes)) NoMore
  named_by bytes token_ =
      after_complete {b = λ i. Prim (NameOf i.name)} (ident_complete (record { name = bytes; token = token_ })) (λ x f. tt)
      (λ i. fails_complete (is_sign OpenSquare) no_square (give_complete (Prim (NameOf i.name))))

  name_unary : (bytes : List ℕ) → Unary (Prim (NameOf bytes))
  name_unary bytes =
      follow_complete (λ x e. rw e refl) (λ x f. f)
      (at_complete (unary_by fuel (operand fuel)) (l.Name bytes)
      (free_complete (λ t. same_complete (sym (takes_nothing (here_is t ⨾ token (is_name bytes)))) (named_by bytes t))))

  module _ (e : Expr) (spine : (n : ℕ) → Spine n e.form) where
    pub bracketed_complete : Complete (suc fuel) (prim_form (Bracketed e)) (Bracketed e) (bracketed (operand fuel)) (Next (l.Symbol (symbol_number Open))) Anything
    unfolding opened
    bracketed_complete =
        last_complete (λ e. Bracketed e) (in_brackets_complete Open Close (λ x is. rw is (record { no_more = refl; no_infix = λ op is. absurd cc }))
        (operand_complete fuel 0 e spine))

    bracketed_unary : Unary (Prim (Bracketed e))
    bracketed_unary =
        follow_complete (λ x e. rw e refl) (λ x f. tt)
        (at_complete (unary_by fuel (operand fuel)) (l.Symbol (symbol_number Open)) (last_complete (λ p. Prim p) bracketed_complete))

    any_ends : (x : Option Lexeme) → NoMore x → Ends unary_level x
    any_ends x none = record { no_more = none; no_infix = λ op is. let s = small_level op in omega arith }

    prefix_complete : (op : PrefixOperator) →
        Complete (suc fuel) (expr_form (Prefix op e)) (Prefix op e) (prefixed (operand fuel) (Some op)) (Next (l.Symbol (symbol_number (prefix_symbol op)))) NoMore
    unfolding opened
    prefix_complete op =
        fewer_complete (operator_strict (only_symbol (prefix_symbol op)))
        (operator_complete (is_sign (prefix_symbol op)) (only_symbol (prefix_symbol op))) (λ x f. tt)
        (λ _. last_complete (λ e. Prefix op e) (follow_complete (λ x f. f) any_ends (operand_complete fuel unary_level e spine)))

    prefix_unary : (op : PrefixOperator) → Unary (Prefix op e)
    prefix_unary Negate =
        follow_complete (λ x e. rw e refl) (λ x f. f) (at_complete (unary_by fuel (operand fuel)) (l.Symbol (symbol_number (prefix_symbol Negate))) (prefix_complete Negate))
    prefix_unary Complement =
        follow_complete (λ x e. rw e refl) (λ x f. f)
        (at_complete (unary_by fuel (operand fuel)) (l.Symbol (symbol_number (prefix_symbol Complement))) (prefix_complete Complement))

    located_complete : (bytes : Option Int) →
        Complete fuel (operand_is 0 e ⨾ optional_is aligned_by bytes) (e, bytes) (located (operand fuel)) Begins (Next (l.Symbol (symbol_number CloseSquare)))
    located_complete bytes =
        after_complete {b = λ a. (a, bytes)} (operand_complete fuel 0 e spine) ends_address (λ a. last_complete (λ b. (a, b)) (aligned_complete bytes))

    pub memory_complete : (width : TypeName) (bytes : Option Int) →
        Complete (suc fuel) (square_is (operand_is 0 e ⨾ optional_is aligned_by bytes)) (roll-Memory (record { width = width; address = e; aligned = bytes }))
        (memory (operand fuel) width) (Next (l.Symbol (symbol_number OpenSquare))) Anything
    memory_complete width bytes =
        last_complete (λ place. roll-Memory (record { width = width; address = place.0; aligned = place.1 }))
        (in_brackets_complete OpenSquare CloseSquare (λ x is. is) (located_complete bytes))

    memory_unary : (token_ : ℕ) (form : TypeForm) (bytes : Option Int) →
        Unary (InMemory (roll-Memory (record { width = record { token = token_; form = form }; address = e; aligned = bytes })))
    unfolding opened
    memory_unary token_ (Bits width) bytes =
        follow_complete (λ x is. rw is (ap is_some (width_in_is width))) (λ x f. tt)
        (at_complete (unary_by fuel (operand fuel)) (l.Word (keyword_number (width_word width)))
        (after_complete {b = λ t. InMemory (roll-Memory (record { width = t; address = e; aligned = bytes }))}
        (type_name_complete (record { token = token_; form = Bits width })) (λ x f. tt) (λ t. last_complete (λ m. InMemory m) (memory_complete t bytes))))
    memory_unary token_ (OfName name_) bytes =
        follow_complete (λ x is. rw is refl) (λ x f. tt)
        (at_complete (unary_by fuel (operand fuel)) (l.Name name_)
        (after_complete {b = λ i. InMemory (roll-Memory (record { width = named_type i; address = e; aligned = bytes }))}
        (ident_complete (record { name = name_; token = token_ })) (λ x f. tt)
        (λ i. holds_complete {fails = give (Prim (NameOf i.name))} (is_sign OpenSquare) (λ x is. rw is refl)
        (last_complete (λ m. InMemory m) (memory_complete (named_type i) bytes)))))

-- ---- the operands of an operator that is written by its name

pub expr_complete : (fuel : ℕ) (e : Expr) → ((n : ℕ) → Spine n e.form) → Complete fuel (grammar.expr e) e (operand fuel 0) Begins (Ends 0)
expr_complete fuel e spine = same_complete (sym (any_level e)) (operand_complete fuel 0 e spine)

pub ends_before : (s : Symbol) → more (l.Symbol (symbol_number s)) ≡ false → infix_in (symbol_number s) ≡ None → (x : Option Lexeme) →
    Next (l.Symbol (symbol_number s)) x → Ends 0 x
ends_before s no_more no_infix x e = rw e (record { no_more = no_more; no_infix = λ op is. absurd (no (infix_in (symbol_number s)) op no_infix is) })
  where
    no : (o : Option InfixOperator) (op : InfixOperator) → o ≡ None → o ≡ Some op → ⊥
    no o op e f = absurd cc

-- or a comma
pub ends_after : (s : Symbol) → more (l.Symbol (symbol_number s)) ≡ false → infix_in (symbol_number s) ≡ None → (x : Option Lexeme) →
    After (Next (l.Symbol (symbol_number s))) x → Ends 0 x
ends_after s no_more no_infix x (inl e) = ends_before Comma refl refl x e
ends_after s no_more no_infix x (inr e) = ends_before s no_more no_infix x e

operands : Parts begins_expression Begins (Ends 0) (Next (l.Symbol (symbol_number Close)))
operands = parts_before begins_expression Close refl refl (ends_after Close refl refl)

abbrev pub HasSpine : Expr → Type 0
HasSpine e = (n : ℕ) → Spine n e.form

each_expr : (fuel : ℕ) (es : List Expr) → Each HasSpine es → Each (λ e. Complete fuel (grammar.expr e) e (operand fuel 0) Begins (Ends 0)) es
each_expr fuel [] spines = tt
each_expr fuel (e ∷ es) spines = (expr_complete fuel e spines.0, each_expr fuel es spines.1)

operands_complete : (fuel : ℕ) (n : _) (row : Row_of-Expr n) → Each HasSpine (items-the_row-Expr n row) →
    Complete fuel (grammar.operand_list row ⨾ may_comma) (items-the_row-Expr n row) (listed fuel begins_expression (operand fuel 0)) Begins
    (Next (l.Symbol (symbol_number Close)))
operands_complete fuel n end_of-Expr spines = never_complete (λ r after e. absurd cc)
operands_complete fuel n (more_of-Expr {n = m} token_ f rest) spines =
    let e : Expr = record { token = token_; form = f } in
    let es : List Expr = items-the_row-Expr m rest in
    same_complete (row_operands n (more_of-Expr token_ f rest) e es may_comma refl)
    (list_complete (operand fuel 0) grammar.expr operands e es (each_expr fuel (e ∷ es) spines))

named_is : (bytes : List ℕ) (shape : _) (row : _) → Named bytes (items-the_row-Expr _ row) ≡ Named' bytes shape row
unfolding opened roll-ExprForm out-ExprForm Carrier.out
named_is bytes shape row = ap (λ es. Named bytes es) (sym (items_shown-the_row-Expr-1 shape row)) ∙ roll-out-ExprForm (Named' bytes shape row)

named_unary : (fuel : ℕ) (bytes : List ℕ) (shape : _) (row : _) → Each HasSpine (items-the_row-Expr _ row) → Unary fuel (Named' bytes shape row)
named_unary fuel bytes shape row spines =
    subst
    (λ f. Complete (suc fuel) (expr_form (Named' bytes shape row)) f (look (unary_by fuel (operand fuel))) Begins NoMore)
    (named_is bytes shape row)
    (follow_complete (λ x e. rw e refl) (λ x f. tt)
    (at_complete (unary_by fuel (operand fuel)) (l.Op bytes)
    (fewer_complete (operator_strict (only_operator bytes)) (operator_complete (is_operator bytes) (only_operator bytes)) (λ x f. tt)
    (λ _. last_complete (λ es. Named bytes es)
    (less_complete (omega arith) (in_brackets_complete Open Close (λ x e. e) (operands_complete fuel _ row spines)))))))

-- ---- every expression

mutual
  unfolding opened

  pub spine : (f : ExprForm) (fuel : ℕ) → Spine fuel f
  spine (Infix' a (more_of-Expr t f end_of-Expr) op b (more_of-Expr u g end_of-Expr)) fuel =
      infix_spine (record { token = t; form = f }) op (record { token = u; form = g }) (spine f) (spine g) fuel
  spine (Prefix' op a (more_of-Expr t f end_of-Expr)) fuel =
      spine_of_unary fuel _ (prefix_unary fuel (record { token = t; form = f }) (spine f) op)
  spine (Prim (Literal n width)) fuel = spine_of_unary fuel _ (literal_unary fuel n width)
  spine (Prim (NameOf bytes)) fuel = spine_of_unary fuel _ (name_unary fuel bytes)
  spine (Prim (Bracketed' a (more_of-Expr t f end_of-Expr))) fuel =
      spine_of_unary fuel _ (bracketed_unary fuel (record { token = t; form = f }) (spine f))
  spine (InMemory (Memory' width a (more_of-Expr t f end_of-Expr) bytes)) fuel =
      spine_of_unary fuel _ (memory_unary fuel (record { token = t; form = f }) (spine f) width.token width.form bytes)
  spine (Named' bytes shape row) fuel = spine_of_unary fuel _ (named_unary fuel bytes shape row (spines row))

  pub spines : {n : _} (row : Row_of-Expr n) → Each HasSpine (items-the_row-Expr n row)
  spines end_of-Expr = tt
  spines (more_of-Expr t f rest) = (spine f, spines rest)

pub whole_complete : (fuel : ℕ) (e : Expr) → Complete fuel (grammar.whole e) e (whole fuel) Begins (Ends 0)
whole_complete fuel e = outermost_complete (expr_complete fuel e (spine e.form))
