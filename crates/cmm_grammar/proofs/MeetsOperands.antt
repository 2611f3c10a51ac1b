-- Readers of operands and of whole expressions meet the grammar.
use Rattle.std.proofs.Common.{◌≡◌, ℕ, zero, suc, ◌≤◌, Bool, true, false, ◌==◌, nat_le, List, [], ◌∷◌, ◌++◌, Option, Some, None, refl, sym, ap, ◌∙◌, arith}
use Rattle.std.proofs.lemmas.Bool.Decides.{nat_tests}
use Rattle.cmm_lexer.specs.declared.piece.Lexeme.{Lexeme}
use Rattle.cmm_lexer.specs.declared.piece.Lexeme.TheVariants as l
use Rattle.cmm_lexer.specs.declared.symbol.Symbol.TheVariants.{OpenSquare}
use Rattle.cmm_ast.specs.declared.expression.TypeName.{TypeName}
use Rattle.cmm_ast.specs.declared.expression.Infix.{Infix as InfixOperator}
use Rattle.cmm_ast.specs.declared.expression.Prefix.{Prefix as PrefixOperator}
use Rattle.cmm_ast.specs.declared.expression.Prefix.TheVariants.{Negate, Complement}
use Rattle.cmm_ast.specs.declared.expression.Expr.{Expr}
use Rattle.cmm_ast.specs.declared.expression.ExprForm.{ExprForm}
use Rattle.cmm_ast.specs.declared.expression.ExprForm.TheVariants.{Infix, Prefix, Prim, Memory as InMemory, Named}
use Rattle.cmm_ast.specs.declared.expression.PrimForm.TheVariants.{Name as NameOf, Bracketed}
use Rattle.cmm_ast.specs.declared.expression.Memory.{roll-Memory}
use Rattle.cmm_grammar.specs.Taking.{Reading, Takes, ◌⨾◌, token, nothing, is_sign, is_name, is_operator, symbol as symbol_is, here as here_is, operator as operator_is, optional as optional_is, square as square_is}
use Rattle.cmm_grammar.specs.ExpressionGrammar as grammar
use Rattle.cmm_grammar.specs.ExpressionGrammar.{prefix_symbol, infix_symbol, left_level, right_level, unary_level, level_of, expr_form, prim_form, aligned_by}
use Rattle.cmm_grammar.specs.Reading.{Reads, ◌>>=◌, give, look, skip_operator, square, outermost}
use Rattle.cmm_grammar.specs.ExpressionReading.{prefix_in, bracketed, located, memory, named_type, name_or_memory, prefixed, unary_by, begins_expression, infix_next, joined, climb, operand, expr, whole, prim_by, prim, whole_prim, whole_memory}
use Rattle.cmm_grammar.proofs.Takings.{taken_then, takes_assoc, takes_nothing, put}
use Rattle.cmm_grammar.proofs.ExpressionForms.{opened, found, operand_is, unary_is, level_of_infix, form_of_infix, operands_are, operands_same, bound_by, any_level, grows, small_level, joined_same, at_least, bound_never}
use Rattle.cmm_grammar.proofs.StatementForms.{outer_type}
use Rattle.cmm_grammar.proofs.Tokens.{same_bytes}
use Rattle.cmm_grammar.proofs.Meets.{Led, Ends, Leads, LeadsAt, Meets, after_leads, whole_meets, give_leads, last_leads, made_leads, same_leads, meets_same, leads_same, never_leads, at_leads, look_leads, stop_leads, if_next_leads, leads_led}
use Rattle.cmm_grammar.proofs.MeetsTokens.{ends_token, skip_last_leads, operator_leads, here_meets, outermost_meets}
use Rattle.cmm_grammar.proofs.MeetsLists.{name_meets, ident_meets, round_meets, square_meets, list_meets}
use Rattle.cmm_grammar.proofs.MeetsExpressions.{type_name_meets, literal_meets, aligned_meets}

-- ---- where trees go on without the number of the first token

-- what goes on after the number of the first token goes on without it
here_dropped : (n : ℕ) (test : Bool) (f : Takes) (r q : Reading) → (n == r.taken) ≡ test → ((k : Takes) → ((here_is n ⨾ f) ⨾ k) r ≡ k q) → (k : Takes) → (f ⨾ k) r ≡ k q
here_dropped n true f r q e again k =
    sym (taken_then (here_is n) (f ⨾ k) r r (rw (here_is, e) refl)) ∙ ap (λ t. t r) (sym (takes_assoc (here_is n) f k)) ∙ again k
here_dropped n false f r q e again k =
    absurd (let none : ((here_is n ⨾ f) ⨾ nothing) r ≡ None = rw (◌⨾◌, here_is, e) refl in let some = sym none ∙ again nothing in cc)

led_dropped : {first free : Bool} (n : ℕ) (f : Takes) (was now : Option Lexeme) (r : Reading) (tokens : List Lexeme) (q : Reading) →
    Led first free was now (λ k. (here_is n ⨾ f) ⨾ k) r tokens q → Led first free was now (λ k. f ⨾ k) r tokens q
led_dropped n f was now r tokens q led = record {
  again = λ k rest may. here_dropped n (n == r.taken) f (put (tokens ++ rest) r) (put rest q) refl (λ k. led.again k rest may) k;
  quiet = led.quiet;
}

-- ---- primary expressions and words in memory

module _ (inner : ℕ → Reads Expr) (meets : Meets true true (inner 0) (operand_is 0)) where
  pub bracketed_meets : {first : Bool} → Meets first true (bracketed inner) prim_form
  unfolding opened
  bracketed_meets = whole_meets (last_leads Bracketed (round_meets meets) (λ e. refl))

  pub located_meets : Meets true true (located inner) (λ place. operand_is 0 place.0 ⨾ optional_is aligned_by place.1)
  located_meets = whole_meets (after_leads meets (λ address. last_leads _ aligned_meets (λ bytes. refl)))

  pub memory_leads : {first free : Bool} (width : TypeName) → Leads first free true (λ k. grammar.type_name width ⨾ k) (memory inner width) grammar.memory
  unfolding opened
  memory_leads width = last_leads _ (square_meets located_meets) (λ place. refl)

  -- a name, or the word in memory whose type it names
  name_or_memory_meets : {first : Bool} → Meets first true (name_or_memory inner) unary_is
  name_or_memory_meets = whole_meets (after_leads ident_meets (λ i.
      if_next_leads (is_sign OpenSquare) (made_leads (λ m. InMemory m) (memory_leads (named_type i)) (λ m. refl))
      (leads_led (led_dropped i.token (token (is_name i.name))) (give_leads (Prim (NameOf i.name)) (sym (takes_nothing (token (is_name i.name))))))))

-- ---- operands

module _ (inner : ℕ → Reads Expr) (meets : (level : ℕ) → level ≤ unary_level → Meets true true (inner level) (operand_is level)) where
  prefixed_leads : {first : Bool} (n : ℕ) (o : Option PrefixOperator) → prefix_in n ≡ o →
      LeadsAt (Some (l.Symbol n)) first first true (λ k. k) (prefixed inner o) unary_is
  unfolding opened
  prefixed_leads n (Some op) e =
      operator_leads (is_sign (prefix_symbol op))
      (found (λ op. is_sign (prefix_symbol op) (l.Symbol n)) (Negate ∷ Complement ∷ []) op e)
      (λ _. last_leads (λ x. Prefix op x) (meets unary_level (omega arith)) (λ x. refl))
  prefixed_leads n None e = at_leads (last_leads (λ x. Prim x) (bracketed_meets inner (meets 0 (omega arith))) (λ x. refl))

  pub unary_meets : {first : Bool} (turns : ℕ) → Meets first true (look (unary_by turns inner)) unary_is
  unary_meets {first} turns = whole_meets (look_leads some by) where
    -- a name is one
    some : Ends first first true (λ k. k) unary_is
    some = ends_token (is_name []) (l.Name []) refl (λ e. refl) (give_leads (Prim (NameOf [])) (sym (takes_nothing (token (is_name []))))).ends

    by : (x : Option Lexeme) → LeadsAt x first first true (λ k. k) (unary_by turns inner x) unary_is
    by (Some (l.Name bytes)) = at_leads (same_leads (name_or_memory_meets inner (meets 0 (omega arith))) (λ f. refl))
    by (Some (l.Op bytes)) =
        operator_leads (is_operator bytes) (same_bytes bytes)
        (λ _. last_leads (λ es. Named bytes es)
        (round_meets (list_meets (meets_same (λ e. sym (any_level e)) (meets 0 (omega arith))) operands_are operands_same begins_expression turns)) (λ es. refl))
    by (Some (l.Symbol n)) = prefixed_leads n (prefix_in n) refl
    by (Some (l.Word n)) =
        at_leads (after_leads type_name_meets (λ width. made_leads (λ m. InMemory m) (memory_leads inner (meets 0 (omega arith)) width) (λ m. refl)))
    by _ = at_leads (last_leads (λ x. Prim x) literal_meets (λ x. refl))

-- ---- operators between operands

leads_at_is : {B : Type 0} {x y : Option Lexeme} {first free later : Bool} {so_far : Takes → Takes} {reads : Reads B} {takes : B → Takes} → x ≡ y →
    LeadsAt y first free later so_far reads takes → LeadsAt x first free later so_far reads takes
leads_at_is e it = rw e it

never_here : (o : Option Reading) → elim o as (λ _. Option Reading) [ Some x ↦ None | None ↦ None ] ≡ None
never_here (Some x) = refl
never_here None = refl

module _ (inner : ℕ → Reads Expr) (meets : (level : ℕ) → level ≤ unary_level → Meets true true (inner level) (operand_is level)) where
  -- the operand ends here
  done_leads : {first : Bool} (level : ℕ) (left : Expr) → nat_le level (level_of left.form) ≡ true →
      Leads first true true (λ k. here_is left.token ⨾ expr_form left.form ⨾ k) (give left) (operand_is level)
  done_leads level left high =
      give_leads left (at_least level left high ∙ ap (λ t. here_is left.token ⨾ t) (sym (takes_nothing (expr_form left.form))))

  climb_leads : {first : Bool} (turns level : ℕ) (left : Expr) → nat_le level (level_of left.form) ≡ true →
      Leads first true true (λ k. here_is left.token ⨾ expr_form left.form ⨾ k) (climb turns inner level left) (operand_is level)
  climb_leads zero level left high = stop_leads (done_leads level left high).ends
  climb_leads (suc turns) level left high =
      look_leads (done_leads level left high).ends (λ x. climb_at turns level left high (climb_leads turns level) x (infix_next level left.form x) refl)
    where
      climb_at : {first : Bool} (turns level : ℕ) (left : Expr) → nat_le level (level_of left.form) ≡ true →
          ((left : Expr) → nat_le level (level_of left.form) ≡ true →
          Leads first true true (λ k. here_is left.token ⨾ expr_form left.form ⨾ k) (climb turns inner level left) (operand_is level)) → (x : Option Lexeme) (o : Option InfixOperator) →
          infix_next level left.form x ≡ o →
          LeadsAt x first true true (λ k. here_is left.token ⨾ expr_form left.form ⨾ k)
          (elim o as (λ _. Reads Expr) [
            | Some op ↦ skip_operator >>= λ _. inner (right_level op) >>= λ right. climb turns inner level (joined left op right)
            | None ↦ give left
          ]) (operand_is level)
      climb_at turns level left high later x None e = at_leads (done_leads level left high)
      climb_at turns level left high later x (Some op) e =
          let g = grows level left.form x op e in
          leads_at_is g.is_next
          (operator_leads (is_sign (infix_symbol op)) g.passed
          (λ _. after_leads (meets (right_level op) (small_level op)) (λ right.
          leads_same
          (λ k. joined_same left.token (expr_form left.form) (operator_is (symbol_is (infix_symbol op))) (operand_is (right_level op) right) k
          (expr_form (Infix left op right)) (operand_is (left_level op) left) (form_of_infix left op right)
          (at_least (left_level op) left g.left_high))
          (later (joined left op right) (rw (level_of_infix left op right) g.high)))))

  start_leads : {first : Bool} (turns level token : ℕ) (form : ExprForm) → level ≤ unary_level → (test : Bool) → nat_le unary_level (level_of form) ≡ test →
      Leads first true true (λ k. here_is token ⨾ unary_is form ⨾ k) (climb turns inner level (record { token = token; form = form })) (operand_is level)
  start_leads turns level token form le true e =
      leads_same (λ k. ap (λ t. here_is token ⨾ t ⨾ k) (bound_by (nat_le unary_level (level_of form)) (expr_form form) e))
      (climb_leads turns level (record { token = token; form = form }) (grind (arith, nat_tests)))
  start_leads turns level token form le false e =
      never_leads (λ k r. ap (λ t. (here_is token ⨾ t ⨾ k) r) (bound_never (nat_le unary_level (level_of form)) (expr_form form) e) ∙ never_here (here_is token r))

pub operand_meets : {first : Bool} (fuel level : ℕ) → level ≤ unary_level → Meets first true (operand fuel level) (operand_is level)
operand_meets {first} zero level le = whole_meets (stop_leads (some level le)) where
  -- a name is one
  some : (level : ℕ) → level ≤ unary_level → Ends first first true (λ k. k) (operand_is level)
  some level le =
      (after_leads here_meets (λ token. last_leads (λ bytes. record { token = token; form = Prim (NameOf bytes) }) name_meets
      (λ bytes. at_least level (record { token = token; form = Prim (NameOf bytes) }) (grind (arith, nat_tests))))).ends
operand_meets (suc fuel) level le =
    whole_meets (after_leads here_meets (λ token.
    after_leads (unary_meets (operand fuel) (λ level le. operand_meets fuel level le) fuel) (λ form.
    start_leads (operand fuel) (λ level le. operand_meets fuel level le) (suc fuel) level token form le (nat_le unary_level (level_of form)) refl)))

pub expr_meets : {first : Bool} (fuel : ℕ) → Meets first true (expr fuel) grammar.expr
expr_meets fuel = meets_same (λ e. sym (any_level e)) (operand_meets fuel 0 (omega arith))

pub whole_expr_meets : {first : Bool} (fuel : ℕ) → Meets first true (whole fuel) grammar.whole
whole_expr_meets fuel = outermost_meets (expr_meets fuel)

-- ---- primary expressions and words in memory that stand in no other expression

prim_form_meets : {first : Bool} (fuel : ℕ) → Meets first true (look (prim_by (operand fuel))) prim_form
prim_form_meets {first} fuel = whole_meets (look_leads some by) where
  some : Ends first first true (λ k. k) prim_form
  some = ends_token (is_name []) (l.Name []) refl (λ e. refl) (give_leads (NameOf []) (sym (takes_nothing (token (is_name []))))).ends

  by : (x : Option Lexeme) → LeadsAt x first first true (λ k. k) (prim_by (operand fuel) x) prim_form
  by (Some (l.Name bytes)) = skip_last_leads (is_name bytes) (NameOf bytes) (same_bytes bytes) refl
  by (Some (l.Symbol n)) = at_leads (same_leads (bracketed_meets (operand fuel) (operand_meets fuel 0 (omega arith))) (λ f. refl))
  by _ = at_leads (same_leads literal_meets (λ f. refl))

pub prim_meets : {first : Bool} (fuel : ℕ) → Meets first true (prim fuel) grammar.prim
prim_meets fuel = whole_meets (after_leads here_meets (λ token. last_leads _ (prim_form_meets fuel) (λ f. refl)))

pub whole_prim_meets : {first : Bool} (fuel : ℕ) → Meets first true (whole_prim fuel) grammar.whole_prim
whole_prim_meets fuel = outermost_meets (prim_meets fuel)

-- the word in memory of a type that was read
pub whole_memory_leads : {first free : Bool} (fuel : ℕ) (width : TypeName) →
    Leads first free true (λ k. grammar.type_name width ⨾ k) (whole_memory fuel width) grammar.whole_memory
unfolding opened
whole_memory_leads fuel width =
    last_leads {reads = outermost (square (located (operand fuel)))} (λ place. roll-Memory (record { width = width; address = place.0; aligned = place.1 }))
    (outermost_meets (square_meets (located_meets (operand fuel) (operand_meets fuel 0 (omega arith)))))
    (λ place. outer_type width (square_is (operand_is 0 place.0 ⨾ optional_is aligned_by place.1)))
