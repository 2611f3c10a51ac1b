-- Readers of data, sections and units meet the grammar; and what a unit's reader says where it stops.
use Rattle.std.proofs.Common.{◌≡◌, ℕ, zero, suc, ◌-◌, ◌≤◌, ◌==◌, inr, Bool, true, false, List, [], ◌++◌, length, take, Option, Some, None, refl, sym, ap, ◌∙◌, arith}
use Rattle.cmm_lexer.specs.declared.piece.Lexeme.{Lexeme}
use Rattle.cmm_ast.specs.declared.token.Ident.{Ident}
use Rattle.cmm_lexer.specs.declared.keyword.Keyword.TheVariants.{Align, Section as SectionWord, Span}
use Rattle.cmm_lexer.specs.declared.symbol.Symbol.TheVariants.{Colon, CloseBrace, Semicolon}
use Rattle.cmm_ast.specs.declared.expression.TypeName.{TypeName}
use Rattle.cmm_ast.specs.declared.unit.Unit.{Unit as UnitTree}
use Rattle.cmm_ast.specs.declared.unit.TopLevel.{TopLevel}
use Rattle.cmm_ast.specs.declared.unit.TopLevel.TheVariants as tops
use Rattle.cmm_ast.specs.declared.unit.Item.{Item}
use Rattle.cmm_ast.specs.declared.unit.Item.TheVariants as items
use Rattle.cmm_ast.specs.declared.unit.DatumForm.TheVariants as data_forms
use Rattle.cmm_ast.specs.declared.unit.Count.TheVariants as counts
use Rattle.cmm_ast.specs.declared.unit.Initial.TheVariants as initials
use Rattle.cmm_grammar.specs.Taking.{Reading, Takes, ◌⨾◌, nothing, token as token_is, is_name, here as here_is, symbol as symbol_is, optional as optional_is, braces as braces_is, many as many_is}
use Rattle.cmm_grammar.specs.ExpressionGrammar as grammar
use Rattle.cmm_grammar.specs.UnitGrammar as units
use Rattle.cmm_grammar.specs.Derivation.{at_start, Derives, Begins}
use Rattle.cmm_grammar.specs.Reading.{Fault, Unexpected, TooDeep, Stopped, Reads, next}
use Rattle.cmm_grammar.specs.ReadingLaws.{point, Answers}
use Rattle.cmm_grammar.specs.inside.Duties.{reach, Begun}
use Rattle.cmm_grammar.specs.ExpressionReading.{named_type, begins_expression}
use Rattle.cmm_grammar.specs.PartReading.{is_any_name, is_any_text}
use Rattle.cmm_grammar.specs.DeclarationReading.{is_other}
use Rattle.cmm_grammar.specs.UnitReading.{count_in, count_of, count, initial, values_of, named_datum, datum_at, named_item, align_item, item_by, flat_item, in_braces, span, item, section, top_level, any_token, parts}
use Rattle.cmm_grammar.specs.StatementReading.{block}
use Rattle.cmm_grammar.specs.UnitLaws.{whole_unit, WhatIsOverIsTooDeep}
use Rattle.cmm_grammar.proofs.Takings.{taken_then, takes_nothing, put}
use Rattle.cmm_grammar.proofs.UnitForms.{count_of_is, span_is}
use Rattle.cmm_grammar.proofs.Meets.{Led, Ended, Leads, Meets, led_taken, after_leads, whole_meets, give_leads, last_leads, made_leads, same_leads, stop_leads, if_next_leads, is_viable}
use Rattle.cmm_grammar.proofs.MeetsTokens.{here_meets}
use Rattle.cmm_grammar.proofs.MeetsLists.{symbol_meets, keyword_meets, ident_meets, text_meets, int_meets, if_symbol_leads, square_meets, braces_meets, many_meets, listed_meets}
use Rattle.cmm_grammar.proofs.MeetsDeclarations.{bits_meets, decl_meets}
use Rattle.cmm_grammar.proofs.MeetsProcedures.{procedure_leads, proc_meets}
use Rattle.cmm_grammar.proofs.MeetsOperands.{whole_expr_meets, whole_prim_meets}
use Rattle.cmm_grammar.proofs.MeetsBlocks.{block_meets}

-- ---- a tree that begins with what was read of it

module _ (n : ℕ) (part : Takes) where
  -- the first token has the number that was read
  numbered : {first free : Bool} {was now : Option Lexeme} {r q : Reading} {xs : List Lexeme} → Led first free was now (λ k. (here_is n ⨾ part) ⨾ k) r xs q →
      (n == r.taken) ≡ true
  numbered {r = r} {q = q} {xs = xs} led =
      by (n == r.taken) (put (xs ++ []) r) (put [] q) (led.again nothing [] (inr (λ e. refl)))
    where
      by : (test : Bool) (r after : Reading) →
          elim (elim (elim test as (λ _. Option Reading) [ true ↦ Some r | false ↦ None ]) as (λ _. Option Reading) [ Some x ↦ part x | None ↦ None ])
          as (λ _. Option Reading) [ Some x ↦ Some x | None ↦ None ]
          ≡ Some after →
          test ≡ true
      by true r after e = refl
      by false r after e = absurd cc

  led_begun : {first later : Bool} {was now : Option Lexeme} (is : Takes) {r q : Reading} {xs : List Lexeme} → (n == r.taken) ≡ true →
      Led first later was now (λ k. is ⨾ k) r xs q → Led first later was now (λ k. (here_is n ⨾ is) ⨾ k) r xs q
  led_begun is {r = r} {q = q} {xs = xs} same led = record {
    again = λ k rest may.
        taken_then (here_is n ⨾ is) k (put (xs ++ rest) r) (put rest q)
        (taken_then (here_is n) is (put (xs ++ rest) r) (put (xs ++ rest) r) (rw (here_is, same) refl) ∙ led_taken is led rest may);
    quiet = led.quiet;
  }

  begun_leads : {A : Type 0} {first free later : Bool} {reads : Reads A} {is : A → Takes} → Leads first free later (λ k. (here_is n ⨾ part) ⨾ k) reads is →
      Leads first free later (λ k. (here_is n ⨾ part) ⨾ k) reads (λ a. here_is n ⨾ is a)
  begun_leads {A = A} {first = first} {later = later} {is = is} it = record {
    reached = λ r p before a after e.
        let there = it.reached r p before a after e in
        record { tokens = there.tokens; left = there.left; taken = there.taken; led = led_begun (is a) (numbered before.led) there.led };
    ends = record { ends = λ was now r tokens q led. ended was r tokens q.over (numbered led) (it.ends.ends was now r tokens q led) };
    halts = λ r p before fault token e.
        let h = it.halts r p before fault token e in
        record {
          front = h.front;
          back = h.back;
          split = h.split;
          reaches = h.reaches;
          ended = ended (next r.left) r h.front _ (numbered before.led) h.ended;
        };
    local = it.local;
  }
    where
      ended : (was : Option Lexeme) (r : Reading) (xs : List Lexeme) (over : Option ℕ) → (n == r.taken) ≡ true → Ended first later was is r xs over →
          Ended first later was (λ a. here_is n ⨾ is a) r xs over
      ended was r xs over same e = record { tree = e.tree; more = e.more; after = e.after; led = led_begun (is e.tree) same e.led; stays = e.stays }

-- ---- data

count_meets : (fuel : ℕ) → Meets true true (count fuel) units.count
count_meets fuel =
    whole_meets (if_next_leads _ (last_leads count_of (square_meets inside) count_of_is) (give_leads counts.One refl))
  where
    inside : Meets true true (count_in fuel) (optional_is grammar.whole)
    inside = whole_meets (if_next_leads _ (give_leads None refl) (last_leads (λ e. Some e) (whole_expr_meets fuel) (λ e. refl)))

initial_meets : (fuel : ℕ) → Meets true true (initial fuel) units.initial
initial_meets fuel =
    whole_meets
    (if_next_leads is_any_text (last_leads initials.Text text_meets (λ t. refl))
    (if_next_leads _
    (last_leads initials.Values (braces_meets (listed_meets (whole_expr_meets fuel) begins_expression fuel)) (λ found. refl))
    (give_leads initials.Zeros refl)))

values_leads : (fuel : ℕ) (width : TypeName) → Leads true true true (λ k. grammar.type_name width ⨾ k) (values_of fuel width) units.datum_form
values_leads fuel width =
    after_leads (count_meets fuel) (λ how_many. after_leads (initial_meets fuel) (λ first. last_leads _ (symbol_meets Semicolon) (λ _. refl)))

named_datum_leads : (fuel : ℕ) (name : Ident) → Leads true true true (λ k. grammar.ident name ⨾ k) (named_datum fuel name) units.datum_form
named_datum_leads fuel name =
    if_symbol_leads Colon (give_leads (data_forms.Label name) (ap (λ t. grammar.ident name ⨾ t) (sym (takes_nothing (symbol_is Colon)))))
    (values_leads fuel (named_type name))

-- ---- items of a section

align_item_meets : Meets true true align_item units.item
align_item_meets =
    whole_meets
    (after_leads here_meets (λ token.
    after_leads (keyword_meets Align) (λ _.
    after_leads int_meets (λ bytes. last_leads (λ _. datum_at token (data_forms.Align bytes)) (symbol_meets Semicolon) (λ _. refl)))))

in_braces_meets : (turns : ℕ) {inner : Reads Item} → Meets true true inner units.item →
    Meets true true (in_braces turns inner) (λ inside. braces_is (many_is units.item inside))
in_braces_meets turns inner = braces_meets (many_meets inner (is_other CloseBrace) turns)

span_meets : (fuel : ℕ) {inner : Reads Item} → Meets true true inner units.item → Meets true true (span fuel inner) units.item
span_meets fuel inner =
    whole_meets
    (after_leads here_meets (λ token.
    after_leads (keyword_meets Span) (λ _.
    after_leads (whole_prim_meets fuel) (λ key.
    after_leads (whole_expr_meets fuel) (λ value.
    last_leads (λ inside. items.Span token key value inside) (in_braces_meets fuel inner) (span_is token key value))))))

-- a procedure, or data, after its name
named_item_leads : (fuel : ℕ) (name : Ident) → Leads true true true (λ k. grammar.ident name ⨾ k) (named_item fuel (block fuel) name) units.item
named_item_leads fuel name =
    if_next_leads _ (made_leads items.Proc (procedure_leads (block_meets fuel) fuel name) (λ p. refl))
    (made_leads (datum_at name.token) (begun_leads name.token (token_is (is_name name.name)) (named_datum_leads fuel name)) (λ form. refl))

flat_item_leads : (fuel : ℕ) → Leads true true true (λ k. k) (flat_item fuel (block fuel)) units.item
flat_item_leads fuel =
    if_next_leads is_any_name (after_leads ident_meets (λ name. named_item_leads fuel name))
    (if_next_leads _ (same_leads align_item_meets (λ i. refl)) (after_leads bits_meets by))
  where
    by : (o : Option TypeName) → Leads true true true (λ k. optional_is grammar.type_name o ⨾ k) (item_by fuel o) units.item
    by (Some width) = made_leads (datum_at width.token) (begun_leads width.token (grammar.type_form width.form) (values_leads fuel width)) (λ form. refl)
    by None = last_leads items.Decl (decl_meets fuel) (λ d. refl)

item_meets : (fuel : ℕ) → Meets true true (item fuel block) units.item
item_meets zero = whole_meets (stop_leads (flat_item_leads zero).ends)
item_meets (suc fuel) =
    whole_meets
    (if_next_leads _ (same_leads (span_meets fuel (item_meets fuel)) (λ i. refl)) (flat_item_leads (suc fuel)))

section_meets : (fuel : ℕ) → Meets true true (section fuel block) units.section
section_meets fuel =
    whole_meets
    (after_leads here_meets (λ token.
    after_leads (keyword_meets SectionWord) (λ _.
    after_leads text_meets (λ name. last_leads _ (in_braces_meets fuel (item_meets fuel)) (λ inside. refl)))))

top_level_meets : (fuel : ℕ) → Meets true true (top_level fuel block) units.top_level
top_level_meets fuel =
    whole_meets
    (if_next_leads _ (last_leads tops.Section (section_meets fuel) (λ s. refl))
    (if_next_leads is_any_name (last_leads tops.Proc (proc_meets (block_meets fuel) fuel) (λ p. refl))
    (last_leads tops.Decl (decl_meets fuel) (λ d. refl))))

pub parts_meets : (fuel : ℕ) → Meets true true (parts fuel block) (many_is units.top_level)
parts_meets fuel = many_meets (top_level_meets fuel) any_token fuel

-- ---- what a stop says of units

abbrev unit_of : List TopLevel → UnitTree
unit_of found = record { parts = found; places = [] }

-- the parts that begin with the tokens gone through are those of a unit
derived : (tokens : List Lexeme) (fault : Fault) (token : ℕ) (begun : Begun (many_is units.top_level) fault token (point (at_start tokens))) →
    Derives (take (reach fault token) tokens ++ begun.more) (unit_of begun.tree)
derived tokens fault token begun =
    let all : reach fault token - 0 ≡ reach fault token = omega arith in
    record {
      after = begun.after;
      takes = ap (λ n. many_is units.top_level begun.tree (at_start (take n tokens ++ begun.more))) (sym all) ∙ begun.taken;
      all = begun.all;
    }

stopped : (tokens : List Lexeme) (fault : Fault) (token : ℕ) → Answers whole_unit tokens (Stopped fault token) →
    Begun (many_is units.top_level) fault token (point (at_start tokens))
stopped tokens fault token stops =
    let more = suc (length tokens) in
    (is_viable (parts_meets more)).viable (point (at_start tokens)) fault token
    (stops more (omega arith))

-- some unit begins with the tokens before one that is refused, or before their end
pub begins_before : (tokens : List Lexeme) (token : ℕ) → Answers whole_unit tokens (Stopped Unexpected token) → Begins (take token tokens)
begins_before tokens token stops =
    let begun = stopped tokens Unexpected token stops in
    (unit_of begun.tree, begun.more, derived tokens Unexpected token begun)

-- what is refused is one of the tokens, or their end
pub stops_inside : (tokens : List Lexeme) (fault : Fault) (token : ℕ) → Answers whole_unit tokens (Stopped fault token) →
    reach fault token ≤ length tokens
stops_inside tokens fault token stops = let up_to = (stopped tokens fault token stops).up_to in omega arith

-- some unit passes a limit first at the token that is refused for that
pub is_too_deep : WhatIsOverIsTooDeep
unfolding derived
is_too_deep tokens token stops =
    let begun = stopped tokens TooDeep token stops in
    record {
      inside = stops_inside tokens TooDeep token stops;
      tree = unit_of begun.tree;
      more = begun.more;
      derives = derived tokens TooDeep token begun;
      over = begun.over refl;
    }
