-- Each piece of data, section and unit is read.
use Rattle.std.proofs.Common.{◌≡◌, ℕ, zero, suc, ◌⊎◌, inl, inr, Bool, true, false, List, [], ◌∷◌, Option, Some, None, refl, sym, ap, ◌∙◌, subst, arith}
use denote.Hole.Carrier as Carrier
use Rattle.cmm_lexer.specs.declared.piece.Lexeme.{Lexeme}
use Rattle.cmm_lexer.specs.declared.piece.Lexeme.TheVariants as l
use Rattle.cmm_words.specs.declared.width.Width.{Width}
use Rattle.cmm_words.specs.declared.width.Width.TheVariants.{W8, W16, W32, W64}
use Rattle.cmm_ast.specs.declared.token.Ident.{Ident}
use Rattle.cmm_ast.specs.declared.token.Int.{Int}
use Rattle.cmm_lexer.specs.declared.keyword.Keyword.{Keyword}
use Rattle.cmm_lexer.specs.declared.keyword.Keyword.TheVariants.{Align, Const, Export as ExportWord, Import as ImportWord, Invariant, Register, Target, Typedef, Section as SectionWord, Span}
use Rattle.cmm_lexer.specs.declared.symbol.Symbol.TheVariants.{Open, Colon, Colons, OpenBrace, CloseBrace, OpenSquare, CloseSquare, Semicolon}
use Rattle.cmm_ast.specs.declared.expression.Expr.{Expr}
use Rattle.cmm_ast.specs.declared.expression.Primary.{Primary}
use Rattle.cmm_ast.specs.declared.expression.TypeName.{TypeName}
use Rattle.cmm_ast.specs.declared.expression.TypeForm.{TypeForm}
use Rattle.cmm_ast.specs.declared.expression.TypeForm.TheVariants.{Bits, Named as OfName}
use Rattle.cmm_ast.specs.declared.declaration.Decl.{Decl}
use Rattle.cmm_ast.specs.declared.declaration.DeclForm.{DeclForm}
use Rattle.cmm_ast.specs.declared.declaration.DeclForm.TheVariants as decls
use Rattle.cmm_ast.specs.declared.procedure.Proc.{Proc}
use Rattle.cmm_ast.specs.declared.statement.Block.{Block}
use Rattle.cmm_ast.specs.declared.unit.TopLevel.{TopLevel}
use Rattle.cmm_ast.specs.declared.unit.TopLevel.TheVariants as tops
use Rattle.cmm_ast.specs.declared.unit.Section.{Section}
use Rattle.cmm_ast.specs.declared.unit.Item.{Item, Row_of-Item, end_of-Item, more_of-Item, items-the_row-Item, items_shown-the_row-Item-0, roll-Item, out-Item, roll-out-Item}
use Rattle.cmm_ast.specs.declared.unit.Item.TheVariants as items
use Rattle.cmm_ast.specs.declared.unit.Item.TheVariants.{Span'}
use Rattle.cmm_ast.specs.declared.unit.Item.TheBlock as Items
use Rattle.cmm_ast.specs.declared.unit.DatumForm.{DatumForm}
use Rattle.cmm_ast.specs.declared.unit.DatumForm.TheVariants as data_forms
use Rattle.cmm_ast.specs.declared.unit.Count.{Count}
use Rattle.cmm_ast.specs.declared.unit.Count.TheVariants as counts
use Rattle.cmm_ast.specs.declared.unit.Initial.{Initial}
use Rattle.cmm_ast.specs.declared.unit.Initial.TheVariants as initials
use Rattle.cmm_lexer.specs.Spellings.{keyword_number, symbol_number}
use Rattle.cmm_grammar.specs.Taking.{Reading, Takes, ◌⨾◌, token, is_name, is_word, is_sign, here as here_is, keyword as keyword_is, symbol as symbol_is, braces as braces_is, many as many_is, round as round_is, may_list as may_list_is, listed as listed_is}
use Rattle.cmm_grammar.specs.ExpressionGrammar as grammar
use Rattle.cmm_grammar.specs.ExpressionGrammar.{width_word}
use Rattle.cmm_grammar.specs.StatementGrammar as bodies
use Rattle.cmm_grammar.specs.UnitGrammar as units
use Rattle.cmm_grammar.specs.Reading.{Reads, ◌>>=◌, give, keyword, symbol, int, text, listed}
use Rattle.cmm_grammar.specs.inside.Duties.{Complete}
use Rattle.cmm_grammar.specs.ExpressionReading.{named_type, begins_expression, whole, whole_prim}
use Rattle.cmm_grammar.specs.ProcedureReading.{procedure}
use Rattle.cmm_grammar.specs.UnitReading.{count_of, count, values, initial, values_of, datum_at, named_item, item_by, flat_item, in_braces, span, item, section, top_level, any_token, parts}
use Rattle.cmm_grammar.specs.PartReading.{is_any_name, is_any_text, is_width}
use Rattle.cmm_grammar.proofs.UnitForms.{row_is}
use Rattle.cmm_grammar.proofs.Completes.{Next, Anything, follow_complete, less_complete, after_complete, fewer_complete, give_complete, last_complete, holds_complete, fails_complete, here_complete, token_strict, both, number_taken, never_complete, then_complete}
use Rattle.cmm_grammar.proofs.Tokens.{only_keyword, symbol_complete, keyword_complete, ident_complete, text_complete, int_complete}
use Rattle.cmm_grammar.proofs.Lists.{Parts, Each, each_of, zero_complete, listed_complete}
use Rattle.cmm_grammar.proofs.CompleteExpressions.{Begins, Ends, NoMore, type_token, type_name_complete, in_brackets_complete, whole_complete, ends_before, ends_after}
use Rattle.cmm_grammar.proofs.CompleteParts.{whole_prim_complete}
use Rattle.cmm_grammar.proofs.CompleteRepeats.{Passes, Not, start_complete, only_symbol_complete, some_complete, none_complete, parts_before, strict_then, here_strict, Spends, keyword_spends, if_next_spends, not_next_spends, follow_spends, Rows, many_complete, other_symbol, taken_spends}
use Rattle.cmm_grammar.proofs.CompleteDeclarations.{bits_begin, decl_word, decl_spends}
use Rattle.cmm_grammar.proofs.CompleteProcedures.{ident_strict, type_strict, NotClose, brace_rows, procedure_complete}
use Rattle.cmm_grammar.proofs.Wholes.{AtEnd}

-- ---- data

-- what may follow a datum's type, and its count
abbrev Valued : Option Lexeme → Type 0
Valued x =
    Next (l.Symbol (symbol_number OpenBrace)) x ⊎ Passes is_any_text x ⊎ Next (l.Symbol (symbol_number Semicolon)) x

abbrev Counted : Option Lexeme → Type 0
Counted x = Next (l.Symbol (symbol_number OpenSquare)) x ⊎ Valued x

valued_no_square : (x : Option Lexeme) → Valued x → Not (is_sign OpenSquare) x
valued_no_square x (inl e) = rw e refl
valued_no_square x (inr (inl f)) = other_symbol is_any_text OpenSquare refl x f
valued_no_square x (inr (inr e)) = rw e refl

counted_no_open : (x : Option Lexeme) → Counted x → Not (is_sign Open) x
counted_no_open x (inl e) = rw e refl
counted_no_open x (inr (inl e)) = rw e refl
counted_no_open x (inr (inr (inl f))) = other_symbol is_any_text Open refl x f
counted_no_open x (inr (inr (inr e))) = rw e refl

counted_no_colon : (x : Option Lexeme) → Counted x → Not (is_sign Colon) x
counted_no_colon x (inl e) = rw e refl
counted_no_colon x (inr (inl e)) = rw e refl
counted_no_colon x (inr (inr (inl f))) = other_symbol is_any_text Colon refl x f
counted_no_colon x (inr (inr (inr e))) = rw e refl

-- an expression begins with neither `::` nor a square bracket
begins_no_close : (x : Option Lexeme) → Begins x → Not (is_sign CloseSquare) x
begins_no_close = other_symbol begins_expression CloseSquare refl

pub begins_no_more : (x : Option Lexeme) → Begins x → NoMore x
begins_no_more (Some (l.Symbol n)) e = rw (other_symbol begins_expression Colons refl (Some (l.Symbol n)) e, other_symbol begins_expression OpenSquare refl (Some (l.Symbol n)) e) refl
begins_no_more (Some _) e = refl
begins_no_more None e = refl

count_complete : {fuel : ℕ} (c : Count) → Complete fuel (units.count c) c (count fuel) Counted Valued
count_complete counts.One = follow_complete (λ x f. inr f) (λ x f. f) (fails_complete _ valued_no_square (give_complete counts.One))
count_complete {fuel} counts.OfInitial =
    follow_complete (λ x f. inl f) (λ x f. tt)
    (holds_complete _ (λ x e. rw e refl)
    (last_complete count_of
    (less_complete (omega arith)
    (in_brackets_complete {fuel = fuel} OpenSquare CloseSquare (λ x e. e) (holds_complete _ (λ x e. rw e refl) (give_complete None))))))
count_complete {fuel} (counts.Of e) =
    follow_complete (λ x f. inl f) (λ x f. tt)
    (holds_complete _ (λ x e. rw e refl)
    (last_complete count_of
    (less_complete (omega arith)
    (in_brackets_complete OpenSquare CloseSquare (ends_before CloseSquare refl refl)
    (fails_complete _ begins_no_close (last_complete (λ e. Some e) (whole_complete fuel e)))))))

value_parts : Parts begins_expression Begins (Ends 0) (Next (l.Symbol (symbol_number CloseBrace)))
value_parts = parts_before begins_expression CloseBrace refl refl (ends_after CloseBrace refl refl)

-- values are one or more
values_complete : {fuel : ℕ} (found : List Expr) → Complete fuel (units.initial (initials.Values found)) (initials.Values found) (values fuel)
    (Next (l.Symbol (symbol_number OpenBrace))) Anything
values_complete {fuel} [] =
    last_complete initials.Values
    (less_complete (omega arith)
    (in_brackets_complete {fuel = fuel} {reads = listed fuel begins_expression (whole fuel)} {first = Anything} OpenBrace CloseBrace (λ x e. e)
    (never_complete {p = listed_is grammar.whole []} (λ r after e. absurd cc))))
values_complete {fuel} (e ∷ es) =
    last_complete initials.Values
    (less_complete (omega arith)
    (in_brackets_complete OpenBrace CloseBrace (λ x e. e) (listed_complete (whole fuel) grammar.whole value_parts e es (whole_complete fuel))))

initial_complete : {fuel : ℕ} (i : Initial) → Complete fuel (units.initial i) i (initial fuel) Valued (Next (l.Symbol (symbol_number Semicolon)))
initial_complete initials.Zeros =
    follow_complete (λ x f. inr (inr f)) (λ x f. f) (fails_complete _ (λ x e. rw e refl) (fails_complete _ (λ x e. rw e refl) (give_complete initials.Zeros)))
initial_complete (initials.Values found) =
    follow_complete (λ x f. inl f) (λ x f. tt) (fails_complete _ (λ x e. rw e refl) (holds_complete _ (λ x e. rw e refl) (values_complete found)))
initial_complete (initials.Text t) =
    follow_complete (λ x e. inr (inl (rw e refl))) (λ x f. tt) (holds_complete _ (λ x e. rw e refl) (last_complete initials.Text (text_complete t)))

datum_complete : {fuel : ℕ} (width : TypeName) (how_many : Count) (first : Initial) →
    Complete fuel (units.count how_many ⨾ units.initial first ⨾ symbol_is Semicolon) (data_forms.Data width how_many first) (values_of fuel width) Counted Anything
datum_complete width how_many first =
    after_complete {b = λ c. data_forms.Data width c first} (count_complete how_many) (λ x f. f) (λ c.
    after_complete {b = λ i. data_forms.Data width c i} (initial_complete first) (λ x f. f) (λ i.
    last_complete (λ _. data_forms.Data width c i) (symbol_complete Semicolon)))

-- ---- the number of the first token, twice

-- a part that begins with the number that its own first part begins with
pub again_spends : {A : Type 0} {fuel : ℕ} (n m : ℕ) (p q : Takes) {a : A} {reads : Reads A} {first follow : Option Lexeme → Type 0} →
    (n ≡ m → Spends fuel ((here_is m ⨾ p) ⨾ q) a reads first follow) → Spends fuel (here_is n ⨾ (here_is m ⨾ p) ⨾ q) a reads first follow
again_spends n m p q one = taken_spends (λ (same : n ≡ m). (here_is m ⨾ p) ⨾ q) inside one
  where
    inside : (r after : Reading) → (here_is n ⨾ (here_is m ⨾ p) ⨾ q) r ≡ Some after → (n ≡ m) × (((here_is m ⨾ p) ⨾ q) r ≡ Some after)
    inside r after e =
        let o = number_taken n ((here_is m ⨾ p) ⨾ q) r after e in
        let t = both (here_is m ⨾ p) q r after o.1 in
        (o.0 ∙ sym (number_taken m p r t.between t.first).0, o.1)

-- ---- items that hold no other

bits_no_align : (width : Width) (x : Option Lexeme) → Next (l.Word (keyword_number (width_word width))) x → Not (is_word Align) x
bits_no_align W8 x e = rw e refl
bits_no_align W16 x e = rw e refl
bits_no_align W32 x e = rw e refl
bits_no_align W64 x e = rw e refl

bits_no_span : (width : Width) (x : Option Lexeme) → Next (l.Word (keyword_number (width_word width))) x → Not (is_word Span) x
bits_no_span W8 x e = rw e refl
bits_no_span W16 x e = rw e refl
bits_no_span W32 x e = rw e refl
bits_no_span W64 x e = rw e refl

-- a test that no declaration's first word passes
abbrev Fails : (Lexeme → Bool) → Keyword → Type 0
Fails test word = test (l.Word (keyword_number word)) ≡ false

pub decl_fails : (test : Lexeme → Bool) → Fails test ImportWord → Fails test ExportWord → Fails test Const → Fails test Typedef → Fails test Target →
    Fails test Invariant → Fails test Register → (f : DeclForm) (x : Option Lexeme) → Next (l.Word (keyword_number (decl_word f))) x → Not test x
decl_fails test a b c d e f g (decls.Import width imports) x is = rw is a
decl_fails test a b c d e f g (decls.Export width exports) x is = rw is b
decl_fails test a b c d e f g (decls.Const width name value) x is = rw is c
decl_fails test a b c d e f g (decls.Typedef width names) x is = rw is d
decl_fails test a b c d e f g (decls.Target properties) x is = rw is e
decl_fails test a b c d e f g (decls.Register true kind width names) x is = rw is f
decl_fails test a b c d e f g (decls.Register false kind width names) x is = rw is g

-- no item with others in it begins there, and the items don't end
abbrev Flat : Option Lexeme → Type 0
Flat x = NotClose x × Not (is_word Span) x

module _ {fuel : ℕ} (block : Reads Block) (block_complete : (b : Block) → Complete fuel (bodies.block b) b block Anything Anything) where
  -- what begins with a name
  named_spends : {q : Takes} {begins : Option Lexeme → Type 0} (tree : Ident → Item) (name : Ident) →
      ((n : Ident) → Complete fuel q (tree n) (named_item fuel block n) begins Anything) →
      Spends fuel (grammar.ident name ⨾ q) (tree name) (flat_item fuel block) (Next (l.Name name.name)) Anything
  named_spends tree name each = record {
    complete = holds_complete is_any_name (λ x e. rw e refl) (after_complete {b = tree} (ident_complete name) (λ x f. tt) each);
    strict = strict_then (ident_strict name) (each name).moves;
  }

  label_spends : (name : Ident) →
      Spends fuel (grammar.ident name ⨾ symbol_is Colon) (datum_at name.token (data_forms.Label name)) (flat_item fuel block) (Next (l.Name name.name)) Anything
  label_spends name =
      named_spends (λ n. datum_at n.token (data_forms.Label n)) name (λ n.
      fails_complete _ (λ x e. rw e refl) (last_complete (datum_at n.token) (only_symbol_complete Colon)))

  proc_spends : (p : Proc) → Spends fuel (bodies.proc p) (items.Proc p) (flat_item fuel block) (Next (l.Name p.name.name)) Anything
  proc_spends p =
      named_spends (λ n. items.Proc record { name = n; formals = p.formals; body = p.body; past = p.past }) p.name (λ n.
      holds_complete _ (λ x e. rw e refl) (last_complete items.Proc (procedure_complete block_complete p n)))

  data_spends : (at : ℕ) (form : TypeForm) (how_many : Count) (first : Initial) →
      Spends fuel (grammar.type_name (record { token = at; form = form }) ⨾ units.count how_many ⨾ units.initial first ⨾ symbol_is Semicolon)
      (datum_at at (data_forms.Data (record { token = at; form = form }) how_many first)) (flat_item fuel block) (Next (type_token form)) Anything
  data_spends at (OfName bytes) how_many first =
      named_spends (λ n. datum_at n.token (data_forms.Data (named_type n) how_many first)) (record { name = bytes; token = at }) (λ n.
      fails_complete _ counted_no_open (last_complete (datum_at n.token) (fails_complete _ counted_no_colon (datum_complete (named_type n) how_many first))))
  data_spends at (Bits width) how_many first = record {
    complete = fails_complete is_any_name (λ x e. rw e refl)
        (fails_complete _ (bits_no_align width)
        (then_complete (item_by fuel)
        (some_complete is_width (λ x e. rw e (bits_begin width)) (type_name_complete (record { token = at; form = Bits width }))) (λ x f. tt)
        (last_complete (datum_at at) (datum_complete (record { token = at; form = Bits width }) how_many first))));
    strict = strict_then (type_strict (record { token = at; form = Bits width })) (datum_complete {fuel = fuel} (record { token = at; form = Bits width }) how_many first).moves;
  }

  align_spends : (at : ℕ) (bytes : Int) →
      Spends fuel (here_is at ⨾ keyword_is Align ⨾ grammar.int bytes ⨾ symbol_is Semicolon) (datum_at at (data_forms.Align bytes)) (flat_item fuel block)
      (Next (l.Word (keyword_number Align))) Anything
  align_spends at bytes = record {
    complete = fails_complete is_any_name (λ x e. rw e refl)
        (holds_complete _ (λ x e. rw e refl)
        (after_complete {b = λ n. datum_at n (data_forms.Align bytes)} (here_complete at) (λ x f. f) (λ n. (from n).complete)));
    strict = here_strict at (from at).strict;
  }
    where
      from : (n : ℕ) →
          Spends fuel (keyword_is Align ⨾ grammar.int bytes ⨾ symbol_is Semicolon) (datum_at n (data_forms.Align bytes))
          (keyword Align >>= λ _. int >>= λ bytes. symbol Semicolon >>= λ _. give (datum_at n (data_forms.Align bytes)))
          (Next (l.Word (keyword_number Align))) Anything
      from n =
          keyword_spends Align
          (after_complete {b = λ i. datum_at n (data_forms.Align i)} (int_complete bytes) (λ x f. tt) (λ i.
          last_complete (λ _. datum_at n (data_forms.Align i)) (symbol_complete Semicolon)))

  type_flat : (form : TypeForm) (x : Option Lexeme) → Next (type_token form) x → Flat x
  type_flat (Bits width) x e = (rw e refl, bits_no_span width x e)
  type_flat (OfName bytes) x e = (rw e refl, rw e refl)

  datum_spends : (at : ℕ) (form : DatumForm) → Spends fuel (here_is at ⨾ units.datum_form form) (datum_at at form) (flat_item fuel block) Flat Anything
  datum_spends at (data_forms.Label name) =
      follow_spends (λ x e. (rw e refl, rw e refl)) (λ x f. f)
      (again_spends at name.token (token (is_name name.name)) (symbol_is Colon) (λ same.
      subst
      (λ n. Spends fuel (grammar.ident name ⨾ symbol_is Colon) (datum_at n (data_forms.Label name)) (flat_item fuel block) (Next (l.Name name.name)) Anything)
      (sym same) (label_spends name)))
  datum_spends at (data_forms.Align bytes) = follow_spends (λ x e. (rw e refl, rw e refl)) (λ x f. f) (align_spends at bytes)
  datum_spends at (data_forms.Data width how_many first) =
      follow_spends (type_flat width.form) (λ x f. f)
      (again_spends at width.token (grammar.type_form width.form) (units.count how_many ⨾ units.initial first ⨾ symbol_is Semicolon) (λ same.
      subst
      (λ n. Spends fuel (grammar.type_name width ⨾ units.count how_many ⨾ units.initial first ⨾ symbol_is Semicolon)
      (datum_at n (data_forms.Data width how_many first)) (flat_item fuel block) (Next (type_token width.form)) Anything)
      (sym same) (data_spends width.token width.form how_many first)))

  declared_spends : (d : Decl) → Spends fuel (units.decl d) (items.Decl d) (flat_item fuel block) Flat Anything
  declared_spends d = record {
    complete = follow_complete (λ x e. (other x e, decl_fails (is_word Span) refl refl refl refl refl refl refl d.form x e)) (λ x f. f)
        (fails_complete is_any_name (λ x e. rw e refl)
        (fails_complete _ (decl_fails (is_word Align) refl refl refl refl refl refl refl d.form)
        (start_complete (item_by fuel) (none_complete is_width (decl_fails is_width refl refl refl refl refl refl refl d.form)) (λ x e. e)
        (last_complete items.Decl (decl_spends d).complete))));
    strict = (decl_spends {fuel = fuel} d).strict;
  }
    where
      other : (x : Option Lexeme) → Next (l.Word (keyword_number (decl_word d.form))) x → NotClose x
      other x e = rw e refl

-- ---- items

span_is : (at : ℕ) (key : Primary) (value : Expr) (shape : _) (row : _) → items.Span at key value (items-the_row-Item _ row) ≡ Span' at key value shape row
unfolding roll-Item out-Item Carrier.out Carrier.roll Items.hidden-the_row-Item-0 Carrier.hidden
span_is at key value shape row = ap (λ its. items.Span at key value its) (sym (items_shown-the_row-Item-0 shape row)) ∙ roll-out-Item (Span' at key value shape row)

any_prim_complete : (fuel : ℕ) (p : Primary) → Complete fuel (grammar.whole_prim p) p (whole_prim fuel) Anything NoMore
any_prim_complete fuel p = follow_complete (λ x f. tt) (λ x f. f) (whole_prim_complete fuel p)

module _ (block : ℕ → Reads Block) (block_complete : (fuel : ℕ) (b : Block) → Complete fuel (bodies.block b) b (block fuel) Anything Anything) where
  -- how an item is read, for any count of tokens
  HasItem : Item → Type 0
  HasItem i = (fuel : ℕ) → Spends fuel (units.item i) i (item fuel block) NotClose Anything

  zero_item : (i : Item) → ((fuel : ℕ) → Spends (suc fuel) (units.item i) i (item (suc fuel) block) NotClose Anything) → HasItem i
  unfolding HasItem
  zero_item i each zero = record { complete = zero_complete (each 0).complete; strict = (each 0).strict }
  zero_item i each (suc fuel) = each fuel

  each_item : (fuel : ℕ) (its : List Item) → Each HasItem its → Each (λ i. Spends fuel (units.item i) i (item fuel block) NotClose Anything) its
  unfolding HasItem
  each_item fuel [] items = tt
  each_item fuel (i ∷ its) items = (items.0 fuel, each_item fuel its items.1)

  in_braces_complete : (fuel : ℕ) (its : List Item) → Each HasItem its →
      Complete fuel (braces_is (many_is units.item its)) its (in_braces fuel (item fuel block)) (Next (l.Symbol (symbol_number OpenBrace))) Anything
  in_braces_complete fuel its items =
      less_complete (omega arith)
      (in_brackets_complete OpenBrace CloseBrace (λ x e. e) (many_complete (item fuel block) units.item brace_rows its (each_item fuel its items)))

  span_spends : (fuel : ℕ) (at : ℕ) (key : Primary) (value : Expr) (its : List Item) → Each HasItem its →
      Spends (suc fuel)
      (here_is at ⨾ keyword_is Span ⨾ grammar.whole_prim key ⨾ grammar.whole value ⨾ braces_is (many_is units.item its))
      (items.Span at key value its) (span fuel (item fuel block)) (Next (l.Word (keyword_number Span))) Anything
  span_spends fuel at key value its each = record {
    complete = after_complete {b = λ n. items.Span n key value its} (here_complete at) (λ x f. f) (λ n.
        fewer_complete {b = λ _. items.Span n key value its} (token_strict (only_keyword Span)) (keyword_complete Span) (λ x f. tt) (λ _. from n));
    strict = here_strict at (strict_then (token_strict (only_keyword Span)) (from at).moves);
  }
    where
      from : (n : ℕ) →
          Complete fuel (grammar.whole_prim key ⨾ grammar.whole value ⨾ braces_is (many_is units.item its)) (items.Span n key value its)
          (whole_prim fuel >>= λ key. whole fuel >>= λ value. in_braces fuel (item fuel block) >>= λ inside. give (items.Span n key value inside))
          Anything Anything
      from n =
          after_complete {b = λ k. items.Span n k value its} (any_prim_complete fuel key) begins_no_more (λ k.
          after_complete {b = λ v. items.Span n k v its} (whole_complete fuel value) (ends_before OpenBrace refl refl) (λ v.
          last_complete (λ inside. items.Span n k v inside) (in_braces_complete fuel its each)))

  flat_spends : (i : Item) → ((fuel : ℕ) → Spends (suc fuel) (units.item i) i (flat_item (suc fuel) (block (suc fuel))) Flat Anything) → HasItem i
  flat_spends i each =
      zero_item i (λ fuel.
      follow_spends {first = Flat} (λ x f. f.0) (λ x f. f)
      (not_next_spends (is_word Span) (λ x f. f.1) (each fuel)))

  span_item : (at : ℕ) (key : Primary) (value : Expr) (shape : _) (row : _) → Each HasItem (items-the_row-Item _ row) → HasItem (Span' at key value shape row)
  span_item at key value shape row each =
      zero_item (Span' at key value shape row) (λ fuel.
      subst (λ i. Spends (suc fuel) (units.item (Span' at key value shape row)) i (item (suc fuel) block) NotClose Anything) (span_is at key value shape row)
      (subst
      (λ t. Spends (suc fuel) (here_is at ⨾ keyword_is Span ⨾ grammar.whole_prim key ⨾ grammar.whole value ⨾ braces_is t)
      (items.Span at key value (items-the_row-Item _ row)) (item (suc fuel) block) NotClose Anything)
      (sym (row_is _ row))
      (follow_spends (λ x e. rw e refl) (λ x f. f)
      (if_next_spends (is_word Span) (λ x e. rw e refl) (span_spends fuel at key value (items-the_row-Item _ row) each)))))

  mutual
    item_spends : (i : Item) → HasItem i
    item_spends (items.Decl d) = flat_spends (items.Decl d) (λ fuel. declared_spends (block (suc fuel)) (block_complete (suc fuel)) d)
    item_spends (items.Proc p) =
        flat_spends (items.Proc p) (λ fuel. follow_spends (λ x e. (rw e refl, rw e refl)) (λ x f. f) (proc_spends (block (suc fuel)) (block_complete (suc fuel)) p))
    item_spends (items.Datum d) = flat_spends (items.Datum d) (λ fuel. datum_spends (block (suc fuel)) (block_complete (suc fuel)) d.token d.form)
    item_spends (Span' at key value shape row) = span_item at key value shape row (items_spend row)

    items_spend : {n : _} (row : Row_of-Item n) → Each HasItem (items-the_row-Item n row)
    items_spend end_of-Item = tt
    items_spend (more_of-Item i rest) = (item_spends i, items_spend rest)

  -- ---- sections and units

  section_spends : {fuel : ℕ} (s : Section) →
      Spends fuel (units.section s) s (section fuel block) (Next (l.Word (keyword_number SectionWord))) Anything
  section_spends {fuel} s = record {
    complete = after_complete {b = λ n. record { token = n; name = s.name; items = s.items }} (here_complete s.token) (λ x f. f) (λ n. (from n).complete);
    strict = here_strict s.token (from s.token).strict;
  }
    where
      made : ℕ → Section
      made n = record { token = n; name = s.name; items = s.items }

      from : (n : ℕ) →
          Spends fuel (keyword_is SectionWord ⨾ grammar.text s.name ⨾ braces_is (many_is units.item s.items)) (made n)
          (keyword SectionWord >>= λ _.
          text >>= λ name. in_braces fuel (item fuel block) >>= λ inside. give record { token = n; name = name; items = inside })
          (Next (l.Word (keyword_number SectionWord))) Anything
      from n =
          keyword_spends SectionWord
          (after_complete {b = λ name. record { token = n; name = name; items = s.items }} (text_complete s.name) (λ x f. tt) (λ name.
          last_complete (λ inside. record { token = n; name = name; items = inside }) (in_braces_complete fuel s.items (each_of item_spends s.items))))

  top_level_spends : {fuel : ℕ} (t : TopLevel) → Spends fuel (units.top_level t) t (top_level fuel block) (Passes any_token) Anything
  top_level_spends {fuel} (tops.Section s) = record {
    complete = follow_complete (λ x e. rw e refl) (λ x f. f)
        (holds_complete _ (λ x e. rw e refl) (last_complete tops.Section (section_spends s).complete));
    strict = (section_spends {fuel = fuel} s).strict;
  }
  top_level_spends {fuel} (tops.Decl d) = record {
    complete = follow_complete (λ x e. rw e refl) (λ x f. f)
        (fails_complete _ (decl_fails (is_word SectionWord) refl refl refl refl refl refl refl d.form)
        (fails_complete is_any_name (λ x e. rw e refl) (last_complete tops.Decl (decl_spends d).complete)));
    strict = (decl_spends {fuel = fuel} d).strict;
  }
  top_level_spends {fuel} (tops.Proc p) = record {
    complete = follow_complete (λ x e. rw e refl) (λ x f. f)
        (fails_complete _ (λ x e. rw e refl)
        (holds_complete is_any_name (λ x e. rw e refl) (last_complete tops.Proc (after_complete {b = named} (ident_complete p.name) (λ x f. tt) rest))));
    strict = strict_then (ident_strict p.name) (rest p.name).moves;
  }
    where
      named : Ident → Proc
      named n = record { name = n; formals = p.formals; body = p.body; past = p.past }

      rest : (n : Ident) →
          Complete fuel (round_is (may_list_is bodies.formal p.formals) ⨾ bodies.block p.body ⨾ here_is p.past) (named n)
          (procedure fuel (block fuel) n) (Next (l.Symbol (symbol_number Open))) Anything
      rest n = procedure_complete (block_complete fuel) p n

  part_rows : Rows any_token (Passes any_token) Anything AtEnd
  part_rows = record { starts = λ x f. f; ends = λ x e. rw e refl; goes_on = λ x f. tt }

  pub parts_complete : (fuel : ℕ) (ts : List TopLevel) → Complete fuel (many_is units.top_level ts) ts (parts fuel block) Anything AtEnd
  parts_complete fuel ts =
      follow_complete (λ x f. tt) (λ x f. f) (many_complete (top_level fuel block) units.top_level part_rows ts (each_of top_level_spends ts))
