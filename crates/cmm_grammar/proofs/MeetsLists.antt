-- Readers of single tokens, brackets and lists meet the grammar.
use Rattle.std.proofs.Common.{◌≡◌, ℕ, zero, suc, ◌⊎◌, inl, inr, Bool, true, false, List, [], ◌∷◌, ◌++◌, Option, Some, None, refl, sym, ap, ◌∙◌}
use Rattle.cmm_lexer.specs.declared.piece.Lexeme.{Lexeme}
use Rattle.cmm_lexer.specs.declared.piece.Lexeme.TheVariants as l
use Rattle.cmm_lexer.specs.declared.keyword.Keyword.{Keyword}
use Rattle.cmm_lexer.specs.declared.symbol.Symbol.{Symbol}
use Rattle.cmm_lexer.specs.declared.symbol.Symbol.TheVariants.{Open, Close, OpenBrace, CloseBrace, OpenSquare, CloseSquare, Comma}
use Rattle.cmm_lexer.specs.Spellings.{keyword_number, symbol_number}
use Rattle.cmm_grammar.specs.Taking.{Reading, Takes, ◌⨾◌, nothing, token, is_name, is_text, is_int, keyword as keyword_is, symbol as symbol_is, optional as optional_is, many as many_is, commas as commas_is, may_comma as may_comma_is, listed as listed_is, may_list as may_list_is, in_brackets as in_brackets_is, round as round_is, square as square_is, braces as braces_is}
use Rattle.cmm_grammar.specs.ExpressionGrammar.{ident as ident_is, text as text_is, int as int_is}
use Rattle.cmm_grammar.specs.Reading.{Point, Reads, ◌>>=◌, give, next, past, choice, passes, if_next, skip, expect, keyword, symbol, picked, held, pick, name_in, text_in, int_in, name, ident, text, int, is_comma, in_brackets, round, square, braces, optional, many, more_commas, commas, more_listed, listed, may_list}
use Rattle.cmm_grammar.specs.DeclarationReading.{if_word, if_symbol}
use Rattle.cmm_grammar.specs.PartReading.{may_comma}
use Rattle.cmm_grammar.proofs.Takings.{taken_then, same_number, takes_nothing, rest_to, rest_to-append, commas_to, may_comma_not, may_comma_taken, many_to, many_to-append, many_to-nothing, put}
use Rattle.cmm_grammar.proofs.Locals.{give_local, look_local, choice_local, skip_local}
use Rattle.cmm_grammar.proofs.Tokens.{name_in_is, text_in_is, int_in_is}
use Rattle.cmm_grammar.proofs.Meets.{read_same, May, Plain, any_plain, may_any, Led, Ends, Leads, LeadsAt, Meets, ended_self, at_either, after_leads, whole_meets, give_leads, last_leads, same_leads, leads_same, at_leads, look_leads, stop_leads, next_leads, if_next_leads, meets_later, leads_later}
use Rattle.cmm_grammar.proofs.MeetsTokens.{One, reached_step, token_one, ends_token, one_leads, skip_leads, skip_last_leads, opening_meets, here_meets, enclosed_meets}

-- ---- a token that is expected

pub expect_meets : {first : Bool} (test : Lexeme → Bool) (x : Lexeme) → test x ≡ true → Plain first x → Meets first true (expect test) (λ _. token test)
expect_meets {first} test x passed plain =
    whole_meets (next_leads some (λ y e. skip_last_leads test tt e refl) (λ y e. at_leads (stop_leads some)))
  where
    some : Ends first first true (λ k. k) (λ (u : Unit {0}). token test)
    some = ends_token test x passed plain (give_leads tt (sym (takes_nothing (token test)))).ends

-- after anything that takes no comma
pub symbol_meets : (s : Symbol) → Meets true true (symbol s) (λ _. symbol_is s)
symbol_meets s = expect_meets _ (l.Symbol (symbol_number s)) (same_number (symbol_number s)) (any_plain (l.Symbol (symbol_number s)))

-- after a list too: `closing_meets Semicolon refl`
pub closing_meets : {first : Bool} (s : Symbol) → is_comma (l.Symbol (symbol_number s)) ≡ false → Meets first true (symbol s) (λ _. symbol_is s)
closing_meets s plain = expect_meets _ (l.Symbol (symbol_number s)) (same_number (symbol_number s)) (λ e. plain)

pub keyword_meets : {first : Bool} (k : Keyword) → Meets first true (keyword k) (λ _. keyword_is k)
keyword_meets k = expect_meets _ (l.Word (keyword_number k)) (same_number (keyword_number k)) (λ e. refl)

-- ---- what a token holds

picked_leads : {A : Type 0} {first : Bool} (test : A → Lexeme → Bool) (x : Lexeme) (o : Option A) → ((a : A) → o ≡ Some a → test a x ≡ true) →
    Ends first first true (λ k. k) (λ a. token (test a)) → LeadsAt (Some x) first first true (λ k. k) (picked o) (λ a. token (test a))
picked_leads test x (Some a) passing some = skip_last_leads (test a) a (passing a refl) refl
picked_leads test x None passing some = at_leads (stop_leads some)

-- the token is one that holds this
pub pick_meets : {A : Type 0} {first : Bool} (content : Lexeme → Option A) (test : A → Lexeme → Bool) →
    ((x : Lexeme) (a : A) → content x ≡ Some a → test a x ≡ true) → (x : Lexeme) (a : A) → content x ≡ Some a → Plain first x →
    Meets first true (pick content) (λ a. token (test a))
pick_meets {A = A} {first = first} content test passing x a holds plain = whole_meets (look_leads some by) where
  some : Ends first first true (λ k. k) (λ (a : A). token (test a))
  some = ends_token (test a) x (passing x a holds) plain (give_leads a (sym (takes_nothing (token (test a))))).ends

  by : (x : Option Lexeme) → LeadsAt x first first true (λ k. k) (picked (held content x)) (λ a. token (test a))
  by (Some x) = picked_leads test x (content x) (passing x) some
  by None = at_leads (stop_leads some)

pub name_meets : {first : Bool} → Meets first true name (λ bytes. token (is_name bytes))
name_meets = pick_meets name_in is_name name_in_is (l.Name []) [] refl (λ e. refl)

pub ident_meets : {first : Bool} → Meets first true ident ident_is
ident_meets = whole_meets (after_leads here_meets (λ token. last_leads _ name_meets (λ bytes. refl)))

pub text_meets : {first : Bool} → Meets first true text text_is
text_meets = whole_meets (after_leads here_meets (λ token. last_leads _ (pick_meets text_in is_text text_in_is (l.Text []) [] refl (λ e. refl)) (λ bytes. refl)))

pub int_meets : {first : Bool} → Meets first true int int_is
int_meets = whole_meets (after_leads here_meets (λ token. last_leads _ (pick_meets int_in is_int int_in_is (l.Int 0) 0 refl (λ e. refl)) (λ value. refl)))

-- ---- by a word or a symbol

pub if_word_leads : {B : Type 0} {first free later : Bool} {so_far : Takes → Takes} {holds fails : Reads B} {takes : B → Takes} (word : Keyword) →
    Leads first true later (λ k. so_far (keyword_is word ⨾ k)) holds takes → Leads first free later so_far fails takes →
    Leads first free later so_far (if_word word holds fails) takes
if_word_leads word h f = next_leads f.ends (λ x passed. skip_leads _ passed (λ _. h)) (λ x none. at_leads f)

pub if_symbol_leads : {B : Type 0} {first free later : Bool} {so_far : Takes → Takes} {holds fails : Reads B} {takes : B → Takes} (sign : Symbol) →
    Leads first true later (λ k. so_far (symbol_is sign ⨾ k)) holds takes → Leads first free later so_far fails takes →
    Leads first free later so_far (if_symbol sign holds fails) takes
if_symbol_leads sign h f = next_leads f.ends (λ x passed. skip_leads _ passed (λ _. h)) (λ x none. at_leads f)

-- ---- brackets

pub in_brackets_meets : {A : Type 0} {first later : Bool} {reads : Reads A} {is : A → Takes} (opened_by closed_by : Symbol) →
    Plain first (l.Symbol (symbol_number opened_by)) → is_comma (l.Symbol (symbol_number closed_by)) ≡ false → Meets true later reads is →
    Meets first true (in_brackets opened_by reads closed_by) (λ a. in_brackets_is opened_by (is a) closed_by)
in_brackets_meets opened_by closed_by plain ends inner =
    enclosed_meets (whole_meets
    (after_leads (opening_meets _ (l.Symbol (symbol_number opened_by)) (same_number (symbol_number opened_by)) plain)
    (λ _. after_leads inner (λ a. last_leads _ (closing_meets closed_by ends) (λ _. refl)))))

pub round_meets : {A : Type 0} {first later : Bool} {reads : Reads A} {is : A → Takes} → Meets true later reads is →
    Meets first true (round reads) (λ a. round_is (is a))
round_meets inner = in_brackets_meets Open Close (λ e. refl) refl inner

pub square_meets : {A : Type 0} {first later : Bool} {reads : Reads A} {is : A → Takes} → Meets true later reads is →
    Meets first true (square reads) (λ a. square_is (is a))
square_meets inner = in_brackets_meets OpenSquare CloseSquare (λ e. refl) refl inner

pub braces_meets : {A : Type 0} {first later : Bool} {reads : Reads A} {is : A → Takes} → Meets true later reads is →
    Meets first true (braces reads) (λ a. braces_is (is a))
braces_meets inner = in_brackets_meets OpenBrace CloseBrace (λ e. refl) refl inner

-- ---- a part that may be missing, and rows

pub optional_meets : {A : Type 0} {first : Bool} {reads : Reads A} {is : A → Takes} (begins : Lexeme → Bool) → Meets first true reads is →
    Meets first first (optional begins reads) (optional_is is)
optional_meets {first = first} begins inner =
    whole_meets (if_next_leads begins (last_leads Some (meets_later first inner) (λ a. refl)) (give_leads None refl))

module _ {A : Type 0} {every : Bool} {reads : Reads A} {p : A → Takes} (item : Meets every every reads p) where
  -- after earlier ones of a row, in whatever form the grammar has it
  pub many_leads : {first : Bool} (so_far : Takes → Takes) (takes : List A → Takes) → ((as_ : List A) → takes as_ ≡ so_far (many_to p as_ nothing)) →
      (begins : Lexeme → Bool) (turns : ℕ) (as_ : List A) → Leads first every every (λ k. so_far (many_to p as_ k)) (many turns begins reads as_) takes
  many_leads so_far takes same begins zero as_ = stop_leads (give_leads as_ (same as_)).ends
  many_leads so_far takes same begins (suc turns) as_ =
      if_next_leads begins
      (after_leads item (λ b. leads_same (λ k. ap (λ t. so_far t) (sym (many_to-append p as_ b k))) (many_leads so_far takes same begins turns (as_ ++ (b ∷ [])))))
      (give_leads as_ (same as_))

  pub many_meets : (begins : Lexeme → Bool) (turns : ℕ) → Meets every every (many turns begins reads []) (many_is p)
  many_meets begins turns = whole_meets (many_leads (λ k. k) (many_is p) (many_to-nothing p) begins turns [])

  -- a row in another form
  pub row_meets : (takes : List A → Takes) → ((as_ : List A) → takes as_ ≡ many_to p as_ nothing) → (begins : Lexeme → Bool) (turns : ℕ) →
      Meets every every (many turns begins reads []) takes
  row_meets takes same begins turns = whole_meets (many_leads (λ k. k) takes same begins turns [])

-- ---- the comma that may end a list

comma_one : (x : Lexeme) → is_comma x ≡ true → One may_comma_is x (λ q. record q { taken = suc q.taken })
comma_one x passed = record {
  step = λ q rest. may_comma_taken x (put (x ∷ rest) q) refl passed;
  counts = λ q. refl;
  stays = λ q token over. over;
}

-- where none is next
led_no_comma : {first : Bool} {was now : Option Lexeme} {so_far : Takes → Takes} (is : Takes) {r q : Reading} {xs : List Lexeme} → is ≡ so_far may_comma_is →
    passes is_comma now ≡ false → Led first true was now so_far r xs q → Led first false was now (λ k. is ⨾ k) r xs q
led_no_comma {now = now} is {r = r} {q = q} {xs = xs} same none led = record {
  again = λ k rest may.
      taken_then is k (put (xs ++ rest) r) (put rest q)
      (ap (λ t. t (put (xs ++ rest) r)) same ∙ led.again may_comma_is rest (may_any now rest) ∙ may_comma_not (put rest q) (no_comma now rest none may));
  quiet = λ rest may. led.quiet rest (may_any now rest);
}
  where
    no_comma : (now : Option Lexeme) (rest : List Lexeme) → passes is_comma now ≡ false → May false now rest → passes is_comma (next rest) ≡ false
    no_comma now rest none (inl e) = rw e none
    no_comma now rest none (inr q) = q refl

led_any : {first : Bool} {was now : Option Lexeme} {so_far : Takes → Takes} {r q : Reading} {xs : List Lexeme} → Led first true was now so_far r xs q →
    Led first true was None so_far r xs q
led_any {now = now} led = record { again = λ k rest may. led.again k rest (may_any now rest); quiet = λ rest may. led.quiet rest (may_any now rest) }

list_ends : {B : Type 0} {first : Bool} {so_far : Takes → Takes} {takes : B → Takes} (done : B) → takes done ≡ so_far may_comma_is →
    Ends first true false so_far takes
list_ends {takes = takes} done same = record { ends = λ was now r tokens q led. ended_self done (led_no_comma (takes done) same refl (led_any led)) }

-- the list ends here
pub end_leads : {B : Type 0} {x : Option Lexeme} {first : Bool} {so_far : Takes → Takes} {takes : B → Takes} (done : B) → passes is_comma x ≡ false →
    takes done ≡ so_far may_comma_is → LeadsAt x first true false so_far (give done) takes
end_leads {takes = takes} done none same = record {
  reached = λ r p is before b after e.
      let o = read_same e in
      let none_here : passes is_comma (next p.left) ≡ false = rw is none in
      rw (o.0, o.1) (record { tokens = before.tokens; left = before.left; taken = before.taken; led = led_no_comma (takes done) same none_here before.led });
  halts = λ r p is before fault token e. absurd cc;
  local = λ r p is before. give_local done;
}

-- or with a comma
comma_end_leads : {B : Type 0} {x : Lexeme} {first : Bool} {so_far : Takes → Takes} {takes : B → Takes} (done : B) → is_comma x ≡ true →
    takes done ≡ so_far may_comma_is → LeadsAt (Some x) first true false so_far (skip >>= λ _. give done) takes
comma_end_leads {x = x} {so_far = so_far} done passed same =
    one_leads (comma_one x passed) (λ _. leads_later false (give_leads done (same ∙ ap (λ t. so_far t) (sym (takes_nothing may_comma_is)))))

pub may_comma_meets : Meets true false may_comma (λ _. may_comma_is)
may_comma_meets =
    whole_meets (next_leads (list_ends tt refl) (λ x passed. comma_end_leads tt passed refl) (λ x none. end_leads tt none refl))

chose : {A : Type 0} (test : Bool) (holds fails : Reads A) (p : Point) → (choice test holds fails true p ≡ holds true p) ⊎ (choice test holds fails true p ≡ fails true p)
chose true holds fails p = inl refl
chose false holds fails p = inr refl

-- at a comma: an item after it, or the end of the list
comma_leads : {B : Type 0} {first : Bool} {so_far : Takes → Takes} {takes : B → Takes} (begins : Lexeme → Bool) (item : Reads B) (done : B) (x : Lexeme) →
    is_comma x ≡ true → Leads first true false (λ k. so_far (symbol_is Comma ⨾ k)) item takes → takes done ≡ so_far may_comma_is →
    LeadsAt (Some x) first true false so_far (skip >>= λ _. if_next begins item (give done)) takes
comma_leads begins item done x passed goes same =
    at_either {one = skip >>= λ _. item} {other = skip >>= λ _. give done}
    (λ p. chose (passes begins (next (past p.left))) item (give done) (record p { left = past p.left; taken = suc p.taken }))
    (λ r p is before. skip_local (λ _. if_next begins item (give done)) (look_local (λ x. choice (passes begins x) item (give done)) (choice_local (passes begins (next (past p.left)))
    (goes.local r (record p { left = past p.left; taken = suc p.taken }) (reached_step (token_one is_comma passed) is before)) (give_local done))))
    (skip_leads is_comma passed (λ _. goes)) (comma_end_leads done passed same)

-- ---- lists

module _ {A : Type 0} {reads : Reads A} {p : A → Takes} (item : Meets true true reads p) where
  -- after earlier items, in whatever form the grammar has them
  pub more_listed_leads : {first : Bool} (so_far : Takes → Takes) (takes : List A → Takes) →
      ((a : A) (as_ : List A) → takes (a ∷ as_) ≡ so_far (p a ⨾ rest_to p as_ may_comma_is)) → (begins : Lexeme → Bool) (turns : ℕ) (a : A) (as_ : List A) →
      Leads first true false (λ k. so_far (p a ⨾ rest_to p as_ k)) (more_listed turns begins reads (a ∷ as_)) takes
  more_listed_leads so_far takes same begins zero a as_ = stop_leads (list_ends (a ∷ as_) (same a as_))
  more_listed_leads so_far takes same begins (suc turns) a as_ =
      next_leads (list_ends (a ∷ as_) (same a as_))
      (λ x passed. comma_leads begins (reads >>= λ b. more_listed turns begins reads ((a ∷ as_) ++ (b ∷ []))) (a ∷ as_) x passed
      (after_leads item (λ b. leads_same (λ k. ap (λ t. so_far (p a ⨾ t)) (sym (rest_to-append p as_ b k)))
      (more_listed_leads so_far takes same begins turns a (as_ ++ (b ∷ [])))))
      (same a as_))
      (λ x none. end_leads (a ∷ as_) none (same a as_))

  -- a list in whatever form
  pub list_meets : (takes : List A → Takes) → ((a : A) (as_ : List A) → takes (a ∷ as_) ≡ (p a ⨾ rest_to p as_ may_comma_is)) → (begins : Lexeme → Bool)
      (turns : ℕ) → Meets true false (listed turns begins reads) takes
  list_meets takes same begins turns = whole_meets (after_leads item (λ a. more_listed_leads (λ k. k) takes same begins turns a []))

  pub listed_meets : (begins : Lexeme → Bool) (turns : ℕ) → Meets true false (listed turns begins reads) (listed_is p)
  listed_meets begins turns = list_meets (listed_is p) (λ a as_. commas_to p a as_ may_comma_is) begins turns

  pub may_list_meets : (begins : Lexeme → Bool) (turns : ℕ) → Meets true false (may_list turns begins reads) (may_list_is p)
  may_list_meets begins turns =
      whole_meets
      (if_next_leads begins (same_leads (list_meets (may_list_is p) (λ a as_. commas_to p a as_ may_comma_is) begins turns) (λ as_. refl))
      (leads_later false (give_leads [] refl)))

  -- without a comma at the end
  pub more_commas_leads : {first : Bool} (so_far : Takes → Takes) (takes : List A → Takes) →
      ((a : A) (as_ : List A) → takes (a ∷ as_) ≡ so_far (p a ⨾ rest_to p as_ nothing)) → (turns : ℕ) (a : A) (as_ : List A) →
      Leads first true true (λ k. so_far (p a ⨾ rest_to p as_ k)) (more_commas turns reads (a ∷ as_)) takes
  more_commas_leads so_far takes same zero a as_ = stop_leads (give_leads (a ∷ as_) (same a as_)).ends
  more_commas_leads so_far takes same (suc turns) a as_ =
      let done = give_leads (a ∷ as_) (same a as_) in
      next_leads done.ends
      (λ x passed. skip_leads is_comma passed
      (λ _. after_leads item (λ b. leads_same (λ k. ap (λ t. so_far (p a ⨾ t)) (sym (rest_to-append p as_ b k)))
      (more_commas_leads so_far takes same turns a (as_ ++ (b ∷ []))))))
      (λ x none. at_leads done)

  pub commas_meets : (turns : ℕ) → Meets true true (commas turns reads) (commas_is p)
  commas_meets turns =
      whole_meets
      (after_leads item (λ a. more_commas_leads (λ k. k) (commas_is p) (λ a as_. sym (takes_nothing (commas_is p (a ∷ as_))) ∙ commas_to p a as_ nothing) turns a []))
