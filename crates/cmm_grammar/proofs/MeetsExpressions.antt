-- Readers of types, of literals and of alignments meet the grammar.
use Rattle.std.proofs.Common.{◌≡◌, ℕ, Bool, true, false, ◌||◌, List, [], ◌∷◌, Option, Some, None, refl, sym}
use Rattle.std.proofs.Math.Path.{fun_ext}
use Rattle.cmm_words.specs.declared.width.Width.{Width}
use Rattle.cmm_words.specs.declared.width.Width.TheVariants.{W8, W16, W32, W64}
use Rattle.cmm_lexer.specs.declared.piece.Lexeme.{Lexeme}
use Rattle.cmm_lexer.specs.declared.piece.Lexeme.TheVariants as l
use Rattle.cmm_ast.specs.declared.token.Int.{Int}
use Rattle.cmm_lexer.specs.declared.keyword.Keyword.TheVariants.{Align, Aligned}
use Rattle.cmm_ast.specs.declared.expression.TypeForm.TheVariants.{Bits, Named as OfName}
use Rattle.cmm_ast.specs.declared.expression.Number.TheVariants as number
use Rattle.cmm_grammar.specs.Taking.{Reading, ◌⨾◌, token, taken_if, is_word, is_name, optional as optional_is}
use Rattle.cmm_grammar.specs.ExpressionGrammar as grammar
use Rattle.cmm_grammar.specs.ExpressionGrammar.{width_word, number_of, prim_form, aligned_by}
use Rattle.cmm_grammar.specs.Reading.{◌>>=◌, give, look, skip, pick, int}
use Rattle.cmm_grammar.specs.ExpressionReading.{width_in, sized, type_by, type_name, number_in, typed, literal, aligned}
use Rattle.std.proofs.Math.Bool.{or-true}
use Rattle.cmm_grammar.proofs.Takings.{takes_nothing}
use Rattle.cmm_grammar.proofs.ExpressionForms.{found, typed_is, number_test, number_is, number_in_is}
use Rattle.cmm_grammar.proofs.Tokens.{same_bytes}
use Rattle.cmm_grammar.proofs.Meets.{Ends, Leads, LeadsAt, Meets, after_leads, whole_meets, give_leads, last_leads, meets_same, at_leads, look_leads, stop_leads, next_leads}
use Rattle.cmm_grammar.proofs.MeetsTokens.{ends_token, skip_leads, skip_last_leads, here_meets}
use Rattle.cmm_grammar.proofs.MeetsLists.{pick_meets, int_meets}

-- ---- types

type_form_meets : {first : Bool} → Meets first true (look type_by) grammar.type_form
type_form_meets {first} = whole_meets (look_leads some by) where
  -- a name is one
  some : Ends first first true (λ k. k) grammar.type_form
  some = ends_token (is_name []) (l.Name []) refl (λ e. refl) (give_leads (OfName []) (sym (takes_nothing (token (is_name []))))).ends

  of_word : (n : ℕ) (o : Option Width) → width_in n ≡ o → LeadsAt (Some (l.Word n)) first first true (λ k. k) (sized o) grammar.type_form
  of_word n (Some width) e =
      skip_last_leads (is_word (width_word width)) (Bits width)
      (found (λ w. is_word (width_word w) (l.Word n)) (W8 ∷ W16 ∷ W32 ∷ W64 ∷ []) width e) refl
  of_word n None e = at_leads (stop_leads some)

  by : (x : Option Lexeme) → LeadsAt x first first true (λ k. k) (type_by x) grammar.type_form
  by (Some (l.Word n)) = of_word n (width_in n) refl
  by (Some (l.Name bytes)) = skip_last_leads (is_name bytes) (OfName bytes) (same_bytes bytes) refl
  by _ = at_leads (stop_leads some)

pub type_name_meets : {first : Bool} → Meets first true type_name grammar.type_name
type_name_meets = whole_meets (after_leads here_meets (λ token. last_leads _ type_form_meets (λ form. refl)))

-- ---- literals

number_meets : {first : Bool} → Meets first true (pick number_in) number_of
number_meets = meets_same number_is (pick_meets number_in number_test number_in_is (l.Int 0) (number.Int 0) refl (λ e. refl))

pub typed_meets : Meets true true typed typed_is
typed_meets = whole_meets (next_leads none.ends (λ x passed. skip_leads _ passed (λ _. last_leads Some type_name_meets (λ t. refl))) (λ x fails. at_leads none)) where
  none : Leads true true true (λ k. k) (give None) typed_is
  none = give_leads None refl

pub literal_meets : {first : Bool} → Meets first true literal prim_form
literal_meets = whole_meets (after_leads number_meets (λ n. last_leads _ typed_meets (λ width. refl)))

-- ---- what an address is said to be a multiple of

abbrev either_word : Lexeme → Bool
either_word x = is_word Aligned x || is_word Align x

-- either word does
aligned_same : (i : Int) → aligned_by i ≡ (token either_word ⨾ grammar.int i)
aligned_same i = fun_ext (λ r. at r.left r.taken r.open_brackets r.operators r.over) where
  by : (one other : Bool) (xs : List Lexeme) (r : Reading) →
      elim (taken_if one xs r) as (λ _. Option Reading) [ Some after ↦ grammar.int i after | None ↦ (taken_if other xs ⨾ grammar.int i) r ]
      ≡ (taken_if (one || other) xs ⨾ grammar.int i) r
  by true other xs r = refl
  by false true xs r = refl
  by false false xs r = refl

  at : (left : List Lexeme) (taken opens operators : ℕ) (over : Option ℕ) →
      aligned_by i (record { left = left; taken = taken; open_brackets = opens; operators = operators; over = over })
      ≡ (token either_word ⨾ grammar.int i) (record { left = left; taken = taken; open_brackets = opens; operators = operators; over = over })
  at [] taken opens operators over = refl
  at (x ∷ xs) taken opens operators over =
      by (is_word Aligned x) (is_word Align x) xs
      (record { left = x ∷ xs; taken = taken; open_brackets = opens; operators = operators; over = over })

pub aligned_meets : Meets true true aligned (optional_is aligned_by)
aligned_meets =
    whole_meets
    (next_leads none.ends (λ x passed. some x (first x passed))
    (λ x fails. at_leads (next_leads none.ends (λ y passed. some y (second y passed)) (λ y fails. at_leads none))))
  where
    none : Leads true true true (λ k. k) (give None) (optional_is aligned_by)
    none = give_leads None refl

    first : (x : Lexeme) → is_word Aligned x ≡ true → either_word x ≡ true
    first x passed = rw passed refl

    second : (x : Lexeme) → is_word Align x ≡ true → either_word x ≡ true
    second x passed = rw passed (or-true (is_word Aligned x))

    some : (x : Lexeme) → either_word x ≡ true →
        LeadsAt (Some x) true true true (λ k. k) (skip >>= λ _. int >>= λ bytes. give (Some bytes)) (optional_is aligned_by)
    some x passed = skip_leads either_word passed (λ _. last_leads Some int_meets aligned_same)
