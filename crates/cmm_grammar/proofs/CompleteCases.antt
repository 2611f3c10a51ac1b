-- Each case and arm of a switch is read, over how its block is.
use Rattle.std.proofs.Common.{ℕ, suc, ◌≤◌, inl, inr, List, [], ◌∷◌, ◌++◌, Option, refl, sym, ◌∙◌, append_assoc, append-nil, le_refl}
use Rattle.cmm_lexer.specs.declared.piece.Lexeme.{Lexeme}
use Rattle.cmm_lexer.specs.declared.piece.Lexeme.TheVariants as l
use Rattle.cmm_lexer.specs.declared.keyword.Keyword.TheVariants.{Case as CaseWord, Default}
use Rattle.cmm_lexer.specs.declared.symbol.Symbol.TheVariants.{Colon, Comma, OpenBrace}
use Rattle.cmm_lexer.specs.declared.symbol.Symbol.TheVariants as sign
use Rattle.cmm_ast.specs.declared.statement.Arm.{Arm}
use Rattle.cmm_ast.specs.declared.statement.Block.{Block}
use Rattle.cmm_ast.specs.declared.statement.Case.{Case}
use Rattle.cmm_ast.specs.declared.statement.Case.TheVariants as cases
use Rattle.cmm_ast.specs.declared.statement.Range.{Range}
use Rattle.cmm_lexer.specs.Spellings.{symbol_number}
use Rattle.cmm_grammar.specs.Taking.{Takes, ◌⨾◌, nothing, is_sign, symbol as symbol_is, commas as commas_is}
use Rattle.cmm_grammar.specs.StatementGrammar as bodies
use Rattle.cmm_grammar.specs.Reading.{Reads, ◌>>=◌, give, skip, is_comma, more_commas, commas}
use Rattle.cmm_grammar.specs.inside.Duties.{Complete}
use Rattle.cmm_grammar.specs.PartReading.{range}
use Rattle.cmm_grammar.specs.StatementReading.{case, is_within, arm}
use Rattle.cmm_grammar.proofs.Takings.{takes_nothing, rest_to, commas_to}
use Rattle.cmm_grammar.proofs.StatementForms.{arm_}
use Rattle.cmm_grammar.proofs.Completes.{Next, Anything, follow_complete, less_complete, after_complete, fewer_complete, give_complete, last_complete, holds_complete, fails_complete, skip_complete, here_complete, token_strict, never_complete, same_complete}
use Rattle.cmm_grammar.proofs.Tokens.{only_symbol, symbol_complete}
use Rattle.cmm_grammar.proofs.Lists.{After, Each, each_of, by_turns}
use Rattle.cmm_grammar.proofs.CompleteExpressions.{Begins, Ends, ends_before}
use Rattle.cmm_grammar.proofs.CompleteParts.{range_complete}
use Rattle.cmm_grammar.proofs.CompleteRepeats.{Passes, Not, Spends, strict_then, here_strict, if_word_spends, not_next_spends, follow_spends, keyword_spends}

-- ---- with a comma between two

module _ {A : Type 0} (reads : Reads A) (p : A → Takes) (first : Option Lexeme → Type 0) {follow_one follow : Option Lexeme → Type 0}
    (goes_on : (x : Option Lexeme) → After follow x → follow_one x) (no_comma : (x : Option Lexeme) → follow x → Not is_comma x) where
  -- one more
  commas_step : {turns : ℕ} {one rest : Takes} {a : A} {tree : A → List A} (so_far : List A) → Complete turns one a reads first follow_one →
      ((b : A) → Complete turns rest (tree b) (more_commas turns reads (so_far ++ (b ∷ []))) (After follow) follow) →
      Complete (suc turns) (symbol_is Comma ⨾ one ⨾ rest) (tree a) (more_commas (suc turns) reads so_far) (After follow) follow
  commas_step so_far item rest =
      follow_complete (λ x e. inl e) (λ x f. f)
      (holds_complete {fails = give so_far} is_comma (λ x e. rw e refl)
      (fewer_complete (token_strict (only_symbol Comma)) (skip_complete is_comma (only_symbol Comma)) (λ x f. tt)
      (λ _. after_complete item goes_on rest)))

  more_commas_complete : {fuel : ℕ} (as_ so_far : List A) (turns : ℕ) → turns ≤ fuel → Each (λ a. Complete fuel (p a) a reads first follow_one) as_ →
      Complete turns (rest_to p as_ nothing) (so_far ++ as_) (more_commas turns reads so_far) (After follow) follow
  more_commas_complete [] so_far turns le items =
      rw (append-nil so_far)
      (by_turns (λ n. more_commas n reads so_far)
      (λ n le. follow_complete (λ x f. inr f) (λ x f. f)
      (fails_complete {holds = skip >>= λ _. reads >>= λ a. more_commas n reads (so_far ++ (a ∷ []))} is_comma no_comma (give_complete so_far)))
      turns le)
  more_commas_complete (a ∷ as_) so_far turns le items =
      by_turns (λ n. more_commas n reads so_far)
      (λ n le. commas_step {tree = λ b. so_far ++ (b ∷ as_)} so_far (less_complete le items.0) (λ b. rw (sym (append_assoc so_far (b ∷ []) as_))
      (more_commas_complete as_ (so_far ++ (b ∷ [])) n le items.1)))
      turns le

  -- one or more
  pub commas_complete : (fuel : ℕ) (as_ : List A) → ((a : A) → Complete fuel (p a) a reads first follow_one) →
      Complete fuel (commas_is p as_) as_ (commas fuel reads) first follow
  commas_complete fuel [] item = never_complete (λ r after e. absurd cc)
  commas_complete fuel (a ∷ as_) item =
      same_complete (sym (takes_nothing (commas_is p (a ∷ as_))) ∙ commas_to p a as_ nothing)
      (after_complete (item a) goes_on (λ b. more_commas_complete as_ (b ∷ []) fuel (le_refl fuel) (each_of item as_)))

-- ---- cases

-- a range of a case ends before it
abbrev RangeEnd : Option Lexeme → Type 0
RangeEnd x = Ends 0 x × Not (is_sign sign.Range) x

range_end : (x : Option Lexeme) → After (Next (l.Symbol (symbol_number Colon))) x → RangeEnd x
range_end x (inl e) = (ends_before Comma refl refl x e, rw e refl)
range_end x (inr e) = (ends_before Colon refl refl x e, rw e refl)

ranges_complete : (fuel : ℕ) (found : List Range) →
    Complete fuel (commas_is bodies.range found) found (commas fuel (range fuel)) Begins (Next (l.Symbol (symbol_number Colon)))
ranges_complete fuel found = commas_complete (range fuel) bodies.range Begins range_end (λ x e. rw e refl) fuel found (range_complete fuel)

pub case_spends : (fuel : ℕ) (c : Case) → Spends fuel (bodies.case c) c (case fuel) (Passes is_within) Anything
case_spends fuel (cases.Ranges found) =
    follow_spends (λ x e. rw e refl) (λ x f. f)
    (not_next_spends _ (λ x e. rw e refl)
    (keyword_spends CaseWord
    (after_complete (ranges_complete fuel found) (λ x e. e) (λ found. last_complete (λ _. cases.Ranges found) (symbol_complete Colon)))))
case_spends fuel cases.Default =
    follow_spends (λ x e. rw e refl) (λ x f. f) (if_word_spends Default (last_complete (λ _. cases.Default) (symbol_complete Colon)))

-- ---- arms

pub arm_spends : {fuel : ℕ} {blocks : Reads Block} (a : Arm) →
    Complete fuel (bodies.block a.body) a.body blocks (Next (l.Symbol (symbol_number OpenBrace))) Anything →
    Spends (suc fuel) (arm_ a) a (arm (suc fuel) blocks) (Passes is_within) Anything
arm_spends {fuel} a body = record {
  complete = after_complete {b = λ n. record { token = n; case = a.case; body = a.body }} (here_complete a.token) (λ x f. f) (λ n.
      fewer_complete {b = λ what. record { token = n; case = what; body = a.body }} (case_spends (suc fuel) a.case).strict
      (case_spends (suc fuel) a.case).complete (λ x f. tt) (λ what. last_complete (λ body. record { token = n; case = what; body = body }) body));
  strict = here_strict a.token (strict_then (case_spends (suc fuel) a.case).strict body.moves);
}
