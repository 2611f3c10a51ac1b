-- Lists: how each is read.
use Rattle.std.proofs.Common.{◌≡◌, ℕ, zero, suc, ◌≤◌, ◌⊎◌, inl, inr, Bool, true, false, List, [], ◌∷◌, ◌++◌, Option, Some, None, refl, sym, ap, ◌∙◌, arith, append_assoc, append-nil, le_refl}
use Rattle.cmm_lexer.specs.declared.piece.Lexeme.{Lexeme}
use Rattle.cmm_lexer.specs.declared.piece.Lexeme.TheVariants as l
use Rattle.cmm_lexer.specs.declared.symbol.Symbol.TheVariants.{Comma}
use Rattle.cmm_lexer.specs.Spellings.{symbol_number}
use Rattle.cmm_grammar.specs.Taking.{Reading, Takes, ◌⨾◌, token, taken_if, symbol as symbol_is, may_comma, listed as listed_is, may_list as may_list_is}
use Rattle.cmm_grammar.specs.Reading.{Reads, ◌>>=◌, give, next, past, choice, passes, if_next, skip, is_comma, more_listed, listed, may_list}
use Rattle.cmm_grammar.specs.ReadingLaws.{point}
use Rattle.cmm_grammar.specs.inside.Duties.{passed, outcome, Moves, Complete}
use Rattle.cmm_grammar.proofs.Takings.{commas_to, rest_to}
use Rattle.cmm_grammar.proofs.Completes.{Only, Taken, moves_self, outcome_read, passed_same, after_complete, give_complete, fewer_complete, follow_complete, less_complete, holds_complete, fails_complete, skip_complete, token_taken, token_strict, taken_moves, same_complete}
use Rattle.cmm_grammar.proofs.Tokens.{only_symbol}

-- ---- what is taken is read

-- a comma, or what may follow the list
abbrev pub After : (Option Lexeme → Type 0) → Option Lexeme → Type 0
After follow x = (x ≡ Some (l.Symbol (symbol_number Comma))) ⊎ follow x

-- what the parts of a list begin with, and what may follow them and the list
pub record Parts (begins : Lexeme → Bool) (first follow_one follow : Option Lexeme → Type 0) : Type 0 where
  pub starts : (x : Option Lexeme) → first x → passes begins x ≡ true
  pub ends : (x : Option Lexeme) → follow x → passes begins x ≡ false
  pub no_comma : (x : Option Lexeme) → follow x → passes is_comma x ≡ false
  pub goes_on : (x : Option Lexeme) → After follow x → follow_one x

only_comma : Only is_comma (l.Symbol (symbol_number Comma))
only_comma = only_symbol Comma

not_taken : (test : Lexeme → Bool) (left : List Lexeme) (taken opens operators : ℕ) (over : Option ℕ) →
    token test (record { left = left; taken = taken; open_brackets = opens; operators = operators; over = over }) ≡ None → passes test (next left) ≡ false
not_taken test [] taken opens operators over e = refl
not_taken test (x ∷ xs) taken opens operators over e = by (test x) e where
  by : (b : Bool) → taken_if b xs (record { left = x ∷ xs; taken = taken; open_brackets = opens; operators = operators; over = over }) ≡ None → b ≡ false
  by true e = absurd cc
  by false e = refl

pub comma_or_not : (r after : Reading) → may_comma r ≡ Some after →
    Taken (l.Symbol (symbol_number Comma)) r after ⊎ ((passes is_comma (next r.left) ≡ false) × (after ≡ r))
comma_or_not r after e = by (token is_comma r) refl e where
  by : (o : Option Reading) → token is_comma r ≡ o → elim o as (λ _. Option Reading) [ Some x ↦ Some x | None ↦ Some r ] ≡ Some after →
      Taken (l.Symbol (symbol_number Comma)) r after ⊎ ((passes is_comma (next r.left) ≡ false) × (after ≡ r))
  by (Some x) is e = inl (token_taken is_comma (l.Symbol (symbol_number Comma)) r after only_comma (is ∙ e))
  by None is e = inr (not_taken is_comma r.left r.taken r.open_brackets r.operators r.over is, cc)

module _ {A : Type 0} (reads : Reads A) {begins : Lexeme → Bool} {first follow_one follow : Option Lexeme → Type 0}
    (parts : Parts begins first follow_one follow) where
  -- one more
  pub listed_step : {turns : ℕ} {one rest : Takes} {a : A} {tree : A → List A} (so_far : List A) → Complete turns one a reads first follow_one →
      ((b : A) → Complete turns rest (tree b) (more_listed turns begins reads (so_far ++ (b ∷ []))) (After follow) follow) →
      Complete (suc turns) (symbol_is Comma ⨾ one ⨾ rest) (tree a) (more_listed (suc turns) begins reads so_far) (After follow) follow
  listed_step so_far item rest =
      follow_complete (λ x e. inl e) (λ x f. f)
      (holds_complete is_comma (λ x e. rw e refl)
      (fewer_complete (token_strict only_comma) (skip_complete is_comma only_comma) (λ x f. tt)
      (λ _. holds_complete {fails = give so_far} begins parts.starts (after_complete item parts.goes_on rest))))

  -- and no more
  pub listed_end : {fuel : ℕ} (turns : ℕ) (so_far : List A) → Complete fuel may_comma so_far (more_listed (suc turns) begins reads so_far) (After follow) follow
  listed_end turns so_far = record {
    moves = λ r after e. moves r after (comma_or_not r after e);
    begins = λ r after e f. starts r after f (comma_or_not r after e);
    complete = λ limited r after e f less fits. read limited r after f fits (comma_or_not r after e);
  }
    where
      Ended : Reading → Reading → Type 0
      Ended r after = Taken (l.Symbol (symbol_number Comma)) r after ⊎ ((passes is_comma (next r.left) ≡ false) × (after ≡ r))

      moves : (r after : Reading) → Ended r after → Moves r after
      moves r after (inl t) = taken_moves _ r after t
      moves r after (inr o) = moves_self r after o.1

      starts : (r after : Reading) → follow (next after.left) → Ended r after → After follow (next r.left)
      starts r after f (inl t) = inl t.next_was
      starts r after f (inr o) = inr (rw o.1 at f)

      item : Reads (List A)
      item = reads >>= λ a. more_listed turns begins reads (so_far ++ (a ∷ []))

      after_comma : Reads (List A)
      after_comma = skip >>= λ _. if_next begins item (give so_far)

      read : (limited : Bool) (r after : Reading) → follow (next after.left) → passed limited r ≡ None → Ended r after →
          more_listed (suc turns) begins reads so_far limited (point r) ≡ outcome limited so_far after
      read limited r after f fits (inl t) =
          let comma_next : passes is_comma (next r.left) ≡ true = rw t.next_was refl in
          let item_next : passes begins (next (past r.left)) ≡ false = parts.ends (next (past r.left)) (rw t.after_is at f) in
          let there : Reading = record r { left = past r.left; taken = suc r.taken } in
          ap (λ b. choice b after_comma (give so_far) limited (point r)) comma_next
          ∙ ap (λ b. choice b item (give so_far) limited (point there)) item_next
          ∙ sym (rw t.after_is (outcome_read limited so_far there (passed_same limited r there refl ∙ fits)))
      read limited r after f fits (inr o) =
          ap (λ b. choice b after_comma (give so_far) limited (point r)) o.0 ∙ sym (rw o.1 (outcome_read limited so_far r fits))

-- ---- whole lists

-- no reader is asked for anything where there can be no tokens
pub zero_complete : {A : Type 0} {fuel : ℕ} {p : Takes} {a : A} {reads other : Reads A} {first follow : Option Lexeme → Type 0} →
    Complete fuel p a reads first follow → Complete zero p a other first follow
zero_complete one = record {
  moves = one.moves;
  begins = one.begins;
  complete = λ limited r after e f less fits. absurd (omega arith);
}

-- by how many turns are left
pub by_turns : {A : Type 0} {fuel : ℕ} {p : Takes} {a : A} {first follow : Option Lexeme → Type 0} (reads : ℕ → Reads A) →
    ((turns : ℕ) → turns ≤ fuel → Complete (suc turns) p a (reads (suc turns)) first follow) → (turns : ℕ) → turns ≤ fuel →
    Complete turns p a (reads turns) first follow
by_turns reads each zero le = zero_complete (each zero le)
by_turns reads each (suc turns) le = each turns (omega arith)

-- what each part of a list owes
abbrev pub Each : {A : Type 0} → (A → Type 0) → List A → Type 0
Each p [] = Unit {0}
Each p (a ∷ as_) = p a × Each p as_

pub each_of : {A : Type 0} {p : A → Type 0} → ((a : A) → p a) → (as_ : List A) → Each p as_
each_of every [] = tt
each_of every (a ∷ as_) = (every a, each_of every as_)

module _ {A : Type 0} (reads : Reads A) (p : A → Takes) {begins : Lexeme → Bool} {first follow_one follow : Option Lexeme → Type 0}
    (parts : Parts begins first follow_one follow) {fuel : ℕ} where
  pub more_listed_complete : (as_ so_far : List A) (turns : ℕ) → turns ≤ fuel → Each (λ a. Complete fuel (p a) a reads first follow_one) as_ →
      Complete turns (rest_to p as_ may_comma) (so_far ++ as_) (more_listed turns begins reads so_far) (After follow) follow
  more_listed_complete [] so_far turns le items =
      rw (append-nil so_far) (by_turns (λ n. more_listed n begins reads so_far) (λ n le. listed_end reads parts n so_far) turns le)
  more_listed_complete (a ∷ as_) so_far turns le items =
      by_turns (λ n. more_listed n begins reads so_far)
      (λ n le. listed_step reads parts {tree = λ b. so_far ++ (b ∷ as_)} so_far (less_complete le items.0) (λ b. rw (sym (append_assoc so_far (b ∷ []) as_))
      (more_listed_complete as_ (so_far ++ (b ∷ [])) n le items.1)))
      turns le

  pub list_complete : (a : A) (as_ : List A) → Each (λ a. Complete fuel (p a) a reads first follow_one) (a ∷ as_) →
      Complete fuel (p a ⨾ rest_to p as_ may_comma) (a ∷ as_) (listed fuel begins reads) first follow
  list_complete a as_ items = after_complete items.0 parts.goes_on (λ b. more_listed_complete as_ (b ∷ []) fuel (le_refl fuel) items.1)

  pub listed_complete : (a : A) (as_ : List A) → ((a : A) → Complete fuel (p a) a reads first follow_one) →
      Complete fuel (listed_is p (a ∷ as_)) (a ∷ as_) (listed fuel begins reads) first follow
  listed_complete a as_ item =
      same_complete (commas_to p a as_ may_comma)
      (list_complete a as_ (each_of item (a ∷ as_)))

  -- a list, or nothing
  pub may_list_complete : (as_ : List A) → ((a : A) → Complete fuel (p a) a reads first follow_one) →
      Complete fuel (may_list_is p as_) as_ (may_list fuel begins reads) (λ x. first x ⊎ follow x) follow
  may_list_complete [] item = follow_complete (λ x f. inr f) (λ x f. f) (fails_complete begins parts.ends (give_complete []))
  may_list_complete (a ∷ as_) item =
      follow_complete (λ x f. inl f) (λ x f. f) (holds_complete {fails = give []} begins parts.starts (listed_complete a as_ item))
