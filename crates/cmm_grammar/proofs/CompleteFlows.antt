-- Each list of annotations that what follows does not go on is read.
use Rattle.std.proofs.Common.{◌≡◌, ℕ, suc, ◌⊎◌, inl, inr, Bool, true, false, List, [], ◌∷◌, Option, Some, None, refl, sym, ap, ◌∙◌}
use Rattle.cmm_lexer.specs.declared.piece.Lexeme.{Lexeme}
use Rattle.cmm_lexer.specs.declared.piece.Lexeme.TheVariants as l
use Rattle.cmm_ast.specs.declared.token.Ident.{Ident}
use Rattle.cmm_lexer.specs.declared.keyword.Keyword.{Keyword}
use Rattle.cmm_lexer.specs.declared.keyword.Keyword.TheVariants.{Aborts, Also, Cuts, Never, Returns, To, Unwinds}
use Rattle.cmm_lexer.specs.declared.symbol.Symbol.TheVariants.{Comma}
use Rattle.cmm_ast.specs.declared.statement.Flow.{Flow}
use Rattle.cmm_ast.specs.declared.statement.FlowForm.{FlowForm}
use Rattle.cmm_ast.specs.declared.statement.FlowForm.TheVariants as flows
use Rattle.cmm_lexer.specs.Spellings.{keyword_number, symbol_number}
use Rattle.cmm_grammar.specs.Taking.{Reading, Takes, ◌⨾◌, is_word, here as here_is, keyword as keyword_is, listed as listed_is, may_comma as may_comma_is}
use Rattle.cmm_grammar.specs.ExpressionGrammar as grammar
use Rattle.cmm_grammar.specs.StatementGrammar as statements
use Rattle.cmm_grammar.specs.Reading.{Reads, ◌>>=◌, give, next, past, choice, passes, skip, is_comma, keyword, ident}
use Rattle.cmm_grammar.specs.ReadingLaws.{point}
use Rattle.cmm_grammar.specs.inside.Duties.{passed, outcome, Moves, Complete}
use Rattle.cmm_grammar.specs.PartReading.{is_any_name, begins_flow, may_comma, names_to, also, flow_form, flow, annotations}
use Rattle.cmm_grammar.proofs.Takings.{takes_assoc}
use Rattle.cmm_grammar.proofs.StatementForms.{flow_is, named_same}
use Rattle.cmm_grammar.proofs.Completes.{Next, Anything, Taken, moves_self, taken_moves, outcome_read, passed_same, after_complete, last_complete, follow_complete, holds_complete, fails_complete, skip_complete, token_strict, both, never_complete}
use Rattle.cmm_grammar.proofs.Tokens.{only_keyword, keyword_complete, ident_complete}
use Rattle.cmm_grammar.proofs.Lists.{Parts, each_of, comma_or_not, listed_complete}
use Rattle.cmm_grammar.proofs.CompleteRepeats.{Passes, Not, Spends, here_spends, strict_then, many_complete, same_spends}

-- an annotation ends before it
abbrev pub FlowEnd : Option Lexeme → Type 0
FlowEnd x = Not is_any_name x × Not is_comma x

-- ---- a comma that may stand

comma_moves : (r after : Reading) → Taken (l.Symbol (symbol_number Comma)) r after ⊎ ((passes is_comma (next r.left) ≡ false) × (after ≡ r)) → Moves r after
comma_moves r after (inl t) = taken_moves _ r after t
comma_moves r after (inr o) = moves_self r after o.1

comma_read : (limited : Bool) (r after : Reading) → passed limited r ≡ None →
    Taken (l.Symbol (symbol_number Comma)) r after ⊎ ((passes is_comma (next r.left) ≡ false) × (after ≡ r)) →
    may_comma limited (point r) ≡ outcome limited tt after
comma_read limited r after fits (inl t) =
    let there : Reading = record r { left = past r.left; taken = suc r.taken } in
    let comma_next : passes is_comma (next r.left) ≡ true = rw t.next_was refl in
    ap (λ b. choice b skip (give tt) limited (point r)) comma_next
    ∙ sym (rw t.after_is (outcome_read limited tt there (passed_same limited r there refl ∙ fits)))
comma_read limited r after fits (inr o) =
    ap (λ b. choice b skip (give tt) limited (point r)) o.0 ∙ sym (rw o.1 (outcome_read limited tt r fits))

pub may_comma_complete : {fuel : ℕ} {follow : Option Lexeme → Type 0} → Complete fuel may_comma_is tt may_comma Anything follow
may_comma_complete = record {
  moves = λ r after e. comma_moves r after (comma_or_not r after e);
  begins = λ r after e f. tt;
  complete = λ limited r after e f less fits. comma_read limited r after fits (comma_or_not r after e);
}

-- ---- names

names : Parts is_any_name (Passes is_any_name) Anything FlowEnd
names = record { starts = λ x b. b; ends = λ x e. e.0; no_comma = λ x e. e.1; goes_on = λ x e. tt }

names_to_complete : (fuel : ℕ) (make : List Ident → FlowForm) (names_ : List Ident) →
    Complete fuel (keyword_is To ⨾ listed_is grammar.ident names_) (make names_) (names_to fuel make) (Next (l.Word (keyword_number To))) FlowEnd
names_to_complete fuel make [] =
    never_complete (λ r after e. let s = both (keyword_is To) (listed_is grammar.ident []) r after e in no_names s.between after s.second) where
      no_names : (r after : Reading) → listed_is grammar.ident [] r ≡ Some after → ⊥
      no_names r after e = absurd cc
names_to_complete fuel make (i ∷ is) =
    after_complete {b = λ _. make (i ∷ is)} (keyword_complete To) (λ x f. tt)
    (λ _. last_complete make (listed_complete ident grammar.ident names i is
    (λ i. follow_complete (λ x e. rw e refl) (λ x f. tt) (ident_complete i))))

-- ---- annotations

-- what an annotation owes
abbrev pub FlowLaw : ℕ → FlowForm → Type 0
FlowLaw fuel form = Spends fuel (flow_is form) form (flow_form fuel) (Passes begins_flow) FlowEnd

-- where it is one word and what follows that
law_of : (fuel : ℕ) (form : FlowForm) (word : Keyword) (rest : Takes) → flow_is form ≡ (keyword_is word ⨾ rest) →
    ((r after : Reading) → rest r ≡ Some after → Moves r after) → Complete fuel (keyword_is word ⨾ rest) form (flow_form fuel) (Passes begins_flow) FlowEnd →
    FlowLaw fuel form
law_of fuel form word rest same moves complete =
    same_spends same (record { complete = complete; strict = strict_then (token_strict (only_keyword word)) moves })

also_law : (fuel : ℕ) (form : FlowForm) (rest : Takes) {first : Option Lexeme → Type 0} → flow_is form ≡ (keyword_is Also ⨾ rest) →
    Complete fuel rest form (also fuel) first FlowEnd → FlowLaw fuel form
also_law fuel form rest same complete =
    law_of fuel form Also rest same complete.moves
    (follow_complete (λ x e. rw e refl) (λ x f. f)
    (fails_complete (is_word Never) (λ x e. rw e refl)
    (after_complete {b = λ _. form} (keyword_complete Also) (λ x f. tt) (λ _. complete))))

word_then : (fuel : ℕ) (form : FlowForm) (verb : Keyword) (rest : Takes) (reads : Reads FlowForm) {first : Option Lexeme → Type 0} →
    Complete fuel rest form reads first FlowEnd →
    Complete fuel (keyword_is verb ⨾ rest) form (skip >>= λ _. reads) (Next (l.Word (keyword_number verb))) FlowEnd
word_then fuel form verb rest reads complete =
    after_complete {b = λ _. form} (skip_complete (is_word verb) (only_keyword verb)) (λ x f. tt) (λ _. complete)

pub flow_law : (fuel : ℕ) (form : FlowForm) → FlowLaw fuel form
flow_law fuel flows.Aborts =
    also_law fuel flows.Aborts (keyword_is Aborts ⨾ may_comma_is) (takes_assoc (keyword_is Also) (keyword_is Aborts) may_comma_is)
    (holds_complete (is_word Aborts) (λ x e. rw e refl)
    (word_then fuel flows.Aborts Aborts may_comma_is _ (last_complete (λ _. flows.Aborts) may_comma_complete)))
flow_law fuel (flows.CutsTo ns) =
    also_law fuel (flows.CutsTo ns) _ (named_same Cuts ns)
    (fails_complete (is_word Aborts) (λ x e. rw e refl)
    (holds_complete (is_word Cuts) (λ x e. rw e refl)
    (word_then fuel (flows.CutsTo ns) Cuts _ _ (names_to_complete fuel (λ n. flows.CutsTo n) ns))))
flow_law fuel (flows.UnwindsTo ns) =
    also_law fuel (flows.UnwindsTo ns) _ (named_same Unwinds ns)
    (fails_complete (is_word Aborts) (λ x e. rw e refl)
    (fails_complete (is_word Cuts) (λ x e. rw e refl)
    (holds_complete (is_word Unwinds) (λ x e. rw e refl)
    (word_then fuel (flows.UnwindsTo ns) Unwinds _ _ (names_to_complete fuel (λ n. flows.UnwindsTo n) ns)))))
flow_law fuel (flows.ReturnsTo ns) =
    also_law fuel (flows.ReturnsTo ns) _ (named_same Returns ns)
    (fails_complete (is_word Aborts) (λ x e. rw e refl)
    (fails_complete (is_word Cuts) (λ x e. rw e refl)
    (fails_complete (is_word Unwinds) (λ x e. rw e refl)
    (after_complete {b = λ _. flows.ReturnsTo ns} (keyword_complete Returns) (λ x f. tt) (λ _. names_to_complete fuel (λ n. flows.ReturnsTo n) ns)))))
flow_law fuel flows.NeverReturns =
    let rest : Complete fuel (keyword_is Returns ⨾ may_comma_is) flows.NeverReturns (keyword Returns >>= λ _. may_comma >>= λ _. give flows.NeverReturns)
    (Next (l.Word (keyword_number Returns))) FlowEnd =
    after_complete {b = λ _. flows.NeverReturns} (keyword_complete Returns) (λ x f. tt) (λ _. last_complete (λ _. flows.NeverReturns) may_comma_complete)
    in
    law_of fuel flows.NeverReturns Never (keyword_is Returns ⨾ may_comma_is) (takes_assoc (keyword_is Never) (keyword_is Returns) may_comma_is) rest.moves
    (follow_complete (λ x e. rw e refl) (λ x f. f)
    (holds_complete (is_word Never) (λ x e. rw e refl)
    (word_then fuel flows.NeverReturns Never (keyword_is Returns ⨾ may_comma_is) _ rest)))

flow_spends : (fuel : ℕ) (f : Flow) → Spends fuel (here_is f.token ⨾ flow_is f.form) f (flow fuel) (Passes begins_flow) FlowEnd
flow_spends fuel f = here_spends (λ token form. record { token = token; form = form }) f.token (flow_law fuel f.form)

-- no annotation goes on there
abbrev pub NoFlow : Option Lexeme → Type 0
NoFlow x = Not begins_flow x × FlowEnd x

flow_next : (x : Option Lexeme) → Passes begins_flow x ⊎ NoFlow x → FlowEnd x
flow_next (Some (l.Word n)) (inl e) = (refl, refl)
flow_next (Some _) (inl e) = absurd cc
flow_next None (inl e) = absurd cc
flow_next x (inr e) = e.1

pub annotations_complete : (fuel : ℕ) (fs : List Flow) →
    Complete fuel (statements.annotated fs) fs (annotations fuel) (λ x. Passes begins_flow x ⊎ NoFlow x) NoFlow
annotations_complete fuel fs =
    many_complete (flow fuel) (λ f. here_is f.token ⨾ flow_is f.form) (record { starts = λ x e. e; ends = λ x e. e.0; goes_on = flow_next }) fs
    (each_of (flow_spends fuel) fs)
