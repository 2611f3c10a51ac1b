-- Statements that end with a semicolon, which is taken with their last part.
use Rattle.std.proofs.Common.{◌≡◌, ◌∙◌, sym, ap, refl, subst, ℕ, Bool, true, Ok, Err}
use Rattle.cmm_lexer.specs.declared.symbol.Symbol.TheVariants.{Semicolon}
use Rattle.cmm_grammar.specs.Reading.{Point, Answer, Read, Stopped, Reads, ◌>>=◌, and_then, give, symbol}
use Rattle.cmm_parser.specs.declared.fault.Stop.{Stop}
use Rattle.cmm_parser.specs.inside.Ended.{ended}
use Rattle.cmm_parser.specs.inside.Parsing.{Answered, Parsed}
use Rattle.cmm_parser.proofs.Steps.{stop_first}

-- what is made of the last part
abbrev made : {A B : Type 0} → (A → B) → A → Point → Answer B
made make a p = Read (make a) p

behind : {A B : Type 0} (make : A → B) (a : A) (o : Answer (Unit {0})) →
    and_then o (λ _ q. Read (make a) q) ≡ and_then (and_then o (λ _ q. Read a q)) (made make)
behind make a (Read _ q) = refl
behind make a (Stopped fault token) = refl

made_after : {A B : Type 0} (make : A → B) (o : Answer A) →
    and_then o (λ a p. and_then (symbol Semicolon true p) (λ _ q. Read (make a) q))
    ≡ and_then (and_then o (λ a p. and_then (symbol Semicolon true p) (λ _ q. Read a q))) (made make)
made_after make (Read a p) = behind make a (symbol Semicolon true p)
made_after make (Stopped fault token) = refl

pub ends : {A B : Type 0} {some : Bool} {before after : Point} {a : A} (last : ℕ → Reads A) (make : A → B) → Parsed some (λ fuel. ended (last fuel)) before (Ok a) after →
    Parsed some (λ fuel. last fuel >>= λ a. symbol Semicolon >>= λ _. give (make a)) before (Ok (make a)) after
ends {before = before} last make one = record {
  answers = λ fuel less. made_after make (last fuel true before) ∙ ap (λ o. and_then o (made make)) (one.answers fuel less);
  taken = one.taken;
}

pub stops_ending : {A B : Type 0} {some : Bool} {before after : Point} {e : Stop} (last : ℕ → Reads A) (make : A → B) → Parsed some (λ fuel. ended (last fuel)) before (Err e) after →
    Parsed some (λ fuel. last fuel >>= λ a. symbol Semicolon >>= λ _. give (make a)) before (Err e) after
stops_ending {before = before} {after = after} {e = e} last make one = record {
  answers = λ fuel less.
      subst (λ o. Answered o (Err e) after) (sym (made_after make (last fuel true before)))
      (stop_first e (ended (last fuel) true before) (made make) after after (one.answers fuel less));
  taken = tt;
}
