-- Steps of the readers of calls and statements: a token's number, a word for bits, steps grouped the other way, and parts by their first token.
use Rattle.std.proofs.Common.{◌≡◌, refl, subst, ℕ, Bool, true, Some, Result, Ok}
use Rattle.cmm_ast.specs.declared.expression.TypeName.{TypeName}
use Rattle.cmm_grammar.specs.Reading.{Point, Answer, Read, Stopped, Reads, ◌>>=◌, and_then, if_next, here}
use Rattle.cmm_grammar.specs.ExpressionReading.{type_name}
use Rattle.cmm_grammar.specs.PartReading.{is_width}
use Rattle.cmm_parser.specs.declared.fault.Stop.{Stop}
use Rattle.cmm_grammar.specs.StatementReading.{flat_by, of_stmt, symbol_stmt}
use Rattle.cmm_lexer.specs.declared.token.TokenKind.{TokenKind}
use Rattle.cmm_lexer.specs.declared.tokens.Tokens.{Tokens}
use Rattle.cmm_parser.specs.inside.Parsing.{Answered, Parsed, Takes, Bits}
use Rattle.cmm_parser.specs.Faults.{lexeme_in}
use Rattle.cmm_parser.proofs.Steps.{steps, holds}

-- the number of the next token first
pub at_token : {A : Type 0} {some : Bool} {before after : Point} {result : Result A Stop} {token : ℕ} (rest : ℕ → ℕ → Reads A) → token ≡ before.taken →
    Parsed some (rest token) before result after → Parsed some (λ fuel. here >>= λ token. rest token fuel) before result after
at_token {before = before} {after = after} {result = result} {token = token} rest same one = record {
  answers = λ fuel less. subst (λ token. Answered (rest token fuel true before) result after) same (one.answers fuel less);
  taken = one.taken;
}

regroups : {A B C : Type 0} (o : Answer A) (second : A → Point → Answer B) (third : B → Point → Answer C) →
    and_then (and_then o second) third ≡ and_then o (λ a p. and_then (second a p) third)
regroups (Read a p) second third = refl
regroups (Stopped fault token) second third = refl

-- the first two steps as one
pub regroup : {A B C : Type 0} {some : Bool} {before after : Point} {result : Result C Stop} (first : ℕ → Reads A) (second : A → ℕ → Reads B) (third : B → ℕ → Reads C) →
    Parsed some (λ fuel. (first fuel >>= λ a. second a fuel) >>= λ b. third b fuel) before result after →
    Parsed some (λ fuel. first fuel >>= λ a. second a fuel >>= λ b. third b fuel) before result after
regroup {before = before} {after = after} {result = result} first second third one = record {
  answers = λ fuel less.
      subst (λ o. Answered o result after) (regroups (first fuel true before) (λ a. second a fuel true) (λ b. third b fuel true)) (one.answers fuel less);
  taken = one.taken;
}

-- a word for bits is taken as a type
pub takes_bits : {A : Type 0} {some : Bool} {before between after : Point} {result : Result A Stop} {width : TypeName} {then_ : TypeName → ℕ → Reads A} {else_ : ℕ → Reads A} →
    Bits width before between → Parsed some (then_ width) between result after →
    Takes (λ fuel. if_next is_width (type_name >>= λ width. then_ width fuel) (else_ fuel)) before result after
takes_bits {then_ = then_} bits later =
    let typed : Takes (λ fuel. type_name) _ (Ok _) _ = record { answers = λ fuel under. bits.reads; taken = bits.fewer } in
    holds bits.passing (steps then_ typed later)

-- a part that begins with no name, text or reserved word
pub by_symbol : (tokens : Tokens) (kind : TokenKind) (fuel : ℕ) → ((x : ℕ) → kind ≡ TokenKind.Name x → ⊥) → ((x : ℕ) → kind ≡ TokenKind.Text x → ⊥) →
    ((x : ℕ) → kind ≡ TokenKind.Word x → ⊥) → flat_by fuel (Some (lexeme_in tokens kind)) ≡ of_stmt (symbol_stmt fuel)
by_symbol tokens (TokenKind.Name n) fuel no_name no_text no_word = absurd (no_name n refl)
by_symbol tokens (TokenKind.Text n) fuel no_name no_text no_word = absurd (no_text n refl)
by_symbol tokens (TokenKind.Word n) fuel no_name no_text no_word = absurd (no_word n refl)
by_symbol tokens (TokenKind.Symbol n) fuel no_name no_text no_word = refl
by_symbol tokens (TokenKind.Op n) fuel no_name no_text no_word = refl
by_symbol tokens (TokenKind.Int n) fuel no_name no_text no_word = refl
by_symbol tokens (TokenKind.Char n) fuel no_name no_text no_word = refl
by_symbol tokens (TokenKind.Checked n) fuel no_name no_text no_word = refl
