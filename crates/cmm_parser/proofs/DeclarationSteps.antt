-- Steps of declarations, procedures and units: what may be left out, and the number of the first token.
use Rattle.std.proofs.Common.{◌≡◌, subst, ℕ, zero, suc, pred, ◌<◌, Bool, true, false, IsTrue, IsFalse, length, Option, Some, None, MatchOption, Result, Ok, refl, arith}
use Rattle.cmm_lexer.specs.declared.piece.Lexeme.{Lexeme}
use Rattle.cmm_ast.specs.declared.expression.TypeName.{TypeName}
use Rattle.cmm_grammar.specs.Reading.{Point, Reads, ◌>>=◌, if_next, skip, give, here}
use Rattle.cmm_grammar.specs.ExpressionReading.{type_name}
use Rattle.cmm_grammar.specs.PartReading.{is_width}
use Rattle.cmm_grammar.specs.DeclarationReading.{bits}
use Rattle.cmm_grammar.specs.StatementReading.{block}
use Rattle.cmm_grammar.specs.UnitReading.{span, item, flat_item}
use Rattle.cmm_grammar.specs.Taking.{is_word}
use Rattle.cmm_lexer.specs.declared.keyword.Keyword.TheVariants.{Span as SpanWord}
use Rattle.cmm_ast.specs.declared.unit.Item.{Item}
use Rattle.cmm_parser.specs.declared.fault.Stop.{Stop}
use Rattle.cmm_parser.specs.inside.Parsing.{Answered, Parsed, Takes, MayTake, Skips, Stays, Bits}
use Rattle.cmm_parser.proofs.Steps.{loosely, steps, holds, takes, leaves, gives}

-- a word that may be left out was next or not
pub accepted : {test : Lexeme → Bool} {before between : Point} (found : Bool) → (IsTrue found → Skips test before between) → (IsFalse found → Stays test before between) →
    MayTake (λ fuel. if_next test (skip >>= λ _. give true) (give false)) before (Ok found) between
accepted true taken kept = loosely (takes (taken refl) gives)
accepted false taken kept = leaves (kept refl) gives

-- the number of the next token is kept
pub from_here : {A : Type 0} {some : Bool} {before after : Point} {token : ℕ} {result : Result A Stop} (rest : ℕ → ℕ → Reads A) → token ≡ before.taken →
    Parsed some (rest token) before result after → Parsed some (λ fuel. here >>= λ token. rest token fuel) before result after
from_here {A} {some} {before} {after} {token} {result} rest is one = record {
  answers = λ fuel less. subst (λ token. Answered (rest token fuel true before) result after) is (one.answers fuel less);
  taken = one.taken;
}

-- a reader of a value by another name
pub reads_same : {A B : Type 0} {some : Bool} {before after : Point} {a b : A} {result : Result B Stop} (rest : A → ℕ → Reads B) → a ≡ b → Parsed some (rest a) before result after →
    Parsed some (rest b) before result after
reads_same {some = some} {before = before} {after = after} {result = result} rest same one = subst (λ a. Parsed some (rest a) before result after) same one

-- a word for bits was next or not
pub bits_next : {before after : Point} {width : TypeName} → Bits width before after → MayTake (λ fuel. bits) before (Ok (Some width)) after
bits_next found =
    let typed : Takes (λ fuel. type_name) _ (Ok _) _ = record { answers = λ fuel less. found.reads; taken = found.fewer } in
    loosely (holds found.passing (steps _ typed gives))

pub no_bits : {before after : Point} → Stays is_width before after → MayTake (λ fuel. bits) before (Ok None) after
no_bits stays = leaves stays gives

pub may_bits : {before after : Point} (found : Option TypeName) → MatchOption found (Stays is_width before after) (λ width. Bits width before after) →
    MayTake (λ fuel. bits) before (Ok found) after
may_bits (Some width) is = bits_next is
may_bits None is = no_bits is

-- an item of a section by its first word: what a span holds is read with one turn less
abbrev pub item_turn : ℕ → Reads Item
item_turn fuel = if_next (is_word SpanWord) (span (pred fuel) (item (pred fuel) block)) (flat_item fuel (block fuel))

pub item_turned : {some : Bool} {before after : Point} {result : Result Item Stop} → Parsed some item_turn before result after → Parsed some (λ fuel. item fuel block) before result after
item_turned {some} {before} {after} {result} one = record { answers = by; taken = one.taken } where
  by : (fuel : ℕ) → length before.left < fuel → Answered (item fuel block true before) result after
  by zero less = absurd (omega arith)
  by (suc fuel) less = one.answers (suc fuel) less
