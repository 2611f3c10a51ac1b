-- What a method of the parser owes the reader of the same name: where there is memory, it answers what the reader answers.
use Rattle.std.specs.Prelude.{◌≡◌, ℕ, suc, ◌<◌, ◌≤◌, Bool, true, false, length, Option, Some, None, Result, Ok, Err, OnOk, IfOk}
use Rattle.cmm_words.specs.declared.width.Width.{Width}
use Rattle.cmm_lexer.specs.declared.keyword.Keyword.{Keyword}
use Rattle.cmm_lexer.specs.declared.piece.Lexeme.{Lexeme}
use Rattle.cmm_lexer.specs.declared.piece.Lexeme.TheVariants as l
use Rattle.cmm_grammar.specs.Reading.{Point, Unexpected, TooDeep, Answer, Read, Stopped, Reads, next, past, passes, and_then, if_next, skip_opening, stop as refuse, symbol}
use Rattle.cmm_grammar.specs.Taking.{is_word, is_sign}
use Rattle.cmm_lexer.specs.declared.keyword.Keyword.TheVariants.{If}
use Rattle.cmm_lexer.specs.declared.symbol.Symbol.{Symbol}
use Rattle.cmm_ast.specs.declared.expression.TypeName.{TypeName}
use Rattle.cmm_ast.specs.declared.statement.Block.{Block}
use Rattle.cmm_ast.specs.declared.expression.Prefix.{Prefix}
use Rattle.cmm_grammar.specs.ExpressionReading.{type_name, width_in, prefix_in}
use Rattle.cmm_grammar.specs.PartReading.{is_width}
use Rattle.cmm_grammar.specs.StatementReading.{block}
use Rattle.cmm_rules.specs.declared.rule.Rule.TheVariants as rules
use Rattle.cmm_parser.specs.Faults.{lexemes}
use Rattle.cmm_parser.specs.declared.fault.SyntaxFault.{SyntaxFault}
use Rattle.cmm_parser.specs.declared.fault.SyntaxFault.TheVariants as faults
use Rattle.cmm_parser.specs.declared.fault.Stop.{Stop}
use Rattle.cmm_parser.specs.declared.fault.Stop.TheVariants as stop
use Rattle.cmm_parser.specs.declared.parser.Parser.{Parser}

-- where a parser stands, as a reader sees it
unfoldable pub point_of : Parser → Point
point_of p = record { left = lexemes p.tokens.now p.rest.now; taken = p.taken; open_brackets = p.open; operators = p.operators }

-- the parser's answer is the reader's, want of memory aside
abbrev pub Answered : {A : Type 0} → Answer A → Result A Stop → Point → Type 0
Answered answer (Ok a) after = answer ≡ Read a after
Answered answer (Err (stop.Unexpected token)) after = answer ≡ Stopped Unexpected token
Answered answer (Err (stop.TooDeep token)) after = answer ≡ Stopped TooDeep token
Answered answer (Err stop.Memory) after = Unit {0}

-- the fault that a stop is
abbrev pub fault_of : Stop → SyntaxFault
fault_of (stop.Unexpected token) = faults.At rules.Syntax token
fault_of (stop.TooDeep token) = faults.At rules.TooDeep token
fault_of stop.Memory = faults.Memory

-- where something is read, whether it has a token or may be empty
abbrev pub Fewer : Bool → ℕ → ℕ → Type 0
Fewer true after before = after < before
Fewer false after before = after ≤ before

-- from one point to another a parser answers what this reader answers, for any count above the tokens that are left
pub record Parsed {A : Type 0} (some : Bool) (reads : ℕ → Reads A) (before : Point) (result : Result A Stop) (after : Point) : Type 0 where
  pub answers : (fuel : ℕ) → length before.left < fuel → Answered (reads fuel true before) result after
  pub taken : OnOk result (Fewer some (length after.left) (length before.left))

-- what is read has a token
abbrev pub Takes : {A : Type 0} → (ℕ → Reads A) → Point → Result A Stop → Point → Type 0
Takes reads before result after = Parsed true reads before result after

-- what is read may be empty
abbrev pub MayTake : {A : Type 0} → (ℕ → Reads A) → Point → Result A Stop → Point → Type 0
MayTake reads before result after = Parsed false reads before result after

-- as `Parsed`, of what may hold blocks, which are read by any count above the tokens that are left
pub record ParsedBlocks {A : Type 0} (some : Bool) (reads : ℕ → Reads Block → Reads A) (before : Point) (result : Result A Stop) (after : Point) : Type 0 where
  pub answers : (depth : ℕ) → length before.left < depth → Parsed some (λ fuel. reads fuel (block depth)) before result after
  pub taken : OnOk result (Fewer some (length after.left) (length before.left))

abbrev pub TakesBlocks : {A : Type 0} → (ℕ → Reads Block → Reads A) → Point → Result A Stop → Point → Type 0
TakesBlocks reads before result after = ParsedBlocks true reads before result after

abbrev pub MayTakeBlocks : {A : Type 0} → (ℕ → Reads Block → Reads A) → Point → Result A Stop → Point → Type 0
MayTakeBlocks reads before result after = ParsedBlocks false reads before result after

-- as `ParsedBlocks`, of a chain of `if`s, whose turns are counted by any such count too
pub record ParsedChain {A : Type 0} (some : Bool) (reads : ℕ → ℕ → Reads Block → Reads A) (before : Point) (result : Result A Stop) (after : Point) : Type 0 where
  pub answers : (turns depth : ℕ) → length before.left < turns → length before.left < depth →
      Parsed some (λ fuel. reads turns fuel (block depth)) before result after
  pub taken : OnOk result (Fewer some (length after.left) (length before.left))

abbrev pub TakesChain : {A : Type 0} → (ℕ → ℕ → Reads Block → Reads A) → Point → Result A Stop → Point → Type 0
TakesChain reads before result after = ParsedChain true reads before result after

abbrev pub MayTakeChain : {A : Type 0} → (ℕ → ℕ → Reads Block → Reads A) → Point → Result A Stop → Point → Type 0
MayTakeChain reads before result after = ParsedChain false reads before result after

-- after the next token
abbrev pub skipped : Point → Point
skipped p = record p { left = past p.left; taken = suc p.taken }

-- the next token passes a test, and is taken
pub record Skips (test : Lexeme → Bool) (before after : Point) : Type 0 where
  pub passing : passes test (next before.left) ≡ true
  pub there : after ≡ skipped before
  pub fewer : length after.left < length before.left

-- the next token does not, and nothing is taken
pub record Stays (test : Lexeme → Bool) (before after : Point) : Type 0 where
  pub failing : passes test (next before.left) ≡ false
  pub there : after ≡ before

-- no reserved word is next, and no symbol
abbrev pub NoWord : Option Lexeme → Type 0
NoWord x = (word : Keyword) → passes (is_word word) x ≡ false

abbrev pub NoSymbol : Option Lexeme → Type 0
NoSymbol x = (symbol : Symbol) → passes (is_sign symbol) x ≡ false

-- the width whose word is next, and the operator before an operand whose symbol is
abbrev pub width_next : Option Lexeme → Option Width
width_next (Some (l.Word n)) = width_in n
width_next _ = None

abbrev pub prefix_next : Option Lexeme → Option Prefix
prefix_next (Some (l.Symbol n)) = prefix_in n
prefix_next _ = None

-- the next token, which opens this bracket
abbrev pub opening : Symbol → Reads (Unit {0})
opening bracket = if_next (is_sign bracket) skip_opening refuse

-- the `if` after an `else`, which counts as an opening bracket
abbrev pub chaining : Reads (Unit {0})
chaining = if_next (is_word If) skip_opening refuse

-- the next token, which closes this bracket, outside of which n are open
abbrev pub closing : Symbol → ℕ → Reads (Unit {0})
closing bracket outside limited p = and_then (symbol bracket limited p) (λ _ after. Read tt record after { open_brackets = outside })

-- what was given is left aside
abbrev pub without : {A : Type 0} → Result A Stop → Result (Unit {0}) Stop
without (Ok a) = Ok tt
without (Err e) = Err e

-- the next token is taken as an opening bracket, and how many were open before it is given
pub record Opens (reads : Reads (Unit {0})) (before : Point) (result : Result ℕ Stop) (after : Point) : Type 0 where
  pub answers : Takes (λ fuel. reads) before (without result) after
  pub outside : IfOk result (λ outside. outside ≡ before.open_brackets)

-- the next token is a word for bits, which is taken as a type
pub record Bits (width : TypeName) (before after : Point) : Type 0 where
  pub passing : passes is_width (next before.left) ≡ true
  pub reads : type_name true before ≡ Read width after
  pub fewer : length after.left < length before.left
