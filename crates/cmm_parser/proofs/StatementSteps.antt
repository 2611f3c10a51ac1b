-- Steps of statements that hold blocks: a block is read with a count of its own, which is above the tokens that are left too.
use Rattle.std.proofs.Common.{◌≡◌, ◌∙◌, true, sym, ap, subst, ℕ, zero, suc, pred, ◌<◌, Bool, List, [], length, Result, Ok, Err, arith}
use Rattle.cmm_lexer.specs.declared.symbol.Symbol.TheVariants.{OpenBrace, CloseBrace}
use Rattle.cmm_ast.specs.declared.statement.Block.{Block}
use Rattle.cmm_ast.specs.declared.statement.Otherwise.{Otherwise}
use Rattle.cmm_ast.specs.declared.statement.Part.{Part}
use Rattle.cmm_grammar.specs.Reading.{Point, Read, Reads, ◌>>=◌, give, here, and_then, many, in_brackets, enclosed}
use Rattle.cmm_grammar.specs.StatementReading.{is_within, otherwise, part, part_of, block}
use Rattle.cmm_grammar.specs.declared.told_apart.PartForm.{PartForm}
use Rattle.cmm_ast.specs.declared.statement.Stmt.{Stmt}
use Rattle.cmm_ast.specs.declared.statement.StmtForm.{StmtForm}
use Rattle.cmm_lexer.specs.declared.piece.Lexeme.{Lexeme}
use Rattle.cmm_parser.specs.declared.fault.Stop.{Stop}
use Rattle.cmm_parser.specs.inside.Parsing.{Answered, Parsed, Takes, ParsedBlocks, ParsedChain, Stays}
use Rattle.cmm_parser.proofs.Steps.{stop_first}

-- with a count that is known
pub at_count : {A : Type 0} {some : Bool} {reads : ℕ → Reads A} {before after : Point} {result : Result A Stop} (n : ℕ) → length before.left < n →
    Parsed some reads before result after → Parsed some (λ fuel. reads n) before result after
at_count n less one = record { answers = λ fuel under. one.answers n less; taken = one.taken }

-- with one count twice
pub diagonal : {A : Type 0} {some : Bool} {before after : Point} {result : Result A Stop} (reads : ℕ → ℕ → Reads A) →
    ((turns : ℕ) → length before.left < turns → Parsed some (λ fuel. reads turns fuel) before result after) → Parsed some (λ fuel. reads fuel fuel) before result after
diagonal {before = before} reads each = record {
  answers = λ fuel less. (each fuel less).answers fuel less;
  taken = (each (suc (length before.left)) (omega arith)).taken;
}

-- by any count of blocks
pub by_depth : {A : Type 0} {some : Bool} {reads : ℕ → Reads Block → Reads A} {before after : Point} {result : Result A Stop} →
    ((depth : ℕ) → length before.left < depth → Parsed some (λ fuel. reads fuel (block depth)) before result after) → ParsedBlocks some reads before result after
by_depth {before = before} each = record { answers = each; taken = (each (suc (length before.left)) (omega arith)).taken }

-- by any count of turns and of blocks
pub by_chain : {A : Type 0} {some : Bool} {reads : ℕ → ℕ → Reads Block → Reads A} {before after : Point} {result : Result A Stop} →
    ((turns depth : ℕ) → length before.left < turns → length before.left < depth → Parsed some (λ fuel. reads turns fuel (block depth)) before result after) →
    ParsedChain some reads before result after
by_chain {before = before} each = record {
  answers = each;
  taken = (each (suc (length before.left)) (suc (length before.left)) (omega arith) (omega arith)).taken;
}

-- from the number of the next token on
pub after_here : {A : Type 0} {some : Bool} {before after : Point} {result : Result A Stop} (rest : ℕ → ℕ → Reads A) → Parsed some (rest before.taken) before result after →
    Parsed some (λ fuel. here >>= λ token. rest token fuel) before result after
after_here rest one = record { answers = one.answers; taken = one.taken }

-- ---- the `if` after an `else`

pub encloses : {A : Type 0} {some : Bool} {reads : ℕ → Reads A} {before within after : Point} {outside : ℕ} {a : A} → Parsed some reads before (Ok a) within →
    outside ≡ before.open_brackets → after ≡ record within { open_brackets = outside } → Parsed some (λ fuel. enclosed (reads fuel)) before (Ok a) after
encloses {A} {some} {reads} {before} {within} {after} {outside} {a} one same there =
    subst (λ p. Parsed some (λ fuel. enclosed (reads fuel)) before (Ok a) p) (sym (there ∙ ap (λ n. record within { open_brackets = n }) same)) (record {
      answers = λ fuel less. ap (λ o. and_then o (λ a p. Read a record p { open_brackets = before.open_brackets })) (one.answers fuel less);
      taken = one.taken;
    })

pub stops_enclosed : {A : Type 0} {some : Bool} {reads : ℕ → Reads A} {before within : Point} {e : Stop} → Parsed some reads before (Err e) within →
    Takes (λ fuel. enclosed (reads fuel)) before (Err e) within
stops_enclosed {reads = reads} {before = before} {within = within} {e = e} one = record {
  answers = λ fuel less. stop_first e (reads fuel true before) (λ a p. Read a record p { open_brackets = before.open_brackets }) within within (one.answers fuel less);
  taken = tt;
}

-- ---- after the block of an `if`

pub by_turns : {some : Bool} {before after : Point} {result : Result Otherwise Stop} (turns : ℕ) (blocks : Reads Block) → length before.left < turns →
    ((fewer : ℕ) → length before.left < suc fewer → Parsed some (λ fuel. otherwise (suc fewer) fuel blocks) before result after) →
    Parsed some (λ fuel. otherwise turns fuel blocks) before result after
by_turns zero blocks less each = absurd (omega arith)
by_turns (suc turns) blocks less each = each turns less

-- ---- blocks

-- the parts of a block, and the blocks in them read with this count
abbrev pub body_of : ℕ → Reads (List Part)
body_of depth = many (suc depth) is_within (part (suc depth) (block depth)) []

pub body_counts : {some : Bool} {before after : Point} {result : Result (List Part) Stop} →
    ((depth : ℕ) → length before.left < depth → Parsed some (λ fuel. many fuel is_within (part fuel (block depth)) []) before result after) →
    Parsed some body_of before result after
body_counts {before = before} each = record {
  answers = λ depth less. (each depth less).answers (suc depth) (omega arith);
  taken = (each (suc (length before.left)) (omega arith)).taken;
}

abbrev pub of_parts : List Part → Block
of_parts parts = record { parts = parts }

pub block_counts : {some : Bool} {before after : Point} {result : Result Block Stop} →
    Parsed some (λ fuel. in_brackets OpenBrace (body_of (pred fuel)) CloseBrace >>= λ parts. give (of_parts parts)) before result after →
    Parsed some block before result after
block_counts {some} {before} {after} {result} one = record { answers = answers; taken = one.taken } where
  answers : (fuel : ℕ) → length before.left < fuel → Answered (block fuel true before) result after
  answers zero less = absurd (omega arith)
  answers (suc fuel) less = one.answers (suc fuel) less

-- ---- by its first word

-- nothing was taken
pub still_less : {test : Lexeme → Bool} {before after : Point} (n : ℕ) → Stays test before after → length before.left < n → length after.left < n
still_less n stays less = subst (λ p. length p.left < n) (sym stays.there) less

-- ---- with the numbers of its first token and of the token after its last

pub numbered_stmt : (first past a b : ℕ) (form : StmtForm) → first ≡ a → past ≡ b →
    ◌≡◌ {A = Stmt} (record { token = first; past = past; form = form }) (record { token = a; past = b; form = form })
numbered_stmt first past a b form same other = cc

pub numbered_part : (first past a b : ℕ) (form : PartForm) → first ≡ a → past ≡ b → part_of first past form ≡ part_of a b form
numbered_part first past a b form same other = ap (λ n. part_of n past form) same ∙ ap (λ n. part_of a n form) other
