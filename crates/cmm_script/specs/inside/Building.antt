-- The blocks that lines make, from the first line on.
use Rattle.std.specs.Prelude.{◌≡◌, ℕ, true, false, if◌then◌else◌, List, [], ◌∷◌, ◌++◌, Option, Some, None, Result, Ok, Err}
use Rattle.cmm_rules.specs.declared.rule.Rule.{Rule}
use Rattle.cmm_rules.specs.declared.rule.Rule.TheVariants.{UnknownLine, RepeatedBlock}
use Rattle.cmm_script.specs.declared.fault.ScriptFault.{ScriptFault}
use Rattle.cmm_script.specs.declared.fault.ScriptFault.TheVariants.{At, Memory}
use Rattle.cmm_script.specs.declared.line.Line.{Line}
use Rattle.cmm_script.specs.declared.line.Line.TheVariants.{Begins, Does}
use Rattle.cmm_script.specs.declared.script.Block.{Block}
use Rattle.cmm_script.specs.declared.script.Command.{Command}
use Rattle.cmm_script.specs.Words.{Word, Said, is_skipped}
use Rattle.cmm_script.specs.inside.Reading.{line_of}
use Rattle.cmm_script.specs.Spelling.{has_code}

-- a block that has no command yet
abbrev pub begun : Option ℕ → Block
begun code = record { code = code; commands = []; lines = [] }

-- a block with one command more, from the line of this number
abbrev pub with_command : ℕ → Command → Block → Block
with_command n c b = record { code = b.code; commands = b.commands ++ c ∷ []; lines = b.lines ++ n ∷ [] }

-- the last block is changed
abbrev pub onto_last : (Block → Block) → List Block → List Block
onto_last f [] = []
onto_last f (b ∷ []) = f b ∷ []
onto_last f (b ∷ c ∷ bs) = b ∷ onto_last f (c ∷ bs)

-- a block begins
abbrev pub with_head : List Block → Option ℕ → Result (List Block) Rule
with_head bs code = if has_code code bs then Err RepeatedBlock else Ok (bs ++ begun code ∷ [])

-- the last block has a command more
abbrev pub with_last : List Block → ℕ → Command → Result (List Block) Rule
with_last [] n c = Err UnknownLine
with_last (b ∷ bs) n c = Ok (onto_last (with_command n c) (b ∷ bs))

-- the blocks with what one more line says
abbrev pub with_line : List Block → ℕ → Option Line → Result (List Block) Rule
with_line bs n None = Err UnknownLine
with_line bs n (Some (Begins code)) = with_head bs code
with_line bs n (Some (Does c)) = with_last bs n c

-- the blocks with one more line of these words
unfoldable pub with_words : List Block → ℕ → List Word → Result (List Block) Rule
with_words bs n ws = elim (is_skipped ws) [ true ↦ Ok bs | false ↦ with_line bs n (line_of ws) ]

-- the blocks with these lines too, or the first rule that is broken and the line that breaks it
abbrev pub blocks_after : List Block → List Said → Result (List Block) (Rule × ℕ)
blocks_after bs [] = Ok bs
blocks_after bs (l ∷ ls) = elim (with_line bs l.number (line_of l.words)) [ Err rule ↦ Err (rule, l.number) | Ok cs ↦ blocks_after cs ls ]

-- what a function returned about the line of this number, which left these blocks, unless memory ran out
abbrev pub Leaves : Result (Unit {0}) ScriptFault → ℕ → List Block → Result (List Block) Rule → Type 0
Leaves (Ok u) n left made = made ≡ Ok left
Leaves (Err Memory) n left made = Unit {0}
Leaves (Err (At rule line)) n left made = (line ≡ n) × (made ≡ Err rule)

-- what a function returned about all lines
abbrev pub Makes : Result (List Block) ScriptFault → Result (List Block) (Rule × ℕ) → Type 0
Makes (Ok bs) made = made ≡ Ok bs
Makes (Err Memory) made = Unit {0}
Makes (Err (At rule line)) made = made ≡ Err (rule, line)
