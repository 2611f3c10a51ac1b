-- Why bytes are no script: the first fault.
use Rattle.std.specs.Prelude.{◌≡◌, ℕ, true, ◌<◌, ◌≤◌, ◌⊎◌, List, [], ◌∷◌, ◌++◌, length, Option, Result, Ok, Err}
use Rattle.cmm_rules.specs.declared.rule.Rule.{Rule}
use Rattle.cmm_rules.specs.declared.rule.Rule.TheVariants.{UnknownLine, RepeatedBlock, ScriptTooLong}
use Rattle.cmm_script.specs.declared.fault.ScriptFault.{ScriptFault}
use Rattle.cmm_script.specs.declared.fault.ScriptFault.TheVariants.{At, Memory}
use Rattle.cmm_script.specs.declared.reader.TheConstants.{SCRIPT_LIMIT}
use Rattle.cmm_script.specs.declared.script.Script.{Script}
use Rattle.cmm_script.specs.declared.script.Block.{Block}
use Rattle.cmm_script.specs.declared.script.Command.{Command}
use Rattle.cmm_script.specs.Words.{Word, Said, said_in}
use Rattle.cmm_script.specs.Spelling.{has_code, SpellsHead, SpellsCommand, AreBlocks}

-- words are no line of a script
abbrev pub IsNoLine : List Word → Type 0
IsNoLine ws = ((code : Option ℕ) → SpellsHead ws code → ⊥) × ((c : Command) → SpellsCommand ws c → ⊥)

-- a line breaks a rule after the lines of these blocks
abbrev pub Breaks : List Block → List Word → Rule → Type 0
Breaks bs ws rule =
    ((rule ≡ UnknownLine) × (IsNoLine ws ⊎ ((bs ≡ []) × (c : Command) × SpellsCommand ws c)))
    ⊎ ((rule ≡ RepeatedBlock) × (code : Option ℕ) × SpellsHead ws code × (has_code code bs ≡ true))

-- the lines before one are blocks, and it breaks a rule
pub record BreaksFirst (ls : List Said) (rule : Rule) (line : ℕ) : Type 0 where
  pub before : List Said
  pub at : Said
  pub after : List Said
  pub parts : ls ≡ before ++ at ∷ after
  pub blocks : List Block
  pub sound : AreBlocks before blocks
  pub breaks : Breaks blocks at.words rule
  pub here : line ≡ at.number

-- The first fault of bytes. The length comes before the lines.
abbrev pub IsFirstFault : List ℕ → Rule → ℕ → Type 0
IsFirstFault bytes rule line =
    ((SCRIPT_LIMIT < length bytes) × (rule ≡ ScriptTooLong) × (line ≡ 1))
    ⊎ ((length bytes ≤ SCRIPT_LIMIT) × BreaksFirst (said_in bytes) rule line)

-- the fault of bytes that are no script is this one
abbrev pub ScriptFaultAt : List ℕ → ScriptFault → Type 0
ScriptFaultAt bytes Memory = Unit {0}
ScriptFaultAt bytes (At rule line) = IsFirstFault bytes rule line

-- an answer is this script, unless memory ran out
abbrev pub IsScript : Script → Result Script ScriptFault → Type 0
IsScript s (Ok t) = t ≡ s
IsScript s (Err Memory) = Unit {0}
IsScript s (Err (At r line)) = ⊥

-- an answer is this fault, unless memory ran out
abbrev pub IsRefusal : Rule → ℕ → Result Script ScriptFault → Type 0
IsRefusal rule line (Ok s) = ⊥
IsRefusal rule line (Err Memory) = Unit {0}
IsRefusal rule line (Err (At r n)) = (r ≡ rule) × (n ≡ line)
