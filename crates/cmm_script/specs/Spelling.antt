-- How a script is written (a client of the run-time system of C-- Language Specification 2.0): which words a line of each form has,
-- and which lines a block has.
use Rattle.std.specs.Prelude.{◌≡◌, ℕ, ◌≤◌, Bool, List, [], ◌∷◌, ◌++◌, length, map, nat_eq, Option, Some, None, codes}
use Rattle.std.specs.List.{AllZip, IsDistinct, list_any}
use Rattle.std.specs.Option.{option_eq}
use Rattle.cmm_script.specs.declared.reader.TheConstants.{SCRIPT_LIMIT}
use Rattle.cmm_script.specs.declared.line.TheConstants.{VALUES_LIMIT}
use Rattle.cmm_script.specs.declared.script.Script.{Script}
use Rattle.cmm_script.specs.declared.script.Block.{Block}
use Rattle.cmm_script.specs.declared.script.Command.{Command}
use Rattle.cmm_script.specs.declared.script.Command.TheVariants.{List as ListAll, Youngest, Next, Desc, Seek, Var, Set, Poke, Return, Unwind, Cut, Stop}
use Rattle.cmm_script.specs.declared.script.Value.{Value}
use Rattle.cmm_script.specs.Words.{Word, Said, said_in}
use Rattle.cmm_script.specs.Numbers.{number_of, index_of, value_of}

-- words are these values, one each
pub record AreValues (ws : List Word) (vs : List Value) : Type 0 where
  pub each : AllZip (λ w v. value_of w ≡ Some v) ws vs
  pub few : length vs ≤ VALUES_LIMIT

-- a block's first line
abbrev pub SpellsHead : List Word → Option ℕ → Type 0
SpellsHead ws (Some code) = (C : Word) × (ws ≡ codes "at" ∷ C ∷ []) × (number_of C ≡ Some code)
SpellsHead ws None = ws ≡ codes "other" ∷ []

-- a command's line: T is a token, N a variable, L a label, O an offset, I an exit, V a value
abbrev pub SpellsCommand : List Word → Command → Type 0
SpellsCommand ws ListAll = ws ≡ codes "list" ∷ []
SpellsCommand ws Youngest = ws ≡ codes "youngest" ∷ []
SpellsCommand ws Next = ws ≡ codes "next" ∷ []
SpellsCommand ws (Desc t) = (T : Word) × (ws ≡ codes "desc" ∷ T ∷ []) × (number_of T ≡ Some t)
SpellsCommand ws (Seek t v) = (T : Word) × (V : Word) × (ws ≡ codes "seek" ∷ T ∷ V ∷ []) × (number_of T ≡ Some t) × (value_of V ≡ Some v)
SpellsCommand ws (Var n) = (N : Word) × (ws ≡ codes "var" ∷ N ∷ []) × (index_of N ≡ Some n)
SpellsCommand ws (Set n v) = (N : Word) × (V : Word) × (ws ≡ codes "set" ∷ N ∷ V ∷ []) × (index_of N ≡ Some n) × (value_of V ≡ Some v)
SpellsCommand ws (Poke l o v) = (O : Word) × (V : Word) × (ws ≡ codes "poke" ∷ l ∷ O ∷ V ∷ []) × (number_of O ≡ Some o) × (value_of V ≡ Some v)
SpellsCommand ws (Return i vs) = (I : Word) × (Vs : List Word) × (ws ≡ codes "return" ∷ I ∷ Vs) × (index_of I ≡ Some i) × AreValues Vs vs
SpellsCommand ws (Unwind i vs) = (I : Word) × (Vs : List Word) × (ws ≡ codes "unwind" ∷ I ∷ Vs) × (index_of I ≡ Some i) × AreValues Vs vs
SpellsCommand ws (Cut v vs) = (V : Word) × (Vs : List Word) × (ws ≡ codes "cut" ∷ V ∷ Vs) × (value_of V ≡ Some v) × AreValues Vs vs
SpellsCommand ws Stop = ws ≡ codes "stop" ∷ []

-- a line for each of these commands, and the number of each line
abbrev pub SpellsCommands : List Said → List Command → List ℕ → Type 0
SpellsCommands [] [] [] = Unit {0}
SpellsCommands (l ∷ ls) (c ∷ cs) (n ∷ ns) = SpellsCommand l.words c × (l.number ≡ n) × SpellsCommands ls cs ns
SpellsCommands ls cs ns = ⊥

-- a block: its head, and then its commands
abbrev pub SpellsBlock : List Said → Block → Type 0
SpellsBlock [] b = ⊥
SpellsBlock (l ∷ ls) b = SpellsHead l.words b.code × SpellsCommands ls b.commands b.lines

-- one block after another
abbrev pub SpellsBlocks : List Said → List Block → Type 0
SpellsBlocks ls [] = ls ≡ []
SpellsBlocks ls (b ∷ bs) = (front : List Said) × (rest : List Said) × (ls ≡ front ++ rest) × SpellsBlock front b × SpellsBlocks rest bs

-- some block has this code
abbrev pub has_code : Option ℕ → List Block → Bool
has_code code bs = list_any (λ b. option_eq nat_eq code b.code) bs

-- lines are these blocks, and no two of them have the same code
pub record AreBlocks (ls : List Said) (bs : List Block) : Type 0 where
  pub spelled : SpellsBlocks ls bs
  pub distinct : IsDistinct (option_eq nat_eq) (map (λ b. b.code) bs)

-- these bytes are this script
pub record SpellsScript (bytes : List ℕ) (s : Script) : Type 0 where
  pub short : length bytes ≤ SCRIPT_LIMIT
  pub blocks : AreBlocks (said_in bytes) s.blocks
