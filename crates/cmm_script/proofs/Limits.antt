-- What is spelled gives few values.
use Rattle.std.proofs.Common.{ℕ, List, [], ◌∷◌, arith}
use Rattle.std.specs.List.{All}
use Rattle.std.proofs.lemmas.List.Elements.{All-nil, All-cons}
use Rattle.cmm_script.specs.declared.script.Block.{Block}
use Rattle.cmm_script.specs.declared.script.Command.{Command}
use Rattle.cmm_script.specs.declared.script.Command.TheVariants.{List as ListAll, Youngest, Next, Desc, Seek, Var, Set, Poke, Return, Unwind, Cut, Stop}
use Rattle.cmm_script.specs.declared.script.Script.{Script}
use Rattle.cmm_script.specs.Limits.{GivesFew, HasFewValues}
use Rattle.cmm_script.specs.Spelling.{SpellsBlocks, SpellsCommand, SpellsCommands, SpellsScript}
use Rattle.cmm_script.specs.Words.{Word, Said}

gives_few : (ws : List Word) (c : Command) → SpellsCommand ws c → GivesFew c
gives_few ws (Return i vs) (I, Vs, e, h, k) = k.few
gives_few ws (Unwind i vs) (I, Vs, e, h, k) = k.few
gives_few ws (Cut v vs) (V, Vs, e, h, k) = k.few
gives_few ws ListAll h = omega arith
gives_few ws Youngest h = omega arith
gives_few ws Next h = omega arith
gives_few ws (Desc t) h = omega arith
gives_few ws (Seek t v) h = omega arith
gives_few ws (Var n) h = omega arith
gives_few ws (Set n v) h = omega arith
gives_few ws (Poke l o v) h = omega arith
gives_few ws Stop h = omega arith

all_give_few : (ls : List Said) (cs : List Command) (ns : List ℕ) → SpellsCommands ls cs ns → All GivesFew cs
all_give_few [] [] [] h = All-nil GivesFew
all_give_few (l ∷ ls) (c ∷ cs) (n ∷ ns) (spelled, place, rest) = All-cons GivesFew c cs (gives_few l.words c spelled) (all_give_few ls cs ns rest)
all_give_few [] [] (n ∷ ns) h = absurd h
all_give_few [] (c ∷ cs) ns h = absurd h
all_give_few (l ∷ ls) [] ns h = absurd h
all_give_few (l ∷ ls) (c ∷ cs) [] h = absurd h

blocks_give_few : (ls : List Said) (bs : List Block) → SpellsBlocks ls bs → All (λ b. All GivesFew b.commands) bs
blocks_give_few ls [] h = All-nil (λ x. All GivesFew x.commands)
blocks_give_few ls (b ∷ bs) (l ∷ front, rest, is, (head, commands), more) = All-cons (λ x. All GivesFew x.commands) b bs (all_give_few front b.commands b.lines commands) (blocks_give_few rest bs more)
blocks_give_few ls (b ∷ bs) ([], rest, is, none, more) = absurd none

pub scripts_give_few : (bytes : List ℕ) (s : Script) → SpellsScript bytes s → HasFewValues s
scripts_give_few bytes s h = blocks_give_few _ s.blocks h.blocks.spelled
