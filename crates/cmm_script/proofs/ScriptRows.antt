-- Rows of the format of scripts, by computing.
use Rattle.std.proofs.Common.{◌≡◌, [], ◌∷◌, map, codes, Some, None, refl, lit≤}
use Rattle.std.specs.List.{IsDistinct}
use Rattle.cmm_rules.specs.declared.rule.Rule.TheVariants.{UnknownLine, RepeatedBlock}
use Rattle.cmm_script.specs.declared.fault.ScriptFault.TheVariants.{At}
use Rattle.cmm_script.specs.declared.line.Line.TheVariants.{Begins, Does}
use Rattle.cmm_script.specs.declared.script.Command.TheVariants.{List as ListAll, Youngest, Next, Desc, Seek, Var, Set, Poke, Return, Unwind, Cut, Stop}
use Rattle.cmm_script.specs.declared.script.Value.TheVariants.{Number, Yielded}
use Rattle.cmm_script.specs.Words.{words_in, said_in}
use Rattle.cmm_script.specs.Numbers.{number_of, index_of, value_of}
use Rattle.cmm_script.specs.inside.Keywords.{keywords}
use Rattle.cmm_script.specs.inside.Reading.{values_of, exit_of, cut_of, line_as, line_of}
use Rattle.cmm_script.specs.Spelling.{SpellsHead, SpellsCommand, SpellsScript}
use Rattle.cmm_script.specs.Faults.{ScriptFaultAt}
use Rattle.cmm_script.proofs.Scripts.{made-script, made-fault}

-- what the rows compute with
unfoldable opened : Unit {0}
unfolding IsDistinct keywords values_of exit_of cut_of line_as line_of
opened = tt

-- spaces and tabs separate words, and byte 13 is part of one
row_words : words_in (codes "  desc\t0x1 \r") ≡ codes "desc" ∷ codes "0x1" ∷ codes "\r" ∷ []
row_words = refl

-- lines are counted from 1; empty lines, blank ones and comments are skipped
row_lines : map (λ line. line.number) (said_in (codes "at 1\n\n \t\n # at 2\nlist")) ≡ 1 ∷ 5 ∷ []
row_lines = refl

-- numbers
row_decimal : number_of (codes "0018446744073709551615") ≡ Some 18446744073709551615
row_decimal = refl

row_hexadecimal : number_of (codes "0x00fFfFfFfFfFfFfFfF") ≡ Some 18446744073709551615
row_hexadecimal = refl

row_too_large : number_of (codes "18446744073709551616") ≡ None
row_too_large = refl

row_no_digit : number_of (codes "0x") ≡ None
row_no_digit = refl

row_upper_x : number_of (codes "0X1") ≡ None
row_upper_x = refl

row_index : index_of (codes "4294967295") ≡ Some 4294967295
row_index = refl

row_large_index : index_of (codes "0x100000000") ≡ None
row_large_index = refl

-- values
row_yielded : value_of (codes "$063") ≡ Some (Yielded 63)
row_yielded = refl

row_no_yielded : value_of (codes "$64") ≡ None
row_no_yielded = refl

row_no_hexadecimal : value_of (codes "$0x1") ≡ None
row_no_hexadecimal = refl

-- heads, by value
row_at : SpellsHead (words_in (codes "at 0x1")) (Some 1)
row_at = (codes "0x1", refl, refl)

row_other : SpellsHead (words_in (codes "other")) None
row_other = refl

-- commands
row_seek : SpellsCommand (words_in (codes "seek 7 $0")) (Seek 7 (Yielded 0))
row_seek = (codes "7", codes "$0", refl, refl, refl)

row_poke : SpellsCommand (words_in (codes "poke a.b 0x10 5")) (Poke (codes "a.b") 16 (Number 5))
row_poke = (codes "0x10", codes "5", refl, refl, refl)

row_return : SpellsCommand (words_in (codes "return 1 2 $3")) (Return 1 (Number 2 ∷ Yielded 3 ∷ []))
row_return = (codes "1", codes "2" ∷ codes "$3" ∷ [], refl, refl, record { each = (refl, (refl, tt)); few = lit≤ tt })

-- each form of line is read as it is spelled
row_forms : map (λ line. line_of line.words) (said_in (codes "at 1\nother\nlist\nyoungest\nnext\ndesc 1\nseek 1 2\nvar 1\nset 1 2\npoke a 1 2\nreturn 0\nunwind 0 1\ncut $0 1\nstop\njump 1\nstop 1"))
    ≡ Some (Begins (Some 1)) ∷ Some (Begins None) ∷ Some (Does ListAll) ∷ Some (Does Youngest) ∷ Some (Does Next) ∷ Some (Does (Desc 1)) ∷ Some (Does (Seek 1 (Number 2))) ∷ Some (Does (Var 1)) ∷ Some (Does (Set 1 (Number 2)))
    ∷ Some (Does (Poke (codes "a") 1 (Number 2))) ∷ Some (Does (Return 0 [])) ∷ Some (Does (Unwind 0 (Number 1 ∷ []))) ∷ Some (Does (Cut (Yielded 0) (Number 1 ∷ []))) ∷ Some (Does Stop) ∷ None ∷ None ∷ []
unfolding opened
row_forms = refl

-- a whole script, with the line of each command
row_script : SpellsScript (codes "# c\nat 1\n\nlist\nother\nvar 2\nstop\n") (record {
  blocks = record { code = Some 1; commands = ListAll ∷ []; lines = 4 ∷ [] } ∷ record { code = None; commands = Var 2 ∷ Stop ∷ []; lines = 6 ∷ 7 ∷ [] } ∷ [];
})
unfolding opened
row_script = made-script (codes "# c\nat 1\n\nlist\nother\nvar 2\nstop\n") _ (lit≤ tt) refl

-- a line of none of the forms
row_jump : ScriptFaultAt (codes "at 1\nlist\njump 1") (At UnknownLine 3)
unfolding opened
row_jump = made-fault (codes "at 1\nlist\njump 1") (At UnknownLine 3) (lit≤ tt) refl

-- a command before the first block
row_no_block : ScriptFaultAt (codes "\nlist\nat 1") (At UnknownLine 2)
unfolding opened
row_no_block = made-fault (codes "\nlist\nat 1") (At UnknownLine 2) (lit≤ tt) refl

-- two spellings of one code
row_repeat : ScriptFaultAt (codes "at 1\nother\nat 0x01\njump") (At RepeatedBlock 3)
unfolding opened
row_repeat = made-fault (codes "at 1\nother\nat 0x01\njump") (At RepeatedBlock 3) (lit≤ tt) refl
