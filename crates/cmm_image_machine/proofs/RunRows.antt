-- Worked rows: an image runs for some hundred instructions, is walked, and is changed by each command.
use Rattle.std.proofs.Common.{◌≡◌, ℕ, List, [], ◌∷◌, ◌++◌, Some, refl, pos, negsuc}
use Rattle.std.specs.Prelude.{codes, flat_map, replicate}
use Rattle.cmm_script.specs.declared.script.Command.{Command}
use Rattle.cmm_script.specs.declared.script.Command.TheVariants.{List as ListAll, Youngest, Next, Desc, Seek, Var, Set, Poke, Return, Unwind, Cut, Stop}
use Rattle.cmm_script.specs.declared.script.Value.TheVariants.{Number, Yielded}
use Rattle.cmm_script.specs.Walk.{line, kind_byte}
use Rattle.rv_table.specs.declared.instruction.Instr.{Instr}
use Rattle.rv_table.specs.declared.instruction.Instr.TheVariants.{Addi, Auipc, Ecall, Jal, Ld, Lbu, Lui, Sd}
use Rattle.rv_table.specs.declared.trap.TrapKind.TheVariants.{BadLoad, BadTarget, NoInstruction, NoRequest}
use Rattle.cmm_words.specs.declared.width.Width.TheVariants.{W64}
use Rattle.cmm_image.specs.declared.rows.VariablePlace.TheVariants.{Dead}
use Rattle.cmm_program.specs.State.{Done, Stopped, StackLimit}
use Rattle.cmm_image_machine.specs.Machine.{Status, Running, Ended, Trapped, Torn, image_after}
use Rattle.cmm_image_machine.proofs.Samples.{call_row, image_of, yielding, spoiling, bare, launch, Seen, seen}
use Rattle.std.specs.Fmt as Fmt

-- what is seen once the image has run with this client for so long that it is over
abbrev told : List Command → Seen
told commands = seen (image_after (launch yielding commands) [] 300)

-- the yield's line and these
abbrev says : Status → List (List ℕ) → Seen
says status lines = record { status = status; output = []; log = flat_map line (codes "yield 20 7" ∷ lines) }

-- the normal exit is behind the alternate one: 7 + 407 + 5
returns : told (Return 1 [] ∷ []) ≡ says (Ended (Done 419)) (codes "resume" ∷ [])
unfolding Fmt.digits
returns = refl

-- 238 instructions, the yield's among them
takes_238 : seen (image_after (launch yielding (Return 1 [] ∷ [])) [] 237) ≡ says Running (codes "resume" ∷ [])
unfolding Fmt.digits
takes_238 = refl

takes_no_more : seen (image_after (launch yielding (Return 1 [] ∷ [])) [] 238) ≡ says (Ended (Done 419)) (codes "resume" ∷ [])
unfolding Fmt.digits
takes_no_more = refl

-- the alternate exit of leaf's yield, and by it that of main's call
returns_alternately : told (Return 0 (Number 4 ∷ []) ∷ []) ≡ says (Ended (Done 1009)) (codes "resume" ∷ [])
unfolding Fmt.digits
returns_alternately = refl

walks :
    told (ListAll ∷ Stop ∷ []) ≡ says (Ended Stopped) (
    codes "activation 0 leaf site 0"
    ∷ codes "var 0 bits64 \"\" 7"
    ∷ codes "var 1 bits8 \"\" 151"
    ∷ codes "activation 1 main site 0"
    ∷ codes "span 1 10"
    ∷ codes "span 2 20"
    ∷ codes "var 0 bits64 \"\" 5"
    ∷ codes "var 1 bits64 \"\" dead"
    ∷ codes "var 2 bits64 \"count\" 300"
    ∷ codes "end"
    ∷ [])
unfolding Fmt.digits kind_byte
walks = refl

-- the cursor, and what is asked at it
asks :
    told (Desc 1 ∷ Next ∷ Desc 1 ∷ Desc 3 ∷ Var 0 ∷ Var 1 ∷ Var 3 ∷ Next ∷ Youngest ∷ Seek 2 (Yielded 0) ∷ Seek 2 (Number 21) ∷ Seek 2 (Yielded 2)
    ∷ Var 2 ∷ []) ≡ says (Ended Stopped) (
    codes "desc 0" ∷ codes "at main site 0" ∷ codes "desc 10" ∷ codes "desc 0" ∷ codes "var 0 5" ∷ codes "var 1 dead" ∷ codes "refused 61"
    ∷ codes "refused 60" ∷ codes "at leaf site 0" ∷ codes "at main site 0" ∷ codes "refused 60" ∷ codes "refused 69" ∷ codes "var 2 300" ∷ [])
unfolding Fmt.digits
asks = refl

-- a variable in a slot, one in a register, and one whose register is saved in a younger frame: 9 + 8 + 50
sets :
    told (Set 0 (Number 9) ∷ Set 1 (Number 8) ∷ Var 1 ∷ Next ∷ Set 0 (Number 50) ∷ Var 0 ∷ Return 1 [] ∷ []) ≡ says (Ended (Done 67)) (
    codes "ok" ∷ codes "ok" ∷ codes "var 1 8" ∷ codes "at main site 0" ∷ codes "ok" ∷ codes "var 0 50" ∷ codes "resume" ∷ [])
unfolding Fmt.digits
sets = refl

sets_refused :
    told (Set 1 (Number 256) ∷ Set 2 (Number 0) ∷ Next ∷ Set 1 (Number 1) ∷ Set 2 (Number 1) ∷ Set 0 (Yielded 2) ∷ Return 1 [] ∷ [])
    ≡ says (Ended (Done 419)) (
    codes "refused 63" ∷ codes "refused 61" ∷ codes "at main site 0" ∷ codes "refused 62" ∷ codes "refused 66" ∷ codes "refused 69" ∷ codes "resume" ∷ [])
unfolding Fmt.digits
sets_refused = refl

pokes :
    told (Poke (codes "d") 8 (Number 1) ∷ Poke (codes "e") 0 (Number 1) ∷ Poke (codes "d") 4 (Number 1) ∷ Poke (codes "e") 8 (Number 1)
    ∷ Poke (codes "f") 0 (Number 1) ∷ Stop ∷ []) ≡ says (Ended Stopped) (
    codes "ok" ∷ codes "ok" ∷ codes "refused 68" ∷ codes "refused 68" ∷ codes "refused 68" ∷ [])
unfolding Fmt.digits
pokes = refl

-- main goes on with the value 4, and with its y as it was: 4 + 1000 + 5
unwinds :
    told (Unwind 0 (Number 4 ∷ []) ∷ Next ∷ Unwind 1 (Number 4 ∷ []) ∷ Unwind 0 [] ∷ Unwind 0 (Number 4 ∷ []) ∷ []) ≡ says (Ended (Done 1009)) (
    codes "refused 64" ∷ codes "at main site 0" ∷ codes "refused 64" ∷ codes "refused 65" ∷ codes "resume" ∷ [])
unfolding Fmt.digits
unwinds = refl

-- to main's continuation, whose pair is at 0x60001fe0, with the value 4 and w: 4 + 300
cuts :
    told (Cut (Number 5) [] ∷ Cut (Number 0x60001fb0) [] ∷ Cut (Number 0x60001fe0) [] ∷ Cut (Number 0x60001fe0) (Number 4 ∷ []) ∷ [])
    ≡ says (Ended (Done 304)) (codes "refused 67" ∷ codes "refused 67" ∷ codes "refused 65" ∷ codes "resume" ∷ [])
unfolding Fmt.digits
cuts = refl

-- no command resumes, and the run is stopped
stops : told (Youngest ∷ []) ≡ says (Ended Stopped) (codes "at leaf site 0" ∷ [])
unfolding Fmt.digits
stops = refl

-- ---- chains that break

-- a's place is that of the saved return address; once it is 0, the chain breaks behind leaf
abbrev spoiled : List Command → Seen
spoiled commands = seen (image_after (launch spoiling (Set 0 (Number 0) ∷ commands)) [] 300)

tears_at_main : spoiled (Youngest ∷ Next ∷ Stop ∷ []) ≡
    says (Torn (record { frame = 0x60001fd0; address = 0 })) (codes "ok" ∷ codes "at leaf site 0" ∷ [])
unfolding Fmt.digits
tears_at_main = refl

-- the lines before the break are written
tears_a_walk : spoiled (ListAll ∷ Stop ∷ []) ≡ says (Torn (record { frame = 0x60001fd0; address = 0 })) (
    codes "ok" ∷ codes "activation 0 leaf site 0" ∷ codes "var 0 bits64 \"\" 0" ∷ codes "var 1 bits8 \"\" 151" ∷ [])
unfolding Fmt.digits kind_byte
tears_a_walk = refl

-- no site cuts before the break
tears_a_cut : spoiled (Cut (Number 5) [] ∷ []) ≡ says (Torn (record { frame = 0x60001fd0; address = 0 })) (codes "ok" ∷ [])
unfolding Fmt.digits
tears_a_cut = refl

-- nothing that the client does comes to the break; leaf returns to 0, more 4
tears_not : spoiled (Return 1 [] ∷ []) ≡ says (Trapped BadTarget 4) (codes "ok" ∷ codes "resume" ∷ [])
unfolding Fmt.digits
tears_not = refl

-- ---- requests and traps

-- what a bare piece of code comes to, with an input and a client
abbrev comes_to : List Instr → List ℕ → List Command → Seen
comes_to code input commands = seen (image_after (launch (bare code) commands) input 20)

abbrev silent : Status → List ℕ → Seen
silent status output = record { status = status; output = output; log = [] }

echoes : comes_to (Addi 5 0 (pos 2) ∷ Ecall ∷ Addi 5 0 (pos 1) ∷ Ecall ∷ Addi 5 0 (pos 5) ∷ Ecall ∷ []) (65 ∷ 66 ∷ []) []
    ≡ silent (Ended (Done 65)) (65 ∷ [])
echoes = refl

-- the input has ended
echoes_none : comes_to (Addi 5 0 (pos 2) ∷ Ecall ∷ Addi 5 0 (pos 1) ∷ Ecall ∷ Addi 5 0 (pos 5) ∷ Ecall ∷ []) [] []
    ≡ silent (Ended (Done 18446744073709551615)) (255 ∷ [])
echoes_none = refl

passes_the_limit : comes_to (Addi 5 0 (pos 4) ∷ Ecall ∷ []) [] [] ≡ silent (Ended StackLimit) []
passes_the_limit = refl

asks_for_nothing : comes_to (Addi 5 0 (pos 6) ∷ Ecall ∷ []) [] [] ≡ silent (Trapped NoRequest 0x10004) []
asks_for_nothing = refl

loads_from_nowhere : comes_to (Ld 6 0 (pos 0) ∷ []) [] [] ≡ silent (Trapped BadLoad 0x10000) []
loads_from_nowhere = refl

loads_data : comes_to (Lui 6 (pos 0x40000) ∷ Lbu 10 6 (pos 3) ∷ Addi 5 0 (pos 5) ∷ Ecall ∷ []) [] [] ≡ silent (Ended (Done 4)) []
loads_data = refl

-- the yield's site is none, so no line of a yield is written
tears_at_once : comes_to (Addi 5 0 (pos 3) ∷ Ecall ∷ []) [] [] ≡ silent (Torn (record { frame = 0x60002000; address = 0 })) []
tears_at_once = refl

-- the code yields where main's caller would be: there is no activation
abbrev outside : List Command → Seen
outside commands = comes_to (Auipc 1 (pos 0) ∷ Addi 1 1 (pos 16) ∷ Addi 5 0 (pos 3) ∷ Ecall ∷ []) [] commands

nobody_yields : outside (ListAll ∷ Youngest ∷ Next ∷ Desc 1 ∷ Seek 1 (Number 0) ∷ Var 0 ∷ Set 0 (Number 1) ∷ Return 0 [] ∷ Unwind 0 [] ∷ Cut (Number 1) [] ∷ [])
    ≡ record {
      status = Ended Stopped;
      output = [];
      log = flat_map line (
          codes "yield" ∷ codes "end" ∷ codes "refused 60" ∷ codes "refused 60" ∷ codes "refused 60" ∷ codes "refused 60" ∷ codes "refused 60" ∷ codes "refused 60"
          ∷ codes "refused 60" ∷ codes "refused 60" ∷ codes "refused 67" ∷ []);
    }
unfolding Fmt.digits
nobody_yields = refl

-- the first word is no instruction
decodes_nothing : seen (image_after (launch (record (bare []) { code = 0 ∷ 0 ∷ 0 ∷ 0 ∷ [] }) []) [] 20) ≡ silent (Trapped NoInstruction 0x10000) []
decodes_nothing = refl

-- ---- more than eight values

-- the ninth value of a yield is the first word of the argument area, and the tenth value that comes back the second one
many : Seen
many = seen (image_after (launch (image_of (
    Addi 6 0 (pos 77) ∷ Sd 4 6 (pos 0) ∷ Addi 2 2 (negsuc 47) ∷ Jal 1 (pos 16) ∷ Ld 10 4 (pos 8) ∷ Addi 5 0 (pos 5) ∷ Ecall ∷ Addi 5 0 (pos 3) ∷ Ecall ∷ [])
    (record call_row {
      return_address = 0x10010;
      yield_values = Some 9;
      results = replicate 10 W64;
      returns = [];
      unwinds = [];
      cuts = [];
      variables = Dead ∷ Dead ∷ Dead ∷ [];
      spans = [];
    } ∷ []))
    (Return 0 (replicate 9 (Number 1)) ∷ Return 0 (replicate 9 (Number 1) ++ Number 123 ∷ []) ∷ [])) [] 20)

many_values : many ≡ record {
  status = Ended (Done 123);
  output = [];
  log = flat_map line (codes "yield 0 0 0 0 0 0 0 0 77" ∷ codes "refused 65" ∷ codes "resume" ∷ []);
}
unfolding many Fmt.digits
many_values = refl
