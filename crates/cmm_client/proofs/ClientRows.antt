-- Worked rows: main has called leaf, which yields 407 twice, and a script answers.
use Rattle.std.proofs.Common.{◌≡◌, ℕ, List, [], ◌∷◌, Ok, Err, Some, None, refl}
use Rattle.std.specs.Fmt as Fmt
use Rattle.std.specs.Prelude.{codes, flat_map}
use Rattle.rv_table.specs.Machine.{State}
use Rattle.cmm_rules.specs.declared.rule.Rule.TheVariants.{NoYieldedValue}
use Rattle.cmm_script.specs.declared.script.Block.{Block}
use Rattle.cmm_script.specs.declared.script.Command.{Command}
use Rattle.cmm_script.specs.declared.script.Command.TheVariants.{Next, Seek, Stop, Var, Youngest}
use Rattle.cmm_script.specs.declared.script.Value.TheVariants.{Number, Yielded}
use Rattle.cmm_script.specs.Walk.{line}
use Rattle.cmm_program.specs.Commands.{Answer, Stopped, Torn, numbers_given}
use Rattle.cmm_image_machine.specs.Frames.{breaks}
use Rattle.cmm_image_machine.proofs.Shared.{yielding}
use Rattle.cmm_walk.proofs.Shared.{leaf_activation, main_activation, region}
use Rattle.cmm_walk.proofs.Shared as walk
use Rattle.cmm_resume.specs.declared.refusal.Refusal.TheVariants.{ByRule}
use Rattle.cmm_client.specs.Yields.{at_chain, at_yield}
use Rattle.cmm_client.specs.inside.Counting.{block_of, count_at, or_other, own_block}
use Rattle.cmm_client.specs.inside.Replies.{first_numbers, ruled}

abbrev block : List Command → Block
block commands = record { code = None; commands = commands; lines = [] }

abbrev coded : ℕ → List Command → Block
coded code commands = record { code = Some code; commands = commands; lines = [] }

-- the lines of a yield of 407 twice, and of the answer, which stops
abbrev stops_with : List (List ℕ) → Answer State State
stops_with lines = record { text = flat_map line (codes "yield 407 407" ∷ lines); left = Stopped walk.at_yield }

-- the block of the first value answers, wherever it stands; refusals go on to the next command, and nothing runs behind a stop
own_answers :
    at_yield yielding region (record { blocks = coded 20 (Stop ∷ []) ∷ block (Youngest ∷ []) ∷ coded 407 (Next ∷ Var 0 ∷ Next ∷ Seek 1 (Yielded 2) ∷ Seek 1 (Yielded 1) ∷ Stop ∷ Youngest ∷ []) ∷ [] }) walk.at_yield
    ≡ stops_with (codes "at main site 0" ∷ codes "var 0 5" ∷ codes "refused 60" ∷ codes "refused 69" ∷ codes "refused 60" ∷ [])
unfolding Fmt.digits
own_answers = refl

-- a yield of another value is answered by the block for all others, which stops at its end
other_answers : at_yield yielding region (record { blocks = coded 20 (Stop ∷ []) ∷ block (Seek 1 (Number 10) ∷ []) ∷ [] }) walk.at_yield ≡ stops_with (codes "at main site 0" ∷ [])
unfolding Fmt.digits
other_answers = refl

none_answers : at_yield yielding region (record { blocks = coded 20 (Youngest ∷ []) ∷ [] }) walk.at_yield ≡ stops_with []
unfolding Fmt.digits
none_answers = refl

-- a chain that breaks at its first point has no yield
tears : at_chain yielding region (record { blocks = [] }) (breaks record { frame = 48; address = 3 }) walk.at_yield
    ≡ record { text = []; left = Torn (record { frame = 48; address = 3 }) walk.at_yield }
tears = refl

-- ---- what is yielded and given

leaf_yields : count_at yielding (Some leaf_activation) ≡ 2
leaf_yields = refl

main_yields : count_at yielding (Some main_activation) ≡ 0
main_yields = refl

first_of_two : or_other (own_block (7 ∷ 8 ∷ []) (coded 8 [] ∷ coded 7 (Stop ∷ []) ∷ [])) None ≡ Stop ∷ []
first_of_two = refl

other_of_two : block_of None (coded 8 [] ∷ block (Stop ∷ []) ∷ []) ≡ Some (block (Stop ∷ []))
other_of_two = refl

gives_both : first_numbers 2 (Ok (9 ∷ 8 ∷ 7 ∷ [])) ≡ ruled (numbers_given (8 ∷ []) (Number 9 ∷ Yielded 0 ∷ []))
gives_both = refl

gives_none : ruled (numbers_given (8 ∷ []) (Number 9 ∷ Yielded 1 ∷ [])) ≡ Err (ByRule NoYieldedValue)
gives_none = refl
