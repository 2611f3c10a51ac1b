-- Worked rows: what is seen of an image in the theory of following, and chains apart from runs.
use Rattle.std.proofs.Common.{◌≡◌, ℕ, List, [], ◌∷◌, Option, Some, None, refl, pos}
use Rattle.std.specs.Prelude.{codes, true, false}
use Rattle.cmm_script.specs.declared.script.Command.TheVariants.{Set, Next, Return}
use Rattle.cmm_script.specs.declared.script.Value.TheVariants.{Number}
use Rattle.cmm_script.specs.Walk.{Activation}
use Rattle.rv_table.specs.declared.instruction.Instr.TheVariants.{Addi, Ecall}
use Rattle.cmm_simulation.specs.Seen.{Event, Input, Client, End}
use Rattle.cmm_simulation.specs.Machine.{after}
use Rattle.cmm_program.specs.State.{Done, Stopped, StackLimit}
use Rattle.cmm_machine_laws.specs.Observed.{Call, Ending}
use Rattle.cmm_image_machine.specs.Machine.{Launch, first_run}
use Rattle.cmm_image_machine.specs.Observed.{image_machine}
use Rattle.cmm_image_machine.proofs.Samples.{yielding, spoiling, bare, launch}

-- where an image stands after n instructions
abbrev stands : Launch → ℕ → Option (Event Call Ending)
stands l n = (image_machine l).asks (after (image_machine l) n (first_run l []))

-- the activations of `yielding` at its yield, as a client sees them
abbrev both : List Activation
both =
    record {
      procedure = codes "leaf";
      site = 0;
      spans = [];
      variables = record { width = 64; kind = []; invariant = false; value = Some 7 } ∷ record { width = 8; kind = []; invariant = false; value = Some 151 } ∷ [];
    }
    ∷ record {
      procedure = codes "main";
      site = 0;
      spans = record { token = 1; value = 10 } ∷ record { token = 2; value = 20 } ∷ [];
      variables = record { width = 64; kind = []; invariant = false; value = Some 5 } ∷ record { width = 64; kind = []; invariant = false; value = None }
          ∷ record { width = 64; kind = codes "count"; invariant = true; value = Some 300 } ∷ [];
    }
    ∷ []

-- the 224th instruction is the yield's; nothing is logged before it is done
stands_at_a_yield : stands (launch yielding (Return 1 [] ∷ [])) 223 ≡ Some (Client record { values = 20 ∷ 7 ∷ []; walk = Some both })
stands_at_a_yield = refl

logs_nothing_yet : (image_machine (launch yielding [])).seen (after (image_machine (launch yielding [])) 223 (first_run (launch yielding []) []))
    ≡ record { output = []; log = []; taken = [] }
logs_nothing_yet = refl

-- to a stopped run its walk belongs
ends_stopped : stands (launch yielding []) 300 ≡ Some (End record { outcome = Stopped; walk = Some both })
ends_stopped = refl

-- unless its chain breaks
ends_broken : stands (launch spoiling (Set 0 (Number 0) ∷ [])) 300 ≡ Some (End record { outcome = Stopped; walk = None })
ends_broken = refl

ends_done : stands (launch yielding (Return 1 [] ∷ [])) 238 ≡ Some (End record { outcome = Done 419; walk = None })
ends_done = refl

-- a torn run stands at nothing, and has failed
stands_torn : stands (launch spoiling (Set 0 (Number 0) ∷ Next ∷ [])) 300 ≡ None
stands_torn = refl

fails_torn : (image_machine (launch spoiling (Set 0 (Number 0) ∷ Next ∷ []))).wrong
    (after (image_machine (launch spoiling (Set 0 (Number 0) ∷ Next ∷ []))) 300 (first_run (launch spoiling (Set 0 (Number 0) ∷ Next ∷ [])) [])) ≡ true
fails_torn = refl

-- an instruction that takes a byte, and one at the stack's limit
stands_at_input : stands (launch (bare (Addi 5 0 (pos 2) ∷ Ecall ∷ [])) []) 1 ≡ Some Input
stands_at_input = refl

ends_at_limit : stands (launch (bare (Addi 5 0 (pos 4) ∷ Ecall ∷ [])) []) 2 ≡ Some (End record { outcome = StackLimit; walk = None })
ends_at_limit = refl
