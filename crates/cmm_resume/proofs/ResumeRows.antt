-- Worked rows: what is found before a stopped image is changed.
use Rattle.std.proofs.Common.{◌≡◌, ℕ, List, [], ◌∷◌, Ok, Err, Some, None, refl}
use Rattle.std.specs.Prelude.{codes}
use Rattle.cmm_rules.specs.declared.rule.Rule.TheVariants.{NoVariable, DeadVariable, DoesNotFit, NoExit, OtherCount, InvariantVariable, NoCut}
use Rattle.cmm_abi.specs.Regions.{InMemory, InRegister, with_values}
use Rattle.cmm_program.specs.Commands.{cutting, returning}
use Rattle.cmm_image_machine.specs.Changes.{at_pc}
use Rattle.cmm_image_machine.specs.Frames.{Element}
use Rattle.cmm_image_machine.specs.Machine.{askable}
use Rattle.cmm_image_machine.proofs.Shared.{yielding}
use Rattle.cmm_walk.specs.Activations.{element_of}
use Rattle.cmm_walk.proofs.Shared.{at_yield, leaf_activation, main_activation, region}
use Rattle.cmm_resume.specs.declared.refusal.Refusal.TheVariants.{ByRule}
use Rattle.cmm_resume.specs.Cuts.{gone}
use Rattle.cmm_resume.specs.Finding.{Finds, label_place, landing_of, settable}

abbrev in_main : Element
in_main = element_of yielding main_activation

abbrev in_leaf : Element
in_leaf = element_of yielding leaf_activation

-- ---- set

-- main's first variable is where leaf has saved register 9
set_through_leaf : settable in_main 0 9 ≡ Ok (InMemory 0x60001fc0)
set_through_leaf = refl

set_in_a_register : settable in_leaf 1 255 ≡ Ok (InRegister 9)
set_in_a_register = refl

set_too_wide : settable in_leaf 1 256 ≡ Err DoesNotFit
set_too_wide = refl

set_dead : settable in_main 1 0 ≡ Err DeadVariable
set_dead = refl

set_invariant : settable in_main 2 0 ≡ Err InvariantVariable
set_invariant = refl

set_none : settable in_main 3 0 ≡ Err NoVariable
set_none = refl

-- ---- poke, in 16 bytes of data

poke_last : label_place 16 yielding (codes "e") 0 8 ≡ Some 0x40000008
poke_last = refl

poke_past : label_place 16 yielding (codes "e") 8 8 ≡ None
poke_past = refl

poke_odd : label_place 16 yielding (codes "d") 4 8 ≡ None
poke_odd = refl

poke_nowhere : label_place 16 yielding (codes "f") 0 8 ≡ None
poke_nowhere = refl

-- ---- unwind

unwind_lands : landing_of in_main 0 (5 ∷ []) ≡ Ok 0x10060
unwind_lands = refl

unwind_counts : landing_of in_main 0 [] ≡ Err OtherCount
unwind_counts = refl

unwind_nowhere : landing_of in_main 1 [] ≡ Err NoExit
unwind_nowhere = refl

-- ---- return and cut

returns_normally : Finds (returning (askable yielding region) at_yield 1 []) (λ address. at_pc address (with_values region [] at_yield)) (Ok 0x1009c)
returns_normally = refl

returns_nowhere : Finds (returning (askable yielding region) at_yield 2 []) (λ address. at_pc address (with_values region [] at_yield)) (Err (ByRule NoExit))
returns_nowhere = refl

cuts_to_main : Finds (cutting (askable yielding region) at_yield 0x60001fe0 (5 ∷ [])) (λ target. gone region at_yield target (5 ∷ [])) (Ok record { frame = 0x60001fd0; code = 0x10054 })
cuts_to_main = refl

cuts_nowhere : Finds (cutting (askable yielding region) at_yield 0x60001fe8 (5 ∷ [])) (λ target. gone region at_yield target (5 ∷ [])) (Err (ByRule NoCut))
cuts_nowhere = refl
