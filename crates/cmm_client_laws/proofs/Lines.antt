-- The line of a yield is written by the ECALL.
use Rattle.std.proofs.Common.{◌≡◌, ℕ, zero, suc, ◌+◌, ◌≤◌, List, [], ◌∷◌, ◌++◌, Option, Some, None, refl, sym, ap, ◌∙◌, subst, arith}
use Rattle.rv_table.specs.declared.request.Request.TheVariants as request
use Rattle.rv_table.specs.Machine as rv
use Rattle.rv_table.specs.Machine.{State, instruction_step}
use Rattle.cmm_abi.specs.Regions.{Place, Region, InRegister, InMemory, value_place, values_from, values_in, word_at}
use Rattle.cmm_simulation.proofs.Prefixes.{prefix_trans}
use Rattle.cmm_simulation.proofs.Runs.{grows_until}
use Rattle.cmm_simulation.specs.Machine.{Machine, Stands, after}
use Rattle.cmm_simulation.specs.Seen.{Seen, Client, IsPrefix}
use Rattle.cmm_script.specs.Lines.{yield_line}
use Rattle.cmm_script.specs.Walk.{Activation}
use Rattle.cmm_program.specs.Asking.{Break, Chain}
use Rattle.cmm_program.specs.Commands as client
use Rattle.cmm_program.specs.Commands.{Left}
use Rattle.cmm_machine_laws.specs.Observed.{Call, Ending}
use Rattle.cmm_image_machine.specs.Changes.{at_pc}
use Rattle.cmm_image_machine.specs.Frames.{Element, chain_of}
use Rattle.cmm_image_machine.specs.Machine.{Launch, Run, Status, Running, Ended, Trapped, Torn, after_instruction, answered, goes_on, left, map_of, region_of, requested, yielded, yielded_at, yields}
use Rattle.cmm_image_machine.specs.Observed.{asked_at, call_at, event_at, image_machine}
use Rattle.cmm_image_machine.specs.Walks.{walk_along}
use Rattle.cmm_image_machine.proofs.Shared.{images_last}
use Rattle.cmm_client_laws.specs.Lines.{LinesAreWritten}

-- ---- wherever control is, the values of a yield are the same

word_same : (t : State) (pc : ℕ) (place : Place) → word_at (at_pc pc t) place ≡ word_at t place
word_same t pc (InRegister r) = refl
word_same t pc (InMemory a) = refl

values_same : (r : Region) (t : State) (pc k count : ℕ) → values_from r (at_pc pc t) k count ≡ values_from r t k count
values_same r t pc k zero = refl
values_same r t pc k (suc count) =
    ap (λ (n : ℕ). n ∷ values_from r (at_pc pc t) (suc k) count) (word_same t pc (value_place r k))
    ∙ ap (λ (l : List ℕ). word_at t (value_place r k) ∷ l) (values_same r t pc (suc k) count)

yielded_same : (r : Region) (t : State) (pc : ℕ) (xs : List Element) → yielded_at r (at_pc pc t) xs ≡ yielded_at r t xs
yielded_same r t pc [] = refl
yielded_same r t pc (e ∷ older) = by e.site.yield_values
  where
    by : (o : Option ℕ) → elim o as (λ _. List ℕ) [ Some count ↦ values_in r (at_pc pc t) count | None ↦ [] ]
        ≡ elim o as (λ _. List ℕ) [ Some count ↦ values_in r t count | None ↦ [] ]
    by (Some count) = values_same r t pc 0 count
    by None = refl

-- ---- the line

left_log : (rest : Left State State) (run : Run) → (left rest run).log ≡ run.log
left_log (client.Running u) run = refl
left_log (client.Stopped u) run = refl
left_log (client.Torn b u) run = refl

yields_write : (l : Launch) (values : List ℕ) (run : Run) → IsPrefix (run.log ++ yield_line values) (yields l values run).log
yields_write l values run =
    let answer = answered l values run.machine in
    record {
      rest = answer.text;
      whole = left_log answer.left (record run { log = run.log ++ yield_line values ++ answer.text });
    }

whole_chain : (t : State) (xs : List Element) (b : Option Break) (walk : List Activation) → walk_along t record { activations = xs; broken = b } ≡ Some walk → b ≡ None
whole_chain t xs None walk is = refl
whole_chain t xs (Some b) walk is = absurd (cc)

yield_writes : (l : Launch) (run : Run) (xs : List Element) → let chain : Chain Element = record { activations = xs; broken = None } in
    IsPrefix (run.log ++ yield_line (yielded_at (region_of l) run.machine xs)) (yielded l chain run).log
yield_writes l run [] = yields_write l (yielded_at (region_of l) run.machine []) run
yield_writes l run (e ∷ older) = yields_write l (yielded_at (region_of l) run.machine (e ∷ older)) run

module _ (l : Launch) (run : Run) (call : Call) (walk : List Activation) (is_walk : call.walk ≡ Some walk) where
  abbrev found : Chain Element
  found = chain_of l.image (region_of l) run.machine

  at_yield : call_at l run.machine ≡ call → IsPrefix (run.log ++ yield_line call.values) (requested l run request.Yield).log
  at_yield same =
      let none : found.broken ≡ None = whole_chain run.machine found.activations found.broken walk (ap (λ (k : Call). k.walk) same ∙ is_walk) in
      let values : yielded_at (region_of l) (goes_on run).machine found.activations ≡ call.values =
      yielded_same (region_of l) run.machine (run.machine.pc + 4) found.activations ∙ ap (λ (k : Call). k.values) same in
      subst (λ (b : Option Break). IsPrefix (run.log ++ yield_line call.values) (yielded l record { activations = found.activations; broken = b } (goes_on run)).log) (sym none)
      (subst (λ (vs : List ℕ). IsPrefix (run.log ++ yield_line vs) (yielded l record { activations = found.activations; broken = None } (goes_on run)).log) values
      (yield_writes l (goes_on run) found.activations))

  abbrev behind : Status → rv.Outcome → Run
  behind z o = elim z as (λ _. Run) [ Running ↦ after_instruction l run o | _ ↦ run ]

  by_outcome : (o : rv.Outcome) → asked_at l run.machine o ≡ Some (Client call) → IsPrefix (run.log ++ yield_line call.values) (after_instruction l run o).log
  by_outcome (rv.Asks request.Yield) is = at_yield (cc (is))
  by_outcome (rv.Asks request.GetByte) is = absurd (cc (is))
  by_outcome (rv.Asks (request.PutByte byte)) is = absurd (cc (is))
  by_outcome (rv.Asks request.StackLimit) is = absurd (cc (is))
  by_outcome (rv.Asks (request.End value)) is = absurd (cc (is))
  by_outcome (rv.Next s) is = absurd (cc (is))
  by_outcome (rv.Traps kind) is = absurd (cc (is))

  by_status : (z : Status) → event_at l run.machine z ≡ Some (Client call) → IsPrefix (run.log ++ yield_line call.values) (behind z (instruction_step (map_of l) run.machine)).log
  by_status Running is = by_outcome (instruction_step (map_of l) run.machine) is
  by_status (Ended outcome) is = absurd (cc (is))
  by_status (Trapped kind pc) is = absurd (cc (is))
  by_status (Torn b) is = absurd (cc (is))

pub lines_are_written : LinesAreWritten
lines_are_written l run call walk asks is_walk = by_status l run call walk is_walk run.status asks

-- so where the image comes, within n steps, to the call at which another machine stands, the line is there one step later
pub lines_come_soon : {S : Type 0} (A : Machine S ℕ Call Ending) (s : S) (l : Launch) (first : Run) (n : ℕ) (call : Call) (walk : List Activation) → call.walk ≡ Some walk →
    ((k : ℕ) × (k ≤ n) × Stands (image_machine l) (Client call) (A.seen s) (after (image_machine l) k first)) →
    IsPrefix ((A.seen s).log ++ yield_line call.values) (after (image_machine l) (n + 1) first).log
lines_come_soon A s l first n call walk is_walk there =
    let run = after (image_machine l) there.0 first in
    let written = lines_are_written l (after (image_machine l) there.0 first) call walk there.2.0 is_walk in
    let from : IsPrefix ((A.seen s).log ++ yield_line call.values) (after (image_machine l) (suc there.0) first).log =
    subst (λ (log : List ℕ). IsPrefix (log ++ yield_line call.values) (after (image_machine l) (suc there.0) first).log) (ap (λ (seen : Seen ℕ). seen.log) there.2.1) written in
    prefix_trans from (grows_until (image_machine l) (images_last l) (suc there.0) (n + 1) first (omega (arith, there.1))).log
