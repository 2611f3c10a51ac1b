-- What an image does, whatever the version of the format in which it was read.
use Rattle.std.proofs.Common.{◌≡◌, ℕ, zero, suc, List, [], ◌∷◌, ◌++◌, Some, None, refl, ap, ◌∙◌}
use Rattle.rv_table.specs.declared.request.Request.{Request}
use Rattle.rv_table.specs.declared.request.Request.TheVariants.{PutByte, GetByte, Yield, StackLimit, End}
use Rattle.rv_table.specs.Machine as rv
use Rattle.rv_table.specs.Machine.{State, instruction_step}
use Rattle.cmm_abi.specs.Regions.{Region}
use Rattle.cmm_script.specs.Lines.{yield_line}
use Rattle.cmm_script.specs.declared.script.Script.{Script}
use Rattle.cmm_program.specs.Asking.{Askable, Chain}
use Rattle.cmm_program.specs.Commands.{answer_to}
use Rattle.cmm_image.specs.declared.parts.ImageParts.{ImageParts}
use Rattle.cmm_image.specs.Laws.{ImagesAreOne}
use Rattle.cmm_image.specs.Migrating.{in_version}
use Rattle.cmm_image_machine.specs.Changes.{cut_exit, return_exit, unwind_exit, with_data, with_variable}
use Rattle.cmm_image_machine.specs.Frames.{Element, Point, along, chain_of, chain_within, first_point, found_at, older_than, point_after, points_from}
use Rattle.cmm_image_machine.specs.Machine.{Ended, Launch, Run, Running, Status, Torn, Trapped, after_instruction, askable, goes_on, image_after, launch_of, left, map_of, region_of, requested, step, steps_of, first_run, yielded, yielded_at, yields}
use Rattle.cmm_image_machine.specs.Versions.{MigratedImagesRunSo, MigratedImagesWalkSo, VersionsRunSo, VersionsWalkSo}
use Rattle.cmm_image_machine.specs.Walks.{chain_walk, element_shown, walk_along}

module _ (v w : ℕ) (i : ImageParts) where
  here : ImageParts
  here = in_version v i

  there : ImageParts
  there = in_version w i

  -- ---- chains

  same_within : (r : Region) (memory : ℕ → ℕ) (n : ℕ) (p : Point) → chain_within here r memory n p ≡ chain_within there r memory n p
  unfolding here there
  same_within r memory zero p = refl
  same_within r memory (suc n) p = λ j. along (λ q. same_within r memory n q j) memory (found_at (in_version v i) r p)

  same_chain : (r : Region) (s : State) → chain_of here r s ≡ chain_of there r s
  same_chain r s = same_within r s.memory (points_from r (first_point s)) (first_point s)

  same_older : (r : Region) (s : State) (e : Element) → older_than here r s e ≡ older_than there r s e
  same_older r s e = let p = point_after s.memory e in same_within r s.memory (points_from r p) p

  same_walk : (r : Region) (s : State) → chain_walk here r s ≡ chain_walk there r s
  same_walk r s = ap (walk_along s) (same_chain r s)

  -- ---- yields

  same_askable : (r : Region) → askable here r ≡ askable there r
  unfolding here there
  same_askable r = λ j. record {
    chain = λ s. same_chain r s j;
    running = λ s. same_chain r s j;
    older = λ s e. same_older r s e j;
    shown = element_shown;
    with_variable = with_variable;
    with_data = with_data (in_version v i);
    return_exit = return_exit r;
    unwind_exit = unwind_exit r;
    cut_exit = cut_exit r;
  }

  module _ (script : Script) (stack : ℕ) where
    first : Launch
    first = launch_of here script stack

    second : Launch
    second = launch_of there script stack

    same_yields : (values : List ℕ) (run : Run) → yields first values run ≡ yields second values run
    unfolding first second
    same_yields values run =
        ap (λ (a : Askable Element State State). let answer = answer_to a script values run.machine in
        left answer.left record run { log = run.log ++ yield_line values ++ answer.text }) (same_askable (region_of (launch_of here script stack)))

    same_yielded : (chain : Chain Element) (run : Run) → yielded first chain run ≡ yielded second chain run
    unfolding first second
    same_yielded chain run =
        ap (λ (ys : Run). elim chain.activations as (λ _. Run) [
          | [] ↦ elim chain.broken as (λ _. Run) [ Some b ↦ record run { status = Torn b } | None ↦ ys ]
          | e ∷ older ↦ ys
        ]) (same_yields (yielded_at (region_of (launch_of here script stack)) run.machine chain.activations) run)

    same_requested : (run : Run) (r : Request) → requested first run r ≡ requested second run r
    unfolding first second
    same_requested run (PutByte byte) = refl
    same_requested run GetByte = refl
    same_requested run Yield =
        let after = goes_on run in
        same_yielded (chain_of here (region_of (launch_of here script stack)) after.machine) after
        ∙ ap (λ (chain : Chain Element). yielded (launch_of there script stack) chain after) (same_chain (region_of (launch_of here script stack)) after.machine)
    same_requested run StackLimit = refl
    same_requested run (End value) = refl

    same_after : (run : Run) (o : rv.Outcome) → after_instruction first run o ≡ after_instruction second run o
    same_after run (rv.Next s) = refl
    same_after run (rv.Asks r) = same_requested run r
    same_after run (rv.Traps kind) = refl

    same_step : (run : Run) → step first run ≡ step second run
    unfolding first second here there
    same_step run = by run.status
      where
        next : rv.Outcome
        next = instruction_step (map_of (launch_of (in_version v i) script stack)) run.machine

        by : (status : Status) → (elim status as (λ _. Run) [ Running ↦ after_instruction (launch_of (in_version v i) script stack) run next | _ ↦ run ])
            ≡ (elim status as (λ _. Run) [ Running ↦ after_instruction (launch_of (in_version w i) script stack) run next | _ ↦ run ])
        by Running = same_after run next
        by (Ended outcome) = refl
        by (Trapped kind pc) = refl
        by (Torn b) = refl

    same_steps : (n : ℕ) (run : Run) → steps_of first n run ≡ steps_of second n run
    same_steps zero run = refl
    same_steps (suc n) run = ap (steps_of first n) (same_step run) ∙ same_steps n (step second run)

    same_first : (input : List ℕ) → first_run first input ≡ first_run second input
    unfolding first second here there
    same_first input = refl

    same_run : (input : List ℕ) (n : ℕ) → image_after first input n ≡ image_after second input n
    same_run input n = ap (steps_of first n) (same_first input) ∙ same_steps n (first_run second input)

pub versions_run_so : VersionsRunSo
unfolding here there first second
versions_run_so v w i script stack input n = same_run v w i script stack input n

pub versions_walk_so : VersionsWalkSo
unfolding here there
versions_walk_so v w i r s = same_walk v w i r s

-- the parts of an image that was migrated, before and after
pub migrated_images_run_so : ImagesAreOne → MigratedImagesRunSo
migrated_images_run_so one from to i j migrated first second script stack input n =
    ap (λ (x : ImageParts). image_after (launch_of x script stack) input n) (one to j (in_version 2 migrated.parts) second migrated.second)
    ∙ versions_run_so 2 1 migrated.parts script stack input n
    ∙ ap (λ (x : ImageParts). image_after (launch_of x script stack) input n) (one from (in_version 1 migrated.parts) i migrated.first first)

pub migrated_images_walk_so : ImagesAreOne → MigratedImagesWalkSo
migrated_images_walk_so one from to i j migrated first second r s =
    ap (λ (x : ImageParts). chain_walk x r s) (one to j (in_version 2 migrated.parts) second migrated.second)
    ∙ versions_walk_so 2 1 migrated.parts r s
    ∙ ap (λ (x : ImageParts). chain_walk x r s) (one from (in_version 1 migrated.parts) i migrated.first first)
