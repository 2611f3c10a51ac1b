-- Words ask for stacks of sizes that they may have.
use Rattle.std.proofs.Common.{◌≡◌, ℕ, List, [], ◌∷◌, Option, Some, None, refl, subst}
use Rattle.cmm_command.specs.Laws.{CommandsAreInRange}
use Rattle.cmm_command.specs.Meaning.{Meaning, meaning_of}
use Rattle.cmm_command.specs.Meaning as meaning
use Rattle.cmm_top.specs.Words.{Task, build, convert, execute, generate, inspect, migrate, run, task_in, walk}
use Rattle.cmm_top_laws.specs.Calls.{HasStackSize}
use Rattle.cmm_top_laws.specs.Laws.{WordsGiveStackSizes}

module _ (law : CommandsAreInRange) (words : List (List ℕ)) (task : Task) where
  meant_has : (m : Meaning) → meaning_of words ≡ Some m → task_in m ≡ Some task → HasStackSize task
  meant_has (meaning.exec [] client limits) is asks = absurd (cc asks)
  meant_has (meaning.exec (name ∷ names) client limits) is asks =
      let range = law words (meaning.exec (name ∷ names) client limits) is in
      let same : execute (name ∷ names) client limits ≡ task = cc asks in subst HasStackSize same (range.2.whole, range.2.stack)
  meant_has (meaning.run image client limits save) is asks =
      let range = law words (meaning.run image client limits save) is in
      let same : run image client limits save ≡ task = cc asks in subst HasStackSize same (range.2.whole, range.2.stack)
  meant_has (meaning.build [] image) is asks = absurd (cc asks)
  meant_has (meaning.build (name ∷ names) image) is asks = let same : build (name ∷ names) image ≡ task = cc asks in subst HasStackSize same tt
  meant_has (meaning.walk image snapshot) is asks = let same : walk image snapshot ≡ task = cc asks in subst HasStackSize same tt
  meant_has (meaning.generate number) is asks = let same : generate number ≡ task = cc asks in subst HasStackSize same tt
  meant_has (meaning.elf image file) is asks = let same : convert image file ≡ task = cc asks in subst HasStackSize same tt
  meant_has (meaning.migrate image file) is asks = let same : migrate image file ≡ task = cc asks in subst HasStackSize same tt
  meant_has (meaning.segments file) is asks = let same : inspect file ≡ task = cc asks in subst HasStackSize same tt

  asked_has : (m : Option Meaning) → meaning_of words ≡ m → (elim m as (λ _. Option Task) [ Some meant ↦ task_in meant | None ↦ None ]) ≡ Some task → HasStackSize task
  asked_has None is asks = absurd (cc asks)
  asked_has (Some m) is asks = meant_has m is asks

pub words_give_stack_sizes : CommandsAreInRange → WordsGiveStackSizes
words_give_stack_sizes law words task asks = asked_has law words task (meaning_of words) refl asks
