-- What the client's commands make of a store: little, if they do not resume.
use Rattle.std.proofs.Common.{List, ◌∷◌, [], drop, arith, subst}
use Rattle.std.specs.Prelude.{⊤}
use Rattle.std.specs.List.{AllByRecursion}
use Rattle.cmm_machine_laws.proofs.Doing.{Comes, reply_kept}
use Rattle.cmm_machine_laws.proofs.StackKept.{places_with_value}
use Rattle.cmm_machine_laws.specs.Runs.{Changes, CommandChanges, CommandSpares, Data, Same, Variable}
use Rattle.cmm_program.specs.Client.{Landed, Located, all_located}
use Rattle.cmm_program.specs.Commands.{After, Goes, Resumes, Stops, Tears}
use Rattle.cmm_program.specs.State.{Setting, Store}

-- what a command may come to
abbrev Makes : Store → After Located Store Landed → Type 0
Makes store (Goes cursor after) = Changes cursor store after
Makes store (Resumes r) = ⊤
Makes store Stops = ⊤
Makes store (Tears b) = ⊤

any : (xs : List Located) → AllByRecursion (λ a. ⊤) xs
any [] = tt
any (x ∷ xs) = (tt, any xs)

makes : (s : Setting) (store : Store) → Comes s store (λ a. ⊤) (Makes store)
makes s store = record {
  found = λ n. any (all_located s n (drop n store.activations));
  goes = λ cursor at. Same;
  sets = λ cursor a n value variable is here there less. Variable a n value is;
  pokes = λ cursor at address value may. Data address value may;
  leaves = λ a e values here exit count fit. tt;
  stops = tt;
}

-- a command that does not resume changes little
pub command_changes : CommandChanges
command_changes s yielded cursor cursor' command store after is =
    subst (Makes store) is (reply_kept s store (λ a. ⊤) (Makes store) (makes s store) yielded cursor (λ a here. tt) command)

-- and leaves the rest
pub command_spares : CommandSpares
command_spares s yielded cursor cursor' command store after is =
    grind (arith, command_changes s yielded cursor cursor' command store after is, places_with_value)
