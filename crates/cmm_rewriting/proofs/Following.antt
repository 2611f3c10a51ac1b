-- What is rewritten follows, lazily, on every input; the chain of `main` is done before.
use Rattle.std.proofs.Common.{◌≡◌, ℕ, ◌+◌, ◌*◌, refl, sym, ◌∙◌, ap, subst, arith, List, []}
use Rattle.std.specs.Prelude.{false}
use Rattle.cmm_simulation.proofs.Composing.{lazily_trans, preceded}
use Rattle.cmm_simulation.proofs.Followings.{follows_lazily}
use Rattle.cmm_simulation.proofs.Paths.{weaker}
use Rattle.cmm_simulation.proofs.Runs.{right_at_start}
use Rattle.cmm_simulation.specs.Following.{FollowsLazily}
use Rattle.cmm_simulation.specs.Machine.{Machine, Lasts, after}
use Rattle.cmm_simulation.specs.Observing.{Level, Passes}
use Rattle.cmm_simulation.specs.Seen.{IsWithin}
use Rattle.cmm_simulation.specs.Simulation.{Leads}
use Rattle.cmm_machine_laws.proofs.Shared.{machine_lasts, starts_right}
use Rattle.cmm_machine_laws.specs.Observed.{Call, Ending, machine_of, store_seen}
use Rattle.cmm_program.specs.Control.{Control, State}
use Rattle.cmm_program.specs.Exits.{Instead}
use Rattle.cmm_program.specs.Machine.{first_store, start_of}
use Rattle.cmm_program.specs.State.{Setting, Store}
use Rattle.cmm_rewriting.specs.Places.{AreRewritten}
use Rattle.cmm_rewriting.specs.States.{AreCosts, IsLaw, Together, rank_of}
use Rattle.cmm_rewriting.proofs.Chains.{IsSilent, comes_on}
use Rattle.cmm_rewriting.proofs.Levels.{is_wrong, level_by_store}
use Rattle.cmm_rewriting.proofs.Simulating.{few_of, rewritten_simulates}
use Rattle.cmm_rewriting.proofs.Stepping.{Nearly, lands}

module _ {C D : Type 0} {k : Control C} {l : Control D} {s : Setting} {P : Store → C → D → Type 0} {W : C → D → Type 0} {rank before : C → ℕ} {now : D → ℕ} {more slack : ℕ}
    {I : Store → C → Type 0} (go : AreRewritten k l s P W rank before now more I slack) {a : State C → ℕ} {b : State D → ℕ} (costs : AreCosts P W l s before now more a b)
    {H : State C → Type 0} (law : IsLaw k s H I) (input : List ℕ) (first : H (start_of k s input)) where
  abbrev A : Machine (State C) ℕ Call Ending
  A = machine_of k s

  abbrev B : Machine (State D) ℕ Call Ending
  B = machine_of l s

  abbrev x : State C
  x = start_of k s input

  abbrev y : State D
  y = start_of l s input

  -- both begin in the same store, the second before its chain
  near : Together (Nearly go more) W x y
  near = lands go (Instead s.program.main []) (first_store s input) [] [] tt

  -- behind it, the second follows
  begun : Leads B b (IsSilent l s x.store) (FollowsLazily A a B b slack x) 0 more y
  begun =
      weaker (comes_on costs more (omega arith) x y near) (λ u silent. silent)
      (λ u together. follows_lazily (rewritten_simulates go costs law) (rank_of rank x) (few_of go costs x.controls) record { together = together; holds = first; ranked = refl })
      (omega arith) (λ n le. le)

  -- what is level with the first where it begins
  module _ {S : Type 0} (O : Machine S ℕ Call Ending) (r : S) (lasts : Lasts O) (level : Level O A r x) where
    level_too : Level O B r y
    level_too = let same = level_by_store k l s x y near.store in
        record { seen = level.seen ∙ same.seen; asks = level.asks ∙ same.asks; wrong = level.wrong ∙ same.wrong }

    -- passes the chain while it makes its first step
    silent_passes : (u : State D) → IsSilent l s x.store u → Passes O B r u
    silent_passes u silent = record {
      seen = subst (λ (seen : _). IsWithin seen (O.seen (O.step r))) (level.seen ∙ sym (ap store_seen silent.shows)) (lasts.grows r);
      asks = λ event at. absurd (cc (silent.asks, at));
      right = λ right. ap is_wrong silent.shows ∙ starts_right k s input;
    }

    -- so what is followed behind the chain is followed from the start, where each step costs so much more
    follows_behind : (o : S → ℕ) (slack : ℕ) → Leads B b (IsSilent l s x.store) (FollowsLazily O o B b slack r) 0 more y →
        FollowsLazily O (λ u. o u + more) B b slack r y
    follows_behind o slack path =
        preceded more level_too (weaker path (λ u silent. silent_passes u silent) (λ u follows. follows) (omega arith) (λ n le. le))

  -- the second follows the first
  pub rewritten_follows : FollowsLazily A (λ u. a u + more) B b slack x y
  rewritten_follows = follows_behind A x (machine_lasts k s) (level_by_store k k s x x refl) a slack begun

  -- and what the first follows
  pub follows_rewritten : {S : Type 0} {O : Machine S ℕ Call Ending} {o : S → ℕ} {j : ℕ} {r : S} → Lasts O → O.wrong r ≡ false → FollowsLazily O o A a j r x →
      FollowsLazily O (λ u. o u + more) B b (j * slack) r y
  follows_rewritten {O = O} {o = o} {j = j} {r = r} lasts right follows =
      follows_behind O r lasts (subst (λ (n : ℕ). Level O A r (after A n x)) follows.begins (follows.level 0 (right_at_start O r right))) o (j * slack)
      (weaker begun (λ u silent. silent) (λ u second. lazily_trans follows second) (omega arith) (λ n le. le))
