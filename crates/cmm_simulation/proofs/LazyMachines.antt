-- The small machines, lazily: ticks that are passed over.
use Rattle.std.proofs.Common.{◌≡◌, ◌⊎◌, ℕ, suc, ◌<◌, refl, sym, subst, arith, inl, inr}
use Rattle.std.specs.Prelude.{Bool, true, false, min}
use Rattle.cmm_simulation.proofs.Agreements.{agrees_lazily}
use Rattle.cmm_simulation.proofs.Composing.{lazily_trans, simulates_added}
use Rattle.cmm_simulation.proofs.Followings.{follows_lazily, follows_of_simulates}
use Rattle.cmm_simulation.proofs.Paths.{one_step}
use Rattle.cmm_simulation.proofs.Prefixes.{within_refl}
use Rattle.cmm_simulation.proofs.SmallMachines.{reader_lasts, ticking_lasts, unchecked_simulates}
use Rattle.cmm_simulation.specs.Examples.{AtOnce, FetchingIsPassedOver, InTwo, PhasesArePassedOver, RanksAddUp, ReaderAgreesWithTicks, ReaderFollowsTicks}
use Rattle.cmm_simulation.specs.Observing.{Passes}
use Rattle.cmm_simulation.specs.Reader.{Reader, reader}
use Rattle.cmm_simulation.specs.Simulation.{Below, Leads}
use Rattle.cmm_simulation.specs.Ticking.{Phase, Fetch, Decode, Execute, phased, ticking, ticks_left}

-- what a tick that does a step shows, the step shows
module _ (checks : Bool) (s : Reader) where
  done_at_once : Passes (ticking (reader checks)) (reader checks) (s, true) s
  done_at_once = record { seen = within_refl _; asks = λ event is. (is, refl); right = λ fine. fine }

  fetched : Passes (phased (reader checks)) (ticking (reader checks)) (s, Decode) (s, false)
  fetched = record { seen = within_refl _; asks = λ event is. (is, refl); right = λ fine. fine }

  executed : Passes (phased (reader checks)) (ticking (reader checks)) (s, Execute) (s, true)
  executed = record { seen = within_refl _; asks = λ event is. (is, refl); right = λ fine. fine }

pub fetching_is_passed_over : FetchingIsPassedOver
fetching_is_passed_over checks = record { level = λ rank u t is. grind arith; leads = λ rank u t is right. by rank u t is }
  where
    by : (rank : ℕ) (u : Reader × Bool) (t : Reader) → AtOnce rank u t →
        Leads (reader checks) (λ _. 1) (Passes (ticking (reader checks)) (reader checks) u) (Below 2 AtOnce ((ticking (reader checks)).step u)) 1 1 t
        ⊎ Below rank AtOnce ((ticking (reader checks)).step u) t
    by rank (s, false) t is = inr (0, omega (arith, is.1), (is.0, refl))
    by rank (s, true) t is =
        inl
        (subst (λ (v : Reader). Leads (reader checks) (λ _. 1) (Passes (ticking (reader checks)) (reader checks) (s, true)) (Below 2 AtOnce ((ticking (reader checks)).step (s, true))) 1 1 v)
        (sym is.0) (one_step (done_at_once checks s) (1, omega arith, (refl, refl)) (omega arith)))

-- where three ticks are two, from each phase
module _ (checks : Bool) where
  abbrev Goes : ℕ → ℕ → Reader × Phase → Reader × Bool → Type 0
  Goes most rank u t =
      Leads (ticking (reader checks)) (λ _. 1) (Passes (phased (reader checks)) (ticking (reader checks)) u) (Below most InTwo ((phased (reader checks)).step u)) 1 1 t
      ⊎ Below rank InTwo ((phased (reader checks)).step u) t

  at_fetch : (most rank : ℕ) (s : Reader) (t : Reader × Bool) → InTwo rank (s, Fetch) t → Goes most rank (s, Fetch) t
  at_fetch most rank s t is = inr (0, omega (arith, is.1), (is.0, refl))

  at_decode : (most rank : ℕ) (s : Reader) (t : Reader × Bool) → InTwo rank (s, Decode) t → 0 < most → Goes most rank (s, Decode) t
  at_decode most rank s t is some =
      inl
      (subst (λ (v : Reader × Bool). Leads (ticking (reader checks)) (λ _. 1) (Passes (phased (reader checks)) (ticking (reader checks)) (s, Decode)) (Below most InTwo ((phased (reader checks)).step (s, Decode))) 1 1 v)
      (sym is.0) (one_step (fetched checks s) (0, some, (refl, refl)) (omega arith)))

  at_execute : (most rank : ℕ) (s : Reader) (t : Reader × Bool) → InTwo rank (s, Execute) t → 1 < most → Goes most rank (s, Execute) t
  at_execute most rank s t is some =
      inl
      (subst (λ (v : Reader × Bool). Leads (ticking (reader checks)) (λ _. 1) (Passes (phased (reader checks)) (ticking (reader checks)) (s, Execute)) (Below most InTwo ((phased (reader checks)).step (s, Execute))) 1 1 v)
      (sym is.0) (one_step (executed checks s) (1, some, (refl, refl)) (omega arith)))

  each : (rank : ℕ) (u : Reader × Phase) (t : Reader × Bool) → InTwo rank u t → Goes 2 rank u t
  each rank (s, Fetch) t is = at_fetch 2 rank s t is
  each rank (s, Decode) t is = at_decode 2 rank s t is (omega arith)
  each rank (s, Execute) t is = at_execute 2 rank s t is (omega arith)

  -- where the reader may pass a tick over, which fetches, the rank does not rise
  flat : (rank n : ℕ) (u : Reader × Phase) (t : Reader × Bool) (v : Reader) → InTwo rank u t → AtOnce (suc n) t v → Goes (min 2 (suc rank)) rank u t
  flat rank n (s, Fetch) t v is at = at_fetch (min 2 (suc rank)) rank s t is
  flat rank n (s, Decode) t v is at = at_decode (min 2 (suc rank)) rank s t is (omega arith)
  flat rank n (s, Execute) t v is at =
      let none : ticks_left true ≡ suc n = subst (λ (w : Reader × Bool). ticks_left w.1 ≡ suc n) is.0 at.1 in absurd (omega (arith, none))

pub phases_are_passed_over : PhasesArePassedOver
phases_are_passed_over checks = record { level = λ rank u t is. grind arith; leads = λ rank u t is right. each checks rank u t is }

pub ranks_add_up : RanksAddUp
ranks_add_up checks =
    simulates_added 3 (omega arith) (phases_are_passed_over checks) (fetching_is_passed_over checks) (λ rank n u t v is at right. flat checks rank n u t v is at)

pub reader_follows_ticks : ReaderFollowsTicks
reader_follows_ticks input =
    lazily_trans (follows_lazily (fetching_is_passed_over true) 1 (omega arith) (refl, refl)) (follows_of_simulates unchecked_simulates refl)

pub reader_agrees : ReaderAgreesWithTicks
reader_agrees input = agrees_lazily (ticking_lasts (reader true) (reader_lasts true)) (reader_lasts false) refl (reader_follows_ticks input)
