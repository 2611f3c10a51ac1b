-- The chain of the second control: quiet steps, behind which it stands together with the first.
use Rattle.std.proofs.Common.{◌≡◌, ℕ, zero, suc, ◌≤◌, refl, sym, ◌∙◌, ap, subst, arith, List, [], ◌∷◌}
use Rattle.std.specs.Prelude.{None}
use Rattle.std.specs.List.{AllZip}
use Rattle.cmm_simulation.proofs.Paths.{joined, nowhere, one_step}
use Rattle.cmm_simulation.specs.Simulation.{Leads}
use Rattle.cmm_machine_laws.specs.Observed.{event_at, machine_of}
use Rattle.cmm_program.specs.Control.{Control, State}
use Rattle.cmm_program.specs.State.{Setting, Status, Store, Running, Waiting, Ended, Wrong}
use Rattle.cmm_rewriting.specs.Places.{Comes, ComesBy}
use Rattle.cmm_rewriting.specs.States.{AreCosts, StandAs, Together}
use Rattle.cmm_rewriting.proofs.Levels.{stays_on}
use Rattle.cmm_rewriting.proofs.Stepping.{with_status}

-- a state whose step leaves the store as it is, and which stands at no event
pub record IsSilent {D : Type 0} (l : Control D) (s : Setting) (store : Store) (u : State D) : Type 0 where
  pub shows : ((machine_of l s).step u).store ≡ store
  pub asks : (machine_of l s).asks u ≡ None

module _ {C D : Type 0} {l : Control D} {s : Setting} {P : Store → C → D → Type 0} {W : C → D → Type 0} {before : C → ℕ} {now : D → ℕ} {more : ℕ} {a : State C → ℕ}
    {b : State D → ℕ} (costs : AreCosts P W l s before now more a b) where
  -- a path of silent states to one that stands together
  abbrev pub ComesOn : Store → List C → ℕ → State D → Type 0
  ComesOn store cs most u = Leads (machine_of l s) b (IsSilent l s store) (Together P W record { store = store; controls = cs }) 0 most u

  chain_goes : (store : Store) → store.status ≡ Running → (c : C) (cs : List C) (ds : List D) → AllZip W cs ds → (steps most : ℕ) → most ≤ more → (d : D) →
      ComesBy l s P now steps store c most d → ComesOn store (c ∷ cs) most record { store = store; controls = d ∷ ds }
  chain_goes store running c cs ds all zero most few d is = nowhere (with_status store (c ∷ cs) (d ∷ ds) Running running (is, all))
  chain_goes store running c cs ds all (suc steps) most few d is =
      let there = stays_on l s store store d ds is.way running is.stays in
      let within = is.within in
      joined {n = 0} {o = is.left}
      (one_step {Q = λ u. u ≡ record { store = store; controls = l.on is.way d ∷ ds }} record {
        shows = ap (λ (u : State D). u.store) there;
        asks = ap (λ (status : Status). event_at s status store (l.act d)) running ∙ is.quiet;
      } there (costs.alone store d ds is.way running is.stays (omega (arith, within, few))))
      (λ u same. subst (ComesOn store (c ∷ cs) is.left) (sym same)
      (chain_goes store running c cs ds all steps is.left (omega (arith, within, few)) (l.on is.way d) is.on))
      (omega arith) (omega (arith, within))

  comes_by : (store : Store) (cs : List C) (ds : List D) (extra : ℕ) → extra ≤ more → (status : Status) → store.status ≡ status →
      StandAs (Comes l s P now extra) W store status cs ds → ComesOn store cs extra record { store = store; controls = ds }
  comes_by store (c ∷ cs) (d ∷ ds) extra few Running is stands = chain_goes store is c cs ds stands.1 stands.0.0 extra few d stands.0.1
  comes_by store [] [] extra few Running is stands = nowhere (with_status store [] [] Running is tt)
  comes_by store [] (d ∷ ds) extra few Running is stands = absurd stands
  comes_by store (c ∷ cs) [] extra few Running is stands = absurd stands
  comes_by store cs ds extra few (Waiting values) is stands = nowhere (with_status store cs ds (Waiting values) is stands)
  comes_by store cs ds extra few (Ended outcome) is stands = nowhere (with_status store cs ds (Ended outcome) is stands)
  comes_by store cs ds extra few (Wrong error) is stands = absurd stands

  pub comes_on : (extra : ℕ) → extra ≤ more → (x : State C) (y : State D) → Together (Comes l s P now extra) W x y → ComesOn x.store x.controls extra y
  comes_on extra few x y is =
      subst (λ (store : Store). ComesOn x.store x.controls extra record { store = store; controls = y.controls }) (sym is.store)
      (comes_by x.store x.controls y.controls extra few x.store.status refl is.stands)
