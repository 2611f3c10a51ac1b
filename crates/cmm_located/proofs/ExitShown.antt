-- The client can be shown the program with exits of each kind: what is live at its sites is known, and stands in places that are apart.
use Rattle.std.proofs.Common.{◌≡◌, ◌≢◌, ℕ, zero, suc, ◌<◌, true, false, List, [], ◌∷◌, length, Some, arith, refl, subst, ◌==◌, ◌&&◌}
use Rattle.cmm_simulation.specs.Following.{Follows}
use Rattle.cmm_machine_laws.specs.Observed.{machine_of}
use Rattle.cmm_program.specs.declared.procedure.Proc.{Proc}
use Rattle.cmm_program.specs.Frames.{procedure_at}
use Rattle.cmm_program.specs.Liveness.{is_among, is_live_at}
use Rattle.cmm_program.proofs.Shared.{opened, continuation}
use Rattle.cmm_graph.specs.GraphControl.{graph_control, kind_at}
use Rattle.cmm_graph.specs.GraphMachine.{graph_start}
use Rattle.cmm_graph.specs.Laws.{OrderIsByReads, ValueIsByReads}
use Rattle.std.specs.Prelude.{nat_lt}
use Rattle.cmm_graph.specs.declared.number.SiteId.{SiteId}
use Rattle.cmm_live.specs.Sites.{site_of}
use Rattle.cmm_graph.proofs.Shared.{n, s}
use Rattle.cmm_chain.specs.declared.frame.Location.TheVariants.{Saved}
use Rattle.cmm_located.specs.Clients.{IsShowable}
use Rattle.cmm_located.specs.Compiled.{Compiled}
use Rattle.cmm_located.specs.Cutting.{HaveCuts}
use Rattle.cmm_located.specs.LocatedMachine.{located_machine, located_start, located_step, tokens_at}
use Rattle.cmm_located.specs.Simulating.{step_cost}
use Rattle.cmm_located.proofs.ExitNodes.{among, every, is_apart, past, places_apart}
use Rattle.cmm_located.proofs.ExitRows.{row-setting, exiting_is_compiled, c-site}
use Rattle.cmm_located.proofs.ExitSample.{main-proc, c-proc, d-proc, exiting, exit-live}
use Rattle.cmm_located.proofs.Notation.{laid}
use Rattle.cmm_located.proofs.Simulating.{located_runs_follow_graphs}

-- ---- which variables are live at a site

main_knows : (site u : ℕ) → u < 2 → is_live_at main-proc site u ≡ true → exiting.plan.live 0 site u ≡ true
unfolding opened
main_knows zero zero less is_live = refl
main_knows zero (suc zero) less is_live = absurd (cc (is_live))
main_knows zero (suc (suc u)) less is_live = absurd (omega arith)
main_knows (suc site) u less is_live = absurd (cc (is_live))

c_knows : (site u : ℕ) → u < 2 → is_live_at c-proc site u ≡ true → exiting.plan.live 1 site u ≡ true
unfolding opened
c_knows zero zero less is_live = refl
c_knows zero (suc zero) less is_live = absurd (cc (is_live))
c_knows zero (suc (suc u)) less is_live = absurd (omega arith)
c_knows (suc site) u less is_live = absurd (cc (is_live))

d_knows : (site u : ℕ) → u < 3 → is_live_at d-proc site u ≡ true → exiting.plan.live 2 site u ≡ true
unfolding opened
d_knows zero zero less is_live = refl
d_knows zero (suc zero) less is_live = refl
d_knows zero (suc (suc zero)) less is_live = absurd (cc (is_live))
d_knows zero (suc (suc (suc u))) less is_live = absurd (omega arith)
d_knows (suc site) u less is_live = absurd (cc (is_live))

live_known : (q site u : ℕ) (p : Proc) → procedure_at row-setting q ≡ Some p → u < length p.vars → is_live_at p site u ≡ true → exiting.plan.live q site u ≡ true
live_known zero site u p is =
    let same : main-proc ≡ p = cc (is) in
    subst (λ x. u < length x.vars → is_live_at x site u ≡ true → exiting.plan.live 0 site u ≡ true) same (main_knows site u)
live_known (suc zero) site u p is =
    let same : c-proc ≡ p = cc (is) in
    subst (λ x. u < length x.vars → is_live_at x site u ≡ true → exiting.plan.live 1 site u ≡ true) same (c_knows site u)
live_known (suc (suc zero)) site u p is =
    let same : d-proc ≡ p = cc (is) in
    subst (λ x. u < length x.vars → is_live_at x site u ≡ true → exiting.plan.live 2 site u ≡ true) same (d_knows site u)
live_known (suc (suc (suc q))) site u p is = absurd (cc (is))

-- ---- their places

apart_among : (q v u : ℕ) (us : List ℕ) → every (λ x. every (λ y. is_apart q x y) us) us ≡ true → is_among v us ≡ true → is_among u us ≡ true → u ≢ v →
    exiting.plan.place q v ≢ exiting.plan.place q u
apart_among q v u us all v_live u_live other =
    let from_u = among (λ x. every (λ y. is_apart q x y) us) us u all u_live in places_apart q u v (among (λ y. is_apart q u y) us v from_u v_live) other

live_apart : (q site v u : ℕ) → exiting.plan.is_procedure q ≡ true → exiting.plan.live q site v ≡ true → exiting.plan.live q site u ≡ true → u ≢ v →
    exiting.plan.place q v ≢ exiting.plan.place q u
live_apart zero zero v u is v_live u_live other = apart_among 0 v u (0 ∷ []) refl v_live u_live other
live_apart zero (suc site) v u is v_live u_live other = absurd (cc (v_live))
live_apart (suc zero) zero v u is v_live u_live other = apart_among 1 v u (0 ∷ []) refl v_live u_live other
live_apart (suc zero) (suc site) v u is v_live u_live other = absurd (cc (v_live))
live_apart (suc (suc zero)) zero v u is v_live u_live other = apart_among 2 v u (0 ∷ 1 ∷ []) refl v_live u_live other
live_apart (suc (suc zero)) (suc site) v u is v_live u_live other = absurd (cc (v_live))
live_apart (suc (suc (suc q))) site v u is v_live u_live other = absurd (past q is)

sites_are : (q m : ℕ) (site : SiteId) → exiting.plan.is_procedure q ≡ true → site_of (kind_at exiting.graphs q (n m)) ≡ Some site →
    (p : Proc) × (procedure_at row-setting q ≡ Some p) × (nat_lt site.number (length p.sites) ≡ true)
sites_are zero zero site is waits = absurd (cc (waits))
sites_are zero (suc zero) site is waits = absurd (cc (waits))
sites_are zero (suc (suc zero)) site is waits = let same : s 0 ≡ site = cc (waits) in (main-proc, refl, subst (λ (x : SiteId). nat_lt x.number 1 ≡ true) same refl)
sites_are zero (suc (suc (suc zero))) site is waits = absurd (cc (waits))
sites_are zero (suc (suc (suc (suc zero)))) site is waits = absurd (cc (waits))
sites_are zero (suc (suc (suc (suc (suc zero))))) site is waits = absurd (cc (waits))
sites_are zero (suc (suc (suc (suc (suc (suc zero)))))) site is waits = absurd (cc (waits))
sites_are zero (suc (suc (suc (suc (suc (suc (suc zero))))))) site is waits = absurd (cc (waits))
sites_are zero (suc (suc (suc (suc (suc (suc (suc (suc m)))))))) site is waits = absurd (cc (waits))
sites_are (suc zero) zero site is waits = absurd (cc (waits))
sites_are (suc zero) (suc zero) site is waits = absurd (cc (waits))
sites_are (suc zero) (suc (suc zero)) site is waits = let same : s 0 ≡ site = cc (waits) in (c-proc, refl, subst (λ (x : SiteId). nat_lt x.number 1 ≡ true) same refl)
sites_are (suc zero) (suc (suc (suc zero))) site is waits = absurd (cc (waits))
sites_are (suc zero) (suc (suc (suc (suc zero)))) site is waits = absurd (cc (waits))
sites_are (suc zero) (suc (suc (suc (suc (suc zero))))) site is waits = absurd (cc (waits))
sites_are (suc zero) (suc (suc (suc (suc (suc (suc zero)))))) site is waits = absurd (cc (waits))
sites_are (suc zero) (suc (suc (suc (suc (suc (suc (suc zero))))))) site is waits = absurd (cc (waits))
sites_are (suc zero) (suc (suc (suc (suc (suc (suc (suc (suc zero)))))))) site is waits = absurd (cc (waits))
sites_are (suc zero) (suc (suc (suc (suc (suc (suc (suc (suc (suc m))))))))) site is waits = absurd (cc (waits))
sites_are (suc (suc zero)) zero site is waits = absurd (cc (waits))
sites_are (suc (suc zero)) (suc zero) site is waits = let same : s 0 ≡ site = cc (waits) in (d-proc, refl, subst (λ (x : SiteId). nat_lt x.number 1 ≡ true) same refl)
sites_are (suc (suc zero)) (suc (suc zero)) site is waits = absurd (cc (waits))
sites_are (suc (suc zero)) (suc (suc (suc zero))) site is waits = absurd (cc (waits))
sites_are (suc (suc zero)) (suc (suc (suc (suc zero)))) site is waits = absurd (cc (waits))
sites_are (suc (suc zero)) (suc (suc (suc (suc (suc zero))))) site is waits = absurd (cc (waits))
sites_are (suc (suc zero)) (suc (suc (suc (suc (suc (suc zero)))))) site is waits = absurd (cc (waits))
sites_are (suc (suc zero)) (suc (suc (suc (suc (suc (suc (suc zero))))))) site is waits = absurd (cc (waits))
sites_are (suc (suc zero)) (suc (suc (suc (suc (suc (suc (suc (suc m)))))))) site is waits = absurd (cc (waits))
sites_are (suc (suc (suc q))) m site is waits = absurd (past q is)

exiting_is_showable : IsShowable row-setting exiting
exiting_is_showable = record {
  sites = λ q m site is waits. sites_are q m.number site is waits;
  variables = λ q p is. (exiting_is_compiled.entries q p is).variables;
  live = live_known;
  apart = live_apart;
}

-- ---- what the law of runs says of it

exiting_is_followed : OrderIsByReads → ValueIsByReads → (input : List ℕ) →
    Follows (machine_of (graph_control exiting.graphs) row-setting) (step_cost exiting 1) (located_machine row-setting exiting) (tokens_at row-setting exiting)
    (graph_start exiting.graphs row-setting input) (located_step row-setting exiting (located_start row-setting exiting input))
exiting_is_followed by_reads by_values input =
    located_runs_follow_graphs by_reads by_values row-setting exiting exit-live 1 main-proc input exiting_is_compiled exiting_is_showable refl refl

-- ---- what the premises refuse

-- c saves no more than it uses
abbrev saving_too_little : Compiled
saving_too_little = record exiting {
  plan = record exiting.plan { frame = λ q. elim (q == 1) [ true ↦ laid 144 8 ((9, 16) ∷ []) (104 ∷ 120 ∷ []) | false ↦ exiting.plan.frame q ] };
}

saving_too_little_not : ¬ HaveCuts row-setting saving_too_little exit-live
saving_too_little_not have =
    let lands = have 1 c-proc 0 c-site 0 (continuation (1 ∷ [])) refl refl (0, omega arith, refl) refl in
    let saved = lands.saves 18 refl in
    absurd (cc (saved))

-- w is in a register, which a cut does not restore
abbrev in_register : Compiled
in_register = record exiting {
  plan = record exiting.plan { place = λ q u. elim ((q == 1) && (u == 0)) [ true ↦ Saved 18 | false ↦ exiting.plan.place q u ] };
}

in_register_not : ¬ HaveCuts row-setting in_register exit-live
in_register_not have =
    let lands = have 1 c-proc 0 c-site 0 (continuation (1 ∷ [])) refl refl (0, omega arith, refl) refl in
    let at_landing : n 6 ≡ lands.node = cc (lands.is_node) in
    let slot = lands.in_slots 0 (subst (λ x. exit-live 1 x 0 ≡ true) at_landing refl) in
    absurd (cc (slot.1))
