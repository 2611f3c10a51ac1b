-- A second worked row: the premises of the laws of steps hold of a program that cuts, returns alternately, unwinds, and has variables
-- that are live at its sites.
use Rattle.std.proofs.Common.{◌≡◌, ◌≢◌, inl, inr, ℕ, zero, suc, ◌<◌, ◌≤◌, true, Contains, [], ◌∷◌, length, slice_get, Some, is_some, arith, refl, sym, ap, subst}
use Rattle.std.proofs.lemmas.Bool.Decides.{nat_tests}
use Rattle.cmm_program.specs.declared.procedure.Cont.{Cont}
use Rattle.cmm_program.specs.declared.procedure.Proc.{Proc}
use Rattle.cmm_program.specs.declared.procedure.Site.{Site}
use Rattle.cmm_program.specs.Frames.{place_row, procedure_at}
use Rattle.cmm_program.specs.Liveness.{is_among}
use Rattle.cmm_program.specs.State.{Setting}
use Rattle.cmm_program.proofs.Shared.{call_site, yield_site, continuation}
use Rattle.cmm_graph.specs.declared.number.NodeId.{NodeId}
use Rattle.cmm_graph.specs.declared.number.Temporary.{Temporary}
use Rattle.cmm_graph.specs.declared.node.Exits.{Exits}
use Rattle.cmm_graph.specs.Counterpart.{parameter_targets}
use Rattle.cmm_graph.specs.GraphControl.{kind_at}
use Rattle.cmm_graph.specs.GraphMachine.{tokens_at}
use Rattle.cmm_graph.proofs.Shared.{n, s, variable, exits}
use Rattle.cmm_live.specs.Sites.{site_of}
use Rattle.cmm_abi.specs.Registers.{is_callee_saves}
use Rattle.cmm_chain.specs.Plans.{is_laid, is_place, saved_at}
use Rattle.cmm_chain.specs.Running.{lasts}
use Rattle.cmm_located.specs.Compiled.{exits_of, landing_in}
use Rattle.cmm_located.specs.Cutting.{LandInside, LandsByCut, LandsInside}
use Rattle.cmm_located.specs.Entering.{HasEntry}
use Rattle.cmm_located.specs.Returning.{HasExits, IsInRange, LandsAt}
use Rattle.cmm_located.specs.RunningSteps.{IsCompiled}
use Rattle.cmm_located.proofs.ExitNodes.{among, every, is_apart, nodes_right, none_of, one_of, past, places_apart}
use Rattle.cmm_located.proofs.ExitSample.{going_on, main-proc, c-proc, d-proc, exit-setting, exit-live, exiting}

abbrev pub row-setting : Setting
row-setting = exit-setting going_on

-- ---- frames and places

frames_are : (q : ℕ) → exiting.plan.is_procedure q ≡ true → ((exiting.plan.frame q).size ≡ (place_row row-setting q).frame) × (((exiting.plan.frame q).pairs ≡ (place_row row-setting q).pairs)
    × ((exiting.plan.frame q).stack ≡ (place_row row-setting q).stack))
frames_are zero is = (refl, (refl, refl))
frames_are (suc zero) is = (refl, (refl, refl))
frames_are (suc (suc zero)) is = (refl, (refl, refl))
frames_are (suc (suc (suc q))) is = absurd (past q is)

frames_laid : (q : ℕ) → exiting.plan.is_procedure q ≡ true → is_laid (exiting.plan.frame q) ≡ true
frames_laid zero is = refl
frames_laid (suc zero) is = refl
frames_laid (suc (suc zero)) is = refl
frames_laid (suc (suc (suc q))) is = absurd (past q is)

places_are : (q u : ℕ) → exiting.plan.is_procedure q ≡ true → is_place (exiting.plan.frame q) (exiting.plan.place q u) ≡ true
places_are zero zero is = refl
places_are zero (suc zero) is = refl
places_are zero (suc (suc zero)) is = refl
places_are zero (suc (suc (suc u))) is = refl
places_are (suc zero) zero is = refl
places_are (suc zero) (suc zero) is = refl
places_are (suc zero) (suc (suc zero)) is = refl
places_are (suc zero) (suc (suc (suc u))) is = refl
places_are (suc (suc zero)) zero is = refl
places_are (suc (suc zero)) (suc zero) is = refl
places_are (suc (suc zero)) (suc (suc zero)) is = refl
places_are (suc (suc zero)) (suc (suc (suc zero))) is = refl
places_are (suc (suc zero)) (suc (suc (suc (suc u)))) is = refl
places_are (suc (suc (suc q))) u is = absurd (past q is)

-- ---- entries

formals_apart : (u v : ℕ) → exit-live 2 (n 1) u ≡ true → v < 2 → u ≢ v → exiting.plan.place 2 v ≢ exiting.plan.place 2 u
formals_apart u v is_live less other =
    let few : is_among v (0 ∷ 1 ∷ []) ≡ true = grind (arith, nat_tests, less) in
    let all = among (λ x. every (λ y. is_apart 2 x y) (0 ∷ 1 ∷ [])) (0 ∷ 1 ∷ []) u refl is_live in
    places_apart 2 u v (among (λ y. is_apart 2 u y) (0 ∷ 1 ∷ []) v all few) other

main_entry : HasEntry exiting exit-live 0 main-proc
main_entry = record {
  exists = refl;
  variables = refl;
  first = n 0;
  formals = [];
  next = n 1;
  is_first = refl;
  is_entry = refl;
  numbered = refl;
  formals_are_variables = omega arith;
  known = λ u is_live. absurd (cc (is_live));
  apart = λ u v is_live less other. absurd (cc (is_live));
}

c_entry : HasEntry exiting exit-live 1 c-proc
c_entry = record {
  exists = refl;
  variables = refl;
  first = n 0;
  formals = [];
  next = n 1;
  is_first = refl;
  is_entry = refl;
  numbered = refl;
  formals_are_variables = omega arith;
  known = λ u is_live. (let first : u ≡ 0 = grind (arith, nat_tests, is_live) in inr (0, omega arith, sym first));
  apart = λ u v is_live less other. absurd (omega arith);
}

d_entry : HasEntry exiting exit-live 2 d-proc
d_entry = record {
  exists = refl;
  variables = refl;
  first = n 0;
  formals = variable 0 ∷ variable 1 ∷ [];
  next = n 1;
  is_first = refl;
  is_entry = refl;
  numbered = refl;
  formals_are_variables = omega arith;
  known = λ u is_live. (let few : u < 2 = grind (arith, nat_tests, is_live) in inl few);
  apart = formals_apart;
}

entries_are : (q : ℕ) (p : Proc) → procedure_at row-setting q ≡ Some p → HasEntry exiting exit-live q p
entries_are zero p is = let same : main-proc ≡ p = cc (is) in subst (λ x. HasEntry exiting exit-live 0 x) same main_entry
entries_are (suc zero) p is = let same : c-proc ≡ p = cc (is) in subst (λ x. HasEntry exiting exit-live 1 x) same c_entry
entries_are (suc (suc zero)) p is = let same : d-proc ≡ p = cc (is) in subst (λ x. HasEntry exiting exit-live 2 x) same d_entry
entries_are (suc (suc (suc q))) p is = absurd (cc (is))

-- ---- exits

abbrev main-exits : Exits
main-exits = exits (n 3) [] [] []

abbrev c-exits : Exits
c-exits = exits (n 3) (1 ∷ []) [] (0 ∷ [])

abbrev d-exits : Exits
d-exits = exits (n 2) [] (0 ∷ []) []

main_leads : (m : ℕ) → site_of (kind_at exiting.graphs 0 (n m)) ≡ Some (s 0) → exits_of (kind_at exiting.graphs 0 (n m)) ≡ Some main-exits
main_leads zero is = absurd (cc (is))
main_leads (suc zero) is = absurd (cc (is))
main_leads (suc (suc zero)) is = refl
main_leads (suc (suc (suc zero))) is = absurd (cc (is))
main_leads (suc (suc (suc (suc zero)))) is = absurd (cc (is))
main_leads (suc (suc (suc (suc (suc zero))))) is = absurd (cc (is))
main_leads (suc (suc (suc (suc (suc (suc m)))))) is = absurd (cc (is))

c_leads : (m : ℕ) → site_of (kind_at exiting.graphs 1 (n m)) ≡ Some (s 0) → exits_of (kind_at exiting.graphs 1 (n m)) ≡ Some c-exits
c_leads zero is = absurd (cc (is))
c_leads (suc zero) is = absurd (cc (is))
c_leads (suc (suc zero)) is = refl
c_leads (suc (suc (suc zero))) is = absurd (cc (is))
c_leads (suc (suc (suc (suc zero)))) is = absurd (cc (is))
c_leads (suc (suc (suc (suc (suc zero))))) is = absurd (cc (is))
c_leads (suc (suc (suc (suc (suc (suc zero)))))) is = absurd (cc (is))
c_leads (suc (suc (suc (suc (suc (suc (suc zero))))))) is = absurd (cc (is))
c_leads (suc (suc (suc (suc (suc (suc (suc (suc m)))))))) is = absurd (cc (is))

d_leads : (m : ℕ) → site_of (kind_at exiting.graphs 2 (n m)) ≡ Some (s 0) → exits_of (kind_at exiting.graphs 2 (n m)) ≡ Some d-exits
d_leads zero is = absurd (cc (is))
d_leads (suc zero) is = refl
d_leads (suc (suc zero)) is = absurd (cc (is))
d_leads (suc (suc (suc zero))) is = absurd (cc (is))
d_leads (suc (suc (suc (suc zero)))) is = absurd (cc (is))
d_leads (suc (suc (suc (suc (suc zero))))) is = absurd (cc (is))
d_leads (suc (suc (suc (suc (suc (suc zero)))))) is = absurd (cc (is))
d_leads (suc (suc (suc (suc (suc (suc (suc m))))))) is = absurd (cc (is))

abbrev pub c-site : Site
c-site = record (call_site (1 ∷ [])) { returns = 1 ∷ []; cuts = 0 ∷ [] }

abbrev d-site : Site
d-site = record (yield_site (2 ∷ []) 1) { unwinds = 0 ∷ [] }

main_exits : HasExits exiting exit-live 0 main-proc 0 (call_site (1 ∷ []))
main_exits = record {
  exits = main-exits;
  is_exits = refl;
  of_node = λ m is. main_leads m.number is;
  returns = refl;
  normal = λ returns. (n 3, refl, record { next = n 4; is_copy = refl; at_site = λ u is_live. is_live });
  alternate = λ k cont listed is_cont. absurd (none_of k listed);
  unwinds = λ k cont listed is_cont. absurd (none_of k listed);
}

c_alternate : (k : ℕ) (cont : Cont) → Contains c-site.returns k → slice_get c-proc.conts k ≡ Some cont →
    (m : NodeId) × (landing_in exiting.graphs 1 k ≡ Some m) × LandsAt exiting exit-live 1 0 (parameter_targets c-proc cont) m
c_alternate k cont listed is_cont =
    let number : 1 ≡ k = one_of 1 k listed in
    let at : slice_get c-proc.conts 1 ≡ Some cont = subst (λ x. slice_get c-proc.conts x ≡ Some cont) (sym number) is_cont in
    let same : continuation (1 ∷ []) ≡ cont = cc (at) in
    subst (λ x. (m : NodeId) × (landing_in exiting.graphs 1 x ≡ Some m) × LandsAt exiting exit-live 1 0 (parameter_targets c-proc cont) m) number (
      n 7,
      refl,
      subst (λ x. LandsAt exiting exit-live 1 0 (parameter_targets c-proc x) (n 7)) same
          (record { next = n 4; is_copy = refl; at_site = λ u is_live. is_live }),
    )

c_exits : HasExits exiting exit-live 1 c-proc 0 c-site
c_exits = record {
  exits = c-exits;
  is_exits = refl;
  of_node = λ m is. c_leads m.number is;
  returns = refl;
  normal = λ returns. (n 3, refl, record { next = n 4; is_copy = refl; at_site = λ u is_live. is_live });
  alternate = c_alternate;
  unwinds = λ k cont listed is_cont. absurd (none_of k listed);
}

second_live : (u : ℕ) → is_among u (1 ∷ []) ≡ true → is_among u (0 ∷ 1 ∷ []) ≡ true
second_live u is_live = among (λ x. is_among x (0 ∷ 1 ∷ [])) (1 ∷ []) u refl is_live

d_unwinds : (k : ℕ) (cont : Cont) → Contains d-site.unwinds k → slice_get d-proc.conts k ≡ Some cont →
    (m : NodeId) × (landing_in exiting.graphs 2 k ≡ Some m) × LandsAt exiting exit-live 2 0 (parameter_targets d-proc cont) m
d_unwinds k cont listed is_cont =
    let number : 0 ≡ k = one_of 0 k listed in
    let at : slice_get d-proc.conts 0 ≡ Some cont = subst (λ x. slice_get d-proc.conts x ≡ Some cont) (sym number) is_cont in
    let same : continuation (2 ∷ []) ≡ cont = cc (at) in
    subst (λ x. (m : NodeId) × (landing_in exiting.graphs 2 x ≡ Some m) × LandsAt exiting exit-live 2 0 (parameter_targets d-proc cont) m) number (
      n 4,
      refl,
      subst (λ x. LandsAt exiting exit-live 2 0 (parameter_targets d-proc x) (n 4)) same
          (record { next = n 5; is_copy = refl; at_site = second_live }),
    )

d_exits : HasExits exiting exit-live 2 d-proc 0 d-site
d_exits = record {
  exits = d-exits;
  is_exits = refl;
  of_node = λ m is. d_leads m.number is;
  returns = refl;
  normal = λ returns. (n 2, refl, record { next = n 3; is_copy = refl; at_site = λ u is_live. is_live });
  alternate = λ k cont listed is_cont. absurd (none_of k listed);
  unwinds = d_unwinds;
}

-- each procedure has one site
main_sites : (number : ℕ) (site : Site) → slice_get main-proc.sites number ≡ Some site → HasExits exiting exit-live 0 main-proc number site
main_sites zero site is = let same : call_site (1 ∷ []) ≡ site = cc (is) in subst (λ x. HasExits exiting exit-live 0 main-proc 0 x) same main_exits
main_sites (suc number) site is = absurd (cc (is))

c_sites : (number : ℕ) (site : Site) → slice_get c-proc.sites number ≡ Some site → HasExits exiting exit-live 1 c-proc number site
c_sites zero site is = let same : c-site ≡ site = cc (is) in subst (λ x. HasExits exiting exit-live 1 c-proc 0 x) same c_exits
c_sites (suc number) site is = absurd (cc (is))

d_sites : (number : ℕ) (site : Site) → slice_get d-proc.sites number ≡ Some site → HasExits exiting exit-live 2 d-proc number site
d_sites zero site is = let same : d-site ≡ site = cc (is) in subst (λ x. HasExits exiting exit-live 2 d-proc 0 x) same d_exits
d_sites (suc number) site is = absurd (cc (is))

exits_are : (q : ℕ) (p : Proc) (number : ℕ) (site : Site) → procedure_at row-setting q ≡ Some p → slice_get p.sites number ≡ Some site →
    HasExits exiting exit-live q p number site
exits_are zero p number site is is_site =
    let same : main-proc ≡ p = cc (is) in
    subst (λ x. slice_get x.sites number ≡ Some site → HasExits exiting exit-live 0 x number site) same (main_sites number site) is_site
exits_are (suc zero) p number site is is_site =
    let same : c-proc ≡ p = cc (is) in
    subst (λ x. slice_get x.sites number ≡ Some site → HasExits exiting exit-live 1 x number site) same (c_sites number site) is_site
exits_are (suc (suc zero)) p number site is is_site =
    let same : d-proc ≡ p = cc (is) in
    subst (λ x. slice_get x.sites number ≡ Some site → HasExits exiting exit-live 2 x number site) same (d_sites number site) is_site
exits_are (suc (suc (suc q))) p number site is is_site = absurd (cc (is))

-- ---- cuts

-- to k of c, before which w is live
c_cut : (k : ℕ) (cont : Cont) → Contains c-site.cuts k → slice_get c-proc.conts k ≡ Some cont → LandsByCut exiting exit-live 1 0 k (parameter_targets c-proc cont)
c_cut k cont listed is_cont =
    let number : 0 ≡ k = one_of 0 k listed in
    let at : slice_get c-proc.conts 0 ≡ Some cont = subst (λ x. slice_get c-proc.conts x ≡ Some cont) (sym number) is_cont in
    let same : continuation (1 ∷ []) ≡ cont = cc (at) in
    subst (λ x. LandsByCut exiting exit-live 1 0 x (parameter_targets c-proc cont)) number
    (subst (λ x. LandsByCut exiting exit-live 1 0 0 (parameter_targets c-proc x)) same record {
      node = n 6;
      is_node = refl;
      lands = record { next = n 4; is_copy = refl; at_site = λ u is_live. is_live };
      saves = saves;
      in_slots = λ u is_live. (let first : u ≡ 0 = grind (arith, nat_tests, is_live) in (0, ap (λ x. exiting.plan.place 1 x) first));
    })
  where
    saves : (r : ℕ) → is_callee_saves r ≡ true → is_some (saved_at exiting.plan 1 r) ≡ true
    saves r is = grind (arith, nat_tests, is)

main_cuts : (number : ℕ) (site : Site) (k : ℕ) (cont : Cont) → slice_get main-proc.sites number ≡ Some site → Contains site.cuts k →
    slice_get main-proc.conts k ≡ Some cont → LandsByCut exiting exit-live 0 number k (parameter_targets main-proc cont)
main_cuts number site k cont is_site listed is_cont = absurd (cc (is_cont))

c_cuts : (number : ℕ) (site : Site) (k : ℕ) (cont : Cont) → slice_get c-proc.sites number ≡ Some site → Contains site.cuts k →
    slice_get c-proc.conts k ≡ Some cont → LandsByCut exiting exit-live 1 number k (parameter_targets c-proc cont)
c_cuts zero site k cont is_site listed is_cont =
    let same : c-site ≡ site = cc (is_site) in c_cut k cont (subst (λ (x : Site). Contains x.cuts k) (sym same) listed) is_cont
c_cuts (suc number) site k cont is_site listed is_cont = absurd (cc (is_site))

d_cuts : (number : ℕ) (site : Site) (k : ℕ) (cont : Cont) → slice_get d-proc.sites number ≡ Some site → Contains site.cuts k →
    slice_get d-proc.conts k ≡ Some cont → LandsByCut exiting exit-live 2 number k (parameter_targets d-proc cont)
d_cuts zero site k cont is_site listed is_cont =
    let same : d-site ≡ site = cc (is_site) in absurd (none_of k (subst (λ (x : Site). Contains x.cuts k) (sym same) listed))
d_cuts (suc number) site k cont is_site listed is_cont = absurd (cc (is_site))

cuts_are : (q : ℕ) (p : Proc) (number : ℕ) (site : Site) (k : ℕ) (cont : Cont) → procedure_at row-setting q ≡ Some p → slice_get p.sites number ≡ Some site →
    Contains site.cuts k → slice_get p.conts k ≡ Some cont → LandsByCut exiting exit-live q number k (parameter_targets p cont)
cuts_are zero p number site k cont is =
    let same : main-proc ≡ p = cc (is) in
    subst (λ x. slice_get x.sites number ≡ Some site → Contains site.cuts k → slice_get x.conts k ≡ Some cont →
    LandsByCut exiting exit-live 0 number k (parameter_targets x cont)) same (main_cuts number site k cont)
cuts_are (suc zero) p number site k cont is =
    let same : c-proc ≡ p = cc (is) in
    subst (λ x. slice_get x.sites number ≡ Some site → Contains site.cuts k → slice_get x.conts k ≡ Some cont →
    LandsByCut exiting exit-live 1 number k (parameter_targets x cont)) same (c_cuts number site k cont)
cuts_are (suc (suc zero)) p number site k cont is =
    let same : d-proc ≡ p = cc (is) in
    subst (λ x. slice_get x.sites number ≡ Some site → Contains site.cuts k → slice_get x.conts k ≡ Some cont →
    LandsByCut exiting exit-live 2 number k (parameter_targets x cont)) same (d_cuts number site k cont)
cuts_are (suc (suc (suc q))) p number site k cont is = absurd (cc (is))

-- from the cut of d to u, before which i is live
d_inside : (k : ℕ) (cont : Cont) → Contains (0 ∷ []) k → slice_get d-proc.conts k ≡ Some cont → LandsInside exiting exit-live 2 (n 3) k (parameter_targets d-proc cont)
d_inside k cont listed is_cont =
    let number : 0 ≡ k = one_of 0 k listed in
    let at : slice_get d-proc.conts 0 ≡ Some cont = subst (λ x. slice_get d-proc.conts x ≡ Some cont) (sym number) is_cont in
    let same : continuation (2 ∷ []) ≡ cont = cc (at) in
    subst (λ x. LandsInside exiting exit-live 2 (n 3) x (parameter_targets d-proc cont)) number
    (subst (λ x. LandsInside exiting exit-live 2 (n 3) 0 (parameter_targets d-proc x)) same record {
      node = n 4;
      next = n 5;
      is_node = refl;
      is_copy = refl;
      kept = λ u is_live. (among (λ x. exit-live 2 (n 3) x) (1 ∷ []) u refl is_live, among (λ x. lasts (exiting.plan.place 2 x)) (1 ∷ []) u refl is_live);
    })

own_cuts_are : (q : ℕ) (p : Proc) (m : ℕ) → procedure_at row-setting q ≡ Some p → LandInside exiting exit-live q p (n m) (kind_at exiting.graphs q (n m))
own_cuts_are zero p zero is = tt
own_cuts_are zero p (suc zero) is = tt
own_cuts_are zero p (suc (suc zero)) is = tt
own_cuts_are zero p (suc (suc (suc zero))) is = tt
own_cuts_are zero p (suc (suc (suc (suc zero)))) is = tt
own_cuts_are zero p (suc (suc (suc (suc (suc zero))))) is = tt
own_cuts_are zero p (suc (suc (suc (suc (suc (suc m)))))) is = tt
own_cuts_are (suc zero) p zero is = tt
own_cuts_are (suc zero) p (suc zero) is = tt
own_cuts_are (suc zero) p (suc (suc zero)) is = tt
own_cuts_are (suc zero) p (suc (suc (suc zero))) is = tt
own_cuts_are (suc zero) p (suc (suc (suc (suc zero)))) is = tt
own_cuts_are (suc zero) p (suc (suc (suc (suc (suc zero))))) is = tt
own_cuts_are (suc zero) p (suc (suc (suc (suc (suc (suc zero)))))) is = tt
own_cuts_are (suc zero) p (suc (suc (suc (suc (suc (suc (suc zero))))))) is = tt
own_cuts_are (suc zero) p (suc (suc (suc (suc (suc (suc (suc (suc m)))))))) is = tt
own_cuts_are (suc (suc zero)) p zero is = tt
own_cuts_are (suc (suc zero)) p (suc zero) is = tt
own_cuts_are (suc (suc zero)) p (suc (suc zero)) is = tt
own_cuts_are (suc (suc zero)) p (suc (suc (suc zero))) is =
    let same : d-proc ≡ p = cc (is) in
    subst (λ x. (k : ℕ) (cont : Cont) → Contains (0 ∷ []) k → slice_get x.conts k ≡ Some cont → LandsInside exiting exit-live 2 (n 3) k (parameter_targets x cont)) same d_inside
own_cuts_are (suc (suc zero)) p (suc (suc (suc (suc zero)))) is = tt
own_cuts_are (suc (suc zero)) p (suc (suc (suc (suc (suc zero))))) is = tt
own_cuts_are (suc (suc zero)) p (suc (suc (suc (suc (suc (suc zero)))))) is = tt
own_cuts_are (suc (suc zero)) p (suc (suc (suc (suc (suc (suc (suc m))))))) is = tt
own_cuts_are (suc (suc (suc q))) p m is = absurd (cc (is))

pairs_are : (q : ℕ) (p : Proc) → procedure_at row-setting q ≡ Some p → length (place_row row-setting q).pairs ≡ length p.conts
pairs_are zero p is = let same : main-proc ≡ p = cc (is) in subst (λ (x : Proc). 0 ≡ length x.conts) same refl
pairs_are (suc zero) p is = let same : c-proc ≡ p = cc (is) in subst (λ (x : Proc). 2 ≡ length x.conts) same refl
pairs_are (suc (suc zero)) p is = let same : d-proc ≡ p = cc (is) in subst (λ (x : Proc). 1 ≡ length x.conts) same refl
pairs_are (suc (suc (suc q))) p is = absurd (cc (is))

-- ---- returns and tokens

returns_are : (q m : ℕ) → exiting.plan.is_procedure q ≡ true → IsInRange (kind_at exiting.graphs q (n m))
returns_are zero zero is = tt
returns_are zero (suc zero) is = tt
returns_are zero (suc (suc zero)) is = tt
returns_are zero (suc (suc (suc zero))) is = tt
returns_are zero (suc (suc (suc (suc zero)))) is = tt
returns_are zero (suc (suc (suc (suc (suc zero))))) is = omega arith
returns_are zero (suc (suc (suc (suc (suc (suc m)))))) is = tt
returns_are (suc zero) zero is = tt
returns_are (suc zero) (suc zero) is = tt
returns_are (suc zero) (suc (suc zero)) is = tt
returns_are (suc zero) (suc (suc (suc zero))) is = tt
returns_are (suc zero) (suc (suc (suc (suc zero)))) is = tt
returns_are (suc zero) (suc (suc (suc (suc (suc zero))))) is = omega arith
returns_are (suc zero) (suc (suc (suc (suc (suc (suc zero)))))) is = tt
returns_are (suc zero) (suc (suc (suc (suc (suc (suc (suc zero))))))) is = tt
returns_are (suc zero) (suc (suc (suc (suc (suc (suc (suc (suc m)))))))) is = tt
returns_are (suc (suc zero)) zero is = tt
returns_are (suc (suc zero)) (suc zero) is = tt
returns_are (suc (suc zero)) (suc (suc zero)) is = tt
returns_are (suc (suc zero)) (suc (suc (suc zero))) is = tt
returns_are (suc (suc zero)) (suc (suc (suc (suc zero)))) is = tt
returns_are (suc (suc zero)) (suc (suc (suc (suc (suc zero))))) is = tt
returns_are (suc (suc zero)) (suc (suc (suc (suc (suc (suc zero)))))) is = omega arith
returns_are (suc (suc zero)) (suc (suc (suc (suc (suc (suc (suc m))))))) is = tt
returns_are (suc (suc (suc q))) m is = absurd (past q is)

-- each node has one token
one_token : (q m : ℕ) (temporaries : Temporary → ℕ) → tokens_at exiting.graphs (record { procedure = q; node = n m; temporaries = temporaries }) ≤ 1
one_token zero zero temporaries = omega arith
one_token zero (suc zero) temporaries = omega arith
one_token zero (suc (suc zero)) temporaries = omega arith
one_token zero (suc (suc (suc zero))) temporaries = omega arith
one_token zero (suc (suc (suc (suc zero)))) temporaries = omega arith
one_token zero (suc (suc (suc (suc (suc zero))))) temporaries = omega arith
one_token zero (suc (suc (suc (suc (suc (suc m)))))) temporaries = omega arith
one_token (suc zero) zero temporaries = omega arith
one_token (suc zero) (suc zero) temporaries = omega arith
one_token (suc zero) (suc (suc zero)) temporaries = omega arith
one_token (suc zero) (suc (suc (suc zero))) temporaries = omega arith
one_token (suc zero) (suc (suc (suc (suc zero)))) temporaries = omega arith
one_token (suc zero) (suc (suc (suc (suc (suc zero))))) temporaries = omega arith
one_token (suc zero) (suc (suc (suc (suc (suc (suc zero)))))) temporaries = omega arith
one_token (suc zero) (suc (suc (suc (suc (suc (suc (suc zero))))))) temporaries = omega arith
one_token (suc zero) (suc (suc (suc (suc (suc (suc (suc (suc m)))))))) temporaries = omega arith
one_token (suc (suc zero)) zero temporaries = omega arith
one_token (suc (suc zero)) (suc zero) temporaries = omega arith
one_token (suc (suc zero)) (suc (suc zero)) temporaries = omega arith
one_token (suc (suc zero)) (suc (suc (suc zero))) temporaries = omega arith
one_token (suc (suc zero)) (suc (suc (suc (suc zero)))) temporaries = omega arith
one_token (suc (suc zero)) (suc (suc (suc (suc (suc zero))))) temporaries = omega arith
one_token (suc (suc zero)) (suc (suc (suc (suc (suc (suc zero)))))) temporaries = omega arith
one_token (suc (suc zero)) (suc (suc (suc (suc (suc (suc (suc m))))))) temporaries = omega arith
one_token (suc (suc (suc q))) m temporaries = omega arith

pub exiting_is_compiled : IsCompiled row-setting exiting exit-live 1
exiting_is_compiled = record {
  planned = record { laid = frames_laid; places = places_are };
  frames = record { size = λ q is. (frames_are q is).0; pairs = λ q is. (frames_are q is).1.0; stack = λ q is. (frames_are q is).1.1 };
  closed = record { reads = λ q m is. (nodes_right q m.number is).reads_live; keeps = λ q m is. (nodes_right q m.number is).keeps_live };
  ready = λ q m is. (nodes_right q m.number is).ready;
  entries = entries_are;
  exits = exits_are;
  returns = λ q m is. returns_are q m.number is;
  cuts = cuts_are;
  own_cuts = λ q p m is. own_cuts_are q p m.number is;
  pairs = pairs_are;
  within = λ p. one_token p.procedure p.node.number p.temporaries;
}
