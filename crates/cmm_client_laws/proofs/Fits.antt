-- Where the test of a yield passes, and the walk that is shown fits, the stack is the chain of the activations, and what is live fits.
use Rattle.std.proofs.Common.{◌≡◌, ℕ, zero, suc, ◌+◌, ◌<◌, ◌≤◌, ◌==◌, ◌||◌, ◌^◌, not, Bool, true, false, List, [], ◌∷◌, map, length, Option, Some, None, refl, sym, ap, ◌∙◌, subst, arith}
use Rattle.std.specs.Prelude.{nat_lt, slice_get, slice_index_or}
use Rattle.std.specs.List.{AllZip, list_all, range_with_len}
use Rattle.std.proofs.lemmas.Bool.{and_parts}
use Rattle.std.proofs.lemmas.Bool.Decides.{nat_tests}
use Rattle.std.proofs.lemmas.List.FromFn.{get_or-map-range_with_len}
use Rattle.cmm_words.specs.Widths.{bits}
use Rattle.cmm_script.specs.Walk as walk
use Rattle.cmm_program.specs.declared.procedure.Proc.{Proc}
use Rattle.cmm_program.specs.declared.procedure.Site.{Site}
use Rattle.cmm_program.specs.declared.procedure.VarInfo.{VarInfo}
use Rattle.cmm_program.specs.Errors.{with_some}
use Rattle.cmm_program.specs.Frames.{Suspended, procedure_at, suspended_at}
use Rattle.cmm_program.specs.Liveness.{is_live_at}
use Rattle.cmm_program.specs.State.{Setting, Activation, stack_top}
use Rattle.cmm_program.specs.Walks as program
use Rattle.cmm_program.specs.Walks.{activation_shown, activations_shown, live_value, walk_of}
use Rattle.cmm_chain.specs.Contents.{Contents, LandingOf}
use Rattle.cmm_chain.specs.Chain.{Point, Suspension, IsChain, behind, found}
use Rattle.cmm_chain.specs.Running.{none_known}
use Rattle.cmm_chain.specs.Walks as chain
use Rattle.cmm_chain.specs.Walks.{Shows as ShowsSuspension, first_mark, shown_at, spot_of, walk_from}
use Rattle.cmm_chain.proofs.Shared.{walk_lists_chain}
use Rattle.cmm_located.specs.Answering.{activation_of, listed, number_shown, shown}
use Rattle.cmm_located.specs.Compiled.{Compiled, Located}
use Rattle.cmm_located.specs.Walkable.{have_pairs, is_last, is_number, is_return_to, is_walkable, locals_known, waits_at}
use Rattle.cmm_client_laws.specs.Fits.{fits_shown, walk_fits}
use Rattle.cmm_client_laws.specs.Walked.{IsGhostOf, IsWalked, live_at, marked, shown_plan}
use Rattle.cmm_client_laws.proofs.Listing.{marked_live, walk_is_marked}
use Rattle.cmm_client_laws.proofs.Showing.{get_less, live_is}
use Rattle.cmm_client_laws.proofs.Walkable.{all_there, last_is, live_parts, number_is, or_live, pairs_are, return_is, site_is}

-- an activation without values, whatever the widths
pub record IsBareGhostOf (s : Setting) (a : Activation) (t : Suspension) : Type 0 where
  pub procedure : a.procedure ≡ t.procedure
  pub waits : a.site ≡ Some t.site
  pub proc : Proc
  pub is_procedure : procedure_at s t.procedure ≡ Some proc
  pub site : Site
  pub is_site : slice_get proc.sites t.site ≡ Some site

as_many_bare : (s : Setting) (activations : List Activation) (suspended : List Suspension) → AllZip (IsBareGhostOf s) activations suspended → length suspended ≡ length activations
as_many_bare s [] [] ghosts = refl
as_many_bare s (a ∷ activations) (t ∷ suspended) ghosts = let rest = as_many_bare s activations suspended ghosts.1 in omega (arith, rest)
as_many_bare s [] (t ∷ suspended) ghosts = absurd ghosts
as_many_bare s (a ∷ activations) [] ghosts = absurd ghosts

-- ---- what a list of variables says of one

variable_fits : (p : Proc) (n : ℕ) (values : List ℕ) (k : ℕ) (infos : List VarInfo) → list_all fits_shown (program.variables_shown p n values k infos) ≡ true →
    (j : ℕ) (info : VarInfo) → slice_get infos j ≡ Some info → is_live_at p n (k + j) ≡ true → slice_index_or values (k + j) 0 < 2 ^ bits info.width
variable_fits p n values k [] fits j info is live = absurd (cc)
variable_fits p n values k (v ∷ infos) fits zero info is live =
    let both = and_parts (fits_shown record { width = bits v.width; kind = v.kind; invariant = v.invariant; value = live_value p n values k }) (list_all fits_shown (program.variables_shown p n values (suc k) infos)) fits in
    let none : k + 0 ≡ k = omega arith in
    let alive : is_live_at p n k ≡ true = ap (is_live_at p n) (sym none) ∙ live in
    let same : v ≡ info = cc in
    let there : nat_lt (slice_index_or values k 0) (2 ^ bits v.width) ≡ true =
    sym (ap (λ (b : Bool). fits_shown record { width = bits v.width; kind = v.kind; invariant = v.invariant; value = elim b as (λ _. Option ℕ) [ true ↦ Some (slice_index_or values k 0) | false ↦ None ] }) alive) ∙ both.0 in
    let less : slice_index_or values k 0 < 2 ^ bits v.width = grind (arith, nat_tests, there) in
    subst (λ (i : ℕ). slice_index_or values i 0 < 2 ^ bits info.width) (sym none) (subst (λ (w : VarInfo). slice_index_or values k 0 < 2 ^ bits w.width) same less)
variable_fits p n values k (v ∷ infos) fits (suc j) info is live =
    let both = and_parts (fits_shown record { width = bits v.width; kind = v.kind; invariant = v.invariant; value = live_value p n values k }) (list_all fits_shown (program.variables_shown p n values (suc k) infos)) fits in
    let more : k + suc j ≡ suc k + j = omega arith in
    subst (λ (i : ℕ). slice_index_or values i 0 < 2 ^ bits info.width) (sym more)
    (variable_fits p n values (suc k) infos both.1 j info is (ap (is_live_at p n) (sym more) ∙ live))

module _ (s : Setting) (c : Compiled) (at : Located) where
  module _ (a : Activation) (p : Suspension) (e : chain.Element) (ghost : IsBareGhostOf s a p) (shows : ShowsSuspension (shown_plan s c) at.holdings p e) (rest : List Activation)
      (fits : walk_fits (activations_shown s (activation_of s c at e ∷ rest)) ≡ true) where
    is_there : procedure_at s e.procedure ≡ Some ghost.proc
    is_there = ap (procedure_at s) shows.procedure ∙ ghost.is_procedure

    abbrev values : List ℕ
    values = (activation_of s c at e).variables

    value_of : (v : ℕ) → v < length ghost.proc.vars → slice_index_or values v 0 ≡ number_shown (shown_at at.holdings (spot_of e.mark (c.plan.place p.procedure v)))
    value_of v less =
        ap (λ (o : Option Proc). slice_index_or (elim o as (λ _. List ℕ) [
          | Some p ↦ map (λ n. number_shown (shown_at at.holdings (spot_of e.mark (c.plan.place e.procedure n)))) (range_with_len 0 (length p.vars))
          | None ↦ []
        ]) v 0) is_there
        ∙ (get_or-map-range_with_len (λ n. number_shown (shown_at at.holdings (spot_of e.mark (c.plan.place e.procedure n)))) 0 (length ghost.proc.vars) v v 0 less (omega arith)
        ∙ ap (λ q. number_shown (shown_at at.holdings (spot_of e.mark (c.plan.place q v)))) shows.procedure)

    abbrev here : Suspended
    here = record { activation = activation_of s c at e; procedure = ghost.proc; number = e.site; site = ghost.site }

    suspended_here : suspended_at s (activation_of s c at e ∷ rest) ≡ Some here
    suspended_here =
        ap (λ (o : Option Proc). with_some o (λ q. with_some (slice_get q.sites e.site) (λ site.
        let there : Suspended = record { activation = activation_of s c at e; procedure = q; number = e.site; site = site } in Some there))) is_there
        ∙ ap (λ (n : ℕ). with_some (slice_get ghost.proc.sites n) (λ site.
        let there : Suspended = record { activation = activation_of s c at e; procedure = ghost.proc; number = e.site; site = site } in Some there)) shows.site
        ∙ ap (λ (o : Option Site). with_some o (λ site.
        let there : Suspended = record { activation = activation_of s c at e; procedure = ghost.proc; number = e.site; site = site } in Some there)) ghost.is_site

    parts : (list_all fits_shown (activation_shown s here).variables ≡ true) × (walk_fits (activations_shown s rest) ≡ true)
    parts =
        let there : walk_fits (activation_shown s here ∷ activations_shown s rest) ≡ true =
        sym (ap (λ (o : Option Suspended). walk_fits (elim o as (λ _. List walk.Activation) [ Some there ↦ activation_shown s there ∷ activations_shown s rest | None ↦ [] ])) suspended_here) ∙ fits in
        and_parts (list_all fits_shown (activation_shown s here).variables) (walk_fits (activations_shown s rest)) there

    one_fits : (v : ℕ) (info : VarInfo) → slice_get ghost.proc.vars v ≡ Some info → is_live_at ghost.proc p.site v ≡ true → p.values v < 2 ^ bits info.width
    one_fits v info is live =
        let less = get_less ghost.proc.vars v info is in
        let there = shows.values v (live_is s p.procedure p.site v ghost.proc ghost.is_procedure live less) in
        let same : slice_index_or values v 0 ≡ p.values v = value_of v less ∙ ap number_shown there in
        let none : 0 + v ≡ v = omega arith in
        let alive : is_live_at ghost.proc e.site (0 + v) ≡ true = ap (λ (n : ℕ). is_live_at ghost.proc n (0 + v)) shows.site ∙ ap (is_live_at ghost.proc p.site) none ∙ live in
        let found : slice_index_or values (0 + v) 0 < 2 ^ bits info.width = variable_fits ghost.proc e.site values 0 ghost.proc.vars parts.0 v info is alive in
        let at_v : slice_index_or values v 0 < 2 ^ bits info.width = subst (λ (i : ℕ). slice_index_or values i 0 < 2 ^ bits info.width) none found in
        subst (λ (n : ℕ). n < 2 ^ bits info.width) same at_v

    ghost_is : IsGhostOf s a p
    ghost_is = record {
      procedure = ghost.procedure;
      waits = ghost.waits;
      proc = ghost.proc;
      is_procedure = ghost.is_procedure;
      site = ghost.site;
      is_site = ghost.is_site;
      fits = one_fits;
    }

  ghosts_are : (activations : List Activation) (suspended : List Suspension) (elements : List chain.Element) → AllZip (IsBareGhostOf s) activations suspended →
      AllZip (ShowsSuspension (shown_plan s c) at.holdings) suspended elements → walk_fits (activations_shown s (map (activation_of s c at) elements)) ≡ true → AllZip (IsGhostOf s) activations suspended
  ghosts_are [] [] elements ghosts shows fits = tt
  ghosts_are (a ∷ activations) (p ∷ suspended) (e ∷ elements) ghosts shows fits = (
    ghost_is a p e ghosts.0 shows.0 (map (activation_of s c at) elements) fits,
    ghosts_are activations suspended elements ghosts.1 shows.1 (parts a p e ghosts.0 shows.0 (map (activation_of s c at) elements) fits).1,
  )
  ghosts_are [] (p ∷ suspended) elements ghosts shows fits = absurd ghosts
  ghosts_are (a ∷ activations) [] elements ghosts shows fits = absurd ghosts
  ghosts_are (a ∷ activations) (p ∷ suspended) [] ghosts shows fits = absurd shows

-- ---- the test gives the chain

module _ (s : Setting) (c : Compiled) (contents : Contents) where
  pub record BareWalked (activations : List Activation) (p : Point) : Type 0 where
    pub suspended : List Suspension
    pub ghosts : AllZip (IsBareGhostOf s) activations suspended
    pub chain : IsChain (shown_plan s c) (stack_top s) contents suspended p

  one_walked : (a : Activation) (older : List Activation) (p : Point) (proc : Proc) (n : ℕ) → procedure_at s a.procedure ≡ Some proc → a.site ≡ Some n → c.plan.is_procedure a.procedure ≡ true →
      waits_at s c contents p a.procedure (Some proc) (Some n) ≡ true → BareWalked older (behind c.plan contents a.procedure p) → BareWalked (a ∷ older) p
  one_walked a older p proc n is_proc is_site exists waits rest =
      let one = and_parts (nat_lt n (length proc.sites)) _ waits in
      let two = and_parts (is_return_to a.procedure n p.back) _ one.1 in
      let three = and_parts (locals_known s c contents p a.procedure proc n) (have_pairs contents a.procedure p.at 0 (c.plan.frame a.procedure).pairs) two.1 in
      let site = site_is proc.sites n one.0 in
      let suspension : Suspension = record { procedure = a.procedure; site = n; values = λ v. number_shown (found contents p (c.plan.place a.procedure v)) } in
      record {
        suspended = suspension ∷ rest.suspended;
        ghosts = (record { procedure = refl; waits = is_site; proc = proc; is_procedure = is_proc; site = site.0; is_site = site.1 }, rest.ghosts);
        chain = (
          record {
            exists = exists;
            back = return_is a.procedure n p.back two.0;
            values = λ v live.
                let parts = live_parts s a.procedure n v proc is_proc live in
                let none : v ≡ 0 + v = omega arith in
                let known = all_there (λ w. not (is_live_at proc n w) || is_number (found contents p (c.plan.place a.procedure w))) 0 (length proc.vars) v three.0 parts.1 in
                let here : (not (is_live_at proc n v) || is_number (found contents p (c.plan.place a.procedure v))) ≡ true =
                ap (λ (w : ℕ). not (is_live_at proc n w) || is_number (found contents p (c.plan.place a.procedure w))) none ∙ known in
                number_is (found contents p (c.plan.place a.procedure v)) (or_live (is_live_at proc n v) _ here parts.0);
            pairs = record {
              code = λ k offset is. let none : 0 + k ≡ k = omega arith in
                  (pairs_are contents a.procedure p.at 0 (c.plan.frame a.procedure).pairs three.1 k offset is).0 ∙ ap (λ (j : ℕ). LandingOf a.procedure j) none;
              frame = λ k offset is. (pairs_are contents a.procedure p.at 0 (c.plan.frame a.procedure).pairs three.1 k offset is).1;
            };
          },
          rest.chain,
        );
      }

  pub walkable_is_chain : (activations : List Activation) (p : Point) → is_walkable s c contents activations p ≡ true → BareWalked activations p
  walkable_is_chain [] p is =
      let both = and_parts (p.at == stack_top s) (is_last p.back) is in
      let at : p.at ≡ stack_top s = grind (arith, nat_tests, both.0) in
      record { suspended = []; ghosts = tt; chain = (at, last_is p.back both.1) }
  walkable_is_chain (a ∷ older) p is =
      let one = and_parts (c.plan.is_procedure a.procedure) _ is in
      let two = and_parts (waits_at s c contents p a.procedure (procedure_at s a.procedure) a.site) (is_walkable s c contents older (behind c.plan contents a.procedure p)) one.1 in
      let rest = walkable_is_chain older (behind c.plan contents a.procedure p) two.1 in
      by (procedure_at s a.procedure) refl a.site refl one.0 two.0 rest
    where
      by : (o : Option Proc) → procedure_at s a.procedure ≡ o → (k : Option ℕ) → a.site ≡ k → c.plan.is_procedure a.procedure ≡ true →
          waits_at s c contents p a.procedure (procedure_at s a.procedure) a.site ≡ true → BareWalked older (behind c.plan contents a.procedure p) → BareWalked (a ∷ older) p
      by (Some proc) is_proc (Some n) is_site exists waits rest = one_walked a older p proc n is_proc is_site exists (rw (is_proc, is_site) at waits) rest
      by (Some proc) is_proc None is_site exists waits rest = absurd (let never : false ≡ true = rw (is_proc, is_site) at waits in cc)
      by None is_proc k is_site exists waits rest = absurd (let never : false ≡ true = rw (is_proc) at waits in cc)

-- ---- together

-- where the test of the yield has passed, and the walk that is shown fits, the state is walked
pub fitting_is_walked : (s : Setting) (c : Compiled) (at : Located) → is_walkable s c at.holdings.contents at.store.activations at.holdings.point ≡ true →
    walk_fits (walk_of s (shown s c at)) ≡ true → at.holdings.temps ≡ none_known → (suspended : List Suspension) × IsWalked s c at.holdings at.store.activations suspended
fitting_is_walked s c at is fits temps =
    let bare = walkable_is_chain s c at.holdings.contents at.store.activations at.holdings.point is in
    let as_many = as_many_bare s at.store.activations bare.suspended bare.ghosts in
    let many : length bare.suspended ≤ length at.store.activations = omega (arith, as_many) in
    let lists : listed s c at ≡ marked c.plan bare.suspended (first_mark at.holdings.point) =
    walk_is_marked c.plan (live_at s) (stack_top s) at.holdings.contents bare.suspended at.holdings.point (first_mark at.holdings.point) (length at.store.activations) bare.chain refl refl many in
    let other : walk_from (shown_plan s c) at.holdings (length at.store.activations) ≡ marked c.plan bare.suspended (first_mark at.holdings.point) =
    walk_is_marked (shown_plan s c) (live_at s) (stack_top s) at.holdings.contents bare.suspended at.holdings.point (first_mark at.holdings.point) (length at.store.activations)
    bare.chain refl refl many ∙ marked_live c.plan (live_at s) bare.suspended (first_mark at.holdings.point) in
    let shows : AllZip (ShowsSuspension (shown_plan s c) at.holdings) bare.suspended (listed s c at) =
    subst (λ (es : List chain.Element). AllZip (ShowsSuspension (shown_plan s c) at.holdings) bare.suspended es) (other ∙ sym lists)
    (walk_lists_chain (shown_plan s c) (stack_top s) bare.suspended at.holdings (length at.store.activations) bare.chain many) in (
      bare.suspended,
      record {
        ghosts = ghosts_are s c at at.store.activations bare.suspended (listed s c at) bare.ghosts shows fits;
        chain = bare.chain;
        temps = temps;
      },
    )
