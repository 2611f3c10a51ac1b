-- the walk over locations shows the activations of a chain
use Rattle.std.proofs.Common.{◌≡◌, ℕ, suc, ◌+◌, ◌<◌, Bool, true, false, List, [], ◌∷◌, map, length, Option, Some, None, arith, refl, sym, ap, ◌∙◌, subst}
use Rattle.std.specs.Prelude.{slice_get, slice_index_or}
use Rattle.std.specs.List.{AllZip, range_with_len}
use Rattle.std.proofs.lemmas.List.{length-map}
use Rattle.std.proofs.lemmas.List.FromFn.{get_or-map-range_with_len}
use Rattle.cmm_words.specs.Widths.{bits}
use Rattle.cmm_script.specs.Walk.{Shown}
use Rattle.cmm_script.specs.Walk as walk
use Rattle.cmm_program.specs.declared.procedure.Proc.{Proc}
use Rattle.cmm_program.specs.declared.procedure.Site.{Site}
use Rattle.cmm_program.specs.declared.procedure.VarInfo.{VarInfo}
use Rattle.cmm_program.specs.Errors.{with_some}
use Rattle.cmm_program.specs.Frames.{Suspended, procedure_at}
use Rattle.cmm_program.specs.Liveness.{is_live_at}
use Rattle.cmm_program.specs.State.{Setting, Activation, Store}
use Rattle.cmm_program.specs.Walks.{activation_shown, activations_shown, live_value, spans_shown, variables_shown}
use Rattle.cmm_chain.specs.Chain.{Suspension}
use Rattle.cmm_chain.specs.Walks.{Element, Shows, shown_at, spot_of}
use Rattle.cmm_chain.proofs.Shared.{walk_lists_chain}
use Rattle.cmm_located.specs.Answering.{activation_of, listed, number_shown}
use Rattle.cmm_located.specs.Compiled.{Compiled, Located, bare}
use Rattle.cmm_located.specs.ShownWalks.{IsToldOf, KnowsLive, WalkIsShown}

-- ---- variables

-- the value of a variable at a test of liveness
abbrev valued : Bool → List ℕ → ℕ → Option ℕ
valued live values n = elim live [ true ↦ Some (slice_index_or values n 0) | false ↦ None ]

pub same_value : (p : Proc) (site n : ℕ) (vs ws : List ℕ) → (is_live_at p site n ≡ true → slice_index_or vs n 0 ≡ slice_index_or ws n 0) →
    live_value p site vs n ≡ live_value p site ws n
same_value p site n vs ws same = by (is_live_at p site n) refl
  where
    by : (b : Bool) → is_live_at p site n ≡ b → live_value p site vs n ≡ live_value p site ws n
    by true is = ap (λ b. valued b vs n) is ∙ (ap (λ x. Some x) (same is) ∙ sym (ap (λ b. valued b ws n) is))
    by false is = ap (λ b. valued b vs n) is ∙ sym (ap (λ b. valued b ws n) is)

pub same_variables : (p : Proc) (site : ℕ) (vs ws : List ℕ) (k : ℕ) (infos : List VarInfo) →
    ((v : ℕ) → v < k + length infos → is_live_at p site v ≡ true → slice_index_or vs v 0 ≡ slice_index_or ws v 0) →
    variables_shown p site vs k infos ≡ variables_shown p site ws k infos
same_variables p site vs ws k [] same = refl
same_variables p site vs ws k (info ∷ infos) same =
    let value = same_value p site k vs ws (same k (omega arith)) in
    let rest = same_variables p site vs ws (suc k) infos (λ v less live. same v (omega arith) live) in
    ap (λ (o : Option ℕ). record { width = bits info.width; kind = info.kind; invariant = info.invariant; value = o } ∷ variables_shown p site vs (suc k) infos) value
    ∙ ap (λ (l : List Shown). record { width = bits info.width; kind = info.kind; invariant = info.invariant; value = live_value p site ws k } ∷ l) rest

-- ---- activations

module _ (s : Setting) where
  -- an activation at a site, with what is shown of the older ones
  abbrev at_site : Option Site → Proc → ℕ → Activation → List walk.Activation → List walk.Activation
  at_site (Some site) p n a rest = activation_shown s (record { activation = a; procedure = p; number = n; site = site }) ∷ rest
  at_site None p n a rest = []

  abbrev of_procedure : Option Proc → ℕ → Activation → List walk.Activation → List walk.Activation
  of_procedure (Some p) n a rest = at_site (slice_get p.sites n) p n a rest
  of_procedure None n a rest = []

  abbrev found_at : Option Site → Proc → ℕ → Activation → Option Suspended
  found_at o p n a = with_some o (λ site. Some record { activation = a; procedure = p; number = n; site = site })

  abbrev found_in : Option Proc → ℕ → Activation → Option Suspended
  found_in o n a = with_some o (λ p. found_at (slice_get p.sites n) p n a)

  abbrev before : Option Suspended → List walk.Activation → List walk.Activation
  before o rest = elim o [ Some here ↦ activation_shown s here ∷ rest | None ↦ [] ]

  abbrev shown_by : Option ℕ → Activation → List walk.Activation → List walk.Activation
  shown_by site a rest = before (with_some site (λ n. found_in (procedure_at s a.procedure) n a)) rest

  at_site_shown : (o : Option Site) (p : Proc) (n : ℕ) (a : Activation) (rest : List walk.Activation) → before (found_at o p n a) rest ≡ at_site o p n a rest
  at_site_shown (Some site) p n a rest = refl
  at_site_shown None p n a rest = refl

  of_procedure_shown : (o : Option Proc) (n : ℕ) (a : Activation) (rest : List walk.Activation) → before (found_in o n a) rest ≡ of_procedure o n a rest
  of_procedure_shown (Some p) n a rest = at_site_shown (slice_get p.sites n) p n a rest
  of_procedure_shown None n a rest = refl

  shown_of : (n : ℕ) (a : Activation) (rest : List walk.Activation) → shown_by (Some n) a rest ≡ of_procedure (procedure_at s a.procedure) n a rest
  shown_of n a rest = of_procedure_shown (procedure_at s a.procedure) n a rest

  same_at_site : (o : Option Site) (p : Proc) (n : ℕ) (x y : Activation) (rest others : List walk.Activation) → rest ≡ others →
      ((v : ℕ) → v < length p.vars → is_live_at p n v ≡ true → slice_index_or x.variables v 0 ≡ slice_index_or y.variables v 0) →
      at_site o p n x rest ≡ at_site o p n y others
  same_at_site None p n x y rest others is same = refl
  same_at_site (Some site) p n x y rest others is same =
      let variables = same_variables p n x.variables y.variables 0 p.vars (λ v less live. same v (omega arith) live) in
      ap (λ (l : List Shown). record { procedure = p.name; site = n; spans = spans_shown s site; variables = l } ∷ rest) variables
      ∙ ap (λ (r : List walk.Activation). activation_shown s (record { activation = y; procedure = p; number = n; site = site }) ∷ r) is

  same_of : (o : Option Proc) (n : ℕ) (x y : Activation) (rest others : List walk.Activation) → rest ≡ others →
      ((p : Proc) → o ≡ Some p → (v : ℕ) → v < length p.vars → is_live_at p n v ≡ true → slice_index_or x.variables v 0 ≡ slice_index_or y.variables v 0) →
      of_procedure o n x rest ≡ of_procedure o n y others
  same_of None n x y rest others is same = refl
  same_of (Some p) n x y rest others is same = same_at_site (slice_get p.sites n) p n x y rest others is (same p refl)

-- ---- the whole walk

module _ (s : Setting) (c : Compiled) (at : Located) (knows : KnowsLive s c) where
  -- a live variable has its value in what the walk shows
  pub value_is_shown : (a : Activation) (t : Suspension) (e : Element) → IsToldOf s a t → Shows c.plan at.holdings t e →
      (p : Proc) → procedure_at s a.procedure ≡ Some p → (v : ℕ) → v < length p.vars → is_live_at p t.site v ≡ true →
      slice_index_or (activation_of s c at e).variables v 0 ≡ slice_index_or a.variables v 0
  value_is_shown a t e told shows p is v less alive =
      let shown_at_place : ℕ → ℕ → ℕ = λ q n. number_shown (shown_at at.holdings (spot_of e.mark (c.plan.place q n))) in
      let there : procedure_at s e.procedure ≡ Some p = ap (λ q. procedure_at s q) (shows.procedure ∙ told.procedure) ∙ is in
      let live : c.plan.live t.procedure t.site v ≡ true =
      subst (λ q. c.plan.live q t.site v ≡ true) (sym told.procedure) (knows a.procedure t.site v p is less alive) in
      ap (λ (o : Option Proc). slice_index_or (elim o as (λ _. List ℕ) [
        | Some p ↦ map (λ n. number_shown (shown_at at.holdings (spot_of e.mark (c.plan.place e.procedure n)))) (range_with_len 0 (length p.vars))
        | None ↦ []
      ]) v 0) there
      ∙ (get_or-map-range_with_len (λ n. number_shown (shown_at at.holdings (spot_of e.mark (c.plan.place e.procedure n)))) 0 (length p.vars) v v 0 less (omega arith)
      ∙ (ap (λ q. number_shown (shown_at at.holdings (spot_of e.mark (c.plan.place q v)))) shows.procedure
      ∙ (ap number_shown (shows.values v live) ∙ told.values p v is less)))

  same_walk : (activations : List Activation) (suspended : List Suspension) (elements : List Element) → AllZip (IsToldOf s) activations suspended →
      AllZip (Shows c.plan at.holdings) suspended elements → activations_shown s (map (activation_of s c at) elements) ≡ activations_shown s activations
  same_walk [] [] [] told shows = refl
  same_walk (a ∷ older) (t ∷ ts) (e ∷ es) told shows =
      let x = activation_of s c at e in
      let rest = activations_shown s (map (activation_of s c at) es) in
      let others = activations_shown s older in
      let is : rest ≡ others = same_walk older ts es told.1 shows.1 in
      shown_of s e.site x rest
      ∙ (ap (λ q. of_procedure s (procedure_at s q) e.site x rest) (shows.0.procedure ∙ told.0.procedure)
      ∙ (ap (λ n. of_procedure s (procedure_at s a.procedure) n x rest) shows.0.site
      ∙ (same_of s (procedure_at s a.procedure) t.site x a rest others is (value_is_shown a t e told.0 shows.0)
      ∙ (sym (shown_of s t.site a others)
      ∙ sym (ap (λ site. shown_by s site a others) told.0.site)))))
  same_walk [] (t ∷ ts) elements told shows = absurd told
  same_walk (a ∷ older) [] elements told shows = absurd told
  same_walk [] [] (e ∷ es) told shows = absurd shows
  same_walk (a ∷ older) (t ∷ ts) [] told shows = absurd shows

  pub as_many : (activations : List Activation) (suspended : List Suspension) → AllZip (IsToldOf s) activations suspended → length suspended ≡ length activations
  as_many [] [] told = refl
  as_many (a ∷ older) (t ∷ ts) told = ap suc (as_many older ts told.1)
  as_many [] (t ∷ ts) told = absurd told
  as_many (a ∷ older) [] told = absurd told

pub walk_is_shown : WalkIsShown
walk_is_shown s c top store suspended at knows told chain is_store =
    let count : length at.store.activations ≡ length store.activations =
    ap (λ (st : Store). length st.activations) is_store ∙ length-map store.activations bare in
    let many = as_many s c at knows store.activations suspended told in
    let shows = walk_lists_chain c.plan top suspended at.holdings (length at.store.activations) chain (omega arith) in
    same_walk s c at knows store.activations suspended (listed s c at) told shows
