-- what is required of a stopped program is the same over locations as over a graph
use Rattle.std.proofs.Common.{◌≡◌, ◌⊎◌, inl, inr, ℕ, ◌+◌, ◌<◌, Bool, true, false, Contains, List, [], ◌∷◌, map, drop, length, slice_get, Option, Some, None, arith, refl, sym, ap, ◌∙◌, subst}
use Rattle.std.specs.Prelude.{slice_index_or}
use Rattle.std.specs.List.{AllByRecursion, AllZip}
use Rattle.std.proofs.lemmas.List.{length-map}
use Rattle.std.proofs.lemmas.Option.{same_Some, slice_get_within}
use Rattle.cmm_script.specs.Walk.{Shown}
use Rattle.cmm_program.specs.declared.procedure.Cont.{Cont}
use Rattle.cmm_program.specs.declared.procedure.Proc.{Proc}
use Rattle.cmm_program.specs.declared.procedure.Site.{Site}
use Rattle.cmm_program.specs.declared.procedure.Target.TheVariants as target
use Rattle.cmm_program.specs.declared.program.Label.{Label}
use Rattle.cmm_program.specs.Asking as asking
use Rattle.cmm_program.specs.Asking.{Chain}
use Rattle.cmm_program.specs.Client as client
use Rattle.cmm_program.specs.Client.{Landed, all_located, chain_behind, cut_number, exit_by, linked_label, located, located_shown, may_poke, poked, store_askable, values_at, with_data, with_log, with_value, with_variable}
use Rattle.cmm_program.specs.Control.{State, transferred}
use Rattle.cmm_program.specs.Errors.{with_some}
use Rattle.cmm_program.specs.Exits.{Back, Exit, Landing, Resumed, continuation_exit, return_exit, unwind_exit, variable_width}
use Rattle.cmm_program.specs.Frames.{Suspended, procedure_at, suspended_at, without}
use Rattle.cmm_program.specs.Layout.{label_address}
use Rattle.cmm_program.specs.Liveness.{is_live_at}
use Rattle.cmm_program.specs.Memory as memory
use Rattle.cmm_program.specs.Orders.{target_width}
use Rattle.cmm_program.specs.Performing.{Away}
use Rattle.cmm_program.specs.State.{Setting, Activation, Store, stack_top}
use Rattle.cmm_program.specs.Walks.{live_value}
use Rattle.cmm_program.proofs.Shared.{IsFound, StandsAt, all_found, found_at, set_found, shown_of, some_by, stands_at, variable_shown}
use Rattle.cmm_machine_laws.specs.Alike.{ChainsAlike, ChangesAlike, ExitsAlike, StayAlike}
use Rattle.cmm_machine_laws.proofs.Shared.{returning_lands}
use Rattle.cmm_graph.specs.declared.number.NodeId.{NodeId}
use Rattle.cmm_graph.specs.Counterpart.{parameter_targets}
use Rattle.cmm_graph.specs.GraphControl.{Position, graph_control, kind_at, normal_of}
use Rattle.cmm_live.specs.Sites.{site_of}
use Rattle.cmm_chain.specs.declared.frame.Location.TheVariants.{Slot}
use Rattle.cmm_chain.specs.Chain.{IsChain, Point}
use Rattle.cmm_abi.specs.Registers.{is_callee_saves}
use Rattle.cmm_chain.specs.Contents.{Number}
use Rattle.cmm_chain.specs.Laws.{IsBackAt}
use Rattle.cmm_chain.specs.Running.{Holdings}
use Rattle.cmm_chain.specs.Walks as chain
use Rattle.cmm_chain.specs.Walks.{Element, Shows, Spot, put_at, spot_of, unwound}
use Rattle.cmm_chain.proofs.Shared.{live_alone, set_is_chain, unwound_is_chain}
use Rattle.cmm_located.specs.Answering.{activation_of, cut_to, exit_over, listed, logged_as, places_askable, resumed_by, returned_to, set_number, shown, unwound_to, with_bytes}
use Rattle.cmm_located.specs.Clients.{IsShowable}
use Rattle.cmm_located.specs.Compiled.{Compiled, Located, bare, exits_of, landing_in, site_exits}
use Rattle.cmm_located.specs.Relation.{Liveness, AllWait, Related, site_number, suspension_of, suspensions, variable_count}
use Rattle.cmm_located.specs.Returning.{LandsAt}
use Rattle.cmm_located.specs.RunningSteps.{IsCompiled}
use Rattle.cmm_located.proofs.Asking.{Same, drop_same, find_contains, same_all, same_number, shown_same}
use Rattle.cmm_located.proofs.ClientSets.{alive_with_value, bare_with_value, drop_get, drop_suspensions, element_at, spot_is, waits_with_value}
use Rattle.cmm_located.proofs.Cuts.{reach}
use Rattle.cmm_located.proofs.Following.{Moves}
use Rattle.cmm_located.proofs.Resuming.{comes_to, continues}
use Rattle.cmm_located.proofs.Returns.{ByAlternate, ByNormal, by_exit, get_contains, normal_is}
use Rattle.cmm_located.proofs.Standing.{Stands, lists, same_shown, waiting_of}

-- ---- answers that do the same

module _ (s : Setting) (c : Compiled) (live : Liveness) (most : ℕ) (ps : List Position) where
  -- the two machines come to the same, at once or by a step at a CopyIn
  abbrev pub Comes : State Position → Located → Type 0
  Comes after here = Related s c live after here ⊎ ((before : State Position) × Moves s c live most before after here)

  -- an activation is one that is found in the store
  abbrev pub IsThere : Store → Located → client.Located → client.Located → Type 0
  IsThere x at a b = (a ≡ b) × IsFound s x a

  -- the run goes on alike, whatever is logged
  abbrev pub GoesOn : Landed → Located → Type 0
  GoesOn r here = (log : List ℕ) → Comes (transferred (graph_control c.graphs) s (Away r.gone (with_log log r.store) r.landing) ps) (logged_as log here)

  -- what is required of both
  abbrev pub Chains : Store → Located → Chain client.Located → Chain client.Located → Type 0
  Chains = ChainsAlike (Stands s c ps) IsThere GoesOn

  abbrev pub Changed : Store → Located → Option Store → Option Located → Type 0
  Changed = ChangesAlike (Stands s c ps) IsThere GoesOn

  abbrev pub Stay : Store → Located → Store → Located → Type 0
  Stay = StayAlike (Stands s c ps) IsThere GoesOn

  abbrev pub Exits : Option (asking.Exit Landed) → Option (asking.Exit Located) → Type 0
  Exits = ExitsAlike (Stands s c ps) IsThere GoesOn

module _ (s : Setting) (c : Compiled) (live : Liveness) (most : ℕ) (compiled : IsCompiled s c live most) (showable : IsShowable s c) (ps : List Position)
    (x : Store) (h : Holdings) (q : ℕ) (node_here : NodeId) (carried : List ℕ) (all_wait : AllWait c.graphs x.activations ps)
    (is_chain : IsChain c.plan (stack_top s) h.contents (suspensions c.graphs x.activations ps) h.point) where
  abbrev At : Located
  At = waiting_of x h q node_here carried

  abbrev shown_there : List Activation
  shown_there = map (activation_of s c At) (listed s c At)

  same : AllZip (Same s) x.activations shown_there
  same = same_shown s c showable.variables showable.live ps x h q node_here carried all_wait is_chain

  -- ---- what is seen

  zip_there : (xs : List client.Located) → AllByRecursion (IsFound s x) xs → AllZip (IsThere s c live most ps x At) xs xs
  zip_there [] all = tt
  zip_there (a ∷ xs) all = ((refl, all.0), zip_there xs all.1)

  -- behind n activations
  pub chains_alike : (m : ℕ) → Chains s c live most ps x At (chain_behind s m x) (chain_behind s m (shown s c At))
  chains_alike m =
      let here = all_located s m (drop m x.activations) in
      let alike : here ≡ all_located s m (drop m shown_there) = same_all s m (drop m x.activations) (drop m shown_there) (drop_same s m x.activations shown_there same) in
      record {
        whole = refl;
        also = refl;
        each = subst (λ others. AllZip (IsThere s c live most ps x At) here others) alike (zip_there here (all_found s x m (drop m x.activations) refl));
      }

  pub shown_alike : (a : client.Located) → IsFound s x a → located_shown s x a ≡ located_shown s (shown s c At) a
  shown_alike a found = shown_same s x (shown s c At) a same found

  -- ---- memory

  poke_at : (m : memory.Memory) (test : Bool) →
      Changed s c live most ps x At
      (elim test as (λ _. Option Store) [ true ↦ Some record x { memory = m } | false ↦ None ])
      (with_some (elim test as (λ _. Option Store) [ true ↦ Some record At.store { memory = m } | false ↦ None ]) (λ store. Some record At { store = store }))
  poke_at m true = record { same = record { store = refl; waits = all_wait; chain = is_chain }; each = λ a b is. is }
  poke_at m false = tt

  poke_by : (offset : ℕ) (bytes : List ℕ) (o : Option Label) →
      Changed s c live most ps x At
      (with_some o (λ l. poked x (label_address s.program l + offset) bytes))
      (with_some (with_some o (λ l. poked At.store (label_address s.program l + offset) bytes)) (λ store. Some record At { store = store }))
  poke_by offset bytes (Some l) =
      let address = label_address s.program l + offset in
      poke_at (memory.with_bytes x.memory address bytes) (may_poke x.memory.data_room address (length bytes))
  poke_by offset bytes None = tt

  pub poke_alike : (name : List ℕ) (offset : ℕ) (bytes : List ℕ) →
      Changed s c live most ps x At (with_data s x name offset bytes) (with_bytes s c At name offset bytes)
  poke_alike name offset bytes = poke_by offset bytes (linked_label name s.program.labels)

  -- ---- an activation that waits

  pub record Finds (m : ℕ) (f : Activation) (fs : List Activation) : Type 0 where
    pub position : Position
    pub rest : List Position
    pub is_ps : drop m ps ≡ position ∷ rest
    pub waits : AllWait c.graphs (f ∷ fs) (position ∷ rest)
    pub element : Element
    pub is_element : slice_get (listed s c At) m ≡ Some element
    pub shows : Shows c.plan h (suspension_of c.graphs f position) element
    pub stands : drop m (suspensions c.graphs x.activations ps) ≡ suspensions c.graphs (f ∷ fs) (position ∷ rest)
    pub chain : IsChain c.plan (stack_top s) h.contents (suspensions c.graphs (f ∷ fs) (position ∷ rest)) (unwound element.mark h).point

  finds : (m : ℕ) (f : Activation) (fs : List Activation) → drop m x.activations ≡ f ∷ fs → Finds m f fs
  finds m f fs is =
      let there = reach c (stack_top s) h.contents f fs m x.activations ps h.point all_wait is_chain is in
      let suspended = suspensions c.graphs x.activations ps in
      let stands : drop m suspended ≡ suspensions c.graphs (f ∷ fs) (there.position ∷ there.rest) =
      drop_suspensions c.graphs m x.activations ps
      ∙ (ap (λ l. suspensions c.graphs l (drop m ps)) is ∙ ap (λ l. suspensions c.graphs (f ∷ fs) l) there.is_ps) in
      let e = element_at c.plan h m suspended (listed s c At) (suspension_of c.graphs f there.position) (suspensions c.graphs fs there.rest)
      (lists s c showable.variables showable.live ps x h q node_here carried all_wait is_chain) stands in
      record {
        position = there.position;
        rest = there.rest;
        is_ps = there.is_ps;
        waits = there.waits;
        element = e.0;
        is_element = e.1;
        shows = e.2;
        stands = stands;
        chain = subst (λ l. IsChain c.plan (stack_top s) h.contents l (unwound e.0.mark h).point) stands
            (unwound_is_chain c.plan (stack_top s) suspended h (length (map bare x.activations)) m e.0 is_chain e.1);
      }

  -- ---- runs that are resumed

  abbrev Goes : (Element → Holdings → Holdings) → ℕ → Landing → Type 0
  Goes come gone landing = GoesOn s c live most ps (record { gone = gone; store = without gone x; landing = landing }) (resumed_by s c come gone landing At)

  -- an exit of an activation is taken alike
  resumed_alike : (come : Element → Holdings → Holdings) (a : client.Located) (exit : Option Exit) →
      ((e : Exit) (values : List ℕ) → exit ≡ Some e → length e.widths ≡ length values → Goes come a.younger (e.landing values)) →
      Exits s c live most ps (exit_by x a exit) (exit_over s c come At a exit)
  resumed_alike come a (Some e) each = (refl, λ values count fit. each e values refl count)
  resumed_alike come a None each = tt

  module _ (m : ℕ) (f : Activation) (fs : List Activation) (is_a : drop m x.activations ≡ f ∷ fs) (there : Finds m f fs) (come : Element → Holdings → Holdings) (point : Point)
      (chain_there : IsChain c.plan (stack_top s) h.contents (suspensions c.graphs (f ∷ fs) (there.position ∷ there.rest)) point)
      (back : IsBackAt c.plan h.contents (suspension_of c.graphs f there.position) point (come there.element h)) where
    at_site : there.element.site ≡ there.waits.0.site
    at_site = there.shows.site ∙ ap site_number there.waits.0.is_site

    abbrev KeepsRegisters : NodeId → Type 0
    KeepsRegisters node = (u : ℕ) → live f.procedure node u ≡ true →
        ((offset : ℕ) × (c.plan.place f.procedure u ≡ Slot offset)) ⊎ ((r : ℕ) → is_callee_saves r ≡ true → (come there.element h).point.kept r ≡ point.kept r)

    to_continuation : (p : Proc) (number : ℕ) (e : Exit) (values : List ℕ) → procedure_at s f.procedure ≡ Some p → continuation_exit p number ≡ Some e →
        length e.widths ≡ length values →
        ((cont : Cont) → slice_get p.conts number ≡ Some cont → (node : NodeId) × (landing_in c.graphs f.procedure number ≡ Some node)
        × LandsAt c live f.procedure there.waits.0.site (parameter_targets p cont) node × KeepsRegisters node) → Goes come m (e.landing values)
    to_continuation p number e values is_p is_exit count lands =
        let cont = some_by (slice_get p.conts number) (λ (y : Cont). Some (record { widths = map (variable_width p) y.params; landing = Resumed number })) e is_exit in
        let made : Exit = record { widths = map (variable_width p) cont.0.params; landing = Resumed number } in
        let to = lands cont.0 cont.1 in
        subst (λ (y : Exit). length y.widths ≡ length values → Goes come m (y.landing values)) (same_Some made e cont.2)
        (λ count log. inr (
          _,
          continues s c live compiled.planned compiled.closed most compiled.within ps x h q node_here carried log m f fs is_a there.position there.rest there.is_ps
              there.waits come there.element there.is_element there.shows.procedure at_site point chain_there back p number cont.0 to.0 is_p cont.1 to.1 to.2 to.3 values
              (length-map cont.0.params (λ n. target.Variable n (variable_width p n)) ∙ (sym (length-map cont.0.params (variable_width p)) ∙ count)),
        )) count

  -- ---- unwindings

  pub unwinds : (a : client.Located) (exit : ℕ) → IsFound s x a →
      Exits s c live most ps ((store_askable s).unwind_exit x a exit) ((places_askable s c).unwind_exit At a exit)
  unwinds a exit found = resumed_alike unwound_to a (unwind_exit a.procedure a.site exit) (λ e values is count.
      let here = found_at s x a found in
      by here.0 (stands_at s (drop a.younger x.activations) here.0 here.1) e values (ap (λ (b : client.Located). unwind_exit b.procedure b.site exit) here.2 ∙ is) count)
    where
      by : (sa : Suspended) → StandsAt s (drop a.younger x.activations) sa → (e : Exit) (values : List ℕ) → unwind_exit sa.procedure sa.site exit ≡ Some e →
          length e.widths ≡ length values → Goes unwound_to a.younger (e.landing values)
      by sa at e values is_e count =
          let f = sa.activation in
          let there = finds a.younger f at.older at.stands in
          let number = some_by (slice_get sa.site.unwinds exit) (continuation_exit sa.procedure) e is_e in
          let is_there : slice_get sa.procedure.sites there.waits.0.site ≡ Some sa.site =
          subst (λ j. slice_get sa.procedure.sites j ≡ Some sa.site) (same_Some sa.number there.waits.0.site (sym at.is_number ∙ there.waits.0.is_site)) at.is_site in
          to_continuation a.younger f at.older at.stands there unwound_to (unwound there.element.mark h).point there.chain
          record { stack = refl; at = refl; kept = λ r is. inl refl } sa.procedure number.0 e values at.is_procedure number.2 count
          (λ cont is_cont.
          let lands = (compiled.exits f.procedure sa.procedure there.waits.0.site sa.site at.is_procedure is_there).unwinds number.0 cont (get_contains sa.site.unwinds exit number.0 number.1) is_cont in
          (lands.0, lands.1, lands.2, λ u is_live. inr (λ r is. refl)))

  -- ---- returns, to the youngest

  returns : (exit : ℕ) (vs : List ℕ) (f : Activation) (fs : List Activation) (n : ℕ) (p : Proc) (site : Site) → x.activations ≡ f ∷ fs → f.site ≡ Some n →
      procedure_at s f.procedure ≡ Some p → slice_get p.sites n ≡ Some site → (e : Exit) → ByAlternate p site exit e ⊎ ByNormal site exit e → length e.widths ≡ length vs →
      Goes returned_to 0 (e.landing vs)
  returns exit vs f fs n p site is_a is_n is_p is_site e (inl by) count =
      let there = finds 0 f fs is_a in
      let is_there : slice_get p.sites there.waits.0.site ≡ Some site =
      subst (λ j. slice_get p.sites j ≡ Some site) (same_Some n there.waits.0.site (sym is_n ∙ there.waits.0.is_site)) is_site in
      let chain_there = subst (λ l. IsChain c.plan (stack_top s) h.contents l h.point) there.stands is_chain in
      to_continuation 0 f fs is_a there returned_to h.point chain_there
      record { stack = refl; at = refl; kept = λ r is. inl refl } p by.k e vs is_p
      (ap (λ o. with_some o (λ (y : Cont). Some (record { widths = map (variable_width p) y.params; landing = Resumed by.k }))) by.is_cont ∙ ap (λ y. Some y) by.is_exit) count
      (λ cont is_cont.
      let lands = (compiled.exits f.procedure p there.waits.0.site site is_p is_there).alternate by.k cont (get_contains site.returns exit by.k by.listed) is_cont in
      (lands.0, lands.1, lands.2, λ u is_live. inr (λ r is. refl)))
  returns exit vs f fs n p site is_a is_n is_p is_site e (inr by) count =
      let there = finds 0 f fs is_a in
      let wait = there.waits.0 in
      let is_there : slice_get p.sites wait.site ≡ Some site = subst (λ j. slice_get p.sites j ≡ Some site) (same_Some n wait.site (sym is_n ∙ wait.is_site)) is_site in
      let has = compiled.exits f.procedure p wait.site site is_p is_there in
      let lands = has.normal by.returns in
      let sa : Suspended = record { activation = f; procedure = p; number = wait.site; site = site } in
      let is_sa : suspended_at s (f ∷ fs) ≡ Some sa =
      ap (λ o. with_some o (λ n. with_some (procedure_at s f.procedure) (λ p. with_some (slice_get p.sites n) (λ site. Some (record { activation = f; procedure = p; number = n; site = site }))))) wait.is_site
      ∙ (ap (λ o. with_some o (λ p. with_some (slice_get p.sites wait.site) (λ site. Some (record { activation = f; procedure = p; number = wait.site; site = site })))) is_p
      ∙ ap (λ o. with_some o (λ site. Some (record { activation = f; procedure = p; number = wait.site; site = site }))) is_there) in
      let of_here : exits_of (kind_at c.graphs there.position.procedure there.position.node) ≡ Some has.exits =
      ap (λ r. exits_of (kind_at c.graphs r there.position.node)) wait.procedure
      ∙ has.of_node there.position.node (ap (λ r. site_of (kind_at c.graphs r there.position.node)) (sym wait.procedure) ∙ wait.stands) in
      let chain_there = subst (λ l. IsChain c.plan (stack_top s) h.contents l h.point) there.stands is_chain in
      let at_site : there.element.site ≡ wait.site = there.shows.site ∙ ap site_number wait.is_site in
      subst (λ (y : Exit). length y.widths ≡ length vs → Goes returned_to 0 (y.landing vs)) by.is_exit
      (λ count log. inr (
        _,
        comes_to s c live compiled.planned compiled.closed most compiled.within ps x h q node_here carried log 0 f fs is_a there.position there.rest
            there.is_ps there.waits returned_to there.element there.is_element there.shows.procedure at_site h.point chain_there
            record { stack = refl; at = refl; kept = λ r is. inl refl } site.results lands.0 lands.2 (λ u is_live. inr (λ r is. refl)) vs
            (sym (length-map site.results target_width) ∙ count) (Back vs) (graph_control c.graphs).back (normal_of (kind_at c.graphs there.position.procedure there.position.node))
            (returning_lands s (record (with_log log (without 0 x)) { activations = f ∷ fs }) sa vs is_sa) refl refl
            (normal_is (kind_at c.graphs there.position.procedure there.position.node) has.exits of_here ∙ lands.1)
            (ap (λ r. with_some (site_exits c.graphs r there.element.site) (λ exits. exits.normal)) there.shows.procedure
            ∙ (ap (λ m. with_some (site_exits c.graphs f.procedure m) (λ exits. exits.normal)) at_site
            ∙ (ap (λ o. with_some o (λ exits. exits.normal)) has.is_exits ∙ lands.1))) refl,
      )) count

  pub returns_alike : (a : client.Located) (exit : ℕ) → a.younger ≡ 0 → IsFound s x a →
      Exits s c live most ps ((store_askable s).return_exit x a exit) ((places_askable s c).return_exit At a exit)
  returns_alike a exit first found = resumed_alike returned_to a (return_exit a.procedure a.site exit) (λ e values is count.
      let here = found_at s x a found in
      let there = subst (λ n. suspended_at s (drop n x.activations) ≡ Some here.0) first here.1 in
      let at = stands_at s x.activations here.0 there in
      let is_e = ap (λ (b : client.Located). return_exit b.procedure b.site exit) here.2 ∙ is in
      subst (λ n. Goes returned_to n (e.landing values)) (sym first)
      (returns exit values here.0.activation at.older here.0.number here.0.procedure here.0.site at.stands at.is_number at.is_procedure at.is_site e
      (by_exit here.0.procedure here.0.site exit e is_e) count))

  -- ---- cuts

  cuts : (m : ℕ) (sa : Suspended) (number : ℕ) → StandsAt s (drop m x.activations) sa → Contains sa.site.cuts number → (e : Exit) (values : List ℕ) →
      continuation_exit sa.procedure number ≡ Some e → length e.widths ≡ length values → Goes cut_to m (e.landing values)
  cuts m sa number at listed_ e values is_exit count =
      let f = sa.activation in
      let there = finds m f at.older at.stands in
      let wait = there.waits.0 in
      let is_there : slice_get sa.procedure.sites wait.site ≡ Some sa.site =
      subst (λ j. slice_get sa.procedure.sites j ≡ Some sa.site) (same_Some sa.number wait.site (sym at.is_number ∙ wait.is_site)) at.is_site in
      let cont = some_by (slice_get sa.procedure.conts number) (λ (y : Cont). Some (record { widths = map (variable_width sa.procedure) y.params; landing = Resumed number })) e is_exit in
      let lands = compiled.cuts f.procedure sa.procedure wait.site sa.site number cont.0 at.is_procedure is_there listed_ cont.1 in
      to_continuation m f at.older at.stands there cut_to (unwound there.element.mark h).point there.chain
      record { stack = refl; at = refl; kept = λ r is. inr (lands.saves r is) } sa.procedure number e values at.is_procedure is_exit count
      (λ other is_other.
      let same_cont = same_Some cont.0 other (sym cont.1 ∙ is_other) in (
        lands.node,
        lands.is_node,
        subst (λ (y : Cont). LandsAt c live f.procedure wait.site (parameter_targets sa.procedure y) lands.node) same_cont lands.lands,
        λ u is_live. inl (lands.in_slots u is_live),
      ))

  cut_by : (a : client.Located) (o : Option ℕ) → IsFound s x a → ((k : ℕ) → o ≡ Some k → Contains a.site.cuts k) →
      Exits s c live most ps (with_some o (λ k. exit_by x a (continuation_exit a.procedure k)))
      (with_some o (λ k. exit_over s c cut_to At a (continuation_exit a.procedure k)))
  cut_by a (Some k) found among = resumed_alike cut_to a (continuation_exit a.procedure k) (λ e values is count.
      let here = found_at s x a found in
      cuts a.younger here.0 k (stands_at s (drop a.younger x.activations) here.0 here.1) (subst (λ (b : client.Located). Contains b.site.cuts k) (sym here.2) (among k refl)) e values
      (ap (λ (b : client.Located). continuation_exit b.procedure k) here.2 ∙ is) count)
  cut_by a None found among = tt

  pub cuts_alike : (a : client.Located) (value : ℕ) → IsFound s x a →
      Exits s c live most ps ((store_askable s).cut_exit x a value) ((places_askable s c).cut_exit At a value)
  cuts_alike a value found =
      subst (λ (o : Option ℕ). Exits s c live most ps ((store_askable s).cut_exit x a value)
      (with_some o (λ k. exit_over s c cut_to At a (continuation_exit a.procedure k))))
      (same_number s value a.site.cuts (drop a.younger x.activations) (drop a.younger shown_there) (drop_same s a.younger x.activations shown_there same))
      (cut_by a (cut_number s x.activations a value) found (λ k is. find_contains _ a.site.cuts k is))

  -- ---- values of variables

  -- a state in which a value stands somewhere else
  abbrev with_spot : ℕ → Spot → Located
  with_spot v spot = record At { holdings = put_at spot (Number v) h }

  abbrev placed : ℕ → Option Spot → Located
  placed v o = elim o as (λ _. Located) [ Some spot ↦ with_spot v spot | None ↦ At ]

  sets : (cursor n v : ℕ) (f : Activation) (fs : List Activation) (m : ℕ) (p : Proc) → drop cursor x.activations ≡ f ∷ fs → f.site ≡ Some m → procedure_at s f.procedure ≡ Some p →
      n < length p.vars → is_live_at p m n ≡ true →
      Stands s c ps (record x { activations = with_value cursor n v x.activations }) (set_number s c cursor n v At)
  sets cursor n v f fs m p is_a is_m is_p less is_live =
      let there = finds cursor f fs is_a in
      let suspended = suspensions c.graphs x.activations ps in
      let told_of = suspension_of c.graphs f there.position in
      let site_is : m ≡ site_number f.site = sym (ap site_number is_m) in
      let plan_live : c.plan.live f.procedure (site_number f.site) n ≡ true =
      subst (λ j. c.plan.live f.procedure j n ≡ true) site_is (showable.live f.procedure m n p is_p less is_live) in
      let spot = spot_is h (spot_of there.element.mark (c.plan.place f.procedure n)) (told_of.values n) (there.shows.values n plan_live) in
      let count = showable.variables f.procedure p is_p in
      let below : n < variable_count c.graphs f.procedure = omega arith in
      let after = set_is_chain c.plan (stack_top s) suspended h (length (map bare x.activations)) cursor n v told_of there.element spot.0 compiled.planned is_chain
      (drop_get cursor suspended told_of (suspensions c.graphs fs there.rest) there.stands)
      record { live = plan_live; apart = λ u lives other. showable.apart f.procedure (site_number f.site) n u there.chain.0.exists plan_live lives other }
      there.is_element spot.1 in
      let goes : set_number s c cursor n v At ≡ with_spot v spot.0 =
      ap (λ (o : Option Element). placed v (with_some o (λ e. spot_of e.mark (c.plan.place e.procedure n)))) there.is_element
      ∙ (ap (λ r. placed v (spot_of there.element.mark (c.plan.place r n))) there.shows.procedure ∙ ap (λ o. placed v o) spot.1) in
      subst (λ y. Stands s c ps (record x { activations = with_value cursor n v x.activations }) y) (sym goes) record {
        store = ap (λ l. record x { activations = l }) (sym (bare_with_value cursor n v x.activations));
        waits = waits_with_value c.graphs cursor n v x.activations ps all_wait;
        chain = live_alone c.plan (stack_top s) (put_at spot.0 (Number v) h).contents (chain.with_value cursor n v suspended)
            (suspensions c.graphs (with_value cursor n v x.activations) ps) (put_at spot.0 (Number v) h).point
            (alive_with_value c.graphs c.plan cursor n v x.activations ps f fs all_wait is_a below) after;
      }

  live_is : (p : Proc) (site n old : ℕ) (values : List ℕ) → live_value p site values n ≡ Some old → is_live_at p site n ≡ true
  live_is p site n old values is = by (is_live_at p site n) refl is
    where
      by : (b : Bool) → is_live_at p site n ≡ b → live_value p site values n ≡ Some old → is_live_at p site n ≡ true
      by true test is = test
      by false test is = absurd (none (sym (ap (λ t. elim t as (λ _. Option ℕ) [ true ↦ Some (slice_index_or values n 0) | false ↦ None ]) test) ∙ is))
        where
          none : ◌≡◌ {A = Option ℕ} None (Some old) → ⊥
          none is = cc (is)

  -- a live variable of an activation takes a value
  pub set_alike : (a : client.Located) (n v : ℕ) (variable : Shown) (old : ℕ) → IsFound s x a → slice_get (located_shown s x a).variables n ≡ Some variable →
      variable.value ≡ Some old → Stay s c live most ps x At (with_variable x a n v) (set_number s c a.younger n v At)
  set_alike a n v variable old found there live_ =
      let here = found_at s x a found in
      let at = stands_at s (drop a.younger x.activations) here.0 here.1 in
      let values = values_at (drop a.younger x.activations) in
      let info = some_by (slice_get a.procedure.vars n) (λ i. Some (variable_shown a.procedure a.number values n i)) variable
      (sym (shown_of a.procedure a.number values n a.procedure.vars) ∙ there) in
      let is_info : slice_get here.0.procedure.vars n ≡ Some info.0 = ap (λ (b : client.Located). slice_get b.procedure.vars n) here.2 ∙ info.1 in
      let value : live_value a.procedure a.number values n ≡ Some old = ap (λ (w : Shown). w.value) (same_Some (variable_shown a.procedure a.number values n info.0) variable info.2) ∙ live_ in
      let is_live : is_live_at here.0.procedure here.0.number n ≡ true =
      subst (λ (b : client.Located). is_live_at b.procedure b.number n ≡ true) (sym here.2) (live_is a.procedure a.number n old values value) in
      record {
        same = sets a.younger n v here.0.activation at.older here.0.number here.0.procedure at.stands at.is_number at.is_procedure
            (slice_get_within here.0.procedure.vars n info.0 is_info) is_live;
        each = λ b d is. (is.0, set_found s x a b n v is.1);
      }
