-- the client resumes a run: control goes on in an activation that waits
use Rattle.std.proofs.Common.{◌≡◌, ◌⊎◌, ℕ, true, List, [], ◌∷◌, map, drop, length, slice_get, Option, Some, None, refl, sym, ap, ◌∙◌, subst}
use Rattle.cmm_program.specs.declared.procedure.Cont.{Cont}
use Rattle.cmm_program.specs.declared.procedure.Proc.{Proc}
use Rattle.cmm_program.specs.declared.procedure.Target.{Target}
use Rattle.cmm_program.specs.Client.{with_log}
use Rattle.cmm_program.specs.Control.{State, arrived, landed}
use Rattle.cmm_program.specs.Errors.{with_some}
use Rattle.cmm_program.specs.Exits.{Landing, Resumed, gone_on, land}
use Rattle.cmm_program.specs.Frames.{procedure_at, with_site, without}
use Rattle.cmm_program.specs.State.{Setting, Activation, Store, Running, stack_top}
use Rattle.cmm_machine_laws.proofs.Shared.{resuming_lands}
use Rattle.cmm_graph.specs.declared.number.NodeId.{NodeId}
use Rattle.cmm_graph.specs.declared.node.NodeKind.TheVariants as kind
use Rattle.cmm_graph.specs.Counterpart.{parameter_targets}
use Rattle.cmm_graph.specs.GraphControl.{Position, behind as behind_node, graph_control, in_graph, kind_at, moved_to}
use Rattle.cmm_graph.specs.Paths.{landing_of}
use Rattle.cmm_chain.specs.declared.frame.Location.TheVariants.{Slot}
use Rattle.cmm_chain.specs.Chain.{IsChain, Point}
use Rattle.cmm_abi.specs.Registers.{is_callee_saves}
use Rattle.cmm_chain.specs.Contents.{Number}
use Rattle.cmm_chain.specs.Laws.{IsBackAt}
use Rattle.cmm_chain.specs.Plans.{IsPlanned}
use Rattle.cmm_chain.specs.Running.{Holdings, IsFramed, held}
use Rattle.cmm_chain.specs.Walks.{Element}
use Rattle.cmm_chain.proofs.Shared.{goes_on_framed, goes_on_with_values}
use Rattle.cmm_located.specs.Answering.{come_back, landing_node, listed, logged_as, no_landing, resumed_by, values_brought}
use Rattle.cmm_located.specs.Compiled.{Compiled, Located, bare, landing_in}
use Rattle.cmm_located.specs.Entering.{IsWithinMost}
use Rattle.cmm_located.specs.Relation.{Liveness, AllWait, site_number, suspension_of, suspensions, value_at}
use Rattle.cmm_located.specs.Returning.{LandsAt}
use Rattle.cmm_located.specs.SameOrders.{ReadsAreLive}
use Rattle.cmm_located.specs.Steps.{IsClosed, KeepsLive}
use Rattle.cmm_located.proofs.Cuts.{drop_bare}
use Rattle.cmm_located.proofs.Following.{Moves}
use Rattle.cmm_located.proofs.GoingOn.{Lands, landing_goes, lands_moves, moves_behind}
use Rattle.cmm_located.proofs.Parts.{running}
use Rattle.cmm_located.proofs.Standing.{waiting_of}

module _ (s : Setting) (c : Compiled) (live : Liveness) (planned : IsPlanned c.plan) (closed : IsClosed c live) (most : ℕ) (is_most : IsWithinMost c most) (ps : List Position)
    (x : Store) (h : Holdings) (q : ℕ) (n : NodeId) (carried : List ℕ) (log : List ℕ) where
  abbrev At : Located
  At = waiting_of x h q n carried

  module _ (gone : ℕ) (f : Activation) (fs : List Activation) (is_a : drop gone x.activations ≡ f ∷ fs) (g : Position) (gs : List Position) (is_p : drop gone ps ≡ g ∷ gs)
      (there : AllWait c.graphs (f ∷ fs) (g ∷ gs)) (come : Element → Holdings → Holdings) (e : Element) (is_e : slice_get (listed s c At) gone ≡ Some e) (is_q : e.procedure ≡ f.procedure)
      (is_site : e.site ≡ there.0.site) (point : Point) (chain : IsChain c.plan (stack_top s) h.contents (suspensions c.graphs (f ∷ fs) (g ∷ gs)) point)
      (back : IsBackAt c.plan h.contents (suspension_of c.graphs f g) point (come e h)) where
    abbrev Base : Store
    Base = with_log log (without gone x)

    abbrev Again : Holdings
    Again = come e h

    abbrev Before : State Position
    Before = record { store = running Base fs; controls = [] }

    framed : IsFramed c.plan (stack_top s) f.procedure (suspensions c.graphs fs gs) Again
    framed = goes_on_framed c.plan (stack_top s) h.contents (suspension_of c.graphs f g) (suspensions c.graphs fs gs) point Again chain back

    module _ (to : List Target) (node : NodeId) (lands : LandsAt c live f.procedure there.0.site to node)
        (keeps_registers : (u : ℕ) → live f.procedure node u ≡ true →
        ((offset : ℕ) × (c.plan.place f.procedure u ≡ Slot offset)) ⊎ ((r : ℕ) → is_callee_saves r ≡ true → Again.point.kept r ≡ point.kept r))
        (values : List ℕ) (count : length to ≡ length values) where
      reads : ReadsAreLive c live f.procedure node (kind_at c.graphs f.procedure node)
      reads = closed.reads f.procedure node chain.0.exists

      keeps : KeepsLive c live f.procedure node (kind.CopyIn to lands.next)
      keeps = subst (λ k. KeepsLive c live f.procedure node k) lands.is_copy (closed.keeps f.procedure node chain.0.exists)

      holds : (u : ℕ) → live f.procedure node u ≡ true → held Again (c.plan.place f.procedure u) ≡ Number (value_at c.graphs f g u)
      holds u is =
          goes_on_with_values c.plan (stack_top s) h.contents (suspension_of c.graphs f g) (suspensions c.graphs fs gs) point Again u chain back
          (subst (λ m. c.plan.live f.procedure m u ≡ true) (sym (ap site_number there.0.is_site)) (lands.at_site u is)) (keeps_registers u is)

      abbrev Landed : Located
      Landed = Lands s c live planned Base f fs g gs Again to node lands.next lands.is_copy reads.of reads.is_graph keeps values count chain.0.exists there.0.variables holds framed there.1

      -- over locations
      abbrev comes : List Activation → ℕ → List ℕ → Located
      comes activations r brought = record {
        store = record (without gone At.store) { log = log; activations = with_site None activations; status = Running };
        holdings = Again;
        procedure = r;
        node = node;
        carried = brought;
      }

      goes : (landing : Landing) → landing_node s c e.procedure e.site landing ≡ Some node → values_brought landing ≡ values →
          logged_as log (resumed_by s c come gone landing At) ≡ Landed
      goes landing is_node brought =
          ap (λ o. logged_as log (elim o as (λ _. Located) [ Some y ↦ come_back s c come gone landing y At | None ↦ no_landing s c At ])) is_e
          ∙ (ap (λ (o : Option NodeId). logged_as log (elim o as (λ _. Located) [
            | Some m ↦ record {
              store = record (without gone At.store) { activations = with_site None (without gone At.store).activations; status = Running };
              holdings = Again;
              procedure = e.procedure;
              node = m;
              carried = values_brought landing;
            }
            | None ↦ no_landing s c At
          ])) is_node
          ∙ (ap (λ r. comes (without gone At.store).activations r (values_brought landing)) is_q
          ∙ (ap (λ v. comes (without gone At.store).activations f.procedure v) brought
          ∙ ap (λ l. comes l f.procedure values) (drop_bare gone x.activations ∙ ap (λ l. map bare l) is_a))))

      -- by a landing and its move of the position
      pub comes_to : (landing : Landing) (move : Position → Position) (o : Option NodeId) → land s landing (record Base { activations = f ∷ fs }) ≡ Some (gone_on to values (record Base { activations = f ∷ fs })) →
          arrived (graph_control c.graphs) landing (g ∷ gs) ≡ move g ∷ gs →
          move g ≡ moved_to (with_some o (λ m. Some (behind_node (kind_at c.graphs g.procedure m) m))) g → o ≡ Some node →
          landing_node s c e.procedure e.site landing ≡ Some node → values_brought landing ≡ values →
          Moves s c live most Before (landed (graph_control c.graphs) s landing Base (drop gone ps))
          (logged_as log (resumed_by s c come gone landing At))
      comes_to landing move o lands_ arrives moves is_node is_there brought =
          lands_moves s c live planned Base f fs g gs Again to node lands.next lands.is_copy reads.of reads.is_graph keeps values count chain.0.exists there.0.variables holds framed there.1
          most is_most Before _ (logged_as log (resumed_by s c come gone landing At)) refl
          (ap (λ l. landed (graph_control c.graphs) s landing (record Base { activations = l }) (drop gone ps)) is_a
          ∙ (ap (λ l. landed (graph_control c.graphs) s landing (record Base { activations = f ∷ fs }) l) is_p
          ∙ landing_goes s c live planned Base f fs g gs Again to node lands.next lands.is_copy reads.of reads.is_graph keeps values count chain.0.exists there.0.variables holds framed
          there.1 landing move lands_ arrives
          (moves ∙ moves_behind s c live planned Base f fs g gs Again to node lands.next lands.is_copy reads.of reads.is_graph keeps values count chain.0.exists there.0.variables holds
          framed there.1 there.0.procedure o is_node)))
          (goes landing is_there brought)

    -- at a continuation
    pub continues : (p : Proc) (k : ℕ) (cont : Cont) (node : NodeId) → procedure_at s f.procedure ≡ Some p → slice_get p.conts k ≡ Some cont →
        landing_in c.graphs f.procedure k ≡ Some node → (lands : LandsAt c live f.procedure there.0.site (parameter_targets p cont) node) →
        ((u : ℕ) → live f.procedure node u ≡ true →
        ((offset : ℕ) × (c.plan.place f.procedure u ≡ Slot offset)) ⊎ ((r : ℕ) → is_callee_saves r ≡ true → Again.point.kept r ≡ point.kept r)) →
        (values : List ℕ) → length (parameter_targets p cont) ≡ length values →
        Moves s c live most Before (landed (graph_control c.graphs) s (Resumed k values) Base (drop gone ps))
        (logged_as log (resumed_by s c come gone (Resumed k values) At))
    continues p k cont node is_p is_cont is_node lands keeps_registers values count =
        comes_to (parameter_targets p cont) node lands keeps_registers values count (Resumed k values) ((graph_control c.graphs).resume k)
        (in_graph c.graphs g.procedure (λ y. landing_of y (record { number = k }))) (resuming_lands s (record Base { activations = f ∷ fs }) f fs p k cont values refl is_p is_cont) refl refl
        (ap (λ r. landing_in c.graphs r k) there.0.procedure ∙ is_node) (ap (λ r. landing_in c.graphs r k) is_q ∙ is_node) refl
