-- returns: the frame goes, and control goes on at an exit of the site, or the run is over
use Rattle.std.proofs.Common.{◌≡◌, ◌⊎◌, inl, inr, ℕ, zero, suc, ◌+◌, ◌≤◌, ◌==◌, ◌&&◌, nat_lt, nat_le, Bool, true, false, Contains, List, [], ◌∷◌, map, length, slice_get, Ok, Err, Option, Some, None, arith, refl, sym, ap, ◌∙◌, subst}
use Rattle.std.specs.Prelude.{not}
use Rattle.std.proofs.lemmas.Bool.{and_from}
use Rattle.std.proofs.lemmas.Bool.Decides.{nat_tests}
use Rattle.std.proofs.lemmas.List.{length-map}
use Rattle.std.proofs.lemmas.Option.{slice_get_within}
use Rattle.cmm_words.specs.declared.width.Width.{Width}
use Rattle.cmm_program.specs.declared.procedure.Cont.{Cont}
use Rattle.cmm_program.specs.declared.procedure.Proc.{Proc}
use Rattle.cmm_program.specs.declared.procedure.Site.{Site}
use Rattle.cmm_program.specs.declared.procedure.Target.{Target}
use Rattle.cmm_program.specs.declared.procedure.Target.TheVariants as target
use Rattle.cmm_program.specs.Acts.{words_of}
use Rattle.cmm_program.specs.Control.{State, arrived, landed, over}
use Rattle.cmm_program.specs.Errors.{NeverReturns, Tried, WrongAlternates, and_then, given, provided, with_some}
use Rattle.cmm_program.specs.Exits.{Back, Exit, Landing, Resumed, continuation_exit, gone_on, have_widths, land, normal_exit, numbers, return_exit, variable_width}
use Rattle.cmm_program.specs.Frames.{Suspended, procedure_at, suspended_at, without}
use Rattle.cmm_program.specs.Orders as order
use Rattle.cmm_program.specs.Orders.{Order, Word, target_width}
use Rattle.cmm_program.specs.Performing.{Transfer, Over, perform}
use Rattle.cmm_program.specs.State.{Setting, Activation, Store, Ended, Done, stack_top}
use Rattle.cmm_program.specs.Writes.{reads_of}
use Rattle.cmm_machine_laws.specs.Transfers.{Leaves, LeavesTo, Ends, LeavesNot}
use Rattle.cmm_machine_laws.proofs.Shared.{resuming_lands, return_leaves, returning_lands}
use Rattle.cmm_program.proofs.Shared.{some_by}
use Rattle.cmm_graph.specs.declared.number.ContinuationId.{ContinuationId}
use Rattle.cmm_graph.specs.declared.number.NodeId.{NodeId}
use Rattle.cmm_graph.specs.declared.operand.Argument.{Argument}
use Rattle.cmm_graph.specs.declared.node.Exits.{Exits}
use Rattle.cmm_graph.specs.declared.node.NodeKind.{NodeKind}
use Rattle.cmm_graph.specs.declared.node.NodeKind.TheVariants as kind
use Rattle.cmm_graph.specs.Counterpart.{parameter_targets}
use Rattle.cmm_graph.specs.GraphControl as graph
use Rattle.cmm_graph.specs.GraphControl.{Position, behind as behind_node, graph_control, in_graph, kind_at, moved_to, normal_of}
use Rattle.cmm_graph.specs.GraphMachine.{graph_step, tokens_of_youngest}
use Rattle.cmm_graph.specs.Laws.{OrderIsByReads}
use Rattle.cmm_graph.specs.Paths.{landing_of}
use Rattle.cmm_graph.specs.Values.{passed}
use Rattle.cmm_live.specs.Sites.{site_of}
use Rattle.cmm_chain.specs.Chain.{IsChain, Point, behind}
use Rattle.cmm_chain.specs.Contents.{LastReturn, Number, ReturnTo}
use Rattle.cmm_chain.specs.Laws.{IsBackAt}
use Rattle.cmm_chain.specs.Plans.{IsPlanned}
use Rattle.cmm_chain.specs.Running.{Holdings, IsFramed, held, left}
use Rattle.cmm_chain.proofs.Shared.{goes_on_framed, goes_on_with_values}
use Rattle.cmm_located.specs.Answering.{shown}
use Rattle.cmm_located.specs.Compiled.{Compiled, Located, bare, exits_of, landing_in, site_exits}
use Rattle.cmm_located.specs.Entering.{IsWithinMost}
use Rattle.cmm_located.specs.LocatedMachine.{located_step, tried}
use Rattle.cmm_located.specs.Nodes.{exit_node, to_landing, to_return}
use Rattle.cmm_located.specs.Relation.{Liveness, Related, Runs, Waits, site_number, suspension_of, suspensions, value_at}
use Rattle.cmm_located.specs.Returning.{HasExits, HaveExits, IsInRange, LandsAt, ReturnsAreFollowed, is_return}
use Rattle.cmm_located.specs.SameOrders.{HasFrames, ReadsAreLive}
use Rattle.cmm_located.specs.Steps.{IsClosed, IsFollowed, KeepsLive, kind_of_youngest}
use Rattle.cmm_located.proofs.Calls.{have_length}
use Rattle.cmm_located.proofs.Following.{Moves, asks_alike, in_either, wrong_in}
use Rattle.cmm_located.proofs.GoingOn.{Lands, landing_goes, lands_moves, moves_behind}
use Rattle.cmm_located.proofs.Ordering.{same_orders}
use Rattle.cmm_located.proofs.Parts.{by_parts, located_of, position_of, running, state_of}
use Rattle.cmm_located.proofs.Staying.{after_transfer, places_do, places_step_is, step_is}

-- ---- small facts

map_get : {A : Type 0} (f : A → ℕ) (xs : List A) (i k : ℕ) → slice_get (map f xs) i ≡ Some k → (x : A) × (slice_get xs i ≡ Some x) × (f x ≡ k)
map_get f [] i k is = absurd (cc)
map_get f (x ∷ xs) zero k is = (x, refl, cc)
map_get f (x ∷ xs) (suc i) k is = map_get f xs i k is

get_none : {A : Type 0} (xs : List A) (i : ℕ) → length xs ≤ i → slice_get xs i ≡ None
get_none [] i le = refl
get_none (x ∷ xs) zero le = absurd (omega arith)
get_none (x ∷ xs) (suc i) le = get_none xs i (omega arith)

pub get_contains : (xs : List ℕ) (i k : ℕ) → slice_get xs i ≡ Some k → Contains xs k
get_contains [] i k is = absurd (cc)
get_contains (x ∷ xs) zero k is = (0, omega arith, cc)
get_contains (x ∷ xs) (suc i) k is = let rest = get_contains xs i k is in (suc rest.0, omega (arith, rest.1), rest.2)

some_within : {A : Type 0} (xs : List A) (i : ℕ) (x : A) → slice_get xs i ≡ Some x → nat_le i (length xs) ≡ true
some_within xs i x is = let less = slice_get_within xs i x is in grind (arith, nat_tests, less)

-- by which exit a return goes
pub record ByAlternate (p : Proc) (site : Site) (exit : ℕ) (e : Exit) : Type 0 where
  pub k : ℕ
  pub cont : Cont
  pub listed : slice_get site.returns exit ≡ Some k
  pub is_cont : slice_get p.conts k ≡ Some cont
  pub is_exit : record { widths = map (variable_width p) cont.params; landing = Resumed k } ≡ e

pub record ByNormal (site : Site) (exit : ℕ) (e : Exit) : Type 0 where
  pub last : exit ≡ length site.returns
  pub returns : site.never ≡ false
  pub is_exit : normal_exit site ≡ e

pub by_exit : (p : Proc) (site : Site) (exit : ℕ) (e : Exit) → return_exit p site exit ≡ Some e → ByAlternate p site exit e ⊎ ByNormal site exit e
by_exit p site exit e is = by (nat_lt exit (length site.returns)) is
  where
    normal : (last never : Bool) → (exit == length site.returns) ≡ last → site.never ≡ never →
        elim (last && not never) as (λ _. Option Exit) [ true ↦ Some (normal_exit site) | false ↦ None ] ≡ Some e → ByNormal site exit e
    normal true false last never is = record { last = grind (arith, nat_tests, last); returns = never; is_exit = cc }
    normal true true last never is = absurd (cc)
    normal false never_ last never is = absurd (cc)

    by : (less : Bool) → elim less as (λ _. Option Exit) [
      | true ↦ with_some (slice_get site.returns exit) (continuation_exit p)
      | false ↦ elim ((exit == length site.returns) && not site.never) as (λ _. Option Exit) [ true ↦ Some (normal_exit site) | false ↦ None ]
    ] ≡ Some e → ByAlternate p site exit e ⊎ ByNormal site exit e
    by true is =
        let found = some_by (slice_get site.returns exit) (continuation_exit p) e is in
        let cont = some_by (slice_get p.conts found.0) (λ (c : Cont). Some (record { widths = map (variable_width p) c.params; landing = Resumed found.0 })) e found.2 in
        inl record { k = found.0; cont = cont.0; listed = found.1; is_cont = cont.1; is_exit = grind (arith, cont.2) }
    by false is = inr (normal (exit == length site.returns) site.never refl refl is)

-- what is found of an activation that waits
pub suspended_parts : (s : Setting) (f : Activation) (older : List Activation) (n : ℕ) (sa : Suspended) → f.site ≡ Some n → suspended_at s (f ∷ older) ≡ Some sa →
    (procedure_at s f.procedure ≡ Some sa.procedure) × (slice_get sa.procedure.sites n ≡ Some sa.site)
suspended_parts s f older n sa is_site is =
    let one = some_by f.site (λ m. with_some (procedure_at s f.procedure) (λ p. with_some (slice_get p.sites m) (λ site.
    Some (record { activation = f; procedure = p; number = m; site = site })))) sa is in
    let two = some_by (procedure_at s f.procedure) (λ p. with_some (slice_get p.sites one.0) (λ site.
    Some (record { activation = f; procedure = p; number = one.0; site = site }))) sa one.2 in
    let three = some_by (slice_get two.0.sites one.0) (λ site. Some (record { activation = f; procedure = two.0; number = one.0; site = site })) sa two.2 in
    let number : n ≡ one.0 = cc (is_site, one.1) in
    let found : Suspended = record { activation = f; procedure = two.0; number = one.0; site = three.0 } in
    let same : found ≡ sa = cc (three.2) in
    subst (λ (x : Suspended). (procedure_at s f.procedure ≡ Some x.procedure) × (slice_get x.procedure.sites n ≡ Some x.site)) same
    (two.1, ap (λ m. slice_get two.0.sites m) number ∙ three.1)

pub normal_is : (node : NodeKind) (exits : Exits) → exits_of node ≡ Some exits → normal_of node ≡ exits.normal
normal_is (kind.Call site callee arguments x) exits is = ap (λ (o : Option Exits). elim o as (λ _. Option NodeId) [ Some e ↦ e.normal | None ↦ None ]) is
normal_is (kind.Yield site values x) exits is = ap (λ (o : Option Exits). elim o as (λ _. Option NodeId) [ Some e ↦ e.normal | None ↦ None ]) is
normal_is node exits is = absurd (cc)

-- ---- to an activation that waits

module _ (s : Setting) (c : Compiled) (live : Liveness) (frames : HasFrames s c) (store : Store) (a f : Activation) (older : List Activation) (p : Position) (q : Position)
    (ps : List Position) (h : Holdings) (carried : List ℕ)
    (runs : Runs s c live a (f ∷ older) (position_of a p) (q ∷ ps) (located_of store a (f ∷ older) p.node h carried)) (planned : IsPlanned c.plan) (closed : IsClosed c live)
    (exits_are : HaveExits s c live) (most : ℕ) (is_most : IsWithinMost c most) where
  abbrev Now : Store
  Now = running store (a ∷ f ∷ older)

  abbrev There : Located
  There = located_of store a (f ∷ older) p.node h carried

  abbrev Before : State Position
  Before = state_of store a (f ∷ older) p (q ∷ ps)

  abbrev back_at : Point
  back_at = behind c.plan h.contents a.procedure h.point

  abbrev gone : Holdings
  gone = left c.plan a.procedure h

  abbrev waits : Waits c.graphs f q
  waits = runs.waits.0

  abbrev chain : IsChain c.plan (stack_top s) h.contents (suspensions c.graphs (f ∷ older) (q ∷ ps)) back_at
  chain = runs.framed.chain

  site_is : site_number f.site ≡ waits.site
  site_is = ap site_number waits.is_site

  is_back : IsBackAt c.plan h.contents (suspension_of c.graphs f q) back_at gone
  is_back = record { stack = refl; at = refl; kept = λ r is. inl refl }

  back_framed : IsFramed c.plan (stack_top s) f.procedure (suspensions c.graphs older ps) gone
  back_framed = goes_on_framed c.plan (stack_top s) h.contents (suspension_of c.graphs f q) (suspensions c.graphs older ps) back_at gone chain is_back

  back_holds : (u : ℕ) → c.plan.live f.procedure waits.site u ≡ true → held gone (c.plan.place f.procedure u) ≡ Number (value_at c.graphs f q u)
  back_holds u is =
      goes_on_with_values c.plan (stack_top s) h.contents (suspension_of c.graphs f q) (suspensions c.graphs older ps) back_at gone u chain is_back
      (subst (λ n. c.plan.live f.procedure n u ≡ true) (sym site_is) is) (inr (λ r is. refl))

  -- it lands at a CopyIn
  module _ (to : List Target) (n : NodeId) (lands : LandsAt c live f.procedure waits.site to n) (values : List ℕ) (count : length to ≡ length values) where
    reads : ReadsAreLive c live f.procedure n (kind_at c.graphs f.procedure n)
    reads = closed.reads f.procedure n chain.0.exists

    keeps : KeepsLive c live f.procedure n (kind.CopyIn to lands.next)
    keeps = subst (λ node. KeepsLive c live f.procedure n node) lands.is_copy (closed.keeps f.procedure n chain.0.exists)

    there_holds : (u : ℕ) → live f.procedure n u ≡ true → held gone (c.plan.place f.procedure u) ≡ Number (value_at c.graphs f q u)
    there_holds u is = back_holds u (lands.at_site u is)

    -- by a landing and its move of the position
    comes_to : (landing : Landing) (move : Position → Position) (o : Option NodeId) (here : Located) →
        land s landing (without 1 Now) ≡ Some (gone_on to values (without 1 Now)) → arrived (graph_control c.graphs) landing (q ∷ ps) ≡ move q ∷ ps →
        move q ≡ moved_to (with_some o (λ m. Some (behind_node (kind_at c.graphs q.procedure m) m))) q → o ≡ Some n →
        here ≡ Lands s c live planned (without 1 Now) f older q ps gone to n lands.next lands.is_copy reads.of reads.is_graph keeps values count chain.0.exists waits.variables
        there_holds back_framed runs.waits.1 →
        Moves s c live most Before (landed (graph_control c.graphs) s landing (without 1 Now) (q ∷ ps)) here
    comes_to landing move o here lands_ arrives moves is_node goes =
        lands_moves s c live planned (without 1 Now) f older q ps gone to n lands.next lands.is_copy reads.of reads.is_graph keeps values count chain.0.exists waits.variables
        there_holds back_framed runs.waits.1 most is_most Before _ here refl
        (landing_goes s c live planned (without 1 Now) f older q ps gone to n lands.next lands.is_copy reads.of reads.is_graph keeps values count chain.0.exists waits.variables
        there_holds back_framed runs.waits.1 landing move lands_ arrives
        (moves ∙ moves_behind s c live planned (without 1 Now) f older q ps gone to n lands.next lands.is_copy reads.of reads.is_graph keeps values count chain.0.exists
        waits.variables there_holds back_framed runs.waits.1 waits.procedure o is_node))
        goes

  -- over locations, to the node of the exit
  module _ (exit alternates : ℕ) (words : List Word) (pr : Proc) (site : Site) (e : HasExits c live f.procedure pr waits.site site) where
    abbrev here : Located
    here = tried s c There (to_return s c back_at.back exit alternates (numbers words) (without 1 There.store) gone)

    abbrev arriving : NodeId → Located
    arriving n = record {
      store = running (without 1 Now) (record (bare f) { site = None } ∷ map bare older);
      holdings = gone;
      procedure = f.procedure;
      node = n;
      carried = numbers words;
    }

    is_there : ((f.procedure == f.procedure) && elim f.site as (λ _. Bool) [ Some m ↦ m == waits.site | None ↦ false ]) ≡ true
    is_there = and_from (f.procedure == f.procedure) _ (grind (arith, nat_tests))
        (ap (λ o. elim o as (λ _. Bool) [ Some m ↦ m == waits.site | None ↦ false ]) waits.is_site ∙ grind (arith, nat_tests))

    return_goes : (n : NodeId) → nat_le exit (length e.exits.returns) ≡ true → exit_node s c f.procedure e.exits exit ≡ Some n → here ≡ arriving n
    return_goes n fits is_node =
        ap (λ back. tried s c There (to_return s c back exit alternates (numbers words) (without 1 There.store) gone)) (chain.0.back ∙ ap (λ m. ReturnTo f.procedure m) site_is)
        ∙ (ap (λ b. tried s c There (provided b WrongAlternates (given (site_exits c.graphs f.procedure waits.site) WrongAlternates (λ exits. provided (nat_le exit (length exits.returns)) WrongAlternates
        (to_landing s c NeverReturns (exit_node s c f.procedure exits exit) f.procedure (without 1 There.store) gone (numbers words)))))) is_there
        ∙ (ap (λ (o : Option Exits). tried s c There (given o WrongAlternates (λ exits. provided (nat_le exit (length exits.returns)) WrongAlternates
        (to_landing s c NeverReturns (exit_node s c f.procedure exits exit) f.procedure (without 1 There.store) gone (numbers words))))) e.is_exits
        ∙ (ap (λ b. tried s c There (provided b WrongAlternates (to_landing s c NeverReturns (exit_node s c f.procedure e.exits exit) f.procedure (without 1 There.store) gone (numbers words)))) fits
        ∙ ap (λ o. tried s c There (to_landing s c NeverReturns o f.procedure (without 1 There.store) gone (numbers words))) is_node)))

  -- ---- by an exit

  widths_count : (widths : List Width) (words : List Word) (to : List Target) → have_widths widths words ≡ true → length widths ≡ length to → length to ≡ length (numbers words)
  widths_count widths words to have same = sym (length-map words (λ (w : Word). w.value) ∙ (sym (have_length widths words have) ∙ same))

  exit_moves : (exit alternates : ℕ) (words : List Word) (pr : Proc) (site : Site) (e : HasExits c live f.procedure pr waits.site site) (by : Exit) (sa : Suspended) →
      suspended_at s (f ∷ older) ≡ Some sa → sa.site ≡ site → procedure_at s f.procedure ≡ Some pr → have_widths by.widths words ≡ true →
      ByAlternate pr site exit by ⊎ ByNormal site exit by →
      Moves s c live most Before (landed (graph_control c.graphs) s (by.landing (numbers words)) (without 1 Now) (q ∷ ps)) (here exit alternates words pr site e)
  exit_moves exit alternates words pr site e by sa is_sa same is_pr have (inl x) =
      let lands = e.alternate x.k x.cont (get_contains site.returns exit x.k x.listed) x.is_cont in
      let to = parameter_targets pr x.cont in
      let found = map_get (λ (k : ContinuationId). k.number) e.exits.returns exit x.k (ap (λ (l : List ℕ). slice_get l exit) e.returns ∙ x.listed) in
      let widths : map (variable_width pr) x.cont.params ≡ by.widths = ap (λ (y : Exit). y.widths) x.is_exit in
      let landing : Resumed x.k (numbers words) ≡ by.landing (numbers words) = ap (λ (y : Exit). y.landing (numbers words)) x.is_exit in
      let count = widths_count by.widths words to have
      (sym (ap (λ (l : List Width). length l) widths) ∙ (length-map x.cont.params (variable_width pr) ∙ sym (length-map x.cont.params (λ n. target.Variable n (variable_width pr n))))) in
      subst (λ l. Moves s c live most Before (landed (graph_control c.graphs) s l (without 1 Now) (q ∷ ps)) (here exit alternates words pr site e)) landing
      (comes_to to lands.0 lands.2 (numbers words) count (Resumed x.k (numbers words)) ((graph_control c.graphs).resume x.k)
      (in_graph c.graphs q.procedure (λ g. landing_of g (record { number = x.k }))) (here exit alternates words pr site e)
      (resuming_lands s (without 1 Now) f older pr x.k x.cont (numbers words) refl is_pr x.is_cont) refl refl
      (ap (λ r. landing_in c.graphs r x.k) waits.procedure ∙ lands.1)
      (return_goes exit alternates words pr site e lands.0 (some_within e.exits.returns exit found.0 found.1)
      (ap (λ (o : Option ContinuationId). elim o as (λ _. Option NodeId) [ Some k ↦ landing_in c.graphs f.procedure k.number | None ↦ e.exits.normal ]) found.1
      ∙ (ap (λ k. landing_in c.graphs f.procedure k) found.2 ∙ lands.1))))
  exit_moves exit alternates words pr site e by sa is_sa same is_pr have (inr x) =
      let lands = e.normal x.returns in
      let to = site.results in
      let widths : map target_width site.results ≡ by.widths = ap (λ (y : Exit). y.widths) x.is_exit in
      let landing : Back (numbers words) ≡ by.landing (numbers words) = ap (λ (y : Exit). y.landing (numbers words)) x.is_exit in
      let count = widths_count by.widths words to have (sym (ap (λ (l : List Width). length l) widths) ∙ length-map site.results target_width) in
      let many : length e.exits.returns ≡ exit = sym (length-map e.exits.returns (λ (k : ContinuationId). k.number)) ∙ (ap (λ (l : List ℕ). length l) e.returns ∙ sym x.last) in
      subst (λ l. Moves s c live most Before (landed (graph_control c.graphs) s l (without 1 Now) (q ∷ ps)) (here exit alternates words pr site e)) landing
      (comes_to to lands.0 lands.2 (numbers words) count (Back (numbers words)) (graph_control c.graphs).back
      (normal_of (kind_at c.graphs q.procedure q.node)) (here exit alternates words pr site e)
      (returning_lands s (without 1 Now) sa (numbers words) is_sa ∙ ap (λ (y : Site). Some (gone_on y.results (numbers words) (without 1 Now))) same) refl refl
      (normal_is (kind_at c.graphs q.procedure q.node) e.exits of_here ∙ lands.1)
      (return_goes exit alternates words pr site e lands.0 (let le : exit ≤ length e.exits.returns = omega arith in grind (arith, nat_tests))
      (ap (λ (o : Option ContinuationId). elim o as (λ _. Option NodeId) [ Some k ↦ landing_in c.graphs f.procedure k.number | None ↦ e.exits.normal ]) (get_none e.exits.returns exit (omega arith))
      ∙ lands.1)))
    where
      of_here : exits_of (kind_at c.graphs q.procedure q.node) ≡ Some e.exits
      of_here =
          ap (λ r. exits_of (kind_at c.graphs r q.node)) waits.procedure
          ∙ e.of_node q.node (ap (λ r. site_of (kind_at c.graphs r q.node)) (sym waits.procedure) ∙ waits.stands)

  -- ---- the whole step

  module _ (by_reads : OrderIsByReads) (exit alternates : ℕ) (results : List Argument) where
    abbrev ret : NodeKind
    ret = kind.Return exit alternates results

    abbrev after : Tried Transfer → State Position
    after t = after_transfer s c live frames store a (f ∷ older) p (q ∷ ps) h carried runs t

    abbrev places : Tried Order → Located
    places t = places_do s c live frames store a (f ∷ older) p (q ∷ ps) h carried runs ret t

    return_at : (words : List Word) (t : Tried Transfer) → Leaves s Now exit alternates words (f ∷ older) t → wrong_in (after t).store ≡ false →
        Moves s c live most Before (after t) (places (Ok (order.Return exit alternates words)))
    return_at words t (LeavesTo sa e is_sa same is_e have) right =
        let parts = suspended_parts s f older waits.site sa waits.is_site is_sa in
        exit_moves exit alternates words sa.procedure sa.site (exits_are f.procedure sa.procedure waits.site sa.site parts.0 parts.1) e sa is_sa refl parts.0 have
        (by_exit sa.procedure sa.site exit e is_e)
    return_at words t (Ends value none zero_ have is) right = absurd (cc)
    return_at words t (LeavesNot e) right = absurd (cc)

    return_cases : (ws : Tried (List Word)) →
        let asked = and_then ws (λ words. Ok (order.Return exit alternates words)) in
        wrong_in (after (and_then asked (λ o. perform s o Now))).store ≡ false → Moves s c live most Before (after (and_then asked (λ o. perform s o Now))) (places asked)
    return_cases (Err e) right = absurd (cc)
    return_cases (Ok words) right = return_at words (perform s (order.Return exit alternates words) Now) (return_leaves s Now exit alternates words a (f ∷ older) refl) right

    pub return_moves : kind_at c.graphs a.procedure p.node ≡ ret → ReadsAreLive c live a.procedure p.node ret → wrong_in (graph_step c.graphs s Before).store ≡ false →
        Moves s c live most Before (graph_step c.graphs s Before) (located_step s c There)
    return_moves is reads =
        let ws = words_of (reads_of s Now) (passed (graph.keeping (position_of a p)).held results) in
        let asked = and_then ws (λ words. Ok (order.Return exit alternates words)) in
        let goes : located_step s c There ≡ places asked =
        places_step_is s c live frames store a (f ∷ older) p (q ∷ ps) h carried runs ret is
        ∙ ap (λ t. places t) (same_orders by_reads s c live Before a (f ∷ older) (position_of a p) (q ∷ ps) There ret frames refl refl runs reads refl) in
        subst (λ y. wrong_in (graph_step c.graphs s Before).store ≡ false → Moves s c live most Before (graph_step c.graphs s Before) y) (sym goes)
        (subst (λ (x : State Position). wrong_in x.store ≡ false → Moves s c live most Before x (places asked))
        (sym (step_is s c live frames store a (f ∷ older) p (q ∷ ps) h carried runs ret is)) (return_cases ws))

-- ---- the oldest one ends the run

module _ (s : Setting) (c : Compiled) (live : Liveness) (frames : HasFrames s c) (store : Store) (a : Activation) (p : Position) (h : Holdings) (carried : List ℕ)
    (runs : Runs s c live a [] (position_of a p) [] (located_of store a [] p.node h carried)) (by_reads : OrderIsByReads) (exit alternates : ℕ) (results : List Argument)
    (in_range : exit ≤ alternates) where
  abbrev Last : Store
  Last = running store (a ∷ [])

  abbrev LastThere : Located
  LastThere = located_of store a [] p.node h carried

  abbrev LastBefore : State Position
  LastBefore = state_of store a [] p []

  abbrev last_ret : NodeKind
  last_ret = kind.Return exit alternates results

  abbrev last_after : Tried Transfer → State Position
  last_after t = after_transfer s c live frames store a [] p [] h carried runs t

  abbrev last_places : Tried Order → Located
  last_places t = places_do s c live frames store a [] p [] h carried runs last_ret t

  ends_at : (words : List Word) (t : Tried Transfer) → Leaves s Last exit alternates words [] t → wrong_in (last_after t).store ≡ false →
      Related s c live (last_after t) (last_places (Ok (order.Return exit alternates words)))
  ends_at words t (LeavesTo sa e is_sa same is_e have) right = absurd (cc)
  ends_at words t (Ends value none none_alternate have is) right =
      let gone = left c.plan a.procedure h in
      let first : (exit == 0) ≡ true = (let zero_exit : exit ≡ 0 = omega arith in grind (arith, nat_tests)) in
      let over_ : Located = record { store = over (Ended (Done value)) (without 1 LastThere.store); holdings = gone; procedure = 0; node = record { number = 0 }; carried = [] } in
      let goes : last_places (Ok (order.Return exit alternates words)) ≡ over_ =
      ap (λ back. tried s c LastThere (to_return s c back exit alternates (numbers words) (without 1 LastThere.store) gone)) runs.framed.chain.1
      ∙ (ap (λ values. tried s c LastThere (to_return s c LastReturn exit alternates values (without 1 LastThere.store) gone)) is
      ∙ ap (λ b. tried s c LastThere (provided b WrongAlternates (Ok over_))) first) in
      subst (λ y. Related s c live (last_after (Ok (Over 1 (record (without 1 Last) { status = Ended (Done value) })))) y) (sym goes) (record { store = refl; stands = tt })
  ends_at words t (LeavesNot e) right = absurd (cc)

  ends_cases : (ws : Tried (List Word)) →
      let asked = and_then ws (λ words. Ok (order.Return exit alternates words)) in
      wrong_in (last_after (and_then asked (λ o. perform s o Last))).store ≡ false → Related s c live (last_after (and_then asked (λ o. perform s o Last))) (last_places asked)
  ends_cases (Err e) right = absurd (cc)
  ends_cases (Ok words) right = ends_at words (perform s (order.Return exit alternates words) Last) (return_leaves s Last exit alternates words a [] refl) right

  pub run_ends : kind_at c.graphs a.procedure p.node ≡ last_ret → ReadsAreLive c live a.procedure p.node last_ret → wrong_in (graph_step c.graphs s LastBefore).store ≡ false →
      Related s c live (graph_step c.graphs s LastBefore) (located_step s c LastThere)
  run_ends is reads =
      let ws = words_of (reads_of s Last) (passed (graph.keeping (position_of a p)).held results) in
      let asked = and_then ws (λ words. Ok (order.Return exit alternates words)) in
      let goes : located_step s c LastThere ≡ last_places asked =
      places_step_is s c live frames store a [] p [] h carried runs last_ret is
      ∙ ap (λ t. last_places t) (same_orders by_reads s c live LastBefore a [] (position_of a p) [] LastThere last_ret frames refl refl runs reads refl) in
      subst (λ y. wrong_in (graph_step c.graphs s LastBefore).store ≡ false → Related s c live (graph_step c.graphs s LastBefore) y) (sym goes)
      (subst (λ (x : State Position). wrong_in x.store ≡ false → Related s c live x (last_places asked))
      (sym (step_is s c live frames store a [] p [] h carried runs last_ret is)) (ends_cases ws))

-- ---- either

module _ (s : Setting) (c : Compiled) (live : Liveness) (frames : HasFrames s c) (planned : IsPlanned c.plan) (closed : IsClosed c live) (exits_are : HaveExits s c live)
    (most : ℕ) (is_most : IsWithinMost c most) (by_reads : OrderIsByReads) (store : Store) (a : Activation) (p : Position) (h : Holdings) (carried : List ℕ) where
  return_comes : (older : List Activation) (ps : List Position) (runs : Runs s c live a older (position_of a p) ps (located_of store a older p.node h carried)) (node : NodeKind) →
      kind_at c.graphs a.procedure p.node ≡ node → ReadsAreLive c live a.procedure p.node node → IsInRange node → is_return node ≡ true →
      wrong_in (graph_step c.graphs s (state_of store a older p ps)).store ≡ false →
      Related s c live (graph_step c.graphs s (state_of store a older p ps)) (located_step s c (located_of store a older p.node h carried))
      ⊎ Moves s c live most (state_of store a older p ps) (graph_step c.graphs s (state_of store a older p ps)) (located_step s c (located_of store a older p.node h carried))
  return_comes (f ∷ older) (q ∷ ps) runs (kind.Return exit alternates results) is reads in_range returns right =
      inr (return_moves s c live frames store a f older p q ps h carried runs planned closed exits_are most is_most by_reads exit alternates results is reads right)
  return_comes [] [] runs (kind.Return exit alternates results) is reads in_range returns right =
      inl (run_ends s c live frames store a p h carried runs by_reads exit alternates results in_range is reads right)
  return_comes [] (q ∷ ps) runs node is reads in_range returns right = absurd runs.waits
  return_comes (f ∷ older) [] runs node is reads in_range returns right = absurd runs.waits
  return_comes older ps runs node is reads in_range returns right = absurd (cc)

pub returns_are_followed : OrderIsByReads → ReturnsAreFollowed
returns_are_followed by_reads s c live most st at frames planned closed exits_are in_range is_most related status returns =
    by_parts s c live (λ st at. is_return (kind_of_youngest c st) ≡ true → IsFollowed s c live (tokens_of_youngest c.graphs st + most) st at) st at
    (λ store a older p ps h carried runs returns.
    let node = kind_at c.graphs a.procedure p.node in
    let before = state_of store a older p ps in
    let there = located_of store a older p.node h carried in
    in_either s c live (tokens_of_youngest c.graphs before) most before there
    (return_comes s c live frames planned closed exits_are most is_most by_reads store a p h carried older ps runs node refl
    (closed.reads a.procedure p.node runs.exists) (in_range a.procedure p.node runs.exists) returns)
    (λ event is. sym (asks_alike s c (running store (a ∷ older)) (shown s c there) (position_of a p) there node) ∙ is) refl (omega arith))
    status related returns
