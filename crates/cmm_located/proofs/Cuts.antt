-- cuts: control moves to a frame whose activation lists the continuation
use Rattle.std.proofs.Common.{◌≡◌, inl, inr, ℕ, zero, suc, ◌+◌, ◌-◌, ◌<◌, ◌==◌, true, false, Contains, List, [], ◌∷◌, drop, map, length, slice_get, slice_index_or, Ok, Err, Option, Some, None, arith, refl, sym, ap, ◌∙◌, subst}
use Rattle.std.specs.Prelude.{find}
use Rattle.std.proofs.lemmas.Bool.{and_from}
use Rattle.std.proofs.lemmas.Bool.Decides.{nat_tests}
use Rattle.std.proofs.lemmas.List.{length-map}
use Rattle.std.proofs.lemmas.Option.{slice_get_within}
use Rattle.cmm_program.specs.declared.procedure.Cont.{Cont}
use Rattle.cmm_program.specs.declared.procedure.Proc.{Proc}
use Rattle.cmm_program.specs.declared.procedure.Site.{Site}
use Rattle.cmm_program.specs.declared.procedure.Target.{Target}
use Rattle.cmm_program.specs.declared.procedure.Target.TheVariants as target
use Rattle.cmm_program.specs.Acts.{words_of}
use Rattle.cmm_program.specs.Control.{State, landed}
use Rattle.cmm_program.specs.Errors.{NoSuchCut, Tried, and_then, given, provided, with_some}
use Rattle.cmm_program.specs.Exits.{Exit, Landing, Resumed, continuation_exit, have_widths, numbers, variable_width}
use Rattle.cmm_program.specs.Frames.{Suspended, continuation_value, frame_address, place_row, procedure_at, site_cuts, suspended_at, with_site, without}
use Rattle.cmm_program.specs.Orders as order
use Rattle.cmm_program.specs.Orders.{Order, Word}
use Rattle.cmm_program.specs.Performing.{Found, Transfer, cut_among, found_exit, perform}
use Rattle.cmm_program.specs.State.{Setting, Activation, Store, Running, stack_top}
use Rattle.cmm_program.specs.Writes.{reads_of}
use Rattle.cmm_machine_laws.specs.Transfers.{Cuts, CutsNot, CutsTo, IsListed}
use Rattle.cmm_machine_laws.proofs.Shared.{cut_cuts, resuming_lands, search_finds}
use Rattle.cmm_program.proofs.Shared.{some_by}
use Rattle.cmm_graph.specs.declared.number.ContinuationId.{ContinuationId}
use Rattle.cmm_graph.specs.declared.number.NodeId.{NodeId}
use Rattle.cmm_graph.specs.declared.operand.Argument.{Argument}
use Rattle.cmm_graph.specs.declared.operand.Operand.{Operand}
use Rattle.cmm_graph.specs.declared.node.NodeKind.{NodeKind}
use Rattle.cmm_graph.specs.declared.node.NodeKind.TheVariants as kind
use Rattle.cmm_graph.specs.Counterpart.{numbers_of, parameter_targets}
use Rattle.cmm_graph.specs.GraphControl as graph
use Rattle.cmm_graph.specs.GraphControl.{Position, graph_control, in_graph, kind_at}
use Rattle.cmm_graph.specs.GraphMachine.{graph_step, tokens_of_youngest}
use Rattle.cmm_graph.specs.Laws.{OrderIsByReads}
use Rattle.cmm_graph.specs.Paths.{landing_of}
use Rattle.cmm_graph.specs.Values.{operand_value, passed}
use Rattle.cmm_chain.specs.declared.frame.Location.{Location}
use Rattle.cmm_chain.specs.declared.frame.Location.TheVariants.{Slot, Saved, Temp}
use Rattle.cmm_chain.specs.Chain.{HasPairs, IsChain, Point, behind}
use Rattle.cmm_chain.specs.Contents.{Contents, LandingOf, Number}
use Rattle.cmm_chain.specs.Laws.{IsBackAt}
use Rattle.cmm_chain.specs.Plans.{IsPlanned}
use Rattle.cmm_chain.specs.Running.{Holdings, IsFramed, cut_at, held, lasts}
use Rattle.cmm_chain.proofs.Shared.{frames_reach_top, goes_on_framed, goes_on_with_values}
use Rattle.cmm_located.specs.Answering.{shown}
use Rattle.cmm_located.specs.Compiled.{Compiled, Located, bare, landing_in}
use Rattle.cmm_located.specs.Cutting.{CutsAreFollowed, HaveCuts, HaveOwnCuts, HavePairs, LandInside, is_cut}
use Rattle.cmm_located.specs.Entering.{IsWithinMost}
use Rattle.cmm_located.specs.LocatedMachine.{located_step, tried}
use Rattle.cmm_located.specs.Nodes.{is_pair_of, to_landing, to_pair}
use Rattle.cmm_located.specs.Relation.{Liveness, AllWait, Runs, site_number, suspension_of, suspensions, value_at, variable_count}
use Rattle.cmm_located.specs.SameOrders.{HasFrames, ReadsAreLive}
use Rattle.cmm_located.specs.Steps.{IsClosed, IsFollowed, KeepsLive, kind_of_youngest}
use Rattle.cmm_located.proofs.Calls.{have_length}
use Rattle.cmm_located.proofs.Entries.{bare_sizes}
use Rattle.cmm_located.proofs.Following.{Moves, asks_alike, in_two, wrong_in}
use Rattle.cmm_located.proofs.GoingOn.{Lands, gone_state, landing_goes, lands_moves, moves_behind}
use Rattle.cmm_located.proofs.Ordering.{frame_is_there, same_orders, same_sizes}
use Rattle.cmm_located.proofs.Parts.{by_parts, located_of, position_of, running, state_of}
use Rattle.cmm_located.proofs.Returns.{suspended_parts}
use Rattle.cmm_located.proofs.Staying.{after_transfer, places_do, places_step_is, step_is}

-- ---- the search finds the same among activations without their values

abbrev pub cuts_of : Option Suspended → List ℕ
cuts_of o = elim o as (λ _. List ℕ) [ Some a ↦ a.site.cuts | None ↦ [] ]

module _ (s : Setting) (a : Activation) (older : List Activation) where
  at_site : (n : ℕ) (p : Proc) (o : Option Site) →
      cuts_of (with_some o (λ site. Some (record { activation = bare a; procedure = p; number = n; site = site })))
      ≡ cuts_of (with_some o (λ site. Some (record { activation = a; procedure = p; number = n; site = site })))
  at_site n p (Some site) = refl
  at_site n p None = refl

  at_procedure : (n : ℕ) (o : Option Proc) →
      cuts_of (with_some o (λ p. with_some (slice_get p.sites n) (λ site. Some (record { activation = bare a; procedure = p; number = n; site = site }))))
      ≡ cuts_of (with_some o (λ p. with_some (slice_get p.sites n) (λ site. Some (record { activation = a; procedure = p; number = n; site = site }))))
  at_procedure n (Some p) = at_site n p (slice_get p.sites n)
  at_procedure n None = refl

  at_number : (o : Option ℕ) →
      cuts_of (with_some o (λ n. with_some (procedure_at s a.procedure) (λ p. with_some (slice_get p.sites n) (λ site. Some (record { activation = bare a; procedure = p; number = n; site = site })))))
      ≡ cuts_of (with_some o (λ n. with_some (procedure_at s a.procedure) (λ p. with_some (slice_get p.sites n) (λ site. Some (record { activation = a; procedure = p; number = n; site = site })))))
  at_number (Some n) = at_procedure n (procedure_at s a.procedure)
  at_number None = refl

pub bare_sites : (s : Setting) (activations : List Activation) → site_cuts s (map bare activations) ≡ site_cuts s activations
bare_sites s [] = refl
bare_sites s (a ∷ older) = at_number s a older a.site

pub bare_search : (s : Setting) (value : ℕ) (activations : List Activation) (own : List ℕ) (younger : ℕ) →
    cut_among s younger own value (map bare activations) ≡ cut_among s younger own value activations
bare_search s value [] own younger = refl
bare_search s value (a ∷ older) own younger =
    ap (λ total. elim (find (λ k. (stack_top s - total + slice_index_or (place_row s a.procedure).pairs k 0) == value) own) as (λ _. Option Found) [
      | Some k ↦ Some (record { younger = younger; procedure = a.procedure; continuation = k })
      | None ↦ cut_among s (suc younger) (site_cuts s (map bare older)) value (map bare older)
    ]) (bare_sizes s (a ∷ older))
    ∙ ap (λ (o : Option Found). elim (find (λ k. continuation_value s (a ∷ older) k == value) own) as (λ _. Option Found) [
      | Some k ↦ Some (record { younger = younger; procedure = a.procedure; continuation = k })
      | None ↦ o
    ]) (ap (λ l. cut_among s (suc younger) l value (map bare older)) (bare_sites s older) ∙ bare_search s value older (site_cuts s older) (suc younger))

pub drop_bare : (m : ℕ) (activations : List Activation) → drop m (map bare activations) ≡ map bare (drop m activations)
drop_bare zero activations = refl
drop_bare (suc m) [] = refl
drop_bare (suc m) (a ∷ older) = drop_bare m older

get_is : (xs : List ℕ) (k : ℕ) → k < length xs → slice_get xs k ≡ Some (slice_index_or xs k 0)
get_is [] k less = absurd (omega arith)
get_is (x ∷ xs) zero less = refl
get_is (x ∷ xs) (suc k) less = get_is xs k (omega arith)

-- ---- an activation of the chain, by its number

pub record Reached (c : Compiled) (top : ℕ) (contents : Contents) (ps : List Position) (m : ℕ) (f : Activation) (fs : List Activation) : Type 0 where
  pub point : Point
  pub position : Position
  pub rest : List Position
  pub is_ps : drop m ps ≡ position ∷ rest
  pub waits : AllWait c.graphs (f ∷ fs) (position ∷ rest)
  pub chain : IsChain c.plan top contents (suspensions c.graphs (f ∷ fs) (position ∷ rest)) point

pub reach : (c : Compiled) (top : ℕ) (contents : Contents) (f : Activation) (fs : List Activation) (m : ℕ) (activations : List Activation) (ps : List Position) (point : Point) →
    AllWait c.graphs activations ps → IsChain c.plan top contents (suspensions c.graphs activations ps) point → drop m activations ≡ f ∷ fs → Reached c top contents ps m f fs
reach c top contents f fs zero (x ∷ xs) (q ∷ qs) point waits chain is = record {
  point = point;
  position = q;
  rest = qs;
  is_ps = refl;
  waits = subst (λ l. AllWait c.graphs l (q ∷ qs)) is waits;
  chain = subst (λ l. IsChain c.plan top contents (suspensions c.graphs l (q ∷ qs)) point) is chain;
}
reach c top contents f fs (suc m) (x ∷ xs) (q ∷ qs) point waits chain is =
    let there = reach c top contents f fs m xs qs (behind c.plan contents x.procedure point) waits.1 chain.1 is in
    record { point = there.point; position = there.position; rest = there.rest; is_ps = there.is_ps; waits = there.waits; chain = there.chain }
reach c top contents f fs zero [] ps point waits chain is = absurd (cc (is))
reach c top contents f fs (suc m) [] ps point waits chain is = absurd (cc (is))
reach c top contents f fs m (x ∷ xs) [] point waits chain is = absurd waits

-- a place that lasts holds the same at the frame of the youngest
held_lasts : (h : Holdings) (l : Location) → lasts l ≡ true → held (cut_at h.point.at h) l ≡ held h l
held_lasts h (Slot offset) is = refl
held_lasts h (Saved r) is = refl
held_lasts h (Temp r) is = absurd (cc (is))

-- ---- where it goes on

module _ (s : Setting) (c : Compiled) (live : Liveness) (frames : HasFrames s c) (planned : IsPlanned c.plan) (closed : IsClosed c live) (pairs_are : HavePairs s) (most : ℕ)
    (is_most : IsWithinMost c most) (store : Store) (a : Activation) (older : List Activation) (p : Position) (ps : List Position) (h : Holdings) (carried : List ℕ) where
  abbrev Now : Store
  Now = running store (a ∷ older)

  abbrev There : Located
  There = located_of store a older p.node h carried

  abbrev Before : State Position
  Before = state_of store a older p ps

  module _ (m : ℕ) (f : Activation) (fs : List Activation) (q : Position) (qs : List Position) (is_a : drop m (a ∷ older) ≡ f ∷ fs)
      (is_p : drop m (position_of a p ∷ ps) ≡ q ∷ qs) (same : q.procedure ≡ f.procedure) (frame : ℕ) (is_frame : frame ≡ frame_address s (f ∷ fs))
      (has_pairs : HasPairs (c.plan.frame f.procedure) h.contents f.procedure frame)
      (framed : IsFramed c.plan (stack_top s) f.procedure (suspensions c.graphs fs qs) (cut_at frame h)) (waits : AllWait c.graphs fs qs)
      (exists : c.plan.is_procedure f.procedure ≡ true) (variables : length f.variables ≡ variable_count c.graphs f.procedure) (pr : Proc)
      (is_pr : procedure_at s f.procedure ≡ Some pr) (k : ℕ) (cont : Cont) (is_cont : slice_get pr.conts k ≡ Some cont) (value : ℕ)
      (has_value : continuation_value s (f ∷ fs) k ≡ value) (node next : NodeId) (is_node : landing_in c.graphs f.procedure k ≡ Some node)
      (is_copy : kind_at c.graphs f.procedure node ≡ kind.CopyIn (parameter_targets pr cont) next)
      (holds : (u : ℕ) → live f.procedure node u ≡ true → held (cut_at frame h) (c.plan.place f.procedure u) ≡ Number (value_at c.graphs f q u))
      (words : List Word) (have : have_widths (map (variable_width pr) cont.params) words ≡ true) where
    abbrev base : Store
    base = without m Now

    abbrev to : List Target
    to = parameter_targets pr cont

    abbrev found : Found
    found = record { younger = m; procedure = f.procedure; continuation = k }

    reads : ReadsAreLive c live f.procedure node (kind_at c.graphs f.procedure node)
    reads = closed.reads f.procedure node exists

    keeps : KeepsLive c live f.procedure node (kind.CopyIn to next)
    keeps = subst (λ x. KeepsLive c live f.procedure node x) is_copy (closed.keeps f.procedure node exists)

    count : length to ≡ length (numbers words)
    count = length-map cont.params (λ n. target.Variable n (variable_width pr n))
        ∙ (sym (length-map cont.params (variable_width pr)) ∙ (have_length (map (variable_width pr) cont.params) words have ∙ sym (length-map words (λ (w : Word). w.value))))

    abbrev At : Located
    At = Lands s c live planned base f fs q qs (cut_at frame h) to node next is_copy reads.of reads.is_graph keeps (numbers words) count exists variables holds framed waits

    -- ---- over locations

    abbrev offset : ℕ
    offset = slice_index_or (place_row s f.procedure).pairs k 0

    is_offset : slice_get (c.plan.frame f.procedure).pairs k ≡ Some offset
    is_offset =
        let less = slice_get_within pr.conts k cont is_cont in
        let count = pairs_are f.procedure pr is_pr in
        let within : k < length (place_row s f.procedure).pairs = omega (arith, less, count) in
        ap (λ l. slice_get l k) (frames.pairs f.procedure exists) ∙ get_is (place_row s f.procedure).pairs k within

    value_is : value ≡ frame + offset
    value_is = sym has_value ∙ ap (λ at. at + offset) (sym is_frame)

    code_is : h.contents value ≡ LandingOf f.procedure k
    code_is = ap h.contents value_is ∙ has_pairs.code k offset is_offset

    frame_word : h.contents (value + 8) ≡ Number frame
    frame_word =
        let first = value_is in
        let at : value + 8 ≡ frame + (offset + 8) = omega (arith, first) in
        ap h.contents at ∙ has_pairs.frame k offset is_offset

    dropped : drop m (map bare (a ∷ older)) ≡ map bare (f ∷ fs)
    dropped = drop_bare m (a ∷ older) ∙ ap (λ l. map bare l) is_a

    is_pair : is_pair_of s c found There.store.activations f.procedure k frame ≡ true
    is_pair =
        let address : frame_address s (drop m (map bare (a ∷ older))) ≡ frame =
        ap (λ l. frame_address s l) dropped ∙ (ap (λ n. stack_top s - n) (bare_sizes s (f ∷ fs)) ∙ sym is_frame) in
        and_from (f.procedure == f.procedure) _ (grind (arith, nat_tests)) (and_from (k == k) _ (grind (arith, nat_tests)) (grind (arith, nat_tests, address)))

    abbrev here : Located
    here = tried s c There (to_pair s c (h.contents value) (h.contents (value + 8)) found (numbers words) There)

    here_is : here ≡ At
    here_is =
        ap (λ w. tried s c There (to_pair s c w (h.contents (value + 8)) found (numbers words) There)) code_is
        ∙ (ap (λ w. tried s c There (to_pair s c (LandingOf f.procedure k) w found (numbers words) There)) frame_word
        ∙ (ap (λ b. tried s c There (provided b NoSuchCut (to_landing s c NoSuchCut (landing_in c.graphs f.procedure k) f.procedure (without m There.store) (cut_at frame h) (numbers words)))) is_pair
        ∙ (ap (λ o. tried s c There (to_landing s c NoSuchCut o f.procedure (without m There.store) (cut_at frame h) (numbers words))) is_node
        ∙ ap (λ (l : List Activation). record {
          store = record (without m There.store) { activations = with_site None l; status = Running };
          holdings = cut_at frame h;
          procedure = f.procedure;
          node = node;
          carried = numbers words;
        }) dropped)))

    -- ---- over a graph

    lands_is : landed (graph_control c.graphs) s (Resumed k (numbers words)) base (drop m (position_of a p ∷ ps))
        ≡ gone_state s c live planned base f fs q qs (cut_at frame h) to node next is_copy reads.of reads.is_graph keeps (numbers words) count exists variables holds framed waits
    lands_is =
        ap (λ as_. landed (graph_control c.graphs) s (Resumed k (numbers words)) (record base { activations = as_ }) (drop m (position_of a p ∷ ps))) is_a
        ∙ (ap (λ cs. landed (graph_control c.graphs) s (Resumed k (numbers words)) (running base (f ∷ fs)) cs) is_p
        ∙ landing_goes s c live planned base f fs q qs (cut_at frame h) to node next is_copy reads.of reads.is_graph keeps (numbers words) count exists variables holds framed waits
        (Resumed k (numbers words)) ((graph_control c.graphs).resume k) (resuming_lands s (running base (f ∷ fs)) f fs pr k cont (numbers words) refl is_pr is_cont) refl
        (moves_behind s c live planned base f fs q qs (cut_at frame h) to node next is_copy reads.of reads.is_graph keeps (numbers words) count exists variables holds framed waits
        same (in_graph c.graphs q.procedure (λ g. landing_of g (record { number = k }))) (ap (λ r. landing_in c.graphs r k) same ∙ is_node)))

    cut_lands : Moves s c live most Before (landed (graph_control c.graphs) s (Resumed k (numbers words)) base (drop m (position_of a p ∷ ps))) here
    cut_lands = lands_moves s c live planned base f fs q qs (cut_at frame h) to node next is_copy reads.of reads.is_graph keeps (numbers words) count exists variables holds framed waits
        most is_most Before _ here refl lands_is here_is

-- ---- what the search finds

module _ (s : Setting) (c : Compiled) (live : Liveness) (frames : HasFrames s c) (planned : IsPlanned c.plan) (closed : IsClosed c live) (pairs_are : HavePairs s) (most : ℕ)
    (is_most : IsWithinMost c most) (cuts : HaveCuts s c live) (owns : HaveOwnCuts s c live) (by_reads : OrderIsByReads) (store : Store) (a : Activation) (older : List Activation)
    (p : Position) (ps : List Position) (h : Holdings) (carried : List ℕ)
    (runs : Runs s c live a older (position_of a p) ps (located_of store a older p.node h carried)) (to_ : Operand) (arguments : List Argument) (own : List ContinuationId) where
  abbrev cut_node : NodeKind
  cut_node = kind.Cut to_ arguments own

  abbrev Young : Store
  Young = running store (a ∷ older)

  abbrev Placed : Located
  Placed = located_of store a older p.node h carried

  abbrev First : State Position
  First = state_of store a older p ps

  abbrev paired : Found → ℕ → List Word → Located
  paired found value words = tried s c Placed (to_pair s c (h.contents value) (h.contents (value + 8)) found (numbers words) Placed)

  abbrev cut_state : ℕ → Landing → State Position
  cut_state n landing = landed (graph_control c.graphs) s landing (without n Young) (drop n (position_of a p ∷ ps))

  by_target : (q n k value : ℕ) (words : List Word) (found : Found) (e : Exit) → found ≡ record { younger = n; procedure = q; continuation = k } → found_exit s found ≡ Some e →
      have_widths e.widths words ≡ true →
      ((pr : Proc) (cont : Cont) → procedure_at s q ≡ Some pr → slice_get pr.conts k ≡ Some cont → have_widths (map (variable_width pr) cont.params) words ≡ true →
      Moves s c live most First (cut_state n (Resumed k (numbers words))) (paired (record { younger = n; procedure = q; continuation = k }) value words)) →
      Moves s c live most First (cut_state found.younger (e.landing (numbers words))) (paired found value words)
  by_target q n k value words found e is is_e have moves =
      subst (λ (x : Found). found_exit s x ≡ Some e → Moves s c live most First (cut_state x.younger (e.landing (numbers words))) (paired x value words)) (sym is)
      (λ exit_is.
      let one = some_by (procedure_at s q) (λ p. continuation_exit p k) e exit_is in
      let two = some_by (slice_get one.0.conts k) (λ (x : Cont). Some (record { widths = map (variable_width one.0) x.params; landing = Resumed k })) e one.2 in
      let made : Exit = record { widths = map (variable_width one.0) two.0.params; landing = Resumed k } in
      let same : made ≡ e = by_some made e two.2 in
      subst (λ (x : Exit). have_widths x.widths words ≡ true →
      Moves s c live most First (cut_state n (x.landing (numbers words))) (paired (record { younger = n; procedure = q; continuation = k }) value words)) same
      (λ have. moves one.0 two.0 one.1 two.1 have) have) is_e
    where
      by_some : (x y : Exit) → Some x ≡ Some y → x ≡ y
      by_some x y is = grind (arith, is)

  -- a continuation of its own
  own_moves : kind_at c.graphs a.procedure p.node ≡ cut_node → (value : ℕ) (words : List Word) (found : Found) (e : Exit) → found.younger ≡ 0 →
      IsListed s (numbers_of own) value (a ∷ older) 0 found → found_exit s found ≡ Some e → have_widths e.widths words ≡ true →
      Moves s c live most First (cut_state found.younger (e.landing (numbers words))) (paired found value words)
  own_moves is value words found e none l is_e have =
      let k = found.continuation in
      let first : l.activation ≡ a = grind (arith, l.stands) in
      let is_found : found ≡ record { younger = 0; procedure = a.procedure; continuation = k } =
      ap (λ y. record { younger = y; procedure = found.procedure; continuation = k }) none
      ∙ ap (λ q. record { younger = 0; procedure = q; continuation = k }) (l.procedure ∙ ap (λ (x : Activation). x.procedure) first) in
      by_target a.procedure 0 k value words found e is_found is_e have
      (λ pr cont is_pr is_cont have.
      let inside = subst (λ node. LandInside c live a.procedure pr p.node node) is (owns a.procedure pr p.node is_pr) in
      let lands = inside k cont l.listed is_cont in
      cut_lands s c live frames planned closed pairs_are most is_most store a older p ps h carried 0 a older (position_of a p) ps refl refl refl h.point.at
      (frame_is_there s c live a older (position_of a p) ps Placed frames runs) runs.framed.pairs
      record { pairs = runs.framed.pairs; chain = runs.framed.chain } runs.waits runs.exists runs.variables pr is_pr k cont is_cont value
      (subst (λ as_. continuation_value s as_ k ≡ value) (sym l.stands) l.has_value) lands.node lands.next lands.is_node lands.is_copy
      (λ u is_live. let kept = lands.kept u is_live in held_lasts h (c.plan.place a.procedure u) kept.1 ∙ runs.values u kept.0) words have)

  -- one of an older activation
  older_moves : (value : ℕ) (words : List Word) (m : ℕ) (found : Found) (e : Exit) → found.younger ≡ suc m → IsListed s (numbers_of own) value (a ∷ older) (suc m) found →
      found_exit s found ≡ Some e → have_widths e.widths words ≡ true →
      Moves s c live most First (cut_state found.younger (e.landing (numbers words))) (paired found value words)
  older_moves value words m found e is l is_e have =
      let k = found.continuation in
      let f = l.activation in
      let there = reach c (stack_top s) h.contents f l.older m older ps (behind c.plan h.contents a.procedure h.point) runs.waits runs.framed.chain l.stands in
      let top = frames_reach_top c.plan (stack_top s) h.contents (suspensions c.graphs (f ∷ l.older) (there.position ∷ there.rest)) there.point there.chain in
      let sizes = same_sizes s c frames (stack_top s) h.contents (f ∷ l.older) (there.position ∷ there.rest) there.point there.waits there.chain in
      let at : there.point.at ≡ frame_address s (f ∷ l.older) = omega (arith, top, sizes) in
      let is_found : found ≡ record { younger = suc m; procedure = f.procedure; continuation = k } =
      ap (λ y. record { younger = y; procedure = found.procedure; continuation = k }) is ∙ ap (λ q. record { younger = suc m; procedure = q; continuation = k }) l.procedure in
      let waits = there.waits.0 in
      let suspended = listed_at (suspended_at s (f ∷ l.older)) refl l.listed in
      let parts = suspended_parts s f l.older waits.site suspended.0 waits.is_site suspended.1 in
      by_target f.procedure (suc m) k value words found e is_found is_e have
      (λ pr cont is_pr is_cont have.
      let same : suspended.0.procedure ≡ pr = by_some suspended.0.procedure pr (sym parts.0 ∙ is_pr) in
      let lands = cuts f.procedure pr waits.site suspended.0.site k cont is_pr (subst (λ (x : Proc). slice_get x.sites waits.site ≡ Some suspended.0.site) same parts.1) suspended.2 is_cont in
      let back : IsBackAt c.plan h.contents (suspension_of c.graphs f there.position) there.point (cut_at there.point.at h) =
      record { stack = refl; at = refl; kept = λ r is. inr (lands.saves r is) } in
      cut_lands s c live frames planned closed pairs_are most is_most store a older p ps h carried (suc m) f l.older there.position there.rest l.stands there.is_ps waits.procedure
      there.point.at at there.chain.0.pairs
      (goes_on_framed c.plan (stack_top s) h.contents (suspension_of c.graphs f there.position) (suspensions c.graphs l.older there.rest) there.point (cut_at there.point.at h) there.chain back)
      there.waits.1 there.chain.0.exists waits.variables pr is_pr k cont is_cont value l.has_value lands.node lands.lands.next lands.is_node lands.lands.is_copy
      (λ u is_live.
      goes_on_with_values c.plan (stack_top s) h.contents (suspension_of c.graphs f there.position) (suspensions c.graphs l.older there.rest) there.point (cut_at there.point.at h) u
      there.chain back
      (subst (λ n. c.plan.live f.procedure n u ≡ true) (sym (ap site_number waits.is_site)) (lands.lands.at_site u is_live)) (inl (lands.in_slots u is_live)))
      words have)
    where
      by_some : (x y : Proc) → Some x ≡ Some y → x ≡ y
      by_some x y is = grind (arith, is)

      listed_at : (o : Option Suspended) → suspended_at s (l.activation ∷ l.older) ≡ o → Contains (site_cuts s (l.activation ∷ l.older)) found.continuation →
          (sa : Suspended) × (suspended_at s (l.activation ∷ l.older) ≡ Some sa) × Contains sa.site.cuts found.continuation
      listed_at (Some sa) is listed = (sa, is, subst (λ x. Contains (cuts_of x) found.continuation) is listed)
      listed_at None is listed = absurd (none (subst (λ x. Contains (cuts_of x) found.continuation) is listed))
        where
          none : ¬ Contains [] found.continuation
          none found_ = omega (arith, found_.1)

  -- ---- the whole step

  abbrev cut_after : Tried Transfer → State Position
  cut_after t = after_transfer s c live frames store a older p ps h carried runs t

  abbrev cut_places : Tried Order → Located
  cut_places t = places_do s c live frames store a older p ps h carried runs cut_node t

  by_younger : kind_at c.graphs a.procedure p.node ≡ cut_node → (value : ℕ) (words : List Word) (n : ℕ) (found : Found) (e : Exit) → found.younger ≡ n →
      IsListed s (numbers_of own) value (a ∷ older) n found → found_exit s found ≡ Some e → have_widths e.widths words ≡ true →
      Moves s c live most First (cut_state found.younger (e.landing (numbers words))) (paired found value words)
  by_younger is value words zero found e younger l is_e have = own_moves is value words found e younger l is_e have
  by_younger is value words (suc m) found e younger l is_e have = older_moves value words m found e younger l is_e have

  cut_at_value : kind_at c.graphs a.procedure p.node ≡ cut_node → (value : ℕ) (words : List Word) (t : Tried Transfer) → Cuts s Young value words (numbers_of own) t →
      wrong_in (cut_after t).store ≡ false → Moves s c live most First (cut_after t) (cut_places (Ok (order.Cut value words (numbers_of own))))
  cut_at_value is value words t (CutsTo found e is_found is_e have) right =
      subst (λ y. Moves s c live most First (cut_state found.younger (e.landing (numbers words))) y)
      (sym (ap (λ o. tried s c Placed (given o NoSuchCut (λ x. to_pair s c (h.contents value) (h.contents (value + 8)) x (numbers words) Placed)))
      (bare_search s value (a ∷ older) (numbers_of own) 0 ∙ is_found)))
      (by_younger is value words found.younger found e refl (search_finds s (numbers_of own) value (a ∷ older) found is_found) is_e have)
  cut_at_value is value words t (CutsNot error) right = absurd (cc)

  cut_cases : kind_at c.graphs a.procedure p.node ≡ cut_node → (x : Tried ℕ) (ws : Tried (List Word)) →
      let asked = and_then x (λ value. and_then ws (λ words. Ok (order.Cut value words (numbers_of own)))) in
      wrong_in (cut_after (and_then asked (λ o. perform s o Young))).store ≡ false →
      Moves s c live most First (cut_after (and_then asked (λ o. perform s o Young))) (cut_places asked)
  cut_cases is (Err e) ws right = absurd (cc)
  cut_cases is (Ok value) (Err e) right = absurd (cc)
  cut_cases is (Ok value) (Ok words) right = cut_at_value is value words (perform s (order.Cut value words (numbers_of own)) Young) (cut_cuts s Young value words (numbers_of own)) right

  cut_moves : kind_at c.graphs a.procedure p.node ≡ cut_node → ReadsAreLive c live a.procedure p.node cut_node → wrong_in (graph_step c.graphs s First).store ≡ false →
      Moves s c live most First (graph_step c.graphs s First) (located_step s c Placed)
  cut_moves is reads =
      let x = operand_value (graph.keeping (position_of a p)).held to_ (reads_of s Young) in
      let ws = words_of (reads_of s Young) (passed (graph.keeping (position_of a p)).held arguments) in
      let asked = and_then x (λ value. and_then ws (λ words. Ok (order.Cut value words (numbers_of own)))) in
      let goes : located_step s c Placed ≡ cut_places asked =
      places_step_is s c live frames store a older p ps h carried runs cut_node is
      ∙ ap (λ t. cut_places t) (same_orders by_reads s c live First a older (position_of a p) ps Placed cut_node frames refl refl runs reads refl) in
      subst (λ y. wrong_in (graph_step c.graphs s First).store ≡ false → Moves s c live most First (graph_step c.graphs s First) y) (sym goes)
      (subst (λ (z : State Position). wrong_in z.store ≡ false → Moves s c live most First z (cut_places asked))
      (sym (step_is s c live frames store a older p ps h carried runs cut_node is)) (cut_cases is x ws))

cutting_moves : (s : Setting) (c : Compiled) (live : Liveness) (frames : HasFrames s c) (planned : IsPlanned c.plan) (closed : IsClosed c live) (pairs_are : HavePairs s) (most : ℕ)
    (is_most : IsWithinMost c most) (cuts : HaveCuts s c live) (owns : HaveOwnCuts s c live) (by_reads : OrderIsByReads) (store : Store) (a : Activation) (older : List Activation)
    (p : Position) (ps : List Position) (h : Holdings) (carried : List ℕ)
    (runs : Runs s c live a older (position_of a p) ps (located_of store a older p.node h carried)) (node : NodeKind) → kind_at c.graphs a.procedure p.node ≡ node →
    ReadsAreLive c live a.procedure p.node node → is_cut node ≡ true → wrong_in (graph_step c.graphs s (state_of store a older p ps)).store ≡ false →
    Moves s c live most (state_of store a older p ps) (graph_step c.graphs s (state_of store a older p ps)) (located_step s c (located_of store a older p.node h carried))
cutting_moves s c live frames planned closed pairs_are most is_most cuts owns by_reads store a older p ps h carried runs (kind.Cut to_ arguments own) is reads cut =
    cut_moves s c live frames planned closed pairs_are most is_most cuts owns by_reads store a older p ps h carried runs to_ arguments own is reads
cutting_moves s c live frames planned closed pairs_are most is_most cuts owns by_reads store a older p ps h carried runs node is reads cut = absurd (cc)

pub cuts_are_followed : OrderIsByReads → CutsAreFollowed
cuts_are_followed by_reads s c live most st at frames planned closed cuts owns pairs_are is_most related status cut =
    by_parts s c live (λ st at. is_cut (kind_of_youngest c st) ≡ true → IsFollowed s c live (tokens_of_youngest c.graphs st + most) st at) st at
    (λ store a older p ps h carried runs cut.
    let node = kind_at c.graphs a.procedure p.node in
    let before = state_of store a older p ps in
    let there = located_of store a older p.node h carried in
    in_two s c live (tokens_of_youngest c.graphs before) most before there
    (cutting_moves s c live frames planned closed pairs_are most is_most cuts owns by_reads store a older p ps h carried runs node refl
    (closed.reads a.procedure p.node runs.exists) cut)
    (λ event is. sym (asks_alike s c (running store (a ∷ older)) (shown s c there) (position_of a p) there node) ∙ is) refl (omega arith))
    status related cut
