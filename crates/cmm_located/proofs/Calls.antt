-- calls and tail calls: control leaves, and a procedure is entered
use Rattle.std.proofs.Common.{◌≡◌, ℕ, suc, ◌+◌, ◌≤◌, true, false, List, [], ◌∷◌, map, take, length, Ok, Err, Option, Some, arith, refl, sym, ap, ◌∙◌, subst}
use Rattle.std.proofs.lemmas.Bool.Decides.{nat_tests}
use Rattle.std.proofs.lemmas.List.{length-map, length-take}
use Rattle.cmm_words.specs.declared.width.Width.{Width}
use Rattle.cmm_program.specs.declared.procedure.Proc.{Proc}
use Rattle.cmm_program.specs.declared.procedure.VarInfo.{VarInfo}
use Rattle.cmm_program.specs.Acts.{words_of}
use Rattle.cmm_program.specs.Control.{State, arrived, landed}
use Rattle.cmm_program.specs.Errors.{NotAProcedure, Tried, and_then, given}
use Rattle.cmm_program.specs.Exits.{Called, Instead, Landing, have_widths, land, numbers}
use Rattle.cmm_program.specs.Frames.{procedure_at, without}
use Rattle.cmm_program.specs.Orders as order
use Rattle.cmm_program.specs.Orders.{Order, Word}
use Rattle.cmm_program.specs.Performing.{Transfer, Away, perform, procedure_from}
use Rattle.cmm_program.specs.State.{Setting, Activation, Store, stack_top}
use Rattle.cmm_program.specs.Writes.{reads_of}
use Rattle.cmm_machine_laws.specs.Landings.{begun_above}
use Rattle.cmm_machine_laws.specs.Observed.{store_seen}
use Rattle.cmm_machine_laws.specs.Transfers.{Enters, EntersAt, EntersNot}
use Rattle.cmm_machine_laws.proofs.Shared.{call_enters, entering_lands, jump_enters}
use Rattle.cmm_graph.specs.declared.number.NodeId.{NodeId}
use Rattle.cmm_graph.specs.declared.number.SiteId.{SiteId}
use Rattle.cmm_graph.specs.declared.operand.Argument.{Argument}
use Rattle.cmm_graph.specs.declared.operand.Operand.{Operand}
use Rattle.cmm_graph.specs.declared.node.Exits.{Exits}
use Rattle.cmm_graph.specs.declared.node.NodeKind.{NodeKind}
use Rattle.cmm_graph.specs.declared.node.NodeKind.TheVariants as kind
use Rattle.cmm_graph.specs.GraphControl as graph
use Rattle.cmm_graph.specs.GraphControl.{Position, graph_control, in_graph, kind_at}
use Rattle.cmm_graph.specs.GraphMachine.{graph_step, tokens_of_youngest}
use Rattle.cmm_graph.specs.Values.{operand_value, passed}
use Rattle.cmm_graph.specs.Laws.{OrderIsByReads}
use Rattle.cmm_chain.specs.Chain.{IsChain}
use Rattle.cmm_chain.specs.Plans.{IsPlanned}
use Rattle.cmm_chain.specs.Running.{Holdings, called, left}
use Rattle.cmm_chain.proofs.Shared.{left_is_chain}
use Rattle.cmm_located.specs.Answering.{shown}
use Rattle.cmm_located.specs.Compiled.{Compiled, Located, bare}
use Rattle.cmm_located.specs.Entering.{CallsAreFollowed, HasEntry, HaveEntries, IsReady, IsWithinMost, enters_procedure}
use Rattle.cmm_located.specs.LocatedMachine.{located_step, tried}
use Rattle.cmm_located.specs.Nodes.{to_procedure}
use Rattle.cmm_located.specs.Relation.{Liveness, AllWait, Related, Runs, suspensions}
use Rattle.cmm_located.specs.SameOrders.{HasFrames, ReadsAreLive}
use Rattle.cmm_located.specs.Steps.{IsFollowed, kind_of_youngest}
use Rattle.cmm_located.proofs.Entries.{Enters as ToEnter, asks_nothing, enters, enters_silently, landing_is}
use Rattle.cmm_located.proofs.Following.{Moves, asks_alike, in_two, wrong_in}
use Rattle.cmm_located.proofs.Ordering.{same_orders}
use Rattle.cmm_located.proofs.Parts.{by_parts, located_of, position_of, running, state_of}
use Rattle.cmm_located.proofs.Suspending.{call_chain, caller_waits}
use Rattle.cmm_located.proofs.Staying.{after_transfer, places_do, places_step_is, step_is}

pub have_length : (widths : List Width) (words : List Word) → have_widths widths words ≡ true → length widths ≡ length words
have_length [] [] have = refl
have_length (w ∷ widths) (v ∷ words) have = let rest = have_length widths words (grind (arith, nat_tests, have)) in ap suc rest
have_length [] (v ∷ words) have = absurd (cc)
have_length (w ∷ widths) [] have = absurd (cc)

-- as many arguments are passed as there are formals
as_many : (p : Proc) (words : List Word) → p.formals ≤ length p.vars → have_widths (map (λ v. v.width) (take p.formals p.vars)) words ≡ true →
    length (numbers words) ≡ p.formals
as_many p words within have =
    let widths = have_length (map (λ (v : VarInfo). v.width) (take p.formals p.vars)) words have in
    let formals = length-map (take p.formals p.vars) (λ (v : VarInfo). v.width) in
    let taken = length-take p.formals p.vars in
    let values = length-map words (λ (w : Word). w.value) in
    grind (arith, widths, formals, taken, values)

module _ (s : Setting) (c : Compiled) (live : Liveness) (frames : HasFrames s c) (store : Store) (a : Activation) (older : List Activation) (p : Position)
    (ps : List Position) (h : Holdings) (carried : List ℕ)
    (runs : Runs s c live a older (position_of a p) ps (located_of store a older p.node h carried)) (by_reads : OrderIsByReads) (planned : IsPlanned c.plan)
    (entries : HaveEntries s c live) (most : ℕ) (is_most : IsWithinMost c most) where
  abbrev Here : Position
  Here = position_of a p

  abbrev Now : Store
  Now = running store (a ∷ older)

  abbrev There : Located
  There = located_of store a older p.node h carried

  abbrev after : Tried Transfer → State Position
  after t = after_transfer s c live frames store a older p ps h carried runs t

  abbrev places : NodeKind → Tried Order → Located
  places node t = places_do s c live frames store a older p ps h carried runs node t

  abbrev Before : State Position
  Before = state_of store a older p ps

  -- a step that does not go wrong is two steps over locations
  abbrev pub IsMoved : Type 0
  IsMoved = wrong_in (graph_step c.graphs s Before).store ≡ false → Moves s c live most Before (graph_step c.graphs s Before) (located_step s c There)

  moved_by : {st : State Position} {at : Located} → graph_step c.graphs s Before ≡ st → located_step s c There ≡ at →
      (wrong_in st.store ≡ false → Moves s c live most Before st at) → IsMoved
  moved_by {st = st} {at = at} is is_at moves =
      subst (λ y. wrong_in (graph_step c.graphs s Before).store ≡ false → Moves s c live most Before (graph_step c.graphs s Before) y) (sym is_at)
      (subst (λ (x : State Position). wrong_in x.store ≡ false → Moves s c live most Before x at) (sym is) moves)

  -- control is at the Entry of a procedure, and enters it
  module _ (q : ℕ) (pr : Proc) (is_pr : procedure_at s q ≡ Some pr) (values : List ℕ) (above : List Activation) (waiting : List Position) (next : Holdings)
      (count : length values ≡ pr.formals) (chain : IsChain c.plan (stack_top s) next.contents (suspensions c.graphs above waiting) next.point)
      (waits : AllWait c.graphs above waiting) where
    abbrev entry : HasEntry c live q pr
    entry = entries q pr is_pr

    abbrev At : Store → List Position → Located
    At base controls = ToEnter s c live frames planned q pr values base above waiting controls next is_pr entry count chain waits

    to_entry : (landing : Landing) (base : Store) (controls : List Position) (here : Located) → land s landing base ≡ begun_above s base q pr values above →
        arrived (graph_control c.graphs) landing controls ≡ (graph_control c.graphs).begin q ∷ waiting → store_seen (running base above) ≡ store_seen Now →
        here ≡ At base controls → Moves s c live most Before (landed (graph_control c.graphs) s landing base controls) here
    to_entry landing base controls here lands arrives same goes = record {
      first = At base controls;
      goes = goes;
      running = refl;
      silent = same;
      shows = enters_silently s c live frames planned q pr values base above waiting controls next is_pr entry count chain waits ∙ same;
      asks = asks_nothing s c live frames planned q pr values base above waiting controls next is_pr entry count chain waits;
      related =
          subst (λ st. Related s c live st (located_step s c (At base controls))) (sym (landing_is s c q pr values base above landing waiting controls lands arrives))
          (enters s c live frames planned q pr values base above waiting controls next is_pr entry count chain waits);
      within = is_most record { procedure = q; node = entry.first; temporaries = λ t. 0 };
    }

  -- ---- a call

  module _ (site : SiteId) (callee : Operand) (arguments : List Argument) (exits : Exits) where
    abbrev call : NodeKind
    call = kind.Call site callee arguments exits

    module _ (is : kind_at c.graphs a.procedure p.node ≡ call) (reads : ReadsAreLive c live a.procedure p.node call) (ready : IsReady c live a.procedure p.node call) where
      abbrev Caller : Activation
      Caller = record a { site = Some site.number }

      call_goes : (to : ℕ) (words : List Word) (q : ℕ) (n : NodeId) → procedure_from 0 to s.placement.rows ≡ Some q → in_graph c.graphs q (λ g. Some g.first) ≡ Some n →
          places call (Ok (order.Call site.number to words)) ≡ record {
            store = running store (map bare (Caller ∷ older));
            holdings = called a.procedure site.number h;
            procedure = q;
            node = n;
            carried = numbers words;
          }
      call_goes to words q n is_q is_n =
          ap (λ o. tried s c There (given o NotAProcedure (λ q. to_procedure s c q (running store (map bare (Caller ∷ older))) (called a.procedure site.number h) (numbers words)))) is_q
          ∙ ap (λ (o : Option NodeId). tried s c There (given o NotAProcedure (λ n. Ok (record {
            store = running store (map bare (Caller ∷ older));
            holdings = called a.procedure site.number h;
            procedure = q;
            node = n;
            carried = numbers words;
          })))) is_n

      call_at : (to : ℕ) (words : List Word) (t : Tried Transfer) → Enters s to words (λ n. Away 0 Now (Called site.number n (numbers words))) t →
          wrong_in (after t).store ≡ false → Moves s c live most Before (after t) (places call (Ok (order.Call site.number to words)))
      call_at to words t (EntersAt q pr is_q is_pr have) right =
          let entry = entries q pr is_pr in
          to_entry q pr is_pr (numbers words) (Caller ∷ older) (Here ∷ ps) (called a.procedure site.number h)
          (as_many pr words entry.formals_are_variables have) (call_chain s c live store a older p ps h carried runs call site is refl ready)
          (caller_waits s c live store a older p ps h carried runs call site is refl ready, runs.waits)
          (Called site.number q (numbers words)) Now (Here ∷ ps) (places call (Ok (order.Call site.number to words)))
          ((entering_lands s Now q pr (numbers words) is_pr).0 site.number) refl refl (call_goes to words q entry.first is_q entry.is_first)
      call_at to words t (EntersNot e) right = absurd (cc)

      call_cases : (x : Tried ℕ) (ws : Tried (List Word)) →
          let asked = and_then x (λ to. and_then ws (λ words. Ok (order.Call site.number to words))) in
          wrong_in (after (and_then asked (λ o. perform s o Now))).store ≡ false → Moves s c live most Before (after (and_then asked (λ o. perform s o Now))) (places call asked)
      call_cases (Err e) ws right = absurd (cc)
      call_cases (Ok to) (Err e) right = absurd (cc)
      call_cases (Ok to) (Ok words) right = call_at to words (perform s (order.Call site.number to words) Now) (call_enters s Now site.number to words) right

      pub call_moves : IsMoved
      call_moves = moved_by (step_is s c live frames store a older p ps h carried runs call is)
          (places_step_is s c live frames store a older p ps h carried runs call is
          ∙ ap (λ t. places call t) (same_orders by_reads s c live Before a older Here ps There call frames refl refl runs reads refl))
          (call_cases (operand_value (graph.keeping Here).held callee (reads_of s Now)) (words_of (reads_of s Now) (passed (graph.keeping Here).held arguments)))

  -- ---- a tail call

  module _ (callee : Operand) (arguments : List Argument) where
    abbrev jump : NodeKind
    jump = kind.Jump callee arguments

    module _ (is : kind_at c.graphs a.procedure p.node ≡ jump) (reads : ReadsAreLive c live a.procedure p.node jump) where
      jump_goes : (to : ℕ) (words : List Word) (q : ℕ) (n : NodeId) → procedure_from 0 to s.placement.rows ≡ Some q → in_graph c.graphs q (λ g. Some g.first) ≡ Some n →
          places jump (Ok (order.Jump to words)) ≡ record {
            store = running (without 1 Now) (map bare older);
            holdings = left c.plan a.procedure h;
            procedure = q;
            node = n;
            carried = numbers words;
          }
      jump_goes to words q n is_q is_n =
          ap (λ o. tried s c There (given o NotAProcedure (λ q. to_procedure s c q (running (without 1 Now) (map bare older)) (left c.plan a.procedure h) (numbers words)))) is_q
          ∙ ap (λ (o : Option NodeId). tried s c There (given o NotAProcedure (λ n. Ok (record {
            store = running (without 1 Now) (map bare older);
            holdings = left c.plan a.procedure h;
            procedure = q;
            node = n;
            carried = numbers words;
          })))) is_n

      jump_at : (to : ℕ) (words : List Word) (t : Tried Transfer) → Enters s to words (λ n. Away 1 (without 1 Now) (Instead n (numbers words))) t →
          wrong_in (after t).store ≡ false → Moves s c live most Before (after t) (places jump (Ok (order.Jump to words)))
      jump_at to words t (EntersAt q pr is_q is_pr have) right =
          let entry = entries q pr is_pr in
          to_entry q pr is_pr (numbers words) older ps (left c.plan a.procedure h) (as_many pr words entry.formals_are_variables have)
          (left_is_chain c.plan (stack_top s) a.procedure (suspensions c.graphs older ps) h runs.framed) runs.waits
          (Instead q (numbers words)) (without 1 Now) ps (places jump (Ok (order.Jump to words)))
          (entering_lands s (without 1 Now) q pr (numbers words) is_pr).1 refl refl (jump_goes to words q entry.first is_q entry.is_first)
      jump_at to words t (EntersNot e) right = absurd (cc)

      jump_cases : (x : Tried ℕ) (ws : Tried (List Word)) →
          let asked = and_then x (λ to. and_then ws (λ words. Ok (order.Jump to words))) in
          wrong_in (after (and_then asked (λ o. perform s o Now))).store ≡ false → Moves s c live most Before (after (and_then asked (λ o. perform s o Now))) (places jump asked)
      jump_cases (Err e) ws right = absurd (cc)
      jump_cases (Ok to) (Err e) right = absurd (cc)
      jump_cases (Ok to) (Ok words) right = jump_at to words (perform s (order.Jump to words) Now) (jump_enters s Now to words) right

      pub jump_moves : IsMoved
      jump_moves = moved_by (step_is s c live frames store a older p ps h carried runs jump is)
          (places_step_is s c live frames store a older p ps h carried runs jump is
          ∙ ap (λ t. places jump t) (same_orders by_reads s c live Before a older Here ps There jump frames refl refl runs reads refl))
          (jump_cases (operand_value (graph.keeping Here).held callee (reads_of s Now)) (words_of (reads_of s Now) (passed (graph.keeping Here).held arguments)))

  -- ---- either

  entering_moves : (node : NodeKind) → kind_at c.graphs a.procedure p.node ≡ node → ReadsAreLive c live a.procedure p.node node → IsReady c live a.procedure p.node node →
      enters_procedure node ≡ true → IsMoved
  entering_moves (kind.Call site callee arguments exits) is reads ready enters = call_moves site callee arguments exits is reads ready
  entering_moves (kind.Jump callee arguments) is reads ready enters = jump_moves callee arguments is reads
  entering_moves node is reads ready enters = absurd (cc)

pub calls_are_followed : OrderIsByReads → CallsAreFollowed
calls_are_followed by_reads s c live most st at frames planned closed entries ready is_most related status enters =
    by_parts s c live (λ st at. enters_procedure (kind_of_youngest c st) ≡ true → IsFollowed s c live (tokens_of_youngest c.graphs st + most) st at) st at
    (λ store a older p ps h carried runs enters.
    let node = kind_at c.graphs a.procedure p.node in
    let before = state_of store a older p ps in
    let there = located_of store a older p.node h carried in
    in_two s c live (tokens_of_youngest c.graphs before) most before there
    (entering_moves s c live frames store a older p ps h carried runs by_reads planned entries most is_most node refl
    (closed.reads a.procedure p.node runs.exists) (ready a.procedure p.node runs.exists) enters)
    (λ event is. sym (asks_alike s c (running store (a ∷ older)) (shown s c there) (position_of a p) there node) ∙ is) refl (omega arith))
    status related enters
