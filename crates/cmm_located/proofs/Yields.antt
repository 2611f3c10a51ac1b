-- yields
use Rattle.std.proofs.Common.{◌≡◌, ℕ, Bool, true, false, List, [], ◌∷◌, ◌++◌, map, length, Some, Ok, Err, arith, refl, sym, ap, ◌∙◌, subst}
use Rattle.std.specs.Prelude.{nat_lt}
use Rattle.std.specs.List.{AllZip}
use Rattle.cmm_script.specs.Lines.{yield_line}
use Rattle.cmm_program.specs.Acts.{values_of}
use Rattle.cmm_program.specs.Control.{State}
use Rattle.cmm_program.specs.Errors.{Tried, WrongAlternates, and_then, provided}
use Rattle.cmm_program.specs.Orders as order
use Rattle.cmm_program.specs.Orders.{Order}
use Rattle.cmm_program.specs.State.{Setting, Activation, Store, Waiting, stack_top}
use Rattle.cmm_program.specs.Writes.{reads_of}
use Rattle.cmm_graph.specs.declared.number.SiteId.{SiteId}
use Rattle.cmm_graph.specs.declared.operand.Operand.{Operand}
use Rattle.cmm_graph.specs.declared.node.Exits.{Exits}
use Rattle.cmm_graph.specs.declared.node.NodeKind.{NodeKind}
use Rattle.cmm_graph.specs.declared.node.NodeKind.TheVariants as kind
use Rattle.cmm_graph.specs.GraphControl as graph
use Rattle.cmm_graph.specs.GraphControl.{Position, kind_at}
use Rattle.cmm_graph.specs.GraphMachine.{tokens_of_youngest}
use Rattle.cmm_graph.specs.Laws.{OrderIsByReads}
use Rattle.cmm_graph.specs.Values.{operand_values}
use Rattle.cmm_live.specs.Sites.{site_of}
use Rattle.cmm_chain.specs.Chain.{Point, IsChain, behind}
use Rattle.cmm_chain.specs.Running.{Holdings, called}
use Rattle.cmm_located.specs.Answering.{shown}
use Rattle.cmm_located.specs.Compiled.{Compiled, Located, bare}
use Rattle.cmm_located.specs.LocatedMachine.{tried}
use Rattle.cmm_located.specs.ShownWalks.{KnowsLive}
use Rattle.cmm_located.specs.Walkable.{HaveSites, is_walkable}
use Rattle.cmm_located.proofs.Walkable.{IsTold, chain_is_walkable}
use Rattle.cmm_located.specs.Entering.{IsReady}
use Rattle.cmm_located.specs.Relation.{AllWait, Liveness, Related, Runs, site_number, suspensions}
use Rattle.cmm_located.specs.SameOrders.{HasFrames, ReadsAreLive}
use Rattle.cmm_located.specs.Steps.{IsFollowed, kind_of_youngest}
use Rattle.cmm_located.specs.Yielding.{YieldsAreFollowed, is_yield}
use Rattle.cmm_located.proofs.Following.{asks_alike, in_one, wrong_in}
use Rattle.cmm_located.proofs.Ordering.{same_orders}
use Rattle.cmm_located.proofs.Parts.{by_parts, located_of, position_of, running, state_of}
use Rattle.cmm_located.proofs.Staying.{IsStepDone, done_by, graph_does, places_do, places_step_is, step_is}
use Rattle.cmm_located.proofs.Suspending.{call_chain, caller_waits}

module _ (s : Setting) (c : Compiled) (live : Liveness) (frames : HasFrames s c) (store : Store) (a : Activation) (older : List Activation) (p : Position)
    (ps : List Position) (h : Holdings) (carried : List ℕ)
    (runs : Runs s c live a older (position_of a p) ps (located_of store a older p.node h carried)) (by_reads : OrderIsByReads) where
  abbrev Now : Store
  Now = running store (a ∷ older)

  abbrev There : Located
  There = located_of store a older p.node h carried

  abbrev does : Tried Order → State Position
  does t = graph_does s c live frames store a older p ps h carried runs t

  abbrev places : NodeKind → Tried Order → Located
  places node t = places_do s c live frames store a older p ps h carried runs node t

  module _ (site : SiteId) (values : List Operand) (exits : Exits) where
    abbrev yield : NodeKind
    yield = kind.Yield site values exits

    module _ (is : kind_at c.graphs a.procedure p.node ≡ yield) (reads : ReadsAreLive c live a.procedure p.node yield) (ready : IsReady c live a.procedure p.node yield)
        (knows : KnowsLive s c) (sites : HaveSites s c) where
      told : (activations : List Activation) (positions : List Position) (point : Point) → AllWait c.graphs activations positions →
          IsChain c.plan (stack_top s) h.contents (suspensions c.graphs activations positions) point → AllZip (IsTold s c h.contents) (map bare activations) (suspensions c.graphs activations positions)
      told [] [] point waits chain = tt
      told (b ∷ activations) (z ∷ positions) point waits chain =
          let number : site_number b.site ≡ waits.0.site = ap site_number waits.0.is_site in
          let there = sites b.procedure z.node (record { number = waits.0.site }) chain.0.exists
          (ap (λ (q : ℕ). site_of (kind_at c.graphs q z.node)) (sym waits.0.procedure) ∙ waits.0.stands) in (
            record {
              procedure = refl;
              site = waits.0.is_site ∙ ap (λ (n : ℕ). Some n) (sym number);
              proc = there.0;
              is_procedure = there.1;
              inside = ap (λ (n : ℕ). nat_lt n (length there.0.sites)) number ∙ there.2;
            },
            told activations positions (behind c.plan h.contents b.procedure point) waits.1 chain.1,
          )
      told [] (z ∷ positions) point waits chain = absurd waits
      told (b ∷ activations) [] point waits chain = absurd waits

      passes : is_walkable s c h.contents (map bare (record a { site = Some site.number } ∷ older)) (called a.procedure site.number h).point ≡ true
      passes = chain_is_walkable s c h.contents knows (map bare (record a { site = Some site.number } ∷ older))
          (suspensions c.graphs (record a { site = Some site.number } ∷ older) (position_of a p ∷ ps)) (called a.procedure site.number h).point
          (told (record a { site = Some site.number } ∷ older) (position_of a p ∷ ps) (called a.procedure site.number h).point
          (caller_waits s c live store a older p ps h carried runs yield site is refl ready, runs.waits) (call_chain s c live store a older p ps h carried runs yield site is refl ready))
          (call_chain s c live store a older p ps h carried runs yield site is refl ready)

      yield_cases : (x : Tried (List ℕ)) → let asked = and_then x (λ vs. Ok (order.Yield site.number vs)) in
          wrong_in (does asked).store ≡ false → Related s c live (does asked) (places yield asked)
      yield_cases (Err e) right = absurd (cc)
      yield_cases (Ok vs) right =
          let after : Located = record There {
            store = record There.store {
              activations = map bare (record a { site = Some site.number } ∷ older);
              log = There.store.log ++ yield_line vs;
              status = Waiting vs;
            };
            holdings = called a.procedure site.number h;
          } in
          let there : places yield (Ok (order.Yield site.number vs)) ≡ after =
          ap (λ (b : Bool). tried s c There (provided b WrongAlternates (Ok after))) passes in
          subst (λ (z : Located). Related s c live (does (Ok (order.Yield site.number vs))) z) (sym there)
          (record {
            store = refl;
            stands = record {
              ghosts = refl;
              waits = (caller_waits s c live store a older p ps h carried runs yield site is refl ready, runs.waits);
              chain = call_chain s c live store a older p ps h carried runs yield site is refl ready;
            };
          })

      yield_steps : IsStepDone s c live frames store a older p ps h carried runs
      yield_steps = done_by s c live frames store a older p ps h carried runs (step_is s c live frames store a older p ps h carried runs yield is)
          (places_step_is s c live frames store a older p ps h carried runs yield is
          ∙ ap (λ t. places yield t)
          (same_orders by_reads s c live (state_of store a older p ps) a older (position_of a p) ps There yield frames refl refl runs reads refl))
          (yield_cases (values_of (reads_of s Now) (operand_values (graph.keeping (position_of a p)).held values)))

  yielding_steps : (node : NodeKind) → kind_at c.graphs a.procedure p.node ≡ node → ReadsAreLive c live a.procedure p.node node → IsReady c live a.procedure p.node node →
      KnowsLive s c → HaveSites s c → is_yield node ≡ true → IsStepDone s c live frames store a older p ps h carried runs
  yielding_steps (kind.Yield site values exits) is reads ready knows sites yields = yield_steps site values exits is reads ready knows sites
  yielding_steps node is reads ready knows sites yields = absurd (cc)

pub yields_are_followed : OrderIsByReads → YieldsAreFollowed
yields_are_followed by_reads s c live st at frames closed ready knows sites related status yields =
    by_parts s c live (λ st at. is_yield (kind_of_youngest c st) ≡ true → IsFollowed s c live (tokens_of_youngest c.graphs st) st at) st at
    (λ store a older p ps h carried runs yields.
    let node = kind_at c.graphs a.procedure p.node in
    let before = state_of store a older p ps in
    let there = located_of store a older p.node h carried in
    in_one s c live (tokens_of_youngest c.graphs before) before there
    (yielding_steps s c live frames store a older p ps h carried runs by_reads node refl (closed.reads a.procedure p.node runs.exists)
    (ready a.procedure p.node runs.exists) knows sites yields)
    (λ event is. sym (asks_alike s c (running store (a ∷ older)) (shown s c there) (position_of a p) there node) ∙ is) refl (omega arith))
    status related yields
