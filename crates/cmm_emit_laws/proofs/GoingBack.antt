-- An activation returns to the site where the next older one waits.
use Rattle.std.proofs.Common.{◌≡◌, ℕ, zero, suc, ◌+◌, ◌*◌, ◌%◌, ◌≤◌, refl, sym, ◌∙◌, ap, subst, arith, Bool, true, false, List, [], ◌∷◌, length, drop, Option, Some, None, IsTrue, slice_get}
use Rattle.std.specs.Prelude.{◌==◌, nat_le, Ok}
use Rattle.std.proofs.lemmas.Bool.{and_parts}
use Rattle.std.proofs.lemmas.Bool.Decides.{nat_tests}
use Rattle.rv_table.specs.Bounds.{IsSound}
use Rattle.rv_table.specs.Machine.{State, loaded}
use Rattle.rv_asm.proofs.Shared.{reaches_then, reaches_weaker}
use Rattle.rv_asm.specs.Reaching.{Reaches}
use Rattle.rv_asm.specs.declared.part.Label.{Label}
use Rattle.cmm_chain.specs.Contents.{Content, ReturnTo}
use Rattle.cmm_chain.specs.Running.{left}
use Rattle.cmm_program.specs.Errors.{WrongAlternates, NeverReturns, given as if_given, provided}
use Rattle.cmm_program.specs.Exits.{numbers}
use Rattle.cmm_program.specs.Frames.{with_site, without}
use Rattle.cmm_program.specs.Orders.{Word}
use Rattle.cmm_program.specs.State as p
use Rattle.cmm_program.specs.State.{Activation, Setting, Store}
use Rattle.cmm_machine_laws.specs.Observed.{log_seen}
use Rattle.cmm_machine_laws.specs.Runs.{yielded}
use Rattle.cmm_graph.specs.declared.number.ContinuationId.{ContinuationId}
use Rattle.cmm_graph.specs.declared.number.NodeId.{NodeId}
use Rattle.cmm_graph.specs.declared.node.Exits.{Exits}
use Rattle.cmm_graph.specs.declared.node.Node.{Node}
use Rattle.cmm_graph.specs.declared.operand.Argument.{Argument}
use Rattle.cmm_graph.specs.declared.graph.Graph.{Graph}
use Rattle.cmm_graph.specs.GraphControl.{in_graph}
use Rattle.cmm_graph.specs.Paths.{node_of}
use Rattle.cmm_graph.specs.Ranges.{IsValid, is_copy_in}
use Rattle.cmm_effects.proofs.Shared.{keeps_then, reaches_more, reaches_sound}
use Rattle.cmm_effects.specs.Changes.{Keeps}
use Rattle.cmm_calls.specs.Frames.{HasFrame, return_address}
use Rattle.cmm_calls.specs.Values.{GivesAndLeaves}
use Rattle.cmm_image_machine.specs.Machine.{Launch, map_of}
use Rattle.cmm_emit_laws.specs.Outside.{Outside}
use Rattle.cmm_emit_laws.proofs.Resiting.{resited_shows}
use Rattle.cmm_emit_laws.specs.Represented.{IsFor, stack_region}
use Rattle.cmm_emit_laws.specs.Words.{Represents}
use Rattle.cmm_located.specs.Compiled.{Compiled, Located, landing_in, site_exits}
use Rattle.cmm_located.specs.LocatedMachine.{tokens_at}
use Rattle.cmm_located.specs.Nodes.{exit_node, is_at, to_landing, to_return}
use Rattle.cmm_emit_laws.proofs.Bare.{dropped_are_bare, resited_are_bare}
use Rattle.cmm_emit_laws.proofs.Doing.{IsDone, kept_shown, silently}
use Rattle.cmm_emit_laws.proofs.Framed.{framed_inside}
use Rattle.cmm_emit_laws.proofs.Giving.{AreValues, parted}
use Rattle.cmm_emit_laws.proofs.Going.{place_is}
use Rattle.cmm_emit_laws.proofs.Landing.{has_tokens, inside_copy, landing_holds, normal_holds}
use Rattle.cmm_emit_laws.specs.Finished.{Finished}
use Rattle.cmm_emit_laws.specs.NodeCode.{ReturnCode, SiteCode}
use Rattle.cmm_emit_laws.specs.ProgramCode.{IsLaidFor}
use Rattle.cmm_emit_laws.specs.Standing.{IsInBody, IsYoungest, Stands, status_of}

-- ---- lists alike

pub there_too : (xs : List ContinuationId) (ys : List Label) (i : ℕ) (x : ContinuationId) → slice_get xs i ≡ Some x → length ys ≡ length xs → (y : Label) × (slice_get ys i ≡ Some y)
there_too [] ys i x is same = absurd (cc)
there_too (first ∷ xs) [] i x is same = absurd (omega (arith, same))
there_too (first ∷ xs) (y ∷ ys) zero x is same = (y, refl)
there_too (first ∷ xs) (y ∷ ys) (suc i) x is same = there_too xs ys i x is (omega (arith, same))

past_all : (xs : List ContinuationId) (i : ℕ) → slice_get xs i ≡ None → length xs ≤ i
past_all [] i is = omega arith
past_all (first ∷ xs) zero is = absurd (cc)
past_all (first ∷ xs) (suc i) is = let rest = past_all xs i is in omega (arith, rest)

-- the next older activation waits at the site, and goes on
youngest_at : (s : Setting) (c : Compiled) (activations : List Activation) (q site : ℕ) → is_at s c activations q site ≡ true →
    (a : Activation) × (older : List Activation) × (with_site None activations ≡ a ∷ older) × (a.procedure ≡ q)
youngest_at s c [] q site is = absurd (cc)
youngest_at s c (a ∷ older) q site is =
    let first : (a.procedure == q) ≡ true = (and_parts (a.procedure == q) _ is).0 in
    (record a { site = None }, older, refl, grind (arith, nat_tests, first))

-- what is outside of a state with this status
abbrev pub outside_with : Located → p.Status → Outside
outside_with at status = record {
  input = at.store.input;
  taken = at.store.taken;
  output = at.store.output;
  log = log_seen (yielded status) at.store.log;
  status = status_of status;
}

module _ (s : Setting) (c : Compiled) (l : Launch) (f : Finished) (rest : ℕ → ℕ) (is_for : IsFor s (map_of l)) (at : Located) (t : State) (stands : Stands s c l f rest at t)
    (body : IsInBody at) (laid : IsLaidFor s c at.procedure) (results : List Argument) (exit alternates cost : ℕ)
    (code : ReturnCode s c l f at.procedure at.node exit results cost) (ws : List Word)
    (are_out : AreValues s c l f rest is_for at t body.activation body.older body.youngest body.same laid stands.shown code.operands ws)
    (q site : ℕ) (valid : (g : Graph) → slice_get c.graphs q ≡ Some g → IsValid g) (sites : (exits : Exits) → site_exits c.graphs q site ≡ Some exits → SiteCode s c l f q site exits)
    (back : at.holdings.contents (at.holdings.point.at + (c.plan.frame at.procedure).return_at) ≡ ReturnTo q site) where
  address_is : return_address (c.plan.frame at.procedure) t ≡ f.symbols.return_to q site
  address_is =
      let offset = (c.plan.frame at.procedure).return_at in
      ap (λ (n : ℕ). loaded t.memory (n + offset) 8) stands.shown.holdings.frame
      ∙ subst (λ (content : Content). Represents f.symbols content (loaded t.memory (at.holdings.point.at + offset) 8)) back (stands.shown.words.shown (at.holdings.point.at + offset))

  framed : HasFrame (stack_region s) (c.plan.frame at.procedure).size (map_of l) t
  framed = framed_inside s c l f rest is_for at t stands body laid

  module _ (waits : is_at s c (drop 1 at.store.activations) q site ≡ true) (exits : Exits) (is_exits : site_exits c.graphs q site ≡ Some exits)
      (within : exit ≤ length exits.returns) (n : NodeId) (is_node : exit_node s c q exits exit ≡ Some n) where
    abbrev behind : SiteCode s c l f q site exits
    behind = sites exits is_exits

    -- ---- from the exit of the site control comes to its CopyIn

    comes_to : (u : State) → IsSound u → u.pc ≡ f.symbols.return_to q site + 4 * exit → Reaches (map_of l) 0 3 u (λ v. (v.pc ≡ f.node_at q n) × Keeps u v)
    comes_to u sound pc = by (slice_get exits.returns exit) refl is_node
      where
        by : (o : Option ContinuationId) → slice_get exits.returns exit ≡ o → elim o as (λ _. Option NodeId) [ Some k ↦ landing_in c.graphs q k.number | None ↦ exits.normal ] ≡ Some n →
            Reaches (map_of l) 0 3 u (λ v. (v.pc ≡ f.node_at q n) × Keeps u v)
        by (Some k) is_k lands =
            let label = there_too exits.returns behind.labels exit k is_k behind.count in
            reaches_weaker ((behind.table.alternate exit label.0 label.1).goes.go u sound pc tt) (omega arith) (omega arith)
            (λ v there. (there.0 ∙ behind.alternates exit k n label.0 is_k lands label.1, there.1))
        by None is_none normal =
            let last : exit ≡ length behind.labels = let past = past_all exits.returns exit is_none in omega (arith, past, within, behind.count) in
            reaches_weaker
            (reaches_then (reaches_sound (behind.table.normal.go u sound (pc ∙ omega (arith, last)) tt) sound)
            (λ v there. reaches_more ((behind.normal n normal).go v there.1 there.0.0 tt) (λ w keeps. (keeps.0, keeps_then u v w there.0.1 keeps.1))))
            (omega arith) (omega arith) (λ w there. there)

    -- ---- the state there

    abbrev store_back : Store
    store_back = record (without 1 at.store) { activations = with_site None (drop 1 at.store.activations); status = p.Running }

    abbrev back_at : Located
    back_at = record { store = store_back; holdings = left c.plan at.procedure at.holdings; procedure = q; node = n; carried = numbers ws }

    landing : (node : Node) × (in_graph c.graphs q (λ g. node_of g n) ≡ Some node) × IsTrue (is_copy_in node.kind)
    landing = by (slice_get exits.returns exit) is_node
      where
        by : (o : Option ContinuationId) → elim o as (λ _. Option NodeId) [ Some k ↦ landing_in c.graphs q k.number | None ↦ exits.normal ] ≡ Some n →
            (node : Node) × (in_graph c.graphs q (λ g. node_of g n) ≡ Some node) × IsTrue (is_copy_in node.kind)
        by (Some k) lands = landing_holds c.graphs q valid k.number n lands
        by None normal = normal_holds c.graphs q valid site exits n is_exits normal

    youngest : IsYoungest back_at
    youngest = let found = youngest_at s c (drop 1 at.store.activations) q site waits in
        record { activation = found.0; older = found.1; youngest = found.2; same = found.3 }

    some_tokens : 1 ≤ tokens_at s c back_at
    some_tokens =
        let e : tokens_at s c back_at ≡ landing.0.tokens = ap (λ (o : Option Node). elim o as (λ _. ℕ) [ Some node ↦ node.tokens | None ↦ 0 ]) landing.1 in
        let some : 1 ≤ landing.0.tokens = has_tokens c.graphs q valid n landing.0 landing.1 in
        omega (arith, e, some)

    stands_back : (u v : State) → GivesAndLeaves (stack_region s) (f.labels at.procedure) (c.plan.frame at.procedure) code.operands t u → v.pc ≡ f.node_at q n → Keeps u v → IsSound v → Stands s c l f rest back_at v
    stands_back u v parts pc keeps sound = record {
      running = refl;
      node = landing.0;
      there = landing.1;
      inside = inside_copy landing.0.kind landing.2 back_at youngest;
      shown = kept_shown f rest s l is_for back_at.holdings store_back (numbers ws) u v keeps
          (resited_shows f.symbols rest s back_at.holdings (without 1 at.store) (numbers ws) u None p.Running
          (parted s c l f rest is_for at t body.activation body.older body.youngest body.same laid stands.shown code.operands ws u code.few_results are_out parts));
      pc = pc;
      sound = sound;
    }

    went_back : IsDone s c l f rest at cost t back_at
    went_back =
        silently s c l f rest at cost t back_at some_tokens (ap (outside_with at) (sym stands.running)) refl
        (λ are. resited_are_bare None (drop 1 at.store.activations) (dropped_are_bare 1 at.store.activations are))
        (reaches_weaker
        (reaches_then
        (reaches_sound ((code.returns (stack_region s)).goes.go t stands.sound stands.pc (
          record { stack = framed; region = stands.shown.holdings.region },
          record {
            frame = framed;
            aligned = ap (λ (k : ℕ). k % 4) address_is ∙ behind.aligned;
            fits = omega (arith, address_is, behind.fits, within, behind.count);
          },
        )) stands.sound)
        (λ u there. reaches_more (reaches_sound (comes_to u there.1 (there.0.0 ∙ ap (λ (k : ℕ). k + 4 * exit) address_is)) there.1)
        (λ v last. stands_back u v there.0.1 last.0.0 last.0.1 last.1)))
        (omega arith) (omega (arith, code.few_behind)) (λ v there. there))

  -- ---- where the located machine goes back

  pub back_done : (after : Located) → to_return s c (ReturnTo q site) exit alternates (numbers ws) (without 1 at.store) (left c.plan at.procedure at.holdings) ≡ Ok after →
      IsDone s c l f rest at cost t after
  back_done after is = by_site (is_at s c (drop 1 at.store.activations) q site) refl is
    where
      by_node : (waits : is_at s c (drop 1 at.store.activations) q site ≡ true) (exits : Exits) (is_exits : site_exits c.graphs q site ≡ Some exits) (within : exit ≤ length exits.returns) →
          (o : Option NodeId) → exit_node s c q exits exit ≡ o →
          to_landing s c NeverReturns o q (without 1 at.store) (left c.plan at.procedure at.holdings) (numbers ws) ≡ Ok after → IsDone s c l f rest at cost t after
      by_node waits exits is_exits within (Some n) is_node e = subst (λ (z : Located). IsDone s c l f rest at cost t z) (place_is e) (went_back waits exits is_exits within n is_node)
      by_node waits exits is_exits within None is_node e = absurd (cc)

      by_count : (waits : is_at s c (drop 1 at.store.activations) q site ≡ true) (exits : Exits) → site_exits c.graphs q site ≡ Some exits → (test : Bool) → nat_le exit (length exits.returns) ≡ test →
          provided test WrongAlternates (to_landing s c NeverReturns (exit_node s c q exits exit) q (without 1 at.store) (left c.plan at.procedure at.holdings) (numbers ws)) ≡ Ok after →
          IsDone s c l f rest at cost t after
      by_count waits exits is_exits true count e = by_node waits exits is_exits (grind (arith, nat_tests, count)) (exit_node s c q exits exit) refl e
      by_count waits exits is_exits false count e = absurd (cc)

      by_exits : (waits : is_at s c (drop 1 at.store.activations) q site ≡ true) (o : Option Exits) → site_exits c.graphs q site ≡ o →
          if_given o WrongAlternates (λ exits. provided (nat_le exit (length exits.returns)) WrongAlternates
          (to_landing s c NeverReturns (exit_node s c q exits exit) q (without 1 at.store) (left c.plan at.procedure at.holdings) (numbers ws))) ≡ Ok after → IsDone s c l f rest at cost t after
      by_exits waits (Some exits) is_exits e = by_count waits exits is_exits (nat_le exit (length exits.returns)) refl e
      by_exits waits None is_exits e = absurd (cc)

      by_site : (test : Bool) → is_at s c (drop 1 at.store.activations) q site ≡ test →
          provided test WrongAlternates (if_given (site_exits c.graphs q site) WrongAlternates (λ exits. provided (nat_le exit (length exits.returns)) WrongAlternates
          (to_landing s c NeverReturns (exit_node s c q exits exit) q (without 1 at.store) (left c.plan at.procedure at.holdings) (numbers ws)))) ≡ Ok after → IsDone s c l f rest at cost t after
      by_site true waits e = by_exits waits (site_exits c.graphs q site) refl e
      by_site false waits e = absurd (cc)
