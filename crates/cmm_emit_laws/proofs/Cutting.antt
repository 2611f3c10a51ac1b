-- Control is cut to a continuation of an activation that is present.
use Rattle.std.proofs.Common.{◌≡◌, ℕ, suc, ◌+◌, ◌%◌, ◌≤◌, refl, sym, ◌∙◌, ap, subst, arith, Bool, true, false, List, [], ◌∷◌, map, drop, Option, Some, None, IsTrue, slice_get}
use Rattle.std.specs.Prelude.{◌==◌, ◌&&◌, ◌||◌, find, Ok, Err}
use Rattle.std.proofs.lemmas.Bool.{and_parts, eqb-true, or_parts}
use Rattle.rv_table.specs.Bounds.{IsSound}
use Rattle.rv_table.specs.Machine.{State, loaded}
use Rattle.rv_asm.proofs.Shared.{reaches_weaker}
use Rattle.cmm_chain.specs.Contents.{Content, Unknown, Number, ReturnTo, LandingOf, LastReturn}
use Rattle.cmm_chain.specs.Running.{cut_at, none_known}
use Rattle.cmm_program.specs.Acts.{word_passed}
use Rattle.cmm_program.specs.Errors.{Tried, NoSuchCut, all_of, and_then, given as if_given, provided}
use Rattle.cmm_program.specs.Exits.{numbers}
use Rattle.cmm_program.specs.Frames.{continuation_value, frame_address, site_cuts, with_site, without}
use Rattle.cmm_program.specs.Orders as order
use Rattle.cmm_program.specs.Orders.{Word}
use Rattle.cmm_program.specs.Performing.{Found, cut_among}
use Rattle.cmm_program.specs.State as p
use Rattle.cmm_program.specs.State.{Activation, Setting, Store}
use Rattle.cmm_graph.specs.declared.number.ContinuationId.{ContinuationId}
use Rattle.cmm_graph.specs.declared.number.NodeId.{NodeId}
use Rattle.cmm_graph.specs.declared.operand.Argument.{Argument}
use Rattle.cmm_graph.specs.declared.operand.Operand.{Operand}
use Rattle.cmm_graph.specs.declared.node.Node.{Node}
use Rattle.cmm_graph.specs.declared.node.NodeKind.TheVariants.{Cut}
use Rattle.cmm_graph.specs.declared.graph.Graph.{Graph}
use Rattle.cmm_graph.specs.GraphControl.{in_graph}
use Rattle.cmm_graph.specs.Paths.{node_of}
use Rattle.cmm_graph.specs.Ranges.{IsValid, is_copy_in}
use Rattle.cmm_graph.specs.Values.{operand_value, passed}
use Rattle.cmm_effects.proofs.Shared.{reaches_more, reaches_sound}
use Rattle.cmm_abi.specs.Registers.{is_scratch}
use Rattle.cmm_select.specs.Operands.{operand_at}
use Rattle.cmm_calls.specs.Calls.{GivesAndMoves, HasPair}
use Rattle.cmm_calls.specs.Frames.{HasFrame}
use Rattle.cmm_image_machine.specs.Machine.{Launch, map_of}
use Rattle.cmm_emit_laws.proofs.Leaving.{cut_shows}
use Rattle.cmm_emit_laws.proofs.Resiting.{resited_shows}
use Rattle.cmm_emit_laws.proofs.Reading.{sits_accessible}
use Rattle.cmm_emit_laws.specs.Represented.{IsFor, IsRepresented, stack_region}
use Rattle.cmm_emit_laws.specs.Words.{Represents, Sits, is_known}
use Rattle.cmm_located.specs.Compiled.{Compiled, Located, landing_in}
use Rattle.cmm_located.specs.LocatedMachine.{tokens_at}
use Rattle.cmm_located.specs.Nodes.{done, is_pair_of, keeping, ran_at, reads_at, to_landing, to_pair}
use Rattle.cmm_emit_laws.proofs.Bare.{dropped_are_bare, resited_are_bare}
use Rattle.cmm_emit_laws.proofs.Calling.{brings_keeps}
use Rattle.cmm_emit_laws.proofs.Doing.{IsDone, kept_shown, silently}
use Rattle.cmm_emit_laws.proofs.Framed.{framed_inside}
use Rattle.cmm_emit_laws.proofs.Giving.{given, values_are}
use Rattle.cmm_emit_laws.proofs.Going.{place_is}
use Rattle.cmm_emit_laws.proofs.GoingBack.{outside_with}
use Rattle.cmm_emit_laws.proofs.Landing.{has_tokens, inside_copy, landing_holds}
use Rattle.cmm_emit_laws.proofs.Operands.{operand_is}
use Rattle.cmm_emit_laws.specs.Finished.{Finished}
use Rattle.cmm_emit_laws.specs.NodeCode.{CutCode}
use Rattle.cmm_emit_laws.specs.ProgramCode.{IsLaidFor}
use Rattle.cmm_emit_laws.specs.Standing.{IsInBody, IsYoungest, Stands}

-- the activation whose continuation is found is behind the younger ones
found_among : (s : Setting) (younger : ℕ) (own : List ℕ) (value : ℕ) (activations : List Activation) (found : Found) → cut_among s younger own value activations ≡ Some found →
    (j : ℕ) × (found.younger ≡ younger + j) × (a : Activation) × (older : List Activation) × (drop j activations ≡ a ∷ older) × (a.procedure ≡ found.procedure)
found_among s younger own value [] found is = absurd (cc)
found_among s younger own value (a ∷ older) found is =
    by (λ e. found_among s (suc younger) (site_cuts s older) value older found e) (find (λ k. continuation_value s (a ∷ older) k == value) own) is
  where
    by : (cut_among s (suc younger) (site_cuts s older) value older ≡ Some found →
        (j : ℕ) × (found.younger ≡ suc younger + j) × (b : Activation) × (rest : List Activation) × (drop j older ≡ b ∷ rest) × (b.procedure ≡ found.procedure)) →
        (o : Option ℕ) → elim o as (λ _. Option Found) [
          | Some k ↦ Some record { younger = younger; procedure = a.procedure; continuation = k }
          | None ↦ cut_among s (suc younger) (site_cuts s older) value older
        ] ≡ Some found →
        (j : ℕ) × (found.younger ≡ younger + j) × (b : Activation) × (rest : List Activation) × (drop j (a ∷ older) ≡ b ∷ rest) × (b.procedure ≡ found.procedure)
    by again (Some k) e =
        let same : record { younger = younger; procedure = a.procedure; continuation = k } ≡ found = cc in
        (0, sym (ap (λ (z : Found). z.younger) same) ∙ omega arith, a, older, refl, ap (λ (z : Found). z.procedure) same)
    by again None e =
        let rest = again e in
        (suc rest.0, rest.1 ∙ omega arith, rest.2, rest.3, rest.4, rest.5)

module _ (s : Setting) (c : Compiled) (l : Launch) (f : Finished) (rest : ℕ → ℕ) (is_for : IsFor s (map_of l)) (valid : (q : ℕ) (g : Graph) → slice_get c.graphs q ≡ Some g → IsValid g)
    (landings : (q k : ℕ) (n : NodeId) → landing_in c.graphs q k ≡ Some n → (f.node_at q n ≡ f.symbols.landing_of q k) × (f.symbols.landing_of q k % 4 ≡ 0))
    (at : Located) (t : State) (stands : Stands s c l f rest at t) (body : IsInBody at) (laid : IsLaidFor s c at.procedure) where
  framed : HasFrame (stack_region s) (c.plan.frame at.procedure).size (map_of l) t
  framed = framed_inside s c l f rest is_for at t stands body laid

  abbrev value : Operand → Tried ℕ
  value o = operand_value (keeping s c at).held o (reads_at s c at)

  abbrev words : List Argument → Tried (List Word)
  words arguments = all_of (map (word_passed (reads_at s c at)) (passed (keeping s c at).held arguments))

  module _ (to : Operand) (arguments : List Argument) (cost : ℕ) (code : CutCode s c l f at.procedure at.node to arguments cost) (v : ℕ) (is_v : value to ≡ Ok v) (ws : List Word)
      (is_words : words arguments ≡ Ok ws) (found : Found) (own : List ℕ) (is_found : cut_among s 0 own v at.store.activations ≡ Some found) (q k frame : ℕ)
      (first : at.holdings.contents v ≡ LandingOf q k) (second : at.holdings.contents (v + 8) ≡ Number frame)
      (pair : is_pair_of s c found at.store.activations q k frame ≡ true) (n : NodeId) (lands : landing_in c.graphs q k ≡ Some n) where
    pair_is : operand_at (f.labels at.procedure) code.pair t ≡ v
    pair_is = (operand_is s c l f rest is_for at t body.activation body.older body.youngest (λ i. laid.places body.activation i body.same) stands.shown to code.pair v code.is_pair is_v).0

    -- ---- the pair

    first_sits : Sits (stack_region s) at.store.memory v
    first_sits = stands.shown.words.sits v (ap is_known first)

    second_sits : Sits (stack_region s) at.store.memory (v + 8)
    second_sits = stands.shown.words.sits (v + 8) (ap is_known second)

    code_is : loaded t.memory v 8 ≡ f.symbols.landing_of q k
    code_is = subst (λ (content : Content). Represents f.symbols content (loaded t.memory v 8)) first (stands.shown.words.shown v)

    has_pair : HasPair (stack_region s) v (map_of l) t
    has_pair = record {
      low = first_sits.low;
      fits = omega (arith, first_sits.high, is_for.lies.narrow);
      code = sits_accessible (stack_region s) (map_of l) at.store.memory v is_for.lies first_sits;
      frame = sits_accessible (stack_region s) (map_of l) at.store.memory (v + 8) is_for.lies second_sits;
      aligned = ap (λ (z : ℕ). z % 4) code_is ∙ (landings q k n lands).1;
    }

    -- ---- the activation that goes on

    parts : (q ≡ found.procedure) × (frame ≡ frame_address s (drop found.younger at.store.activations))
    parts =
        let both = and_parts (q == found.procedure) ((k == found.continuation) && (frame == frame_address s (drop found.younger at.store.activations))) pair in
        let last = (and_parts (k == found.continuation) (frame == frame_address s (drop found.younger at.store.activations)) both.1).1 in
        (eqb-true q found.procedure both.0, eqb-true frame (frame_address s (drop found.younger at.store.activations)) last)

    abbrev store_cut : Store
    store_cut = record (without found.younger at.store) { activations = with_site None (drop found.younger at.store.activations); status = p.Running }

    abbrev cut_there : Located
    cut_there = record { store = store_cut; holdings = cut_at frame at.holdings; procedure = q; node = n; carried = numbers ws }

    youngest : IsYoungest cut_there
    youngest =
        let among = found_among s 0 own v at.store.activations found is_found in
        let same : drop found.younger at.store.activations ≡ among.2 ∷ among.3 = ap (λ (j : ℕ). drop j at.store.activations) (among.1 ∙ omega arith) ∙ among.4 in
        record {
          activation = record among.2 { site = None };
          older = among.3;
          youngest = ap (with_site None) same;
          same = among.5 ∙ sym parts.0;
        }

    landing : (node : Node) × (in_graph c.graphs q (λ g. node_of g n) ≡ Some node) × IsTrue (is_copy_in node.kind)
    landing = landing_holds c.graphs q (valid q) k n lands

    some_tokens : 1 ≤ tokens_at s c cut_there
    some_tokens =
        let e : tokens_at s c cut_there ≡ landing.0.tokens = ap (λ (o : Option Node). elim o as (λ _. ℕ) [ Some node ↦ node.tokens | None ↦ 0 ]) landing.1 in
        let some : 1 ≤ landing.0.tokens = has_tokens c.graphs q (valid q) n landing.0 landing.1 in
        omega (arith, e, some)

    -- ---- what is shown

    moved : (u : State) → GivesAndMoves (stack_region s) (f.labels at.procedure) code.pair code.operands t u → IsRepresented f.symbols rest s (cut_at frame at.holdings) (without found.younger at.store) (numbers ws) u
    moved u (r, brings, (w, gives, moves)) =
        let shown_r : IsRepresented f.symbols rest s at.holdings at.store at.carried r = kept_shown f rest s l is_for at.holdings at.store at.carried t r (brings_keeps _ t r brings) stands.shown in
        let shown_w : IsRepresented f.symbols rest s (record at.holdings { temps = none_known }) at.store (numbers ws) w =
        given s c l f rest is_for at r body.activation body.older body.youngest body.same laid shown_r code.operands ws w code.few_values
        (values_are s c l f rest is_for at r body.activation body.older body.youngest body.same laid shown_r arguments code.operands ws code.are is_words) gives in
        let frame_is : loaded w.memory (v + 8) 8 ≡ frame = subst (λ (content : Content). Represents f.symbols content (loaded w.memory (v + 8) 8)) second (shown_w.words.shown (v + 8)) in
        cut_shows f.symbols rest s (map_of l) is_for (record at.holdings { temps = none_known }) at.store (numbers ws) w u frame found.younger
        (moves.frame ∙ ap (λ (z : ℕ). loaded w.memory (z + 8) 8) pair_is ∙ frame_is) moves.memory (λ i is. moves.registers i (or_parts (i == 1) ((i == 2) || is_scratch i) is).1) parts.1 shown_w

    stands_cut : (u : State) → u.pc ≡ f.node_at q n → GivesAndMoves (stack_region s) (f.labels at.procedure) code.pair code.operands t u → IsSound u → Stands s c l f rest cut_there u
    stands_cut u pc gone sound = record {
      running = refl;
      node = landing.0;
      there = landing.1;
      inside = inside_copy landing.0.kind landing.2 cut_there youngest;
      shown = resited_shows f.symbols rest s (cut_at frame at.holdings) (without found.younger at.store) (numbers ws) u None p.Running (moved u gone);
      pc = pc;
      sound = sound;
    }

    was_cut : IsDone s c l f rest at cost t cut_there
    was_cut =
        silently s c l f rest at cost t cut_there some_tokens (ap (outside_with at) (sym stands.running)) refl
        (λ are. resited_are_bare None (drop found.younger at.store.activations) (dropped_are_bare found.younger at.store.activations are))
        (reaches_more
        (reaches_sound
        (reaches_weaker
        ((code.cuts (stack_region s)).goes.go t stands.sound stands.pc (
          record { stack = framed; region = stands.shown.holdings.region },
          subst (λ (z : ℕ). HasPair (stack_region s) z (map_of l) t) (sym pair_is) has_pair,
        ))
        (omega arith) (omega (arith, code.few)) (λ u there. there))
        stands.sound)
        (λ u there. stands_cut u (there.0.0 ∙ ap (λ (z : ℕ). loaded t.memory z 8) pair_is ∙ code_is ∙ sym (landings q k n lands).0) there.0.1 there.1))

  -- ---- where the located machine is cut to

  module _ (to : Operand) (arguments : List Argument) (cost : ℕ) (code : CutCode s c l f at.procedure at.node to arguments cost) (v : ℕ) (is_v : value to ≡ Ok v) (ws : List Word)
      (is_words : words arguments ≡ Ok ws) (found : Found) (own : List ℕ) (is_found : cut_among s 0 own v at.store.activations ≡ Some found) (after : Located) where
    by_node : (q k frame : ℕ) → at.holdings.contents v ≡ LandingOf q k → at.holdings.contents (v + 8) ≡ Number frame → is_pair_of s c found at.store.activations q k frame ≡ true →
        (o : Option NodeId) → landing_in c.graphs q k ≡ o →
        to_landing s c NoSuchCut o q (without found.younger at.store) (cut_at frame at.holdings) (numbers ws) ≡ Ok after → IsDone s c l f rest at cost t after
    by_node q k frame first second pair (Some n) lands e =
        subst (λ (z : Located). IsDone s c l f rest at cost t z) (place_is e) (was_cut to arguments cost code v is_v ws is_words found own is_found q k frame first second pair n lands)
    by_node q k frame first second pair None lands e = absurd (cc)

    by_test : (q k frame : ℕ) → at.holdings.contents v ≡ LandingOf q k → at.holdings.contents (v + 8) ≡ Number frame → (test : Bool) → is_pair_of s c found at.store.activations q k frame ≡ test →
        provided test NoSuchCut (to_landing s c NoSuchCut (landing_in c.graphs q k) q (without found.younger at.store) (cut_at frame at.holdings) (numbers ws)) ≡ Ok after →
        IsDone s c l f rest at cost t after
    by_test q k frame first second true pair e = by_node q k frame first second pair (landing_in c.graphs q k) refl e
    by_test q k frame first second false pair e = absurd (cc)

    by_words : (first second : Content) → at.holdings.contents v ≡ first → at.holdings.contents (v + 8) ≡ second → to_pair s c first second found (numbers ws) at ≡ Ok after →
        IsDone s c l f rest at cost t after
    by_words (LandingOf q k) (Number frame) is_first is_second e = by_test q k frame is_first is_second (is_pair_of s c found at.store.activations q k frame) refl e
    by_words (LandingOf q k) Unknown is_first is_second e = absurd (cc)
    by_words (LandingOf q k) (ReturnTo p' site) is_first is_second e = absurd (cc)
    by_words (LandingOf q k) (LandingOf p' j) is_first is_second e = absurd (cc)
    by_words (LandingOf q k) LastReturn is_first is_second e = absurd (cc)
    by_words Unknown second is_first is_second e = absurd (cc)
    by_words (Number n) second is_first is_second e = absurd (cc)
    by_words (ReturnTo p' site) second is_first is_second e = absurd (cc)
    by_words LastReturn second is_first is_second e = absurd (cc)

  pub cut_done : (to : Operand) (arguments : List Argument) (own : List ContinuationId) (cost : ℕ) (after : Located) → CutCode s c l f at.procedure at.node to arguments cost →
      ran_at s c (Cut to arguments own) at ≡ Ok after → IsDone s c l f rest at cost t after
  cut_done to arguments own cost after code is = by (value to) refl (words arguments) refl is
    where
      by_found : (v : ℕ) → value to ≡ Ok v → (ws : List Word) → words arguments ≡ Ok ws → (o : Option Found) → cut_among s 0 (map (λ k. k.number) own) v at.store.activations ≡ o →
          if_given o NoSuchCut (λ found. to_pair s c (at.holdings.contents v) (at.holdings.contents (v + 8)) found (numbers ws) at) ≡ Ok after → IsDone s c l f rest at cost t after
      by_found v is_v ws is_ws (Some found) is_found e =
          by_words to arguments cost code v is_v ws is_ws found (map (λ k. k.number) own) is_found after (at.holdings.contents v) (at.holdings.contents (v + 8)) refl refl e
      by_found v is_v ws is_ws None is_found e = absurd (cc)

      by : (v : Tried ℕ) → value to ≡ v → (found : Tried (List Word)) → words arguments ≡ found →
          and_then (and_then v (λ k. and_then found (λ ws. Ok (order.Cut k ws (map (λ k. k.number) own))))) (λ o. done s c (Cut to arguments own) o at) ≡ Ok after →
          IsDone s c l f rest at cost t after
      by (Ok v) is_v (Ok ws) is_ws e = by_found v is_v ws is_ws (cut_among s 0 (map (λ k. k.number) own) v at.store.activations) refl e
      by (Ok v) is_v (Err error) is_ws e = absurd (cc)
      by (Err error) is_v found is_ws e = absurd (cc)
