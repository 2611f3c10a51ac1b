-- An activation returns: the oldest ends the run, and any other goes back to a site.
use Rattle.std.proofs.Common.{◌≡◌, ℕ, ◌+◌, ◌%◌, ◌<◌, ◌≤◌, ◌^◌, refl, sym, ◌∙◌, ap, subst, arith, Bool, true, false, List, [], ◌∷◌, drop, length, map, Option, Some, None, slice_get}
use Rattle.std.proofs.lemmas.Bool.{eqb-true}
use Rattle.std.specs.Prelude.{◌==◌, Ok, Err, nat_le, slice_index_or}
use Rattle.rv_table.specs.Machine.{State, Asks, instruction_step, loaded}
use Rattle.rv_table.specs.declared.request.Request.TheVariants as request
use Rattle.rv_asm.proofs.Shared.{reaches_then, reaches_weaker}
use Rattle.rv_asm.specs.Reaching.{Reaches}
use Rattle.cmm_chain.specs.Contents.{Content, Unknown, Number, ReturnTo, LandingOf, LastReturn}
use Rattle.cmm_chain.specs.Running.{left}
use Rattle.cmm_program.specs.Acts.{word_passed}
use Rattle.cmm_program.specs.Errors.{NeverReturns, Tried, UncheckedError, WrongAlternates, all_of, and_then, given as if_given, provided}
use Rattle.cmm_program.specs.Exits.{numbers}
use Rattle.cmm_program.specs.Frames.{frame_size, without}
use Rattle.cmm_program.specs.Orders as order
use Rattle.cmm_program.specs.Orders.{Word}
use Rattle.cmm_program.specs.State as p
use Rattle.cmm_program.specs.State.{Setting}
use Rattle.cmm_program.specs.Control.{over}
use Rattle.cmm_graph.specs.declared.number.NodeId.{NodeId}
use Rattle.cmm_graph.specs.declared.operand.Argument.{Argument}
use Rattle.cmm_graph.specs.declared.node.Exits.{Exits}
use Rattle.cmm_graph.specs.declared.node.NodeKind.TheVariants.{Return}
use Rattle.cmm_graph.specs.declared.graph.Graph.{Graph}
use Rattle.cmm_graph.specs.Ranges.{IsValid}
use Rattle.cmm_graph.specs.Values.{passed}
use Rattle.cmm_effects.proofs.Shared.{reaches_more, reaches_sound}
use Rattle.cmm_select.specs.declared.operand.Operand.{Operand as CodeOperand}
use Rattle.cmm_calls.specs.Frames.{HasFrame, return_address}
use Rattle.cmm_calls.specs.Values.{GivesAndLeaves, parting_cost}
use Rattle.cmm_image_machine.specs.Machine.{Launch, map_of}
use Rattle.cmm_emit_laws.specs.Represented.{IsFor, IsRepresented, stack_region}
use Rattle.cmm_emit_laws.specs.Words.{Represents}
use Rattle.cmm_located.specs.Compiled.{Compiled, Located, site_exits}
use Rattle.cmm_located.specs.LocatedMachine.{tokens_at}
use Rattle.cmm_located.specs.Nodes.{done, exit_node, is_at, keeping, ran_at, reads_at, to_landing, to_return}
use Rattle.cmm_emit_laws.proofs.Doing.{IsDone, kept_shown}
use Rattle.cmm_emit_laws.proofs.Resiting.{outside_shows}
use Rattle.cmm_emit_laws.proofs.Framed.{framed_inside, size_of}
use Rattle.cmm_emit_laws.proofs.Ending.{ended_outside, ends}
use Rattle.cmm_emit_laws.proofs.Bare.{dropped_are_bare}
use Rattle.cmm_emit_laws.proofs.Giving.{AreValues, parted, values_are}
use Rattle.cmm_emit_laws.proofs.GoingBack.{back_done}
use Rattle.cmm_emit_laws.proofs.Going.{place_is}
use Rattle.cmm_emit_laws.specs.Finished.{Finished}
use Rattle.cmm_emit_laws.specs.NodeCode.{ReturnCode, SiteCode}
use Rattle.cmm_emit_laws.specs.ProgramCode.{IsLaidFor}
use Rattle.cmm_emit_laws.specs.Standing.{IsInBody, Stands}
use Rattle.cmm_emit_laws.specs.Steps.{ComesToEnd}

module _ (s : Setting) (c : Compiled) (l : Launch) (f : Finished) (rest : ℕ → ℕ) (is_for : IsFor s (map_of l)) (at : Located) (t : State) (stands : Stands s c l f rest at t)
    (body : IsInBody at) (laid : IsLaidFor s c at.procedure) where
  abbrev AreOut : List CodeOperand → List Word → Type 0
  AreOut = AreValues s c l f rest is_for at t body.activation body.older body.youngest body.same laid stands.shown

  -- ---- the oldest returns

  abbrev back_in : Content
  back_in = at.holdings.contents (at.holdings.point.at + (c.plan.frame at.procedure).return_at)

  size_is : (c.plan.frame at.procedure).size ≡ frame_size s body.activation
  size_is = size_of s c at.procedure body.activation laid body.same

  framed : HasFrame (stack_region s) (c.plan.frame at.procedure).size (map_of l) t
  framed = framed_inside s c l f rest is_for at t stands body laid

  address_is : back_in ≡ LastReturn → return_address (c.plan.frame at.procedure) t ≡ f.symbols.last_return
  address_is back =
      let offset = (c.plan.frame at.procedure).return_at in
      ap (λ (n : ℕ). loaded t.memory (n + offset) 8) stands.shown.holdings.frame
      ∙ subst (λ (content : Content). Represents f.symbols content (loaded t.memory (at.holdings.point.at + offset) 8)) back (stands.shown.words.shown (at.holdings.point.at + offset))

  -- control comes behind the call of `main`, with what is left of the program represented
  comes_back : (results : List Argument) (exit cost : ℕ) (ws : List Word) (code : ReturnCode s c l f at.procedure at.node exit results cost) →
      f.symbols.last_return % 4 ≡ 0 → f.symbols.last_return < 2 ^ 64 → AreOut code.operands ws → back_in ≡ LastReturn → exit ≡ 0 →
      Reaches (map_of l) 0 (parting_cost (c.plan.frame at.procedure) code.operands + 1) t
      (λ u. (u.pc ≡ f.symbols.last_return) × IsRepresented f.symbols rest s (left c.plan at.procedure at.holdings) (without 1 at.store) (numbers ws) u)
  comes_back results exit cost ws code aligned fits are back none =
      reaches_weaker
      ((code.returns (stack_region s)).goes.go t stands.sound stands.pc (
        record { stack = framed; region = stands.shown.holdings.region },
        record {
          frame = framed;
          aligned = ap (λ (n : ℕ). n % 4) (address_is back) ∙ aligned;
          fits = omega (arith, address_is back, fits, none);
        },
      ))
      (omega arith) (omega arith) (λ u there. (
        there.0 ∙ omega (arith, address_is back, none),
        parted s c l f rest is_for at t body.activation body.older body.youngest body.same laid stands.shown code.operands ws u code.few_results are there.1,
      ))

  -- the first value is in register 10 there
  value_is : (ws : List Word) (value : ℕ) (values : List ℕ) (u : State) → numbers ws ≡ value ∷ values →
      IsRepresented f.symbols rest s (left c.plan at.procedure at.holdings) (without 1 at.store) (numbers ws) u → u.registers 10 ≡ value
  value_is ws value values u is shown =
      let some : 0 < length (numbers ws) = grind (arith, is) in
      shown.values.1 0 some ∙ ap (λ (xs : List ℕ). slice_index_or xs 0 0) is

  returned : (results : List Argument) (exit cost value : ℕ) (values : List ℕ) (ws : List Word) (code : ReturnCode s c l f at.procedure at.node exit results cost) →
      f.symbols.last_return % 4 ≡ 0 → f.symbols.last_return < 2 ^ 64 → AreOut code.operands ws → numbers ws ≡ value ∷ values → back_in ≡ LastReturn → exit ≡ 0 →
      Reaches (map_of l) 0 (parting_cost (c.plan.frame at.procedure) code.operands + 1 + code.ends) t (λ u. instruction_step (map_of l) u ≡ Asks (request.End value))
  returned results exit cost value values ws code aligned fits are is back none =
      reaches_weaker
      (reaches_then
      (reaches_sound (comes_back results exit cost ws code aligned fits are back none) stands.sound)
      (λ u there. reaches_more (code.end_asked.go u there.1 there.0.0)
      (λ v asks. asks.1 ∙ ap (λ (n : ℕ). Asks (request.End n)) (value_is ws value values u is there.0.1))))
      (omega arith) (omega arith) (λ v asks. asks)

  module _ (exit alternates : ℕ) (results : List Argument) (cost : ℕ) (code : ReturnCode s c l f at.procedure at.node exit results cost) (aligned : f.symbols.last_return % 4 ≡ 0)
      (fits : f.symbols.last_return < 2 ^ 64) (first : 1 ≤ tokens_at s c (record at { procedure = 0; node = record { number = 0 } })) (valid : (q : ℕ) (g : Graph) → slice_get c.graphs q ≡ Some g → IsValid g)
      (sites : (q site : ℕ) (exits : Exits) → site_exits c.graphs q site ≡ Some exits → SiteCode s c l f q site exits) (after : Located) where
    -- the run is over
    last_done : (value : ℕ) (values : List ℕ) (ws : List Word) → AreOut code.operands ws → numbers ws ≡ value ∷ values → back_in ≡ LastReturn → (test : Bool) → (exit == 0) ≡ test →
        provided test WrongAlternates (Ok (record {
          store = over (p.Ended (p.Done value)) (without 1 at.store);
          holdings = left c.plan at.procedure at.holdings;
          procedure = 0;
          node = record { number = 0 };
          carried = [];
        })) ≡ Ok after → IsDone s c l f rest at cost t after
    last_done value values ws are is back true none e =
        subst (λ (z : Located). IsDone s c l f rest at cost t z) (place_is e)
        (ends s c l f rest at t (request.End value) (p.Done value) (record { leaves = λ o u. refl; silent = λ u event is. absurd (cc); plain = λ walk other. refl }) _ refl
        (ended_outside at (p.Done value) stands.running) first refl (dropped_are_bare 1 at.store.activations) cost (parting_cost (c.plan.frame at.procedure) code.operands + 1 + code.ends)
        (omega (arith, code.few)) (returned results exit cost value values ws code aligned fits are is back (eqb-true exit 0 none)))
    last_done value values ws are is back false some e = absurd (cc)

    by_values : (ws : List Word) → AreOut code.operands ws → back_in ≡ LastReturn → (xs : List ℕ) → numbers ws ≡ xs →
        to_return s c LastReturn exit alternates xs (without 1 at.store) (left c.plan at.procedure at.holdings) ≡ Ok after → IsDone s c l f rest at cost t after
    by_values ws are back [] is e = absurd (cc)
    by_values ws are back (value ∷ values) is e = last_done value values ws are is back (exit == 0) refl e

    by_back : (ws : List Word) → AreOut code.operands ws → (content : Content) → back_in ≡ content →
        to_return s c content exit alternates (numbers ws) (without 1 at.store) (left c.plan at.procedure at.holdings) ≡ Ok after → IsDone s c l f rest at cost t after
    by_back ws are LastReturn back e = by_values ws are back (numbers ws) refl e
    by_back ws are (ReturnTo q site) back e =
        back_done s c l f rest is_for at t stands body laid results exit alternates cost code ws are q site (valid q) (sites q site) back after e
    by_back ws are Unknown back e = absurd (cc)
    by_back ws are (Number n) back e = absurd (cc)
    by_back ws are (LandingOf q k) back e = absurd (cc)

    pub return_done : ran_at s c (Return exit alternates results) at ≡ Ok after → IsDone s c l f rest at cost t after
    return_done is = by (all_of (map (word_passed (reads_at s c at)) (passed (keeping s c at).held results))) refl is
      where
        by : (found : Tried (List Word)) → all_of (map (word_passed (reads_at s c at)) (passed (keeping s c at).held results)) ≡ found →
            and_then (and_then found (λ ws. Ok (order.Return exit alternates ws))) (λ o. done s c (Return exit alternates results) o at) ≡ Ok after → IsDone s c l f rest at cost t after
        by (Ok ws) is_ws e = by_back ws (values_are s c l f rest is_for at t body.activation body.older body.youngest body.same laid stands.shown results code.operands ws code.are is_ws) back_in refl e
        by (Err error) is_ws e = absurd (cc)

  -- ---- what is represented where the run ends

  module _ (exit alternates : ℕ) (results : List Argument) (cost : ℕ) (code : ReturnCode s c l f at.procedure at.node exit results cost) (aligned : f.symbols.last_return % 4 ≡ 0)
      (fits : f.symbols.last_return < 2 ^ 64) (after : Located) (end : ℕ) (ended : after.store.status ≡ p.Ended (p.Done end)) where
    abbrev EndsAs : Located → Type 0
    EndsAs = ComesToEnd s l f rest cost end t

    abbrev RunsOn : Tried Located → Type 0
    RunsOn r = r ≡ Ok after → after.store.status ≡ p.Running

    -- behind a site it goes on
    runs_provided : (test : Bool) (error : UncheckedError) (r : Tried Located) → RunsOn r → RunsOn (provided test error r)
    runs_provided true error r holds e = holds e
    runs_provided false error r holds e = absurd (cc)

    runs_given : (o : Option Exits) (error : UncheckedError) (next : Exits → Tried Located) → ((exits : Exits) → RunsOn (next exits)) → RunsOn (if_given o error next)
    runs_given (Some exits) error next holds e = holds exits e
    runs_given None error next holds e = absurd (cc)

    lands : (o : Option NodeId) (q : ℕ) (values : List ℕ) → RunsOn (to_landing s c NeverReturns o q (without 1 at.store) (left c.plan at.procedure at.holdings) values)
    lands (Some n) q values e = ap (λ (z : Located). z.store.status) (sym (place_is e))
    lands None q values e = absurd (cc)

    abbrev behind_site : ℕ → List ℕ → Exits → Tried Located
    behind_site q values exits =
        provided (nat_le exit (length exits.returns)) WrongAlternates
        (to_landing s c NeverReturns (exit_node s c q exits exit) q (without 1 at.store) (left c.plan at.procedure at.holdings) values)

    runs_on : (q site : ℕ) (values : List ℕ) → RunsOn (to_return s c (ReturnTo q site) exit alternates values (without 1 at.store) (left c.plan at.procedure at.holdings))
    runs_on q site values =
        runs_provided (is_at s c (drop 1 at.store.activations) q site) WrongAlternates (if_given (site_exits c.graphs q site) WrongAlternates (behind_site q values))
        (runs_given (site_exits c.graphs q site) WrongAlternates (behind_site q values) (λ exits.
        runs_provided (nat_le exit (length exits.returns)) WrongAlternates
        (to_landing s c NeverReturns (exit_node s c q exits exit) q (without 1 at.store) (left c.plan at.procedure at.holdings) values) (lands (exit_node s c q exits exit) q values)))

    same_end : (value : ℕ) → p.Ended (p.Done value) ≡ p.Ended (p.Done end) → value ≡ end
    same_end value e = cc

    last_shown : (value : ℕ) (values : List ℕ) (ws : List Word) → AreOut code.operands ws → numbers ws ≡ value ∷ values → back_in ≡ LastReturn → (test : Bool) → (exit == 0) ≡ test →
        provided test WrongAlternates (Ok (record {
          store = over (p.Ended (p.Done value)) (without 1 at.store);
          holdings = left c.plan at.procedure at.holdings;
          procedure = 0;
          node = record { number = 0 };
          carried = [];
        })) ≡ Ok after → EndsAs after
    last_shown value values ws are is back true none e =
        let same = same_end value (ap (λ (z : Located). z.store.status) (place_is e) ∙ ended) in
        let back_there = comes_back results exit cost ws code aligned fits are back (eqb-true exit 0 none) in
        subst EndsAs (place_is e) (record {
          returns = reaches_weaker back_there (omega arith) (omega (arith, code.few)) (λ u there. (there.0, left_shown u there.1));
          asks =
              reaches_weaker
              (reaches_then (reaches_sound back_there stands.sound)
              (λ u there. reaches_more (code.end_asked.go u there.1 there.0.0) (λ v asks. (
                asks.1 ∙ ap (λ (n : ℕ). Asks (request.End n)) (value_is ws value values u is there.0.1 ∙ same),
                left_shown v (kept_shown f rest s l is_for (left c.plan at.procedure at.holdings) (without 1 at.store) (numbers ws) u v asks.0 there.0.1),
              ))))
              (omega arith) (omega (arith, code.few)) (λ v there. there);
        })
      where
        left_shown : (u : State) → IsRepresented f.symbols rest s (left c.plan at.procedure at.holdings) (without 1 at.store) (numbers ws) u →
            (xs : List ℕ) × IsRepresented f.symbols rest s (left c.plan at.procedure at.holdings) (over (p.Ended (p.Done value)) (without 1 at.store)) (end ∷ xs) u
        left_shown u shown = (
          values,
          outside_shows f.symbols rest s (left c.plan at.procedure at.holdings) (without 1 at.store) (end ∷ values) u at.store.input at.store.taken at.store.output at.store.log
              (p.Ended (p.Done value))
              (subst (λ (xs : List ℕ). IsRepresented f.symbols rest s (left c.plan at.procedure at.holdings) (without 1 at.store) xs u)
              (is ∙ ap (λ (n : ℕ). n ∷ values) (same_end value (ap (λ (z : Located). z.store.status) (place_is e) ∙ ended))) shown),
        )
    last_shown value values ws are is back false some e = absurd (cc)

    by_first : (ws : List Word) → AreOut code.operands ws → back_in ≡ LastReturn → (xs : List ℕ) → numbers ws ≡ xs →
        to_return s c LastReturn exit alternates xs (without 1 at.store) (left c.plan at.procedure at.holdings) ≡ Ok after → EndsAs after
    by_first ws are back [] is e = absurd (cc)
    by_first ws are back (value ∷ values) is e = last_shown value values ws are is back (exit == 0) refl e

    by_content : (ws : List Word) → AreOut code.operands ws → (content : Content) → back_in ≡ content →
        to_return s c content exit alternates (numbers ws) (without 1 at.store) (left c.plan at.procedure at.holdings) ≡ Ok after → EndsAs after
    by_content ws are LastReturn back e = by_first ws are back (numbers ws) refl e
    by_content ws are (ReturnTo q site) back e = absurd (going_on (runs_on q site (numbers ws) e) ended)
      where
        going_on : {z : p.Status} → z ≡ p.Running → z ≡ p.Ended (p.Done end) → ⊥
        going_on running over = absurd (cc)
    by_content ws are Unknown back e = absurd (cc)
    by_content ws are (Number n) back e = absurd (cc)
    by_content ws are (LandingOf q k) back e = absurd (cc)

    pub end_shown : ran_at s c (Return exit alternates results) at ≡ Ok after → EndsAs after
    end_shown is = by (all_of (map (word_passed (reads_at s c at)) (passed (keeping s c at).held results))) refl is
      where
        by : (found : Tried (List Word)) → all_of (map (word_passed (reads_at s c at)) (passed (keeping s c at).held results)) ≡ found →
            and_then (and_then found (λ ws. Ok (order.Return exit alternates ws))) (λ o. done s c (Return exit alternates results) o at) ≡ Ok after → EndsAs after
        by (Ok ws) is_ws e =
            by_content ws (values_are s c l f rest is_for at t body.activation body.older body.youngest body.same laid stands.shown results code.operands ws code.are is_ws) back_in refl e
        by (Err error) is_ws e = absurd (cc)
