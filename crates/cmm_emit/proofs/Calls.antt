-- Pieces of code are what is required of calls and of their sites.
use Rattle.std.proofs.Common.{◌≡◌, inl, inr, [], ◌∷◌, All, ℕ, ◌+◌, ◌*◌, ◌≤◌, ◌<◌, ◌%◌, ◌^◌, sym, ◌∙◌, ap, subst, List, length, slice_get, Some, option_map, IsTrue, arith}
use Rattle.std.proofs.lemmas.List.{length-map}
use Rattle.std.proofs.lemmas.List.Elements.{All-cons, All-get_or, All-nil}
use Rattle.std.proofs.lemmas.Option.{slice_get-map}
use Rattle.std.specs.List.{list_all}
use Rattle.std.proofs.lemmas.Bool.Decides.{nat_tests}
use Rattle.cmm_chain.specs.declared.frame.Frame.{Frame}
use Rattle.cmm_program.proofs.Shared.{list_all_get}
use Rattle.cmm_graph.specs.declared.number.ContinuationId.{ContinuationId}
use Rattle.cmm_graph.specs.declared.number.NodeId.{NodeId}
use Rattle.cmm_graph.specs.declared.number.SiteId.{SiteId}
use Rattle.cmm_graph.specs.declared.operand.Argument.{Argument}
use Rattle.cmm_graph.specs.declared.operand.Operand.{Operand}
use Rattle.cmm_graph.specs.declared.node.Exits.{Exits}
use Rattle.cmm_graph.specs.declared.node.NodeKind.TheVariants.{Call, Yield}
use Rattle.rv_asm.specs.Assembly.{IsInner}
use Rattle.rv_asm.specs.Parts.{Code}
use Rattle.rv_asm.specs.declared.part.Label.{Label}
use Rattle.rv_asm.specs.declared.part.Meaning.{Meaning}
use Rattle.cmm_effects.specs.Pieces.{BeginsQuietly}
use Rattle.cmm_calls.specs.Calls.{Calls, CallsBy, HasExits}
use Rattle.cmm_program.specs.State.{Setting}
use Rattle.cmm_image_machine.specs.Machine.{Launch}
use Rattle.cmm_located.specs.Compiled.{Compiled}
use Rattle.cmm_emit_laws.specs.Finished.{Finished, code_of}
use Rattle.cmm_emit_laws.specs.NodeCode.{GoesOn, IsLabelOf, SiteCode}
use Rattle.cmm_emit.proofs.Bodies.{few_for, moved}
use Rattle.cmm_emit.proofs.Operands.{operand_is_of, operands_are_of, values_are_of}
use Rattle.cmm_emit.specs.declared.context.Context.{Context}
use Rattle.cmm_emit.specs.declared.context.Targets.{Targets}
use Rattle.cmm_emit.specs.Naming.{IsNamed, argument_operand, argument_operands, can_call, can_come_back, can_give, can_go_to, can_send, can_yield, code_operand, code_operands, has_argument, has_landing, has_site, label_at, landing_labels, site_label}
use Rattle.cmm_emit.specs.Costs.{cost_of}
use Rattle.cmm_emit.specs.Standing.{CodesCall, CodesWhole, CodesYield, GoesOnTo, IsContextOf, IsReady, IsSiteOf, LeadsBack}
use Rattle.cmm_emit_laws.specs.Represented.{stack_region}

module _ (labels : List Meaning) (p : Context) (y : Targets) (ready : IsReady labels p y) (x : Code) (from to : ℕ) (site : SiteId) (there : IsTrue (has_site p site)) where
  within : site.number < length p.sites
  within = grind (arith, nat_tests, there)

  pub calls_label : (callee : Operand) (arguments : List Argument) (to_label : Label) → IsNamed y callee to_label → IsTrue (list_all (has_argument p y) arguments) →
      IsTrue (can_give p y (argument_operands p y arguments)) → Calls p.frame (argument_operands p y arguments) to_label (site_label p site) x from to →
      CodesCall p y site callee arguments x from to
  calls_label callee arguments to_label named has gives calls = (
    calls.stands,
    λ s c l f q n most is-x of at enough. record {
      operands = argument_operands p y arguments;
      are = operands_are_of labels p y ready s c l f q of arguments has;
      few_values = grind (arith, nat_tests, gives);
      quiet = moved (λ z a. BeginsQuietly z a) is-x at (calls.turns (stack_region s)).quiet;
      back = site_label p site;
      is_back = (of.sites site.number within).stands;
      fits = omega (arith, (of.sites site.number within).fits);
      calls = inl ((
        to_label,
        subst (λ o. IsLabelOf s c l f q o to_label) (sym named.is) (ap (λ (k : Label). f.labels q k.number) named.is_label ∙ of.entries named.procedure named.there),
        (
          to,
          subst (λ (fr : Frame). Calls fr (argument_operands p y arguments) to_label (site_label p site) (code_of l f q) (f.node_at q n) to) (sym of.frame)
              (moved (λ z a. Calls p.frame (argument_operands p y arguments) to_label (site_label p site) z a to) is-x at calls),
        ),
      ));
      few = (let same : length (argument_operands p y arguments) ≡ length arguments = length-map arguments (argument_operand p y) in omega (arith, same, enough));
    },
  )

  pub calls_operand : (callee : Operand) (arguments : List Argument) → IsTrue (can_go_to p y callee arguments) →
      CallsBy p.frame (code_operand p y callee) (argument_operands p y arguments) (site_label p site) x from to → CodesCall p y site callee arguments x from to
  calls_operand callee arguments can calls = (
    calls.stands,
    λ s c l f q n most is-x of at enough. record {
      operands = argument_operands p y arguments;
      are = operands_are_of labels p y ready s c l f q of arguments (grind (arith, can));
      few_values = grind (arith, nat_tests, can);
      quiet = moved (λ z a. BeginsQuietly z a) is-x at (calls.turns (stack_region s)).quiet;
      back = site_label p site;
      is_back = (of.sites site.number within).stands;
      fits = omega (arith, (of.sites site.number within).fits);
      calls = inr ((
        code_operand p y callee,
        operand_is_of labels p y ready s c l f q of callee (grind (arith, can)),
        (
          to,
          few_for (code_operand p y callee),
          subst (λ (fr : Frame). CallsBy fr (code_operand p y callee) (argument_operands p y arguments) (site_label p site) (code_of l f q) (f.node_at q n) to) (sym of.frame)
              (moved (λ z a. CallsBy p.frame (code_operand p y callee) (argument_operands p y arguments) (site_label p site) z a to) is-x at calls),
        ),
      ));
      few = (let same : length (argument_operands p y arguments) ≡ length arguments = length-map arguments (argument_operand p y) in omega (arith, same, enough));
    },
  )

  pub yields_values : (values : List Operand) → IsTrue (can_send p y values) → Calls p.frame (code_operands p y values) y.client (site_label p site) x from to →
      CodesYield p y site values x from to
  yields_values values sends calls = (
    calls.stands,
    λ s c l f q n most is-x of at enough. record {
      operands = code_operands p y values;
      are = values_are_of labels p y ready s c l f q of values (grind (arith, sends));
      few_values = grind (arith, nat_tests, sends);
      quiet = moved (λ z a. BeginsQuietly z a) is-x at (calls.turns (stack_region s)).quiet;
      back = site_label p site;
      is_back = (of.sites site.number within).stands;
      stub = y.client;
      on = to;
      calls = subst (λ (fr : Frame). Calls fr (code_operands p y values) y.client (site_label p site) (code_of l f q) (f.node_at q n) to) (sym of.frame)
          (moved (λ z a. Calls p.frame (code_operands p y values) y.client (site_label p site) z a to) is-x at calls);
      client = of.client;
      few = (let same : length (code_operands p y values) ≡ length values = length-map values (code_operand p y) in omega (arith, same, enough));
    },
  )

-- the landings of continuations are places in the code
pub inner_landings : (labels : List Meaning) (p : Context) (y : Targets) → IsReady labels p y → (ks : List ContinuationId) → IsTrue (list_all (has_landing p) ks) →
    All (IsInner labels) (landing_labels p ks)
inner_landings labels p y ready [] all = All-nil (IsInner labels)
inner_landings labels p y ready (k ∷ ks) all =
    All-cons (IsInner labels) (label_at p.landings k.number) (landing_labels p ks)
    (All-get_or (IsInner labels) p.landings k.number (record { number = 0 }) (grind (arith, nat_tests, all)) ready.landings)
    (inner_landings labels p y ready ks (grind (arith, all)))

pub landings_count : (p : Context) (ks : List ContinuationId) → length (landing_labels p ks) ≡ length ks
landings_count p ks = length-map ks (λ (k : ContinuationId). label_at p.landings k.number)

-- an exit's label is that of the landing of its continuation
landing_is : (p : Context) (ks : List ContinuationId) (i : ℕ) (k : ContinuationId) (label : Label) → slice_get ks i ≡ Some k →
    slice_get (landing_labels p ks) i ≡ Some label → label ≡ label_at p.landings k.number
landing_is p ks i k label is got =
    let mapped = slice_get-map (λ (z : ContinuationId). label_at p.landings z.number) ks i in
    let there : slice_get (landing_labels p ks) i ≡ Some (label_at p.landings k.number) =
    mapped ∙ ap (option_map (λ (z : ContinuationId). label_at p.landings z.number)) is in
    cc

module _ (p : Context) (y : Targets) (x : Code) (mid to : ℕ) (site : SiteId) (there : IsTrue (has_site p site)) where
  site_codes : (exits : Exits) → IsTrue (can_come_back p exits) → x.at (site_label p site).number ≡ mid → LeadsBack p exits x mid to →
      (s : Setting) (c : Compiled) (l : Launch) (f : Finished) (q : ℕ) → x ≡ code_of l f q → IsContextOf s c l f q p y → GoesOnTo s c l f q exits.normal to →
      SiteCode s c l f q site.number exits
  site_codes exits can placed back s c l f q is-x of goes = record {
    labels = landing_labels p exits.returns;
    on = back.0;
    table = subst (λ a. HasExits (landing_labels p exits.returns) (code_of l f q) a back.0) stands
        (subst (λ (z : Code). HasExits (landing_labels p exits.returns) z mid back.0) is-x back.1);
    count = count;
    alternates = λ i k n label is lands got.
        let less : k.number < length p.landings = grind (arith, nat_tests, list_all_get (has_landing p) exits.returns i k (grind (arith, can)) is) in
        ap (λ (z : Label). f.labels q z.number) (landing_is p exits.returns i k label is got) ∙ of.landed k.number n less lands;
    normal = λ n is. subst (λ a. GoesOn s c l f q n a) (sym (back.2 n is)) (goes_at n is);
    aligned = subst (λ a. a % 4 ≡ 0) its.stands its.aligned;
    fits = subst (λ a. a + 4 * length (landing_labels p exits.returns) < 2 ^ 64) its.stands (omega (arith, its.fits, few, count));
  }
    where
      its : IsSiteOf s c l f q site.number (site_label p site)
      its = of.sites site.number (grind (arith, nat_tests, there))

      stands : mid ≡ f.symbols.return_to q site.number
      stands = sym placed ∙ ap (λ (z : Code). z.at (site_label p site).number) is-x ∙ its.stands

      count : length (landing_labels p exits.returns) ≡ length exits.returns
      count = landings_count p exits.returns

      few : length exits.returns ≤ 64
      few = grind (arith, nat_tests, can)

      goes_at : (n : NodeId) → exits.normal ≡ Some n → GoesOn s c l f q n to
      goes_at n is = subst (λ o. GoesOnTo s c l f q o to) is goes

-- a call, and what leads on from its site
pub call_codes : (p : Context) (y : Targets) (x : Code) (from mid to : ℕ) (site : SiteId) (callee : Operand) (arguments : List Argument) (exits : Exits) →
    IsTrue (can_call p y site callee arguments exits) → CodesCall p y site callee arguments x from mid → LeadsBack p exits x mid to →
    CodesWhole p y (Call site callee arguments exits) x from to
call_codes p y x from mid to site callee arguments exits can call back = (
  λ s c l f q n is-x of at goes. call.1 s c l f q n (cost_of p y (Call site callee arguments exits)) is-x of at (omega arith),
  site_codes p y x mid to site (grind (arith, can)) exits (grind (arith, can)) call.0 back,
)

-- a yield, and what leads on from its site
pub yield_codes : (p : Context) (y : Targets) (x : Code) (from mid to : ℕ) (site : SiteId) (values : List Operand) (exits : Exits) →
    IsTrue (can_yield p y site values exits) → CodesYield p y site values x from mid → LeadsBack p exits x mid to → CodesWhole p y (Yield site values exits) x from to
yield_codes p y x from mid to site values exits can yields back = (
  λ s c l f q n is-x of at goes. yields.1 s c l f q n (cost_of p y (Yield site values exits)) is-x of at (omega arith),
  site_codes p y x mid to site (grind (arith, can)) exits (grind (arith, can)) yields.0 back,
)
