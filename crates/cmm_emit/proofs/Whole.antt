-- So the image runs the program, and the text is in range.
use Rattle.std.proofs.Common.{◌≡◌, ◌⊎◌, inl, inr, ℕ, zero, suc, ◌+◌, ◌*◌, ◌-◌, ◌%◌, ◌<◌, ◌≤◌, ◌^◌, refl, sym, ◌∙◌, ap, subst, arith, Bool, true, false, List, [], ◌∷◌, length, get_or, Option, Some, None, slice_get}
use Rattle.std.specs.Prelude.{◌==◌, Contains, find, is_some, nat_lt, slice_index}
use Rattle.std.specs.List.{All, list_all}
use Rattle.std.proofs.lemmas.Bool.{eqb-true}
use Rattle.std.proofs.lemmas.Bool.Decides.{nat_tests}
use Rattle.std.proofs.lemmas.List.{get_or_default, get_or_past}
use Rattle.std.proofs.lemmas.Option.{same_Some, slice_get_within}
use Rattle.rv_table.specs.Memory.{code_base}
use Rattle.rv_asm.proofs.Shared.{Stand-append, codes_do}
use Rattle.rv_asm.specs.Assembly.{Fits, meaning}
use Rattle.rv_asm.specs.Finishing.{GoesToCode, IsAligned, address_of}
use Rattle.rv_asm.specs.Parts.{Stand}
use Rattle.rv_asm.specs.declared.part.Label.{Label}
use Rattle.rv_asm.specs.declared.part.Part.{Part}
use Rattle.rv_asm.specs.declared.part.Meaning.TheVariants.{Inner}
use Rattle.rv_asm.specs.declared.part.Part.TheVariants.{Single, Place, Branch, Jump as Jumping, Call as Calling, Address, Table}
use Rattle.rv_table.specs.declared.request.Request.TheVariants.{End}
use Rattle.cmm_chain.specs.Plans.{is_register}
use Rattle.cmm_chain.specs.declared.frame.Frame.{Frame}
use Rattle.cmm_chain.specs.declared.frame.Location.{Location}
use Rattle.cmm_program.proofs.Shared.{all_get, list_all_get}
use Rattle.cmm_program.specs.declared.procedure.Proc.{Proc}
use Rattle.cmm_program.specs.declared.program.Program.{Program}
use Rattle.cmm_program.specs.Errors.{with_some}
use Rattle.cmm_program.specs.InRange.{IsProcInRange}
use Rattle.cmm_program.specs.Performing.{procedure_from}
use Rattle.cmm_program.specs.State.{Setting}
use Rattle.cmm_program.specs.Memory.{IsByte}
use Rattle.cmm_graph.specs.declared.graph.Graph.{Graph}
use Rattle.cmm_graph.specs.declared.node.Exits.{Exits}
use Rattle.cmm_graph.specs.declared.node.Node.{Node}
use Rattle.cmm_graph.specs.declared.node.NodeKind.{NodeKind}
use Rattle.cmm_graph.specs.declared.node.NodeKind.TheVariants.{Entry, CopyIn, Assign, Store, Branch, Switch, Call, Yield, Jump, Cut, Return, Host, Goto, Stop}
use Rattle.cmm_graph.specs.declared.number.NodeId.{NodeId}
use Rattle.cmm_graph.specs.declared.number.SiteId.{SiteId}
use Rattle.cmm_graph.specs.Counterpart.{HasSite}
use Rattle.cmm_graph.specs.GraphControl.{in_graph}
use Rattle.cmm_graph.specs.Paths.{landing_of, node_of}
use Rattle.cmm_graph.specs.Ranges.{IsValid}
use Rattle.cmm_effects.proofs.Shared.{goes_weaker}
use Rattle.cmm_image_machine.specs.Machine.{Launch, map_of, region_of}
use Rattle.cmm_located.specs.Compiled.{Compiled, exits_of, landing_in, site_exits, waits_at}
use Rattle.cmm_effects.specs.Requests.{AsksFor}
use Rattle.cmm_emit_laws.specs.Finished.{Finished, code_of}
use Rattle.cmm_emit_laws.specs.Laying.{IsLaidOut, ProceduresAreLaid}
use Rattle.cmm_effects.specs.Changes.{PutsRegister}
use Rattle.cmm_effects.specs.Pieces.{Always}
use Rattle.cmm_effects.specs.Ways.{Goes}
use Rattle.cmm_emit_laws.specs.NodeCode.{SiteCode}
use Rattle.cmm_emit_laws.specs.Placing.{FinishedCodeStands}
use Rattle.cmm_emit_laws.specs.ProgramCode.{IsCodeAround, names_registers}
use Rattle.cmm_emit_laws.specs.Starting.{StartCode}
use Rattle.cmm_unit_code.specs.declared.text.Text.{Text}
use Rattle.cmm_allocate.specs.declared.procedure.ProcedurePlaces.{ProcedurePlaces}
use Rattle.cmm_allocate.specs.Compiling.{compiled, no_frame, no_place}
use Rattle.cmm_allocate.specs.Laws.{RowsHaveFrames}
use Rattle.cmm_allocate.specs.Places.{HasPlaces}
use Rattle.cmm_allocate.specs.Placing.{placement_rows}
use Rattle.cmm_emit.specs.Costs.{cost_of}
use Rattle.cmm_emit.specs.Naming.{label_at}
use Rattle.cmm_emit.specs.Standing.{HasCode, IsNodeCode, IsSiteCodeOf}
use Rattle.cmm_located.specs.Layouts.{IsFrameOf}
use Rattle.cmm_program.specs.Layout.{data_bytes}
use Rattle.cmm_emit_laws.specs.Represented.{IsFor, stack_region}
use Rattle.cmm_emit.proofs.Addresses.{place_fine}
use Rattle.cmm_emit.proofs.Belonging.{there_at}
use Rattle.cmm_emit.proofs.Coding.{IsHere, aligned, begins_at, context_is, does, finished, here, lands, lands_inside, no_row, node_fits, node_is, row_found, row_of_procedure, stand_at, stands_for_reference}
use Rattle.cmm_emit.proofs.Standing.{IsJoint, unit_of, value_in}
use Rattle.cmm_emit.proofs.Weakening.{code_alone, code_within}
use Rattle.cmm_emit.proofs.YieldSites.{exits_at, finds, found_at, waits_there, yields_as_many}
use Rattle.cmm_flow.specs.Few.{YieldThere, yields_there}
use Rattle.cmm_flow.specs.Waiting.{IsWaitedAt}
use Rattle.cmm_yield_laws.specs.WholeCode.{IsYieldingCode}
use Rattle.cmm_yield_laws.specs.Yielding.{HaveSiteExits, HaveYields}
use Rattle.cmm_emit.specs.Premises.{AreCovered}
use Rattle.cmm_unit_code.specs.declared.unit_code.Reference.{Reference}
use Rattle.cmm_unit_code.specs.declared.unit_code.Reference.TheVariants.{Procedure}
use Rattle.cmm_emit.proofs.Meanings.{AreMeant, targets_aligned}
use Rattle.cmm_emit.proofs.Outlined.{IsIn}
use Rattle.cmm_emit.proofs.Ranged.{start_meant}
use Rattle.cmm_emit.specs.Starts.{last_label, start_labels}

-- ---- what is known of the graphs

pub record AreGraphs (p : Program) (graphs : List Graph) (found : List ProcedurePlaces) : Type 0 where
  pub valid : (q : ℕ) (g : Graph) → slice_get graphs q ≡ Some g → IsValid g
  pub named : (q : ℕ) (g : Graph) → slice_get graphs q ≡ Some g → list_all (λ node. names_registers p node.kind) g.nodes ≡ true
  pub yields : (q : ℕ) (procedure : Proc) (g : Graph) → slice_get p.procs q ≡ Some procedure → slice_get graphs q ≡ Some g → YieldThere procedure g
  pub sites : (q : ℕ) (procedure : Proc) (g : Graph) → slice_get p.procs q ≡ Some procedure → slice_get graphs q ≡ Some g → All (λ node. HasSite procedure g node.kind) g.nodes
  pub waited : (q : ℕ) (procedure : Proc) (g : Graph) (site : ℕ) → slice_get p.procs q ≡ Some procedure → slice_get graphs q ≡ Some g → site < length procedure.sites → IsWaitedAt g site
  pub covered : AreCovered graphs found
  pub places : (q : ℕ) (procedure : Proc) (g : Graph) (k : ProcedurePlaces) → slice_get p.procs q ≡ Some procedure → slice_get graphs q ≡ Some g →
      slice_get found q ≡ Some k → HasPlaces procedure g k

-- ---- the code with which a run begins

module _ (s : Setting) (graphs : List Graph) (found : List ProcedurePlaces) (addresses : List ℕ) (t : Text)
    (known : IsJoint s.program graphs found addresses t) (graphs_are : AreGraphs s.program graphs found)
    (l : Launch) (rows : s.placement.rows ≡ placement_rows found t.procedures) (code_is : l.image.code ≡ t.code) (stands : FinishedCodeStands)
    (laid_by : ProceduresAreLaid) (frames_by : RowsHaveFrames) where
  abbrev c : Compiled
  c = compiled graphs found

  abbrev f : Finished
  f = finished s.program graphs found addresses t known

  abbrev at_home : (q : ℕ) (g : Graph) → slice_get graphs q ≡ Some g → IsHere s.program graphs found addresses t known q g
  at_home q g is = here s.program graphs found addresses t known q g is

  -- what its symbols stand for: the one is `main`
  abbrev value : ℕ → ℕ
  value = value_in addresses t known.start.code

  -- what the labels of the code stand for with which a run begins
  abbrev start_at : ℕ → ℕ
  start_at = address_of start_labels known.is_start.places code_base value

  -- the same code, as these labels stand in it
  abbrev starting : Finished
  starting = record { labels = λ q. start_at; node_at = f.node_at; symbols = f.symbols }

  in_it : {A : Type 0} (q : ℕ) (g : Graph) (look : Graph → Option A) (y : A) → slice_get graphs q ≡ Some g → in_graph graphs q look ≡ Some y → look g ≡ Some y
  in_it q g look y there is = sym (ap (λ (z : Option Graph). with_some z look) there) ∙ is

  found_graph : {A : Type 0} (q : ℕ) (look : Graph → Option A) (y : A) → in_graph graphs q look ≡ Some y → (g : Graph) × (slice_get graphs q ≡ Some g)
  found_graph q look y is = by (slice_get graphs q) refl is
    where
      by : (z : Option Graph) → slice_get graphs q ≡ z → with_some z look ≡ Some y → (g : Graph) × (slice_get graphs q ≡ Some g)
      by (Some g) there e = (g, there)
      by None there e = absurd (cc)

  -- ---- frames

  laid_out : (q : ℕ) (g : Graph) → slice_get graphs q ≡ Some g → IsLaidOut s c q
  laid_out q g is =
      let this = at_home q g is in
      let k = this.one.places in
      let has = graphs_are.places q this.one.procedure g k this.is_procedure is this.is_found in
      let frame_is : c.plan.frame q ≡ k.frame = ap (λ (z : Option ProcedurePlaces). elim z as (λ _. Frame) [ Some y ↦ y.frame | None ↦ no_frame ]) this.is_found in
      let place_is : (v : ℕ) → c.plan.place q v ≡ get_or k.locals v no_place =
      λ v. ap (λ (z : Option ProcedurePlaces). elim z as (λ _. Location) [ Some y ↦ get_or y.locals v no_place | None ↦ no_place ]) this.is_found in
      let is_procedure : c.plan.is_procedure q ≡ true = ap (λ (z : Option ProcedurePlaces). is_some z) this.is_found in
      let frames = frames_by s graphs found t.procedures (known.procedure_count ∙ sym known.found_count) rows in
      record {
        procedure = this.one.procedure;
        is_procedure = this.is_procedure;
        fits = (all_get (IsProcInRange s.program) s.program.procs q this.one.procedure known.range.procedures this.is_procedure).frames;
        places = k.locals;
        frame = subst (λ (z : Frame). IsFrameOf this.one.procedure k.locals z) (sym frame_is) has.frame;
        size = frames.size q is_procedure;
        stack = frames.stack q is_procedure;
        locals = λ v. listed k.locals v (place_is v) (nat_lt v (length k.locals)) refl;
      }
    where
      listed : (ls : List Location) (v : ℕ) → c.plan.place q v ≡ get_or ls v no_place → (b : Bool) → nat_lt v (length ls) ≡ b →
          Contains ls (c.plan.place q v) ⊎ (is_register (c.plan.place q v) ≡ true)
      listed ls v at true less =
          let inside : v < length ls = grind (arith, nat_tests, less) in
          inl (v, inside, get_or_default ls v (c.plan.place q v) no_place inside ∙ sym at)
      listed ls v at false past =
          let out : length ls ≤ v = grind (arith, nat_tests, past) in
          inr (ap is_register (at ∙ get_or_past ls v no_place out))

  -- ---- nodes and sites

  -- it names what the program has
  main_inside : (k : ℕ) (r : Reference) → slice_get known.start.code.references k ≡ Some r → IsIn s.program r
  main_inside k r there = by k (ap (λ (rs : List Reference). slice_get rs k) (sym known.is_start.references) ∙ there)
    where
      by : (k : ℕ) → slice_get (Procedure s.program.main ∷ []) k ≡ Some r → IsIn s.program r
      by zero is = let same : Procedure s.program.main ≡ r = cc in subst (IsIn s.program) same known.range.main
      by (suc n) is = absurd (cc)

  -- where `main` comes back, the end of the run is requested
  start_stands : (q : ℕ) (g : Finished) → g.labels q ≡ start_at → Stand (code_of l g q) known.is_start.parts code_base (code_base + length known.start.code.code)
  start_stands q g is_labels =
      stand_at s graphs found addresses t known l rows code_is stands q start_labels known.is_start.parts known.is_start.places code_base known.start.code known.is_start.done known.begins
      (targets_aligned known.start.code.references start_labels (subst (λ (rs : List Reference). AreMeant rs start_labels) (sym known.is_start.references) (start_meant s.program)) value
      (aligned s.program graphs found addresses t known known.start.code) known.is_start.parts known.is_start.done.fit) main_inside g is_labels

  ends : (q : ℕ) → AsksFor 1 (λ u. End (u.registers 10)) (code_of l f q) t.last
  ends q =
      let asked = codes_do last_label known.is_start.ends (code_of l starting q) code_base (code_base + length known.start.code.code) (start_stands q starting refl) in
      let same : start_at 1 ≡ t.last = sym (known.last ∙ ap (λ (a : ℕ). a + code_base) known.is_start.last) in
      record { go = λ u sound pc. asked.1.go u sound (pc ∙ sym same) }

  whole_code : (q n : ℕ) (g : Graph) (node : Node) (there : slice_get graphs q ≡ Some g) → slice_get g.nodes n ≡ Some node →
      HasCode s c l f q (record { number = n }) node.kind (cost_of (at_home q g there).one.context (unit_of known.laid q).outline.targets node.kind)
  whole_code q n g node there is =
      let this = at_home q g there in
      let less = slice_get_within g.nodes n node is in
      let inside = this.inside in
      let contexts = this.is.outline.contexts.count in
      let codes = this.is.whole.codes.nodes this.number this.one.context g n (omega (arith, inside, contexts)) this.one.is_context this.one.is_graph less in
      let stood = does s graphs found addresses t known l rows code_is stands q g this (label_at this.one.context.nodes n) codes in
      stood.1 node is s c l f q refl (context_is s graphs found addresses t known l rows code_is stands q g this (ends q)) (node_is s.program graphs found addresses t known q g this n)

  node_code : (q : ℕ) (n : NodeId) (node : Node) → in_graph graphs q (λ g. node_of g n) ≡ Some node → IsNodeCode s c l f q n node.kind (32 * node.tokens)
  node_code q n node is =
      let there = found_graph q (λ g. node_of g n) node is in
      let at = in_it q there.0 (λ g. node_of g n) node there.1 is in
      let this = at_home q there.0 there.1 in
      let y = (unit_of known.laid q).outline.targets in
      let made = this.one.made in
      let few = graphs_are.covered q there.0 this.one.places n.number node there.1 this.is_found at this.one.context y made.frame made.places made.zeroed in
      code_within s c l f q n (cost_of this.one.context y node.kind) (32 * node.tokens) few node.kind (whole_code q n.number there.0 node there.1 at).node

  at_site : (q site : ℕ) (at : SiteId) (exits others : Exits) → (at.number == site) ≡ true → Some others ≡ Some exits → SiteCode s c l f q at.number others → SiteCode s c l f q site exits
  at_site q site at exits others waits has code =
      subst (λ (z : Exits). SiteCode s c l f q site z) (same_Some others exits has) (subst (λ (z : ℕ). SiteCode s c l f q z others) (eqb-true at.number site waits) code)

  -- the code of a site is that behind the node that waits there
  at_kind : (q site : ℕ) (exits : Exits) (kind : NodeKind) → waits_at site kind ≡ true → exits_of kind ≡ Some exits → IsSiteCodeOf s c l f q kind → SiteCode s c l f q site exits
  at_kind q site exits (Call at callee arguments others) waits has code = at_site q site at exits others waits has code
  at_kind q site exits (Yield at values others) waits has code = at_site q site at exits others waits has code
  at_kind q site exits (Entry formals next) waits has code = absurd (cc)
  at_kind q site exits (CopyIn to next) waits has code = absurd (cc)
  at_kind q site exits (Assign to value next) waits has code = absurd (cc)
  at_kind q site exits (Store width aligned address value next) waits has code = absurd (cc)
  at_kind q site exits (Branch test then_ otherwise) waits has code = absurd (cc)
  at_kind q site exits (Switch value arms otherwise) waits has code = absurd (cc)
  at_kind q site exits (Jump callee arguments) waits has code = absurd (cc)
  at_kind q site exits (Cut to arguments own) waits has code = absurd (cc)
  at_kind q site exits (Return exit alternates results) waits has code = absurd (cc)
  at_kind q site exits (Host call next) waits has code = absurd (cc)
  at_kind q site exits (Goto next) waits has code = absurd (cc)
  at_kind q site exits Stop waits has code = absurd (cc)

  at_node : (q site : ℕ) (exits : Exits) (g : Graph) (there : slice_get graphs q ≡ Some g) (k : ℕ) (node : Node) → slice_get g.nodes k ≡ Some node →
      waits_at site node.kind ≡ true → exits_of node.kind ≡ Some exits → SiteCode s c l f q site exits
  at_node q site exits g there k node at waits has =
      at_kind q site exits node.kind waits has (whole_code q k g node there at).site

  site_code : (q site : ℕ) (exits : Exits) → site_exits graphs q site ≡ Some exits → SiteCode s c l f q site exits
  site_code q site exits is =
      let look = λ (g : Graph). with_some (find (λ node. waits_at site node.kind) g.nodes) (λ node. exits_of node.kind) in
      let there = found_graph q look exits is in
      by there.0 there.1 (find (λ node. waits_at site node.kind) (there.0).nodes) refl (in_it q there.0 look exits there.1 is)
    where
      by : (g : Graph) → slice_get graphs q ≡ Some g → (z : Option Node) → find (λ node. waits_at site node.kind) g.nodes ≡ z → with_some z (λ node. exits_of node.kind) ≡ Some exits →
          SiteCode s c l f q site exits
      by g there (Some node) e has =
          let at = found_at (λ (node : Node). waits_at site node.kind) g.nodes node e in
          at_node q site exits g there at.0 node at.1 at.2 has
      by g there None e has = absurd (cc)

  -- ---- what sites yield, and their exits

  values_are : HaveYields s c
  values_are q n at values exits procedure site is is_procedure is_site = by (in_graph graphs q (λ g. node_of g n)) refl is
    where
      by : (o : Option Node) → in_graph graphs q (λ g. node_of g n) ≡ o → elim o as (λ _. NodeKind) [ Some node ↦ node.kind | None ↦ Stop ] ≡ Yield at values exits →
          site.yield_values ≡ Some (length values)
      by (Some node) there kind =
          let g = found_graph q (λ g. node_of g n) node there in
          let here = in_it q g.0 (λ g. node_of g n) node g.1 there in
          let yields = list_all_get (λ node. yields_there procedure node.kind) (g.0).nodes n.number node (graphs_are.yields q procedure g.0 is_procedure g.1) here in
          yields_as_many procedure at values exits site is_site (subst (λ (z : NodeKind). yields_there procedure z ≡ true) kind yields)
      by None there kind = absurd (cc (kind))

  exits_are : HaveSiteExits s c
  exits_are q number procedure site is_procedure is_site =
      let within = slice_get_within s.program.procs q procedure is_procedure in
      let g = there_at graphs q (let count = known.graph_count in omega (arith, within, count)) in
      let at = graphs_are.waited q procedure g.0 number is_procedure g.1 (slice_get_within procedure.sites number site is_site) in
      let test = λ (node : Node). waits_at number node.kind in
      let first = finds test (g.0).nodes (at.at).number at.node at.is_there (waits_there number (at.node).kind at.waits) in
      let found_ = found_at test (g.0).nodes first.0 first.1 in
      let has = all_get (λ (node : Node). HasSite procedure g.0 node.kind) (g.0).nodes found_.0 first.0 (graphs_are.sites q procedure g.0 is_procedure g.1) found_.1 in
      let its = exits_at procedure g.0 number site is_site (first.0).kind found_.2 has in (
        its.exits,
        ap (λ (o : Option Graph). with_some o (λ (g : Graph). with_some (find test g.nodes) (λ node. exits_of node.kind))) g.1
            ∙ (ap (λ (o : Option Node). with_some o (λ node. exits_of node.kind)) first.1 ∙ its.is_exits),
        its.returns,
      )

  -- ---- where procedures begin

  entry_at : (address q : ℕ) (n : NodeId) → procedure_from 0 address s.placement.rows ≡ Some q → in_graph graphs q (λ g. Some g.first) ≡ Some n →
      (f.node_at q n ≡ address) × (address % 4 ≡ 0)
  entry_at address q n from is =
      let there = found_graph q (λ g. Some g.first) n is in
      let g = there.0 in
      let this = at_home q g there.1 in
      let first : g.first ≡ n = let e = in_it q g (λ g. Some g.first) n there.1 is in cc in
      let row = row_found s.placement.rows 0 address q from in
      let none : q - 0 ≡ q = omega arith in
      let row_is = subst (λ (z : ℕ). (get_or s.placement.rows z no_row).code ≡ address) none row.1 in
      let code : get_or t.procedures q 0 ≡ address = sym (row_of_procedure s graphs found addresses t known l rows code_is stands q g this q) ∙ row_is in
      let begins : f.node_at q n ≡ address =
      ap (λ (m : NodeId). f.node_at q m) (sym first)
      ∙ (node_is s.program graphs found addresses t known q g this g.first.number ∙ (sym (begins_at s.program graphs found addresses t known q g this) ∙ code)) in
      (begins, subst (λ (a : ℕ). a % 4 ≡ 0) code (known.procedures_aligned q))

  landing_at : (q k : ℕ) (n : NodeId) → landing_in graphs q k ≡ Some n → (f.node_at q n ≡ f.symbols.landing_of q k) × (f.symbols.landing_of q k % 4 ≡ 0)
  landing_at q k n is =
      let there = found_graph q (λ g. landing_of g record { number = k }) n is in
      let g = there.0 in
      let this = at_home q g there.1 in
      let at = in_it q g (λ g. landing_of g record { number = k }) n there.1 is in
      let same = lands s.program graphs found addresses t known q g this k n at in
      let inside = lands_inside s.program graphs found addresses t known q g this k n at in
      let fine = node_fits s.program graphs found addresses t known q g this n.number inside in
      (same, subst (λ (a : ℕ). a % 4 ≡ 0) (sym (node_is s.program graphs found addresses t known q g this n.number) ∙ same) fine.0)

  -- ---- the whole

  first_node : (first : Node) × (in_graph graphs 0 (λ g. node_of g (record { number = 0 })) ≡ Some first)
  first_node =
      let some : 0 < length graphs = let main = known.range.main in let count = known.graph_count in omega (arith, main, count) in
      let g = there_at graphs 0 some in
      let this = at_home 0 g.0 g.1 in
      let node = there_at (g.0).nodes 0 (let inside = this.one.can.first in omega (arith, inside)) in
      (node.0, ap (λ (z : Option Graph). with_some z (λ g. node_of g (record { number = 0 }))) g.1 ∙ node.1)

  last_fine : (f.symbols.last_return % 4 ≡ 0) × (f.symbols.last_return ≤ 2 ^ 30)
  last_fine =
      let start = known.is_start in
      let place = place_fine start_labels start.parts (length known.start.code.code) start.places start.done.have 1 in
      let four = place.0 in
      let most = place.1 in
      let same : t.last ≡ slice_index start.places 1 + code_base = known.last ∙ ap (λ (a : ℕ). a + code_base) start.last in
      let within = known.begins.within in
      let room = known.room in
      (subst (λ (a : ℕ). a % 4 ≡ 0) (sym same) (omega (arith, four)), omega (arith, same, most, within, room))

  code_around : IsFor s (map_of l) → IsCodeAround s c l f
  code_around is_for = record {
    is_for = is_for;
    valid = graphs_are.valid;
    named = graphs_are.named;
    laid = λ q g is. laid_by s c q (laid_out q g is);
    sites = site_code;
    entries = entry_at;
    landings = landing_at;
    first = first_node.0;
    is_first = first_node.1;
    back_aligned = last_fine.0;
    back_fits = let few = last_fine.1 in omega (arith, few);
  }

  pub is_code : IsFor s (map_of l) → IsYieldingCode s c l f
  is_code is_for = record {
    around = code_around is_for;
    nodes = λ q n node there coded. code_alone s c l f q n (32 * node.tokens) node.kind coded (node_code q n node there);
    yields = λ q n node site values exits there is. subst (λ (kind : NodeKind). IsNodeCode s c l f q n kind (32 * node.tokens)) is (node_code q n node there);
    values = values_are;
    exits = exits_are;
  }

  pub starts : stack_region s ≡ region_of l → l.image.start ≡ t.start → l.image.initial ≡ data_bytes s.program s.placement → All IsByte l.image.initial → (begins : StartCode s c l f) × (begins.most ≤ 2)
  starts region start is_data bytes =
      let main = s.program.main in
      let inside : main < length graphs = let less = known.range.main in let count = known.graph_count in omega (arith, less, count) in
      let g = there_at graphs main inside in
      let this = at_home main g.0 g.1 in
      let begins = known.is_start.begins in
      let stood = Stand-append (code_of l starting main) begins.piece begins.rest code_base (code_base + length known.start.code.code)
      (subst (λ (ps : List Part). Stand (code_of l starting main) ps code_base (code_base + length known.start.code.code)) begins.is (start_stands main starting refl)) in
      let calls = begins.calls (code_of l starting main) code_base stood.0 stood.1 in
      let from : code_base ≡ l.image.start = sym (start ∙ known.from) in
      let first : start_at 0 ≡ f.node_at main (g.0).first =
      stands_for_reference s.program graphs found addresses t known known.start.code 0 (Procedure main) (ap (λ (rs : List Reference). slice_get rs 0) known.is_start.references)
      ∙ (begins_at s.program graphs found addresses t known main g.0 this ∙ sym (node_is s.program graphs found addresses t known main g.0 this (g.0).first.number)) in
      let back : start_at 1 ≡ t.last = sym (known.last ∙ ap (λ (a : ℕ). a + code_base) known.is_start.last) in
      let goes = goes_weaker calls (omega arith) (omega arith) (λ u. f.node_at main (g.0).first) (λ u sound. first)
      (λ u w is. subst (λ (a : ℕ). PutsRegister 1 a u w) back is) in
      let starts_ : StartCode s c l f = record {
        region = region;
        first = (g.0).first;
        is_first = ap (λ (z : Option Graph). with_some z (λ g. Some g.first)) g.1;
        most = 2;
        calls = subst (λ (a : ℕ). Goes 0 2 Always (λ u. f.node_at main (g.0).first) (PutsRegister 1 f.symbols.last_return) (code_of l f main) a) from
            (record { go = λ u sound pc when. goes.go u sound pc when });
        is_data = is_data;
        bytes = bytes;
        few_registers = known.range.registers;
      } in
      (starts_, omega arith)
