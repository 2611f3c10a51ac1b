-- A worked row: what is required of code holds of a program with a call.
--     main() { f(); return (7); }    f() { return (); }
use Rattle.cmm_select.specs.Switches.{EndsLow}
use Rattle.std.proofs.Common.{◌≡◌, inl, inr, ℕ, zero, suc, ◌*◌, ◌%◌, ◌<◌, ◌^◌, refl, sym, ◌∙◌, ap, subst, arith, Bool, true, false, List, [], ◌∷◌, length, Option, Some, None, slice_get}
use Rattle.std.specs.Prelude.{◌==◌}
use Rattle.std.proofs.Math.Bool.{cond}
use Rattle.std.specs.List.{list_all}
use Rattle.std.proofs.lemmas.Bool.Decides.{nat_tests}
use Rattle.cmm_chain.specs.declared.frame.Frame.{Frame}
use Rattle.cmm_chain.specs.declared.frame.Location.TheVariants.{Temp}
use Rattle.cmm_program.proofs.Shared as sample
use Rattle.cmm_program.proofs.Shared.{call_site, frame, no_client, procedure, program, setting}
use Rattle.cmm_program.specs.declared.procedure.Proc.{Proc}
use Rattle.cmm_program.specs.Errors.{with_some}
use Rattle.cmm_program.specs.Performing.{procedure_from}
use Rattle.cmm_program.specs.State.{Setting}
use Rattle.cmm_graph.proofs.Shared.{arg, code, exits, graph, n, num, s}
use Rattle.cmm_graph.specs.declared.number.ContinuationId.{ContinuationId}
use Rattle.cmm_graph.specs.declared.number.NodeId.{NodeId}
use Rattle.cmm_graph.specs.declared.node.Exits.{Exits}
use Rattle.cmm_graph.specs.declared.node.Node.{Node}
use Rattle.cmm_graph.specs.declared.node.NodeKind.TheVariants.{Call, CopyIn, Entry, Return}
use Rattle.cmm_graph.specs.declared.graph.Graph.{Graph}
use Rattle.cmm_graph.specs.GraphControl.{in_graph}
use Rattle.cmm_graph.specs.Paths.{node_of}
use Rattle.cmm_graph.specs.Ranges.{IsValid}
use Rattle.rv_asm.proofs.Shared.{reaches_weaker}
use Rattle.rv_asm.specs.declared.part.Label.{Label}
use Rattle.cmm_effects.proofs.Shared.{goes_none, keeps_same}
use Rattle.cmm_select.specs.declared.operand.Operand.TheVariants.{Held}
use Rattle.cmm_select.specs.declared.source.Source.TheVariants.{Number}
use Rattle.cmm_calls.specs.Calls.{HasExits}
use Rattle.cmm_image_machine.specs.Machine.{Launch, map_of}
use Rattle.cmm_located.specs.Compiled.{Compiled, exits_of, landing_in, site_exits}
use Rattle.cmm_emit_laws.proofs.LaidFrames.{procedures_are_laid}
use Rattle.cmm_emit_laws.specs.Examples.{CallsOnce}
use Rattle.cmm_emit_laws.specs.Finished.{Finished}
use Rattle.cmm_emit_laws.specs.Laying.{IsLaidOut}
use Rattle.cmm_emit_laws.specs.NodeCode.{GoesOn, IsCodeOf, SiteCode}
use Rattle.cmm_emit_laws.specs.ProgramCode.{IsCode, IsLaidFor, is_coded, names_registers}
use Rattle.cmm_emit_laws.specs.Starting.{StartCode}
use Rattle.cmm_emit_laws.specs.Represented.{stack_region}
use Rattle.rv_table.specs.Machine.{region_base}

abbrev main-proc : Proc
main-proc = procedure [] 99 0 0 (call_site [] ∷ []) []

abbrev callee-proc : Proc
callee-proc = procedure [] 99 0 0 [] []

abbrev call-setting : Setting
call-setting = setting (sample.sample (program (main-proc ∷ callee-proc ∷ [])) (frame 16 ∷ frame 16 ∷ [])) 4096 no_client

abbrev call-exits : Exits
call-exits = exits (n 2) [] [] []

abbrev main-graph : Graph
main-graph = graph 0 0 (Entry [] (n 1) ∷ Call (s 0) (code 1) [] call-exits ∷ CopyIn [] (n 3) ∷ Return 0 0 (arg (num 7) ∷ []) ∷ []) []

abbrev callee-graph : Graph
callee-graph = graph 0 0 (Entry [] (n 1) ∷ Return 0 0 [] ∷ []) []

abbrev call-frame : Frame
call-frame = record { size = 16; return_at = 8; saved = []; pairs = []; stack = [] }

abbrev calls-once : Compiled
calls-once = record {
  graphs = main-graph ∷ callee-graph ∷ [];
  plan = record { is_procedure = λ q. true; frame = λ q. call-frame; place = λ q v. Temp 28; live = λ q site v. false };
  zeroed = λ q. [];
}

-- ---- its graphs

coded : (q : ℕ) (g : Graph) → slice_get calls-once.graphs q ≡ Some g → list_all (λ node. is_coded node.kind) g.nodes ≡ true
coded zero g is = let e : main-graph ≡ g = cc in subst (λ (z : Graph). list_all (λ node. is_coded node.kind) z.nodes ≡ true) e refl
coded (suc zero) g is = let e : callee-graph ≡ g = cc in subst (λ (z : Graph). list_all (λ node. is_coded node.kind) z.nodes ≡ true) e refl
coded (suc (suc q)) g is = absurd (cc)

named : (q : ℕ) (g : Graph) → slice_get calls-once.graphs q ≡ Some g → list_all (λ node. names_registers call-setting.program node.kind) g.nodes ≡ true
named zero g is = let e : main-graph ≡ g = cc in subst (λ (z : Graph). list_all (λ node. names_registers call-setting.program node.kind) z.nodes ≡ true) e refl
named (suc zero) g is = let e : callee-graph ≡ g = cc in subst (λ (z : Graph). list_all (λ node. names_registers call-setting.program node.kind) z.nodes ≡ true) e refl
named (suc (suc q)) g is = absurd (cc)

valid : (q : ℕ) (g : Graph) → slice_get calls-once.graphs q ≡ Some g → IsValid g
valid zero g is = let e : main-graph ≡ g = cc in subst IsValid e (record { first = refl; nodes = refl; continuations = refl })
valid (suc zero) g is = let e : callee-graph ≡ g = cc in subst IsValid e (record { first = refl; nodes = refl; continuations = refl })
valid (suc (suc q)) g is = absurd (cc)

main_laid : IsLaidOut call-setting calls-once 0
main_laid = record {
  procedure = main-proc;
  is_procedure = refl;
  fits = record { items = refl; stackdata = omega arith; tokens = omega arith };
  places = [];
  frame = record { placed = λ code is. rw is refl; laid = refl; locals = refl; registers = refl; clear = refl };
  size = refl;
  stack = refl;
  locals = λ v. inr refl;
}

callee_laid : IsLaidOut call-setting calls-once 1
callee_laid = record {
  procedure = callee-proc;
  is_procedure = refl;
  fits = record { items = refl; stackdata = omega arith; tokens = omega arith };
  places = [];
  frame = record { placed = λ code is. rw is refl; laid = refl; locals = refl; registers = refl; clear = refl };
  size = refl;
  stack = refl;
  locals = λ v. inr refl;
}

laid : (q : ℕ) (g : Graph) → slice_get calls-once.graphs q ≡ Some g → IsLaidFor call-setting calls-once q
laid zero g is = procedures_are_laid call-setting calls-once 0 main_laid
laid (suc zero) g is = procedures_are_laid call-setting calls-once 1 callee_laid
laid (suc (suc q)) g is = absurd (cc)

no_landings : (q k : ℕ) (m : NodeId) → landing_in calls-once.graphs q k ≡ Some m → ⊥
no_landings zero k m is = cc
no_landings (suc zero) k m is = cc
no_landings (suc (suc q)) k m is = cc

-- there is one site
only_site : (q site : ℕ) (found : Exits) → site_exits calls-once.graphs q site ≡ Some found → (q ≡ 0) × (site ≡ 0) × (call-exits ≡ found)
only_site zero site found is = by (0 == site) refl is
  where
    by : (test : Bool) → (0 == site) ≡ test →
        with_some (cond test (Some (record { tokens = 1; kind = Call (s 0) (code 1) [] call-exits })) None) (λ (node : Node). exits_of node.kind) ≡ Some found →
        (zero ≡ 0) × (site ≡ 0) × (call-exits ≡ found)
    by true at e = (refl, grind (arith, nat_tests, at), cc)
    by false at e = absurd (cc)
only_site (suc zero) site found is = absurd (cc)
only_site (suc (suc q)) site found is = absurd (cc)

-- ---- its code

module _ (l : Launch) (at : ℕ → ℕ) (main callee site behind limit : Label) (to : ℕ)
    (pieces : CallsOnce call-frame main callee site behind limit (record { map = map_of l; at = at }) l.image.start to) where
  abbrev node_in_main : ℕ → ℕ
  node_in_main zero = at main.number
  node_in_main (suc zero) = pieces.entered
  node_in_main (suc (suc zero)) = pieces.landing
  node_in_main (suc (suc (suc number))) = at behind.number

  abbrev node_in_callee : ℕ → ℕ
  node_in_callee zero = at callee.number
  node_in_callee (suc number) = pieces.inside

  abbrev node_in : ℕ → NodeId → ℕ
  node_in zero m = node_in_main m.number
  node_in (suc q) m = node_in_callee m.number

  abbrev finished : Finished
  finished = record {
    labels = λ q. at;
    node_at = node_in;
    symbols = record { return_to = λ q k. at site.number; landing_of = λ q k. 0; last_return = pieces.starts.back };
  }

  module _ (callee_is : at callee.number ≡ 0x11000) (main_is : at main.number ≡ 0x10000) (site_fits : at site.number < 2 ^ 64) (site_aligned : at site.number % 4 ≡ 0) where
    main_at : (number : ℕ) (node : Node) → slice_get main-graph.nodes number ≡ Some node →
        IsCodeOf call-setting calls-once l finished 0 (record { number = number }) node.kind (32 * node.tokens)
    main_at zero node is =
        let e : record { tokens = 1; kind = Entry [] (n 1) } ≡ node = cc in
        subst (λ (z : Node). IsCodeOf call-setting calls-once l finished 0 (record { number = 0 }) z.kind (32 * z.tokens)) e (record {
          landings = [];
          limit = limit;
          on = pieces.entered;
          ends = 1;
          begins = pieces.begins;
          few_formals = omega arith;
          pairs = refl;
          addresses = tt;
          limits = pieces.limits;
          goes_on = goes_none refl (λ u. keeps_same u);
          few = omega arith;
          few_at_limit = omega arith;
        })
    main_at (suc zero) node is =
        let e : record { tokens = 1; kind = Call (s 0) (code 1) [] call-exits } ≡ node = cc in
        subst (λ (z : Node). IsCodeOf call-setting calls-once l finished 0 (record { number = 1 }) z.kind (32 * z.tokens)) e (record {
          operands = [];
          are = tt;
          few_values = omega arith;
          quiet = (pieces.calls.turns (stack_region call-setting)).quiet;
          back = site;
          is_back = refl;
          fits = site_fits;
          calls = inl (callee, callee_is, (pieces.called, pieces.calls));
          few = omega arith;
        })
    main_at (suc (suc zero)) node is =
        let e : record { tokens = 1; kind = CopyIn [] (n 3) } ≡ node = cc in
        subst (λ (z : Node). IsCodeOf call-setting calls-once l finished 0 (record { number = 2 }) z.kind (32 * z.tokens)) e (record {
          destinations = [];
          are = tt;
          turns = λ r. record {
            quiet = pieces.copies.quiet;
            goes = record {
              go = λ u sound pc p.
                  reaches_weaker (pieces.copies.goes.go u sound pc tt) (omega arith) (omega arith) (λ w there. (there.0, (u, refl, there.1)));
            };
          };
          few_values = omega arith;
        })
    main_at (suc (suc (suc zero))) node is =
        let e : record { tokens = 1; kind = Return 0 0 (arg (num 7) ∷ []) } ≡ node = cc in
        subst (λ (z : Node). IsCodeOf call-setting calls-once l finished 0 (record { number = 3 }) z.kind (32 * z.tokens)) e (record {
          operands = Held (Number 7) ∷ [];
          ends = 1;
          are = (refl, tt);
          few_results = omega arith;
          returns = pieces.returns;
          end_asked = pieces.starts.ends;
          few = omega arith;
          few_behind = omega arith;
        })
    main_at (suc (suc (suc (suc number)))) node is = absurd (cc)

    callee_at : (number : ℕ) (node : Node) → slice_get callee-graph.nodes number ≡ Some node →
        IsCodeOf call-setting calls-once l finished 1 (record { number = number }) node.kind (32 * node.tokens)
    callee_at zero node is =
        let e : record { tokens = 1; kind = Entry [] (n 1) } ≡ node = cc in
        subst (λ (z : Node). IsCodeOf call-setting calls-once l finished 1 (record { number = 0 }) z.kind (32 * z.tokens)) e (record {
          landings = [];
          limit = limit;
          on = pieces.inside;
          ends = 1;
          begins = pieces.enters;
          few_formals = omega arith;
          pairs = refl;
          addresses = tt;
          limits = pieces.limits;
          goes_on = goes_none refl (λ u. keeps_same u);
          few = omega arith;
          few_at_limit = omega arith;
        })
    callee_at (suc zero) node is =
        let e : record { tokens = 1; kind = Return 0 0 [] } ≡ node = cc in
        subst (λ (z : Node). IsCodeOf call-setting calls-once l finished 1 (record { number = 1 }) z.kind (32 * z.tokens)) e (record {
          operands = [];
          ends = 1;
          are = tt;
          few_results = omega arith;
          returns = pieces.goes_back;
          end_asked = pieces.starts.ends;
          few = omega arith;
          few_behind = omega arith;
        })
    callee_at (suc (suc number)) node is = absurd (cc)

    nodes : (q : ℕ) (m : NodeId) (node : Node) → in_graph calls-once.graphs q (λ g. node_of g m) ≡ Some node →
        IsCodeOf call-setting calls-once l finished q m node.kind (32 * node.tokens)
    nodes zero m node is = main_at m.number node is
    nodes (suc zero) m node is = callee_at m.number node is
    nodes (suc (suc q)) m node is = absurd (cc)

    site_at : SiteCode call-setting calls-once l finished 0 0 call-exits
    site_at = record {
      labels = [];
      on = pieces.landing;
      table = subst (λ (a : ℕ). HasExits [] (record { map = map_of l; at = at }) a pieces.landing) (sym pieces.calls.stands) pieces.table;
      count = refl;
      alternates = λ i k m label is lands there. absurd (none i k is);
      normal = λ m is. let e : n 2 ≡ m = cc in subst (λ (z : NodeId). GoesOn call-setting calls-once l finished 0 z pieces.landing) e (goes_none refl (λ u. keeps_same u));
      aligned = site_aligned;
      fits = omega (arith, site_fits);
    }
      where
        none : (i : ℕ) (k : ContinuationId) → slice_get {X = ContinuationId} [] i ≡ Some k → ⊥
        none i k is = cc

    sites : (q k : ℕ) (found : Exits) → site_exits calls-once.graphs q k ≡ Some found → SiteCode call-setting calls-once l finished q k found
    sites q k found is =
        let one = only_site q k found is in
        subst (λ (z : Exits). SiteCode call-setting calls-once l finished q k z) one.2
        (subst (λ (z : ℕ). SiteCode call-setting calls-once l finished z k call-exits) (sym one.0)
        (subst (λ (z : ℕ). SiteCode call-setting calls-once l finished 0 z call-exits) (sym one.1) site_at))

    -- the placement has the procedures where their labels are
    entries : (address q : ℕ) (m : NodeId) → procedure_from 0 address call-setting.placement.rows ≡ Some q → in_graph calls-once.graphs q (λ g. Some g.first) ≡ Some m →
        (node_in q m ≡ address) × (address % 4 ≡ 0)
    entries address q m from first = by (0x10000 == address) refl (0x11000 == address) refl from
      where
        of_main : 0x10000 ≡ address → 0 ≡ q → (node_in q m ≡ address) × (address % 4 ≡ 0)
        of_main same is =
            let first_is : in_graph calls-once.graphs 0 (λ g. Some g.first) ≡ Some m = subst (λ (z : ℕ). in_graph calls-once.graphs z (λ g. Some g.first) ≡ Some m) (sym is) first in
            let node : n 0 ≡ m = cc in
            (ap (λ (z : ℕ). node_in z m) (sym is) ∙ ap (λ (z : NodeId). node_in 0 z) (sym node) ∙ main_is ∙ same, subst (λ (z : ℕ). z % 4 ≡ 0) same refl)

        of_callee : 0x11000 ≡ address → 1 ≡ q → (node_in q m ≡ address) × (address % 4 ≡ 0)
        of_callee same is =
            let first_is : in_graph calls-once.graphs 1 (λ g. Some g.first) ≡ Some m = subst (λ (z : ℕ). in_graph calls-once.graphs z (λ g. Some g.first) ≡ Some m) (sym is) first in
            let node : n 0 ≡ m = cc in
            (ap (λ (z : ℕ). node_in z m) (sym is) ∙ ap (λ (z : NodeId). node_in 1 z) (sym node) ∙ callee_is ∙ same, subst (λ (z : ℕ). z % 4 ≡ 0) same refl)

        by : (first_test : Bool) → (0x10000 == address) ≡ first_test → (second_test : Bool) → (0x11000 == address) ≡ second_test →
            elim first_test as (λ _. Option ℕ) [ true ↦ Some 0 | false ↦ elim second_test as (λ _. Option ℕ) [ true ↦ Some 1 | false ↦ None ] ] ≡ Some q →
            (node_in q m ≡ address) × (address % 4 ≡ 0)
        by true is second_test also e = of_main (grind (arith, nat_tests, is)) (cc)
        by false is true also e = of_callee (grind (arith, nat_tests, also)) (cc)
        by false is false also e = absurd (cc)

    call_is_code : l.stack_size ≡ 4096 → l.image.initial ≡ [] → EndsLow (map_of l) → pieces.starts.back % 4 ≡ 0 → pieces.starts.back < 2 ^ 64 →
        IsCode call-setting calls-once l finished
    call_is_code stack none low aligned fits = record {
      is_for = record {
        set = record { placed = record { rows = refl; ascending = refl }; aligned = refl };
        lies = record { low = omega arith; high = omega (arith, stack); narrow = omega arith; aligned = refl };
        small = omega arith;
        data_length = ap (λ (xs : List ℕ). length xs) none;
        region = omega (arith, ap (λ (xs : List ℕ). length xs) none);
        code = low;
      };
      coded = coded;
      valid = valid;
      named = named;
      laid = laid;
      nodes = nodes;
      entries = entries;
      landings = λ q k m is. absurd (no_landings q k m is);
      sites = sites;
      first = record { tokens = 1; kind = Entry [] (n 1) };
      is_first = refl;
      back_aligned = aligned;
      back_fits = fits;
    }

    call_starts : l.stack_size ≡ 4096 → l.image.initial ≡ [] → StartCode call-setting calls-once l finished
    call_starts stack none = record {
      region = ap (λ (size : ℕ). record { address = region_base; stack_size = size }) (sym stack);
      first = n 0;
      is_first = refl;
      most = 2;
      calls = record { go = λ u sound pc p. reaches_weaker (pieces.starts.calls.go u sound pc p) (omega arith) (omega arith) (λ w there. there) };
      is_data = none;
      bytes = λ k byte less. absurd (omega (arith, less, ap (λ (xs : List ℕ). length xs) none));
      few_registers = omega arith;
    }
