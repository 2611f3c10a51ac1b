-- A worked row: what is required of whole code, with its tables, holds of a program with a yield, and its stack is walked where it waits.
--     main() { yield(7); return (7); }
use Rattle.cmm_select.specs.Switches.{EndsLow}
use Rattle.std.proofs.Common.{◌≡◌, inr, ℕ, zero, suc, ◌+◌, ◌*◌, ◌%◌, ◌<◌, ◌≤◌, ◌^◌, refl, sym, ◌∙◌, ap, subst, arith, Bool, true, false, List, [], ◌∷◌, length, Option, Some, None, slice_get}
use Rattle.std.specs.Prelude.{◌==◌, ◌&&◌, codes, find, nat_lt}
use Rattle.std.proofs.Math.Bool.{cond}
use Rattle.std.specs.List.{list_all}
use Rattle.std.proofs.lemmas.Bool.{and_parts}
use Rattle.std.proofs.lemmas.Bool.Decides.{nat_tests}
use Rattle.rv_asm.proofs.Shared.{reaches_weaker}
use Rattle.rv_asm.specs.declared.part.Label.{Label}
use Rattle.cmm_chain.specs.declared.frame.Frame.{Frame}
use Rattle.cmm_chain.specs.declared.frame.Location.TheVariants.{Temp}
use Rattle.cmm_chain.specs.Contents.{Content, LastReturn, ReturnTo, Unknown}
use Rattle.cmm_chain.specs.Running.{Holdings, none_known}
use Rattle.cmm_program.proofs.Shared as sample
use Rattle.cmm_program.proofs.Shared.{frame, no_client, opened, procedure, setting, yield_site}
use Rattle.cmm_program.specs.declared.procedure.Proc.{Proc}
use Rattle.cmm_program.specs.declared.procedure.Site.{Site}
use Rattle.cmm_program.specs.Errors.{with_some}
use Rattle.cmm_program.specs.Frames.{place_row, procedure_at}
use Rattle.cmm_program.specs.Liveness.{is_live_at}
use Rattle.cmm_program.specs.Performing.{procedure_from}
use Rattle.cmm_program.specs.State.{Activation, Setting}
use Rattle.cmm_graph.proofs.Shared.{arg, exits, graph, n, num, s}
use Rattle.cmm_graph.specs.declared.graph.Graph.{Graph}
use Rattle.cmm_graph.specs.declared.node.Exits.{Exits}
use Rattle.cmm_graph.specs.declared.node.Node.{Node}
use Rattle.cmm_graph.specs.declared.node.NodeKind.{NodeKind}
use Rattle.cmm_graph.specs.declared.node.NodeKind.TheVariants.{CopyIn, Entry, Return, Stop, Yield}
use Rattle.cmm_graph.specs.declared.number.ContinuationId.{ContinuationId}
use Rattle.cmm_graph.specs.declared.number.NodeId.{NodeId}
use Rattle.cmm_graph.specs.declared.number.SiteId.{SiteId}
use Rattle.cmm_graph.specs.declared.operand.Operand.{Operand}
use Rattle.cmm_graph.specs.Counterpart.{numbers_of}
use Rattle.cmm_graph.specs.GraphControl.{in_graph, kind_at}
use Rattle.cmm_graph.specs.Paths.{node_of}
use Rattle.cmm_graph.specs.Ranges.{IsValid}
use Rattle.cmm_image.specs.InFrames.{KeepsFrame}
use Rattle.cmm_image.specs.ImageFormat.{procedure_at as row_at}
use Rattle.cmm_image.specs.declared.rows.LabelRow.{LabelRow}
use Rattle.cmm_image.specs.declared.rows.ProcRow.{ProcRow}
use Rattle.cmm_image.specs.declared.rows.SiteRow.{SiteRow}
use Rattle.cmm_effects.proofs.Shared.{goes_none, keeps_same}
use Rattle.cmm_select.specs.declared.operand.Operand.TheVariants.{Held}
use Rattle.cmm_select.specs.declared.source.Source.TheVariants.{Number}
use Rattle.cmm_calls.specs.Calls.{HasExits}
use Rattle.cmm_image_machine.specs.Laws.{KeepFrames}
use Rattle.cmm_image_machine.specs.Machine.{Launch, map_of}
use Rattle.cmm_located.specs.Compiled.{Compiled, exits_of, landing_in, site_exits}
use Rattle.cmm_emit_laws.proofs.Shared.{procedures_are_laid}
use Rattle.cmm_emit_laws.specs.Finished.{Finished}
use Rattle.cmm_emit_laws.specs.Laying.{IsLaidOut}
use Rattle.cmm_emit_laws.specs.NodeCode.{GoesOn, IsCodeOf, SiteCode}
use Rattle.cmm_emit_laws.specs.ProgramCode.{IsCodeAround, IsLaidFor, is_coded, names_registers}
use Rattle.cmm_emit_laws.specs.Represented.{stack_region}
use Rattle.cmm_emit_laws.specs.Starting.{StartCode}
use Rattle.cmm_client_laws.proofs.Shared.{procedure_is_told, tables_are_told}
use Rattle.cmm_client_laws.specs.Laws.{IsTold}
use Rattle.cmm_client_laws.specs.Rows.{HaveRows, rows_ascend, site_row}
use Rattle.cmm_client_laws.specs.Tables.{IsProcedureRow}
use Rattle.cmm_client_laws.specs.Walked.{IsWalked}
use Rattle.cmm_yield_laws.specs.Examples.{YieldsOnce}
use Rattle.cmm_yield_laws.specs.WholeCode.{IsWholeCode, IsYieldingCode}
use Rattle.cmm_yield_laws.specs.Yielding.{HaveSiteExits, HaveYields, YieldCode}
use Rattle.rv_table.specs.Machine.{region_base}

abbrev only-site : Site
only-site = yield_site [] 1

abbrev main-proc : Proc
main-proc = procedure (codes "main") 99 0 0 (only-site ∷ []) []

abbrev yield-setting : Setting
yield-setting = setting (sample.alone main-proc (frame 16)) 4096 no_client

abbrev yield-exits : Exits
yield-exits = exits (n 2) [] [] []

abbrev main-graph : Graph
main-graph = graph 0 0 (Entry [] (n 1) ∷ Yield (s 0) (num 7 ∷ []) yield-exits ∷ CopyIn [] (n 3) ∷ Return 0 0 (arg (num 7) ∷ []) ∷ []) []

abbrev yield-frame : Frame
yield-frame = record { size = 16; return_at = 8; saved = []; pairs = []; stack = [] }

abbrev yields : Compiled
yields = record {
  graphs = main-graph ∷ [];
  plan = record { is_procedure = λ q. q == 0; frame = λ q. yield-frame; place = λ q v. Temp 28; live = λ q site v. false };
  zeroed = λ q. [];
}

abbrev main-row : ProcRow
main-row = record { code = 0x10000; name = codes "main"; frame = 16; return_at = Some 8; saved = []; variables = []; stack_labels = []; continuations = [] }

abbrev site-row : ℕ → SiteRow
site-row address = record {
  return_address = address;
  procedure = 0;
  number = 0;
  never_returns = false;
  aborts = false;
  yield_values = Some 1;
  results = [];
  returns = [];
  unwinds = [];
  cuts = [];
  variables = [];
  spans = [];
}

-- the row of the site is that which its tables are to have
row_is : (address back : ℕ) →
    site-row address ≡ site_row yield-setting yields (record { return_to = λ q k. address; landing_of = λ q k. 0; last_return = back }) 0 0 main-proc only-site
unfolding opened
row_is address back = refl

-- ---- its one graph

some_is : {A : Type 0} {x y : A} → Some x ≡ Some y → x ≡ y
some_is is = cc

only : (q : ℕ) (g : Graph) → slice_get yields.graphs q ≡ Some g → (q ≡ 0) × (main-graph ≡ g)
only zero g is = (refl, some_is is)
only (suc q) g is = absurd (cc)

named : (q : ℕ) (g : Graph) → slice_get yields.graphs q ≡ Some g → list_all (λ node. names_registers yield-setting.program node.kind) g.nodes ≡ true
named q g is = subst (λ (z : Graph). list_all (λ node. names_registers yield-setting.program node.kind) z.nodes ≡ true) (only q g is).1 refl

valid : (q : ℕ) (g : Graph) → slice_get yields.graphs q ≡ Some g → IsValid g
valid q g is = subst IsValid (only q g is).1 (record { first = refl; nodes = refl; continuations = refl })

main_laid : IsLaidOut yield-setting yields 0
main_laid = record {
  procedure = main-proc;
  is_procedure = refl;
  fits = record { items = refl; stackdata = omega arith; tokens = omega arith };
  places = [];
  frame = record { placed = λ code is. rw is refl; laid = refl; locals = refl; registers = refl; clear = refl };
  size = refl;
  stack = refl;
  locals = λ v. inr refl;
}

laid : (q : ℕ) (g : Graph) → slice_get yields.graphs q ≡ Some g → IsLaidFor yield-setting yields q
laid zero g is = procedures_are_laid yield-setting yields 0 main_laid
laid (suc q) g is = absurd (cc)

no_landings : (q k : ℕ) (m : NodeId) → landing_in yields.graphs q k ≡ Some m → ⊥
no_landings zero k m is = cc
no_landings (suc q) k m is = cc

-- there is one site
only_exits : (q site : ℕ) (found : Exits) → site_exits yields.graphs q site ≡ Some found → (q ≡ 0) × (site ≡ 0) × (yield-exits ≡ found)
only_exits zero site found is = by (0 == site) refl is
  where
    by : (test : Bool) → (0 == site) ≡ test →
        with_some (cond test (Some (record { tokens = 1; kind = Yield (s 0) (num 7 ∷ []) yield-exits })) None) (λ (node : Node). exits_of node.kind) ≡ Some found →
        (zero ≡ 0) × (site ≡ 0) × (yield-exits ≡ found)
    by true at e = (refl, grind (arith, nat_tests, at), cc)
    by false at e = absurd (cc)
only_exits (suc q) site found is = absurd (cc)

-- its node yields as many values as it says, and has its exits
have_values : HaveYields yield-setting yields
have_values zero m site values out p here is is_procedure there = by m.number is
  where
    same_here : only-site ≡ here
    same_here = at_site site.number (subst (λ (z : Proc). slice_get z.sites site.number ≡ Some here) (sym (some_is is_procedure)) there)
      where
        at_site : (k : ℕ) → slice_get (only-site ∷ []) k ≡ Some here → only-site ≡ here
        at_site zero e = some_is e
        at_site (suc k) e = absurd (cc)

    one_value : num 7 ∷ [] ≡ values → here.yield_values ≡ Some (length values)
    one_value e = ap (λ (z : Site). z.yield_values) (sym same_here) ∙ ap (λ (xs : List Operand). Some (length xs)) e

    by : (k : ℕ) → kind_at yields.graphs 0 (record { number = k }) ≡ Yield site values out → here.yield_values ≡ Some (length values)
    by zero e = absurd (cc)
    by (suc zero) e = one_value (cc)
    by (suc (suc zero)) e = absurd (cc)
    by (suc (suc (suc zero))) e = absurd (cc)
    by (suc (suc (suc (suc k)))) e = absurd (cc)
have_values (suc q) m site values out p here is is_procedure there = absurd (cc (is_procedure))

have_exits : HaveSiteExits yield-setting yields
have_exits zero number p site is_procedure there = by number (subst (λ (z : Proc). slice_get z.sites number ≡ Some site) (sym (some_is is_procedure)) there)
  where
    by : (k : ℕ) → slice_get (only-site ∷ []) k ≡ Some site → (out : Exits) × (site_exits yields.graphs 0 k ≡ Some out) × (numbers_of out.returns ≡ site.returns)
    by zero e = (yield-exits, refl, ap (λ (z : Site). z.returns) (some_is e))
    by (suc k) e = absurd (cc)
have_exits (suc q) number p site is_procedure there = absurd (cc (is_procedure))

-- ---- its code

module _ (l : Launch) (at : ℕ → ℕ) (main client site behind limit : Label) (to : ℕ)
    (pieces : YieldsOnce yield-frame main client site behind limit (record { map = map_of l; at = at }) l.image.start to) where
  abbrev node_in : ℕ → ℕ
  node_in zero = at main.number
  node_in (suc zero) = pieces.entered
  node_in (suc (suc zero)) = pieces.landing
  node_in (suc (suc (suc number))) = at behind.number

  abbrev finished : Finished
  finished = record {
    labels = λ q. at;
    node_at = λ q m. node_in m.number;
    symbols = record { return_to = λ q k. at site.number; landing_of = λ q k. 0; last_return = pieces.starts.back };
  }

  abbrev Coded : ℕ → Node → Type 0
  Coded number node = IsCodeOf yield-setting yields l finished 0 (record { number = number }) node.kind (32 * node.tokens)

  main_at : (number : ℕ) (node : Node) → slice_get main-graph.nodes number ≡ Some node → is_coded node.kind ≡ true → Coded number node
  main_at zero node is coded =
      let e : record { tokens = 1; kind = Entry [] (n 1) } ≡ node = some_is is in
      subst (Coded 0) e (record {
        landings = [];
        limit = limit;
        on = pieces.entered;
        ends = 1;
        begins = pieces.begins;
        few_formals = omega arith;
        pairs = refl;
        addresses = tt;
        limits = pieces.limits;
        goes_on = goes_none refl (λ u. keeps_same u);
        few = omega arith;
        few_at_limit = omega arith;
      })
  main_at (suc zero) node is coded = let e : record { tokens = 1; kind = Yield (s 0) (num 7 ∷ []) yield-exits } ≡ node = some_is is in absurd (cc)
  main_at (suc (suc zero)) node is coded =
      let e : record { tokens = 1; kind = CopyIn [] (n 3) } ≡ node = some_is is in
      subst (Coded 2) e (record {
        destinations = [];
        are = tt;
        turns = λ r. record {
          quiet = pieces.copies.quiet;
          goes = record {
            go = λ u sound pc p.
                reaches_weaker (pieces.copies.goes.go u sound pc tt) (omega arith) (omega arith) (λ w there. (there.0, (u, refl, there.1)));
          };
        };
        few_values = omega arith;
      })
  main_at (suc (suc (suc zero))) node is coded =
      let e : record { tokens = 1; kind = Return 0 0 (arg (num 7) ∷ []) } ≡ node = some_is is in
      subst (Coded 3) e (record {
        operands = Held (Number 7) ∷ [];
        ends = 1;
        are = (refl, tt);
        few_results = omega arith;
        returns = pieces.returns;
        end_asked = pieces.starts.ends;
        few = omega arith;
        few_behind = omega arith;
      })
  main_at (suc (suc (suc (suc number)))) node is coded = absurd (cc)

  nodes : (q : ℕ) (m : NodeId) (node : Node) → in_graph yields.graphs q (λ g. node_of g m) ≡ Some node → is_coded node.kind ≡ true →
      IsCodeOf yield-setting yields l finished q m node.kind (32 * node.tokens)
  nodes zero m node is coded = main_at m.number node is coded
  nodes (suc q) m node is coded = absurd (cc)

  yield_code : YieldCode yield-setting yields l finished 0 (n 1) 0 (num 7 ∷ []) 32
  yield_code = record {
    operands = Held (Number 7) ∷ [];
    are = (refl, tt);
    few_values = omega arith;
    quiet = (pieces.calls.turns (stack_region yield-setting)).quiet;
    back = site;
    is_back = refl;
    stub = client;
    on = pieces.called;
    calls = pieces.calls;
    client = pieces.asks;
    few = omega arith;
  }

  abbrev YieldAt : ℕ → SiteId → List Operand → Node → Type 0
  YieldAt number k values node = YieldCode yield-setting yields l finished 0 (record { number = number }) k.number values (32 * node.tokens)

  yielding_at : (number : ℕ) (node : Node) (k : SiteId) (values : List Operand) (out : Exits) → slice_get main-graph.nodes number ≡ Some node → node.kind ≡ Yield k values out → YieldAt number k values node
  yielding_at zero node k values out is kind = let e : record { tokens = 1; kind = Entry [] (n 1) } ≡ node = some_is is in absurd (cc)
  yielding_at (suc zero) node k values out is kind =
      let e : record { tokens = 1; kind = Yield (s 0) (num 7 ∷ []) yield-exits } ≡ node = some_is is in
      let same : Yield (s 0) (num 7 ∷ []) yield-exits ≡ Yield k values out = ap (λ (z : Node). z.kind) e ∙ kind in
      let same_values : num 7 ∷ [] ≡ values = cc in
      let same_site : s 0 ≡ k = cc in
      subst (YieldAt 1 k values) e (subst (λ (z : SiteId). YieldAt 1 z values (record { tokens = 1; kind = Yield (s 0) (num 7 ∷ []) yield-exits })) same_site
      (subst (λ (xs : List Operand). YieldAt 1 (s 0) xs (record { tokens = 1; kind = Yield (s 0) (num 7 ∷ []) yield-exits })) same_values yield_code))
  yielding_at (suc (suc zero)) node k values out is kind = let e : record { tokens = 1; kind = CopyIn [] (n 3) } ≡ node = some_is is in absurd (cc)
  yielding_at (suc (suc (suc zero))) node k values out is kind = let e : record { tokens = 1; kind = Return 0 0 (arg (num 7) ∷ []) } ≡ node = some_is is in absurd (cc)
  yielding_at (suc (suc (suc (suc number)))) node k values out is kind = absurd (cc)

  yielding : (q : ℕ) (m : NodeId) (node : Node) (k : SiteId) (values : List Operand) (out : Exits) → in_graph yields.graphs q (λ g. node_of g m) ≡ Some node →
      node.kind ≡ Yield k values out → YieldCode yield-setting yields l finished q m k.number values (32 * node.tokens)
  yielding zero m node k values out is kind = yielding_at m.number node k values out is kind
  yielding (suc q) m node k values out is kind = absurd (cc)

  module _ (main_is : at main.number ≡ 0x10000) (site_fits : at site.number < 2 ^ 64) (site_aligned : at site.number % 4 ≡ 0) where
    site_at : SiteCode yield-setting yields l finished 0 0 yield-exits
    site_at = record {
      labels = [];
      on = pieces.landing;
      table = subst (λ (a : ℕ). HasExits [] (record { map = map_of l; at = at }) a pieces.landing) (sym pieces.calls.stands) pieces.table;
      count = refl;
      alternates = λ i k m label is lands there. absurd (none i k is);
      normal = λ m is. let e : n 2 ≡ m = cc in subst (λ (z : NodeId). GoesOn yield-setting yields l finished 0 z pieces.landing) e (goes_none refl (λ u. keeps_same u));
      aligned = site_aligned;
      fits = omega (arith, site_fits);
    }
      where
        none : (i : ℕ) (k : ContinuationId) → slice_get {X = ContinuationId} [] i ≡ Some k → ⊥
        none i k is = cc

    sites : (q k : ℕ) (found : Exits) → site_exits yields.graphs q k ≡ Some found → SiteCode yield-setting yields l finished q k found
    sites q k found is =
        let one = only_exits q k found is in
        subst (λ (z : Exits). SiteCode yield-setting yields l finished q k z) one.2
        (subst (λ (z : ℕ). SiteCode yield-setting yields l finished z k yield-exits) (sym one.0)
        (subst (λ (z : ℕ). SiteCode yield-setting yields l finished 0 z yield-exits) (sym one.1) site_at))

    -- the placement has `main` where its label is
    entry_at : (address q : ℕ) (m : NodeId) → procedure_from 0 address yield-setting.placement.rows ≡ Some q → in_graph yields.graphs q (λ g. Some g.first) ≡ Some m →
        (node_in m.number ≡ address) × (address % 4 ≡ 0)
    entry_at address q m from first = by (0x10000 == address) refl from
      where
        by : (test : Bool) → (0x10000 == address) ≡ test → elim test as (λ _. Option ℕ) [ true ↦ Some 0 | false ↦ None ] ≡ Some q → (node_in m.number ≡ address) × (address % 4 ≡ 0)
        by true is e =
            let same : 0x10000 ≡ address = grind (arith, nat_tests, is) in
            let none : 0 ≡ q = some_is e in
            let first_is : in_graph yields.graphs 0 (λ g. Some g.first) ≡ Some m = subst (λ (z : ℕ). in_graph yields.graphs z (λ g. Some g.first) ≡ Some m) (sym none) first in
            let node : n 0 ≡ m = some_is first_is in
            (ap (λ (z : NodeId). node_in z.number) (sym node) ∙ main_is ∙ same, subst (λ (z : ℕ). z % 4 ≡ 0) same refl)
        by false is e = absurd (cc)

    module _ (stack : l.stack_size ≡ 4096) (no_data : l.image.initial ≡ []) (low : EndsLow (map_of l)) (aligned : pieces.starts.back % 4 ≡ 0) (fits : pieces.starts.back < 2 ^ 64) where
      around : IsCodeAround yield-setting yields l finished
      around = record {
        is_for = record {
          set = record { placed = record { rows = refl; ascending = refl }; aligned = refl };
          lies = record { low = omega arith; high = omega (arith, stack); narrow = omega arith; aligned = refl };
          small = omega arith;
          data_length = ap (λ (xs : List ℕ). length xs) no_data;
          region = omega (arith, ap (λ (xs : List ℕ). length xs) no_data);
          code = low;
        };
        valid = valid;
        named = named;
        laid = laid;
        sites = sites;
        entries = entry_at;
        landings = λ q k m is. absurd (no_landings q k m is);
        first = record { tokens = 1; kind = Entry [] (n 1) };
        is_first = refl;
        back_aligned = aligned;
        back_fits = fits;
      }

      yielding_code : IsYieldingCode yield-setting yields l finished
      yielding_code = record { around = around; nodes = nodes; yields = yielding; values = have_values; exits = have_exits }

      yield_starts : StartCode yield-setting yields l finished
      yield_starts = record {
        region = ap (λ (size : ℕ). record { address = region_base; stack_size = size }) (sym stack);
        first = n 0;
        is_first = refl;
        most = 2;
        calls = record { go = λ u sound pc p. reaches_weaker (pieces.starts.calls.go u sound pc p) (omega arith) (omega arith) (λ w there. there) };
        is_data = no_data;
        bytes = λ k byte less. absurd (omega (arith, less, ap (λ (xs : List ℕ). length xs) no_data));
        few_registers = omega arith;
      }

      -- ---- and its tables

      module _ (procs : l.image.procs ≡ main-row ∷ []) (rows : l.image.sites ≡ site-row (at site.number) ∷ []) (no_labels : l.image.labels ≡ []) (last_is : l.image.last ≡ pieces.starts.back)
          (some : 0 < at site.number) (scripts : l.script ≡ no_client) where
        have_rows : HaveRows yield-setting yields finished.symbols l.image
        have_rows = record {
          procedures = procedures;
          sites = record {
            ascending = ap (rows_ascend 0) rows ∙ grind (arith, nat_tests, some);
            each = λ q k p z is there. (0, row_there q k p z is there);
            few = λ q k p z is there. subst (λ (w : Site). length w.results ≤ 64) (one_there q k p z is there).2 (omega arith);
            cuts = λ q k p z is there. subst (λ (w : Site). list_all (λ j. nat_lt j (length p.conts)) w.cuts ≡ true) (one_there q k p z is there).2 refl;
          };
          labels = record {
            each = λ k row is. let none : slice_get {X = LabelRow} [] k ≡ Some row = subst (λ (ls : List LabelRow). slice_get ls k ≡ Some row) no_labels is in absurd (cc);
            every = λ name found is. absurd (cc (is));
          };
          data_length = ap (λ (xs : List ℕ). length xs) no_data;
          last = last_is;
        }
          where
            procedures : (q : ℕ) (p : Proc) → procedure_at yield-setting q ≡ Some p → IsProcedureRow p yield-frame finished.symbols q (row_at l.image.procs q)
            procedures zero p is =
                subst (λ (z : Proc). IsProcedureRow z yield-frame finished.symbols 0 (row_at l.image.procs 0)) (some_is is)
                (subst (λ (ps : List ProcRow). IsProcedureRow main-proc yield-frame finished.symbols 0 (row_at ps 0)) (sym procs)
                (procedure_is_told main-proc yield-frame finished.symbols 0 0x10000 [] refl refl (λ k less. absurd (omega (arith, less))) (λ k cont none. absurd (cc (none)))))
            procedures (suc q) p is = absurd (cc (is))

            one_there : (q k : ℕ) (p : Proc) (z : Site) → procedure_at yield-setting q ≡ Some p → slice_get p.sites k ≡ Some z → (0 ≡ q) × (0 ≡ k) × (only-site ≡ z)
            one_there zero k p z is there = by k (subst (λ (w : Proc). slice_get w.sites k ≡ Some z) (sym (some_is is)) there)
              where
                by : (j : ℕ) → slice_get (only-site ∷ []) j ≡ Some z → (zero ≡ 0) × (0 ≡ j) × (only-site ≡ z)
                by zero e = (refl, refl, some_is e)
                by (suc j) e = absurd (cc)
            one_there (suc q) k p z is there = absurd (cc (is))

            row_there : (q k : ℕ) (p : Proc) (z : Site) → procedure_at yield-setting q ≡ Some p → slice_get p.sites k ≡ Some z →
                slice_get l.image.sites 0 ≡ Some (site_row yield-setting yields finished.symbols q k p z)
            row_there zero k p z is there =
                let one = one_there 0 k p z is there in
                ap (λ (rs : List SiteRow). slice_get rs 0) rows ∙ ap (λ (r : SiteRow). Some r) (row_is (at site.number) pieces.starts.back)
                ∙ ap (λ (w : Proc). Some (site_row yield-setting yields finished.symbols 0 0 w only-site)) (some_is is)
                ∙ ap (λ (j : ℕ). Some (site_row yield-setting yields finished.symbols 0 j p only-site)) one.1
                ∙ ap (λ (w : Site). Some (site_row yield-setting yields finished.symbols 0 k p w)) one.2
            row_there (suc q) k p z is there = absurd (cc (is))

        -- the site keeps inside its frame
        keep : KeepFrames l.image
        keep address found is = by (at site.number == address) refl
            (subst (λ (rs : List SiteRow). find (λ r. r.return_address == address) rs ≡ Some found) rows is)
          where
            keeps : KeepsFrame (row_at l.image.procs 0) (site-row (at site.number))
            keeps = subst (λ (ps : List ProcRow). KeepsFrame (row_at ps 0) (site-row (at site.number))) (sym procs) (record {
              size = omega arith;
              saves = refl;
              returns = omega arith;
              saved = λ k d less. absurd (omega (arith, less));
              places = λ k d less. absurd (omega (arith, less));
              count = refl;
            })

            by : (test : Bool) → (at site.number == address) ≡ test → find (λ r. r.return_address == address) (site-row (at site.number) ∷ []) ≡ Some found →
                KeepsFrame (row_at l.image.procs found.procedure) found
            by true same e = let here : Some (site-row (at site.number)) ≡ Some found = rw same at e in
                subst (λ (r : SiteRow). KeepsFrame (row_at l.image.procs r.procedure) r) (some_is here) keeps
            by false differs e = let never : None ≡ Some found = rw differs at e in absurd (cc)

        told : IsTold yield-setting yields finished.symbols l
        told = record {
          tables = tables_are_told yield-setting yields finished.symbols l.image keep have_rows;
          planned = record { laid = λ q is. refl; places = λ q v is. refl };
          is_for = around.is_for;
          region = yield_starts.region;
          frames = record {
            size = λ q is. main_only q is (λ k. 16 ≡ (place_row yield-setting k).frame) refl;
            pairs = λ q is. main_only q is (λ k. [] ≡ (place_row yield-setting k).pairs) refl;
            stack = λ q is. main_only q is (λ k. [] ≡ (place_row yield-setting k).stack) refl;
          };
          apart = λ q k v u exists live. absurd (cc);
          knows = λ q k v p is less live. absurd (no_variable q p v is less);
          scripts = scripts;
        }
          where
            main_only : (q : ℕ) → (q == 0) ≡ true → (P : ℕ → Type 0) → P 0 → P q
            main_only q is P holds = let none : 0 ≡ q = grind (arith, nat_tests, is) in subst P none holds

            no_variable : (q : ℕ) (p : Proc) (v : ℕ) → procedure_at yield-setting q ≡ Some p → v < length p.vars → ⊥
            no_variable zero p v is less = let none : v < 0 = subst (λ (z : Proc). v < length z.vars) (sym (some_is is)) less in omega (arith, none)
            no_variable (suc q) p v is less = absurd (cc (is))

        yield_is_whole : IsWholeCode yield-setting yields l finished
        yield_is_whole = record { code = yielding_code; told = told }

-- ---- where it waits, its stack is walked

abbrev waiting-at : Holdings
waiting-at = record {
  point = record { at = 0x60001FF0; back = ReturnTo 0 0; kept = none_known };
  temps = none_known;
  contents = λ a. elim (a == 0x60001FF8) as (λ _. Content) [ true ↦ LastReturn | false ↦ Unknown ];
}

abbrev main-waits : Activation
main-waits = record { procedure = 0; variables = []; site = Some 0 }

main_is_walked : IsWalked yield-setting yields waiting-at (main-waits ∷ []) (record { procedure = 0; site = 0; values = λ v. 0 } ∷ [])
unfolding opened
main_is_walked = record {
  ghosts = (
    record { procedure = refl; waits = refl; proc = main-proc; is_procedure = refl; site = only-site; is_site = refl; fits = λ v info there live. absurd (cc (there)) },
    tt,
  );
  chain = (
    record {
      exists = refl;
      back = refl;
      values = λ v live. absurd (nothing v (is_live_at main-proc 0 v) live);
      pairs = record { code = λ k offset is. absurd (cc (is)); frame = λ k offset is. absurd (cc (is)) };
    },
    (refl, refl),
  );
  temps = refl;
}
  where
    nothing : (v : ℕ) (alive : Bool) → (alive && nat_lt v 0) ≡ true → ⊥
    nothing v alive both = let less = (and_parts alive (nat_lt v 0) both).1 in grind (arith, nat_tests, less)
