-- A worked row: what is required of code holds of a small program, so the simulation says something.
--     main() { return (7); }
use Rattle.cmm_select.specs.Switches.{EndsLow}
use Rattle.std.specs.Prelude.{◌==◌, None, Option}
use Rattle.std.proofs.lemmas.Bool.Decides.{nat_tests}
use Rattle.cmm_program.specs.Frames.{place_row}
use Rattle.cmm_program.specs.Performing.{procedure_from}
use Rattle.std.proofs.Common.{◌≡◌, Bool, inr, ℕ, zero, suc, ◌*◌, ◌%◌, ◌<◌, ◌^◌, refl, sym, ◌∙◌, ap, subst, arith, true, false, List, [], ◌∷◌, length, Some, slice_get}
use Rattle.std.specs.List.{list_all}
use Rattle.cmm_program.proofs.Shared as sample
use Rattle.cmm_program.proofs.Shared.{frame, no_client, procedure, setting}
use Rattle.cmm_program.specs.declared.procedure.Proc.{Proc}
use Rattle.cmm_program.specs.State.{Setting}
use Rattle.cmm_graph.proofs.Shared.{arg, graph, n, num}
use Rattle.cmm_graph.specs.declared.number.NodeId.{NodeId}
use Rattle.cmm_graph.specs.declared.node.Exits.{Exits}
use Rattle.cmm_graph.specs.declared.node.Node.{Node}
use Rattle.cmm_graph.specs.declared.node.NodeKind.TheVariants.{Entry, Return}
use Rattle.cmm_graph.specs.declared.graph.Graph.{Graph}
use Rattle.cmm_graph.specs.GraphControl.{in_graph}
use Rattle.cmm_graph.specs.Paths.{node_of}
use Rattle.cmm_graph.specs.Ranges.{IsValid}
use Rattle.cmm_chain.specs.declared.frame.Frame.{Frame}
use Rattle.cmm_chain.specs.declared.frame.Location.TheVariants.{Temp}
use Rattle.rv_asm.specs.declared.part.Label.{Label}
use Rattle.cmm_effects.proofs.Shared.{goes_none, keeps_same}
use Rattle.cmm_select.specs.declared.operand.Operand.TheVariants.{Held}
use Rattle.cmm_select.specs.declared.source.Source.TheVariants.{Number}
use Rattle.cmm_image_machine.specs.Machine.{Launch, map_of}
use Rattle.cmm_located.specs.Compiled.{Compiled, landing_in, site_exits}
use Rattle.cmm_emit_laws.proofs.LaidFrames.{procedures_are_laid}
use Rattle.cmm_emit_laws.specs.Laying.{IsLaidOut}
use Rattle.cmm_emit_laws.proofs.Nodes.{found_in}
use Rattle.cmm_emit_laws.specs.Examples.{ReturnsSeven}
use Rattle.rv_asm.proofs.Shared.{reaches_weaker}
use Rattle.cmm_emit_laws.specs.Starting.{StartCode}
use Rattle.cmm_emit_laws.specs.Finished.{Finished}
use Rattle.cmm_emit_laws.specs.NodeCode.{IsCodeOf}
use Rattle.cmm_emit_laws.specs.ProgramCode.{IsCode, IsLaidFor, is_coded, names_registers}
use Rattle.rv_table.specs.Machine.{region_base}

abbrev seven-main : Proc
seven-main = procedure [] 99 0 0 [] []

abbrev seven-setting : Setting
seven-setting = setting (sample.alone seven-main (frame 16)) 4096 no_client

abbrev seven-graph : Graph
seven-graph = graph 0 0 (Entry [] (n 1) ∷ Return 0 0 (arg (num 7) ∷ []) ∷ []) []

abbrev seven-frame : Frame
seven-frame = record { size = 16; return_at = 8; saved = []; pairs = []; stack = [] }

abbrev seven : Compiled
seven = record {
  graphs = seven-graph ∷ [];
  plan = record { is_procedure = λ q. true; frame = λ q. seven-frame; place = λ q v. Temp 28; live = λ q site v. false };
  zeroed = λ q. [];
}

-- ---- its one graph

only : (q : ℕ) (g : Graph) → slice_get (seven-graph ∷ []) q ≡ Some g → (q ≡ 0) × (seven-graph ≡ g)
only zero g is = (refl, cc)
only (suc q) g is = absurd (cc)

coded : (q : ℕ) (g : Graph) → slice_get seven.graphs q ≡ Some g → list_all (λ node. is_coded node.kind) g.nodes ≡ true
coded q g is = subst (λ (z : Graph). list_all (λ node. is_coded node.kind) z.nodes ≡ true) (only q g is).1 refl

named : (q : ℕ) (g : Graph) → slice_get seven.graphs q ≡ Some g → list_all (λ node. names_registers seven-setting.program node.kind) g.nodes ≡ true
named q g is = subst (λ (z : Graph). list_all (λ node. names_registers seven-setting.program node.kind) z.nodes ≡ true) (only q g is).1 refl

valid : (q : ℕ) (g : Graph) → slice_get seven.graphs q ≡ Some g → IsValid g
valid q g is = subst IsValid (only q g is).1 (record { first = refl; nodes = refl; continuations = refl })

-- its frame is one that is laid for the places of its locals, of which there are none
seven_is_laid_out : IsLaidOut seven-setting seven 0
seven_is_laid_out = record {
  procedure = seven-main;
  is_procedure = refl;
  fits = record { items = refl; stackdata = omega arith; tokens = omega arith };
  places = [];
  frame = record { placed = λ code is. rw is refl; laid = refl; locals = refl; registers = refl; clear = refl };
  size = refl;
  stack = refl;
  locals = λ v. inr refl;
}

laid_at : (q : ℕ) → q ≡ 0 → IsLaidFor seven-setting seven q
laid_at q none = subst (λ (z : ℕ). IsLaidFor seven-setting seven z) (sym none) (procedures_are_laid seven-setting seven 0 seven_is_laid_out)

laid : (q : ℕ) (g : Graph) → slice_get seven.graphs q ≡ Some g → IsLaidFor seven-setting seven q
laid q g is = laid_at q (only q g is).0

no_sites : (q site : ℕ) (exits : Exits) → site_exits seven.graphs q site ≡ Some exits → ⊥
no_sites zero site exits is = cc
no_sites (suc q) site exits is = cc

no_landings : (q k : ℕ) (m : NodeId) → landing_in seven.graphs q k ≡ Some m → ⊥
no_landings zero k m is = cc
no_landings (suc q) k m is = cc

-- ---- its code

module _ (l : Launch) (at : ℕ → ℕ) (main limit : Label) (to : ℕ) (pieces : ReturnsSeven seven-frame main limit (record { map = map_of l; at = at }) l.image.start to) where
  abbrev finished : Finished
  finished = record {
    labels = λ q. at;
    node_at = λ q m. elim m.number as (λ _. ℕ) [ zero ↦ at main.number | suc _ ↦ pieces.mid ];
    symbols = record { return_to = λ q site. 0; landing_of = λ q k. 0; last_return = pieces.starts.back };
  }

  code_at : (q number : ℕ) (node : Node) → q ≡ 0 → slice_get seven-graph.nodes number ≡ Some node →
      IsCodeOf seven-setting seven l finished q (record { number = number }) node.kind (32 * node.tokens)
  code_at q zero node none is =
      let e : record { tokens = 1; kind = Entry [] (n 1) } ≡ node = cc in
      subst (λ (z : Node). IsCodeOf seven-setting seven l finished q (record { number = 0 }) z.kind (32 * z.tokens)) e (record {
        landings = [];
        limit = limit;
        on = pieces.mid;
        ends = 1;
        begins = pieces.begins;
        few_formals = omega arith;
        pairs = refl;
        addresses = tt;
        limits = pieces.limits;
        goes_on = goes_none refl (λ s. keeps_same s);
        few = omega arith;
        few_at_limit = omega arith;
      })
  code_at q (suc zero) node none is =
      let e : record { tokens = 1; kind = Return 0 0 (arg (num 7) ∷ []) } ≡ node = cc in
      subst (λ (z : Node). IsCodeOf seven-setting seven l finished q (record { number = 1 }) z.kind (32 * z.tokens)) e (record {
        operands = Held (Number 7) ∷ [];
        ends = 1;
        are = (refl, tt);
        few_results = omega arith;
        returns = pieces.returns;
        end_asked = pieces.starts.ends;
        few = omega arith;
        few_behind = omega arith;
      })
  code_at q (suc (suc number)) node none is = absurd (cc)

  nodes : (q : ℕ) (m : NodeId) (node : Node) → in_graph seven.graphs q (λ g. node_of g m) ≡ Some node →
      IsCodeOf seven-setting seven l finished q m node.kind (32 * node.tokens)
  nodes q m node is =
      let found = found_in seven.graphs q (λ g. node_of g m) node is in
      let one = only q found.0 found.1 in
      code_at q m.number node one.0 (ap (λ (g : Graph). node_of g m) one.1 ∙ found.2)

  -- the placement has `main` where its label is
  abbrev main_code : ℕ
  main_code = (place_row seven-setting 0).code

  entry_at : at main.number ≡ main_code → (address q : ℕ) (m : NodeId) → procedure_from 0 address seven-setting.placement.rows ≡ Some q →
      in_graph seven.graphs q (λ g. Some g.first) ≡ Some m → (finished.node_at q m ≡ address) × (address % 4 ≡ 0)
  entry_at main_is address q m from first = by (main_code == address) refl from
    where
      at_zero : (node : NodeId) → n 0 ≡ node → (elim node.number as (λ _. ℕ) [ zero ↦ at main.number | suc _ ↦ pieces.mid ]) ≡ at main.number
      at_zero node same = ap (λ (z : NodeId). elim z.number as (λ _. ℕ) [ zero ↦ at main.number | suc _ ↦ pieces.mid ]) (sym same)

      by : (test : Bool) → (main_code == address) ≡ test → elim test as (λ _. Option ℕ) [ true ↦ Some 0 | false ↦ None ] ≡ Some q → (finished.node_at q m ≡ address) × (address % 4 ≡ 0)
      by true is e =
          let same : main_code ≡ address = grind (arith, nat_tests, is) in
          let none : q ≡ 0 = cc in
          let found : in_graph seven.graphs 0 (λ g. Some g.first) ≡ Some m = subst (λ (z : ℕ). in_graph seven.graphs z (λ g. Some g.first) ≡ Some m) none first in
          let node : n 0 ≡ m = cc in
          (at_zero m node ∙ main_is ∙ same, subst (λ (z : ℕ). z % 4 ≡ 0) same refl)
      by false is e = absurd (cc)

  seven_is_code : l.stack_size ≡ 4096 → at main.number ≡ main_code → l.image.initial ≡ [] → EndsLow (map_of l) → pieces.starts.back % 4 ≡ 0 → pieces.starts.back < 2 ^ 64 →
      IsCode seven-setting seven l finished
  seven_is_code stack main_is none low aligned fits = record {
    is_for = record {
      set = record { placed = record { rows = refl; ascending = refl }; aligned = refl };
      lies = record { low = omega arith; high = omega (arith, stack); narrow = omega arith; aligned = refl };
      small = omega arith;
      data_length = ap (λ (xs : List ℕ). length xs) none;
      region = omega (arith, ap (λ (xs : List ℕ). length xs) none);
      code = low;
    };
    coded = coded;
    valid = valid;
    named = named;
    laid = laid;
    nodes = nodes;
    entries = entry_at main_is;
    landings = λ q k m is. absurd (no_landings q k m is);
    sites = λ q site exits is. absurd (no_sites q site exits is);
    first = record { tokens = 1; kind = Entry [] (n 1) };
    is_first = refl;
    back_aligned = aligned;
    back_fits = fits;
  }

  seven_starts : l.stack_size ≡ 4096 → l.image.initial ≡ [] → StartCode seven-setting seven l finished
  seven_starts stack none = record {
    region = ap (λ (size : ℕ). record { address = region_base; stack_size = size }) (sym stack);
    first = n 0;
    is_first = refl;
    most = 2;
    calls = record { go = λ t sound pc p. reaches_weaker (pieces.starts.calls.go t sound pc p) (omega arith) (omega arith) (λ u there. there) };
    is_data = none;
    bytes = λ k byte less. absurd (omega (arith, less, ap (λ (xs : List ℕ). length xs) none));
    few_registers = omega arith;
  }
