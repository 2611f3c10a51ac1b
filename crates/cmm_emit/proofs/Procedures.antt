-- Each procedure of a program can be laid, over the context that is made for it.
use Rattle.std.proofs.Common.{◌≡◌, ℕ, zero, suc, ◌+◌, ◌<◌, ◌≤◌, ◌^◌, refl, sym, ◌∙◌, ap, subst, arith, Bool, true, false, List, [], ◌∷◌, length, map, get_or, Option, Some, None, slice_get}
use Rattle.std.specs.Prelude.{◌&&◌, ◌==◌, Contains, nat_le, nat_lt}
use Rattle.std.specs.List.{All, list_all}
use Rattle.std.proofs.lemmas.Bool.{and_parts, eqb-true, and_from}
use Rattle.std.proofs.lemmas.Bool.Decides.{nat_tests}
use Rattle.std.proofs.lemmas.List.{get_or_past, length-map}
use Rattle.std.proofs.lemmas.Option.{slice_get-get_or, slice_get_within}
use Rattle.rv_asm.specs.declared.part.Label.{Label}
use Rattle.cmm_bitset.proofs.Shared.{members_had}
use Rattle.cmm_bitset.specs.Sets.{has}
use Rattle.cmm_chain.specs.Plans.{is_place}
use Rattle.cmm_chain.specs.declared.frame.Frame.{Frame}
use Rattle.cmm_chain.specs.declared.frame.Location.{Location}
use Rattle.cmm_program.proofs.Shared.{all_get, list_all_get}
use Rattle.cmm_program.specs.declared.procedure.Cont.{Cont}
use Rattle.cmm_program.specs.declared.procedure.Proc.{Proc}
use Rattle.cmm_program.specs.declared.procedure.Target.{Target}
use Rattle.cmm_program.specs.declared.program.Program.{Program}
use Rattle.cmm_program.specs.InRange.{IsProcInRange}
use Rattle.cmm_program.specs.Placed.{is_pair_in, pairs_apart}
use Rattle.cmm_graph.specs.declared.graph.Graph.{Graph}
use Rattle.cmm_graph.specs.declared.node.Node.{Node}
use Rattle.cmm_graph.specs.declared.node.NodeKind.{NodeKind}
use Rattle.cmm_graph.specs.declared.number.NodeId.{NodeId}
use Rattle.cmm_graph.specs.Counterpart.{HasSite, IsGraphOf, names_operand, names_there, parameter_targets, reads_registers, taken_at, targets}
use Rattle.cmm_graph.specs.Paths.{node_of, operands}
use Rattle.cmm_graph.specs.Ranges.{is_copy_in, is_entry, is_kind, is_node, leads_to}
use Rattle.cmm_live.specs.declared.live_sets.LiveSets.{LiveSets}
use Rattle.cmm_live.specs.Exact.{AreLiveSets, set_at}
use Rattle.cmm_live.specs.Locals.{local_count}
use Rattle.cmm_emit_laws.specs.Laying.{FramesCanBeMade}
use Rattle.cmm_emit_laws.specs.ProgramCode.{names_register, names_registers}
use Rattle.cmm_unit_code.specs.declared.unit_code.Reference.{Reference}
use Rattle.cmm_emit.proofs.MentionedNodes.{is_mentioned, node_mentioned, takes_mentioned}
use Rattle.cmm_emit.proofs.Outlined.{IsIn, has_label}
use Rattle.cmm_emit.specs.Mentions.{graph_names}
use Rattle.cmm_allocate.specs.declared.procedure.ProcedurePlaces.{ProcedurePlaces}
use Rattle.cmm_allocate.specs.Compiling.{no_place}
use Rattle.cmm_allocate.specs.Places.{HasPlaces}
use Rattle.cmm_located.specs.Layouts.{row_with}
use Rattle.rv_table.specs.Memory.{code_base}
use Rattle.cmm_calls.specs.Frames.{CanBeMade}
use Rattle.cmm_flow.specs.Waiting.{WaitOnce}
use Rattle.cmm_emit.specs.Naming.{has_kind, label_at}
use Rattle.cmm_program.specs.Typing.{is_target}
use Rattle.cmm_emit.specs.declared.context.Context.{Context}
use Rattle.cmm_emit.specs.declared.context.Targets.{Targets}
use Rattle.cmm_emit.proofs.Fitting.{IsRow, all_below, pairs_inside, places_are, row_parts, stack_counted, stack_inside}
use Rattle.cmm_emit.proofs.Numbering.{length-labels_from}
use Rattle.cmm_emit.proofs.Named.{Has, kind_there, all_at}
use Rattle.cmm_emit.proofs.WaitingNodes.{waits_apart}
use Rattle.cmm_emit.specs.Contexts.{IsMadeFor, place_in}
use Rattle.cmm_emit.specs.LaidProcedures.{CanBeLaid}
use Rattle.cmm_flow.specs.Few.{PassFew, passes_few}

-- ---- what is made 0

set_short : (g : Graph) (sets : LiveSets) (n : ℕ) → AreLiveSets g sets → length (set_at sets.before n) ≤ local_count g
set_short g sets n are = by (nat_lt n (length g.nodes)) refl
  where
    by : (b : Bool) → nat_lt n (length g.nodes) ≡ b → length (set_at sets.before n) ≤ local_count g
    by true below =
        let less : n < length g.nodes = grind (arith, nat_tests, below) in omega (arith, (are.before.each record { number = n } less).size)
    by false below =
        let out : length g.nodes ≤ n = grind (arith, nat_tests, below) in
        let none : set_at sets.before n ≡ [] = get_or_past sets.before n [] (omega (arith, out, are.before.count)) in
        let size : length (set_at sets.before n) ≡ 0 = ap (λ (l : List Bool). length l) none in
        omega (arith, size)

has_within : (set : List Bool) (n : ℕ) → has set n ≡ true → n < length set
has_within [] n is = absurd (cc)
has_within (b ∷ set) zero is = omega arith
has_within (b ∷ set) (suc n) is = let rest = has_within set n is in omega (arith, rest)

-- a test of places holds of all that are listed below a number, if it holds of each
each_listed : (test : Location → Bool) (place : ℕ → Location) (count : ℕ) (ns : List ℕ) → ((n : ℕ) → n < count → test (place n) ≡ true) →
    ((n : ℕ) → Contains ns n → n < count) → list_all test (map place ns) ≡ true
each_listed test place count [] so below = refl
each_listed test place count (n ∷ ns) so below =
    and_from (test (place n)) (list_all test (map place ns)) (so n (below n (0, (omega arith), refl)))
    (each_listed test place count ns so (λ m there. below m (suc there.0, (let h = there.1 in omega (arith, h)), there.2)))

lt_test : (a b : ℕ) → a < b → nat_lt a b ≡ true
lt_test a b h = grind (arith, nat_tests, h)

le_test : (a b : ℕ) → a ≤ b → nat_le a b ≡ true
le_test a b h = grind (arith, nat_tests, h)

-- a node to which something leads is there
pub node_within : (g : Graph) (test : NodeKind → Bool) (n : NodeId) → leads_to g test n ≡ true → n.number < length g.nodes
node_within g test n is = by (node_of g n) refl is
  where
    by : (o : Option Node) → node_of g n ≡ o → elim o as (λ _. Bool) [ Some node ↦ test node.kind | None ↦ false ] ≡ true → n.number < length g.nodes
    by (Some node) there e = slice_get_within g.nodes n.number node there
    by None there e = absurd (cc)

-- what passes two tests, passes both at once
both_pass : {A : Type 0} (first second : A → Bool) (xs : List A) → list_all first xs ≡ true → list_all second xs ≡ true → list_all (λ x. first x && second x) xs ≡ true
both_pass first second [] one two = refl
both_pass first second (x ∷ xs) one two =
    let a = and_parts (first x) (list_all first xs) one in
    let b = and_parts (second x) (list_all second xs) two in
    and_from (first x && second x) (list_all (λ x. first x && second x) xs) (and_from (first x) (second x) a.0 b.0) (both_pass first second xs a.1 b.1)

-- ---- a procedure

module _ (p : Program) (q : Proc) (g : Graph) (k : ProcedurePlaces) (first : ℕ) (c : Context) (y : Targets)
    (range : IsProcInRange p q) (graph : IsGraphOf p q g) (found : HasPlaces q g k) (made : IsMadeFor q g k first c)
    (labels_there : (r : Reference) → IsIn p r → graph_names r g ≡ true → has_label y r ≡ true) where
  frame_is : c.frame ≡ k.frame
  frame_is = made.frame

  row : IsRow q (row_with code_base k.frame)
  row = row_parts q k.locals k.frame found.frame

  locals_counted : length k.locals ≡ local_count g
  locals_counted = found.locals.count

  zeroed_below : (n : ℕ) → Contains k.zeroed n → n < local_count g
  zeroed_below n there =
      let member = (members_had (set_at k.live.before g.first.number) n).0 (subst (λ (ns : List ℕ). Contains ns n) found.zeroed there) in
      let within = has_within (set_at k.live.before g.first.number) n member in
      omega (arith, within, set_short g k.live g.first.number found.live)

  zeroed_all : (test : Location → Bool) → ((n : ℕ) → n < local_count g → test (place_in k n) ≡ true) → list_all test c.zeroed ≡ true
  zeroed_all test so = subst (λ (ls : List Location). list_all test ls ≡ true) (sym made.zeroed) (each_listed test (place_in k) (local_count g) k.zeroed so zeroed_below)

  continuations_counted : length g.continuations ≡ length q.conts
  continuations_counted =
      sym (length-map g.continuations (taken_at g)) ∙ ap (λ (xs : List (Option (List Target))). length xs) graph.continuations
      ∙ length-map q.conts (λ (cont : Cont). Some (parameter_targets q cont))

  pairs_are : (length q.conts ≡ length k.frame.pairs) × (list_all (is_pair_in k.frame.size) k.frame.pairs ≡ true)
  pairs_are =
      let two = and_parts (length k.frame.pairs == length q.conts && list_all (is_pair_in k.frame.size) k.frame.pairs) (pairs_apart k.frame.pairs) row.pairs in
      let one = and_parts (length k.frame.pairs == length q.conts) (list_all (is_pair_in k.frame.size) k.frame.pairs) two.0 in
      (sym (eqb-true (length k.frame.pairs) (length q.conts) one.0), one.1)

  stack_below : (n : ℕ) → get_or k.frame.stack n 0 ≤ k.frame.size
  stack_below n = stack_inside q (row_with code_base k.frame) range.frames row.stackdata n

  pairs_below : (n : ℕ) → get_or k.frame.pairs n 0 ≤ k.frame.size
  pairs_below n = pairs_inside k.frame.size k.frame.pairs n pairs_are.1

  pub context_has : Has p q g c y
  context_has = record {
    variables = made.variables;
    places = ap (λ (ls : List Location). length ls) made.places ∙ found.locals.count;
    fine = subst (λ (ls : List Location). list_all (is_place c.frame) ls ≡ true) (sym made.places)
        (subst (λ (f : Frame). list_all (is_place f) k.locals ≡ true) (sym frame_is) found.frame.locals);
    zeroed = subst (λ (f : Frame). list_all (is_place f) c.zeroed ≡ true) (sym frame_is)
        (zeroed_all (is_place k.frame) (λ n less. all_at k.frame k.locals n no_place found.frame.locals (lt_test n (length k.locals) (omega (arith, less, locals_counted)))));
    nodes = sym (ap (λ (ls : List Label). length ls) made.nodes ∙ length-labels_from first (length g.nodes));
    sites = sym (ap (λ (ls : List Label). length ls) made.sites ∙ length-labels_from (first + length g.nodes) (length q.sites));
    landings = sym (ap (λ (ls : List Label). length ls) made.landings ∙ length-map g.continuations (λ (n : NodeId). label_at c.nodes n.number));
    pairs = continuations_counted ∙ pairs_are.0 ∙ sym (ap (λ (f : Frame). length f.pairs) frame_is);
    stack = stack_counted q (row_with code_base k.frame) row.stackdata ∙ sym (ap (λ (f : Frame). length f.stack) frame_is);
    offset_stack = λ n. subst (λ (f : Frame). nat_le (get_or f.stack n 0) f.size ≡ true) (sym frame_is) (le_test (get_or k.frame.stack n 0) k.frame.size (stack_below n));
    offset_pairs = λ n. subst (λ (f : Frame). nat_le (get_or f.pairs n 0) f.size ≡ true) (sym frame_is) (le_test (get_or k.frame.pairs n 0) k.frame.size (pairs_below n));
    named = labels_there;
  }

  -- each node names what is there
  module _ (named : list_all (λ node. names_registers p node.kind) g.nodes ≡ true) (few : PassFew g) where
    fine : (n : ℕ) (node : Node) → slice_get g.nodes n ≡ Some node → has_kind c y node.kind ≡ true
    fine n node is =
        let valid = (and_parts (nat_lt 0 node.tokens) (is_kind g node.kind) (list_all_get (is_node g) g.nodes n node graph.valid.nodes is)).1 in
        let names = list_all_get (λ node. names_there p q node.kind) g.nodes n node graph.names is in
        let two = and_parts (list_all (names_operand p q) (operands node.kind) && list_all (is_target p q) (targets node.kind)) (reads_registers p node.kind) names in
        let one = and_parts (list_all (names_operand p q) (operands node.kind)) (list_all (is_target p q) (targets node.kind)) two.0 in
        let there = and_parts (list_all (names_register p) (targets node.kind)) (reads_registers p node.kind) (list_all_get (λ node. names_registers p node.kind) g.nodes n node named is) in
        let mentioned = node_mentioned g n node is in
        kind_there p q g c y context_has node.kind (record {
          valid = valid;
          operands = both_pass (names_operand p q) (is_mentioned g) (operands node.kind) one.0 mentioned.operands;
          targets = both_pass (names_register p) (takes_mentioned g) (targets node.kind) there.0 mentioned.targets;
          registers = two.1;
          reads = mentioned.reads;
          few = list_all_get (λ node. passes_few node.kind) g.nodes n node few is;
          site = all_get (λ node. HasSite q g node.kind) g.nodes n node graph.sites is;
        })

    all_fine : (nodes : List Node) → ((n : ℕ) (node : Node) → slice_get nodes n ≡ Some node → has_kind c y node.kind ≡ true) →
        list_all (λ node. has_kind c y node.kind) nodes ≡ true
    all_fine [] each = refl
    all_fine (node ∷ nodes) each =
        and_from (has_kind c y node.kind) (list_all (λ node. has_kind c y node.kind) nodes) (each 0 node refl) (all_fine nodes (λ n other is. each (suc n) other is))

    lands_inside : All (λ n. n.number < length g.nodes) g.continuations
    lands_inside i d h =
        let n = get_or g.continuations i d in
        let is : leads_to g is_copy_in n ≡ true = list_all_get (leads_to g is_copy_in) g.continuations i n graph.valid.continuations (slice_get-get_or g.continuations i d h) in
        node_within g is_copy_in n is

    pub can_be_laid : FramesCanBeMade → WaitOnce g → CanBeLaid y c g
    can_be_laid made_by once =
        let can : CanBeMade c.frame = subst CanBeMade (sym frame_is) (made_by q k.locals k.frame range.frames found.frame) in
        let small : k.frame.size < 2 ^ 21 = subst (λ (f : Frame). f.size < 2 ^ 21) frame_is can.small in
        record {
          frame = can;
          places = places_are c.frame c.places can context_has.fine;
          stack = subst (λ (f : Frame). All (λ offset. offset < 2 ^ 21) f.stack) (sym frame_is) (all_below k.frame.stack k.frame.size small stack_below);
          pairs = subst (λ (f : Frame). All (λ offset. offset < 2 ^ 21) f.pairs) (sym frame_is) (all_below k.frame.pairs k.frame.size small pairs_below);
          landed = sym context_has.landings ∙ context_has.pairs;
          landings = lands_inside;
          kinds = all_fine g.nodes fine;
          first = node_within g is_entry g.first graph.valid.first;
          once = waits_apart g once;
        }
