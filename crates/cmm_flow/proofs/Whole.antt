-- What is laid for a body, with the nodes of labels and continuations in front, is the flow of its procedure.
use Rattle.std.proofs.Common.{◌≡◌, ap₂, ℕ, zero, suc, ◌+◌, ◌*◌, ◌<◌, ◌≤◌, min, nat_lt, IsTrue, nat_le, Bool, true, false, Some, None, List, [], ◌∷◌, ◌++◌, append-nil, get_or, length, map, replicate, slice_get, refl, sym, ap, ◌∙◌, subst, arith}
use Rattle.std.proofs.lemmas.Bool.{and_parts}
use Rattle.std.proofs.lemmas.Bool.Decides.{nat_tests}
use Rattle.std.proofs.lemmas.List.{get_or-map, get_or-replicate, length-append, length-map, length-replicate}
use Rattle.std.proofs.lemmas.List.FromFn.{get_or-range_with_len, length-range_with_len}
use Rattle.std.proofs.lemmas.Option.{get_or_from_slice_get, slice_get-get_or, slice_get-map, slice_get_within}
use Rattle.std.proofs.lemmas.Slice.Zip.{length-zip}
use Rattle.std.specs.List.{list_all, range_with_len, zip}
use Rattle.std.specs.Option.{option_map}
use Rattle.cmm_program.specs.declared.procedure.Cont.{Cont}
use Rattle.cmm_program.specs.declared.procedure.Proc.{Proc}
use Rattle.cmm_program.specs.declared.statement.Form.TheVariants.{Span}
use Rattle.cmm_program.specs.declared.statement.Statement.{Statement}
use Rattle.cmm_program.specs.declared.program.Program.{Program}
use Rattle.cmm_program.specs.Errors.{with_some}
use Rattle.cmm_program.specs.InRange.{IsProcInRange}
use Rattle.cmm_program.specs.Bodies.{Mark, AtContinuation, AtLabel, after_inside, body_statements, follow}
use Rattle.cmm_program.specs.Numbering.{body_numbers, site_number}
use Rattle.cmm_graph.specs.declared.graph.Graph.{Graph}
use Rattle.cmm_graph.specs.declared.node.Node.{Node}
use Rattle.cmm_graph.specs.declared.node.NodeKind.TheVariants.{Entry, Goto, Stop}
use Rattle.cmm_graph.specs.declared.number.NodeId.{NodeId}
use Rattle.cmm_graph.specs.declared.number.Variable.{Variable}
use Rattle.cmm_graph.specs.Ranges.{is_step, leads_to}
use Rattle.cmm_graph.specs.Counterpart.{formals_of, parameter_targets, taken_at, taken_by}
use Rattle.cmm_flow.specs.declared.builder.Builder.{Builder}
use Rattle.cmm_flow.specs.Code.{IsNode}
use Rattle.cmm_flow.specs.Flow.{CoversParts, HasTokens, IsBehindLabel, IsFlow, IsFlowOf, IsLandedAt, IsShort, all_tokens}
use Rattle.cmm_flow.specs.Relation.{AreAll}
use Rattle.cmm_flow.specs.Statements.{ListCode}
use Rattle.cmm_flow.specs.Waiting.{WaitAtSites, times, waiting_sites}
use Rattle.cmm_flow.specs.inside.Fronts.{IsFinished, IsNew, copy_in, copy_ins, goto_nodes}
use Rattle.cmm_flow.specs.inside.Laying.{AreAsked, AreSteps, Asked, IsReady, LaysMarked, LaysNode, StandIn, label_of, leads_on, passes}
use Rattle.cmm_flow.specs.inside.LayingBlocks.{LaysBlock, block_sites, has_labels_below, passes_own}
use Rattle.cmm_flow.specs.inside.Marks.{FrontCode, LeadsBehind, LeadsBehindList, after_list}
use Rattle.cmm_flow.specs.inside.Nodes.{goto, nowhere, unled}
use Rattle.cmm_flow.proofs.Begins.{IsStep, list_begins, node_begins, one_step}
use Rattle.cmm_flow.proofs.Belongs.{belongs}
use Rattle.cmm_flow.proofs.Blocks.{after_span}
use Rattle.cmm_flow.proofs.Bounded.{room_of, statements_pass}
use Rattle.cmm_flow.proofs.Covered.{nodes_covered}
use Rattle.cmm_flow.proofs.Covering.{AreAll_more, at_most, copies_asked, each_passes, gotos_asked, less_at_most, list_all_more, span_of, test_at_most}
use Rattle.cmm_flow.proofs.Enough.{copies_enough, entry_enough, has_enough, statements_enough}
use Rattle.cmm_flow.proofs.FormsStay.{front_stays, leads_stay}
use Rattle.cmm_flow.proofs.Fronts.{fronts_sum, gotos_sum, label_count, labels_below}
use Rattle.cmm_flow.proofs.LaidTokens.{span_tokens}
use Rattle.cmm_flow.proofs.Laying.{and_both, both_pass, get_before, get_behind, stands_before, tokens-append, waiting_sites-append}
use Rattle.cmm_flow.proofs.Marking.{lays_marked, ready_later, then_marked}
use Rattle.cmm_flow.proofs.Marks.{follow_leads, front_list}
use Rattle.cmm_flow.proofs.PassingFew.{copies_few, entry_few, is_few, nodes_few, nodes_yield, statements_few}
use Rattle.cmm_flow.proofs.Ranged.{bounded, copies_belong, entry_belongs, names, nodes_ranged}
use Rattle.cmm_flow.proofs.TokensTogether.{statements_sum}
use Rattle.cmm_flow.proofs.TokensWithin.{form_within}
use Rattle.cmm_flow.proofs.WaitingSites.{copies_wait, gotos_wait, span_sites}

-- ---- elements of lists

get_map : {A B : Type 0} (f : A → B) (xs : List A) (n : ℕ) (x : A) → slice_get xs n ≡ Some x → slice_get (map f xs) n ≡ Some (f x)
get_map f xs n x is = slice_get-map f xs n ∙ ap (option_map f) is

get_replicate : {A : Type 0} (count n : ℕ) (x : A) → n < count → slice_get (replicate count x) n ≡ Some x
get_replicate count n x less =
    slice_get-get_or (replicate count x) n x (omega (arith, length-replicate count x, less)) ∙ ap Some (get_or-replicate count n x x less)

get_zip : {A B : Type 0} (xs : List A) (ys : List B) (n : ℕ) (x : A) (y : B) → slice_get xs n ≡ Some x → slice_get ys n ≡ Some y →
    slice_get (zip xs ys) n ≡ Some (x, y)
get_zip [] ys n x y is other = absurd (cc)
get_zip (z ∷ xs) [] n x y is other = absurd (cc)
get_zip (z ∷ xs) (w ∷ ys) zero x y is other = let one : z ≡ x = cc in let two : w ≡ y = cc in ap (λ v. Some (v, w)) one ∙ ap (λ v. Some (x, v)) two
get_zip (z ∷ xs) (w ∷ ys) (suc n) x y is other = get_zip xs ys n x y is other

there : {A : Type 0} (xs : List A) (n count : ℕ) (x : A) → length xs ≡ count → n < count → slice_get xs n ≡ Some (get_or xs n x)
there xs n count x many less = slice_get-get_or xs n x (omega (arith, many, less))

-- lists of the same elements
same_elements : {A : Type 0} (xs ys : List A) → length xs ≡ length ys → ((k : ℕ) → k < length xs → slice_get xs k ≡ slice_get ys k) → xs ≡ ys
same_elements [] [] many same = refl
same_elements [] (y ∷ ys) many same = absurd (omega (arith, many))
same_elements (x ∷ xs) [] many same = absurd (omega (arith, many))
same_elements (x ∷ xs) (y ∷ ys) many same =
    let first : Some x ≡ Some y = same 0 (omega arith) in
    let one : x ≡ y = cc in
    let rest = same_elements xs ys (omega (arith, many)) (λ k less. same (suc k) (omega (arith, less))) in
    ap (λ z. z ∷ xs) one ∙ ap (λ zs. y ∷ zs) rest

-- nodes that are numbered one after the other
get_numbered : (ns : List NodeId) (first count k : ℕ) → map (λ n. n.number) ns ≡ range_with_len first count → k < count →
    slice_get ns k ≡ Some record { number = first + k }
get_numbered ns first count k are less =
    let some : NodeId = record { number = 0 } in
    let many : length ns ≡ count = sym (length-map ns (λ n. n.number)) ∙ ap length are ∙ length-range_with_len first count in
    let number : (get_or ns k some).number ≡ first + k =
    sym (get_or-map (λ n. n.number) ns k some 0 (omega (arith, many, less))) ∙ ap (λ xs. get_or xs k 0) are ∙ get_or-range_with_len first count k 0 less in
    there ns k count some many less ∙ ap (λ n. Some record { number = n }) number

-- ---- the whole graph

module _ (q : Proc) (labels : ℕ) (a b c : Builder) (g : Graph) (formals : List Variable) (next begin : NodeId)
    (new : IsNew labels (length q.conts) a) (lacked : (l : ℕ) → labels ≤ l → after_list (AtLabel l) q.body ≡ None)
    (few : (limit : ℕ) → AreAll (has_labels_below limit) q.body → labels ≤ limit)
    (laid : LaysBlock a b q q.body next a.stop) (entry : LaysNode record { tokens = q.tokens; kind = Entry formals next } b c begin)
    (finished : IsFinished c q begin g) where
  ready : IsReady labels a
  ready = record { labels = ap length new.labels_lead ∙ length-replicate labels a.stop; stop = ap (λ nodes. slice_get nodes 0) new.nodes }

  abbrev node_of_label : ℕ → NodeId
  node_of_label l = label_of labels l

  whole : LaysMarked a c (λ nodes. FrontCode q nodes node_of_label q.body next a.stop × IsNode nodes begin q.tokens (Entry formals next))
      (λ nodes. LeadsBehindList q nodes node_of_label q.body a.stop)
  whole =
      then_marked _ _ (laid.lays labels ready) (lays_marked (λ nodes mark before after. after ≡ before) entry (λ nodes l n. refl) (λ nodes k n. refl))
      (λ nodes more. front_stays nodes more q node_of_label q.body next a.stop)
      (λ mark before after nodes more. leads_stay nodes more q node_of_label (after_list mark q.body) a.stop before after) (λ nodes f e. (f, e))
      (λ nodes mark before between after f e earlier same. subst (LeadsBehindList q nodes node_of_label q.body a.stop mark before) (sym same) earlier)

  -- ---- the nodes in front

  labels_many : length c.labels ≡ labels
  labels_many = whole.labels ∙ ready.labels

  continuations_many : length c.continuations ≡ length q.conts
  continuations_many = whole.continuations ∙ ap length new.continuations_lead ∙ length-replicate (length q.conts) a.stop

  abbrev gotos : List Node
  gotos = goto_nodes c.labels ++ goto_nodes (c.stop ∷ [])

  gotos_many : length gotos ≡ labels + 1
  gotos_many =
      length-append (goto_nodes c.labels) (goto_nodes (c.stop ∷ [])) ∙ ap (λ n. n + 1) (length-map {B = Node} c.labels (λ (n : NodeId). record { tokens = 1; kind = Goto n }) ∙ labels_many)

  abbrev front : List Node
  front = gotos ++ copy_ins q c.continuations

  copies_many : length (copy_ins q c.continuations) ≡ length q.conts
  copies_many =
      let size = length-zip q.conts c.continuations in
      length-map (zip q.conts c.continuations) (λ (x : Cont × NodeId). copy_in q x.0 x.1) ∙ size ∙ omega (arith, continuations_many)

  front_many : length front ≡ c.stop.number
  front_many =
      omega (arith, length-append gotos (copy_ins q c.continuations), gotos_many, copies_many, ap (λ (n : NodeId). n.number) whole.extends.stop, new.stop)

  abbrev all : List Node
  all = front ++ c.nodes

  in_front : (n : ℕ) (node : Node) → slice_get front n ≡ Some node → slice_get all n ≡ Some node
  in_front n node is = get_before front c.nodes n node is

  in_gotos : (n : ℕ) (node : Node) → slice_get gotos n ≡ Some node → slice_get all n ≡ Some node
  in_gotos n node is = in_front n node (get_before gotos (copy_ins q c.continuations) n node is)

  stop_is : IsNode all a.stop 1 Stop
  stop_is =
      get_behind front c.nodes 0 a.stop.number (omega (arith, front_many, ap (λ (n : NodeId). n.number) whole.extends.stop)) ∙ (ready_later whole ready).stop

  -- ---- what marks lead to

  abbrev Code : List Statement → NodeId → Type 0
  Code rest n = ListCode q g.nodes node_of_label rest n

  of_graph : (P : List Node → Type 0) → P all → P g.nodes
  of_graph P holds = subst P (sym finished.nodes) holds

  body_code : ListCode q all node_of_label q.body next
  body_code =
      subst (λ xs. ListCode q all node_of_label xs next) (append-nil q.body)
      (front_list q all node_of_label q.body [] next a.stop (whole.code front front_many).0 stop_is)

  behind_mark : (mark : Mark) (after : NodeId) → LeadsBehindList q all node_of_label q.body a.stop mark a.stop after →
      ListCode q all node_of_label (follow q mark) after
  behind_mark mark after leads =
      follow_leads q all node_of_label mark a.stop after stop_is
      (subst (λ o. LeadsBehind q all node_of_label o a.stop a.stop after) (sym (after_span mark q.body)) leads)

  has_label : (l : ℕ) → l < labels → IsBehindLabel q g node_of_label l
  has_label l less =
      let after = get_or c.labels l a.stop in
      let is = there c.labels l labels a.stop labels_many less in
      let before : slice_get a.labels l ≡ Some a.stop = ap (λ ns. slice_get ns l) new.labels_lead ∙ get_replicate labels l a.stop less in
      let node : slice_get all l ≡ Some record { tokens = 1; kind = Goto after } =
      in_gotos l _ (get_before (goto_nodes c.labels) (goto_nodes (c.stop ∷ [])) l _ (get_map (λ (n : NodeId). record { tokens = 1; kind = Goto n }) c.labels l after is)) in
      let at : min l labels ≡ l = omega (arith, less) in
      record {
        next = after;
        node = of_graph (λ nodes. IsNode nodes (node_of_label l) 1 (Goto after)) (ap (slice_get all) at ∙ node);
        code = of_graph (λ nodes. ListCode q nodes node_of_label (follow q (AtLabel l)) after)
            (behind_mark (AtLabel l) after ((whole.marks front front_many).labels l a.stop after before is));
      }

  lacks_label : (l : ℕ) → labels ≤ l → IsBehindLabel q g node_of_label l
  lacks_label l more =
      let node : slice_get all labels ≡ Some record { tokens = 1; kind = Goto c.stop } =
      in_gotos labels _ (get_behind (goto_nodes c.labels) (goto_nodes (c.stop ∷ [])) 0 labels
      (omega (arith, length-map {B = Node} c.labels (λ (n : NodeId). record { tokens = 1; kind = Goto n }), labels_many))) in
      let at : min l labels ≡ labels = omega (arith, more) in
      let lacks : after_inside (AtLabel l) (Span q.body) ≡ None = after_span (AtLabel l) q.body ∙ lacked l more in
      let nothing : follow q (AtLabel l) ≡ [] = ap (λ o. elim o as (λ _. List Statement) [ Some rest ↦ rest | None ↦ [] ]) lacks in
      record {
        next = c.stop;
        node = of_graph (λ nodes. IsNode nodes (node_of_label l) 1 (Goto c.stop)) (ap (slice_get all) at ∙ node);
        code = of_graph (λ nodes. ListCode q nodes node_of_label (follow q (AtLabel l)) c.stop)
            (subst (λ rest. ListCode q all node_of_label rest c.stop) (sym nothing)
            (subst (λ n. IsNode all n 1 Stop) (sym whole.extends.stop) stop_is));
      }

  label : (l : ℕ) → IsBehindLabel q g node_of_label l
  label l = by (nat_lt l labels) refl
    where
      by : (b : Bool) → nat_lt l labels ≡ b → IsBehindLabel q g node_of_label l
      by true is = let less : l < labels = grind (arith, nat_tests, is) in has_label l less
      by false is = let more : labels ≤ l = grind (arith, nat_tests, is) in lacks_label l more

  continuation : (k : ℕ) → k < length q.conts → IsLandedAt q g node_of_label k
  continuation k less =
      let after = get_or c.continuations k a.stop in
      let is = there c.continuations k (length q.conts) a.stop continuations_many less in
      let before : slice_get a.continuations k ≡ Some a.stop =
      ap (λ ns. slice_get ns k) new.continuations_lead ∙ get_replicate (length q.conts) k a.stop less in
      let cont = get_or q.conts k record { params = [] } in
      let cont_is : slice_get q.conts k ≡ Some cont = slice_get-get_or q.conts k record { params = [] } less in
      let number = length c.labels + 1 + k in
      let node : slice_get all number ≡ Some (copy_in q cont after) =
      in_front number _ (get_behind gotos (copy_ins q c.continuations) k number (omega (arith, gotos_many, labels_many))
      ∙ get_map (λ (x : Cont × NodeId). copy_in q x.0 x.1) (zip q.conts c.continuations) k (cont, after) (get_zip q.conts c.continuations k cont after cont_is is)) in
      record {
        at = record { number = number };
        tokens = suc (length cont.params);
        to = parameter_targets q cont;
        next = after;
        landing = get_numbered g.continuations (length c.labels + 1) (length c.continuations) k finished.continuations (omega (arith, continuations_many, less));
        node = of_graph (λ nodes. slice_get nodes number ≡ Some (copy_in q cont after)) node;
        code = of_graph (λ nodes. ListCode q nodes node_of_label (follow q (AtContinuation k)) after)
            (behind_mark (AtContinuation k) after ((whole.marks front front_many).continuations k a.stop after before is));
      }

  -- ---- the parts that a graph has of its procedure

  copy_there : (k : ℕ) (cont : Cont) → slice_get q.conts k ≡ Some cont →
      slice_get all (length c.labels + 1 + k) ≡ Some (copy_in q cont (get_or c.continuations k a.stop))
  copy_there k cont is =
      let less : k < length q.conts = slice_get_within q.conts k cont is in
      let after = get_or c.continuations k a.stop in
      let led = there c.continuations k (length q.conts) a.stop continuations_many less in
      in_front (length c.labels + 1 + k) _
      (get_behind gotos (copy_ins q c.continuations) k (length c.labels + 1 + k) (omega (arith, gotos_many, labels_many))
      ∙ get_map (λ (x : Cont × NodeId). copy_in q x.0 x.1) (zip q.conts c.continuations) k (cont, after) (get_zip q.conts c.continuations k cont after is led))

  landings_many : length g.continuations ≡ length q.conts
  landings_many =
      sym (length-map g.continuations (λ (n : NodeId). n.number)) ∙ ap length finished.continuations
      ∙ length-range_with_len (length c.labels + 1) (length c.continuations) ∙ continuations_many

  landing_takes : (k : ℕ) → k < length q.conts →
      slice_get (map (taken_at g) g.continuations) k ≡ slice_get (map (λ c. Some (parameter_targets q c)) q.conts) k
  landing_takes k less =
      let cont = get_or q.conts k record { params = [] } in
      let is : slice_get q.conts k ≡ Some cont = slice_get-get_or q.conts k record { params = [] } less in
      let at : NodeId = record { number = length c.labels + 1 + k } in
      let landing = get_numbered g.continuations (length c.labels + 1) (length c.continuations) k finished.continuations (omega (arith, continuations_many, less)) in
      let node = ap (λ nodes. slice_get nodes at.number) finished.nodes ∙ copy_there k cont is in
      get_map (taken_at g) g.continuations k at landing ∙ ap (λ o. Some (with_some o (λ node. taken_by node.kind))) node
      ∙ sym (get_map (λ (c : Cont). Some (parameter_targets q c)) q.conts k cont is)

  entry_there : slice_get g.nodes g.first.number ≡ Some record { tokens = q.tokens; kind = Entry formals next }
  entry_there =
      ap (λ nodes. slice_get nodes g.first.number) finished.nodes ∙ ap (λ (n : NodeId). slice_get all n.number) finished.first ∙ (whole.code front front_many).1

  is_flow : IsFlowOf q g
  is_flow = record {
    label_node = node_of_label;
    begun = record {
      formals = formals;
      next = next;
      node = entry_there;
      code = of_graph (λ nodes. ListCode q nodes node_of_label q.body next) body_code;
    };
    labels = label;
    continuations = continuation;
  }

  -- ---- what passes of all nodes

  stands : StandIn c g
  stands = record { front = front; later = []; many = front_many; nodes = finished.nodes ∙ sym (append-nil all) }

  labels_step : (l : ℕ) → IsStep g (node_of_label l)
  labels_step l = node_begins g (node_of_label l) 1 (Goto (label l).next) (label l).node refl

  stop_step : IsStep g a.stop
  stop_step = node_begins g a.stop 1 Stop (of_graph (λ nodes. IsNode nodes a.stop 1 Stop) stop_is) refl

  list_step : (rest : List Statement) (n : NodeId) → Code rest n → IsStep g n
  list_step rest n code = list_begins g q node_of_label rest n code labels_step

  marks_step : (ns : List NodeId) → ((k : ℕ) → k < length ns → IsStep g (get_or ns k a.stop)) → AreSteps g ns
  marks_step ns steps =
      each_passes (leads_to g is_step) ns (λ k n is. subst (IsStep g) (get_or_from_slice_get ns k n a.stop is) (steps k (slice_get_within ns k n is)))

  labels_lead : AreSteps g c.labels
  unfolding has_label
  labels_lead =
      marks_step c.labels (λ l less. let within : l < labels = omega (arith, less, labels_many) in list_step (follow q (AtLabel l)) _ (has_label l within).code)

  continuations_lead : AreSteps g c.continuations
  unfolding continuation
  continuations_lead =
      marks_step c.continuations
      (λ k less. let within : k < length q.conts = omega (arith, less, continuations_many) in list_step (follow q (AtContinuation k)) _ (continuation k within).code)

  -- a test that the nodes of all statements pass, and those in front and at the ends
  pub all_asked : (test : Node → Bool) → IsTrue (test goto) → IsTrue (test record { tokens = 1; kind = Stop }) → AreAll (passes_own q test) q.body →
      IsTrue (test (unled record { tokens = q.tokens; kind = Entry formals next })) → IsTrue (list_all (λ k. test (unled (copy_in q k nowhere))) q.conts) →
      AreAsked record { test = test; graph = g } g.nodes
  all_asked test gotos_pass stop_passes body_passes entry_passes copies_pass =
      let asked : Asked = record { test = test; graph = g } in
      let in_b = stands_before g entry.extends stands in
      let stop : IsTrue (passes asked record { tokens = 1; kind = Stop }) = and_both (test record { tokens = 1; kind = Stop }) true stop_passes refl in
      let first : AreAsked asked a.nodes = subst (AreAsked asked) (sym new.nodes) (and_both (passes asked record { tokens = 1; kind = Stop }) true stop refl) in
      let body = laid.keeps labels ready asked in_b (record { labels = labels_step; next = stop_step }, body_passes) first in
      let behind =
      entry.keeps asked stands record {
        test = and_both (test (unled record { tokens = q.tokens; kind = Entry formals next })) true entry_passes refl;
        steps = one_step g next (list_step q.body next (of_graph (λ nodes. ListCode q nodes node_of_label q.body next) body_code));
        copy_ins = refl;
      } body in
      let stop_leads : AreSteps g (c.stop ∷ []) = subst (λ n. AreSteps g (n ∷ [])) (sym whole.extends.stop) (one_step g a.stop stop_step) in
      let marks =
      both_pass (passes asked) (goto_nodes c.labels) (goto_nodes (c.stop ∷ [])) (gotos_asked asked c.labels gotos_pass labels_lead)
      (gotos_asked asked (c.stop ∷ []) gotos_pass stop_leads) in
      let front = both_pass (passes asked) gotos (copy_ins q c.continuations) marks (copies_asked asked q q.conts c.continuations copies_pass continuations_lead) in
      of_graph (AreAsked asked) (both_pass (passes asked) _ c.nodes front behind)

  -- ---- tokens

  gives_tokens : CoversParts q → HasTokens q g
  gives_tokens covers =
      let most = q.tokens in
      let accesses = covers.sites.accesses in
      let one = test_at_most 1 most (omega (arith, accesses)) in
      let body = AreAll_more (λ (s : Statement). nat_le s.tokens most) (passes_own q (λ (node : Node). nat_le node.tokens most))
      (λ s fit. form_within q most covers.sites s.tokens (at_most s.tokens most fit) s.form) q.body (span_of (λ (s : Statement). nat_le s.tokens most) q.body covers.statements) in
      tested (λ (node : Node). nat_le node.tokens most) g.nodes
      (all_asked (λ (node : Node). nat_le node.tokens most) one one body (test_at_most most most (omega arith))
      (list_all_more (λ (k : Cont). nat_lt (length k.params) most) (λ (k : Cont). nat_le (suc (length k.params)) most) (λ k less. less_at_most (length k.params) most less) q.conts covers.parameters))
    where
      tested : (test : Node → Bool) (nodes : List Node) → AreAsked record { test = test; graph = g } nodes → IsTrue (list_all (λ node. test (unled node)) nodes)
      tested test [] are = refl
      tested test (node ∷ nodes) are =
          let x : Asked = record { test = test; graph = g } in
          let both = and_parts (passes x node) (list_all (passes x) nodes) are in
          and_both (test (unled node)) (list_all (λ (n : Node). test (unled n)) nodes) (and_parts (test (unled node)) (leads_on g node.kind) both.0).0 (tested test nodes both.1)

  gives_short : (p : Program) → IsProcInRange p q → IsShort q g
  gives_short p range =
      let counts = range.counts in
      let many = few (label_count q) (span_of (has_labels_below (label_count q)) q.body (labels_below p q range)) in
      of_graph (λ nodes. all_tokens nodes ≤ 2 * q.tokens + 2)
      (omega (
        arith,
        tokens-append front c.nodes,
        tokens-append gotos (copy_ins q c.continuations),
        tokens-append (goto_nodes c.labels) (goto_nodes (c.stop ∷ [])),
        gotos_sum c.labels,
        labels_many,
        many,
        fronts_sum p q range c.continuations,
        entry.adds,
        laid.adds,
        ap all_tokens new.nodes,
        span_tokens q q.body,
        statements_sum p q (body_statements q) range.body,
        counts,
      ))

  -- ---- sites

  front_waits : waiting_sites front ≡ []
  front_waits =
      waiting_sites-append gotos (copy_ins q c.continuations)
      ∙ ap₂ (λ xs ys. xs ++ ys)
      (waiting_sites-append (goto_nodes c.labels) (goto_nodes (c.stop ∷ [])) ∙ ap (λ xs. xs ++ []) (gotos_wait c.labels))
      (copies_wait q q.conts c.continuations)

  all_wait : waiting_sites all ≡ waiting_sites c.nodes
  all_wait = waiting_sites-append front c.nodes ∙ ap (λ xs. xs ++ waiting_sites c.nodes) front_waits

  gives_waits : WaitAtSites q g
  gives_waits site =
      let first : times site (waiting_sites a.nodes) ≡ 0 = ap (λ nodes. times site (waiting_sites nodes)) new.nodes in
      let numbers : times site (block_sites q.body) ≡ times site (body_numbers site_number q) = ap (times site) (sym (span_sites q.body)) in
      of_graph (λ nodes. times site (waiting_sites nodes) ≤ times site (body_numbers site_number q))
      (omega (arith, laid.waits site, entry.waits site, first, numbers, ap (times site) all_wait))

  -- ---- what they name

  nodes_belong : map (λ (v : Variable). v.number) formals ≡ range_with_len 0 q.formals → (p : Program) → IsProcInRange p q →
      AreAsked record { test = belongs p q (room_of p q); graph = g } g.nodes
  nodes_belong numbers p range =
      let limit = room_of p q in
      all_asked (belongs p q limit) refl refl (span_of (passes_own q (belongs p q limit)) q.body (statements_pass p q range))
      (entry_belongs p q limit range formals numbers) (copies_belong p q limit range)

  -- ---- what they cover

  nodes_enough : map (λ (v : Variable). v.number) formals ≡ range_with_len 0 q.formals → (p : Program) → IsProcInRange p q →
      AreAsked record { test = has_enough q; graph = g } g.nodes
  nodes_enough numbers p range =
      all_asked (has_enough q) refl refl (span_of (passes_own q (has_enough q)) q.body (statements_enough p q range)) (entry_enough p q range formals numbers)
      (copies_enough p q q.conts)

  nodes_asked_few : map (λ (v : Variable). v.number) formals ≡ range_with_len 0 q.formals → (p : Program) → IsProcInRange p q →
      AreAsked record { test = is_few q; graph = g } g.nodes
  nodes_asked_few numbers p range =
      all_asked (is_few q) refl refl (span_of (passes_own q (is_few q)) q.body (statements_few p q range)) (entry_few p q range formals numbers)
      (copies_few p q range)

  pub is_answered : map (λ (v : Variable). v.number) formals ≡ range_with_len 0 q.formals → IsFlow q g
  is_answered numbers = record {
    flow = is_flow;
    tokens = gives_tokens;
    waits = gives_waits;
    names = λ p range. names p q g range (nodes_belong numbers p range) finished.temporaries finished.variables landings_many;
    nodes = λ p range sites. nodes_ranged p q g range (nodes_belong numbers p range) finished.temporaries finished.variables landings_many sites;
    short = gives_short;
    bounded = λ p range. bounded p q g range (nodes_belong numbers p range) finished.temporaries finished.variables landings_many;
    few = λ p range sites. nodes_few q g (nodes_asked_few numbers p range) sites;
    yields = λ p range. nodes_yield q g (nodes_asked_few numbers p range);
    covered = λ p range sites. nodes_covered q g (nodes_enough numbers p range) sites;
    variables = finished.variables;
    formals = ap (λ o. with_some o (λ node. formals_of node.kind)) entry_there ∙ ap Some numbers;
    continuations =
        same_elements (map (taken_at g) g.continuations) (map (λ c. Some (parameter_targets q c)) q.conts)
        (length-map g.continuations (taken_at g) ∙ landings_many ∙ sym (length-map q.conts (λ (c : Cont). Some (parameter_targets q c))))
        (λ k less. landing_takes k (omega (arith, length-map g.continuations (taken_at g), landings_many, less)));
  }
