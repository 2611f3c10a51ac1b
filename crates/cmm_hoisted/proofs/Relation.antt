-- Where activations stand over hoisted graphs, beside where they stand over the graphs before: at the same nodes, with temporaries that keep constants.
use Rattle.std.proofs.Common.{◌≡◌, ℕ, ◌<◌, ◌≤◌, ◌==◌, inl, inr, refl, sym, ◌∙◌, ap, subst, arith, List, length}
use Rattle.std.proofs.lemmas.Bool.{and_parts}
use Rattle.std.proofs.lemmas.Bool.Decides.{nat_tests}
use Rattle.std.proofs.lemmas.Option.{slice_get_within}
use Rattle.std.specs.Prelude.{slice_get, Bool, true, false, IsTrue, Option, Some, None}
use Rattle.std.specs.List.{list_all}
use Rattle.cmm_words.specs.declared.constant.Constant.{Constant}
use Rattle.cmm_program.specs.declared.procedure.Proc.{Proc}
use Rattle.cmm_program.specs.Acts.{evaluated}
use Rattle.cmm_program.specs.Layout.{constant_value}
use Rattle.cmm_program.specs.State.{Setting, Store}
use Rattle.cmm_program.specs.Writes.{reads_of}
use Rattle.cmm_graph.specs.Acting.{act_of, led}
use Rattle.cmm_graph.specs.Counterpart.{IsGraphOf}
use Rattle.cmm_graph.specs.GraphControl.{Position, behind, graph_control, in_graph, keeping, kind_at, kind_here, landed_at, moved_to, normal_of, temporaries_after, with_temporary}
use Rattle.cmm_graph.specs.GraphMachine.{tokens_at}
use Rattle.cmm_graph.specs.Laws.{OrderIsByReads, ValueIsByReads}
use Rattle.cmm_graph.specs.Paths.{landing_of, node_of}
use Rattle.cmm_graph.specs.Ranges.{is_copy_in, is_kind, is_step, is_variable, leads_to}
use Rattle.cmm_graph.specs.declared.graph.Graph.{Graph}
use Rattle.cmm_graph.specs.declared.node.Node.{Node}
use Rattle.cmm_graph.specs.declared.node.NodeKind.{NodeKind}
use Rattle.cmm_graph.specs.declared.node.NodeKind.TheVariants.{Assign, Entry}
use Rattle.cmm_graph.specs.declared.number.NodeId.{NodeId}
use Rattle.cmm_graph.specs.declared.number.Temporary.{Temporary}
use Rattle.cmm_graph.specs.declared.number.Variable.{Variable}
use Rattle.cmm_graph.specs.declared.operand.Destination.{Destination}
use Rattle.cmm_graph.specs.declared.operand.Destination.TheVariants as destination
use Rattle.cmm_graph.specs.declared.operand.Rvalue.{Rvalue}
use Rattle.cmm_hoist.specs.Graphs.{IsHoistedFrom, chain_start}
use Rattle.cmm_hoist.specs.Keeping.{NodeStandsFor, keeper}
use Rattle.cmm_hoisted.proofs.Landings.{behind_copy, kind_in_range, landing_to_copy, led_there, led_to_step, normal_to_copy}
use Rattle.cmm_hoisted.proofs.Nodes.{IsBlind, MayStand, entry_there, kind_same, lead, new_node, start_is}
use Rattle.cmm_hoisted.proofs.Orders.{order_same}

-- the graphs of a program before and now, each of which keeps at most so many constants
pub record Hoisted : Type 0 where
  pub setting : Setting
  pub olds : List Graph
  pub news : List Graph
  pub chained : ℕ

module _ (r : Hoisted) where
  -- a procedure of the program, with its graph before and now
  pub record HasGraphs (q : ℕ) : Type 0 where
    pub procedure : Proc
    pub old : Graph
    pub new : Graph
    pub is_old : slice_get r.olds q ≡ Some old
    pub is_new : slice_get r.news q ≡ Some new
    pub of : IsGraphOf r.setting.program procedure old
    pub hoisted : IsHoistedFrom old new
    pub few : length hoisted.kept ≤ r.chained

  -- the temporaries before hold the same now, and those of the constants from a number on hold these
  pub record Hold {q : ℕ} (of : HasGraphs q) (number : ℕ) (before now : Temporary → ℕ) : Type 0 where
    pub below : (t : Temporary) → t.number < of.old.temporaries → now t ≡ before t
    pub keeps : (k : ℕ) (constant : Constant) → slice_get of.hoisted.kept k ≡ Some constant → number ≤ k →
        now (keeper of.old.temporaries k) ≡ constant_value r.setting.program r.setting.placement constant

  -- an activation stands at one node in both graphs
  pub record Stand (c d : Position) : Type 0 where
    pub of : HasGraphs c.procedure
    pub procedure : d.procedure ≡ c.procedure
    pub node : d.node ≡ c.node
    pub step : IsTrue (leads_to of.old is_step c.node)
    pub hold : Hold of 0 c.temporaries d.temporaries

  -- An activation has come through a part of the chain: so many nodes of it are still to be done, before it comes to where the other one stands.
  pub record InChain (number : ℕ) (c d : Position) : Type 0 where
    pub of : HasGraphs c.procedure
    pub procedure : d.procedure ≡ c.procedure
    pub behind : c.node ≡ of.hoisted.next
    pub node : d.node ≡ lead of.old of.new of.hoisted number
    pub step : IsTrue (leads_to of.old is_step c.node)
    pub within : number ≤ length of.hoisted.kept
    pub hold : Hold of number c.temporaries d.temporaries

  abbrev pub Begin : Position → Position → Type 0
  Begin c d = (number : ℕ) × InChain number c d

  -- what a node is before and now
  pub record AreKinds {q : ℕ} (of : HasGraphs q) (n : NodeId) : Type 0 where
    pub old : Node
    pub new : Node
    pub is_old : node_of of.old n ≡ Some old
    pub is_new : node_of of.new n ≡ Some new
    pub before : kind_at r.olds q n ≡ old.kind
    pub now : kind_at r.news q n ≡ new.kind
    pub range : IsTrue (is_kind of.old old.kind)
    pub stands : NodeStandsFor of.old.temporaries of.hoisted.kept old new

-- ---- nodes

module _ {r : Hoisted} {q : ℕ} (of : HasGraphs r q) where
  -- where it is no Entry
  pub kinds : (test : NodeKind → Bool) (n : NodeId) → ((formals : List Variable) (next : NodeId) → test (Entry formals next) ≡ false) →
      IsTrue (leads_to of.old test n) → AreKinds r of n
  kinds test n no_entry leads =
      let found = led_there of.old test n leads in
      let now = new_node of.old of.new of.hoisted n found.node found.is in
      record {
        old = found.node;
        new = now.other;
        is_old = found.is;
        is_new = now.is_there;
        before = grind (arith, of.is_old, found.is);
        now = grind (arith, of.is_new, now.is_there);
        range = kind_in_range of.old of.of.valid n found.node found.is;
        stands = by found.node now.other now.stands found.passes;
      }
    where
      by : (a b : Node) → MayStand of.old of.new of.hoisted n a b → IsTrue (test a.kind) → NodeStandsFor of.old.temporaries of.hoisted.kept a b
      by a b (inl entries) passes =
          let same : test a.kind ≡ test (Entry of.hoisted.formals of.hoisted.next) = ap (λ (x : Node). test x.kind) entries.was in
          absurd (cc (same, no_entry of.hoisted.formals of.hoisted.next, passes))
      by a b (inr stands) passes = stands

  -- what looks at no operand is the same
  same_of : {A : Type 0} (n : NodeId) (is : AreKinds r of n) (f : NodeKind → A) → IsBlind f → f (kind_at r.news q n) ≡ f (kind_at r.olds q n)
  same_of n is f blind =
      ap f is.now ∙ (kind_same f blind of.old.temporaries of.hoisted.kept is.old.kind is.new.kind is.stands.kind ∙ sym (ap f is.before))

led_blind : (way : ℕ) → IsBlind (led way)
led_blind way = record { assigns = λ to v w next. refl; stores = λ width aligned a b c d next. refl; branches = λ t u then_ otherwise. refl }

behind_blind : (n : NodeId) → IsBlind (λ kind. behind kind n)
behind_blind n = record { assigns = λ to v w next. refl; stores = λ width aligned a b c d next. refl; branches = λ t u then_ otherwise. refl }

normal_blind : IsBlind normal_of
normal_blind = record { assigns = λ to v w next. refl; stores = λ width aligned a b c d next. refl; branches = λ t u then_ otherwise. refl }

written_blind : (way : ℕ) (t : Temporary → ℕ) → IsBlind (λ kind. temporaries_after way kind t)
written_blind way t = record { assigns = by; stores = λ width aligned a b c d next. refl; branches = λ t u then_ otherwise. refl }
  where
    by : (to : Destination) (v w : Rvalue) (next : NodeId) → temporaries_after way (Assign to w next) t ≡ temporaries_after way (Assign to v next) t
    by (destination.Target target) v w next = refl
    by (destination.Temporary u) v w next = refl

-- ---- one activation

module _ {r : Hoisted} {c d : Position} (is : Stand r c d) where
  abbrev of : HasGraphs r c.procedure
  of = is.of

  here : AreKinds r of c.node
  here = kinds of is_step c.node (λ formals next. refl) is.step

  -- the nodes of both graphs
  abbrev kind : NodeKind
  kind = kind_here r.olds c

  abbrev other : NodeKind
  other = kind_here r.news d

  other_at : other ≡ kind_at r.news c.procedure c.node
  other_at = ap (λ (q : ℕ). kind_at r.news q d.node) is.procedure ∙ ap (λ (n : NodeId). kind_at r.news c.procedure n) is.node

  other_is : other ≡ here.new.kind
  other_is = other_at ∙ here.now

  pub tokens_same : tokens_at r.news d ≡ tokens_at r.olds c
  tokens_same =
      ap (λ (q : ℕ). tokens_at r.news record { procedure = q; node = d.node; temporaries = d.temporaries }) is.procedure
      ∙ (ap (λ (n : NodeId). tokens_at r.news record { procedure = c.procedure; node = n; temporaries = d.temporaries }) is.node
      ∙ grind (arith, of.is_old, of.is_new, here.is_old, here.is_new, here.stands.tokens))

  -- what looks at no operand is the same here
  same_here : {A : Type 0} (f : NodeKind → A) → IsBlind f → f other ≡ f kind
  same_here f blind = ap f other_at ∙ same_of of c.node here f blind

  pub led_same : (way : ℕ) → led way other ≡ led way kind
  led_same way = same_here (led way) (led_blind way)

  -- the store is asked for the same
  pub asks_same : ValueIsByReads → OrderIsByReads → (store : Store) →
      evaluated (reads_of r.setting store) ((graph_control r.news).act d) ≡ evaluated (reads_of r.setting store) ((graph_control r.olds).act c)
  asks_same by_values by_reads store =
      ap (λ (k : NodeKind). evaluated (reads_of r.setting store) (act_of (keeping d) k)) other_is
      ∙ (order_same of.old of.hoisted.kept r.setting store c.temporaries d.temporaries is.hold.below
      (λ k constant kept. is.hold.keeps k constant kept (omega arith)) by_values by_reads here.old.kind here.new.kind here.stands.kind here.range
      ∙ sym (ap (λ (k : NodeKind). evaluated (reads_of r.setting store) (act_of (keeping c) k)) here.before))

  -- ---- where it goes on

  -- a temporary of the graph before is written
  with_both : (t : Temporary) (value : ℕ) → t.number < of.old.temporaries →
      Hold r of 0 (with_temporary t value c.temporaries) (with_temporary t value d.temporaries)
  with_both t value less = record {
    below = λ u small. ap (λ (x : ℕ). elim (u.number == t.number) as (λ _. ℕ) [ true ↦ value | false ↦ x ]) (is.hold.below u small);
    keeps = λ k constant kept from. grind (arith, nat_tests, less, is.hold.keeps k constant kept from);
  }

  written : (way : ℕ) (node : NodeKind) → IsTrue (is_kind of.old node) →
      Hold r of 0 (temporaries_after way node c.temporaries) (temporaries_after way node d.temporaries)
  written way (Assign (destination.Temporary t) value next) range = with_both t way (grind (arith, nat_tests, range))
  written way node range = is.hold

  moves : (before now : Temporary → ℕ) → Hold r of 0 before now → (to : Option NodeId) →
      ((n : NodeId) → to ≡ Some n → IsTrue (leads_to of.old is_step n)) →
      Stand r (moved_to to record c { temporaries = before }) (moved_to to record d { temporaries = now })
  moves before now hold (Some n) leads = record { of = of; procedure = is.procedure; node = refl; step = leads n refl; hold = hold }
  moves before now hold None leads = record { of = of; procedure = is.procedure; node = is.node; step = is.step; hold = hold }

  abbrev on_old : ℕ → Position
  on_old way = (graph_control r.olds).on way c

  pub on_stands : (way : ℕ) → Stand r (on_old way) ((graph_control r.news).on way d)
  on_stands way =
      let hold = subst (λ (k : NodeKind). Hold r of 0 (temporaries_after way k c.temporaries) (temporaries_after way k d.temporaries)) (sym here.before)
      (written way here.old.kind here.range) in
      let same : temporaries_after way other d.temporaries ≡ temporaries_after way kind d.temporaries =
      same_here (λ k. temporaries_after way k d.temporaries) (written_blind way d.temporaries) in
      subst (λ (to : Option NodeId). Stand r (on_old way) (moved_to to record d { temporaries = temporaries_after way other d.temporaries }))
      (sym (led_same way))
      (subst (λ (t : Temporary → ℕ). Stand r (on_old way) (moved_to (led way kind) record d { temporaries = t })) (sym same)
      (moves (temporaries_after way kind c.temporaries) (temporaries_after way kind d.temporaries) hold (led way kind)
      (λ n leads. led_to_step of.old way here.old.kind n here.range (sym (ap (led way) here.before) ∙ leads))))

  -- behind a CopyIn
  lands : (to : Option NodeId) → ((n : NodeId) → to ≡ Some n → IsTrue (leads_to of.old is_copy_in n)) →
      Stand r (landed_at r.olds to c) (landed_at r.news to d)
  lands None copies = is
  lands (Some n) copies =
      let there = kinds of is_copy_in n (λ formals next. refl) (copies n refl) in
      let copies_in : IsTrue (is_copy_in there.old.kind) = grind (arith, there.is_old, copies n refl) in
      record {
        of = of;
        procedure = is.procedure;
        node = ap (λ (q : ℕ). behind (kind_at r.news q n) n) is.procedure ∙ same_of of n there (λ k. behind k n) (behind_blind n);
        step = subst (λ (k : NodeKind). IsTrue (leads_to of.old is_step (behind k n))) (sym there.before)
            (behind_copy of.old there.old.kind n there.range copies_in);
        hold = is.hold;
      }

  pub back_stands : Stand r ((graph_control r.olds).back c) ((graph_control r.news).back d)
  back_stands =
      subst (λ (to : Option NodeId). Stand r ((graph_control r.olds).back c) (landed_at r.news to d)) (sym (same_here normal_of normal_blind))
      (lands (normal_of kind) (λ n leads. normal_to_copy of.old here.old.kind n here.range (sym (ap normal_of here.before) ∙ leads)))

  pub resume_stands : (k : ℕ) → Stand r ((graph_control r.olds).resume k c) ((graph_control r.news).resume k d)
  resume_stands k =
      let landing : Option NodeId = landing_of of.old record { number = k } in
      let was : in_graph r.olds c.procedure (λ g. landing_of g record { number = k }) ≡ landing = grind (arith, of.is_old) in
      let now : in_graph r.news d.procedure (λ g. landing_of g record { number = k }) ≡ landing =
      grind (arith, is.procedure, of.is_new, of.hoisted.continuations) in
      subst (λ (to : Option NodeId). Stand r (landed_at r.olds to c) ((graph_control r.news).resume k d)) (sym was)
      (subst (λ (to : Option NodeId). Stand r (landed_at r.olds landing c) (landed_at r.news to d)) (sym now)
      (lands landing (λ n leads. landing_to_copy of.old of.of.valid record { number = k } n leads)))

-- ---- a new activation

-- where it stands
abbrev at : ℕ → NodeId → Position
at q n = record { procedure = q; node = n; temporaries = λ t. 0 }

-- it begins at the chain, and the other one behind its Entry
pub begins_together : (r : Hoisted) (q : ℕ) → HasGraphs r q → Begin r ((graph_control r.olds).begin q) ((graph_control r.news).begin q)
begins_together r q of =
    let h = of.hoisted in
    let count = length h.kept in
    let first : in_graph r.olds q (λ g. Some g.first) ≡ Some of.old.first = grind (arith, of.is_old) in
    let other : in_graph r.news q (λ g. Some g.first) ≡ Some of.new.first = grind (arith, of.is_new) in
    let entry : kind_at r.olds q of.old.first ≡ Entry h.formals h.next = grind (arith, of.is_old, h.was) in
    let chained : kind_at r.news q of.new.first ≡ Entry h.formals (chain_start (length of.old.nodes) h.next h.kept) =
    grind (arith, of.is_new, entry_there of.old of.new h) in
    let was : (graph_control r.olds).begin q ≡ at q h.next =
    ap (λ (to : Option NodeId). landed_at r.olds to (at q record { number = 0 })) first ∙ ap (λ (k : NodeKind). at q (behind k of.old.first)) entry in
    let now : (graph_control r.news).begin q ≡ at q (lead of.old of.new h count) =
    ap (λ (to : Option NodeId). landed_at r.news to (at q record { number = 0 })) other
    ∙ (ap (λ (k : NodeKind). at q (behind k of.new.first)) chained ∙ ap (λ (n : NodeId). at q n) (start_is of.old of.new h)) in
    let range : IsTrue (is_kind of.old (Entry h.formals h.next)) = kind_in_range of.old of.of.valid of.old.first _ h.was in
    let begun : InChain r count (at q h.next) (at q (lead of.old of.new h count)) = record {
      of = of;
      procedure = refl;
      behind = refl;
      node = refl;
      step = (and_parts (list_all (is_variable of.old) h.formals) (leads_to of.old is_step h.next) range).1;
      within = omega arith;
      hold = record { below = λ t less. refl; keeps = λ k constant kept from. (let less = slice_get_within h.kept k constant kept in absurd (omega arith)) };
    } in
    subst (λ (c : Position). Begin r c ((graph_control r.news).begin q)) (sym was)
    (subst (λ (d : Position). Begin r (at q h.next) d) (sym now) (count, begun))
