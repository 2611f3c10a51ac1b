use Rattle.std.proofs.Common.{◌≡◌, ℕ, ◌-◌, ◌<◌, ◌≤◌, ◌∙◌, Bool, true, List, length, take, drop, Option, reverse, set, get_or, ap, sym, subst, rules, arith}
use Rattle.std.specs.Prelude.{is_some}
use Rattle.std.proofs.lemmas.List.{get_or_read, take_all, length-drop}
use Rattle.cmm_digraph.specs.Graphs.{are_below, mentions}
use Rattle.cmm_digraph.specs.declared.search.State.{State}
use Rattle.cmm_digraph.specs.declared.search.Step.{Step}
use Rattle.cmm_digraph.specs.inside.Components.{IsLowest, AreClosed}
use Rattle.cmm_digraph.specs.inside.Searched.{IsSearched, node_at, to_come}
use Rattle.cmm_digraph.proofs.Joining.{none_there}
use Rattle.cmm_digraph.proofs.Leaving.{closed_older, left_node, left_below, left_open, left_whole, starts_before, mentions_at}
use Rattle.cmm_digraph.proofs.Shortening.{mentions_below}
use Rattle.cmm_digraph.proofs.Working.{to_come_less}
use Rattle.cmm_digraph.proofs.search.Search.leave.Goals as goal

-- the node that is left
node_within : (graph : List (List ℕ)) (states : List State) (v node : ℕ) → v ≡ node → length states ≡ length graph → node < length states → v < length graph
node_within graph states v node same size lt = omega arith

all_dropped : (place : ℕ) (xs : List ℕ) → take (length xs - place) (drop place xs) ≡ drop place xs
all_dropped place xs = take_all (length xs - place) (drop place xs) (let size : length (drop place xs) ≡ length xs - place = length-drop place xs in omega arith)

-- its flag
flagged : (graph : List (List ℕ)) (states : List State) (open_ starts : List ℕ) (steps : List Step) (cyclic : List Bool) (v node : ℕ) (flag is : Bool) → v ≡ node → flag ≡ is →
    IsSearched graph states open_ starts steps (set cyclic node is) → IsSearched graph states open_ starts steps (set cyclic v flag)
flagged graph states open_ starts steps cyclic v node flag is same told s =
    subst (λ (q : List Bool). IsSearched graph states open_ starts steps q) (sym (ap (λ (n : ℕ). set cyclic n flag) same ∙ ap (set cyclic node) told)) s

pub bounds-graph-node : goal.bounds-graph-node
bounds-graph-node c =
    let self = c.args.self.now in
    let s = c.requires.search in
    node_within c.args.graph.now self.states.items c.index-node.result.now (node_at self.open.items c.args.place)
    (get_or_read self.open.items c.args.place c.index-node.result.now s.due.0 c.index-node.ensures 0) s.size
    (left_node c.args.graph.now self.states.items self.open.items self.starts.items c.args.place (reverse self.steps.items) self.cyclic.items s)

pub offset_bounds-graph-node : goal.offset_bounds-graph-node
offset_bounds-graph-node c =
    let self = c.args.self.now in
    let s = c.requires.search in
    let lt : c.index-node.result.now < length c.args.graph.now =
    node_within c.args.graph.now self.states.items c.index-node.result.now (node_at self.open.items c.args.place)
    (get_or_read self.open.items c.args.place c.index-node.result.now s.due.0 c.index-node.ensures 0) s.size
    (left_node c.args.graph.now self.states.items self.open.items self.starts.items c.args.place (reverse self.steps.items) self.cyclic.items s) in
    search rules

pub lowest_open-lowest-requires : goal.lowest_open-lowest-requires
lowest_open-lowest-requires c =
    let graph = c.args.graph.now in
    let self = c.args.self.now in
    let s = c.requires.search in
    let node = node_at self.open.items c.args.place in
    let lt : node < length self.states.items = left_node graph self.states.items self.open.items self.starts.items c.args.place (reverse self.steps.items) self.cyclic.items s in
    let size : length self.states.items ≡ length graph = s.size in
    let same : length c.as_slice-2.result.now ≡ length graph = ap length c.as_slice-2.ensures.value ∙ size in
    ap (λ n. are_below n c.as_slice.result.now) same
    ∙ ap (are_below (length graph)) (mentions_at graph c.index-node.result.now node c.as_slice.result.now c.index-graph-node.result c.as_slice.ensures c.index-graph-node.is
    (get_or_read self.open.items c.args.place c.index-node.result.now s.due.0 c.index-node.ensures 0) (omega arith))
    ∙ mentions_below graph c.requires.graph node

pub close-requires : goal.close-requires
close-requires c =
    let self = c.args.self.now in
    subst (λ (q : List ℕ). are_below (length self.states.items) (take (length q - c.args.place) (drop c.args.place q)) ≡ true) (sym c.deref.ensures.value)
    (ap (are_below (length self.states.items)) (all_dropped c.args.place self.open.items)
    ∙ left_below c.args.graph.now self.states.items self.open.items self.starts.items c.args.place (reverse self.steps.items) self.cyclic.items c.requires.search)

-- the lowest place of what the node mentions
lowest_is : (graph : List (List ℕ)) (v node : ℕ) (items row : List ℕ) (states states' : List State) (lowest : Option ℕ) → items ≡ row → row ≡ get_or graph v row → v ≡ node → node < length graph →
    states' ≡ states → IsLowest items states' lowest → IsLowest (mentions graph node) states lowest
lowest_is graph v node items row states states' lowest same at is lt seen low =
    subst (λ (q : List ℕ). IsLowest q states lowest) (mentions_at graph v node items row same at is lt) (subst (λ (q : List State). IsLowest items q lowest) seen low)

pub returns-then-cut-clause-search : goal.returns-then-cut-clause-search
returns-then-cut-clause-search c =
    let graph = c.args.graph.now in
    let self = c.args.self.now in
    let s = c.requires.search in
    let node = node_at self.open.items c.args.place in
    let read : c.index-node.result.now ≡ node = get_or_read self.open.items c.args.place c.index-node.result.now s.due.0 c.index-node.ensures 0 in
    let lt : node < length self.states.items = left_node graph self.states.items self.open.items self.starts.items c.args.place (reverse self.steps.items) self.cyclic.items s in
    let size : length self.states.items ≡ length graph = s.size in
    let lowest = c.lowest_open-lowest.result in
    let low : IsLowest (mentions graph node) self.states.items lowest =
    lowest_is graph c.index-node.result.now node c.as_slice.result.now c.index-graph-node.result self.states.items c.as_slice-2.result.now lowest c.as_slice.ensures c.index-graph-node.is read (omega arith)
    c.as_slice-2.ensures.value c.lowest_open-lowest.ensures in
    let shut : AreClosed (drop c.args.place self.open.items) self.states.items c.close.new.states.items =
    subst (λ (q : List ℕ). AreClosed q self.states.items c.close.new.states.items)
    (ap (λ (q : List ℕ). take (length q - c.args.place) (drop c.args.place q)) c.deref.ensures.value ∙ all_dropped c.args.place self.open.items) c.close.ensures in
    subst (λ (q : List ℕ). IsSearched graph c.close.new.states.items q c.cut.new.starts.items (reverse self.steps.items) (set self.cyclic.items c.index-node.result.now c.is_some.result))
    (sym c.truncate.ensures.items)
    (flagged graph c.close.new.states.items (take c.args.place self.open.items) c.cut.new.starts.items (reverse self.steps.items) self.cyclic.items c.index-node.result.now node
    c.is_some.result (is_some lowest) read c.is_some.ensures
    (left_whole graph c.requires.graph self.states.items self.open.items self.starts.items c.args.place (reverse self.steps.items) self.cyclic.items s lowest low c.join.new.starts.items c.join.ensures
    c.cut.new.starts.items (c.cut.ensures.off c.if-cut.true) c.close.new.states.items shut))

pub returns-then-cut-clause-work : goal.returns-then-cut-clause-work
returns-then-cut-clause-work c =
    let states = c.args.self.now.states.items in
    let fewer : to_come c.close.new.states.items c.args.graph.now ≤ to_come states c.args.graph.now =
    to_come_less states c.close.new.states.items c.args.graph.now c.close.ensures.size
    (closed_older (take (length c.deref.result.now - c.args.place) (drop c.args.place c.deref.result.now)) states c.close.new.states.items c.close.ensures) in
    omega arith

pub returns-else-cut-clause-search : goal.returns-else-cut-clause-search
returns-else-cut-clause-search c =
    let graph = c.args.graph.now in
    let self = c.args.self.now in
    let s = c.requires.search in
    let node = node_at self.open.items c.args.place in
    let read : c.index-node.result.now ≡ node = get_or_read self.open.items c.args.place c.index-node.result.now s.due.0 c.index-node.ensures 0 in
    let lt : node < length self.states.items = left_node graph self.states.items self.open.items self.starts.items c.args.place (reverse self.steps.items) self.cyclic.items s in
    let size : length self.states.items ≡ length graph = s.size in
    let lowest = c.lowest_open-lowest.result in
    let low : IsLowest (mentions graph node) self.states.items lowest =
    lowest_is graph c.index-node.result.now node c.as_slice.result.now c.index-graph-node.result self.states.items c.as_slice-2.result.now lowest c.as_slice.ensures c.index-graph-node.is read (omega arith)
    c.as_slice-2.ensures.value c.lowest_open-lowest.ensures in
    subst (λ (q : List ℕ). IsSearched graph self.states.items self.open.items q (reverse self.steps.items) (set self.cyclic.items c.index-node.result.now c.is_some.result))
    (sym (c.cut.ensures.same c.if-cut.false))
    (flagged graph self.states.items self.open.items c.join.new.starts.items (reverse self.steps.items) self.cyclic.items c.index-node.result.now node c.is_some.result (is_some lowest) read c.is_some.ensures
    (left_open graph c.requires.graph self.states.items self.open.items self.starts.items c.args.place (reverse self.steps.items) self.cyclic.items s lowest low c.join.new.starts.items c.join.ensures
    (none_there c.args.place c.join.new.starts.items c.join.ensures.ascending
    (starts_before graph c.requires.graph self.states.items self.open.items self.starts.items c.args.place (reverse self.steps.items) self.cyclic.items s lowest low c.join.new.starts.items c.join.ensures)
    (c.cut.ensures.other c.if-cut.false))))
