use Rattle.std.proofs.Common.{◌≡◌, ℕ, ◌+◌, ◌<◌, ◌∙◌, Bool, true, List, [], ◌∷◌, ◌++◌, suc, length, length-append, map, reverse, set, get_or, ap, sym, refl, rules, arith}
use Rattle.std.specs.Prelude.{OnOk, Result, Ok, Err}
use Rattle.std.proofs.lemmas.List.{get_or_read, length-map, reverse-append}
use Rattle.cmm_digraph.specs.Graphs.{is_graph, mentions}
use Rattle.cmm_digraph.proofs.Counting.{among_first}
use Rattle.cmm_digraph.specs.declared.search.State.{State}
use Rattle.cmm_digraph.specs.declared.search.State.TheVariants.{New, Open, Closed}
use Rattle.cmm_digraph.specs.declared.search.Step.{Step}
use Rattle.cmm_digraph.specs.declared.search.Step.TheVariants.{Enter, Leave}
use Rattle.cmm_digraph.specs.inside.Components.{state_of}
use Rattle.cmm_digraph.specs.inside.Searched.{IsSearched, is_new, to_come}
use Rattle.cmm_digraph.proofs.Due.{due_node, entered, entered_last}
use Rattle.cmm_digraph.proofs.Entering.{entered_as, entered_old}
use Rattle.cmm_digraph.proofs.Leaving.{mentions_at}
use Rattle.cmm_digraph.proofs.Working.{to_come_set}
use Rattle.cmm_digraph.proofs.search.Search.enter.Goals as goal

-- the node that is entered
node_within : (graph : List (List ℕ)) → is_graph graph ≡ true → (states : List State) (open_ starts : List ℕ) (node : ℕ) (steps : List Step) (cyclic : List Bool) →
    IsSearched graph states open_ starts (Enter node ∷ steps) cyclic → node < length graph
node_within graph is states open_ starts node steps cyclic s = due_node graph is states open_ steps (node ∷ []) (length open_) s.due node (among_first node [])

state_is : (graph : List (List ℕ)) (states : List State) (node : ℕ) (read state : State) → node < length graph → length states ≡ length graph → read ≡ get_or states node read → read ≡ state →
    state_of states node ≡ state
state_is graph states node read state lt size at is = sym (get_or_read states node read (omega arith) at New) ∙ is

pub index-requires : goal.index-requires
index-requires c =
    let self = c.args.self.now in
    let s = c.requires.search in
    let size : length self.states.items ≡ length c.args.graph.now = s.size in
    let lt : c.args.node < length c.args.graph.now = node_within c.args.graph.now c.requires.graph self.states.items self.open.items self.starts.items c.args.node (reverse self.steps.items) self.cyclic.items s in
    omega arith

pub index_mut-requires : goal.index_mut-requires
index_mut-requires c =
    let self = c.args.self.now in
    let s = c.requires.search in
    let size : length self.states.items ≡ length c.args.graph.now = s.size in
    let lt : c.args.node < length c.args.graph.now = node_within c.args.graph.now c.requires.graph self.states.items self.open.items self.starts.items c.args.node (reverse self.steps.items) self.cyclic.items s in
    omega arith

pub bounds-graph-node : goal.bounds-graph-node
bounds-graph-node c =
    let self = c.args.self.now in
    node_within c.args.graph.now c.requires.graph self.states.items self.open.items self.starts.items c.args.node (reverse self.steps.items) self.cyclic.items c.requires.search

pub offset_bounds-graph-node : goal.offset_bounds-graph-node
offset_bounds-graph-node c =
    let self = c.args.self.now in
    let lt : c.args.node < length c.args.graph.now =
    node_within c.args.graph.now c.requires.graph self.states.items self.open.items self.starts.items c.args.node (reverse self.steps.items) self.cyclic.items c.requires.search in
    search rules

on_ok : {T E : Type 0} (r : Result T E) (P Q : Type 0) → (P → Q) → OnOk r P → OnOk r Q
on_ok (Ok x) P Q f h = f h
on_ok (Err e) P Q f h = h

steps_are : (old first steps : List Step) (place : ℕ) (nodes items : List ℕ) → first ≡ old ++ Leave place ∷ [] → items ≡ nodes → steps ≡ first ++ map Enter items →
    reverse steps ≡ entered nodes (Leave place ∷ reverse old)
steps_are old first steps place nodes items one same all =
    ap reverse (all ∙ ap (λ (q : List ℕ). first ++ map Enter q) same) ∙ entered_last nodes first ∙ ap (λ (q : List Step). entered nodes (reverse q)) one ∙ ap (entered nodes) (reverse-append old (Leave place ∷ []))

steps_more : (old first steps : List Step) (place : ℕ) (nodes items : List ℕ) → first ≡ old ++ Leave place ∷ [] → items ≡ nodes → steps ≡ first ++ map Enter items →
    length steps ≡ length old + suc (length nodes)
steps_more old first steps place nodes items one same all =
    let a : length steps ≡ length first + length (map Enter items) = ap length all ∙ length-append first (map Enter items) in
    let b : length (map Enter items) ≡ length nodes = length-map items Enter ∙ ap length same in
    let d : length first ≡ length old + 1 = ap length one ∙ length-append old (Leave place ∷ []) in omega arith

pub returns-in_ok-push-in-New-3-clause-search : goal.returns-in_ok-push-in-New-3-clause-search
returns-in_ok-push-in-New-3-clause-search c =
    let graph = c.args.graph.now in
    let self = c.args.self.now in
    let s = c.requires.search in
    let node = c.args.node in
    let lt = node_within graph c.requires.graph self.states.items self.open.items self.starts.items node (reverse self.steps.items) self.cyclic.items s in
    let here : c.len-place.result ≡ length self.open.items = omega arith in
    on_ok c.enter_all.result _ _
    (λ all. entered_as graph c.requires.graph self.states.items self.open.items self.starts.items node (reverse self.steps.items) self.cyclic.items s
    (state_is graph self.states.items node c.index.result.now New lt s.size c.index.ensures c.in-New.is)
    c.len-place.result c.push.new.self.items c.push-in-New.new.self.items (reverse c.enter_all.new.steps.items)
    here c.in_ok-push-in-New.ensures.items c.in_ok-push-in-New-2.ensures.items
    (steps_are self.steps.items c.push-in-New-2.new.self.items c.enter_all.new.steps.items c.len-place.result (mentions graph node) c.as_slice.result.now c.in_ok-push-in-New-3.ensures.items
    (mentions_at graph node node c.as_slice.result.now c.index-graph-node.result c.as_slice.ensures c.index-graph-node.is refl lt) all))
    c.enter_all.ensures

pub returns-in_ok-push-in-New-3-clause-work : goal.returns-in_ok-push-in-New-3-clause-work
returns-in_ok-push-in-New-3-clause-work c =
    let graph = c.args.graph.now in
    let self = c.args.self.now in
    let s = c.requires.search in
    let node = c.args.node in
    let lt : node < length graph = node_within graph c.requires.graph self.states.items self.open.items self.starts.items node (reverse self.steps.items) self.cyclic.items s in
    let size : length self.states.items ≡ length graph = s.size in
    let left : to_come (set self.states.items node (Open c.len-place.result)) graph + suc (length (mentions graph node)) ≡ to_come self.states.items graph =
    to_come_set self.states.items graph node (Open c.len-place.result) (omega arith) lt (state_is graph self.states.items node c.index.result.now New lt s.size c.index.ensures c.in-New.is) refl in
    on_ok c.enter_all.result _ _
    (λ all.
    let more : length c.enter_all.new.steps.items ≡ length self.steps.items + suc (length (mentions graph node)) =
    steps_more self.steps.items c.push-in-New-2.new.self.items c.enter_all.new.steps.items c.len-place.result (mentions graph node) c.as_slice.result.now c.in_ok-push-in-New-3.ensures.items
    (mentions_at graph node node c.as_slice.result.now c.index-graph-node.result c.as_slice.ensures c.index-graph-node.is refl lt) all in omega (arith, left, more))
    c.enter_all.ensures

pub returns-in-Open-clause-search : goal.returns-in-Open-clause-search
returns-in-Open-clause-search c =
    let self = c.args.self.now in
    let s = c.requires.search in
    let lt : c.args.node < length c.args.graph.now = node_within c.args.graph.now c.requires.graph self.states.items self.open.items self.starts.items c.args.node (reverse self.steps.items) self.cyclic.items s in
    entered_old c.args.graph.now self.states.items self.open.items self.starts.items c.args.node (reverse self.steps.items) self.cyclic.items s
    (ap is_new (state_is c.args.graph.now self.states.items c.args.node c.index.result.now (Open c.in-Open.field-0) lt s.size c.index.ensures c.in-Open.is))

pub returns-in-Closed-clause-search : goal.returns-in-Closed-clause-search
returns-in-Closed-clause-search c =
    let self = c.args.self.now in
    let s = c.requires.search in
    let lt : c.args.node < length c.args.graph.now = node_within c.args.graph.now c.requires.graph self.states.items self.open.items self.starts.items c.args.node (reverse self.steps.items) self.cyclic.items s in
    entered_old c.args.graph.now self.states.items self.open.items self.starts.items c.args.node (reverse self.steps.items) self.cyclic.items s
    (ap is_new (state_is c.args.graph.now self.states.items c.args.node c.index.result.now Closed lt s.size c.index.ensures c.in-Closed.is))
