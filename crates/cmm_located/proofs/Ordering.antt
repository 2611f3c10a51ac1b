-- the same orders over locations as over graphs
use Rattle.std.proofs.Common.{◌≡◌, ℕ, ◌+◌, ◌-◌, ◌≤◌, true, false, List, [], ◌∷◌, Some, None, Ok, arith, refl, sym, ap, ◌∙◌}
use Rattle.std.specs.Prelude.{nat_lt, slice_index_or}
use Rattle.std.proofs.lemmas.Bool.Decides.{nat_tests}
use Rattle.std.proofs.Math.Path.{fun_ext}
use Rattle.std.proofs.lemmas.List.Sums.{sum_by-cons}
use Rattle.cmm_program.specs.Acts.{evaluated}
use Rattle.cmm_program.specs.Control.{State}
use Rattle.cmm_program.specs.Frames.{place_row, frame_size, sum_of_sizes, continuation_value, stackdata_address}
use Rattle.cmm_program.specs.Memory.{Memory, cell_at}
use Rattle.cmm_program.specs.State.{Setting, Activation, Store, stack_top}
use Rattle.cmm_program.specs.Values.{Reads}
use Rattle.cmm_program.specs.Writes.{reads_of, variables_of}
use Rattle.cmm_graph.specs.declared.operand.Local.{Local}
use Rattle.cmm_graph.specs.declared.operand.Local.TheVariants as local
use Rattle.cmm_graph.specs.declared.node.NodeKind.{NodeKind}
use Rattle.cmm_graph.specs.Acting.{act_of}
use Rattle.cmm_graph.specs.GraphControl as graph
use Rattle.cmm_graph.specs.GraphControl.{Position, held_by}
use Rattle.cmm_graph.specs.Laws.{HoldAlike, OrderIsByReads}
use Rattle.cmm_graph.specs.Paths.{reads}
use Rattle.cmm_graph.specs.Ranges.{is_local}
use Rattle.cmm_live.specs.Locals.{local_number}
use Rattle.cmm_chain.specs.Chain.{IsChain, chain_size, behind, Point}
use Rattle.cmm_chain.specs.Contents.{Contents}
use Rattle.cmm_chain.specs.Running.{held}
use Rattle.cmm_chain.proofs.Shared.{frames_reach_top}
use Rattle.cmm_located.specs.Compiled.{Compiled, Located, number_in}
use Rattle.cmm_located.specs.Nodes.{keeping, number_of, reads_at}
use Rattle.cmm_located.specs.Relation.{Liveness, AllWait, Runs, suspensions, value_at, variable_count}
use Rattle.cmm_located.specs.SameOrders.{HasFrames, ReadsAreLive, FrameIsThere, SameOrders}

-- ---- where the frame is

-- the frames of a chain are as large as those of its activations
pub same_sizes : (s : Setting) (c : Compiled) (frames : HasFrames s c) (top : ℕ) (contents : Contents) (activations : List Activation) (ps : List Position) (point : Point) →
    AllWait c.graphs activations ps → IsChain c.plan top contents (suspensions c.graphs activations ps) point →
    chain_size c.plan (suspensions c.graphs activations ps) ≡ sum_of_sizes s activations
same_sizes s c frames top contents [] [] point waits chain = refl
same_sizes s c frames top contents (a ∷ older) (p ∷ ps) point waits chain =
    let rest = same_sizes s c frames top contents older ps (behind c.plan contents a.procedure point) waits.1 chain.1 in
    omega (arith, rest, frames.size a.procedure chain.0.exists, sum_by-cons (frame_size s) a older)
same_sizes s c frames top contents [] (p ∷ ps) point waits chain = absurd waits
same_sizes s c frames top contents (a ∷ older) [] point waits chain = absurd waits

pub frame_is_there : FrameIsThere
frame_is_there s c live a older p ps at frames runs =
    let next = behind c.plan at.holdings.contents a.procedure at.holdings.point in
    let reach = frames_reach_top c.plan (stack_top s) at.holdings.contents (suspensions c.graphs older ps) next runs.framed.chain in
    let sizes = same_sizes s c frames (stack_top s) at.holdings.contents older ps next runs.waits runs.framed.chain in
    let own = frames.size a.procedure runs.exists in
    omega (arith, reach, sizes, own, sum_by-cons (frame_size s) a older)

-- ---- what is read

module _ (s : Setting) (c : Compiled) (live : Liveness) (st : State Position) (a : Activation) (older : List Activation) (p : Position) (ps : List Position)
    (at : Located) (frames : HasFrames s c) (is_youngest : st.store.activations ≡ a ∷ older)
    (is_store : at.store ≡ record st.store { activations = at.store.activations }) (runs : Runs s c live a older p ps at) where
  abbrev pub variables : ℕ → ℕ
  variables n = slice_index_or a.variables n 0

  -- the same, by fields
  abbrev reads_from : (ℕ → ℕ) → (ℕ → ℕ) → (ℕ → ℕ) → List ℕ → Memory → Reads
  reads_from values stackdata continuation registers memory = record (reads_of s st.store) {
    variable = values;
    register = λ n. slice_index_or registers n 0;
    stackdata = stackdata;
    continuation = continuation;
    byte = cell_at memory;
  }

  same_stackdata : (n : ℕ) → at.holdings.point.at + slice_index_or (c.plan.frame at.procedure).stack n 0 ≡ stackdata_address s st.store.activations n
  same_stackdata n =
      ap (λ q. at.holdings.point.at + slice_index_or (c.plan.frame q).stack n 0) runs.same
      ∙ (ap (λ l. at.holdings.point.at + slice_index_or l n 0) (frames.stack a.procedure runs.exists)
      ∙ (ap (λ f. f + slice_index_or (place_row s a.procedure).stack n 0) (frame_is_there s c live a older p ps at frames runs)
      ∙ sym (ap (λ activations. stackdata_address s activations n) is_youngest)))

  same_continuation : (k : ℕ) → at.holdings.point.at + slice_index_or (c.plan.frame at.procedure).pairs k 0 ≡ continuation_value s st.store.activations k
  same_continuation k =
      ap (λ q. at.holdings.point.at + slice_index_or (c.plan.frame q).pairs k 0) runs.same
      ∙ (ap (λ l. at.holdings.point.at + slice_index_or l k 0) (frames.pairs a.procedure runs.exists)
      ∙ (ap (λ f. f + slice_index_or (place_row s a.procedure).pairs k 0) (frame_is_there s c live a older p ps at frames runs)
      ∙ sym (ap (λ activations. continuation_value s activations k) is_youngest)))

  pub same_reads : record (reads_at s c at) { variable = variables } ≡ reads_of s st.store
  same_reads =
      let first : record (reads_at s c at) { variable = variables } ≡ reads_from variables (stackdata_address s st.store.activations) (continuation_value s st.store.activations) st.store.registers st.store.memory =
      ap (λ (f : ℕ → ℕ). record (reads_at s c at) { variable = variables; stackdata = f }) (fun_ext same_stackdata)
      ∙ (ap (λ (f : ℕ → ℕ). record (reads_at s c at) { variable = variables; stackdata = stackdata_address s st.store.activations; continuation = f }) (fun_ext same_continuation)
      ∙ ap (λ (store : Store). reads_from variables (stackdata_address s st.store.activations) (continuation_value s st.store.activations) store.registers store.memory) is_store) in
      first ∙ ap (λ (values : ℕ → ℕ). reads_from values (stackdata_address s st.store.activations) (continuation_value s st.store.activations) st.store.registers st.store.memory)
      (sym (ap (λ activations n. slice_index_or (variables_of activations) n 0) is_youngest))

  -- ---- what locals hold
  module _ (kind : NodeKind) (node : ReadsAreLive c live a.procedure p.node kind) where
    count_is : variable_count c.graphs a.procedure ≡ node.of.variables
    count_is = ap (λ o. elim o as (λ _. ℕ) [ Some g ↦ g.variables | None ↦ 0 ]) node.is_graph

    value_is : (l : Local) → is_local node.of l ≡ true → Ok (value_at c.graphs a p (local_number node.of l)) ≡ held_by p.temporaries l (record (reads_at s c at) { variable = variables })
    value_is (local.Variable v) is =
        let under : nat_lt v.number (variable_count c.graphs a.procedure) ≡ true = rw count_is is in
        ap (λ b. Ok (elim b as (λ _. ℕ) [
          | true ↦ slice_index_or a.variables v.number 0
          | false ↦ p.temporaries (record { number = v.number - variable_count c.graphs a.procedure })
        ])) under
    value_is (local.Temporary t) is =
        let n = node.of.variables + t.number in
        let count = count_is in
        let past : nat_lt n (variable_count c.graphs a.procedure) ≡ false = (let le : variable_count c.graphs a.procedure ≤ n = omega arith in grind (arith, nat_tests)) in
        let number : n - variable_count c.graphs a.procedure ≡ t.number = omega arith in
        ap (λ b. Ok (elim b as (λ _. ℕ) [
          | true ↦ slice_index_or a.variables n 0
          | false ↦ p.temporaries (record { number = n - variable_count c.graphs a.procedure })
        ])) past
        ∙ ap (λ m. Ok (p.temporaries (record { number = m }))) number

    pub hold_alike : HoldAlike (keeping s c at).held (graph.keeping p).held (reads_at s c at) variables (reads kind)
    hold_alike l is_read =
        let is = node.reads_live l is_read in
        ap (λ q. number_of (held at.holdings (c.plan.place q (number_in c.graphs q l)))) runs.same
        ∙ (ap (λ o. number_of (held at.holdings (c.plan.place a.procedure (elim o as (λ _. ℕ) [ Some g ↦ local_number g l | None ↦ 0 ])))) node.is_graph
        ∙ (ap number_of (runs.values (local_number node.of l) is.1)
        ∙ value_is l is.0))

pub same_orders : OrderIsByReads → SameOrders
same_orders by_reads s c live st a older p ps at kind frames is_youngest is_store runs node plain =
    by_reads (keeping s c at) (graph.keeping p) (reads_at s c at) (variables s c live st a older p ps at frames is_youngest is_store runs) kind
    (hold_alike s c live st a older p ps at frames is_youngest is_store runs kind node) plain
    ∙ ap (λ (r : Reads). evaluated r (act_of (graph.keeping p) kind)) (same_reads s c live st a older p ps at frames is_youngest is_store runs)
