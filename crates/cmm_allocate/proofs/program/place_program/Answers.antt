use Rattle.std.proofs.Common.{◌≡◌, ◌≤◌, ◌∙◌, ◌+◌, ◌++◌, ◌∷◌, [], List, ℕ, ap, append_assoc, arith, get_or, length, length-append, subst, sym, take}
use Rattle.std.proofs.lemmas.Slice.Zip.{AllZip-long}
use Rattle.std.specs.List.{AllZip, zip}
use Rattle.cmm_live.specs.declared.live_sets.LiveSets.{LiveSets}
use Rattle.cmm_live.specs.Exact.{AreLiveSets}
use Rattle.cmm_hoisted.specs.Flow.{AreFlowsWithin, IsHoistedFlow}
use Rattle.cmm_program.specs.declared.procedure.Proc.{Proc}
use Rattle.cmm_program.specs.declared.program.Program.{Program}
use Rattle.cmm_program.specs.InRange.{IsInRange}
use Rattle.cmm_allocate.specs.declared.procedure.ProcedurePlaces.{ProcedurePlaces}
use Rattle.cmm_allocate.specs.Places.{CanBePlaced, HavePlaces}
use Rattle.cmm_allocate.proofs.Together.{Placed, can_be_placed, graph_there, placed_all, placed_more, procedure_there, sets_fit}
use Rattle.cmm_allocate.proofs.program.place_program.Goals as goal

pub offset_bounds-procs-number : goal.offset_bounds-procs-number
offset_bounds-procs-number c =
    let procs = c.args.program.now.procs in
    let graphs = c.args.graphs.now in
    let live = c.args.live in
    let before = c.loop-sets.yielded in
    let sets = c.in-Some.sets in
    let rest = c.next.new.self.rest.items in
    let can : AllZip CanBePlaced procs graphs = c.flows_can_be_placed.ensures c.args.program.now graphs c.requires.range c.requires.flows in
    let is_live : before ++ sets ∷ rest ≡ live = ap (λ (ls : List LiveSets). before ++ ls) (sym c.in-Some.ensures.steps.0) ∙ c.loop-sets.invariant.rest in
    let number : c.len-number.result ≡ length before = c.len-number.ensures ∙ c.loop-sets.invariant.count in
    let there = procedure_there procs graphs live c.requires.live can before sets rest is_live in
    let most = c.requires.range.procedure_count in
    omega (arith, number, there, most)

pub bounds-procs-number : goal.bounds-procs-number
bounds-procs-number c =
    let procs = c.args.program.now.procs in
    let graphs = c.args.graphs.now in
    let live = c.args.live in
    let before = c.loop-sets.yielded in
    let sets = c.in-Some.sets in
    let rest = c.next.new.self.rest.items in
    let can : AllZip CanBePlaced procs graphs = c.flows_can_be_placed.ensures c.args.program.now graphs c.requires.range c.requires.flows in
    let is_live : before ++ sets ∷ rest ≡ live = ap (λ (ls : List LiveSets). before ++ ls) (sym c.in-Some.ensures.steps.0) ∙ c.loop-sets.invariant.rest in
    let number : c.len-number.result ≡ length before = c.len-number.ensures ∙ c.loop-sets.invariant.count in
    omega (arith, number, procedure_there procs graphs live c.requires.live can before sets rest is_live, ap (λ (qs : List Proc). length qs) c.as_slice-procs.ensures)

pub bounds-graphs-number : goal.bounds-graphs-number
bounds-graphs-number c =
    let procs = c.args.program.now.procs in
    let graphs = c.args.graphs.now in
    let live = c.args.live in
    let before = c.loop-sets.yielded in
    let sets = c.in-Some.sets in
    let rest = c.next.new.self.rest.items in
    let can : AllZip CanBePlaced procs graphs = c.flows_can_be_placed.ensures c.args.program.now graphs c.requires.range c.requires.flows in
    let is_live : before ++ sets ∷ rest ≡ live = ap (λ (ls : List LiveSets). before ++ ls) (sym c.in-Some.ensures.steps.0) ∙ c.loop-sets.invariant.rest in
    let number : c.len-number.result ≡ length before = c.len-number.ensures ∙ c.loop-sets.invariant.count in
    omega (arith, number, graph_there procs graphs live c.requires.live can before sets rest is_live)

pub place_procedure-requires-clause-can : goal.place_procedure-requires-clause-can
place_procedure-requires-clause-can c =
    let procs = c.args.program.now.procs in
    let graphs = c.args.graphs.now in
    let live = c.args.live in
    let before = c.loop-sets.yielded in
    let sets = c.in-Some.sets in
    let rest = c.next.new.self.rest.items in
    let can : AllZip CanBePlaced procs graphs = c.flows_can_be_placed.ensures c.args.program.now graphs c.requires.range c.requires.flows in
    let is_live : before ++ sets ∷ rest ≡ live = ap (λ (ls : List LiveSets). before ++ ls) (sym c.in-Some.ensures.steps.0) ∙ c.loop-sets.invariant.rest in
    let number : c.len-number.result ≡ length before = c.len-number.ensures ∙ c.loop-sets.invariant.count in
    let p = c.index-procs-number.result in
    let is_p : p ≡ get_or procs (length before) p =
    c.index-procs-number.is ∙ (ap (λ (qs : List Proc). get_or qs c.len-number.result p) c.as_slice-procs.ensures ∙ ap (λ (n : ℕ). get_or procs n p) number) in
    let g = c.index-graphs-number.result in
    let is_g : g ≡ get_or graphs (length before) g = c.index-graphs-number.is ∙ ap (λ (n : ℕ). get_or graphs n g) number in
    can_be_placed procs graphs live c.requires.live can before sets rest is_live p g is_p is_g

pub place_procedure-requires-clause-live : goal.place_procedure-requires-clause-live
place_procedure-requires-clause-live c =
    let procs = c.args.program.now.procs in
    let graphs = c.args.graphs.now in
    let live = c.args.live in
    let before = c.loop-sets.yielded in
    let sets = c.in-Some.sets in
    let rest = c.next.new.self.rest.items in
    let can : AllZip CanBePlaced procs graphs = c.flows_can_be_placed.ensures c.args.program.now graphs c.requires.range c.requires.flows in
    let is_live : before ++ sets ∷ rest ≡ live = ap (λ (ls : List LiveSets). before ++ ls) (sym c.in-Some.ensures.steps.0) ∙ c.loop-sets.invariant.rest in
    let number : c.len-number.result ≡ length before = c.len-number.ensures ∙ c.loop-sets.invariant.count in
    let g = c.index-graphs-number.result in
    let is_g : g ≡ get_or graphs (length before) g = c.index-graphs-number.is ∙ ap (λ (n : ℕ). get_or graphs n g) number in
    sets_fit procs graphs live c.requires.live can before sets rest is_live g is_g

pub loop-sets-preserved : goal.loop-sets-preserved
loop-sets-preserved c =
    let procs = c.args.program.now.procs in
    let graphs = c.args.graphs.now in
    let live = c.args.live in
    let before = c.loop-sets.yielded in
    let sets = c.in-Some.sets in
    let rest = c.next.new.self.rest.items in
    let can : AllZip CanBePlaced procs graphs = c.flows_can_be_placed.ensures c.args.program.now graphs c.requires.range c.requires.flows in
    let is_live : before ++ sets ∷ rest ≡ live = ap (λ (ls : List LiveSets). before ++ ls) (sym c.in-Some.ensures.steps.0) ∙ c.loop-sets.invariant.rest in
    let number : c.len-number.result ≡ length before = c.len-number.ensures ∙ c.loop-sets.invariant.count in
    let p = c.index-procs-number.result in
    let is_p : p ≡ get_or procs (length before) p =
    c.index-procs-number.is ∙ (ap (λ (qs : List Proc). get_or qs c.len-number.result p) c.as_slice-procs.ensures ∙ ap (λ (n : ℕ). get_or procs n p) number) in
    let g = c.index-graphs-number.result in
    let is_g : g ≡ get_or graphs (length before) g = c.index-graphs-number.is ∙ ap (λ (n : ℕ). get_or graphs n g) number in
    let k = c.in_ok-places.places in
    let same = AllZip-long CanBePlaced procs graphs can in
    let grown : length (before ++ sets ∷ []) ≡ length before + 1 = length-append before (sets ∷ []) in
    let found = c.loop-sets.found in
    let so_far : AllZip Placed (take (length before) (zip procs graphs)) found =
    subst (λ (qs : List Proc). AllZip Placed (take (length before) (zip qs graphs)) found) c.as_slice-procs.ensures c.loop-sets.invariant.places in
    let more = placed_more procs graphs found (length before) p g k same (procedure_there procs graphs live c.requires.live can before sets rest is_live) is_p is_g so_far c.in_ok-places.ensures in
    record {
      count = ap (λ (ks : List ProcedurePlaces). length ks) c.in_ok-push.ensures.ok
          ∙ (length-append found (k ∷ []) ∙ (ap (λ (n : ℕ). n + 1) c.loop-sets.invariant.count ∙ sym grown));
      rest = append_assoc before (sets ∷ []) rest ∙ is_live;
      places =
          subst (λ (qs : List Proc). AllZip Placed (take (length (before ++ sets ∷ [])) (zip qs graphs)) c.push.new.self) (sym c.as_slice-procs.ensures)
          (subst (λ (n : ℕ). AllZip Placed (take n (zip procs graphs)) c.push.new.self) (sym grown)
          (subst (λ (ks : List ProcedurePlaces). AllZip Placed (take (length before + 1) (zip procs graphs)) ks) (sym c.in_ok-push.ensures.ok) more));
    }

pub returns-clause-places : goal.returns-clause-places
returns-clause-places c =
    let procs = c.args.program.now.procs in
    let graphs = c.args.graphs.now in
    let before = c.loop-sets.yielded in
    let left = c.loop-sets.sets-iterator.rest in
    let can : AllZip CanBePlaced procs graphs = c.flows_can_be_placed.ensures c.args.program.now graphs c.requires.range c.requires.flows in
    let none : length left.items ≡ 0 = omega (arith, left.ok.0, c.in-None.ensures.steps.0) in
    let live = AllZip-long AreLiveSets graphs c.args.live c.requires.live in
    let all : length graphs ≤ length before =
    omega (arith, none, live, ap (λ (ls : List LiveSets). length ls) c.loop-sets.invariant.rest, length-append before left.items) in
    placed_all procs graphs c.loop-sets.found (length before) (AllZip-long CanBePlaced procs graphs can) all
    (subst (λ (qs : List Proc). AllZip Placed (take (length before) (zip qs graphs)) c.loop-sets.found) c.as_slice-procs.ensures c.loop-sets.invariant.places)

pub returns-clause-runs : goal.returns-clause-runs
returns-clause-runs c s same frames =
    let graphs = c.args.graphs.now in
    let found = c.loop-sets.found in
    record {
      range = subst IsInRange (sym same) c.requires.range;
      flows = subst (λ (p : Program). AllZip IsHoistedFlow p.procs graphs) (sym same) c.requires.flows;
      within = subst (λ (p : Program). AreFlowsWithin p graphs) (sym same) c.requires.within;
      places = subst (λ (p : Program). HavePlaces p.procs graphs found) (sym same) (returns-clause-places c);
      frames = frames;
    }
