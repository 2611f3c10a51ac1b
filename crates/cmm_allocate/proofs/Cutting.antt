-- Where cuts land: the procedure saves all registers, and what is live there stands in slots.
use Rattle.std.proofs.Common.{◌≡◌, ℕ, zero, suc, ◌==◌, ◌||◌, Bool, true, false, Contains, Option, Some, None, List, [], ◌∷◌, filter, is_some, map, slice_get, refl, ap, sym, ◌∙◌, subst, arith}
use Rattle.std.proofs.lemmas.Bool.{or_left}
use Rattle.std.specs.List.{list_any}
use Rattle.cmm_chain.proofs.Shared.{callee_saves_is_listed}
use Rattle.cmm_program.specs.declared.procedure.Cont.{Cont}
use Rattle.cmm_program.specs.declared.procedure.Proc.{Proc}
use Rattle.cmm_program.specs.declared.procedure.Site.{Site}
use Rattle.cmm_graph.specs.declared.graph.Graph.{Graph}
use Rattle.cmm_graph.specs.declared.node.Node.{Node}
use Rattle.cmm_graph.specs.declared.node.NodeKind.{NodeKind}
use Rattle.cmm_graph.specs.declared.node.NodeKind.TheVariants as kind
use Rattle.cmm_graph.specs.declared.node.NodeKind.TheVariants.{Stop}
use Rattle.cmm_graph.specs.declared.number.NodeId.{NodeId}
use Rattle.cmm_graph.specs.Counterpart.{numbers_of, parameter_targets}
use Rattle.cmm_graph.specs.GraphControl.{kind_at}
use Rattle.cmm_graph.specs.Paths.{node_of, successors, writes}
use Rattle.cmm_live.specs.Laws.{SetsAreClosed}
use Rattle.cmm_live.specs.Locals.{local_number}
use Rattle.cmm_chain.specs.declared.frame.Frame.{Frame}
use Rattle.cmm_chain.specs.declared.frame.Location.TheVariants.{Slot}
use Rattle.cmm_abi.specs.Registers.{is_callee_saves, callee_saves}
use Rattle.cmm_chain.specs.Plans.{saved_at, saved_in}
use Rattle.cmm_chain.specs.Running.{lasts}
use Rattle.cmm_located.specs.Cutting.{LandInside, LandsByCut}
use Rattle.cmm_located.specs.Layouts.{has_cut_exit, has_cuts, keeps_local}
use Rattle.cmm_allocate.specs.declared.procedure.ProcedurePlaces.{ProcedurePlaces}
use Rattle.cmm_allocate.specs.Compiling.{compiled, live_before, no_frame}
use Rattle.cmm_allocate.proofs.Exits.{SiteNode, by_cut, copy_of, lands_at, lands_in}
use Rattle.cmm_allocate.proofs.Living.{stays}
use Rattle.cmm_allocate.proofs.Members.{contains_landing, none_contained}
use Rattle.cmm_allocate.proofs.Placing.{Beside, kind_is, live_is, place_is}
use Rattle.cmm_allocate.specs.Placed.{cuts_inside}
use Rattle.cmm_graph.specs.declared.node.Exits.{Exits}
use Rattle.cmm_graph.specs.Paths.{landings}
use Rattle.cmm_live.specs.Sites.{cut_nodes}
use Rattle.cmm_located.specs.Compiled.{exits_of}
use Rattle.std.proofs.lemmas.Option.{same_Some}

-- ---- all registers are saved

registers_kept : (kept : ℕ → Bool) (registers : List ℕ) → ((r : ℕ) → kept r ≡ true) → filter kept registers ≡ registers
registers_kept kept [] all = refl
registers_kept kept (r ∷ registers) all = grind (arith, all r, registers_kept kept registers all)

-- a register that is listed has a word
has_word : (saved : List (ℕ × ℕ)) (r : ℕ) → list_any (λ x. r == x) (map (λ s. s.0) saved) ≡ true → is_some (saved_in saved r) ≡ true
has_word [] r is = absurd (cc (is))
has_word ((register, offset) ∷ rest) r is = by (has_word rest r) (r == register) refl
  where
    by : (list_any (λ x. r == x) (map (λ (s : ℕ × ℕ). s.0) rest) ≡ true → is_some (saved_in rest r) ≡ true) → (b : Bool) → (r == register) ≡ b →
        is_some (elim (r == register) as (λ _. Option ℕ) [ true ↦ Some offset | false ↦ saved_in rest r ]) ≡ true
    by later true same = ap (λ b. is_some (elim b as (λ _. Option ℕ) [ true ↦ Some offset | false ↦ saved_in rest r ])) same
    by later false same =
        let listed : list_any (λ x. r == x) (map (λ (s : ℕ × ℕ). s.0) rest) ≡ true = grind (arith, is, same) in
        ap (λ b. is_some (elim b as (λ _. Option ℕ) [ true ↦ Some offset | false ↦ saved_in rest r ])) same ∙ later listed

-- a site with a cut exit lets its procedure save all
some_cut : (ks : List ℕ) (k : ℕ) → Contains ks k → has_cuts ks ≡ true
some_cut [] k has = absurd (none_contained k has)
some_cut (j ∷ ks) k has = refl

cuts_there : (sites : List Site) (number : ℕ) (site : Site) (k : ℕ) → slice_get sites number ≡ Some site → Contains site.cuts k →
    list_any (λ (s : Site). has_cuts s.cuts) sites ≡ true
cuts_there [] number site k is has = absurd (cc (is))
cuts_there (x ∷ sites) zero site k is has =
    let same : x ≡ site = cc (is) in
    let here : has_cuts x.cuts ≡ true = ap (λ (s : Site). has_cuts s.cuts) same ∙ some_cut site.cuts k has in
    grind (arith, here)
cuts_there (x ∷ sites) (suc number) site k is has = let later = cuts_there sites number site k is has in grind (arith, later)

module _ (procs : List Proc) (graphs : List Graph) (found : List ProcedurePlaces) (q : ℕ) (at : Beside procs graphs found q) (closed : SetsAreClosed) where
  abbrev g : Graph
  g = at.graph

  abbrev p : Proc
  p = at.procedure

  pub frame_is : (compiled graphs found).plan.frame q ≡ at.places.frame
  frame_is = ap (λ (o : Option ProcedurePlaces). elim o as (λ _. Frame) [ Some k ↦ k.frame | None ↦ no_frame ]) at.is_places

  saves_all : has_cut_exit p ≡ true → (r : ℕ) → is_callee_saves r ≡ true → is_some (saved_at (compiled graphs found).plan q r) ≡ true
  saves_all cuts r is =
      let kept = registers_kept (λ r. has_cut_exit p || keeps_local r at.places.locals) callee_saves
      (λ r. or_left (has_cut_exit p) (keeps_local r at.places.locals) cuts) in
      let registers : map (λ (s : ℕ × ℕ). s.0) at.places.frame.saved ≡ callee_saves = at.has.frame.registers ∙ kept in
      let listed : list_any (λ x. r == x) (map (λ (s : ℕ × ℕ). s.0) at.places.frame.saved) ≡ true =
      ap (λ l. list_any (λ x. r == x) l) registers ∙ callee_saves_is_listed r is in
      ap (λ (f : Frame). is_some (saved_in f.saved r)) frame_is ∙ has_word at.places.frame.saved r listed

  in_slot : (n : NodeId) (node : Node) (m : NodeId) (u : ℕ) → node_of g n ≡ Some node → Contains (cut_nodes g node.kind) m → live_before found q m u ≡ true →
      (offset : ℕ) × ((compiled graphs found).plan.place q u ≡ Slot offset)
  in_slot n node m u there leads is =
      let r = at.has.locals.cut n node m u there leads (sym (live_is procs graphs found q at m u) ∙ is) in (r.0, place_is procs graphs found q at u ∙ r.1)

  -- the cut exits of a node that waits
  cuts_of : (kind : NodeKind) (exits : Exits) → exits_of kind ≡ Some exits → cut_nodes g kind ≡ landings g exits.cuts
  cuts_of (kind.Call site callee arguments others) exits is = ap (λ (e : Exits). landings g e.cuts) (same_Some others exits is)
  cuts_of (kind.Yield site values others) exits is = ap (λ (e : Exits). landings g e.cuts) (same_Some others exits is)
  cuts_of other exits is = absurd (cc (is))

  pub cuts_land : (number : ℕ) (node : SiteNode p g number) (site : Site) (k : ℕ) (cont : Cont) → slice_get at.procedure.sites number ≡ Some site →
      Contains site.cuts k → slice_get at.procedure.conts k ≡ Some cont →
      LandsByCut (compiled graphs found) (live_before found) q number k (parameter_targets at.procedure cont)
  cuts_land number node site k cont is has is_cont =
      let same : node.with'.are.site ≡ site = cc (node.with'.are.is_site, is) in
      let cuts : numbers_of node.with'.exits.cuts ≡ site.cuts = node.with'.are.cuts ∙ ap (λ (s : Site). s.cuts) same in
      let lands = lands_in procs graphs found q at closed k cont is_cont in
      let leads = by_cut procs graphs found q at closed number node k lands.node (subst (λ ks. Contains ks k) (sym cuts) has) lands.is_landing in
      record {
        node = lands.node;
        is_node = lands.is_node;
        lands = lands_at procs graphs found q at closed number node (parameter_targets p cont) lands.node lands.takes leads;
        saves = saves_all (cuts_there p.sites number site k is has);
        in_slots = λ u is. in_slot node.at node.node lands.node u node.is_there
            (subst (λ ns. Contains ns lands.node) (sym (cuts_of node.node.kind node.with'.exits node.with'.is_exits))
            (contains_landing g node.with'.exits.cuts k lands.node (subst (λ ks. Contains ks k) (sym cuts) has) lands.is_landing)) is;
      }

  -- ---- own continuations

  inside : (n : NodeId) (node : Node) → node_of g n ≡ Some node → (kind : NodeKind) → node.kind ≡ kind →
      LandInside (compiled graphs found) (live_before found) q p n kind
  inside n node there (kind.Cut to arguments own) is_cut = λ k cont has is_cont.
      let lands = lands_in procs graphs found q at closed k cont is_cont in
      let copy = copy_of (node_of g lands.node) (parameter_targets p cont) lands.takes in
      let leads : Contains (successors g node.kind) lands.node =
      subst (λ kind. Contains (successors g kind) lands.node) (sym is_cut) (contains_landing g own k lands.node has lands.is_landing) in
      record {
        node = lands.node;
        next = copy.0;
        is_node = lands.is_node;
        is_copy = kind_is procs graphs found q at lands.node ∙ copy.1;
        kept = λ u is.
            let fresh : ¬ Contains (map (local_number g) (writes node.kind)) u =
            subst (λ kind. ¬ Contains (map (local_number g) (writes kind)) u) (sym is_cut) (none_contained u) in (
              live_is procs graphs found q at n u
                  ∙ stays g at.places.live at.has.live closed n node there lands.node u leads (sym (live_is procs graphs found q at lands.node u) ∙ is) fresh,
              ap lasts (place_is procs graphs found q at u) ∙ at.has.locals.inside n node lands.node u there (ap cuts_inside is_cut) leads
                  (sym (live_is procs graphs found q at lands.node u) ∙ is),
            );
      }
  inside n node there other is_other = tt

  pub own_cuts_land : (n : NodeId) → LandInside (compiled graphs found) (live_before found) q at.procedure n (kind_at graphs q n)
  own_cuts_land n = subst (LandInside (compiled graphs found) (live_before found) q p n) (sym (kind_is procs graphs found q at n)) (by (node_of g n) refl)
    where
      by : (o : Option Node) → node_of g n ≡ o →
          LandInside (compiled graphs found) (live_before found) q p n (elim o as (λ _. NodeKind) [ Some node ↦ node.kind | None ↦ Stop ])
      by (Some node) there = inside n node there node.kind refl
      by None there = tt
