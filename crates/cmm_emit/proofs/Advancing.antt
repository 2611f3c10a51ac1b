-- One more procedure is laid.
use Rattle.std.proofs.Common.{◌≡◌, ◌⊎◌, inl, inr, ℕ, zero, suc, ◌+◌, ◌-◌, ◌*◌, ◌<◌, ◌≤◌, ◌^◌, refl, sym, ◌∙◌, ap, subst, arith, Bool, true, false, List, [], ◌∷◌, ◌++◌, append_assoc, length, get_or, take, Option, Some, slice_get}
use Rattle.std.specs.Prelude.{IsTrue, nat_le, replicate, sum_by}
use Rattle.std.specs.List.{All}
use Rattle.std.proofs.lemmas.Bool.Decides.{nat_tests}
use Rattle.std.proofs.lemmas.List.{get_or-map, get_or_default, length-map, length-replicate, take_more}
use Rattle.std.proofs.lemmas.List.Sums.{sum_by_push}
use Rattle.std.proofs.lemmas.Option.{get_or_from_slice_get, slice_get-get_or, slice_get_within}
use Rattle.std.proofs.Math.Seq.{take-suc}
use Rattle.rv_asm.proofs.Shared.{appends_weaker, codes_more, longest-append, shortest-append}
use Rattle.rv_asm.specs.Appending.{Appends, Codes}
use Rattle.rv_asm.specs.Assembly.{ArePlaced}
use Rattle.rv_asm.specs.Assembly.{IsInner, IsLabel, IsTarget, is_inner, is_target}
use Rattle.rv_asm.specs.Parts.{Code}
use Rattle.rv_asm.specs.Sizes.{all_longest, all_shortest}
use Rattle.rv_asm.specs.declared.part.Label.{Label}
use Rattle.rv_asm.specs.declared.part.Meaning.{Meaning}
use Rattle.rv_asm.specs.declared.part.Meaning.TheVariants.{Inner, Outer}
use Rattle.rv_asm.specs.declared.part.Part.{Part}
use Rattle.rv_asm.specs.declared.part.Part.TheVariants.{Place, Single}
use Rattle.rv_table.specs.declared.instruction.Instr.TheVariants.{Ebreak}
use Rattle.cmm_emit.proofs.Starting.{closing}
use Rattle.cmm_bitset.specs.Sets.{has}
use Rattle.cmm_program.specs.declared.procedure.Proc.{Proc}
use Rattle.cmm_program.specs.declared.program.Program.{Program}
use Rattle.cmm_graph.specs.declared.graph.Graph.{Graph}
use Rattle.cmm_graph.specs.declared.node.Node.{Node}
use Rattle.cmm_graph.specs.declared.number.NodeId.{NodeId}
use Rattle.cmm_allocate.specs.declared.procedure.ProcedurePlaces.{ProcedurePlaces}
use Rattle.cmm_emit.specs.declared.context.Context.{Context}
use Rattle.cmm_emit.specs.Costs.{total_cost}
use Rattle.cmm_emit.specs.LaidNodes.{AreLaid, AreUnplaced, HaveSites, IsOwn, PlacesOwn, StandsHere}
use Rattle.cmm_emit.specs.Naming.{has_named, label_at, named_at}
use Rattle.cmm_emit.proofs.NodeLabels.{inner_target}
use Rattle.cmm_emit.proofs.NodeSites.{site_closed, site_stays}
use Rattle.cmm_emit.specs.Standing.{IsReady, SiteStands}
use Rattle.cmm_emit.proofs.Belonging.{IsOne, there_at, entry_label, first_label_grows, length-entry_labels, one_of}
use Rattle.cmm_emit.proofs.Numbering.{label_from, length-labels_from}
use Rattle.cmm_emit.proofs.Outlined.{IsOwn as IsOwnProcedure, data_label, procedure_label, register_label, registers_counted}
use Rattle.cmm_emit.proofs.Ordering.{order_more, split}
use Rattle.cmm_emit.specs.Contexts.{first_label}
use Rattle.cmm_unit_code.specs.declared.unit_code.Reference.{Reference}
use Rattle.cmm_unit_code.specs.declared.unit_code.Reference.TheVariants as reference
use Rattle.cmm_unit_code.specs.declared.unit_code.Reference.TheVariants.{Procedure}
use Rattle.cmm_emit.specs.Labels.{is_reached, labels_from}
use Rattle.cmm_emit.specs.LaidProcedures.{CanAllBeLaid, HaveCodes, HaveLabels, tokens_of_first}
use Rattle.cmm_emit.specs.Orders.{AreInOrder}
use Rattle.cmm_emit.specs.Outlines.{IsOutline, first_own}
use Rattle.cmm_emit.specs.declared.outline.Outline.{Outline}

-- ---- numbers of labels

-- the labels of the next procedure follow
pub first_label_next : (first : ℕ) (qs : List Proc) (gs : List Graph) (n : ℕ) (q : Proc) (g : Graph) → slice_get qs n ≡ Some q → slice_get gs n ≡ Some g →
    first_label first qs gs (n + 1) ≡ first_label first qs gs n + (length g.nodes + length q.sites)
first_label_next first [] gs n q g is also = absurd (cc)
first_label_next first (p ∷ qs) [] n q g is also = absurd (cc (also))
first_label_next first (p ∷ qs) (h ∷ gs) zero q g is also =
    let one : p ≡ q = cc in
    let two : h ≡ g = cc in
    next_first first p qs h gs ∙ (ap (λ (z : Proc). first + (length h.nodes + length z.sites)) one ∙ ap (λ (z : Graph). first + (length z.nodes + length q.sites)) two)
  where
    next_first : (first : ℕ) (p : Proc) (qs : List Proc) (h : Graph) (gs : List Graph) → first_label first (p ∷ qs) (h ∷ gs) (0 + 1) ≡ first + (length h.nodes + length p.sites)
    next_first first p [] h gs = refl
    next_first first p (q ∷ qs) h [] = refl
    next_first first p (q ∷ qs) h (g ∷ gs) = refl
first_label_next first (p ∷ qs) (h ∷ gs) (suc n) q g is also =
    let e : suc n + 1 ≡ suc (n + 1) = omega arith in
    rw e (first_label_next (first + (length h.nodes + length p.sites)) qs gs n q g is also)

-- so labels of procedures come in their order
pub first_label_later : (first : ℕ) (qs : List Proc) (gs : List Graph) (n m : ℕ) → n ≤ m → first_label first qs gs n ≤ first_label first qs gs m
first_label_later first [] gs n m less = omega arith
first_label_later first (q ∷ qs) [] n m less = omega arith
first_label_later first (q ∷ qs) (g ∷ gs) zero m less = first_label_grows first (q ∷ qs) (g ∷ gs) m
first_label_later first (q ∷ qs) (g ∷ gs) (suc n) zero less = absurd (omega (arith, less))
first_label_later first (q ∷ qs) (g ∷ gs) (suc n) (suc m) less = first_label_later (first + (length g.nodes + length q.sites)) qs gs n m (omega (arith, less))

-- so where all labels are few, the nodes of each procedure are
pub few_nodes : (first : ℕ) (qs : List Proc) (gs : List Graph) (n : ℕ) (g : Graph) → length gs ≡ length qs → slice_get gs n ≡ Some g → first_label first qs gs (length qs) ≤ 2 ^ 32 →
    first + length g.nodes ≤ 2 ^ 32
few_nodes first qs gs n g same is few =
    let less = slice_get_within gs n g is in
    let q = there_at qs n (omega (arith, less, same)) in
    omega (
      arith,
      few,
      first_label_grows first qs gs n,
      first_label_next first qs gs n q.0 g q.1 is,
      first_label_later first qs gs (n + 1) (length qs) (omega (arith, less, same)),
    )

some_same : {A : Type 0} {x y : A} → Some x ≡ Some y → x ≡ y
some_same e = cc

has_none : (count k : ℕ) → has (replicate count false) k ≡ false
has_none zero k = refl
has_none (suc count) zero = refl
has_none (suc count) (suc k) = has_none count k

-- ---- before a procedure is laid

module _ (p : Program) (procs : List Proc) (graphs : List Graph) (found : List ProcedurePlaces) (o : Outline) (outline : IsOutline p procs graphs found o) (can : CanAllBeLaid p procs graphs found o)
    (n : ℕ) (g : Graph) (one : IsOne p procs graphs found o n g) (labels : List Meaning) (have : HaveLabels procs graphs o n labels) where
  abbrev c : Context
  c = one.context

  abbrev base : ℕ
  base = first_own o

  abbrev first : ℕ
  first = first_label base procs graphs n

  abbrev node_count : ℕ
  node_count = length g.nodes

  abbrev site_count : ℕ
  site_count = length one.procedure.sites

  less_count : n < length procs
  less_count = slice_get_within procs n one.procedure one.is_procedure

  far : base ≤ first
  far = first_label_grows base procs graphs n

  pub next : first_label base procs graphs (n + 1) ≡ first + (node_count + site_count)
  next = first_label_next base procs graphs n one.procedure g one.is_procedure one.is_graph

  abbrev all : ℕ
  all = first_label base procs graphs (length procs)

  among : first + (node_count + site_count) ≤ all
  among =
      let later = first_label_later base procs graphs (n + 1) (length procs) (omega (arith, less_count)) in
      omega (arith, later, next)

  within : first + (node_count + site_count) ≤ length labels
  within =
      let count = have.count in
      omega (arith, among, count)

  pub nodes_counted : length c.nodes ≡ node_count
  nodes_counted = ap (λ (ls : List Label). length ls) one.made.nodes ∙ length-labels_from first node_count

  pub sites_counted : length c.sites ≡ site_count
  sites_counted = ap (λ (ls : List Label). length ls) one.made.sites ∙ length-labels_from (first + node_count) site_count

  pub node_number : (k : ℕ) → k < node_count → (label_at c.nodes k).number ≡ first + k
  node_number k less = ap (λ (l : Label). l.number) (ap (λ (ls : List Label). label_at ls k) one.made.nodes ∙ label_from first node_count k (record { number = 0 }) less)

  pub site_number : (k : ℕ) → k < site_count → (label_at c.sites k).number ≡ first + node_count + k
  site_number k less = ap (λ (l : Label). l.number) (ap (λ (ls : List Label). label_at ls k) one.made.sites ∙ label_from (first + node_count) site_count k (record { number = 0 }) less)

  free : (m : ℕ) → first ≤ m → m < first + (node_count + site_count) → slice_get labels m ≡ Some (Inner false)
  free m least less = have.fresh m least (omega (arith, less, among))

  pub node_free : (k : ℕ) → k < node_count → slice_get labels (label_at c.nodes k).number ≡ Some (Inner false)
  node_free k less =
      let number = node_number k less in
      free (label_at c.nodes k).number (omega (arith, number)) (omega (arith, number, less))

  -- ---- what is required of labels

  pub are_laid : AreLaid labels c (replicate node_count false)
  are_laid = record {
    size = length-replicate node_count false ∙ sym nodes_counted;
    each = λ k less.
        let inside : k < node_count = omega (arith, less, nodes_counted) in
        node_free k inside ∙ ap (λ (b : Bool). Some (Inner b)) (sym (has_none node_count k));
    apart = λ j k less also same.
        let first_ = node_number j (omega (arith, less, nodes_counted)) in
        let second = node_number k (omega (arith, also, nodes_counted)) in
        omega (arith, first_, second, same);
  }

  pub have_sites : HaveSites c
  have_sites = record {
    apart = λ j k less also same.
        let first_ = site_number j (omega (arith, less, sites_counted)) in
        let second = site_number k (omega (arith, also, sites_counted)) in
        omega (arith, first_, second, same);
    of_none = λ j k less also same.
        let inside : k < node_count = omega (arith, also, nodes_counted) in
        let first_ = site_number j (omega (arith, less, sites_counted)) in
        let second = node_number k inside in
        omega (arith, first_, second, same, inside);
  }

  pub are_unplaced : AreUnplaced labels c
  are_unplaced k less =
      let inside : k < site_count = omega (arith, less, sites_counted) in
      let number = site_number k inside in
      free (label_at c.sites k).number (omega (arith, number)) (omega (arith, number, inside))

  -- ---- what nodes name is ready

  inner_number : (l : Label) → length o.references ≤ l.number → l.number < length labels → IsInner labels l
  inner_number l least less = (less, have.inner l.number least less)

  node_inner : (k : ℕ) → k < node_count → IsInner labels (label_at c.nodes k)
  node_inner k less =
      let number = node_number k less in
      inner_number (label_at c.nodes k) (omega (arith, number, far)) (omega (arith, number, less, within))

  nodes_inner : All (IsInner labels) c.nodes
  nodes_inner i d h =
      let inside : i < node_count = omega (arith, h, nodes_counted) in
      subst (IsInner labels) (get_or_default c.nodes i (record { number = 0 }) d h) (node_inner i inside)

  landings_inner : All (IsInner labels) c.landings
  landings_inner = subst (All (IsInner labels)) (sym one.made.landings) (λ i d h.
      let made = λ (m : NodeId). label_at c.nodes m.number in
      let less : i < length g.continuations = omega (arith, h, length-map g.continuations made) in
      let node = get_or g.continuations i (record { number = 0 }) in
      subst (IsInner labels) (sym (get_or-map made g.continuations i (record { number = 0 }) d less))
      (node_inner node.number (one.can.landings i (record { number = 0 }) less)))

  entries_counted : length o.entries ≡ length procs
  entries_counted =
      let gs = can.graph_count in
      let cs = outline.contexts.count in
      let count = length-entry_labels o.contexts graphs (omega (arith, gs, cs)) in
      let same = ap (λ (ls : List Label). length ls) outline.entries in
      omega (arith, same, count, cs)

  -- where the unit's own procedures begin
  entry_inner : (k : ℕ) → k < length o.entries → IsInner labels (label_at o.entries k)
  entry_inner k less =
      let gs = can.graph_count in
      let there = there_at graphs k (omega (arith, less, entries_counted, gs)) in
      let other = one_of p procs graphs found o outline can k there.0 there.1 in
      let first_node = (there.0).first.number in
      let same : label_at o.entries k ≡ label_at other.context.nodes first_node =
      ap (λ (ls : List Label). label_at ls k) outline.entries ∙ entry_label o.contexts graphs k other.context there.0 other.is_context there.1 in
      let base_ = first_label_grows base procs graphs k in
      let number : (label_at other.context.nodes first_node).number ≡ first_label base procs graphs k + first_node =
      ap (λ (z : Label). z.number) (ap (λ (ls : List Label). label_at ls first_node) other.made.nodes
      ∙ label_from (first_label base procs graphs k) (length (there.0).nodes) first_node (record { number = 0 }) other.can.first) in
      let follow = first_label_next base procs graphs k other.procedure there.0 other.is_procedure other.is_graph in
      let inside = slice_get_within procs k other.procedure other.is_procedure in
      let later = first_label_later base procs graphs (k + 1) (length procs) (omega (arith, inside)) in
      let total = have.count in
      let first_in = other.can.first in
      subst (IsInner labels) (sym same)
      (inner_number (label_at other.context.nodes first_node) (omega (arith, number, base_)) (omega (arith, number, follow, later, total, first_in)))

  -- what is named elsewhere
  symbol_meant : (l : Label) (r : Reference) → slice_get o.references l.number ≡ Some r → (l.number < length labels) × (get_or labels l.number (Inner false) ≡ Outer l.number (is_reached r))
  symbol_meant l r there =
      let known = have.symbols l.number r there in
      (slice_get_within labels l.number (Outer l.number (is_reached r)) known, get_or_from_slice_get labels l.number (Outer l.number (is_reached r)) (Inner false) known)

  procedure_target : (k : ℕ) → has_named o.targets.procedures k ≡ true → IsTarget labels (named_at o.targets.procedures k)
  procedure_target k has = by (procedure_label p procs graphs found o outline entries_counted k has)
    where
      by : IsOwnProcedure p procs graphs found o outline entries_counted k (named_at o.targets.procedures k) ⊎ (slice_get o.references (named_at o.targets.procedures k).number ≡ Some (Procedure k)) →
          IsTarget labels (named_at o.targets.procedures k)
      by (inl own) = subst (IsTarget labels) (sym own.label) (inner_target labels (label_at o.entries own.number) (entry_inner own.number own.inside))
      by (inr other) = let means = symbol_meant (named_at o.targets.procedures k) (Procedure k) other in (means.0, ap is_target means.1)

  pub is_ready : IsReady labels c o.targets
  is_ready = record {
    frame = one.can.frame;
    places = one.can.places;
    stack = one.can.stack;
    pairs = one.can.pairs;
    landings = landings_inner;
    landed = one.can.landed;
    nodes = nodes_inner;
    procedures = procedure_target;
    data_labels = λ k has. (symbol_meant (named_at o.targets.data_labels k) (reference.Label k) (data_label p procs graphs found o outline entries_counted k has)).0;
    registers = λ k has. (symbol_meant (named_at o.targets.registers k) (reference.Register k) (register_label p procs graphs found o outline entries_counted k has)).0;
    few_registers = let few = can.registers in omega (arith, few, registers_counted p procs graphs found o outline entries_counted);
    limit =
        let number = ap (λ (z : Label). z.number) outline.limit in
        inner_number o.targets.limit (omega (arith, number)) (omega (arith, number, far, within));
    client =
        let number = ap (λ (z : Label). z.number) outline.client in
        inner_number o.targets.client (omega (arith, number)) (omega (arith, number, far, within));
  }

  -- ---- once it is laid

  is_own_within : (m : ℕ) → IsOwn c m → (first ≤ m) × (m < first + (node_count + site_count))
  is_own_within m (inl own) =
      let inside : own.0 < node_count = omega (arith, own.1, nodes_counted) in
      let number = node_number own.0 inside in
      let same = own.2 in
      ((omega (arith, number, same)), omega (arith, number, same, inside))
  is_own_within m (inr own) =
      let inside : own.0 < site_count = omega (arith, own.1, sites_counted) in
      let number = site_number own.0 inside in
      let same = own.2 in
      ((omega (arith, number, same)), omega (arith, number, same, inside))

  module _ (new : List Meaning) (places : PlacesOwn c labels new) where
    stays : (m : ℕ) → m < length labels → ((first ≤ m) × (m < first + (node_count + site_count)) → ⊥) → slice_get new m ≡ slice_get labels m
    stays m there other = by (places.each m)
      where
        by : (slice_get new m ≡ slice_get labels m) ⊎ ((IsOwn c m ⊎ (length labels ≤ m)) × (slice_get new m ≡ Some (Inner true))) → slice_get new m ≡ slice_get labels m
        by (inl same) = same
        by (inr (inl own, is)) = absurd (other (is_own_within m own))
        by (inr (inr behind, is)) = absurd (omega (arith, there, behind))

    still_inner : (m : ℕ) → length o.references ≤ m → m < length new → IsTrue (is_inner (get_or new m (Inner false)))
    still_inner m least less = by (places.each m)
      where
        by : (slice_get new m ≡ slice_get labels m) ⊎ ((IsOwn c m ⊎ (length labels ≤ m)) × (slice_get new m ≡ Some (Inner true))) → is_inner (get_or new m (Inner false)) ≡ true
        by (inl same) =
            let inside : m < length labels = slice_get_within labels m (get_or new m (Inner false)) (sym same ∙ slice_get-get_or new m (Inner false) less) in
            let there = slice_get-get_or labels m (Inner false) inside in
            ap is_inner (get_or_from_slice_get new m (get_or labels m (Inner false)) (Inner false) (same ∙ there)) ∙ have.inner m least inside
        by (inr own) = ap is_inner (get_or_from_slice_get new m (Inner true) (Inner false) own.1)

    pub labels_next : HaveLabels procs graphs o (n + 1) new
    labels_next = record {
      count = let more = places.count in let count = have.count in omega (arith, more, count);
      symbols = λ k r there.
          let less = slice_get_within o.references k r there in
          stays k (omega (arith, less, far, within)) (λ own. omega (arith, own.0, less, far)) ∙ have.symbols k r there;
      limit = stays (length o.references) (omega (arith, far, within)) (λ own. omega (arith, own.0, far)) ∙ have.limit;
      client = stays (length o.references + 1) (omega (arith, far, within)) (λ own. omega (arith, own.0, far)) ∙ have.client;
      inner = still_inner;
      fresh = λ k least less.
          stays k (let count = have.count in omega (arith, less, count)) (λ own. omega (arith, own.1, least, next)) ∙ have.fresh k (omega (arith, least, next)) less;
    }

  -- ---- its code

  module _ (old mid new : List Part) (codes : HaveCodes procs graphs o n old) (placed : ArePlaced labels old) (added : Appends old mid (λ x from to. Unit {0}))
      (code : (k : ℕ) → k < length g.nodes → Codes mid (label_at c.nodes k) (StandsHere c o.targets g k))
      (stands : (k : ℕ) (node : Node) → slice_get g.nodes k ≡ Some node → SiteStands false c node.kind mid) (closed : new ≡ mid ++ Single Ebreak ∷ [])
      (few : all_longest mid ≤ all_longest old + 4 * total_cost c o.targets g.nodes) where
    close : Appends mid new (λ x from to. Unit {0})
    close = appends_weaker (closing mid new closed) (λ x from to does. tt)

    more : {So : Code → ℕ → ℕ → Type 0} (l : Label) → Codes old l So → Codes new l So
    more l is = codes_more l (codes_more l is added) close

    whole : new ≡ old ++ (added.parts ++ Single Ebreak ∷ [])
    whole = closed ∙ (ap (λ (ps : List Part). ps ++ Single Ebreak ∷ []) added.added ∙ append_assoc old added.parts (Single Ebreak ∷ []))

    nodes_then : (q : ℕ) (d : Context) (h : Graph) (k : ℕ) → q < n + 1 → slice_get o.contexts q ≡ Some d → slice_get graphs q ≡ Some h → k < length h.nodes →
        Codes new (label_at d.nodes k) (StandsHere d o.targets h k)
    nodes_then q d h k less is also inside = by (grind arith)
      where
        by : (q < n) ⊎ (q ≡ n) → Codes new (label_at d.nodes k) (StandsHere d o.targets h k)
        by (inl before) = more (label_at d.nodes k) (codes.nodes q d h k before is also inside)
        by (inr same) =
            let is_c : c ≡ d = some_same (sym one.is_context ∙ (ap (λ (z : ℕ). slice_get o.contexts z) (sym same) ∙ is)) in
            let is_g : g ≡ h = some_same (sym one.is_graph ∙ (ap (λ (z : ℕ). slice_get graphs z) (sym same) ∙ also)) in
            let within_g : k < length g.nodes = subst (λ (z : Graph). k < length z.nodes) (sym is_g) inside in
            subst (λ (z : Graph). Codes new (label_at d.nodes k) (StandsHere d o.targets z k)) is_g
            (subst (λ (z : Context). Codes new (label_at z.nodes k) (StandsHere z o.targets g k)) is_c (codes_more (label_at c.nodes k) (code k within_g) close))

    sites_then : (q : ℕ) (d : Context) (h : Graph) (k : ℕ) (node : Node) → q < n + 1 → slice_get o.contexts q ≡ Some d → slice_get graphs q ≡ Some h →
        slice_get h.nodes k ≡ Some node → SiteStands true d node.kind new
    sites_then q d h k node less is also there = by (grind arith)
      where
        by : (q < n) ⊎ (q ≡ n) → SiteStands true d node.kind new
        by (inl before) = site_stays true d node.kind (site_stays true d node.kind (codes.sites q d h k node before is also there) added) close
        by (inr same) =
            let is_c : c ≡ d = some_same (sym one.is_context ∙ (ap (λ (z : ℕ). slice_get o.contexts z) (sym same) ∙ is)) in
            let is_g : g ≡ h = some_same (sym one.is_graph ∙ (ap (λ (z : ℕ). slice_get graphs z) (sym same) ∙ also)) in
            subst (λ (z : Context). SiteStands true z node.kind new) is_c
            (site_closed c node.kind mid (stands k node (subst (λ (z : Graph). slice_get z.nodes k ≡ Some node) (sym is_g) there)) closed)

    abbrev entry : Label
    entry = label_at c.nodes g.first.number

    none_before : (k : ℕ) → slice_get old k ≡ Some (Place entry) → ⊥
    none_before k is =
        let there = placed k entry is in
        let not = node_free g.first.number one.can.first in
        inner_false (sym not ∙ there)
      where
        inner_false : ◌≡◌ {A = Option Meaning} (Some (Inner false)) (Some (Inner true)) → ⊥
        inner_false e = cc

    order_next : AreInOrder (take (n + 1) o.entries) new
    order_next =
        let at = code g.first.number one.can.first in
        let same : old ++ added.parts ≡ at.front ++ Place entry ∷ (at.parts ++ at.back) = sym added.added ∙ at.is in
        let parts_ = split old added.parts at.front (Place entry) (at.parts ++ at.back) same none_before in
        let behind : added.parts ++ Single Ebreak ∷ [] ≡ parts_.middle ++ Place entry ∷ ((at.parts ++ at.back) ++ Single Ebreak ∷ []) =
        ap (λ (ps : List Part). ps ++ Single Ebreak ∷ []) parts_.is_more ∙ append_assoc parts_.middle (Place entry ∷ (at.parts ++ at.back)) (Single Ebreak ∷ []) in
        let word : 4 ≤ all_shortest ((at.parts ++ at.back) ++ Single Ebreak ∷ []) = omega (arith, shortest-append (at.parts ++ at.back) (Single Ebreak ∷ [])) in
        let inside : n < length o.entries = omega (arith, less_count, entries_counted) in
        let label : label_at o.entries n ≡ entry = ap (λ (ls : List Label). label_at ls n) outline.entries ∙ entry_label o.contexts graphs n c g one.is_context one.is_graph in
        let next_number : n + 1 ≡ suc n = omega arith in
        let taken : take (n + 1) o.entries ≡ take n o.entries ++ entry ∷ [] =
        ap (λ (z : ℕ). take z o.entries) next_number ∙ (take-suc o.entries n (record { number = 0 }) inside ∙ ap (λ (l : Label). take n o.entries ++ l ∷ []) label) in
        subst (λ (ps : List Part). AreInOrder (take (n + 1) o.entries) ps) (sym whole)
        (subst (λ (ls : List Label). AreInOrder ls (old ++ (added.parts ++ Single Ebreak ∷ []))) (sym taken)
        (order_more (take n o.entries) old (added.parts ++ Single Ebreak ∷ []) entry parts_.middle ((at.parts ++ at.back) ++ Single Ebreak ∷ []) codes.order behind word))

    tokens_next : tokens_of_first (n + 1) procs ≡ tokens_of_first n procs + one.procedure.tokens
    tokens_next =
        let q = one.procedure in
        let is : get_or procs n q ≡ q = get_or_from_slice_get procs n q q one.is_procedure in
        ap (λ (qs : List Proc). sum_by (λ q. q.tokens) qs) (take_more procs n q less_count ∙ ap (λ (z : Proc). take n procs ++ z ∷ []) is)
        ∙ sum_by_push (λ (q : Proc). q.tokens) (take n procs) q

    size_next : all_longest new ≤ 256 * tokens_of_first (n + 1) procs
    size_next =
        let short = can.short n one.procedure c g one.is_procedure one.is_context one.is_graph in
        let before = codes.size in
        omega (arith, before, few, short, tokens_next, ap all_longest closed, longest-append mid (Single Ebreak ∷ []))

    pub codes_next : HaveCodes procs graphs o (n + 1) new
    codes_next = record {
      nodes = nodes_then;
      sites = sites_then;
      order = order_next;
      closed = inr (record { front = mid; last = Ebreak; is = closed });
      size = size_next;
    }
