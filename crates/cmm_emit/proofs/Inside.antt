-- The places of a unit are in its code.
use Rattle.std.proofs.Common.{◌≡◌, ◌⊎◌, inl, inr, ℕ, suc, ◌+◌, ◌*◌, ◌%◌, ◌<◌, ◌≤◌, refl, sym, ◌∙◌, ap, subst, arith, true, List, [], ◌∷◌, ◌++◌, append_assoc, length, map, take, get_or, Some, slice_get}
use Rattle.std.specs.Prelude.{slice_index, sum_by}
use Rattle.std.specs.List.{All, AllZip}
use Rattle.std.proofs.lemmas.List.{length-map, take_all}
use Rattle.std.proofs.lemmas.List.Elements.{All-from_get_or, All-map, All-weaker}
use Rattle.std.proofs.lemmas.Option.{slice_get-get_or, slice_get_within}
use Rattle.rv_asm.specs.Finishing.{HavePlaces}
use Rattle.rv_asm.specs.declared.part.Label.{Label}
use Rattle.rv_asm.specs.declared.part.Part.{Part}
use Rattle.rv_asm.specs.declared.part.Part.TheVariants.{Place}
use Rattle.cmm_program.specs.declared.procedure.Proc.{Proc}
use Rattle.cmm_program.specs.declared.program.Program.{Program}
use Rattle.cmm_graph.specs.declared.graph.Graph.{Graph}
use Rattle.cmm_graph.specs.declared.number.NodeId.{NodeId}
use Rattle.cmm_unit_code.specs.Joined.{IsWhole}
use Rattle.cmm_unit_code.specs.Texts.{HasLandings, ascend_above}
use Rattle.cmm_unit_code.specs.declared.unit_code.Reference.{Reference}
use Rattle.cmm_unit_code.specs.declared.unit_code.UnitCode.{UnitCode}
use Rattle.cmm_allocate.specs.declared.procedure.ProcedurePlaces.{ProcedurePlaces}
use Rattle.cmm_emit.specs.declared.context.Context.{Context}
use Rattle.cmm_emit.specs.Naming.{label_at}
use Rattle.cmm_emit.proofs.Addresses.{HasPlace, ascending, place_fine, placed_by, word_before}
use Rattle.cmm_emit.proofs.Belonging.{IsOne, entry_label, length-entry_labels, one_of, one_with, there_at}
use Rattle.cmm_emit.proofs.Layable.{share_in}
use Rattle.cmm_emit.proofs.Meanings.{symbols_named}
use Rattle.cmm_emit.specs.Finishing.{places_at}
use Rattle.cmm_emit.specs.LaidProcedures.{CanAllBeLaidIn}
use Rattle.cmm_emit.specs.Orders.{AreInOrder, IsClosed}
use Rattle.cmm_emit.specs.Outlines.{own, share}
use Rattle.cmm_emit.specs.Units.{IsUnit}
use Rattle.cmm_emit.specs.declared.outline.Outline.{Outline}

-- ---- lists

-- labels that have their places in order have them so in more parts
order_front : (ls : List Label) (front more : List Part) → AreInOrder ls front → AreInOrder ls (front ++ more)
order_front [] front more order = tt
order_front (l ∷ ls) front more order = (
  order.0 ++ more,
  record {
    front = order.1.front;
    piece = order.1.piece;
    is = ap (λ (ps : List Part). ps ++ more) order.1.is ∙ simp append_assoc;
    word = order.1.word;
  },
  order_front ls order.0 more order.2,
)

pub zip_made : {A B C : Type 0} (R : A → C → Type 0) (make : B → C) (xs : List A) (ys : List B) → length ys ≡ length xs →
    ((k : ℕ) (x : A) (y : B) → slice_get xs k ≡ Some x → slice_get ys k ≡ Some y → R x (make y)) → AllZip R xs (map make ys)
zip_made R make [] [] same each = tt
zip_made R make [] (y ∷ ys) same each = absurd (omega (arith, same))
zip_made R make (x ∷ xs) [] same each = absurd (omega (arith, same))
zip_made R make (x ∷ xs) (y ∷ ys) same each =
    (each 0 x y refl refl, zip_made R make xs ys (omega (arith, same)) (λ k x' y' is also. each (suc k) x' y' is also))

-- ---- a unit

-- a place of an instruction in n bytes of code
abbrev pub IsInside : ℕ → ℕ → Type 0
IsInside size place = (place % 4 ≡ 0) × (place < size)

-- the code of a unit that has n procedures of a program, from one on: it is as large as their tokens allow, and its places are inside
pub record IsRanged (p : Program) (first count : ℕ) (u : UnitCode) : Type 0 where
  pub within : first + count ≤ length p.procs
  pub whole : IsWhole u
  pub aligned : length u.code % 4 ≡ 0
  pub few : length u.code ≤ 256 * sum_by (λ q. q.tokens) (share first count p.procs) + 16
  pub procedure_count : length u.procedures ≡ count
  pub procedures : All (IsInside (length u.code)) u.procedures
  pub ascending : (at before : ℕ) → before < at → ascend_above before (map (λ offset. at + offset) u.procedures) ≡ true
  pub counts : AllZip HasLandings (share first count p.procs) u.landings
  pub landings : All (All (IsInside (length u.code))) u.landings

module _ (p : Program) (graphs : List Graph) (found : List ProcedurePlaces) (first count : ℕ) (u : UnitCode) (is : IsUnit p graphs found first count u) where
  abbrev o : Outline
  o = is.outline

  abbrev places : List ℕ
  places = is.finished.places

  abbrev place_of : Label → ℕ
  place_of l = slice_index places l.number

  abbrev size : ℕ
  size = length u.code

  abbrev have : HavePlaces is.labels is.parts 0 size places
  have = is.finished.done.have

  -- each place that finishing gives is at most the size
  places_within : (ls : List Label) → All (λ offset. offset ≤ size) (places_at places ls)
  places_within ls = All-map (λ offset. offset ≤ size) place_of ls (λ k d less. (place_fine is.labels is.parts size places have (get_or ls k d).number).1)

  pub unit_whole : IsWhole u
  unit_whole = record {
    apart = is.finished.done.apart;
    symbols =
        subst (λ (rs : List Reference). All (λ f. f.symbol < length rs) u.fixes) (sym is.finished.references)
        (symbols_named o.references is.labels (record { symbols = is.whole.symbols; inner = is.whole.inner }) is.parts u.fixes is.finished.done.symbols);
    procedures = subst (λ (ns : List ℕ). All (λ offset. offset ≤ size) ns) (sym is.finished.procedures) (places_within o.entries);
    landings = subst (λ (ns : List (List ℕ)). All (All (λ offset. offset ≤ size)) ns) (sym is.finished.landings)
        (All-map (All (λ offset. offset ≤ size)) (λ c. places_at places c.landings) o.contexts (λ k d less. places_within (get_or o.contexts k d).landings));
    sites = subst (λ (ns : List (List ℕ)). All (All (λ offset. offset ≤ size)) ns) (sym is.finished.sites)
        (All-map (All (λ offset. offset ≤ size)) (λ c. places_at places c.sites) o.contexts (λ k d less. places_within (get_or o.contexts k d).sites));
  }

  module _ (can : CanAllBeLaidIn p graphs found o) (graph_count : length graphs ≡ length p.procs)
      (continuations : (q : ℕ) (procedure : Proc) (g : Graph) → slice_get p.procs q ≡ Some procedure → slice_get graphs q ≡ Some g →
      length g.continuations ≡ length procedure.conts) where
    abbrev procs : List Proc
    procs = own o p.procs

    -- a label of the front is inside: the limit has its place behind it
    inside : (l : Label) → HasPlace l is.whole.front → IsInside size (place_of l)
    inside l there =
        let high = (place_fine is.labels is.parts size places have o.targets.limit.number).1 in
        ((place_fine is.labels is.parts size places have l.number).0, (let before = closed is.whole.codes.closed in omega (arith, before, high)))
      where
        closed : (is.whole.front ≡ []) ⊎ IsClosed is.whole.front → place_of l + 4 ≤ place_of o.targets.limit
        closed (inl none) =
            let nowhere : slice_get [] there.index ≡ Some (Place l) = subst (λ (ps : List Part). slice_get ps there.index ≡ Some (Place l)) none there.is in
            absurd (cc (nowhere))
        closed (inr is_closed) = word_before is.labels is.parts size places have l o.targets.limit is.whole.front is.whole.back is.whole.is is_closed there

    -- ---- counts

    contexts_counted : length procs ≡ length o.contexts
    contexts_counted = sym is.is_outline.contexts.count

    graphs_counted : length (own o graphs) ≡ length o.contexts
    graphs_counted = can.graph_count ∙ contexts_counted

    entries_counted : length o.entries ≡ length o.contexts
    entries_counted = ap (λ (ls : List Label). length ls) is.is_outline.entries ∙ length-entry_labels o.contexts (own o graphs) graphs_counted

    within : o.first + length o.contexts ≤ length p.procs
    within = let inside = is.is_outline.within in omega (arith, inside, contexts_counted)

    own_share : procs ≡ share first count p.procs
    own_share = ap (λ (n : ℕ). share n (length o.contexts) p.procs) is.first_is ∙ ap (λ (n : ℕ). share first n p.procs) is.count_is

    -- ---- nodes

    node_inside : (k : ℕ) (g : Graph) (one : IsOne p procs (own o graphs) (own o found) o k g) (n : ℕ) → n < length g.nodes → IsInside size (place_of (label_at one.context.nodes n))
    node_inside k g one n less =
        let below = slice_get_within (own o graphs) k g one.is_graph in
        let label = label_at one.context.nodes n in
        inside label
        (placed_by label is.whole.front
        (is.whole.codes.nodes k one.context g n (omega (arith, below, graphs_counted, contexts_counted)) one.is_context one.is_graph less))

    first_inside : (k : ℕ) (g : Graph) → IsOne p procs (own o graphs) (own o found) o k g → IsInside size (place_of (label_at o.entries k))
    first_inside k g one =
        let label = label_at one.context.nodes g.first.number in
        let same : label_at o.entries k ≡ label =
        ap (λ (ls : List Label). label_at ls k) is.is_outline.entries ∙ entry_label o.contexts (own o graphs) k one.context g one.is_context one.is_graph in
        subst (λ (l : Label). IsInside size (place_of l)) (sym same) (node_inside k g one g.first.number one.can.first)

    entry_inside : (k : ℕ) → k < length o.entries → IsInside size (place_of (label_at o.entries k))
    entry_inside k less =
        let g = there_at (own o graphs) k (omega (arith, less, entries_counted, graphs_counted)) in
        first_inside k g.0 (one_of p procs (own o graphs) (own o found) o is.is_outline can k g.0 g.1)

    abbrev AtContext : ℕ → Context → Type 0
    AtContext k c = (g : Graph) × (one : IsOne p procs (own o graphs) (own o found) o k g) × (one.context ≡ c)

    at_context : (k : ℕ) (c : Context) → slice_get o.contexts k ≡ Some c → AtContext k c
    at_context k c there =
        let less = slice_get_within o.contexts k c there in
        let g = there_at (own o graphs) k (omega (arith, less, graphs_counted)) in
        (g.0, one_with p procs (own o graphs) (own o found) o is.is_outline can k g.0 c g.1 there, refl)

    landings_inside : (k : ℕ) (c : Context) → AtContext k c → All (IsInside size) (places_at places c.landings)
    landings_inside k c at =
        let g = at.0 in
        let one = at.1 in
        let label = λ (n : NodeId). label_at one.context.nodes n.number in
        subst (λ (z : Context). All (IsInside size) (places_at places z.landings)) at.2
        (subst (λ (ls : List Label). All (IsInside size) (places_at places ls)) (sym one.made.landings)
        (All-map (IsInside size) place_of (map label g.continuations)
        (All-map (λ (l : Label). IsInside size (place_of l)) label g.continuations
        (All-weaker (λ n. n.number < length g.nodes) (λ n. IsInside size (place_of (label n))) (λ n less. node_inside k g one n.number less) g.continuations one.can.landings))))

    landings_counted : (k : ℕ) (procedure : Proc) (c : Context) → slice_get procs k ≡ Some procedure → AtContext k c → HasLandings procedure (places_at places c.landings)
    landings_counted k procedure c here at =
        let g = at.0 in
        let one = at.1 in
        let label = λ (n : NodeId). label_at one.context.nodes n.number in
        let of_program = share_in o.first (length o.contexts) p.procs k procedure within here in
        let of_graphs = share_in o.first (length o.contexts) graphs k g (omega (arith, within, graph_count)) one.is_graph in
        subst (λ (z : Context). length (places_at places z.landings) ≡ length procedure.conts) at.2
        (length-map one.context.landings place_of
        ∙ (ap (λ (ls : List Label). length ls) one.made.landings ∙ (length-map g.continuations label ∙ continuations (o.first + k) procedure g of_program of_graphs)))

    -- ---- the whole

    in_order : AreInOrder o.entries is.parts
    in_order =
        let all : take (length procs) o.entries ≡ o.entries = take_all (length procs) o.entries (omega (arith, entries_counted, contexts_counted)) in
        subst (λ (ps : List Part). AreInOrder o.entries ps) (sym is.whole.is)
        (order_front o.entries is.whole.front (Place o.targets.limit ∷ is.whole.back) (subst (λ (ls : List Label). AreInOrder ls is.whole.front) all is.whole.codes.order))

    pub unit_ranged : IsRanged p first count u
    unit_ranged = record {
      within = let at = is.first_is in let many = is.count_is in omega (arith, at, many, within);
      whole = unit_whole;
      aligned = is.finished.done.whole;
      few = subst (λ (qs : List Proc). size ≤ 256 * sum_by (λ q. q.tokens) qs + 16) own_share
          (let done = is.finished.done.few in let most = is.whole.size in omega (arith, done, most));
      procedure_count = ap (λ (ns : List ℕ). length ns) is.finished.procedures ∙ (length-map o.entries place_of ∙ (entries_counted ∙ is.count_is));
      procedures = subst (λ (ns : List ℕ). All (IsInside size) ns) (sym is.finished.procedures)
          (All-map (IsInside size) place_of o.entries (All-from_get_or (λ (l : Label). IsInside size (place_of l)) o.entries (record { number = 0 }) entry_inside));
      ascending = λ at before less. subst (λ (ns : List ℕ). ascend_above before (map (λ offset. at + offset) ns) ≡ true) (sym is.finished.procedures)
          (ascending is.labels is.parts size places have at o.entries [] is.parts before refl in_order (λ k l far there. omega (arith, less)));
      counts = subst (λ (qs : List Proc). AllZip HasLandings qs u.landings) own_share
          (subst (λ (ns : List (List ℕ)). AllZip HasLandings procs ns) (sym is.finished.landings)
          (zip_made HasLandings (λ c. places_at places c.landings) procs o.contexts (sym contexts_counted)
          (λ k procedure c here there. landings_counted k procedure c here (at_context k c there))));
      landings = subst (λ (ns : List (List ℕ)). All (All (IsInside size)) ns) (sym is.finished.landings)
          (All-map (All (IsInside size)) (λ c. places_at places c.landings) o.contexts
          (λ k d less. landings_inside k (get_or o.contexts k d) (at_context k (get_or o.contexts k d) (slice_get-get_or o.contexts k d less))));
    }
