-- The sites of a unit: each is inside its code with its exits, and no two have one place.
use Rattle.std.proofs.Common.{◌≡◌, ◌⊎◌, inl, inr, ℕ, zero, suc, ◌+◌, ◌*◌, ◌<◌, ◌≤◌, refl, sym, ◌∙◌, ap, subst, arith, List, [], ◌∷◌, length, map, Some, slice_get}
use Rattle.std.specs.Prelude.{slice_index, Option, None}
use Rattle.std.specs.List.{AllZip}
use Rattle.std.proofs.lemmas.Option.{get_or_from_slice_get, slice_get_within}
use Rattle.rv_asm.specs.Finishing.{HavePlaces}
use Rattle.rv_asm.specs.declared.part.Label.{Label}
use Rattle.rv_asm.specs.declared.part.Part.TheVariants.{Place}
use Rattle.rv_asm.proofs.Shared.{behind_parts}
use Rattle.rv_asm.specs.Appending.{IsBehind}
use Rattle.cmm_program.specs.declared.procedure.Proc.{Proc}
use Rattle.cmm_program.specs.declared.procedure.Site.{Site}
use Rattle.cmm_program.specs.declared.program.Program.{Program}
use Rattle.cmm_graph.specs.declared.graph.Graph.{Graph}
use Rattle.cmm_unit_code.specs.Texts.{AreDistinct, address_in}
use Rattle.cmm_unit_code.specs.declared.unit_code.UnitCode.{UnitCode}
use Rattle.cmm_allocate.specs.declared.procedure.ProcedurePlaces.{ProcedurePlaces}
use Rattle.cmm_emit.specs.declared.context.Context.{Context}
use Rattle.cmm_emit.specs.Naming.{label_at}
use Rattle.cmm_emit.proofs.Addresses.{place_fine}
use Rattle.cmm_emit.proofs.Advancing.{first_label_later, first_label_next}
use Rattle.cmm_emit.proofs.Belonging.{IsOne, one_with, there_at}
use Rattle.cmm_emit.proofs.Inside.{IsInside, zip_made}
use Rattle.cmm_emit.proofs.Layable.{share_in}
use Rattle.cmm_emit.proofs.Numbering.{label_from, length-labels_from}
use Rattle.cmm_emit.proofs.Returns.{one_place, room_before}
use Rattle.cmm_emit.proofs.SiteNodes.{IsWaited}
use Rattle.cmm_emit.specs.Contexts.{first_label}
use Rattle.cmm_emit.specs.Finishing.{places_at}
use Rattle.cmm_emit.specs.LaidProcedures.{CanAllBeLaidIn}
use Rattle.cmm_emit.specs.Outlines.{first_own, own, share}
use Rattle.cmm_emit.specs.Units.{IsUnit}
use Rattle.cmm_emit.specs.declared.outline.Outline.{Outline}

-- a place in so many bytes, as is that behind a word for each alternate exit of a site
abbrev pub IsSiteIn : ℕ → Site → ℕ → Type 0
IsSiteIn size site offset = IsInside size offset × (offset + 4 * length site.returns < size)

abbrev pub HasSitesIn : ℕ → Proc → List ℕ → Type 0
HasSitesIn size q offsets = AllZip (IsSiteIn size) q.sites offsets

-- the sites of a unit are in its code, and no two have one place
pub record IsSited (p : Program) (first count : ℕ) (u : UnitCode) : Type 0 where
  pub sites : AllZip (HasSitesIn (length u.code)) (share first count p.procs) u.sites
  pub below : (q n offset : ℕ) → address_in u.sites q n ≡ Some offset → offset < length u.code
  pub distinct : AreDistinct u.sites

-- what a mapped list has is made of what the list has
pub record IsOf {A B : Type 0} (make : A → B) (xs : List A) (k : ℕ) (y : B) : Type 0 where
  pub from : A
  pub is_there : slice_get xs k ≡ Some from
  pub is : make from ≡ y

pub made_of : {A B : Type 0} (make : A → B) (xs : List A) (k : ℕ) (y : B) → slice_get (map make xs) k ≡ Some y → IsOf make xs k y
made_of make [] k y is = absurd (cc)
made_of make (x ∷ xs) zero y is = record { from = x; is_there = refl; is = cc }
made_of make (x ∷ xs) (suc k) y is = let rest = made_of make xs k y is in record { from = rest.from; is_there = rest.is_there; is = rest.is }

compared : (q r : ℕ) → (q < r) ⊎ ((r < q) ⊎ (q ≡ r))
compared q r = grind arith

-- where a site of a list of lists is
pub record IsAt (sites : List (List ℕ)) (q n address : ℕ) : Type 0 where
  pub own : List ℕ
  pub is_own : slice_get sites q ≡ Some own
  pub is_address : slice_get own n ≡ Some address

pub is_at : (sites : List (List ℕ)) (q n address : ℕ) → address_in sites q n ≡ Some address → IsAt sites q n address
is_at sites q n address is = by (slice_get sites q) refl is
  where
    by : (o : Option (List ℕ)) → slice_get sites q ≡ o → elim o [ Some addresses ↦ slice_get addresses n | None ↦ None ] ≡ Some address → IsAt sites q n address
    by None e there = absurd (cc)
    by (Some own) e there = record { own = own; is_own = e; is_address = there }

module _ (p : Program) (graphs : List Graph) (found : List ProcedurePlaces) (first count : ℕ) (u : UnitCode) (is : IsUnit p graphs found first count u)
    (can : CanAllBeLaidIn p graphs found is.outline) (graph_count : length graphs ≡ length p.procs)
    (waiting : (q : ℕ) (procedure : Proc) (g : Graph) → slice_get p.procs q ≡ Some procedure → slice_get graphs q ≡ Some g → (n : ℕ) (site : Site) →
    slice_get procedure.sites n ≡ Some site → IsWaited g n site) where
  abbrev o : Outline
  o = is.outline

  abbrev procs : List Proc
  procs = own o p.procs

  abbrev places : List ℕ
  places = is.finished.places

  abbrev place_of : Label → ℕ
  place_of l = slice_index places l.number

  abbrev size : ℕ
  size = length u.code

  abbrev have : HavePlaces is.labels is.parts 0 size places
  have = is.finished.done.have

  abbrev base : ℕ
  base = first_own o

  contexts_counted : length procs ≡ length o.contexts
  contexts_counted = sym is.is_outline.contexts.count

  graphs_counted : length (own o graphs) ≡ length o.contexts
  graphs_counted = can.graph_count ∙ contexts_counted

  within : o.first + length o.contexts ≤ length p.procs
  within = let inside = is.is_outline.within in omega (arith, inside, contexts_counted)

  -- a procedure by its context
  abbrev AtContext : ℕ → Context → Type 0
  AtContext k c = (g : Graph) × (one : IsOne p procs (own o graphs) (own o found) o k g) × (one.context ≡ c)

  at_context : (k : ℕ) (c : Context) → slice_get o.contexts k ≡ Some c → AtContext k c
  at_context k c there =
      let less = slice_get_within o.contexts k c there in
      let g = there_at (own o graphs) k (omega (arith, less, graphs_counted)) in
      (g.0, one_with p procs (own o graphs) (own o found) o is.is_outline can k g.0 c g.1 there, refl)

  module _ (k : ℕ) (g : Graph) (one : IsOne p procs (own o graphs) (own o found) o k g) where
    abbrev c : Context
    c = one.context

    sites_counted : length c.sites ≡ length one.procedure.sites
    sites_counted =
        ap (λ (ls : List Label). length ls) one.made.sites
        ∙ length-labels_from (first_label base procs (own o graphs) k + length g.nodes) (length one.procedure.sites)

    site_number : (n : ℕ) → n < length one.procedure.sites → (label_at c.sites n).number ≡ first_label base procs (own o graphs) k + length g.nodes + n
    site_number n less =
        ap (λ (l : Label). l.number)
        (ap (λ (ls : List Label). label_at ls n) one.made.sites
        ∙ label_from (first_label base procs (own o graphs) k + length g.nodes) (length one.procedure.sites) n (record { number = 0 }) less)

    -- a site stands in the code of the node that waits there
    stands : (n : ℕ) (site : Site) → slice_get one.procedure.sites n ≡ Some site → IsBehind (label_at c.sites n) (length site.returns + 1) is.whole.front
    stands n site there =
        let of_program = share_in o.first (length o.contexts) p.procs k one.procedure within one.is_procedure in
        let of_graphs = share_in o.first (length o.contexts) graphs k g (omega (arith, within, graph_count)) one.is_graph in
        let node = waiting (o.first + k) one.procedure g of_program of_graphs n site there in
        node.stands c is.whole.front
        (is.whole.codes.sites k c g node.at node.node (slice_get_within procs k one.procedure one.is_procedure) one.is_context one.is_graph node.is_there)

    inside : (n : ℕ) (site : Site) → slice_get one.procedure.sites n ≡ Some site → IsSiteIn size site (place_of (label_at c.sites n))
    inside n site there =
        let l = label_at c.sites n in
        let room = room_before is.labels is.parts size places have l o.targets.limit (length site.returns + 1) is.whole.front is.whole.back is.whole.is (stands n site there) in
        let high = (place_fine is.labels is.parts size places have o.targets.limit.number).1 in
        (((place_fine is.labels is.parts size places have l.number).0, omega (arith, room, high)), omega (arith, room, high))

    all_inside : HasSitesIn size one.procedure (places_at places c.sites)
    all_inside =
        zip_made (IsSiteIn size) place_of one.procedure.sites c.sites sites_counted
        (λ n site l there is_label.
        subst (λ (z : Label). IsSiteIn size site (place_of z)) (get_or_from_slice_get c.sites n l (record { number = 0 }) is_label) (inside n site there))

  pub unit_sites : AllZip (HasSitesIn size) procs u.sites
  unit_sites =
      subst (λ (ns : List (List ℕ)). AllZip (HasSitesIn size) procs ns) (sym is.finished.sites)
      (zip_made (HasSitesIn size) (λ c. places_at places c.sites) procs o.contexts (sym contexts_counted)
      (λ k procedure c here there. each k procedure c here (at_context k c there)))
    where
      each : (k : ℕ) (procedure : Proc) (c : Context) → slice_get procs k ≡ Some procedure → AtContext k c → HasSitesIn size procedure (places_at places c.sites)
      each k procedure c here at =
          let one = at.1 in
          let same : one.procedure ≡ procedure = let there = one.is_procedure in cc in
          subst (λ (z : Context). HasSitesIn size procedure (places_at places z.sites)) at.2
          (subst (λ (z : Proc). HasSitesIn size z (places_at places one.context.sites)) same (all_inside k at.0 one))

  -- ---- no two have one place

  -- a site by its address
  pub record IsSite (q n address : ℕ) : Type 0 where
    pub graph : Graph
    pub one : IsOne p procs (own o graphs) (own o found) o q graph
    pub less : n < length one.procedure.sites
    pub place_is : place_of (label_at one.context.sites n) ≡ address

  site_at : (q n address : ℕ) → address_in u.sites q n ≡ Some address → IsSite q n address
  site_at q n address there =
      let at = is_at u.sites q n address there in
      let of = made_of (λ c. places_at places c.sites) o.contexts q at.own (subst (λ (ns : List (List ℕ)). slice_get ns q ≡ Some at.own) is.finished.sites at.is_own) in
      let context = at_context q of.from of.is_there in
      let label = made_of place_of (of.from).sites n address (subst (λ (ns : List ℕ). slice_get ns n ≡ Some address) (sym of.is) at.is_address) in
      let one = context.1 in
      let here : slice_get one.context.sites n ≡ Some label.from = subst (λ (c : Context). slice_get c.sites n ≡ Some label.from) (sym context.2) label.is_there in
      record {
        graph = context.0;
        one = one;
        less = let inside = slice_get_within one.context.sites n label.from here in omega (arith, inside, sites_counted q context.0 one);
        place_is = ap place_of (get_or_from_slice_get one.context.sites n label.from (record { number = 0 }) here) ∙ label.is;
      }

  behind : (q n address : ℕ) (site : IsSite q n address) → (w : ℕ) × IsBehind (label_at site.one.context.sites n) w is.parts
  behind q n address site =
      let there = there_at site.one.procedure.sites n site.less in
      (0, behind_parts (stands q site.graph site.one n there.0 there.1) (Place o.targets.limit ∷ is.whole.back) 0 is.whole.is (omega arith))

  -- the labels of a procedure come before those of a later one
  before : (q r m n a b : ℕ) (one : IsSite q m a) (other : IsSite r n b) → q < r → (label_at one.one.context.sites m).number < (label_at other.one.context.sites n).number
  before q r m n a b one other less =
      let low = site_number q one.graph one.one m one.less in
      let high = site_number r other.graph other.one n other.less in
      let next = first_label_next base procs (own o graphs) q one.one.procedure one.graph one.one.is_procedure one.one.is_graph in
      let later = first_label_later base procs (own o graphs) (q + 1) r (omega (arith, less)) in
      let inside = one.less in
      omega (arith, low, high, next, later, inside)

  pub unit_distinct : AreDistinct u.sites
  unit_distinct q r m n address here there = both (site_at q m address here) (site_at r n address there)
    where
      both : IsSite q m address → IsSite r n address → (q ≡ r) × (m ≡ n)
      both one other =
          let l = label_at one.one.context.sites m in
          let k = label_at other.one.context.sites n in
          let same : l ≡ k =
          one_place is.labels is.parts size places have l k (behind q m address one).0 (behind r n address other).0 (behind q m address one).1 (behind r n address other).1
          (one.place_is ∙ sym other.place_is)
          in
          by (ap (λ (z : Label). z.number) same) (compared q r)
        where
          by : (label_at one.one.context.sites m).number ≡ (label_at other.one.context.sites n).number → (q < r) ⊎ ((r < q) ⊎ (q ≡ r)) → (q ≡ r) × (m ≡ n)
          by number (inl less) = absurd (let far = before q r m n address address one other less in omega (arith, far, number))
          by number (inr (inl more)) = absurd (let far = before r q n m address address other one more in omega (arith, far, number))
          by number (inr (inr e)) =
              let low = site_number q one.graph one.one m one.less in
              let high = site_number r other.graph other.one n other.less in
              let graph : one.graph ≡ other.graph = let is_one = one.one.is_graph in let is_other = other.one.is_graph in some_same (sym is_one ∙ (ap (λ (z : ℕ). slice_get (own o graphs) z) e ∙ is_other)) in
              let nodes = ap (λ (g : Graph). length g.nodes) graph in
              let labels = ap (λ (z : ℕ). first_label base procs (own o graphs) z) e in
              (e, omega (arith, low, high, number, nodes, labels))
            where
              some_same : {A : Type 0} {x y : A} → Some x ≡ Some y → x ≡ y
              some_same e = cc

  pub unit_below : (q n address : ℕ) → address_in u.sites q n ≡ Some address → address < size
  unit_below q n address there =
      let site = site_at q n address there in
      let found_site = there_at site.one.procedure.sites n site.less in
      let less = (inside q site.graph site.one n found_site.0 found_site.1).0.1 in
      let same = site.place_is in
      omega (arith, less, same)

  pub unit_sited : IsSited p first count u
  unit_sited = record {
    sites = subst (λ (qs : List Proc). AllZip (HasSitesIn size) qs u.sites) own_share unit_sites;
    below = unit_below;
    distinct = unit_distinct;
  }
    where
      own_share : procs ≡ share first count p.procs
      own_share = ap (λ (n : ℕ). share n (length o.contexts) p.procs) is.first_is ∙ ap (λ (n : ℕ). share first n p.procs) is.count_is
