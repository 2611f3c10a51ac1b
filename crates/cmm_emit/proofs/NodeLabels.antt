-- A node or a site gets its place: labels stay ready, and its label is placed.
use Rattle.std.proofs.Common.{◌≡◌, ◌≢◌, ◌⊎◌, inl, inr, ℕ, zero, suc, ◌+◌, ◌<◌, ◌≤◌, [], ◌∷◌, ◌++◌, replicate, length-append, sym, ◌∙◌, ap, subst, refl, List, length, length-set, get_or, set, slice_get, Option, Some, None, true, false, Bool, IfSome, IsTrue, arith}
use Rattle.std.proofs.lemmas.Bool.Decides.{nat_tests}
use Rattle.std.proofs.lemmas.List.{get_or-set_other, get_or-set_same}
use Rattle.std.proofs.lemmas.Option.{get_or_from_slice_get, slice_get-get_or, slice_get_within}
use Rattle.rv_asm.proofs.Shared.{AreKept, fits_kept, kept_more, kept_placed}
use Rattle.rv_asm.specs.Assembly.{IsInner, IsLabel, IsTarget, is_inner, is_target, meaning}
use Rattle.rv_asm.specs.declared.part.Label.{Label}
use Rattle.rv_asm.specs.declared.part.Meaning.{Meaning}
use Rattle.rv_asm.specs.declared.part.Meaning.TheVariants.{Inner, Outer}
use Rattle.rv_asm.specs.declared.part.Part.TheVariants.{Jump as JumpPart, Place}
use Rattle.cmm_bitset.proofs.Shared.{has-set_other, has-set_same}
use Rattle.cmm_bitset.specs.Sets.{has}
use Rattle.cmm_emit.specs.declared.context.Context.{Context}
use Rattle.cmm_emit.specs.declared.context.Targets.{Targets}
use Rattle.cmm_graph.specs.declared.node.NodeKind.{NodeKind}
use Rattle.cmm_graph.specs.declared.node.NodeKind.TheVariants.{Assign, Branch, Call, CopyIn, Cut, Entry, Goto, Host, Jump, Return, Stop, Store, Switch, Yield}
use Rattle.cmm_graph.specs.declared.number.SiteId.{SiteId}
use Rattle.cmm_live.specs.Sites.{site_of}
use Rattle.cmm_select.specs.Switches.{MakesInner}
use Rattle.cmm_graph.specs.declared.graph.Graph.{Graph}
use Rattle.cmm_graph.specs.declared.number.NodeId.{NodeId}
use Rattle.cmm_emit.specs.LaidNodes.{AreLaid, HaveSites, IsOwn, PlacesOwn, SitesWait}
use Rattle.cmm_emit.specs.Naming.{has_kind, label_at, named_at, site_label}
use Rattle.cmm_emit.specs.Standing.{CanWait, IsReady, labels_with}

-- ---- labels that are kept stay ready

-- control can go to a place in the code
pub inner_target : (labels : List Meaning) (l : Label) → IsInner labels l → IsTarget labels l
inner_target labels l is = (is.0, inner_is_target (meaning labels l) is.1)
  where
    inner_is_target : (m : Meaning) → IsTrue (is_inner m) → IsTrue (is_target m)
    inner_is_target (Inner placed) is = refl
    inner_is_target (Outer symbol relative) is = absurd (cc (is))

module _ {old new : List Meaning} (kept : AreKept old new) where
  label_kept : (l : Label) → IsLabel old l → IsLabel new l
  label_kept l is = omega (arith, is, kept.count)

  inner_kept : (l : Label) → IsInner old l → IsInner new l
  inner_kept l is = fits_kept kept (Place l) is

  target_kept : (l : Label) → IsTarget old l → IsTarget new l
  target_kept l is = fits_kept kept (JumpPart l) is

  pub ready_kept : (p : Context) (y : Targets) → IsReady old p y → IsReady new p y
  ready_kept p y ready = record {
    frame = ready.frame;
    places = ready.places;
    stack = ready.stack;
    pairs = ready.pairs;
    landings = λ i d h. inner_kept (get_or p.landings i d) (ready.landings i d h);
    landed = ready.landed;
    nodes = λ i d h. inner_kept (get_or p.nodes i d) (ready.nodes i d h);
    procedures = λ k has. target_kept (named_at y.procedures k) (ready.procedures k has);
    data_labels = λ k has. label_kept (named_at y.data_labels k) (ready.data_labels k has);
    registers = λ k has. label_kept (named_at y.registers k) (ready.registers k has);
    few_registers = ready.few_registers;
    limit = inner_kept y.limit ready.limit;
    client = inner_kept y.client ready.client;
  }

-- ---- a node is placed

pub get_is : {X : Type 0} (xs : List X) (n : ℕ) (d : X) → n < length xs → (x : X) → get_or xs n d ≡ x → slice_get xs n ≡ Some x
get_is xs n d within x e = slice_get-get_or xs n d within ∙ ap Some e

module _ (labels : List Meaning) (p : Context) (placed : List Bool) (laid : AreLaid labels p placed) (n : ℕ) (within : n < length p.nodes) (fresh : has placed n ≡ false) where
  abbrev label : Label
  label = label_at p.nodes n

  pub is_unplaced : slice_get labels label.number ≡ Some (Inner false)
  is_unplaced = laid.each n within ∙ ap (λ (b : Bool). Some (Inner b)) fresh

  pub ready_placed : (y : Targets) → IsReady labels p y → IsReady (set labels label.number (Inner true)) p y
  ready_placed y ready = ready_kept (kept_placed labels label.number is_unplaced) p y ready

  pub laid_placed : AreLaid (set labels label.number (Inner true)) p (set placed n true)
  laid_placed = record {
    size = rw length-set laid.size;
    each = λ k inside. by k inside (grind arith);
    apart = laid.apart;
  }
    where
      there : (k : ℕ) → k < length p.nodes → (label_at p.nodes k).number < length labels
      there k inside = slice_get_within labels (label_at p.nodes k).number (Inner (has placed k)) (laid.each k inside)

      by : (k : ℕ) → k < length p.nodes → (k ≡ n) ⊎ (k ≢ n) →
          slice_get (set labels label.number (Inner true)) (label_at p.nodes k).number ≡ Some (Inner (has (set placed n true) k))
      by k inside (inl e) = subst (λ (z : ℕ). slice_get (set labels label.number (Inner true)) (label_at p.nodes z).number ≡ Some (Inner (has (set placed n true) z))) (sym e)
          (get_is (set labels label.number (Inner true)) label.number (Inner false) (rw length-set (there n within)) (Inner true)
          (get_or-set_same labels label.number (Inner true) (Inner false) (there n within))
          ∙ ap (λ (b : Bool). Some (Inner b)) (sym (has-set_same placed n true (omega (arith, laid.size, within)))))
      by k inside (inr differ) =
          let l = (label_at p.nodes k).number in
          get_is (set labels label.number (Inner true)) l (Inner false) (rw length-set (there k inside)) (Inner (has placed k))
          (get_or-set_other labels label.number l (Inner true) (Inner false) (λ e. differ (laid.apart k n inside within e))
          ∙ get_or_from_slice_get labels l (Inner (has placed k)) (Inner false) (laid.each k inside))
          ∙ ap (λ (b : Bool). Some (Inner b)) (sym (has-set_other placed n k true differ))

-- ---- a site is placed

-- what stands at another index is kept
pub get_other : {X : Type 0} (xs : List X) (n m : ℕ) (w v : X) → n ≢ m → slice_get xs m ≡ Some v → slice_get (set xs n w) m ≡ Some v
get_other xs n m w v differ is =
    let there = slice_get_within xs m v is in
    get_is (set xs n w) m v (rw length-set there) v (get_or-set_other xs n m w v (λ e. differ (sym e)) ∙ get_or_from_slice_get xs m v v is)

-- the site at which a node waits is there
pub waits_within : (p : Context) (y : Targets) (kind : NodeKind) (site : SiteId) → IsTrue (has_kind p y kind) → site_of kind ≡ Some site → site.number < length p.sites
waits_within p y (Call at callee arguments exits) site has waits =
    let same : at ≡ site = cc in subst (λ (z : SiteId). z.number < length p.sites) same (grind (arith, nat_tests, has))
waits_within p y (Yield at values exits) site has waits =
    let same : at ≡ site = cc in subst (λ (z : SiteId). z.number < length p.sites) same (grind (arith, nat_tests, has))
waits_within p y (Entry formals next) site has waits = absurd (cc)
waits_within p y (CopyIn to next) site has waits = absurd (cc)
waits_within p y (Assign to value next) site has waits = absurd (cc)
waits_within p y (Store width aligned address value next) site has waits = absurd (cc)
waits_within p y (Branch test then_ otherwise) site has waits = absurd (cc)
waits_within p y (Switch value arms otherwise) site has waits = absurd (cc)
waits_within p y (Jump callee arguments) site has waits = absurd (cc)
waits_within p y (Cut to arguments own) site has waits = absurd (cc)
waits_within p y (Return exit alternates results) site has waits = absurd (cc)
waits_within p y (Host call next) site has waits = absurd (cc)
waits_within p y (Goto next) site has waits = absurd (cc)
waits_within p y Stop site has waits = absurd (cc)

module _ (labels : List Meaning) (p : Context) (y : Targets) (kind : NodeKind) (waits : CanWait p kind labels) where
  pub ready_with : IsReady labels p y → IsReady (labels_with p kind labels) p y
  ready_with ready = by (site_of kind) waits
    where
      by : (o : Option SiteId) → IfSome o (λ site. slice_get labels (site_label p site).number ≡ Some (Inner false)) →
          IsReady (elim o [ Some site ↦ set labels (site_label p site).number (Inner true) | None ↦ labels ]) p y
      by None can = ready
      by (Some site) can = ready_kept (kept_placed labels (site_label p site).number can) p y ready

  pub laid_with : (placed : List Bool) → IsTrue (has_kind p y kind) → HaveSites p → AreLaid labels p placed → AreLaid (labels_with p kind labels) p placed
  laid_with placed there sites laid = by (site_of kind) refl
    where
      by : (o : Option SiteId) → site_of kind ≡ o → AreLaid (elim o [ Some site ↦ set labels (site_label p site).number (Inner true) | None ↦ labels ]) p placed
      by None is = laid
      by (Some site) is = record {
        size = laid.size;
        each = λ k inside.
            get_other labels (site_label p site).number (label_at p.nodes k).number (Inner true) (Inner (has placed k))
            (λ e. sites.of_none site.number k (waits_within p y kind site there is) inside e) (laid.each k inside);
        apart = laid.apart;
      }

-- ---- labels that code makes for itself

nothing_behind : (xs : List Meaning) → xs ++ [] ≡ xs
nothing_behind [] = refl
nothing_behind (x ∷ xs) = ap (λ (rest : List Meaning). x ∷ rest) (nothing_behind xs)

pub makes_same : {old new : List Meaning} → new ≡ old → MakesInner 0 old new
makes_same {old} is = record { count = 0; few = omega arith; is = is ∙ sym (nothing_behind old) }

get_front : (xs ys : List Meaning) (n : ℕ) (v : Meaning) → slice_get xs n ≡ Some v → slice_get (xs ++ ys) n ≡ Some v
get_front [] ys n v is = absurd (cc (is))
get_front (x ∷ xs) ys zero v is = is
get_front (x ∷ xs) ys (suc n) v is = get_front xs ys n v is

made_behind : (c n : ℕ) → (slice_get (replicate c (Inner true)) n ≡ slice_get [] n) ⊎ (slice_get (replicate c (Inner true)) n ≡ Some (Inner true))
made_behind zero n = inl refl
made_behind (suc c) zero = inr refl
made_behind (suc c) (suc n) = made_behind c n

behind_or_same : (xs : List Meaning) (c n : ℕ) →
    (slice_get (xs ++ replicate c (Inner true)) n ≡ slice_get xs n) ⊎ ((length xs ≤ n) × (slice_get (xs ++ replicate c (Inner true)) n ≡ Some (Inner true)))
behind_or_same [] c n = elim (made_behind c n) [ inl same ↦ inl same | inr made ↦ inr (omega arith, made) ]
behind_or_same (x ∷ xs) c zero = inl refl
behind_or_same (x ∷ xs) c (suc n) = elim (behind_or_same xs c n) [ inl same ↦ inl same | inr made ↦ inr (omega (arith, made.0), made.1) ]

module _ (p : Context) (most : ℕ) (old new : List Meaning) (made : MakesInner most old new) where
  abbrev more : List Meaning
  more = replicate made.count (Inner true)

  still : (n : ℕ) (v : Meaning) → slice_get old n ≡ Some v → slice_get new n ≡ Some v
  still n v is = ap (λ (ms : List Meaning). slice_get ms n) made.is ∙ get_front old more n v is

  pub ready_made : (y : Targets) → IsReady old p y → IsReady new p y
  ready_made y ready = ready_kept (subst (AreKept old) (sym made.is) (kept_more old more)) p y ready

  pub laid_made : (placed : List Bool) → AreLaid old p placed → AreLaid new p placed
  laid_made placed laid = record {
    size = laid.size;
    each = λ k inside. still (label_at p.nodes k).number (Inner (has placed k)) (laid.each k inside);
    apart = laid.apart;
  }

  pub waits_made : (g : Graph) (placed : List Bool) (next : Option NodeId) → SitesWait p g old placed next → SitesWait p g new placed next
  waits_made g placed next waits k node is comes = by (site_of node.kind) (waits k node is comes)
    where
      by : (o : Option SiteId) → IfSome o (λ site. slice_get old (site_label p site).number ≡ Some (Inner false)) → IfSome o (λ site. slice_get new (site_label p site).number ≡ Some (Inner false))
      by None can = tt
      by (Some site) can = still (site_label p site).number (Inner false) can

  pub own_made : PlacesOwn p old new
  own_made = record {
    count = let e : length new ≡ length old + length more = ap length made.is ∙ length-append old more in omega (arith, e);
    each = λ n. by n (behind_or_same old made.count n);
  }
    where
      by : (n : ℕ) → (slice_get (old ++ more) n ≡ slice_get old n) ⊎ ((length old ≤ n) × (slice_get (old ++ more) n ≡ Some (Inner true))) →
          (slice_get new n ≡ slice_get old n) ⊎ ((IsOwn p n ⊎ (length old ≤ n)) × (slice_get new n ≡ Some (Inner true)))
      by n (inl same) = inl (ap (λ (ms : List Meaning). slice_get ms n) made.is ∙ same)
      by n (inr behind) = inr (inr behind.0, ap (λ (ms : List Meaning). slice_get ms n) made.is ∙ behind.1)
