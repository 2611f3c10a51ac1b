-- Labels of nodes and of sites come to places, and all others stay as they are.
use Rattle.std.proofs.Common.{◌≡◌, ◌≢◌, ◌⊎◌, inl, inr, ℕ, zero, suc, ◌<◌, ◌≤◌, refl, sym, ◌∙◌, ap, subst, arith, true, false, List, [], ◌∷◌, length, length-set, set, Some, slice_get}
use Rattle.std.specs.Prelude.{◌&&◌}
use Rattle.std.proofs.lemmas.Bool.{and_parts}
use Rattle.std.proofs.lemmas.Bool.Decides.{nat_tests}
use Rattle.std.proofs.lemmas.Option.{slice_get_within}
use Rattle.rv_asm.specs.declared.part.Meaning.{Meaning}
use Rattle.rv_asm.specs.declared.part.Meaning.TheVariants.{Inner}
use Rattle.cmm_graph.specs.declared.number.SiteId.{SiteId}
use Rattle.cmm_graph.specs.declared.node.NodeKind.{NodeKind}
use Rattle.cmm_graph.specs.declared.node.NodeKind.TheVariants.{Entry, CopyIn, Assign, Store, Branch, Switch, Call, Yield, Jump, Cut, Return, Host, Goto, Stop}
use Rattle.cmm_emit.specs.declared.context.Context.{Context}
use Rattle.cmm_emit.specs.declared.context.Targets.{Targets}
use Rattle.cmm_emit.specs.LaidNodes.{IsOwn, PlacesOwn}
use Rattle.cmm_emit.specs.Naming.{can_come_back, can_go_to, can_send, has_kind, has_site, label_at, site_label}
use Rattle.cmm_emit.specs.Standing.{CanWait, labels_with}

set_there : {A : Type 0} (xs : List A) (n : ℕ) (x : A) → n < length xs → slice_get (set xs n x) n ≡ Some x
set_there [] n x less = absurd (omega arith)
set_there (y ∷ xs) zero x less = refl
set_there (y ∷ xs) (suc n) x less = set_there xs n x (omega (arith, less))

set_elsewhere : {A : Type 0} (xs : List A) (n k : ℕ) (x : A) → k ≢ n → slice_get (set xs n x) k ≡ slice_get xs k
set_elsewhere [] n k x differ = refl
set_elsewhere (y ∷ xs) zero zero x differ = absurd (differ refl)
set_elsewhere (y ∷ xs) zero (suc k) x differ = refl
set_elsewhere (y ∷ xs) (suc n) zero x differ = refl
set_elsewhere (y ∷ xs) (suc n) (suc k) x differ = set_elsewhere xs n k x (λ e. differ (omega (arith, e)))

module _ (p : Context) where
  pub own_none : (labels : List Meaning) → PlacesOwn p labels labels
  own_none labels = record { count = omega arith; each = λ n. inl refl }

  pub own_then : (a b c : List Meaning) → PlacesOwn p a b → PlacesOwn p b c → PlacesOwn p a c
  own_then a b c first second = record { count = let more = first.count in omega (arith, more, second.count); each = λ n. by n (second.each n) (first.each n) }
    where
      by : (n : ℕ) → (slice_get c n ≡ slice_get b n) ⊎ ((IsOwn p n ⊎ (length b ≤ n)) × (slice_get c n ≡ Some (Inner true))) →
          (slice_get b n ≡ slice_get a n) ⊎ ((IsOwn p n ⊎ (length a ≤ n)) × (slice_get b n ≡ Some (Inner true))) →
          (slice_get c n ≡ slice_get a n) ⊎ ((IsOwn p n ⊎ (length a ≤ n)) × (slice_get c n ≡ Some (Inner true)))
      by n (inr (inl own, is)) before = inr (inl own, is)
      by n (inr (inr behind, is)) before = inr (inr (omega (arith, first.count, behind)), is)
      by n (inl same) (inl also) = inl (same ∙ also)
      by n (inl same) (inr own) = inr (own.0, same ∙ own.1)

  own_set : (labels : List Meaning) (m : ℕ) → IsOwn p m → m < length labels → PlacesOwn p labels (set labels m (Inner true))
  own_set labels m own less = record { count = let e = length-set labels m (Inner true) in omega (arith, e); each = λ n. by n (grind arith) }
    where
      by : (n : ℕ) → (n ≡ m) ⊎ (n ≢ m) → (slice_get (set labels m (Inner true)) n ≡ slice_get labels n) ⊎ ((IsOwn p n ⊎ (length labels ≤ n)) × (slice_get (set labels m (Inner true)) n ≡ Some (Inner true)))
      by n (inl same) = inr (inl (subst (IsOwn p) (sym same) own), ap (λ (k : ℕ). slice_get (set labels m (Inner true)) k) same ∙ set_there labels m (Inner true) less)
      by n (inr differ) = inl (set_elsewhere labels m n (Inner true) differ)

  pub own_node : (labels : List Meaning) (n : ℕ) → n < length p.nodes → (label_at p.nodes n).number < length labels →
      PlacesOwn p labels (set labels (label_at p.nodes n).number (Inner true))
  own_node labels n less inside = own_set labels (label_at p.nodes n).number (inl (n, less, refl)) inside

  own_site : (labels : List Meaning) (site : SiteId) → site.number < length p.sites → slice_get labels (site_label p site).number ≡ Some (Inner false) →
      PlacesOwn p labels (set labels (site_label p site).number (Inner true))
  own_site labels site less free = own_set labels (site_label p site).number (inr (site.number, less, refl)) (slice_get_within labels (site_label p site).number (Inner false) free)

  -- a node that waits has its site, which may come to its place
  pub own_with : (y : Targets) (kind : NodeKind) (labels : List Meaning) → has_kind p y kind ≡ true → CanWait p kind labels → PlacesOwn p labels (labels_with p kind labels)
  own_with y (Call site callee arguments exits) labels has waits =
      let two = and_parts (has_site p site && can_go_to p y callee arguments) (can_come_back p exits) has in
      let one = and_parts (has_site p site) (can_go_to p y callee arguments) two.0 in
      let less : site.number < length p.sites = grind (arith, nat_tests, one.0) in
      own_site labels site less waits
  own_with y (Yield site values exits) labels has waits =
      let two = and_parts (has_site p site && can_send p y values) (can_come_back p exits) has in
      let one = and_parts (has_site p site) (can_send p y values) two.0 in
      let less : site.number < length p.sites = grind (arith, nat_tests, one.0) in
      own_site labels site less waits
  own_with y (Entry formals next) labels has waits = own_none labels
  own_with y (CopyIn to next) labels has waits = own_none labels
  own_with y (Assign to value next) labels has waits = own_none labels
  own_with y (Store width aligned address value next) labels has waits = own_none labels
  own_with y (Branch test then_ otherwise) labels has waits = own_none labels
  own_with y (Switch value arms otherwise) labels has waits = own_none labels
  own_with y (Jump callee arguments) labels has waits = own_none labels
  own_with y (Cut to arguments own) labels has waits = own_none labels
  own_with y (Return exit alternates results) labels has waits = own_none labels
  own_with y (Host call next) labels has waits = own_none labels
  own_with y (Goto next) labels has waits = own_none labels
  own_with y Stop labels has waits = own_none labels
