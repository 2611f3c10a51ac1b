-- Nodes yield as many values as their sites say, and at each site the node that is found has its exits.
use Rattle.std.proofs.Common.{◌≡◌, ℕ, zero, suc, refl, sym, ◌∙◌, ap, subst, Bool, true, false, List, [], ◌∷◌, cond, length, Option, Some, None, slice_get}
use Rattle.std.specs.Prelude.{◌==◌, find}
use Rattle.std.proofs.lemmas.Bool.{eq-eqb, eqb-true}
use Rattle.std.proofs.lemmas.Option.{same_Some}
use Rattle.cmm_program.specs.declared.procedure.Proc.{Proc}
use Rattle.cmm_program.specs.declared.procedure.Site.{Site}
use Rattle.cmm_graph.specs.Counterpart.{HasSite, numbers_of}
use Rattle.cmm_graph.specs.declared.graph.Graph.{Graph}
use Rattle.cmm_graph.specs.declared.node.Exits.{Exits}
use Rattle.cmm_graph.specs.declared.node.NodeKind.{NodeKind}
use Rattle.cmm_graph.specs.declared.node.NodeKind.TheVariants.{Assign, Branch, Call, CopyIn, Cut, Entry, Goto, Host, Jump, Return, Stop, Store, Switch, Yield}
use Rattle.cmm_graph.specs.declared.number.SiteId.{SiteId}
use Rattle.cmm_graph.specs.declared.operand.Operand.{Operand}
use Rattle.cmm_live.specs.Sites.{site_of}
use Rattle.cmm_located.specs.Compiled.{exits_of, waits_at}
use Rattle.cmm_flow.specs.Few.{yields_there}

-- an element that is found in a list is at an index, and passes
pub found_at : {A : Type 0} (test : A → Bool) (xs : List A) (x : A) → find test xs ≡ Some x → (k : ℕ) × (slice_get xs k ≡ Some x) × (test x ≡ true)
found_at test [] x is = absurd (cc)
found_at {A = A} test (y ∷ xs) x is = by (test y) refl (λ e. found_at test xs x e) is
  where
    by : (b : Bool) → test y ≡ b → (find test xs ≡ Some x → (k : ℕ) × (slice_get xs k ≡ Some x) × (test x ≡ true)) → cond b (Some y) (find test xs) ≡ Some x →
        (k : ℕ) × (slice_get (y ∷ xs) k ≡ Some x) × (test x ≡ true)
    by true passes later e = let one : y ≡ x = cc in (0, e, subst (λ (z : A). test z ≡ true) one passes)
    by false fails later e = let rest = later e in (suc rest.0, rest.1, rest.2)

-- where one passes, one is found
pub finds : {A : Type 0} (test : A → Bool) (xs : List A) (k : ℕ) (x : A) → slice_get xs k ≡ Some x → test x ≡ true → (y : A) × (find test xs ≡ Some y)
finds test [] k x is passes = absurd (cc (is))
finds {A = A} test (y ∷ xs) zero x is passes =
    let same : y ≡ x = same_Some y x is in (y, ap (λ (b : Bool). cond b (Some y) (find test xs)) (ap test same ∙ passes))
finds {A = A} test (y ∷ xs) (suc k) x is passes = by (test y) refl (finds test xs k x is passes)
  where
    by : (b : Bool) → test y ≡ b → (z : A) × (find test xs ≡ Some z) → (z : A) × (find test (y ∷ xs) ≡ Some z)
    by true e rest = (y, ap (λ (b : Bool). cond b (Some y) (find test xs)) e)
    by false e rest = (rest.0, ap (λ (b : Bool). cond b (Some y) (find test xs)) e ∙ rest.1)

-- a node yields as many values as its site says
pub yields_as_many : (q : Proc) (at : SiteId) (values : List Operand) (exits : Exits) (site : Site) → slice_get q.sites at.number ≡ Some site → yields_there q (Yield at values exits) ≡ true →
    site.yield_values ≡ Some (length values)
yields_as_many q at values exits site is yields =
    by site.yield_values refl
    (sym (ap (λ (o : Option Site). elim o as (λ _. Bool) [ Some s ↦ elim s.yield_values as (λ _. Bool) [ Some n ↦ n == length values | None ↦ false ] | None ↦ false ]) is) ∙ yields)
  where
    by : (o : Option ℕ) → site.yield_values ≡ o → elim o as (λ _. Bool) [ Some n ↦ n == length values | None ↦ false ] ≡ true → site.yield_values ≡ Some (length values)
    by (Some n) e same = e ∙ ap (λ (m : ℕ). Some m) (eqb-true n (length values) same)
    by None e same = absurd (cc (same))

pub waits_there : (number : ℕ) (kind : NodeKind) → site_of kind ≡ Some (record { number = number }) → waits_at number kind ≡ true
waits_there number kind is = ap (λ (o : Option SiteId). elim o as (λ _. Bool) [ Some s ↦ s.number == number | None ↦ false ]) is ∙ eq-eqb number number refl

-- what is known of the exits of a node that waits at a site
pub record HasExitsOf (site : Site) (kind : NodeKind) : Type 0 where
  pub exits : Exits
  pub is_exits : exits_of kind ≡ Some exits
  pub returns : numbers_of exits.returns ≡ site.returns

module _ (q : Proc) (g : Graph) (number : ℕ) (site : Site) (is : slice_get q.sites number ≡ Some site) where
  same_site : (at : SiteId) (found : Site) → (at.number == number) ≡ true → slice_get q.sites at.number ≡ Some found → found ≡ site
  same_site at found waits there =
      same_Some found site (sym there ∙ (ap (λ (n : ℕ). slice_get q.sites n) (eqb-true at.number number waits) ∙ is))

  pub exits_at : (kind : NodeKind) → waits_at number kind ≡ true → HasSite q g kind → HasExitsOf site kind
  exits_at (Call at callee arguments exits) waits has = record { exits = exits; is_exits = refl; returns = has.returns ∙ ap (λ (s : Site). s.returns) (same_site at has.site waits has.is_site) }
  exits_at (Yield at values exits) waits has = record { exits = exits; is_exits = refl; returns = has.returns ∙ ap (λ (s : Site). s.returns) (same_site at has.site waits has.is_site) }
  exits_at (Entry formals next) waits has = absurd (cc (waits))
  exits_at (CopyIn to next) waits has = absurd (cc (waits))
  exits_at (Assign to value next) waits has = absurd (cc (waits))
  exits_at (Store width aligned address value next) waits has = absurd (cc (waits))
  exits_at (Branch test then_ otherwise) waits has = absurd (cc (waits))
  exits_at (Switch value arms otherwise) waits has = absurd (cc (waits))
  exits_at (Jump callee arguments) waits has = absurd (cc (waits))
  exits_at (Cut to arguments own) waits has = absurd (cc (waits))
  exits_at (Return exit alternates results) waits has = absurd (cc (waits))
  exits_at (Host call next) waits has = absurd (cc (waits))
  exits_at (Goto next) waits has = absurd (cc (waits))
  exits_at Stop waits has = absurd (cc (waits))
