-- What is known of an activation that stands at a point, and how a walk comes to its end.
use Rattle.std.proofs.Common.{◌≡◌, ℕ, suc, ◌+◌, ◌-◌, ◌<◌, ◌≤◌, ◌==◌, Bool, true, false, cond, List, [], ◌∷◌, find, Result, Ok, Err, Option, Some, None, IfOk, IfSome, refl, sym, ap, subst, arith}
use Rattle.std.proofs.lemmas.Bool.Decides.{nat_tests}
use Rattle.cmm_image.specs.declared.parts.ImageParts.{ImageParts}
use Rattle.cmm_image.specs.declared.rows.SiteRow.{SiteRow}
use Rattle.cmm_image.specs.ImageFormat.{procedure_at}
use Rattle.cmm_image_machine.specs.Frames.{Element, Point, Found, Activation, Nothing, activation_at, break_at, found_at, is_end, is_frame, site_at, point_after}
use Rattle.cmm_image.specs.Images.{IsImage}
use Rattle.cmm_abi.specs.Regions.{Region, top}
use Rattle.cmm_walk.specs.declared.activation.Activation.{Activation as ActivationOf}
use Rattle.cmm_walk.specs.declared.chain.Torn.{Torn}
use Rattle.cmm_walk.specs.Activations.{Fits, element_of}
use Rattle.cmm_walk.specs.Walking.{found_by}
use Rattle.cmm_walk.proofs.Points.{frame_lies}
use Rattle.cmm_walk.proofs.Tables.{activation_keeps}

same_number : (m n : ℕ) → (m == n) ≡ true → m ≡ n
same_number m n is = grind (arith, nat_tests)

found_returns : (address : ℕ) (sites : List SiteRow) (s : SiteRow) → find (λ t. t.return_address == address) sites ≡ Some s → s.return_address ≡ address
found_returns address [] s is = absurd cc
found_returns address (t ∷ ts) s is = by (t.return_address == address) refl (λ later. found_returns address ts s later) is
  where
    by : (b : Bool) → (t.return_address == address) ≡ b → (find (λ t. t.return_address == address) ts ≡ Some s → s.return_address ≡ address) →
        ◌≡◌ {A = Option SiteRow} (cond b (Some t) (find (λ t. t.return_address == address) ts)) (Some s) → s.return_address ≡ address
    by true e later there = let same : t ≡ s = cc in subst (λ (u : SiteRow). u.return_address ≡ address) same (same_number t.return_address address e)
    by false e later there = later there

pub at_activation : (p : Point) (b : Bool) (made e : Element) → ◌≡◌ {A = Found} (elim b [ true ↦ Activation made | false ↦ break_at p ]) (Activation e) → made ≡ e
at_activation p true made e is = cc
at_activation p false made e is = absurd cc

at_site : (i : ImageParts) (r : Region) (p : Point) (o : Option SiteRow) (e : Element) →
    ◌≡◌ {A = Found} (elim o [ Some site ↦ activation_at r p site (procedure_at i.procs site.procedure) | None ↦ break_at p ]) (Activation e) → o ≡ Some e.site
at_site i r p None e is = absurd cc
at_site i r p (Some s) e is =
    let q = procedure_at i.procs s.procedure in
    let made : Element = record { site = s; procedure = q; frame = p.frame; places = p.places } in
    ap (λ (x : Element). Some x.site) (at_activation p (is_frame r p.frame q.frame) made e is)

at_end : (ends : Bool) (f : Found) (e : Element) → ◌≡◌ {A = Found} (elim ends [ true ↦ Nothing | false ↦ f ]) (Activation e) → f ≡ Activation e
at_end true f e is = absurd cc
at_end false f e is = is

pub returns_there : (i : ImageParts) (r : Region) (p : Point) (e : Element) → found_at i r p ≡ Activation e → e.site.return_address ≡ p.address
returns_there i r p e is = found_returns p.address i.sites e.site (at_site i r p (site_at i p.address) e (at_end (is_end i r p) _ e is))

-- it is made of its site, its procedure, and the point
at_made : (i : ImageParts) (r : Region) (p : Point) (o : Option SiteRow) (e : Element) →
    ◌≡◌ {A = Found} (elim o [ Some site ↦ activation_at r p site (procedure_at i.procs site.procedure) | None ↦ break_at p ]) (Activation e) →
    ◌≡◌ {A = Element} (record { site = e.site; procedure = e.procedure; frame = p.frame; places = p.places }) e
at_made i r p None e is = absurd cc
at_made i r p (Some s) e is =
    let q = procedure_at i.procs s.procedure in
    let made : Element = record { site = s; procedure = q; frame = p.frame; places = p.places } in
    let same = at_activation p (is_frame r p.frame q.frame) made e is in
    subst (λ (x : Element). ◌≡◌ {A = Element} (record { site = x.site; procedure = x.procedure; frame = p.frame; places = p.places }) x) same refl

pub made_there : (i : ImageParts) (r : Region) (p : Point) (e : Element) → found_at i r p ≡ Activation e →
    ◌≡◌ {A = Element} (record { site = e.site; procedure = e.procedure; frame = p.frame; places = p.places }) e
made_there i r p e is = at_made i r p (site_at i p.address) e (at_end (is_end i r p) _ e is)

-- how far an activation is below the top; nothing where there is none
abbrev pub left_of : ℕ → Result (Option ActivationOf) Torn → ℕ
left_of high (Ok (Some a)) = suc (high - a.frame)
left_of high (Ok None) = 0
left_of high (Err t) = 0

-- ---- the frame of the next activation is farther up

frame_there : (i : ImageParts) (r : Region) (p : Point) (e : Element) → found_at i r p ≡ Activation e → e.frame ≡ p.frame
frame_there i r p e is = ap (λ (x : Element). x.frame) (sym (made_there i r p e is))

pub nearer : (i : ImageParts) (h : IsImage i) (r : Region) (m : ℕ → ℕ) (a : ActivationOf) (next : Result (Option ActivationOf) Torn) → Fits i r a →
    found_by i next ≡ found_at i r (point_after m (element_of i a)) → IfOk next (λ found. IfSome found (Fits i r)) → left_of (top r) next < left_of (top r) (Ok (Some a))
nearer i h r m a (Ok (Some b)) fits is also =
    let up : b.frame ≡ a.frame + (procedure_at i.procs a.proc).frame = frame_there i r (point_after m (element_of i a)) (element_of i b) (sym is) in
    let big = (activation_keeps i h a fits.there).size in
    let high = (frame_lies i r a fits).1 in
    omega (arith, up, big, high)
nearer i h r m a (Ok None) fits is also = omega arith
nearer i h r m a (Err t) fits is also = omega arith

-- and so is every count of those before it
pub farther : (i : ImageParts) (h : IsImage i) (r : Region) (m : ℕ → ℕ) (a : ActivationOf) (next : Option ActivationOf) (n : ℕ) → Fits i r a →
    found_by i (Ok next) ≡ found_at i r (point_after m (element_of i a)) → n ≤ a.frame → IfSome next (λ b. n + 1 ≤ b.frame)
farther i h r m a (Some b) n fits is below =
    let up : b.frame ≡ a.frame + (procedure_at i.procs a.proc).frame = frame_there i r (point_after m (element_of i a)) (element_of i b) (sym is) in
    let big = (activation_keeps i h a fits.there).size in
    omega (arith, up, big, below)
farther i h r m a None n fits is below = tt
