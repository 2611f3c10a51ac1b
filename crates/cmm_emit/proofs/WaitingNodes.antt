-- Nodes of which no two wait at one site.
use Rattle.std.proofs.Common.{◌≡◌, ℕ, zero, suc, refl, sym, ap, subst, arith, Bool, true, false, List, [], ◌∷◌, ◌++◌, Option, Some, None, slice_get}
use Rattle.std.specs.Prelude.{◌==◌, not}
use Rattle.std.proofs.lemmas.Bool.{and_parts, eq-eqb}
use Rattle.cmm_program.specs.Liveness.{is_among}
use Rattle.cmm_graph.specs.declared.graph.Graph.{Graph}
use Rattle.cmm_graph.specs.declared.node.Node.{Node}
use Rattle.cmm_graph.specs.declared.number.SiteId.{SiteId}
use Rattle.cmm_live.specs.Sites.{site_of}
use Rattle.cmm_flow.specs.Waiting.{WaitOnce, all_different, waiting_sites}
use Rattle.cmm_emit.specs.LaidNodes.{WaitApart}

abbrev at_most_one : Option SiteId → List ℕ
at_most_one (Some site) = site.number ∷ []
at_most_one None = []

among_rest : (o : Option SiteId) (n : ℕ) (ns : List ℕ) → is_among n ns ≡ true → is_among n (at_most_one o ++ ns) ≡ true
among_rest (Some site) n ns is = grind (arith, is)
among_rest None n ns is = is

among_first : (o : Option SiteId) (site : SiteId) (ns : List ℕ) → o ≡ Some site → is_among site.number (at_most_one o ++ ns) ≡ true
among_first (Some other) site ns is =
    let same : other ≡ site = cc in
    let e : (site.number == other.number) ≡ true = subst (λ (z : SiteId). (site.number == z.number) ≡ true) (sym same) (eq-eqb site.number site.number refl) in
    grind (arith, e)
among_first None site ns is = absurd (cc)

waits_among : (nodes : List Node) (k : ℕ) (node : Node) (site : SiteId) → slice_get nodes k ≡ Some node → site_of node.kind ≡ Some site →
    is_among site.number (waiting_sites nodes) ≡ true
waits_among [] k node site is waits = absurd (cc)
waits_among (x ∷ nodes) zero node site is waits =
    let same : x ≡ node = cc in
    among_first (site_of x.kind) site (waiting_sites nodes) (subst (λ (z : Node). site_of z.kind ≡ Some site) (sym same) waits)
waits_among (x ∷ nodes) (suc k) node site is waits =
    among_rest (site_of x.kind) site.number (waiting_sites nodes) (waits_among nodes k node site is waits)

different_rest : (o : Option SiteId) (ns : List ℕ) → all_different (at_most_one o ++ ns) ≡ true → all_different ns ≡ true
different_rest (Some site) ns is = (and_parts (not (is_among site.number ns)) (all_different ns) is).1
different_rest None ns is = is

not_both : (b : Bool) → not b ≡ true → b ≡ true → ⊥
not_both true none some = cc
not_both false none some = cc

different_first : (o : Option SiteId) (site : SiteId) (ns : List ℕ) → o ≡ Some site → all_different (at_most_one o ++ ns) ≡ true → is_among site.number ns ≡ true → ⊥
different_first (Some other) site ns is all among =
    let same : other ≡ site = cc in
    let none = (and_parts (not (is_among other.number ns)) (all_different ns) all).0 in
    not_both (is_among site.number ns) (subst (λ (z : SiteId). not (is_among z.number ns) ≡ true) same none) among
different_first None site ns is all among = absurd (cc)

apart : (nodes : List Node) → all_different (waiting_sites nodes) ≡ true → (site : SiteId) (j k : ℕ) (a b : Node) → slice_get nodes j ≡ Some a →
    slice_get nodes k ≡ Some b → site_of a.kind ≡ Some site → site_of b.kind ≡ Some site → j ≡ k
apart [] all site j k a b first second waits also = absurd (cc)
apart (x ∷ nodes) all site zero zero a b first second waits also = refl
apart (x ∷ nodes) all site zero (suc k) a b first second waits also =
    let same : x ≡ a = cc in
    absurd (different_first (site_of x.kind) site (waiting_sites nodes) (subst (λ (z : Node). site_of z.kind ≡ Some site) (sym same) waits) all
    (waits_among nodes k b site second also))
apart (x ∷ nodes) all site (suc j) zero a b first second waits also =
    let same : x ≡ b = cc in
    absurd (different_first (site_of x.kind) site (waiting_sites nodes) (subst (λ (z : Node). site_of z.kind ≡ Some site) (sym same) also) all
    (waits_among nodes j a site first waits))
apart (x ∷ nodes) all site (suc j) (suc k) a b first second waits also =
    ap suc (apart nodes (different_rest (site_of x.kind) (waiting_sites nodes) all) site j k a b first second waits also)

pub waits_apart : (g : Graph) → WaitOnce g → WaitApart g
waits_apart g once = apart g.nodes once
