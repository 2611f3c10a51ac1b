-- A table of link names, export by export.
use Rattle.std.proofs.Common.{◌≡◌, refl, sym, ap, ◌∙◌, ℕ, Bool, true, false, cond, ◌+◌, ◌<◌, length, get_or, take, List, [], ◌∷◌, ◌++◌, map, Option, Some, None, append-nil}
use Rattle.std.specs.Prelude.{bytes_eq, filter, unwrap_or}
use Rattle.std.proofs.lemmas.List.{map-append}
use Rattle.std.proofs.lemmas.Slice.Eq.{bytes_eq-Decides}
use denote.Ref.{Bor}
use Rattle.cmm_ast.specs.declared.declaration.Export.{Export}
use Rattle.cmm_static_semantics.specs.Linking.{export_link}
use Rattle.cmm_elaboration.specs.Data.{links_of}
use Rattle.cmm_static_semantics.proofs.Shared.{mapped_next}
use Rattle.cmm_lower_parts.specs.Exported.{link_if}

abbrev listed : Option (List (Bor (List ℕ))) → List (List ℕ)
listed o = map (λ n. n.now) (unwrap_or o [])

-- a table from which a name is taken out and put back with one link name more
pub link_added : (old mid new : List ℕ → Option (List (Bor (List ℕ)))) (name : List ℕ) (link : Bor (List ℕ)) (there put : List (Bor (List ℕ))) →
    ((x : List ℕ) → mid x ≡ cond (bytes_eq name x) None (old x)) → ((x : List ℕ) → new x ≡ cond (bytes_eq name x) (Some put) (mid x)) → put ≡ there ++ link ∷ [] → there ≡ unwrap_or (old name) [] →
    (x : List ℕ) → listed (new x) ≡ listed (old x) ++ link_if (bytes_eq name x) link.now
link_added old mid new name link there put out back more is x = by (bytes_eq name x) refl
  where
    by : (b : Bool) → bytes_eq name x ≡ b → listed (new x) ≡ listed (old x) ++ link_if b link.now
    by true same =
        ap listed (back x ∙ ap (λ b. cond b (Some put) (mid x)) same)
        ∙ ap (map (λ n. n.now)) more
        ∙ map-append (λ n. n.now) there (link ∷ [])
        ∙ ap (λ ns. ns ++ link.now ∷ []) (ap (map (λ n. n.now)) is ∙ ap (λ y. listed (old y)) ((bytes_eq-Decides name x).0 same))
    by false other =
        ap listed (back x ∙ ap (λ b. cond b (Some put) (mid x)) other ∙ out x ∙ ap (λ b. cond b None (old x)) other)
        ∙ sym (append-nil (listed (old x)))

-- one export more
pub links_last : (x : List ℕ) (es : List Export) (e : Export) → links_of (es ++ e ∷ []) x ≡ links_of es x ++ link_if (bytes_eq e.name.name x) (export_link e)
links_last x [] e = by (bytes_eq e.name.name x)
  where
    by : (b : Bool) → map export_link (cond b (e ∷ []) []) ≡ link_if b (export_link e)
    by true = refl
    by false = refl
links_last x (d ∷ es) e = by (bytes_eq d.name.name x) (links_last x es e)
  where
    by : (b : Bool) → links_of (es ++ e ∷ []) x ≡ links_of es x ++ link_if (bytes_eq e.name.name x) (export_link e) →
        map export_link (cond b (d ∷ filter (λ f. bytes_eq f.name.name x) (es ++ e ∷ [])) (filter (λ f. bytes_eq f.name.name x) (es ++ e ∷ [])))
        ≡ map export_link (cond b (d ∷ filter (λ f. bytes_eq f.name.name x) es) (filter (λ f. bytes_eq f.name.name x) es)) ++ link_if (bytes_eq e.name.name x) (export_link e)
    by true rest = ap (λ ls. export_link d ∷ ls) rest
    by false rest = rest

-- a turn of the loop over exports
pub links_next : (x : List ℕ) (es : List (Bor Export)) (k : ℕ) (e : Bor Export) (name link : List ℕ) (old new : List (List ℕ)) → k < length es → e ≡ get_or es k e →
    name ≡ e.now.name.name → link ≡ export_link e.now → new ≡ old ++ link_if (bytes_eq name x) link → old ≡ links_of (map (λ f. f.now) (take k es)) x →
    new ≡ links_of (map (λ f. f.now) (take (k + 1) es)) x
links_next x es k e name link old new within is named linked added so_far =
    added
    ∙ ap (λ q. q ++ link_if (bytes_eq name x) link) so_far
    ∙ ap (λ n. links_of (map (λ f. f.now) (take k es)) x ++ link_if (bytes_eq n x) link) named
    ∙ ap (λ l. links_of (map (λ f. f.now) (take k es)) x ++ link_if (bytes_eq e.now.name.name x) l) linked
    ∙ sym (ap (λ q. links_of q x) (mapped_next (λ (f : Bor Export). f.now) es k e within is) ∙ links_last x (map (λ f. f.now) (take k es)) e.now)
