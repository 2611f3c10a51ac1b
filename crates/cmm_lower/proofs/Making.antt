-- Statements and call sites that are made together, one tree after another.
use Rattle.std.proofs.Common.{◌≡◌, ℕ, suc, ◌+◌, ◌<◌, ◌^◌, length, length-append, take, drop, get_or, refl, sym, ap, ◌∙◌, subst, arith, List, [], ◌∷◌, ◌++◌, append-nil, append_assoc}
use Rattle.std.specs.Prelude.{flat_map, map}
use Rattle.std.proofs.Math.Seq.{drop-cons}
use Rattle.std.proofs.lemmas.List.{take-append-drop}
use Rattle.std.proofs.lemmas.Grind.{flat_map-append}
use Rattle.cmm_ast.specs.declared.statement.Part.{Part}
use Rattle.cmm_program.specs.declared.procedure.Site.{Site}
use Rattle.cmm_static_semantics.specs.Items.{SpanTree, Within}
use Rattle.cmm_static_semantics.specs.Limits.{site_count}
use Rattle.cmm_static_semantics.specs.Scopes.{Scope, senses}
use Rattle.cmm_symbols.specs.Shown.{whats}
use Rattle.cmm_static_semantics.proofs.Shared.{taken}
use Rattle.cmm_elaboration.specs.Sites.{SpanValue, innermost, part_sites, sites_among, span_value}
use Rattle.cmm_elaboration.proofs.Shared.{count_append, length_is, whats_append}
use Rattle.cmm_typing.proofs.Shared.{all_left, all_right}
use Rattle.cmm_lower.specs.Fitting.{PartFits, PartsFit}
use Rattle.cmm_lower.specs.inside.Making.{AreInForce, AreMade, from}

-- ---- parts that fit

module _ (s : Scope) where
  pub fit_left : (n : ℕ) (xs ys : List Part) → PartsFit s n (xs ++ ys) → PartsFit s n xs
  fit_left n xs ys fits = record {
    each = all_left (PartFits s) xs ys fits.each;
    sites = let sum : site_count (xs ++ ys) ≡ site_count xs + site_count ys = count_append xs ys in let bound : n + site_count (xs ++ ys) < 2 ^ 32 = fits.sites in omega arith;
  }

  pub fit_right : (n m : ℕ) (xs ys : List Part) → m ≡ n + site_count xs → PartsFit s n (xs ++ ys) → PartsFit s m ys
  fit_right n m xs ys is fits = record {
    each = all_right (PartFits s) xs ys fits.each;
    sites = let sum : site_count (xs ++ ys) ≡ site_count xs + site_count ys = count_append xs ys in let bound : n + site_count (xs ++ ys) < 2 ^ 32 = fits.sites in omega arith;
  }

  pub sites_append : (around : List SpanValue) (xs ys : List (Within Part)) → sites_among s around (xs ++ ys) ≡ sites_among s around xs ++ sites_among s around ys
  sites_append around xs ys = flat_map-append (λ p. part_sites s (innermost (map (span_value (senses s)) p.spans ++ around)) p.what) xs ys

  -- how many sites there are after some parts
  pub counted_after : (around : List SpanValue) (before after : List Site) (ps : List (Within Part)) → after ≡ before ++ sites_among s around ps →
      length after ≡ length before + site_count (whats ps)
  counted_after around before after ps grown =
      ap length grown ∙ length-append before (sites_among s around ps) ∙ ap (λ n. length before + n) (length_is s around ps)

-- ---- one tree after another

module _ {A B : Type 0} (inside : List SpanTree → A → List (Within Part)) (make : ℕ → A → List B) where
  from_append : (n : ℕ) (xs ys : List A) → from inside make n (xs ++ ys) ≡ from inside make n xs ++ from inside make (n + site_count (whats (flat_map (inside []) xs))) ys
  from_append n [] ys = ap (λ m. from inside make m ys) (let e : n ≡ n + 0 = omega arith in e)
  from_append n (x ∷ xs) ys = let m = n + site_count (whats (inside [] x)) in
      ap (λ t. make n x ++ t) (from_append m xs ys)
      ∙ sym (append_assoc (make n x) (from inside make m xs) (from inside make (m + site_count (whats (flat_map (inside []) xs))) ys))
      ∙ ap (λ k. (make n x ++ from inside make m xs) ++ from inside make k ys)
      (let whole : site_count (whats (inside [] x ++ flat_map (inside []) xs)) ≡ site_count (whats (inside [] x)) + site_count (whats (flat_map (inside []) xs)) =
      ap site_count (whats_append (inside [] x) (flat_map (inside []) xs)) ∙ count_append (whats (inside [] x)) (whats (flat_map (inside []) xs)) in
      let e : m + site_count (whats (flat_map (inside []) xs)) ≡ n + site_count (whats (inside [] x ++ flat_map (inside []) xs)) = omega arith in e)

  module _ (alike : (a b : List SpanTree) (x : A) → whats (inside a x) ≡ whats (inside b x)) where
    all_alike : (a b : List SpanTree) (xs : List A) → whats (flat_map (inside a) xs) ≡ whats (flat_map (inside b) xs)
    all_alike a b [] = refl
    all_alike a b (x ∷ xs) =
        whats_append (inside a x) (flat_map (inside a) xs)
        ∙ rw (alike a b x, all_alike a b xs) (sym (whats_append (inside b x) (flat_map (inside b) xs)))

    -- a turn of a loop that makes what stands for each tree
    pub made_next : (s : Scope) (in_force : List SpanValue) (start mid end : List Site) (all : List A) (i : ℕ) (x : A) (so_far new : List B) → i < length all → x ≡ get_or all i x →
        AreMade s in_force start mid inside make all (take i all) so_far →
        ((spans : List SpanTree) (around : List SpanValue) → AreInForce s in_force spans around → PartsFit s (length mid) (whats (inside spans x)) →
        (new ≡ so_far ++ make (length mid) x) × (end ≡ mid ++ sites_among s around (inside spans x))) →
        AreMade s in_force start end inside make all (take (i + 1) all) new
    made_next s in_force start mid end all i x so_far new within is done each spans around force fits =
        let front = flat_map (inside spans) (take i all) in
        let before = done spans around force fits in
        let counted : length mid ≡ length start + site_count (whats front) = counted_after s around start mid front before.1 in
        let split : all ≡ take i all ++ (x ∷ drop (suc i) all) =
        sym (take-append-drop i all) ∙ ap (λ t. take i all ++ t) (drop-cons all i x within ∙ ap (λ y. y ∷ drop (suc i) all) (sym is)) in
        let whole : whats (flat_map (inside spans) all) ≡ whats front ++ (whats (inside spans x) ++ whats (flat_map (inside spans) (drop (suc i) all))) =
        ap (λ ys. whats (flat_map (inside spans) ys)) split ∙ ap whats (flat_map-append (inside spans) (take i all) (x ∷ drop (suc i) all))
        ∙ whats_append front (inside spans x ++ flat_map (inside spans) (drop (suc i) all))
        ∙ ap (λ t. whats front ++ t) (whats_append (inside spans x) (flat_map (inside spans) (drop (suc i) all))) in
        let rest : PartsFit s (length mid) (whats (inside spans x) ++ whats (flat_map (inside spans) (drop (suc i) all))) =
        fit_right s (length start) (length mid) (whats front) (whats (inside spans x) ++ whats (flat_map (inside spans) (drop (suc i) all))) counted
        (subst (PartsFit s (length start)) whole fits) in
        let one = each spans around force (fit_left s (length mid) (whats (inside spans x)) (whats (flat_map (inside spans) (drop (suc i) all))) rest) in
        let number : length mid ≡ length start + site_count (whats (flat_map (inside []) (take i all))) =
        counted ∙ ap (λ ps. length start + site_count ps) (all_alike spans [] (take i all)) in
        let next : take (i + 1) all ≡ take i all ++ x ∷ [] = taken all i x within is in (
          one.0 ∙ ap (λ t. t ++ make (length mid) x) before.0 ∙ ap (λ n. from inside make (length start) (take i all) ++ make n x) number
              ∙ ap (λ t. from inside make (length start) (take i all) ++ t) (sym (append-nil (make (length start + site_count (whats (flat_map (inside []) (take i all)))) x)))
              ∙ sym (from_append (length start) (take i all) (x ∷ [])) ∙ ap (from inside make (length start)) (sym next),
          one.1 ∙ ap (λ t. t ++ sites_among s around (inside spans x)) before.1 ∙ append_assoc start (sites_among s around front) (sites_among s around (inside spans x))
              ∙ ap (λ t. start ++ t) (sym (sites_append s around front (inside spans x)))
              ∙ ap (λ ws. start ++ sites_among s around (front ++ ws)) (sym (append-nil (inside spans x)))
              ∙ ap (λ ws. start ++ sites_among s around ws) (sym (flat_map-append (inside spans) (take i all) (x ∷ [])))
              ∙ ap (λ ys. start ++ sites_among s around (flat_map (inside spans) ys)) (sym next),
        )
