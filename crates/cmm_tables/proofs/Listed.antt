-- Rows that are made one by one.
use Rattle.cmm_words.specs.declared.constant.Constant.{Constant}
use Rattle.cmm_words.specs.declared.width.Width.{Width}
use Rattle.cmm_program.specs.declared.procedure.Proc.{Proc}
use Rattle.cmm_program.specs.declared.procedure.Site.{Site}
use Rattle.cmm_chain.specs.declared.frame.Location.{Location}
use Rattle.cmm_image.specs.declared.rows.ContinuationNumber.{ContinuationNumber}
use Rattle.cmm_image.specs.declared.rows.VariablePlace.{VariablePlace}
use Rattle.cmm_tables.specs.declared.unplaced.UnplacedSite.{UnplacedSite}
use Rattle.cmm_tables.specs.SiteRows.{unplaced_site}
use Rattle.std.proofs.Common.{◌≡◌, ℕ, zero, suc, ◌+◌, ◌<◌, List, [], ◌∷◌, ◌++◌, map, take, Some, slice_get, refl, sym, ap, ◌∙◌, arith}
use Rattle.std.specs.List.{enumerate_from, range_with_len}
use Rattle.std.proofs.lemmas.List.{map-append}

-- what two functions give alike in a range
pub mapped_alike : {A : Type 0} (f g : ℕ → A) (from count : ℕ) → ((v : ℕ) → v < from + count → f v ≡ g v) → map f (range_with_len from count) ≡ map g (range_with_len from count)
mapped_alike f g from zero same = refl
mapped_alike {A = A} f g from (suc count) same =
    ap (λ (x : A). x ∷ map f (range_with_len (from + 1) count)) (same from (omega arith))
    ∙ ap (λ (xs : List A). g from ∷ xs) (mapped_alike f g (from + 1) count (λ v less. same v (omega (arith, less))))

-- one more element with its index
pub enumerated_more : {A : Type 0} (n i : ℕ) (xs : List A) (x : A) → slice_get xs i ≡ Some x →
    enumerate_from n (take (suc i) xs) ≡ enumerate_from n (take i xs) ++ (n + i, x) ∷ []
enumerated_more n i [] x is = absurd (cc)
enumerated_more {A = A} n zero (y ∷ xs) x is =
    let same : y ≡ x = cc (is) in
    let here : n + 0 ≡ n = omega arith in
    rw (here, same) refl
enumerated_more {A = A} n (suc i) (y ∷ xs) x is =
    let here : n + 1 + i ≡ n + suc i = omega arith in
    ap (λ (rest : List (ℕ × A)). (n, y) ∷ rest) (enumerated_more (n + 1) i xs x is ∙ ap (λ (k : ℕ). enumerate_from (n + 1) (take i xs) ++ (k, x) ∷ []) here)

pub mapped_more : {A B : Type 0} (f : ℕ × A → B) (i : ℕ) (xs : List A) (x : A) (rows : List B) (row : B) → slice_get xs i ≡ Some x → rows ≡ map f (enumerate_from 0 (take i xs)) → row ≡ f (i, x) →
    rows ++ row ∷ [] ≡ map f (enumerate_from 0 (take (i + 1) xs))
mapped_more {A = A} {B = B} f i xs x rows row there so_far is =
    let next : i + 1 ≡ suc i = omega arith in
    let here : 0 + i ≡ i = omega arith in
    ap (λ (rows : List B). rows ++ row ∷ []) so_far
    ∙ ap (λ (row : B). map f (enumerate_from 0 (take i xs)) ++ row ∷ []) (is ∙ ap (λ (k : ℕ). f (k, x)) (sym here))
    ∙ sym (map-append f (enumerate_from 0 (take i xs)) ((0 + i, x) ∷ []))
    ∙ ap (λ (of : List (ℕ × A)). map f of) (sym (enumerated_more 0 i xs x there) ∙ ap (λ (n : ℕ). enumerate_from 0 (take n xs)) (sym next))

-- a row with the fields of a site's is the site's
pub unplaced_of : (p : Proc) (place : ℕ → Location) (q n : ℕ) (site : Site) {results : List Width} {returns unwinds cuts : List ContinuationNumber} {variables : List VariablePlace}
    {spans : List (ℕ × Constant)} → results ≡ (unplaced_site p place q n site).results → returns ≡ (unplaced_site p place q n site).returns →
    unwinds ≡ (unplaced_site p place q n site).unwinds → cuts ≡ (unplaced_site p place q n site).cuts → variables ≡ (unplaced_site p place q n site).variables → spans ≡ site.spans →
    ◌≡◌ {A = UnplacedSite}
    record {
      procedure = q;
      number = n;
      never_returns = site.never;
      aborts = site.aborts;
      yield_values = site.yield_values;
      results = results;
      returns = returns;
      unwinds = unwinds;
      cuts = cuts;
      variables = variables;
      spans = spans;
    }
    (unplaced_site p place q n site)
unplaced_of p place q n site a b c d e f = rw (a, b, c, d, e, f) refl
