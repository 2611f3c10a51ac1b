-- The sites of a procedure by its tokens: each has three at least, and two more for each continuation to which it is unwound or cut.
use Rattle.std.proofs.Common.{◌∙◌, ◌≡◌, ℕ, zero, suc, ◌+◌, ◌*◌, ◌<◌, ◌≤◌, ◌==◌, nat_le, Bool, true, false, Option, Some, None, cond, filter, List, [], ◌∷◌, ◌++◌, length, slice_get, refl, ap, subst, arith}
use Rattle.std.proofs.lemmas.Bool.{eqb-true}
use Rattle.std.proofs.lemmas.Bool.Decides.{nat_tests}
use Rattle.std.proofs.lemmas.List.Sums.{sum_by-cons}
use Rattle.std.specs.List.{list_all, range_with_len}
use Rattle.std.proofs.lemmas.List.FromFn.{get_or-range_with_len, length-range_with_len}
use Rattle.std.proofs.lemmas.Option.{slice_get-get_or}
use Rattle.std.specs.Prelude.{sum_by}
use Rattle.cmm_program.proofs.Shared.{list_all_get}
use Rattle.cmm_program.specs.declared.procedure.Proc.{Proc}
use Rattle.cmm_program.specs.declared.procedure.Site.{Site}
use Rattle.cmm_program.specs.declared.statement.Form.{Form}
use Rattle.cmm_program.specs.declared.statement.Form.TheVariants.{Call, Yield, Checked, Continuation}
use Rattle.cmm_program.specs.Numbering.{continuation_number, site_number}
use Rattle.cmm_program.specs.Tokens.{annotation, own_tokens, result_tokens, site_tokens}

-- ---- numbers that stand among others

abbrev pub times : ℕ → List ℕ → ℕ
times n ns = length (filter (λ m. m == n) ns)

-- what all come to
abbrev pub total : (ℕ → ℕ) → List ℕ → ℕ
total f [] = 0
total f (m ∷ ns) = f m + total f ns

pub total_both : (f : ℕ → ℕ) (ms ns : List ℕ) → total f (ms ++ ns) ≡ total f ms + total f ns
total_both f [] ns = omega arith
total_both f (m ∷ ms) ns = omega (arith, total_both f ms ns)

-- what those from a number on come to, and those that are a number
abbrev from_on : (ℕ → ℕ) → ℕ → List ℕ → ℕ
from_on f k [] = 0
from_on f k (m ∷ ns) = elim (nat_le k m) [ true ↦ f m | false ↦ 0 ] + from_on f k ns

abbrev being : (ℕ → ℕ) → ℕ → List ℕ → ℕ
being f k [] = 0
being f k (m ∷ ns) = elim (m == k) [ true ↦ f m | false ↦ 0 ] + being f k ns

from_next : (f : ℕ → ℕ) (k : ℕ) (ns : List ℕ) → from_on f k ns ≡ being f k ns + from_on f (suc k) ns
from_next f k [] = refl
from_next f k (m ∷ ns) = grind (arith, nat_tests, from_next f k ns)

from_few : (f : ℕ → ℕ) (k : ℕ) (ns : List ℕ) → from_on f k ns ≤ total f ns
from_few f k [] = omega arith
from_few f k (m ∷ ns) = grind (arith, nat_tests, from_few f k ns)

being_there : (f : ℕ → ℕ) (k : ℕ) (ns : List ℕ) → 1 ≤ times k ns → f k ≤ being f k ns
being_there f k [] some = absurd (omega (arith, some))
being_there f k (m ∷ ns) some = by (m == k) refl some (being_there f k ns)
  where
    by : (b : Bool) → (m == k) ≡ b → 1 ≤ length (cond b (m ∷ filter (λ m. m == k) ns) (filter (λ m. m == k) ns)) →
        (1 ≤ times k ns → f k ≤ being f k ns) → f k ≤ elim b as (λ _. ℕ) [ true ↦ f m | false ↦ 0 ] + being f k ns
    by true is some rest = let same : f m ≡ f k = ap f (eqb-true m k is) in omega (arith, same)
    by false is some rest = omega (arith, rest some)

-- what a range of numbers comes to
abbrev in_range : (ℕ → ℕ) → ℕ → ℕ → ℕ
in_range f from zero = 0
in_range f from (suc count) = f from + in_range f (suc from) count

range_there : (f : ℕ → ℕ) (from count : ℕ) (ns : List ℕ) → ((n : ℕ) → n < from + count → 1 ≤ times n ns) → in_range f from count ≤ from_on f from ns
range_there f from zero ns each = omega arith
range_there f from (suc count) ns each =
    omega (
      arith,
      from_next f from ns,
      being_there f from ns (each from (omega arith)),
      range_there f (suc from) count ns (λ n less. each n (omega (arith, less))),
    )

-- ---- sites

abbrev pub site_measure : Site → ℕ
site_measure s = 3 + 2 * length s.unwinds + 2 * length s.cuts

abbrev pub measure_at : List Site → ℕ → ℕ
measure_at sites n = elim (slice_get sites n) [ Some s ↦ site_measure s | None ↦ 0 ]

sites_in_range : (f : ℕ → ℕ) (from : ℕ) (sites : List Site) → ((n : ℕ) (s : Site) → slice_get sites n ≡ Some s → site_measure s ≤ f (from + n)) →
    sum_by site_measure sites ≤ in_range f from (length sites)
sites_in_range f from [] each = omega arith
sites_in_range f from (s ∷ sites) each =
    let none : from + 0 ≡ from = omega arith in
    let first : site_measure s ≤ f from = subst (λ (n : ℕ). site_measure s ≤ f n) none (each 0 s refl) in
    omega (
      arith,
      sum_by-cons site_measure s sites,
      first,
      sites_in_range f (suc from) sites
          (λ n t is. let next : from + suc n ≡ suc from + n = omega arith in subst (λ (k : ℕ). site_measure t ≤ f k) next (each (suc n) t is)),
    )

-- where the number of each stands among some, they come to what these come to at most
pub sites_among : (sites : List Site) (ns : List ℕ) → ((n : ℕ) → n < length sites → 1 ≤ times n ns) → sum_by site_measure sites ≤ total (measure_at sites) ns
sites_among sites ns each =
    omega (
      arith,
      sites_in_range (measure_at sites) 0 sites (λ n s is. grind (arith, is)),
      range_there (measure_at sites) 0 (length sites) ns (λ n less. each n (omega (arith, less))),
      from_few (measure_at sites) 0 ns,
    )

-- ---- statements

names_long : (ks : List ℕ) → length ks ≤ sum_by (λ (k : ℕ). 1) ks
names_long [] = omega arith
names_long (k ∷ ks) = omega (arith, sum_by-cons (λ (k : ℕ). 1) k ks, names_long ks)

annotation_least : (ks : List ℕ) → 2 * length ks ≤ annotation ks
annotation_least [] = omega arith
annotation_least (k ∷ ks) = omega (arith, names_long (k ∷ ks))

site_least : (s : Site) → site_measure s ≤ site_tokens s + 3
site_least s = omega (arith, annotation_least s.unwinds, annotation_least s.cuts)

call_least : (o : Option Site) →
    elim o as (λ _. ℕ) [ Some s ↦ site_measure s | None ↦ 0 ] ≤ elim o as (λ _. ℕ) [ Some s ↦ result_tokens s + site_tokens s | None ↦ 0 ] + 3
call_least (Some s) = omega (arith, site_least s)
call_least None = omega arith

checked_least : (o : Option Site) → elim o as (λ _. ℕ) [ Some s ↦ site_measure s | None ↦ 0 ] ≤ elim o as (λ _. ℕ) [ Some s ↦ site_tokens s | None ↦ 0 ] + 3
checked_least (Some s) = omega (arith, site_least s)
checked_least None = omega arith

-- a statement has the tokens of its continuation or its site
pub mark_least : (q : Proc) (f : Form) → 5 * length (continuation_number f) + total (measure_at q.sites) (site_number f) ≤ own_tokens q f
mark_least q (Continuation n) = omega arith
mark_least q (Call site to actuals) = omega (arith, call_least (slice_get q.sites site))
mark_least q (Yield site values) = omega (arith, call_least (slice_get q.sites site))
mark_least q (Checked site op width left right) = omega (arith, checked_least (slice_get q.sites site))
mark_least q f = omega arith

-- ---- numbers that are tested

range_get : (count n : ℕ) → n < count → slice_get (range_with_len 0 count) n ≡ Some n
range_get count n less =
    let inside : n < length (range_with_len 0 count) = omega (arith, less, length-range_with_len 0 count) in
    let none : 0 + n ≡ n = omega arith in
    slice_get-get_or (range_with_len 0 count) n n inside ∙ ap Some (get_or-range_with_len 0 count n n less ∙ none)

pub each_tested : (test : ℕ → Bool) (count n : ℕ) → list_all test (range_with_len 0 count) ≡ true → n < count → test n ≡ true
each_tested test count n all less = list_all_get test (range_with_len 0 count) n n all (range_get count n less)
