-- The text of a program is in range.
use Rattle.std.proofs.Common.{◌≡◌, ◌⊎◌, inl, inr, ℕ, zero, suc, ◌+◌, ◌*◌, ◌%◌, ◌<◌, ◌≤◌, ◌^◌, refl, sym, ◌∙◌, ap, subst, arith, Bool, true, false, List, [], ◌∷◌, ◌++◌, length, length-append, length-drop, map, take, drop, get_or, Some, slice_get}
use Rattle.std.specs.Prelude.{◌&&◌, ◌==◌, nat_le, nat_lt, sum_by}
use Rattle.std.specs.List.{All, AllZip, list_all}
use Rattle.std.proofs.lemmas.Bool.{and_parts, eq-eqb, eqb-true, and_from}
use Rattle.std.proofs.lemmas.Bool.Decides.{nat_tests}
use Rattle.std.proofs.lemmas.List.{drop-drop, drop_all, get_or_past, length-map}
use Rattle.std.proofs.lemmas.List.Elements.{All-cons, All-head, All-map, All-nil, All-tail, All-weaker}
use Rattle.std.proofs.lemmas.List.Folds.{list_all-append}
use Rattle.std.proofs.lemmas.List.Sums.{list_all-from_AllPass, sum_by-cons, sum_by-take-drop}
use Rattle.std.proofs.lemmas.Option.{slice_get-get_or}
use Rattle.rv_table.specs.Memory.{code_base}
use Rattle.rv_asm.proofs.Shared.{fixes_are_filled}
use Rattle.rv_asm.specs.Filling.{AreApart, filled, fix_number, with_number}
use Rattle.rv_asm.specs.declared.filling.CodeFix.{CodeFix}
use Rattle.rv_asm.specs.declared.part.Meaning.TheVariants.{Outer}
use Rattle.cmm_program.proofs.Shared.{list_all_get}
use Rattle.cmm_program.specs.Bounds.{code_bound}
use Rattle.cmm_program.specs.InRange.{IsInRange}
use Rattle.cmm_program.specs.declared.procedure.Proc.{Proc}
use Rattle.cmm_program.specs.declared.procedure.Site.{Site}
use Rattle.cmm_program.specs.declared.program.Program.{Program}
use Rattle.cmm_graph.specs.declared.graph.Graph.{Graph}
use Rattle.cmm_image.specs.ImageFormat.{is_code_length, is_in_code}
use Rattle.cmm_unit_code.specs.Joined.{IsJoined, IsWhole, joined_code, landing_addresses, procedure_addresses, reference_value, site_addresses, symbol_value}
use Rattle.cmm_unit_code.specs.Texts.{AreDistinct, HasLandings, HasSitesAt, IsSiteAt, IsText, address_in, ascend_above}
use Rattle.cmm_unit_code.specs.declared.text.Text.{Text}
use Rattle.cmm_unit_code.specs.declared.unit_code.Reference.{Reference}
use Rattle.cmm_unit_code.specs.declared.unit_code.Reference.TheVariants.{Procedure}
use Rattle.cmm_unit_code.specs.declared.unit_code.UnitCode.{UnitCode}
use Rattle.cmm_allocate.specs.declared.procedure.ProcedurePlaces.{ProcedurePlaces}
use Rattle.cmm_emit.proofs.Addresses.{place_fine}
use Rattle.cmm_emit.proofs.Inside.{IsInside, IsRanged, unit_ranged}
use Rattle.cmm_emit.proofs.JoinedSites.{distinct_both, in_one, is_moved}
use Rattle.cmm_emit.proofs.Meanings.{AreMeant, symbols_named}
use Rattle.cmm_emit.proofs.UnitSites.{HasSitesIn, IsSited, IsSiteIn, unit_sited}
use Rattle.cmm_emit.proofs.SiteNodes.{IsWaited}
use Rattle.cmm_emit.specs.Labels.{is_reached}
use Rattle.cmm_emit.specs.LaidProcedures.{AreInnerFrom, AreSymbolsIn, CanAllBeLaidIn}
use Rattle.cmm_emit.specs.Outlines.{share}
use Rattle.cmm_emit.specs.Starts.{IsStart, start_labels}
use Rattle.cmm_emit.specs.Units.{AreUnits, IsUnit}
use Rattle.cmm_emit.specs.declared.start.Start.{Start}

-- ---- lists

-- addresses that ascend, before others that ascend above each number that is not behind the first
ascend_append : (xs ys : List ℕ) (before end : ℕ) → before < end → ascend_above before xs ≡ true → All (λ x. x < end) xs →
    ((n : ℕ) → n < end → ascend_above n ys ≡ true) → ascend_above before (xs ++ ys) ≡ true
ascend_append [] ys before end less ascends below later = later before less
ascend_append (x ∷ xs) ys before end less ascends below later =
    let parts = and_parts (nat_lt before x) (ascend_above x xs) ascends in
    and_from (nat_lt before x) (ascend_above x (xs ++ ys)) parts.0
    (ascend_append xs ys x end (All-head (λ y. y < end) x xs below) parts.1 (All-tail (λ y. y < end) x xs below) later)

-- a list side by side with two lists, of which the first has n
zip_append : {A B : Type 0} (R : A → B → Type 0) (count : ℕ) (xs : List A) (ys zs : List B) → count ≤ length xs → AllZip R (take count xs) ys → AllZip R (drop count xs) zs →
    AllZip R xs (ys ++ zs)
zip_append R zero xs [] zs few one two = two
zip_append R zero xs (y ∷ ys) zs few one two = elim one [ ]
zip_append R (suc count) [] ys zs few one two = absurd (omega (arith, few))
zip_append R (suc count) (x ∷ xs) [] zs few one two = elim one [ ]
zip_append R (suc count) (x ∷ xs) (y ∷ ys) zs few one two = (one.0, zip_append R count xs ys zs (omega (arith, few)) one.1 two)

zip_map : {A B C : Type 0} (R : A → B → Type 0) (S : A → C → Type 0) (f : B → C) → ((x : A) (y : B) → R x y → S x (f y)) → (xs : List A) (ys : List B) → AllZip R xs ys →
    AllZip S xs (map f ys)
zip_map R S f so [] [] all = tt
zip_map R S f so [] (y ∷ ys) all = elim all [ ]
zip_map R S f so (x ∷ xs) [] all = elim all [ ]
zip_map R S f so (x ∷ xs) (y ∷ ys) all = (so x y all.0, zip_map R S f so xs ys all.1)

list_all_both : {A : Type 0} (test : A → Bool) (xs ys : List A) → list_all test xs ≡ true → list_all test ys ≡ true → list_all test (xs ++ ys) ≡ true
list_all_both test xs ys one two = list_all-append test xs ys ∙ and_from (list_all test xs) (list_all test ys) one two

-- ---- addresses

-- an address is one of n bytes of code
in_code : (n a : ℕ) → code_base ≤ a → a < code_base + n → a % 4 ≡ 0 → is_in_code n a ≡ true
in_code n a low high aligned =
    let first : nat_le code_base a ≡ true = grind (arith, nat_tests, low) in
    let second : nat_lt a (code_base + n) ≡ true = grind (arith, nat_tests, high) in
    and_from (nat_le code_base a && nat_lt a (code_base + n)) (a % 4 == 0) (and_from (nat_le code_base a) (nat_lt a (code_base + n)) first second) (eq-eqb (a % 4) 0 aligned)

-- and what that says
record IsAddress (n a : ℕ) : Type 0 where
  pub low : code_base ≤ a
  pub high : a < code_base + n
  pub aligned : a % 4 ≡ 0

address_of : (n a : ℕ) → is_in_code n a ≡ true → IsAddress n a
address_of n a is =
    let both = and_parts (nat_le code_base a && nat_lt a (code_base + n)) (a % 4 == 0) is in
    let ends = and_parts (nat_le code_base a) (nat_lt a (code_base + n)) both.0 in
    let one = ends.0 in
    let two = ends.1 in
    record {
      low = grind (arith, nat_tests, one);
      high = grind (arith, nat_tests, two);
      aligned = eqb-true (a % 4) 0 both.1;
    }

-- a place inside n bytes that stand at an address
inside_code : (at size n : ℕ) → at % 4 ≡ 0 → code_base ≤ at → at + size ≤ code_base + n → (offset : ℕ) → IsInside size offset → is_in_code n (at + offset) ≡ true
inside_code at size n aligned low high offset inside =
    let four = inside.0 in
    let less = inside.1 in
    in_code n (at + offset) (omega (arith, low)) (omega (arith, high, less)) (omega (arith, aligned, four))

all_inside : (at size n : ℕ) → at % 4 ≡ 0 → code_base ≤ at → at + size ≤ code_base + n → (offsets : List ℕ) → All (IsInside size) offsets →
    list_all (is_in_code n) (map (λ offset. at + offset) offsets) ≡ true
all_inside at size n aligned low high offsets inside =
    list_all-from_AllPass (is_in_code n) (map (λ offset. at + offset) offsets)
    (All-map (λ a. is_in_code n a ≡ true) (λ offset. at + offset) offsets
    (All-weaker (IsInside size) (λ offset. is_in_code n (at + offset) ≡ true) (inside_code at size n aligned low high) offsets inside))

-- ---- units one behind another

abbrev pub size : List UnitCode → ℕ
size us = sum_by (λ u. length u.code) us

abbrev tokens : List Proc → ℕ
tokens qs = sum_by (λ q. q.tokens) qs

-- what is known of units that have the procedures of a program from one on
pub record AreRanged (p : Program) (first : ℕ) (us : List UnitCode) : Type 0 where
  pub whole : All IsWhole us
  pub aligned : size us % 4 ≡ 0
  pub few : size us ≤ 256 * tokens (drop first p.procs) + 16 * length us
  pub procedure_count : (at : ℕ) → length (procedure_addresses at us) + first ≡ length p.procs
  pub procedures : (at n : ℕ) → at % 4 ≡ 0 → code_base ≤ at → at + size us ≤ code_base + n → list_all (is_in_code n) (procedure_addresses at us) ≡ true
  pub ascending : (at before : ℕ) → before < at → ascend_above before (procedure_addresses at us) ≡ true
  pub counts : (at : ℕ) → AllZip HasLandings (drop first p.procs) (landing_addresses at us)
  pub landings : (at n : ℕ) → at % 4 ≡ 0 → code_base ≤ at → at + size us ≤ code_base + n → list_all (list_all (is_in_code n)) (landing_addresses at us) ≡ true
  pub sites : (at n : ℕ) → at % 4 ≡ 0 → code_base ≤ at → at + size us ≤ code_base + n → AllZip (HasSitesAt n) (drop first p.procs) (site_addresses at us)
  pub above : (at q n a : ℕ) → address_in (site_addresses at us) q n ≡ Some a → at ≤ a
  pub distinct : (at : ℕ) → AreDistinct (site_addresses at us)

none_ranged : (p : Program) (first : ℕ) → first ≡ length p.procs → AreRanged p first []
none_ranged p first is = record {
  whole = All-nil IsWhole;
  aligned = refl;
  few = omega arith;
  procedure_count = λ at. omega (arith, is);
  procedures = λ at n aligned low high. refl;
  ascending = λ at before less. refl;
  counts = λ at. subst (λ (qs : List Proc). AllZip HasLandings qs []) (sym (drop_all first p.procs (omega (arith, is)))) tt;
  landings = λ at n aligned low high. refl;
  sites = λ at n aligned low high. subst (λ (qs : List Proc). AllZip (HasSitesAt n) qs []) (sym (drop_all first p.procs (omega (arith, is)))) tt;
  above = λ at q n a there. absurd (cc);
  distinct = λ at q r m n a here there. absurd (cc);
}

module _ (p : Program) (first count : ℕ) (u : UnitCode) (us : List UnitCode) (one : IsRanged p first count u) (sited : IsSited p first count u) (rest : AreRanged p (first + count) us) where
  abbrev own : ℕ → List ℕ
  own at = map (λ offset. at + offset) u.procedures

  abbrev cut : ℕ → List (List ℕ)
  cut at = map (λ offsets. map (λ offset. at + offset) offsets) u.landings

  abbrev back : ℕ → List (List ℕ)
  back at = map (λ offsets. map (λ offset. at + offset) offsets) u.sites

  site_moved : (at n : ℕ) → at % 4 ≡ 0 → code_base ≤ at → at + length u.code ≤ code_base + n → (site : Site) (offset : ℕ) → IsSiteIn (length u.code) site offset →
      IsSiteAt n site (at + offset)
  site_moved at n aligned low high site offset is =
      let four = is.0.0 in
      let less = is.1 in (
        inside_code at (length u.code) n aligned low high offset is.0,
        in_code n (at + offset + 4 * length site.returns) (omega (arith, low)) (omega (arith, high, less)) (omega (arith, aligned, four)),
      )

  above_both : (at q n a : ℕ) → ((q < length (back at)) × (address_in (back at) q n ≡ Some a)) ⊎
      ((r : ℕ) × (q ≡ length (back at) + r) × (address_in (site_addresses (at + length u.code) us) r n ≡ Some a)) → at ≤ a
  above_both at q n a (inl own_) = let is = (is_moved at u.sites q n a own_.1).is in omega (arith, is)
  above_both at q n a (inr later) = let least = rest.above (at + length u.code) later.0 n a later.2 in omega (arith, least)

  sizes : size (u ∷ us) ≡ length u.code + size us
  sizes = sum_by-cons (λ (v : UnitCode). length v.code) u us

  pub one_more : AreRanged p first (u ∷ us)
  one_more = record {
    whole = All-cons IsWhole u us one.whole rest.whole;
    aligned = let four = one.aligned in let more = rest.aligned in omega (arith, sizes, four, more);
    few =
        let own_few = one.few in
        let more = rest.few in
        let behind : tokens (drop count (drop first p.procs)) ≡ tokens (drop (first + count) p.procs) = ap tokens (drop-drop count first p.procs) in
        omega (arith, sizes, own_few, more, behind, sum_by-take-drop (λ (q : Proc). q.tokens) (drop first p.procs) count);
    procedure_count = λ at.
        let many = one.procedure_count in
        omega (arith, many, rest.procedure_count (at + length u.code), length-append (own at) (procedure_addresses (at + length u.code) us), length-map u.procedures (λ offset. at + offset));
    procedures = λ at n aligned low high.
        let four = one.aligned in
        list_all_both (is_in_code n) (own at) (procedure_addresses (at + length u.code) us)
        (all_inside at (length u.code) n aligned low (omega (arith, high, sizes)) u.procedures one.procedures)
        (rest.procedures (at + length u.code) n (omega (arith, aligned, four)) (omega (arith, low)) (omega (arith, high, sizes)));
    ascending = λ at before less.
        ascend_append (own at) (procedure_addresses (at + length u.code) us) before (at + length u.code) (omega (arith, less)) (one.ascending at before less)
        (All-map (λ a. a < at + length u.code) (λ offset. at + offset) u.procedures
        (All-weaker (IsInside (length u.code)) (λ offset. at + offset < at + length u.code) (λ offset inside. let below = inside.1 in omega (arith, below)) u.procedures one.procedures))
        (rest.ascending (at + length u.code));
    counts = λ at.
        zip_append HasLandings count (drop first p.procs) (cut at) (landing_addresses (at + length u.code) us) few_left
        (zip_map HasLandings HasLandings (λ offsets. map (λ offset. at + offset) offsets)
        (λ q offsets same. length-map offsets (λ offset. at + offset) ∙ same) (share first count p.procs) u.landings one.counts)
        (subst (λ (qs : List Proc). AllZip HasLandings qs (landing_addresses (at + length u.code) us)) (sym (drop-drop count first p.procs)) (rest.counts (at + length u.code)));
    landings = λ at n aligned low high.
        let four = one.aligned in
        list_all_both (list_all (is_in_code n)) (cut at) (landing_addresses (at + length u.code) us)
        (list_all-from_AllPass (list_all (is_in_code n)) (cut at)
        (All-map (λ as_. list_all (is_in_code n) as_ ≡ true) (λ offsets. map (λ offset. at + offset) offsets) u.landings
        (All-weaker (All (IsInside (length u.code))) (λ offsets. list_all (is_in_code n) (map (λ offset. at + offset) offsets) ≡ true)
        (all_inside at (length u.code) n aligned low (omega (arith, high, sizes))) u.landings one.landings)))
        (rest.landings (at + length u.code) n (omega (arith, aligned, four)) (omega (arith, low)) (omega (arith, high, sizes)));
    sites = λ at n aligned low high.
        let four = one.aligned in
        zip_append (HasSitesAt n) count (drop first p.procs) (back at) (site_addresses (at + length u.code) us) few_left
        (zip_map (HasSitesIn (length u.code)) (HasSitesAt n) (λ offsets. map (λ offset. at + offset) offsets)
        (λ q offsets are. zip_map (IsSiteIn (length u.code)) (IsSiteAt n) (λ offset. at + offset) (site_moved at n aligned low (omega (arith, high, sizes))) q.sites offsets are)
        (share first count p.procs) u.sites sited.sites)
        (subst (λ (qs : List Proc). AllZip (HasSitesAt n) qs (site_addresses (at + length u.code) us)) (sym (drop-drop count first p.procs))
        (rest.sites (at + length u.code) n (omega (arith, aligned, four)) (omega (arith, low)) (omega (arith, high, sizes))));
    above = λ at q n a there. above_both at q n a (in_one (back at) (site_addresses (at + length u.code) us) q n a there);
    distinct = λ at.
        distinct_both at (at + length u.code) u.sites (site_addresses (at + length u.code) us) sited.distinct
        (λ q n o there. let less = sited.below q n o there in omega (arith, less))
        (rest.distinct (at + length u.code)) (rest.above (at + length u.code));
  }
    where
      few_left : count ≤ length (drop first p.procs)
      few_left = let inside = one.within in omega (arith, inside, length-drop first p.procs)

-- ---- the code with which a run begins

-- its one symbol is `main`
pub start_meant : (p : Program) → AreMeant (Procedure p.main ∷ []) start_labels
start_meant p = record { symbols = symbols; inner = inner }
  where
    symbols : AreSymbolsIn (Procedure p.main ∷ []) start_labels
    symbols zero r there = let same : Procedure p.main ≡ r = cc in ap (λ (z : Reference). Some (Outer 0 (is_reached z))) same
    symbols (suc k) r there = absurd (cc)

    inner : AreInnerFrom 1 start_labels
    inner zero least less = absurd (omega (arith, least))
    inner (suc zero) least less = refl
    inner (suc (suc k)) least less = absurd (omega (arith, less))

pub start_whole : (p : Program) (start : Start) → IsStart p start → IsWhole start.code
start_whole p start is = record {
  apart = is.done.apart;
  symbols =
      subst (λ (rs : List Reference). All (λ f. f.symbol < length rs) start.code.fixes) (sym is.references)
      (symbols_named (Procedure p.main ∷ []) start_labels (start_meant p) is.parts start.code.fixes is.done.symbols);
  procedures = subst (λ (ns : List ℕ). All (λ offset. offset ≤ length start.code.code) ns) (sym is.procedures) (All-nil (λ offset. offset ≤ length start.code.code));
  landings = subst (λ (ns : List (List ℕ)). All (All (λ offset. offset ≤ length start.code.code)) ns) (sym is.landings)
      (All-nil (All (λ offset. offset ≤ length start.code.code)));
  sites = subst (λ (ns : List (List ℕ)). All (All (λ offset. offset ≤ length start.code.code)) ns) (sym is.sites)
      (All-nil (All (λ offset. offset ≤ length start.code.code)));
}

start_few : (p : Program) (start : Start) → IsStart p start → length start.code.code ≤ 20
start_few p start is = let done = is.done.few in let most = is.size in omega (arith, done, most)

-- where the call of `main` comes back is in it, or at its end
last_within : (p : Program) (start : Start) → IsStart p start → (start.last % 4 ≡ 0) × (start.last ≤ length start.code.code)
last_within p start is =
    subst (λ (n : ℕ). (n % 4 ≡ 0) × (n ≤ length start.code.code)) (sym is.last) (place_fine start_labels is.parts (length start.code.code) is.places is.done.have 1)

pub last_low : (p : Program) (start : Start) → IsStart p start → start.last ≤ 2 ^ 30
last_low p start is = let most = (last_within p start is).1 in omega (arith, most, start_few p start is)

-- ---- bytes that are filled

-- filling keeps how many there are
pub filled_counted : (value : ℕ → ℕ) (at from : ℕ) (fixes : List CodeFix) (bytes : List ℕ) → AreApart from fixes (length bytes) →
    (length (filled value at fixes bytes) ≡ length bytes) × (from ≤ length bytes)
filled_counted value at from [] bytes apart = (refl, apart)
filled_counted value at from (f ∷ fixes) bytes apart =
    let n = fix_number value at f in
    let behind = (filled_counted value at (f.place + 8) fixes bytes apart.1).1 in
    let kept = fixes_are_filled.kept n f.place bytes behind in
    let rest = filled_counted value at (f.place + 8) fixes (with_number n f.place bytes) (subst (λ (m : ℕ). AreApart (f.place + 8) fixes m) (sym kept) apart.1) in
    let before = apart.0 in
    (rest.0 ∙ kept, omega (arith, before, behind))

joined_counted : (value : Reference → ℕ) (at : ℕ) (us : List UnitCode) → All IsWhole us → length (joined_code value at us) ≡ size us
joined_counted value at [] whole = refl
joined_counted value at (u ∷ us) whole =
    let own_bytes = filled (symbol_value value u.references) at u.fixes u.code in
    let own_count = (filled_counted (symbol_value value u.references) at 0 u.fixes u.code (All-head IsWhole u us whole).apart).0 in
    let rest = joined_counted value (at + length u.code) us (All-tail IsWhole u us whole) in
    omega (
      arith,
      length-append own_bytes (joined_code value (at + length u.code) us),
      own_count,
      rest,
      sum_by-cons (λ (v : UnitCode). length v.code) u us,
    )

-- ---- all units

module _ (p : Program) (graphs : List Graph) (found : List ProcedurePlaces) (range : IsInRange p) (graph_count : length graphs ≡ length p.procs)
    (continuations : (q : ℕ) (procedure : Proc) (g : Graph) → slice_get p.procs q ≡ Some procedure → slice_get graphs q ≡ Some g →
    length g.continuations ≡ length procedure.conts)
    (waiting : (q : ℕ) (procedure : Proc) (g : Graph) → slice_get p.procs q ≡ Some procedure → slice_get graphs q ≡ Some g → (n : ℕ) (site : Site) →
    slice_get procedure.sites n ≡ Some site → IsWaited g n site)
    (can_of : (first count : ℕ) (u : UnitCode) (is : IsUnit p graphs found first count u) → CanAllBeLaidIn p graphs found is.outline) where
  are_ranged : (first : ℕ) (us : List UnitCode) → AreUnits p graphs found first (length p.procs) us → AreRanged p first us
  are_ranged first [] are = none_ranged p first are
  are_ranged first (u ∷ us) are =
      one_more p first are.0 u us (unit_ranged p graphs found first are.0 u are.1 (can_of first are.0 u are.1) graph_count continuations)
      (unit_sited p graphs found first are.0 u are.1 (can_of first are.0 u are.1) graph_count waiting)
      (are_ranged (first + are.0) us are.2)

  module _ (units : List UnitCode) (few : length units ≤ 256) (are : AreUnits p graphs found 0 (length p.procs) units) (start : Start) (is_start : IsStart p start) where
    ranged : AreRanged p 0 units
    ranged = are_ranged 0 units are

    abbrev whole_size : ℕ
    whole_size = size (start.code ∷ units)

    together : whole_size ≡ length start.code.code + size units
    together = sum_by-cons (λ (v : UnitCode). length v.code) start.code units

    pub all_whole : All IsWhole (start.code ∷ units)
    all_whole = All-cons IsWhole start.code units (start_whole p start is_start) ranged.whole

    pub size_bounded : sum_by (λ u. length u.code) (start.code ∷ units) ≤ code_bound (sum_by (λ q. q.tokens) p.procs)
    size_bounded =
        let most = ranged.few in
        omega (arith, together, most, start_few p start is_start, few)

    pub size_fits : sum_by (λ u. length u.code) (start.code ∷ units) + 65536 ≤ 2 ^ 30
    size_fits = let tokens_few = range.tokens in omega (arith, size_bounded, tokens_few)

    -- there is a procedure, and so there is code behind that with which a run begins
    some_code : 4 ≤ size units
    some_code =
        let main = range.main in
        let many = ranged.procedure_count code_base in
        let inside : 0 < length (procedure_addresses code_base units) = omega (arith, main, many) in
        let all = ranged.procedures code_base (size units) refl (omega arith) (omega arith) in
        let a = get_or (procedure_addresses code_base units) 0 0 in
        let address = address_of (size units) a
        (list_all_get (is_in_code (size units)) (procedure_addresses code_base units) 0 a all (slice_get-get_or (procedure_addresses code_base units) 0 0 inside))
        in
        let low = address.low in
        let high = address.high in
        let aligned = ranged.aligned in
        omega (arith, low, high, aligned)

    module _ (addresses : List ℕ) (t : Text) (joined : IsJoined addresses (start.code ∷ units) start.last t) where
      -- where the units stand behind that code
      abbrev behind : ℕ
      behind = code_base + length start.code.code

      pub code_counted : length t.code ≡ sum_by (λ u. length u.code) (start.code ∷ units)
      code_counted = ap (λ (bytes : List ℕ). length bytes) joined.code ∙ joined_counted (reference_value addresses t.procedures) code_base (start.code ∷ units) all_whole

      pub code_bounded : length t.code ≤ code_bound (sum_by (λ q. q.tokens) p.procs)
      code_bounded = omega (arith, code_counted, size_bounded)

      pub code_fits : code_base + length t.code ≤ 2 ^ 30
      code_fits = omega (arith, code_counted, size_fits)

      procedures_are : t.procedures ≡ procedure_addresses behind units
      procedures_are =
          joined.procedures ∙ ap (λ (ns : List ℕ). map (λ offset. code_base + offset) ns ++ procedure_addresses behind units) is_start.procedures

      landings_are : t.landings ≡ landing_addresses behind units
      landings_are =
          joined.landings
          ∙ ap (λ (ns : List (List ℕ)). map (λ offsets. map (λ offset. code_base + offset) offsets) ns ++ landing_addresses behind units) is_start.landings

      sites_are : t.sites ≡ site_addresses behind units
      sites_are =
          joined.sites ∙ ap (λ (ns : List (List ℕ)). map (λ offsets. map (λ offset. code_base + offset) offsets) ns ++ site_addresses behind units) is_start.sites

      pub procedure_count : length t.procedures ≡ length p.procs
      procedure_count = ap (λ (ns : List ℕ). length ns) procedures_are ∙ omega (arith, ranged.procedure_count behind)

      behind_aligned : behind % 4 ≡ 0
      behind_aligned = let four = is_start.done.whole in omega (arith, four)

      behind_within : behind + size units ≤ code_base + length t.code
      behind_within = omega (arith, code_counted, together)

      procedures_in_code : list_all (is_in_code (length t.code)) t.procedures ≡ true
      procedures_in_code =
          subst (λ (ns : List ℕ). list_all (is_in_code (length t.code)) ns ≡ true) (sym procedures_are)
          (ranged.procedures behind (length t.code) behind_aligned (omega arith) behind_within)

      procedure_at : (q : ℕ) → (get_or t.procedures q 0 % 4 ≡ 0) × (get_or t.procedures q 0 ≤ 2 ^ 30)
      procedure_at q = by (nat_lt q (length t.procedures)) refl
        where
          by : (b : Bool) → nat_lt q (length t.procedures) ≡ b → (get_or t.procedures q 0 % 4 ≡ 0) × (get_or t.procedures q 0 ≤ 2 ^ 30)
          by true less =
              let inside : q < length t.procedures = grind (arith, nat_tests, less) in
              let a = get_or t.procedures q 0 in
              let address = address_of (length t.code) a (list_all_get (is_in_code (length t.code)) t.procedures q a procedures_in_code (slice_get-get_or t.procedures q 0 inside)) in
              let high = address.high in
              (address.aligned, omega (arith, high, code_fits))
          by false past =
              let out : length t.procedures ≤ q = grind (arith, nat_tests, past) in
              let none = get_or_past t.procedures q 0 out in
              (subst (λ (a : ℕ). a % 4 ≡ 0) (sym none) refl, omega (arith, none))

      pub procedures_aligned : (q : ℕ) → get_or t.procedures q 0 % 4 ≡ 0
      procedures_aligned q = (procedure_at q).0

      pub procedures_low : (q : ℕ) → get_or t.procedures q 0 ≤ 2 ^ 30
      procedures_low q = (procedure_at q).1

      size_fine : is_code_length (length t.code) ≡ true
      size_fine =
          let n = length t.code in
          let four = is_start.done.whole in
          let more = ranged.aligned in
          let least : 4 ≤ n = omega (arith, code_counted, together, some_code) in
          let most : n ≤ 0x3fff0000 = omega (arith, code_fits) in
          let aligned : n % 4 ≡ 0 = omega (arith, code_counted, together, four, more) in
          let first : nat_le 4 n ≡ true = grind (arith, nat_tests, least) in
          let second : nat_le n 0x3fff0000 ≡ true = grind (arith, nat_tests, most) in
          and_from (nat_le 4 n && nat_le n 0x3fff0000) (n % 4 == 0) (and_from (nat_le 4 n) (nat_le n 0x3fff0000) first second) (eq-eqb (n % 4) 0 aligned)

      pub is_text : IsText p t
      is_text = record {
        size = size_fine;
        start = subst (λ (a : ℕ). is_in_code (length t.code) a ≡ true) (sym joined.start)
            (in_code (length t.code) code_base (omega arith) (omega (arith, code_counted, together, some_code)) refl);
        last = subst (λ (a : ℕ). is_in_code (length t.code) a ≡ true) (sym joined.last)
            (let last = last_within p start is_start in
            let four = last.0 in
            let most = last.1 in
            in_code (length t.code) (code_base + start.last) (omega arith) (omega (arith, most, code_counted, together, some_code)) (omega (arith, four)));
        count = procedure_count;
        procedures = procedures_in_code;
        ascending = subst (λ (ns : List ℕ). ascend_above 0 ns ≡ true) (sym procedures_are) (ranged.ascending behind 0 (omega arith));
        counts = subst (λ (ns : List (List ℕ)). AllZip HasLandings p.procs ns) (sym landings_are) (ranged.counts behind);
        landings = subst (λ (ns : List (List ℕ)). list_all (list_all (is_in_code (length t.code))) ns ≡ true) (sym landings_are)
            (ranged.landings behind (length t.code) behind_aligned (omega arith) behind_within);
        sites = subst (λ (ns : List (List ℕ)). AllZip (HasSitesAt (length t.code)) p.procs ns) (sym sites_are)
            (ranged.sites behind (length t.code) behind_aligned (omega arith) behind_within);
        distinct = subst (λ (ns : List (List ℕ)). AreDistinct ns) (sym sites_are) (ranged.distinct behind);
      }
