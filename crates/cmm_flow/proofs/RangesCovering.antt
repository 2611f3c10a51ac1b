-- A procedure in range has tokens for each of its parts, so what `flow` answers for a program in range are its flows.
use Rattle.std.proofs.Math.Bool.{or-false}
use Rattle.std.proofs.Common.{◌≡◌, ℕ, ◌+◌, ◌<◌, ◌≤◌, ◌==◌, ◌&&◌, ◌||◌, nat_le, nat_lt, Bool, true, false, IsTrue, filter, flat_map, Option, Some, None, List, [], ◌∷◌, ◌++◌, get_or, length, slice_get, take, refl, ap, sym, ◌∙◌, subst, arith}
use Rattle.std.proofs.lemmas.Bool.{and_parts, eqb-true}
use Rattle.std.proofs.lemmas.List.{take_more}
use Rattle.std.proofs.lemmas.List.Sums.{sum_by-cons}
use Rattle.std.proofs.lemmas.Option.{slice_get_within}
use Rattle.std.proofs.lemmas.List.Elements.{All-head, All-tail}
use Rattle.std.specs.List.{All, AllZip, list_all, range_with_len}
use Rattle.std.specs.Prelude.{sum_by}
use Rattle.cmm_program.proofs.Shared.{list_all_get}
use Rattle.cmm_program.specs.declared.procedure.Cont.{Cont}
use Rattle.cmm_program.specs.declared.procedure.Proc.{Proc}
use Rattle.cmm_program.specs.declared.procedure.Site.{Site}
use Rattle.cmm_program.specs.declared.procedure.Target.{Target}
use Rattle.cmm_program.specs.declared.program.Program.{Program}
use Rattle.cmm_program.specs.declared.statement.Form.{Form}
use Rattle.cmm_program.specs.declared.statement.Form.TheVariants.{Call, Yield, Checked, Continuation}
use Rattle.cmm_program.specs.declared.statement.Statement.{Statement}
use Rattle.cmm_program.specs.Bodies.{body_statements}
use Rattle.cmm_program.specs.Frames.{parameters}
use Rattle.cmm_program.specs.InRange.{IsInRange, IsProcInRange, at_site as is_site_at, is_checked_site, is_form, is_statement, is_yield_site}
use Rattle.cmm_program.specs.Liveness.{is_among}
use Rattle.cmm_program.specs.Numbering.{AreNumbered, body_numbers, continuation_number, site_number}
use Rattle.cmm_program.specs.Orders.{target_width}
use Rattle.cmm_program.specs.State.{Setting}
use Rattle.cmm_program.specs.Tokens.{at_site, names, own_tokens, result_tokens, site_tokens}
use Rattle.cmm_program.specs.Typing.{has_width, same_width}
use Rattle.cmm_words.specs.Words.{is_division}
use Rattle.cmm_words.specs.declared.width.Width.{Width}
use Rattle.cmm_graph.specs.declared.graph.Graph.{Graph}
use Rattle.cmm_flow.specs.Flow.{CoversParts, HasTokens, IsFlow, IsFlowOf}
use Rattle.cmm_flow.specs.Laws.{AnswersAreFlows, AreFlows}
use Rattle.cmm_flow.proofs.Covering.{at_most, each_passes, test_at_most, test_less}
use Rattle.cmm_flow.proofs.Laying.{and_both}
use Rattle.cmm_flow.proofs.LivenessMembers.{is_among-append}
use Rattle.cmm_flow.proofs.LivenessWaiting.{counted_among, each_tested}
use Rattle.cmm_flow.proofs.Ranges.{range_is_counted}

-- ---- statements with numbers

-- a number that statements have is that of one of them, which passes what all pass
module _ (number : Form → List ℕ) (test : Statement → Bool) (n : ℕ) where
  abbrev numbers : List Statement → List ℕ
  numbers ss = flat_map (λ (s : Statement). number s.form) ss

  numbered : (ss : List Statement) → is_among n (numbers ss) ≡ true → IsTrue (list_all test ss) →
      (s : Statement) × (is_among n (number s.form) ≡ true) × IsTrue (test s)
  numbered [] among all = absurd (cc)
  numbered (s ∷ ss) among all =
      let both = and_parts (test s) (list_all test ss) all in
      by both.0 (λ later. numbered ss later both.1) (is_among n (number s.form)) refl
    where
      by : IsTrue (test s) → (is_among n (numbers ss) ≡ true → (s : Statement) × (is_among n (number s.form) ≡ true) × IsTrue (test s)) → (b : Bool) →
          is_among n (number s.form) ≡ b → (s : Statement) × (is_among n (number s.form) ≡ true) × IsTrue (test s)
      by here later true is = (s, is, here)
      by here later false is = later (ap (λ b. b || is_among n (numbers ss)) (sym is) ∙ sym (is_among-append n (number s.form) (numbers ss)) ∙ among)

-- a body has a statement of each number
number_there : (number : Form → List ℕ) (count : ℕ) (q : Proc) (n : ℕ) → AreNumbered number count q → n < count →
    is_among n (body_numbers number q) ≡ true
number_there number count q n are less =
    let ns = body_numbers number q in
    let all = and_parts (length ns == count) (list_all (λ n. length (filter (λ m. m == n) ns) == 1) (range_with_len 0 count)) are in
    let once = each_tested (λ n. length (filter (λ m. m == n) ns) == 1) 0 count n all.1 (omega arith) (omega (arith, less)) in
    let some : 1 ≤ length (filter (λ m. m == n) ns) = omega (arith, eqb-true (length (filter (λ m. m == n) ns)) 1 once) in
    counted_among n ns some

-- ---- what statements pay for

names_least : {A : Type 0} (xs : List A) → length xs ≤ names xs
names_least [] = omega arith
names_least {A = A} (x ∷ xs) = omega (arith, sum_by-cons (λ (a : A). 1) x xs)

results_least : (site : Site) → length site.results ≤ result_tokens site
results_least site = by site.results refl
  where
    by : (ts : List Target) → site.results ≡ ts → length ts ≤ elim ts as (λ _. ℕ) [ [] ↦ 0 | _ ∷ _ ↦ names site.results + 1 ]
    by [] same = omega arith
    by (t ∷ ts) same = omega (arith, names_least site.results, ap length same)

one_number : (n m : ℕ) → is_among n (m ∷ []) ≡ true → m ≡ n
one_number n m among = sym (eqb-true n m (sym (or-false (n == m)) ∙ among))

module _ (p : Program) (q : Proc) where
  paid_at : (n m : ℕ) (site : Site) (size : Site → ℕ) → m ≡ n → slice_get q.sites n ≡ Some site → at_site q m size ≡ size site
  paid_at n m site size same is = ap (λ (o : Option Site). elim o as (λ _. ℕ) [ Some site ↦ size site | None ↦ 0 ]) (ap (slice_get q.sites) same ∙ is)

  -- a checked operator has one result
  abbrev is_one : Width → List Target → Bool
  is_one width ts = elim ts [ [] ↦ false | target ∷ more ↦ same_width (target_width target) width && (length more == 0) ]

  one_result : (width : Width) (site : Site) → IsTrue (is_checked_site p q width site) → length site.results ≤ 1
  one_result width site is = by site.results (and_parts (is_yield_site p q 1 site) (is_one width site.results) is).1
    where
      by : (ts : List Target) → IsTrue (is_one width ts) → length ts ≤ 1
      by [] is = omega arith
      by (t ∷ ts) is =
          let none = (and_parts (same_width (target_width t) width) (length ts == 0) is).1 in omega (arith, eqb-true (length ts) 0 none)

  -- the statement of a site has more tokens than the site results
  site_paid : (form : Form) (n : ℕ) (site : Site) → is_among n (site_number form) ≡ true → slice_get q.sites n ≡ Some site → IsTrue (is_form p q form) →
      length site.results < own_tokens q form
  site_paid (Call m callee actuals) n site among is fits =
      omega (arith, paid_at n m site (λ s. result_tokens s + site_tokens s) (one_number n m among) is, results_least site)
  site_paid (Yield m values) n site among is fits =
      omega (arith, paid_at n m site (λ s. result_tokens s + site_tokens s) (one_number n m among) is, results_least site)
  site_paid (Checked m op width left right) n site among is fits =
      let there : slice_get q.sites m ≡ Some site = ap (slice_get q.sites) (one_number n m among) ∙ is in
      let at = is_site_at p q m (is_checked_site p q width) in
      let first = has_width p q width left in
      let second = has_width p q width right in
      let fit = and_parts at (is_division op) (and_parts (at && is_division op) first (and_parts (at && is_division op && first) second fits).0).0 in
      let holds = subst (λ (o : Option Site). IsTrue (elim o as (λ _. Bool) [ Some site ↦ is_checked_site p q width site | None ↦ false ])) there fit.0 in
      omega (arith, one_result width site holds)
  site_paid form n site among is fits = absurd (cc)

  -- and that of a continuation more than it has parameters
  continuation_paid : (form : Form) (n : ℕ) (c : Cont) → is_among n (continuation_number form) ≡ true → slice_get q.conts n ≡ Some c →
      length c.params < own_tokens q form
  continuation_paid (Continuation m) n c among is =
      let same : parameters q m ≡ c.params =
      ap (λ (o : Option Cont). elim o as (λ _. List ℕ) [ Some c ↦ c.params | None ↦ [] ]) (ap (slice_get q.conts) (one_number n m among) ∙ is) in
      omega (arith, names_least (parameters q m), ap length same)
  continuation_paid form n c among is = absurd (cc)

  -- ---- a procedure in range

  module _ (range : IsProcInRange p q) where
    abbrev pays : Statement → Bool
    pays s = is_statement p q s && nat_le s.tokens q.tokens

    all_pay : (ss : List Statement) → IsTrue (list_all (is_statement p q) ss) → sum_by (λ (s : Statement). s.tokens) ss ≤ q.tokens → IsTrue (list_all pays ss)
    all_pay [] all within = refl
    all_pay (s ∷ ss) all within =
        let both = and_parts (is_statement p q s) (list_all (is_statement p q) ss) all in
        let sum = sum_by-cons (λ (s : Statement). s.tokens) s ss in
        let here : s.tokens ≤ q.tokens = omega (arith, sum, within) in
        let later = all_pay ss both.1 (omega (arith, sum, within)) in
        and_both (pays s) (list_all pays ss) (and_both (is_statement p q s) (nat_le s.tokens q.tokens) both.0 (test_at_most s.tokens q.tokens here)) later

    statements_pay : IsTrue (list_all pays (body_statements q))
    statements_pay = all_pay (body_statements q) range.body range.counts

    -- a number is that of a statement, whose own tokens are at most those of the procedure
    paid_by : (number : Form → List ℕ) (count n : ℕ) → AreNumbered number count q → n < count →
        (s : Statement) × (is_among n (number s.form) ≡ true) × IsTrue (is_form p q s.form) × (own_tokens q s.form ≤ q.tokens)
    paid_by number count n are less =
        let found = numbered number pays n (body_statements q) (number_there number count q n are less) statements_pay in
        let s = found.0 in
        let parts = and_parts (is_statement p q s) (nat_le s.tokens q.tokens) found.2 in
        let own = and_parts (is_form p q s.form) (nat_le (own_tokens q s.form) s.tokens) parts.0 in
        let first = at_most (own_tokens q s.form) s.tokens own.1 in
        let second = at_most s.tokens q.tokens parts.1 in
        (s, found.1, own.0, omega (arith, first, second))

    pub range_covers : CoversParts q
    range_covers = record {
      sites = record {
        accesses = omega (arith, range.shortest);
        results = each_passes (λ (site : Site). nat_lt (length site.results) q.tokens) q.sites (λ n site is.
            let found = paid_by site_number (length q.sites) n range.sites_numbered (slice_get_within q.sites n site is) in
            test_less (length site.results) q.tokens (omega (arith, site_paid found.0.form n site found.1 is found.2, found.3)));
      };
      statements = each_passes (λ (s : Statement). nat_le s.tokens q.tokens) (body_statements q) (λ n s is.
          (and_parts (is_statement p q s) (nat_le s.tokens q.tokens) (list_all_get pays (body_statements q) n s statements_pay is)).1);
      parameters = each_passes (λ (c : Cont). nat_lt (length c.params) q.tokens) q.conts (λ n c is.
          let found = paid_by continuation_number (length q.conts) n range.continuations_numbered (slice_get_within q.conts n c is) in
          test_less (length c.params) q.tokens (omega (arith, continuation_paid found.0.form n c found.1 is, found.3)));
    }

-- ---- the flows of a program

-- one more procedure with its graph
zip_push : {A B : Type 0} (R : A → B → Type 0) (xs : List A) (ys : List B) (x : A) (y : B) → AllZip R xs ys → R x y → AllZip R (xs ++ x ∷ []) (ys ++ y ∷ [])
zip_push R [] [] x y all holds = (holds, tt)
zip_push R [] (b ∷ ys) x y all holds = absurd all
zip_push R (a ∷ xs) [] x y all holds = absurd all
zip_push R (a ∷ xs) (b ∷ ys) x y all holds = (all.0, zip_push R xs ys x y all.1 holds)

pub zip_more : {A B : Type 0} (R : A → B → Type 0) (xs : List A) (ys : List B) (i : ℕ) (x : A) (y : B) → i < length xs → x ≡ get_or xs i x →
    AllZip R (take i xs) ys → R x y → AllZip R (take (i + 1) xs) (ys ++ y ∷ [])
zip_more R xs ys i x y less is all holds =
    subst (λ zs. AllZip R zs (ys ++ y ∷ [])) (sym (take_more xs i x less))
    (subst (λ a. AllZip R (take i xs ++ a ∷ []) (ys ++ y ∷ [])) is (zip_push R (take i xs) ys x y all holds))

all_flows : (qs : List Proc) (graphs : List Graph) → AllZip IsFlow qs graphs → AllZip IsFlowOf qs graphs
all_flows [] [] are = are
all_flows [] (g ∷ graphs) are = are
all_flows (q ∷ qs) [] are = are
all_flows (q ∷ qs) (g ∷ graphs) are = (are.0.flow, all_flows qs graphs are.1)

all_have_tokens : (p : Program) (qs : List Proc) (graphs : List Graph) → All (IsProcInRange p) qs → AllZip IsFlow qs graphs → AllZip HasTokens qs graphs
all_have_tokens p [] [] range are = are
all_have_tokens p [] (g ∷ graphs) range are = are
all_have_tokens p (q ∷ qs) [] range are = are
all_have_tokens p (q ∷ qs) (g ∷ graphs) range are =
    (are.0.tokens (range_covers p q (All-head (IsProcInRange p) q qs range)), all_have_tokens p qs graphs (All-tail (IsProcInRange p) q qs range) are.1)

pub answers_are_flows : AnswersAreFlows
answers_are_flows s graphs range are = record {
  counted = range_is_counted s.program range;
  flows = all_flows s.program.procs graphs are;
  tokens = all_have_tokens s.program s.program.procs graphs range.procedures are;
}

pub flows_given : (p : Program) (graphs : List Graph) → AllZip IsFlow p.procs graphs → (s : Setting) → s.program ≡ p → IsInRange p → AreFlows s graphs
flows_given p graphs are s same range =
    answers_are_flows s graphs (subst IsInRange (sym same) range) (subst (λ (p : Program). AllZip IsFlow p.procs graphs) (sym same) are)
