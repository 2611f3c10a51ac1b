-- A site of a procedure in range is of few values, in its row as in the program.
use Rattle.std.proofs.Common.{◌≡◌, ℕ, suc, ◌+◌, ◌≤◌, ◌==◌, not, nat_le, Bool, true, false, Option, Some, None, List, [], ◌∷◌, ◌++◌, flat_map, length, slice_get, refl, ap, ◌∙◌, subst, arith}
use Rattle.std.proofs.lemmas.Bool.{and_parts, eqb-true, leb-true, le-leb}
use Rattle.std.proofs.lemmas.Bool.Decides.{nat_tests}
use Rattle.std.proofs.lemmas.Option.{slice_get_within}
use Rattle.std.specs.List.{list_all}
use Rattle.std.specs.Option.{is_some}
use Rattle.cmm_program.specs.declared.procedure.Proc.{Proc}
use Rattle.cmm_program.specs.declared.procedure.Site.{Site}
use Rattle.cmm_program.specs.declared.program.Program.{Program}
use Rattle.cmm_program.specs.declared.statement.Form.{Form}
use Rattle.cmm_program.specs.declared.statement.Form.TheVariants.{Call, Yield, Checked}
use Rattle.cmm_program.specs.declared.statement.Statement.{Statement}
use Rattle.cmm_program.specs.Bodies.{body_statements}
use Rattle.cmm_program.specs.InRange.{IsProcInRange, are_spans, at_most_64, at_site, below, is_call_site, is_checked_site, is_form, is_site, is_statement, is_yield_site}
use Rattle.cmm_program.specs.Numbering.{site_number}
use Rattle.cmm_program.specs.Tokens.{own_tokens}
use Rattle.cmm_program.specs.Typing.{is_target}
use Rattle.cmm_program.proofs.Shared.{list_all_get}
use Rattle.cmm_format.specs.Formats.{HoldsOptional}
use Rattle.cmm_image.specs.ImageFormat.{formed}
use Rattle.cmm_link.proofs.SiteTokens.{times}
use Rattle.cmm_link.proofs.Tokens.{site_stands}

-- ---- the statement of a site

times_both : (n : ℕ) (ms ns : List ℕ) → times n (ms ++ ns) ≡ times n ms + times n ns
times_both n [] ns = omega arith
times_both n (m ∷ ms) ns = grind (arith, nat_tests, times_both n ms ns)

abbrev sited : List Statement → List ℕ
sited ss = flat_map (λ (s : Statement). site_number s.form) ss

record HasStatement (ss : List Statement) (n : ℕ) : Type 0 where
  pub at : ℕ
  pub statement : Statement
  pub is_there : slice_get ss at ≡ Some statement
  pub stands : 1 ≤ times n (site_number statement.form)

stands_in : (ss : List Statement) (n : ℕ) → 1 ≤ times n (sited ss) → HasStatement ss n
stands_in [] n some = absurd (omega (arith, some))
stands_in (s ∷ ss) n some = by (nat_le 1 (times n (site_number s.form))) refl (λ rest. stands_in ss n rest)
  where
    by : (b : Bool) → nat_le 1 (times n (site_number s.form)) ≡ b → (1 ≤ times n (sited ss) → HasStatement ss n) → HasStatement (s ∷ ss) n
    by true is rest = record { at = 0; statement = s; is_there = refl; stands = leb-true 1 (times n (site_number s.form)) is }
    by false is rest =
        let there = rest (let none : times n (site_number s.form) ≡ 0 = grind (arith, nat_tests, is) in omega (arith, none, some, times_both n (site_number s.form) (sited ss))) in
        record { at = suc there.at; statement = there.statement; is_there = there.is_there; stands = there.stands }

-- ---- how many values it yields

abbrev FewYields : Option ℕ → Type 0
FewYields None = Unit {0}
FewYields (Some n) = n ≤ 64

call_few : (o : Option ℕ) → not (is_some o) ≡ true → FewYields o
call_few None is = tt
call_few (Some n) is = absurd (cc (is))

yield_few : (o : Option ℕ) (count : ℕ) → elim o as (λ _. Bool) [ Some n ↦ n == count | None ↦ false ] ≡ true → count ≤ 64 → FewYields o
yield_few None count is few = absurd (cc (is))
yield_few (Some n) count is few = let same = eqb-true n count is in omega (arith, same, few)

one_there : (n m : ℕ) → 1 ≤ times n (m ∷ []) → m ≡ n
one_there n m some = grind (arith, nat_tests, some)

module _ (prog : Program) (q : Proc) (n : ℕ) (site : Site) (there : slice_get q.sites n ≡ Some site) where
  at_there : (m : ℕ) (test : Site → Bool) → 1 ≤ times n (m ∷ []) → at_site prog q m test ≡ true → test site ≡ true
  at_there m test some ok =
      let same : slice_get q.sites m ≡ Some site = ap (λ (k : ℕ). slice_get q.sites k) (one_there n m some) ∙ there in
      subst (λ (o : Option Site). elim o as (λ _. Bool) [ Some site ↦ test site | None ↦ false ] ≡ true) same ok

  form_few : (f : Form) → is_form prog q f ≡ true → 1 ≤ times n (site_number f) → FewYields site.yield_values
  form_few (Call m callee actuals) ok some =
      let calls = (and_parts (at_site prog q m (is_call_site prog q)) _ (and_parts _ _ ok).0).0 in
      call_few site.yield_values (at_there m (is_call_site prog q) some calls)
  form_few (Yield m values) ok some =
      let both = and_parts (at_site prog q m (is_yield_site prog q (length values))) _ ok in
      let few = leb-true (length values) 64 (and_parts (at_most_64 values) _ both.1).0 in
      yield_few site.yield_values (length values) (at_there m (is_yield_site prog q (length values)) some both.0) few
  form_few (Checked m op width left right) ok some =
      let checked = (and_parts (at_site prog q m (is_checked_site prog q width)) _ (and_parts _ _ (and_parts _ _ ok).0).0).0 in
      let one = (and_parts (is_yield_site prog q 1 site) _ (at_there m (is_checked_site prog q width) some checked)).0 in
      yield_few site.yield_values 1 one (omega arith)
  form_few f ok some = absurd (omega (arith, some))

  few_yields : IsProcInRange prog q → FewYields site.yield_values
  few_yields range =
      let standing = stands_in (body_statements q) n (site_stands prog q range n (slice_get_within q.sites n site there)) in
      let ok = list_all_get (is_statement prog q) (body_statements q) standing.at standing.statement range.body standing.is_there in
      form_few standing.statement.form (and_parts (is_form prog q standing.statement.form) (nat_le (own_tokens q standing.statement.form) standing.statement.tokens) ok).0 standing.stands

  pub yields_hold : IsProcInRange prog q → HoldsOptional 1 255 (formed (λ n. nat_le n 64) ∷ []) site.yield_values
  yields_hold range = by site.yield_values (few_yields range)
    where
      by : (o : Option ℕ) → FewYields o → HoldsOptional 1 255 (formed (λ n. nat_le n 64) ∷ []) o
      by None few = omega arith
      by (Some n) few = (omega (arith, few), grind (arith, nat_tests, few), (le-leb n 64 few, tt))

-- ---- what its lists are

pub record HasParts (q : Proc) (site : Site) : Type 0 where
  pub results : length site.results ≤ 64
  pub returns : length site.returns ≤ 64
  pub returns_below : list_all (below (length q.conts)) site.returns ≡ true
  pub unwinds_below : list_all (below (length q.conts)) site.unwinds ≡ true
  pub cuts_below : list_all (below (length q.conts)) site.cuts ≡ true

pub parts_of : (prog : Program) (q : Proc) (site : Site) → is_site prog q site ≡ true → HasParts q site × (are_spans prog q site.spans ≡ true)
parts_of prog q site is =
    let a = and_parts _ (are_spans prog q site.spans) is in
    let b = and_parts _ (list_all (below (length q.conts)) site.cuts) a.0 in
    let c = and_parts _ (list_all (below (length q.conts)) site.unwinds) b.0 in
    let d = and_parts _ (list_all (below (length q.conts)) site.returns) c.0 in
    let e = and_parts _ (at_most_64 site.returns) d.0 in
    let f = and_parts (at_most_64 site.results) (list_all (is_target prog q) site.results) e.0 in (
      record {
        results = leb-true (length site.results) 64 f.0;
        returns = leb-true (length site.returns) 64 e.1;
        returns_below = d.1;
        unwinds_below = c.1;
        cuts_below = b.1;
      },
      a.1,
    )
