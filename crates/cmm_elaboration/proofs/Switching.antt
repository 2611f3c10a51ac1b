-- The arms of a switch that breaks no rule: no range falls or leaves the width of the value, no two meet, and there is one default at most.
use Rattle.std.proofs.Common.{◌≡◌, ℕ, ◌+◌, ◌^◌, ◌≤◌, refl, sym, ap, ◌∙◌, subst, Bool, true, false, cond, List, [], ◌∷◌, ◌++◌, Option, Some, None, Ok, Err, arith, IsTrue}
use Rattle.std.specs.Prelude.{map, flat_map, option_map, not, nat_le, nat_lt, ◌&&◌, ◌||◌}
use Rattle.std.specs.List.{list_all}
use Rattle.std.proofs.lemmas.Bool.{and_parts, le-leb, and_from}
use Rattle.std.proofs.lemmas.List.Folds.{list_all-append}
use denote.Hole.Carrier as Carrier
use Rattle.cmm_words.specs.declared.width.Width.{Width}
use Rattle.cmm_words.specs.Widths.{bits}
use Rattle.cmm_ast.specs.declared.procedure.Proc.{Proc as ProcTree}
use Rattle.cmm_ast.specs.declared.expression.Expr.{Expr}
use Rattle.cmm_ast.specs.declared.statement.Case.{Case as CaseTree}
use Rattle.cmm_ast.specs.declared.statement.Case.TheVariants.{Ranges, Default}
use Rattle.cmm_ast.specs.declared.statement.Callee.{Callee}
use Rattle.cmm_ast.specs.declared.statement.Exit.{Exit}
use Rattle.cmm_ast.specs.declared.statement.Kinded.{Kinded}
use Rattle.cmm_ast.specs.declared.statement.Part.{Part}
use Rattle.cmm_ast.specs.declared.statement.Part.TheVariants as parts
use Rattle.cmm_ast.specs.declared.statement.Range.{Range as RangeTree}
use Rattle.cmm_ast.specs.declared.statement.Span.{Span}
use Rattle.cmm_ast.specs.declared.statement.StmtForm.{Row_of-Arm, end_of-Arm, more_of-Arm}
use Rattle.cmm_ast.specs.declared.statement.StmtForm.TheVariants as stmts
use Rattle.cmm_ast.specs.declared.unit.Item.TheVariants as items
use Rattle.cmm_ast.specs.declared.unit.Unit.{Unit as UnitTree}
use Rattle.cmm_program.specs.declared.expression.Expression.{Expression}
use Rattle.cmm_program.specs.declared.procedure.Proc.{Proc}
use Rattle.cmm_program.specs.declared.program.Program.{Program}
use Rattle.cmm_program.specs.declared.statement.Arm.{Arm, Arm', roll-Arm}
use Rattle.cmm_program.specs.declared.statement.Case.{Case}
use Rattle.cmm_program.specs.declared.statement.Case.TheVariants as cases
use Rattle.cmm_program.specs.declared.statement.Form.{Form, Row_of-Arm as Row_of-Branch, end_of-Arm as end_of-Branch, more_of-Arm as more_of-Branch, items-the_row-Arm, items_hidden-the_row-Arm-1}
use Rattle.cmm_program.specs.declared.statement.Form.TheVariants as forms
use Rattle.cmm_program.specs.declared.statement.Form.TheBlock as Forms
use Rattle.cmm_program.specs.declared.statement.Range.{Range}
use Rattle.cmm_program.specs.declared.statement.Statement.{Statement}
use Rattle.cmm_program.specs.Bodies.{Branch, statements, branches, body_statements}
use Rattle.cmm_program.specs.InRange.{is_range, do_not_meet, none_meet, all_ranges, defaults}
use Rattle.cmm_program.specs.Typing.{typed as width_of}
use Rattle.cmm_rules.specs.declared.rule.Rule.TheVariants.{ArmsOverlap}
use Rattle.cmm_static_semantics.specs.declared.sense.Host.{Host}
use Rattle.cmm_static_semantics.specs.declared.sense.Host.TheVariants.{Yield, PutByte, GetByte}
use Rattle.cmm_static_semantics.specs.Spots.{unless}
use Rattle.cmm_static_semantics.specs.Senses.{Senses}
use Rattle.cmm_static_semantics.specs.Algebras.{knowns}
use Rattle.cmm_static_semantics.specs.Items.{SpanTree, parts_of}
use Rattle.cmm_static_semantics.specs.Judging.{Judged, spots, if_ok}
use Rattle.cmm_static_semantics.specs.Mentions.{values_alone, expr_names}
use Rattle.cmm_static_semantics.specs.Constants.{as_number, number_alone, wanted_alone}
use Rattle.cmm_static_semantics.specs.Calls.{foreign_callee}
use Rattle.cmm_static_semantics.specs.Expressions.{inner_spots, bits_spots, number_alone_spots}
use Rattle.cmm_static_semantics.specs.Switches.{Extent, extent, Head, heads, range_extent, last_spots, lies_in, meets_none, extent_spots, range_spots, ranges_spots, with_extents, arms_spots, whole_extent, whole_spots, switch_spots}
use Rattle.cmm_static_semantics.specs.Declarations.{NamedUnit, named_units}
use Rattle.cmm_static_semantics.specs.Linking.{program_of}
use Rattle.cmm_static_semantics.specs.Limits.{sites_of, proc_limits}
use Rattle.cmm_static_semantics.specs.Scopes.{Scope, senses, unit_senses}
use Rattle.cmm_static_semantics.specs.Faults.{AreAccepted, item_procedure_spots}
use Rattle.cmm_static_semantics.specs.Statements.{part_spots, scope_of, proc_spots}
use Rattle.cmm_elaboration.specs.Fitting.{NamesFit}
use Rattle.cmm_elaboration.specs.Resolving.{value_of, values_of, callee_of}
use Rattle.cmm_elaboration.specs.Sites.{is_yield}
use Rattle.cmm_elaboration.specs.Bodies.{sites_in_row, value_width, range_of, case_of, row_of, arms_of, part_of, host_form, return_form}
use Rattle.cmm_elaboration.specs.Procedures.{procedure_of}
use Rattle.cmm_elaboration.specs.Meaning.{meaning_of}
use Rattle.cmm_elaboration.specs.Laws.{are_apart, ranges_apart, RangesAreApart}
use Rattle.cmm_elaboration.proofs.Nothing.{no_left, no_right, no_unless}
use Rattle.cmm_elaboration.proofs.Everywhere.{Place, all_accepted}
use Rattle.cmm_elaboration.proofs.Flat.{flat_from, procedure_is}
use Rattle.cmm_elaboration.proofs.Judged.{Holds}
use Rattle.cmm_elaboration.proofs.Knowing.{known_from, number_alone_is}
use Rattle.cmm_elaboration.proofs.Scoping.{scopes_fit}
use Rattle.cmm_elaboration.proofs.UnitNames.{names_of, declared_there}
use Rattle.cmm_elaboration.proofs.Wide.{IsWide, unit_wide, scope_wide}
use Rattle.cmm_elaboration.proofs.Whole.{IsUnbroken, whole_with, BitsWhole, wanted_alone_whole}
use Rattle.cmm_elaboration.proofs.Settled.{as_number_whole, whole_ok, unit_unbroken}
use Rattle.cmm_elaboration.proofs.WholeUnits.{scope_unbroken}
use Rattle.cmm_elaboration.proofs.Datums.{all_unbroken}
use Rattle.cmm_elaboration.proofs.Values.{bits_are_there}

-- ---- the arms of a resolved switch as a list

abbrev pub branch_of : Arm → Branch
branch_of (Arm' case_ _ body) = record { case = case_; body = statements body }

branches_all : (n : _) (row : Row_of-Branch n) → branches row ≡ map branch_of (items-the_row-Arm n row)
branches_all n end_of-Branch = refl
branches_all n (more_of-Branch {n = m} (Arm' case_ _ body) rest) = ap (λ t. record { case = case_; body = statements body } ∷ t) (branches_all m rest)

pub hidden_branches : (as_ : List Arm) → branches (Forms.hidden-the_row-Arm-1 as_) ≡ map branch_of as_
hidden_branches as_ = branches_all _ (Forms.hidden-the_row-Arm-1 as_) ∙ ap (map branch_of) (items_hidden-the_row-Arm-1 as_)

switch_is : (p : Program) (q : Proc) (v : Expression) (as_ : List Arm) → ranges_apart p q (forms.Switch v as_) ≡ are_apart (width_of p q v) (map branch_of as_)
unfolding Carrier.hidden
switch_is p q v as_ = rw (sym (hidden_branches as_)) refl

pub rolled_case : (c : Case) (b : List Statement) → (branch_of (roll-Arm record { case = c; body = b })).case ≡ c
unfolding Carrier.hidden Carrier.roll roll-Arm
rolled_case c b = refl

-- ---- ranges that meet none before them, and none behind them

abbrev clear_of : Extent → Range → Bool
clear_of e r = nat_lt r.to e.low || nat_lt e.high r.from

or_turned : (a b : Bool) → (a || b) ≡ true → (b || a) ≡ true
or_turned true true h = refl
or_turned true false h = refl
or_turned false b h = cc

module _ (s : Scope) (width : Option Width) where
  abbrev names : Senses
  names = senses s

  abbrev extent_of : Range → Extent
  extent_of r = record { low = r.from; high = r.to }

  -- of ranges, each meets none of some extents, and no two meet
  abbrev Clear : List (Option Extent) → List Range → Type 0
  Clear earlier rs = (list_all (λ r. meets_none names width earlier (extent_of r)) rs ≡ true) × (none_meet rs ≡ true)

  from_first : (x : Extent) (earlier : List (Option Extent)) (rs : List Range) → list_all (λ r. meets_none names width (Some x ∷ earlier) (extent_of r)) rs ≡ true →
      (list_all (do_not_meet record { from = x.low; to = x.high }) rs ≡ true) × (list_all (λ r. meets_none names width earlier (extent_of r)) rs ≡ true)
  from_first x earlier [] h = (refl, refl)
  from_first x earlier (r ∷ rs) h =
      let both = and_parts (clear_of x r && meets_none names width earlier (extent_of r)) _ h in
      let here = and_parts (clear_of x r) (meets_none names width earlier (extent_of r)) both.0 in
      let rest = from_first x earlier rs both.1 in
      (and_from _ _ (or_turned (nat_lt r.to x.low) (nat_lt x.high r.from) here.0) rest.0, and_from _ _ here.1 rest.1)

  clear_next : (x : Extent) (earlier : List (Option Extent)) (rs : List Range) → meets_none names width earlier x ≡ true → Clear (Some x ∷ earlier) rs →
      Clear earlier (record { from = x.low; to = x.high } ∷ rs)
  clear_next x earlier rs own h = let rest = from_first x earlier rs h.0 in (and_from _ _ own rest.1, and_from _ _ rest.0 h.1)

-- ---- the ranges of the source

module _ (p : Program) (q : Proc) (s : Scope) (fit : NamesFit p q (senses s)) (wide : (name : List ℕ) → IsWide (senses s name)) (unbroken : (name : List ℕ) → IsUnbroken (senses s name)) (w : Width) where
  number_by : (j : Judged ℕ) (a : ℕ) → j ≡ Ok a → Holds (λ n. nat_lt n (2 ^ bits w) ≡ true) j → nat_lt a (2 ^ bits w) ≡ true
  number_by (Ok b) a is h = let one : b ≡ a = let e : Ok b ≡ Ok a = is in cc in subst (λ n. nat_lt n (2 ^ bits w) ≡ true) one h
  number_by (Err x) a is h = let bad : Err x ≡ Ok a = is in cc

  record IsThere (e : Expr) : Type 0 where
    pub number : ℕ
    pub is : number_alone (senses s) (Some w) e ≡ Ok number
    pub fits : nat_lt number (2 ^ bits w) ≡ true

  number_there : (e : Expr) → number_alone_spots (senses s) (Some w) e ≡ [] → IsThere e
  number_there e free =
      let n = whole_ok (λ n. Unit {0}) (number_alone (senses s) (Some w) e)
      (whole_with (BitsWhole knowns) (λ n. Unit {0}) (wanted_alone knowns (senses s) (Some w) e) (as_number e.token)
      (wanted_alone_whole knowns (senses s) wide (Some w) e (all_unbroken (senses s) wide unbroken (expr_names values_alone e))) (λ b present. as_number_whole e.token b.width b.value present))
      (no_left (spots (number_alone (senses s) (Some w) e)) (inner_spots (senses s) e) free) in
      record { number = n.0; is = n.1; fits = number_by (number_alone (senses s) (Some w) e) n.0 n.1 (number_alone_is p (senses s) (λ name. known_from p q (senses s name) (fit name)) w e) }

  record IsExtent (r : RangeTree) : Type 0 where
    pub low : ℕ
    pub high : ℕ
    pub is : range_extent (senses s) (Some w) r ≡ Some record { low = low; high = high }
    pub fits : nat_lt high (2 ^ bits w) ≡ true

  extent_by : (from : Expr) (to : Option Expr) → number_alone_spots (senses s) (Some w) from ≡ [] → ((e : Expr) → to ≡ Some e → number_alone_spots (senses s) (Some w) e ≡ []) →
      IsExtent record { from = from; to = to }
  extent_by from (Some last) free later = let a = number_there from free in let b = number_there last (later last refl) in
      record {
        low = a.number;
        high = b.number;
        fits = b.fits;
        is = ap (λ j. extent (if_ok j) (if_ok (number_alone (senses s) (Some w) last))) a.is ∙ ap (λ j. extent (Some a.number) (if_ok j)) b.is;
      }
  extent_by from None free later = let a = number_there from free in
      record { low = a.number; high = a.number; fits = a.fits; is = ap (λ j. extent (if_ok j) (if_ok j)) a.is }

  last_free : (o : Option Expr) (e : Expr) → o ≡ Some e → last_spots (senses s) (Some w) o ≡ [] → number_alone_spots (senses s) (Some w) e ≡ []
  last_free (Some x) e is free = let one : x ≡ e = let f : Some x ≡ Some e = is in cc in subst (λ y. number_alone_spots (senses s) (Some w) y ≡ []) one free
  last_free None e is free = let bad : None ≡ Some e = is in cc

  record IsRight (all : Option Extent) (earlier : List (Option Extent)) (r : RangeTree) : Type 0 where
    pub extent : Extent
    pub is : range_extent (senses s) (Some w) r ≡ Some extent
    pub range : range_of s (Some w) r ≡ record { from = extent.low; to = extent.high }
    pub rises : is_range w record { from = extent.low; to = extent.high } ≡ true
    pub clear : meets_none (senses s) (Some w) earlier extent ≡ true

  range_right : (all : Option Extent) (earlier : List (Option Extent)) (r : RangeTree) → range_spots (senses s) (Some w) all earlier r ≡ [] → IsRight all earlier r
  range_right all earlier r free =
      let before = no_left _ (extent_spots (senses s) (Some w) all earlier r.from.token (range_extent (senses s) (Some w) r)) free in
      let x = extent_by r.from r.to (no_left (number_alone_spots (senses s) (Some w) r.from) (last_spots (senses s) (Some w) r.to) before)
      (λ e is. last_free r.to e is (no_right (number_alone_spots (senses s) (Some w) r.from) (last_spots (senses s) (Some w) r.to) before)) in
      let e : Extent = record { low = x.low; high = x.high } in
      let own : extent_spots (senses s) (Some w) all earlier r.from.token (Some e) ≡ [] =
      subst (λ o. extent_spots (senses s) (Some w) all earlier r.from.token o ≡ []) x.is (no_right _ (extent_spots (senses s) (Some w) all earlier r.from.token (range_extent (senses s) (Some w) r)) free) in
      let test = no_unless (nat_le x.low x.high && lies_in (senses s) (Some w) all e && meets_none (senses s) (Some w) earlier e) ArmsOverlap r.from.token own in
      let first = and_parts (nat_le x.low x.high && lies_in (senses s) (Some w) all e) (meets_none (senses s) (Some w) earlier e) test in
      record {
        extent = e;
        is = x.is;
        range = ap (λ o. elim o as (λ y. Range) [ Some y ↦ record { from = y.low; to = y.high } | None ↦ record { from = 0; to = 0 } ]) x.is;
        rises = and_from (nat_le x.low x.high) _ (and_parts (nat_le x.low x.high) (lies_in (senses s) (Some w) all e) first.0).0 x.fits;
        clear = first.1;
      }

  -- some ranges, and more behind them
  abbrev Right : List (Option Extent) → List Range → Type 0
  Right earlier rs = Clear s (Some w) earlier rs × (list_all (is_range w) rs ≡ true)

  ranges_right : (all : Option Extent) (earlier : List (Option Extent)) (rs : List RangeTree) (more : List Range) → ranges_spots (senses s) (Some w) all earlier rs ≡ [] →
      Right (with_extents (senses s) (Some w) rs earlier) more → Right earlier (map (range_of s (Some w)) rs ++ more)
  ranges_right all earlier [] more free h = h
  ranges_right all earlier (r ∷ rs) more free h =
      let own = range_right all earlier r (no_left (range_spots (senses s) (Some w) all earlier r) _ free) in
      let rest : Right (range_extent (senses s) (Some w) r ∷ earlier) (map (range_of s (Some w)) rs ++ more) =
      ranges_right all (range_extent (senses s) (Some w) r ∷ earlier) rs more (no_right (range_spots (senses s) (Some w) all earlier r) _ free) h in
      let next : Right (Some own.extent ∷ earlier) (map (range_of s (Some w)) rs ++ more) = subst (λ o. Right (o ∷ earlier) (map (range_of s (Some w)) rs ++ more)) own.is rest in
      subst (λ x. Right earlier (x ∷ (map (range_of s (Some w)) rs ++ more))) (sym own.range)
      (clear_next s (Some w) own.extent earlier (map (range_of s (Some w)) rs ++ more) own.clear next.0, and_from _ _ own.rises next.1)

  -- ---- the arms

  abbrev branches_of : {k : _} → ℕ → Row_of-Arm k → List Branch
  branches_of n row = map branch_of (arms_of s n (Some w) row)

  record AreRight (earlier : List (Option Extent)) (defaulted : Bool) (bs : List Branch) : Type 0 where
    pub ranges : Right earlier (all_ranges bs)
    pub one : cond defaulted 1 0 + defaults bs ≤ 1

  with_ranges : (all : Option Extent) (earlier : List (Option Extent)) (defaulted : Bool) (rs : List RangeTree) (b : Branch) (bs : List Branch) → b.case ≡ cases.In (map (range_of s (Some w)) rs) →
      ranges_spots (senses s) (Some w) all earlier rs ≡ [] → AreRight (with_extents (senses s) (Some w) rs earlier) defaulted bs → AreRight earlier defaulted (b ∷ bs)
  with_ranges all earlier defaulted rs b bs is free later = record {
    ranges = subst (λ c. Right earlier (elim c as (λ x. List Range) [ cases.In ranges ↦ ranges ++ all_ranges bs | cases.Default ↦ all_ranges bs ])) (sym is)
        (ranges_right all earlier rs (all_ranges bs) free later.ranges);
    one = subst (λ c. cond defaulted 1 0 + elim c as (λ x. ℕ) [ cases.In ranges ↦ defaults bs | cases.Default ↦ 1 + defaults bs ] ≤ 1) (sym is) later.one;
  }

  first_default : (defaulted : Bool) (n : ℕ) → not defaulted ≡ true → cond true 1 0 + n ≤ 1 → cond defaulted 1 0 + (1 + n) ≤ 1
  first_default true n is few = let bad : false ≡ true = is in cc
  first_default false n is few = let h : 1 + n ≤ 1 = few in omega arith

  with_default : (earlier : List (Option Extent)) (defaulted : Bool) (b : Branch) (bs : List Branch) → b.case ≡ cases.Default → not defaulted ≡ true → AreRight earlier true bs → AreRight earlier defaulted (b ∷ bs)
  with_default earlier defaulted b bs is first later = record {
    ranges = subst (λ c. Right earlier (elim c as (λ x. List Range) [ cases.In ranges ↦ ranges ++ all_ranges bs | cases.Default ↦ all_ranges bs ])) (sym is) later.ranges;
    one = subst (λ c. cond defaulted 1 0 + elim c as (λ x. ℕ) [ cases.In ranges ↦ defaults bs | cases.Default ↦ 1 + defaults bs ] ≤ 1) (sym is) (first_default defaulted (defaults bs) first later.one);
  }

  one_arm : (all : Option Extent) (earlier : List (Option Extent)) (defaulted : Bool) (token : ℕ) (what : CaseTree) (as_ : List Head) (body : List Statement) (bs : List Branch) →
      arms_spots (senses s) (Some w) all earlier defaulted (record { token = token; case_ = what } ∷ as_) ≡ [] →
      ((before : List (Option Extent)) (d : Bool) → arms_spots (senses s) (Some w) all before d as_ ≡ [] → AreRight before d bs) →
      AreRight earlier defaulted (branch_of (roll-Arm record { case = case_of s (Some w) what; body = body }) ∷ bs)
  one_arm all earlier defaulted token (Ranges rs) as_ body bs free later =
      with_ranges all earlier defaulted rs (branch_of (roll-Arm record { case = case_of s (Some w) (Ranges rs); body = body })) bs (rolled_case (case_of s (Some w) (Ranges rs)) body)
      (no_left (ranges_spots (senses s) (Some w) all earlier rs) _ free)
      (later (with_extents (senses s) (Some w) rs earlier) defaulted (no_right (ranges_spots (senses s) (Some w) all earlier rs) _ free))
  one_arm all earlier defaulted token Default as_ body bs free later =
      with_default earlier defaulted (branch_of (roll-Arm record { case = case_of s (Some w) Default; body = body })) bs (rolled_case (case_of s (Some w) Default) body)
      (no_unless (not defaulted) ArmsOverlap token (no_left (unless (not defaulted) ArmsOverlap token) _ free))
      (later earlier true (no_right (unless (not defaulted) ArmsOverlap token) _ free))

  no_arm : (earlier : List (Option Extent)) (defaulted : Bool) → AreRight earlier defaulted []
  no_arm earlier true = record { ranges = ((refl, refl), refl); one = omega arith }
  no_arm earlier false = record { ranges = ((refl, refl), refl); one = omega arith }

  arms_right : (n : ℕ) (all : Option Extent) (earlier : List (Option Extent)) (defaulted : Bool) (k : _) (row : Row_of-Arm k) →
      arms_spots (senses s) (Some w) all earlier defaulted (heads row) ≡ [] → AreRight earlier defaulted (branches_of n row)
  arms_right n all earlier defaulted k end_of-Arm free = no_arm earlier defaulted
  arms_right n all earlier defaulted k (more_of-Arm {n = m} first what _ body rest) free =
      one_arm all earlier defaulted first what (heads rest) (row_of s n body) (branches_of (n + sites_in_row body) rest) free
      (λ before d none. arms_right (n + sites_in_row body) all before d m rest none)

  arms_are : (n : ℕ) (over : Option Span) (k : _) (row : Row_of-Arm k) → switch_spots (senses s) (Some w) over (heads row) ≡ [] → are_apart (Some w) (branches_of n row) ≡ true
  arms_are n over k row free =
      let right = arms_right n (whole_extent (senses s) (Some w) over) [] false k row (no_right (whole_spots (senses s) (Some w) over) _ free) in
      and_from _ _ (and_from _ _ right.ranges.1 right.ranges.0.1) (le-leb (defaults (branches_of n row)) 1 (let h : cond false 1 0 + defaults (branches_of n row) ≤ 1 = right.one in omega arith))

-- ---- statements

module _ (p : Program) (q : Proc) (s : Scope) (fit : NamesFit p q (senses s)) (wide : (name : List ℕ) → IsWide (senses s name)) (unbroken : (name : List ℕ) → IsUnbroken (senses s name)) where
  switch_apart : (n : ℕ) (over : Option Span) (value : Expr) (k : _) (arms : Row_of-Arm k) → bits_spots (senses s) None value ≡ [] → switch_spots (senses s) (value_width s value) over (heads arms) ≡ [] →
      ranges_apart p q (forms.Switch (value_of (senses s) value) (arms_of s n (value_width s value) arms)) ≡ true
  switch_apart n over value k arms free apart =
      let b = bits_are_there p q (senses s) fit wide unbroken None value free in let w = b.known.width in
      let wide_as : value_width s value ≡ Some w = ap (λ j. option_map (λ x. x.width) (if_ok j)) b.judged in
      switch_is p q (value_of (senses s) value) (arms_of s n (value_width s value) arms)
      ∙ ap (λ o. are_apart o (map branch_of (arms_of s n (value_width s value) arms))) (ap (width_of p q) b.value.is ∙ b.value.fits)
      ∙ ap (λ o. are_apart (Some w) (map branch_of (arms_of s n o arms))) wide_as
      ∙ arms_are p q s fit wide unbroken w n over k arms (subst (λ o. switch_spots (senses s) o over (heads arms) ≡ []) wide_as apart)

  call_apart : (n : ℕ) (c : Callee) (values : List Expression) (b : Bool) → ranges_apart p q (elim b as (λ x. Form) [ true ↦ forms.Yield n values | false ↦ forms.Call n (callee_of (senses s) c) values ]) ≡ true
  call_apart n c values true = refl
  call_apart n c values false = refl

  host_apart : (h : Option Host) (results : List Kinded) (values : List Expression) → ranges_apart p q (host_form s h results values) ≡ true
  host_apart (Some PutByte) results [] = refl
  host_apart (Some PutByte) results (v ∷ vs) = refl
  host_apart (Some GetByte) [] values = refl
  host_apart (Some GetByte) (k ∷ ks) values = refl
  host_apart (Some Yield) results values = refl
  host_apart None results values = refl

  return_apart : (exit : Option Exit) (values : List Expression) → ranges_apart p q (return_form s exit values) ≡ true
  return_apart None values = refl
  return_apart (Some x) values = refl

  part_apart : (n : ℕ) (x : Part) → part_spots s x ≡ [] → list_all (λ st. ranges_apart p q st.form) (part_of s n x) ≡ true
  part_apart n (parts.Local l) free = refl
  part_apart n (parts.Stmt' first past (stmts.Switch' over value _ arms)) free =
      and_from _ true (switch_apart n over value _ arms (no_left (bits_spots (senses s) None value) _ free) (no_right (bits_spots (senses s) None value) _ free)) refl
  part_apart n (parts.Stmt' first past (stmts.Call results None callee actuals flows)) free = and_from _ true (call_apart n callee (values_of (senses s) actuals) (is_yield s callee)) refl
  part_apart n (parts.Stmt' first past (stmts.Call results (Some convention) callee actuals flows)) free =
      and_from _ true (host_apart (foreign_callee s callee) results (values_of (senses s) actuals)) refl
  part_apart n (parts.Stmt' first past (stmts.Return exit None)) free = and_from _ true (return_apart exit []) refl
  part_apart n (parts.Stmt' first past (stmts.Return exit (Some values))) free = and_from _ true (return_apart exit (values_of (senses s) values)) refl
  part_apart n (parts.Stmt' first past (stmts.If' c _ body otherwise)) free = refl
  part_apart n (parts.Stmt' first past (stmts.Span' key value _ body)) free = refl
  part_apart n (parts.Stmt' first past (stmts.Assign to values)) free = refl
  part_apart n (parts.Stmt' first past (stmts.Checked result operator left right flows)) free = refl
  part_apart n (parts.Stmt' first past (stmts.Jump callee actuals)) free = refl
  part_apart n (parts.Stmt' first past (stmts.Label name)) free = refl
  part_apart n (parts.Stmt' first past (stmts.Continuation name parameters)) free = refl
  part_apart n (parts.Stmt' first past (stmts.Goto name)) free = refl
  part_apart n (parts.Stmt' first past (stmts.Cut callee actuals flows)) free = refl
  part_apart n (parts.Stmt' first past stmts.Empty) free = refl

  flat_apart : (n : ℕ) (ps : List Part) → flat_map (part_spots s) ps ≡ [] → list_all (λ st. ranges_apart p q st.form) (flat_from s n ps) ≡ true
  flat_apart n [] free = refl
  flat_apart n (x ∷ ps) free =
      list_all-append (λ st. ranges_apart p q st.form) (part_of s n x) (flat_from s (n + sites_of x) ps)
      ∙ and_from (list_all (λ st. ranges_apart p q st.form) (part_of s n x)) _ (part_apart n x (no_left (part_spots s x) (flat_map (part_spots s) ps) free))
      (flat_apart (n + sites_of x) ps (no_right (part_spots s x) (flat_map (part_spots s) ps) free))

-- the statements of the procedure that a tree of accepted units means
pub statement_apart : (us : List UnitTree) (accepted : AreAccepted us) (earlier : List NamedUnit) (u : NamedUnit) (number : ℕ) (place : Place (named_units us) earlier u number) (around : List SpanTree) (tree : ProcTree) →
    item_procedure_spots (unit_senses (program_of (named_units us)) u.entries) (items.Proc tree) ≡ [] → let q = procedure_of (unit_senses (program_of (named_units us)) u.entries) number around tree in
    list_all (λ st. ranges_apart (meaning_of us) q st.form) (body_statements q) ≡ true
statement_apart us accepted earlier u number place around tree none =
    let program = program_of (named_units us) in let outer = unit_senses program u.entries in
    let p = meaning_of us in let q = procedure_of outer number around tree in let s = scope_of outer tree in
    let rules = no_left (proc_spots outer tree) (proc_limits outer tree) none in
    let declared = declared_there us accepted earlier place.later u place.units in
    let fit : NamesFit p q (senses s) = scopes_fit p outer number around tree (names_of us accepted earlier place.later u place.units q) in
    ap (list_all (λ st. ranges_apart p q st.form)) (procedure_is outer number around tree)
    ∙ flat_apart p q s fit (scope_wide outer (unit_wide program u.entries declared) tree rules) (scope_unbroken outer (unit_unbroken program u.entries declared) tree) 0 (parts_of tree.body)
    (no_right _ (flat_map (part_spots s) (parts_of tree.body)) rules)

pub ranges_are_apart : RangesAreApart
ranges_are_apart us accepted = all_accepted (λ q. IsTrue (list_all (λ st. ranges_apart (meaning_of us) q st.form) (body_statements q))) us accepted (statement_apart us accepted)
