-- What the reader of units says of all of some tokens.
use Rattle.std.proofs.Common.{◌≡◌, ℕ, zero, suc, ◌+◌, ◌<◌, ◌≤◌, ◌⊎◌, inl, inr, true, List, [], ◌∷◌, ◌++◌, length, take, drop, Option, Some, None, refl, sym, ap, ◌∙◌, subst, arith, append_assoc, take-take, take-append-drop}
use Rattle.cmm_lexer.specs.declared.piece.Lexeme.{Lexeme}
use Rattle.cmm_ast.specs.declared.unit.Unit.{Unit as UnitTree}
use Rattle.cmm_ast.specs.declared.unit.TopLevel.{TopLevel}
use Rattle.cmm_grammar.specs.Taking.{many as many_is}
use Rattle.cmm_grammar.specs.UnitGrammar as units
use Rattle.cmm_grammar.specs.Derivation.{at_start, Derives, Begins, IsUnexpected, IsTooDeep}
use Rattle.cmm_grammar.specs.Reading.{Point, Read, Reads, ◌>>=◌, give, next, choice, passes, many, Stopped, Unexpected, TooDeep}
use Rattle.cmm_grammar.specs.ReadingLaws.{within, point, TakesAll, Answers}
use Rattle.cmm_grammar.specs.inside.Duties.{Complete, Local}
use Rattle.cmm_grammar.specs.UnitReading.{any_token, top_level}
use Rattle.cmm_grammar.specs.StatementReading.{block}
use Rattle.cmm_grammar.specs.UnitLaws.{whole_unit, OneUnit, WhatIsRefusedIsUnexpected, EachThatIsTooDeepIsStopped, EachHasOneAnswer, EachUnitIsRead, WhatIsReadIsAUnit}
use Rattle.std.proofs.lemmas.Bool.{cases_lt}
use Rattle.cmm_grammar.proofs.Completes.{Anything}
use Rattle.cmm_grammar.proofs.Meets.{bound, read_same, is_sound, is_local}
use Rattle.cmm_grammar.proofs.CompleteUnits.{parts_complete}
use Rattle.cmm_grammar.proofs.CompleteBlocks.{blocks_complete}
use Rattle.cmm_grammar.proofs.Wholes.{AtEnd, one_tree, none_goes_on_with, none_takes_all, too_deep_stops, tree_is_read}
use Rattle.cmm_grammar.proofs.MeetsUnits.{parts_meets, begins_before, stops_inside}

-- a row that any token goes on ends at the end of the tokens
ended : {A : Type 0} (reads : Reads A) (turns : ℕ) (so_far as_ : List A) (p after : Point) → many turns any_token reads so_far true p ≡ Read as_ after →
    next after.left ≡ None
ended reads zero so_far as_ p after e = absurd cc
ended {A} reads (suc turns) so_far as_ p after e = by (next p.left) refl (ended reads turns) e where
  by : (x : Option Lexeme) → next p.left ≡ x →
      ((so_far as_ : List A) (p after : Point) → many turns any_token reads so_far true p ≡ Read as_ after → next after.left ≡ None) →
      choice (passes any_token x) (reads >>= λ a. many turns any_token reads (so_far ++ (a ∷ []))) (give so_far) true p ≡ Read as_ after →
      next after.left ≡ None
  by (Some x) is later e =
      let q = bound (reads true p) (λ a after. many turns any_token reads (so_far ++ (a ∷ [])) true after) as_ after e in
      later (so_far ++ (q.first ∷ [])) as_ q.between after q.then_read
  by None is later e = rw (read_same e).1 is

no_left : (left : List Lexeme) → next left ≡ None → left ≡ []
no_left [] e = refl
no_left (x ∷ xs) e = absurd cc

-- each part of a unit is read
complete : (fuel : ℕ) (ts : List TopLevel) → Complete fuel (many_is units.top_level ts) ts (whole_unit fuel) Anything AtEnd
complete = parts_complete block blocks_complete

local : (fuel : ℕ) → Local (whole_unit fuel)
local fuel = is_local (parts_meets fuel)

abbrev all_of : {tokens : List Lexeme} (u : UnitTree) → Derives tokens u → TakesAll (many_is units.top_level u.parts) tokens
all_of u derives = record { after = derives.after; taken = derives.takes; all = derives.all }

-- no tokens have two units
pub one_unit : OneUnit
one_unit tokens u v one other = one_tree whole_unit (many_is units.top_level) complete tokens u.parts v.parts (all_of u one) (all_of v other)

-- no unit begins with the tokens up to and including one that is refused
no_unit_goes_on : (tokens : List Lexeme) (token : ℕ) → Answers whole_unit tokens (Stopped Unexpected token) → token < length tokens →
    Begins (take (suc token) tokens) → ⊥
no_unit_goes_on tokens token stops less begins =
    none_goes_on_with whole_unit (many_is units.top_level) complete local tokens begins.1 token (begins.0).parts stops less (all_of begins.0 begins.2)

-- no unit derives all of the tokens where one is refused, or their end is
no_unit_derives : (tokens : List Lexeme) (token : ℕ) (u : UnitTree) → Answers whole_unit tokens (Stopped Unexpected token) → Derives tokens u → ⊥
no_unit_derives tokens token u stops is = none_takes_all whole_unit (many_is units.top_level) complete tokens token u.parts stops (all_of u is)

-- where a unit passes a limit first, the reader stops, with any number of turns above that of its tokens
stops_at : (tokens : List Lexeme) (token : ℕ) (is : IsTooDeep tokens token) (fuel : ℕ) → length (take (suc token) tokens ++ is.more) < fuel →
    whole_unit fuel true (point (at_start tokens)) ≡ Stopped TooDeep token
stops_at tokens token is fuel enough =
    too_deep_stops whole_unit (many_is units.top_level) complete local tokens is.more token is.tree.parts is.inside (all_of is.tree is.derives) is.over
    fuel enough

pub each_is_stopped : EachThatIsTooDeepIsStopped
each_is_stopped tokens token is answer answers =
    let fuel : ℕ = suc (length tokens + length (take (suc token) tokens ++ is.more)) in
    sym (answers fuel (omega arith)) ∙ stops_at tokens token is fuel (omega arith)

pub is_unexpected : WhatIsRefusedIsUnexpected
is_unexpected tokens token stops = record {
  inside = stops_inside tokens Unexpected token stops;
  begins = begins_before tokens token stops;
  refused = no_unit_goes_on tokens token stops;
  past = λ last u is. no_unit_derives tokens token u stops is;
  shallow = λ other is. absurd (let e = each_is_stopped tokens other is (Stopped Unexpected token) stops in cc);
}

-- a unit within the limits is read
pub unit_is_read : EachUnitIsRead
unit_is_read tokens u is = tree_is_read whole_unit (many_is units.top_level) complete tokens u.parts (all_of u is.derives) is.within

-- and what is read is one, of all of the tokens
pub read_is_unit : WhatIsReadIsAUnit
read_is_unit fuel tokens u after e = record {
  derives = record {
    after = within after;
    takes = (is_sound (parts_meets fuel)).sound (point (at_start tokens)) u.parts after e;
    all = no_left after.left (ended (top_level fuel block) fuel [] u.parts (point (at_start tokens)) after e);
  };
  within = refl;
}

-- ---- no tokens have two answers

-- what begins with more of the tokens begins with fewer
begins_earlier : (tokens : List Lexeme) (n m : ℕ) → n ≤ m → Begins (take m tokens) → Begins (take n tokens)
begins_earlier tokens n m le begins =
    (begins.0, drop n (take m tokens) ++ begins.1, subst (λ xs. Derives xs begins.0) (sym same) begins.2)
  where
    same : take n tokens ++ (drop n (take m tokens) ++ begins.1) ≡ take m tokens ++ begins.1
    same =
        sym (append_assoc (take n tokens) (drop n (take m tokens)) begins.1)
        ∙ ap (λ xs. xs ++ begins.1)
        (ap (λ ys. ys ++ drop n (take m tokens)) (sym (take-take n m tokens le)) ∙ take-append-drop n (take m tokens))

whole_begins : (tokens : List Lexeme) (n : ℕ) (u : UnitTree) → Derives tokens u → Begins (take n tokens)
whole_begins tokens n u is = (u, drop n tokens, subst (λ xs. Derives xs u) (sym (take-append-drop n tokens)) is)

-- a token that is refused is no later than another
no_later : (tokens : List Lexeme) (token other : ℕ) → IsUnexpected tokens token → IsUnexpected tokens other → other ≤ token
no_later tokens token other is is_other = by (cases_lt token other) where
  by : (token < other) ⊎ (other ≤ token) → other ≤ token
  by (inl less) =
      let inside = is_other.inside in
      absurd (is.refused (omega arith) (begins_earlier tokens (suc token) other less is_other.begins))
  by (inr le) = le

-- nor is one in a unit
not_in_unit : (tokens : List Lexeme) (u : UnitTree) (token : ℕ) → Derives tokens u → IsUnexpected tokens token → ⊥
not_in_unit tokens u token derives is = by (cases_lt token (length tokens)) where
  by : (token < length tokens) ⊎ (length tokens ≤ token) → ⊥
  by (inl less) = is.refused less (whole_begins tokens (suc token) u derives)
  by (inr le) = let inside = is.inside in is.past (omega arith) u derives

pub one_answer : EachHasOneAnswer
one_answer tokens = record {
  expected = λ u is token un. not_in_unit tokens u token is.derives un;
  shallow = λ u is token deep. absurd (let e = each_is_stopped tokens token deep (Read u.parts (point is.derives.after)) (unit_is_read tokens u is) in cc);
  one_unexpected = λ token other is is_other.
      let one = no_later tokens token other is is_other in
      let two = no_later tokens other token is_other is in
      omega arith;
  one_too_deep = λ token other is is_other.
      let fuel : ℕ = suc (length (take (suc token) tokens ++ is.more) + length (take (suc other) tokens ++ is_other.more)) in
      let same : Stopped TooDeep token ≡ Stopped TooDeep other = sym (stops_at tokens token is fuel (omega arith)) ∙ stops_at tokens other is_other fuel (omega arith) in
      cc;
  not_both = λ token other is deep. is.shallow other deep;
}
