-- What complete and local readers say of all of some tokens.
use Rattle.std.proofs.Common.{◌≡◌, ℕ, zero, suc, ◌+◌, ◌-◌, ◌<◌, ◌≤◌, true, false, List, [], ◌∷◌, ◌++◌, length, take, Option, Some, None, refl, sym, ap, ◌∙◌, subst, arith, le_refl}
use Rattle.cmm_lexer.specs.declared.piece.Lexeme.{Lexeme}
use Rattle.cmm_grammar.specs.Taking.{Reading, Takes}
use Rattle.cmm_grammar.specs.Derivation.{at_start}
use Rattle.cmm_grammar.specs.Reading.{Fault, Unexpected, TooDeep, Read, Stopped, Reads, next, Point}
use Rattle.cmm_grammar.specs.ReadingLaws.{point, TakesAll, Answers}
use Rattle.cmm_grammar.specs.inside.Duties.{outcome, Complete, Local, Same}
use Rattle.cmm_grammar.proofs.Completes.{outcome_read}
use Rattle.cmm_grammar.proofs.Meets.{read_same}

-- the tokens are at their end
abbrev pub AtEnd : Option Lexeme → Type 0
AtEnd x = x ≡ None

all_taken : (left : List Lexeme) → left ≡ [] → AtEnd (next left)
all_taken left e = rw e refl

same_front : (n : ℕ) (xs more : List Lexeme) → n ≤ length xs → take n xs ≡ take n (take n xs ++ more)
same_front zero xs more le = refl
same_front (suc n) [] more le = absurd (omega arith)
same_front (suc n) (x ∷ xs) more le = ap (λ ys. x ∷ ys) (same_front n xs more (omega arith))

-- the same up to and including this token
same_start : (tokens more : List Lexeme) (token : ℕ) → token < length tokens →
    Same token (point (at_start tokens)) (point (at_start (take (suc token) tokens ++ more)))
same_start tokens more token less =
    let e : suc token - 0 ≡ suc token = omega arith in
    record { left = rw e (same_front (suc token) tokens more less); taken = refl; open_brackets = refl; operators = refl }

same_back : (token : ℕ) {p q : Point} → Same token p q → Same token q p
same_back token {p} {q} same = record {
  left = subst (λ n. take (suc token - n) q.left ≡ take (suc token - n) p.left) same.taken (sym same.left);
  taken = sym same.taken;
  open_brackets = sym same.open_brackets;
  operators = sym same.operators;
}

stopped_over : {A : Type 0} (over : Option ℕ) (a : A) (r : Reading) (fault : Fault) (token : ℕ) → r.over ≡ over →
    outcome true a r ≡ Stopped fault token → (fault ≡ TooDeep) × (over ≡ Some token)
stopped_over (Some n) a r fault token is e =
    let f : Stopped TooDeep n ≡ Stopped fault token = (rw (outcome, is) at e) in
    (cc, cc)
stopped_over None a r fault token is e =
    let f : Read a (point r) ≡ Stopped fault token = (rw (outcome, is) at e) in
    absurd cc

module _ {A : Type 0} {first : Option Lexeme → Type 0} (reads : ℕ → Reads A) (takes : A → Takes)
    (complete : (fuel : ℕ) (a : A) → Complete fuel (takes a) a (reads fuel) first AtEnd) where
  -- no tokens have two trees
  pub one_tree : (tokens : List Lexeme) (a b : A) → TakesAll (takes a) tokens → TakesAll (takes b) tokens → a ≡ b
  one_tree tokens a b one other =
      let fuel : ℕ = suc (length tokens) in
      let p = (complete fuel a).complete false (at_start tokens) one.after one.taken (all_taken one.after.left one.all) (omega arith) refl in
      let q = (complete fuel b).complete false (at_start tokens) other.after other.taken (all_taken other.after.left other.all) (omega arith) refl in
      (read_same (sym q ∙ p)).0

  -- where the reader stops, it stops on each tree that begins with the tokens up to there, and so that tree passes a limit there
  stops_there : ((fuel : ℕ) → Local (reads fuel)) → (tokens more : List Lexeme) (fault : Fault) (token : ℕ) (a : A) →
      Answers reads tokens (Stopped fault token) → token < length tokens → (is : TakesAll (takes a) (take (suc token) tokens ++ more)) →
      (fault ≡ TooDeep) × (is.after.over ≡ Some token)
  stops_there local tokens more fault token a stops less is =
      let others : List Lexeme = take (suc token) tokens ++ more in
      let fuel : ℕ = suc (length tokens + length others) in
      let here = stops fuel (omega arith) in
      let agrees = (local fuel).local token (point (at_start tokens)) (point (at_start others)) (same_start tokens more token less) in
      let there = (rw here at agrees).1 (le_refl token) in
      let whole = (complete fuel a).complete true (at_start others) is.after is.taken (all_taken is.after.left is.all) (omega arith) refl in
      stopped_over is.after.over a is.after fault token refl (sym whole ∙ there)

  pub none_goes_on_with : ((fuel : ℕ) → Local (reads fuel)) → (tokens more : List Lexeme) (token : ℕ) (a : A) →
      Answers reads tokens (Stopped Unexpected token) → token < length tokens → TakesAll (takes a) (take (suc token) tokens ++ more) → ⊥
  none_goes_on_with local tokens more token a stops less is = absurd (let o = (stops_there local tokens more Unexpected token a stops less is).0 in cc)

  pub each_passes_a_limit : ((fuel : ℕ) → Local (reads fuel)) → (tokens more : List Lexeme) (token : ℕ) (a : A) →
      Answers reads tokens (Stopped TooDeep token) → token < length tokens → (is : TakesAll (takes a) (take (suc token) tokens ++ more)) →
      is.after.over ≡ Some token
  each_passes_a_limit local tokens more token a stops less is = (stops_there local tokens more TooDeep token a stops less is).1

  -- where a tree passes a limit first, the reader stops on all tokens that begin the same
  pub too_deep_stops : ((fuel : ℕ) → Local (reads fuel)) → (tokens more : List Lexeme) (token : ℕ) (a : A) → token < length tokens →
      (is : TakesAll (takes a) (take (suc token) tokens ++ more)) → is.after.over ≡ Some token → (fuel : ℕ) →
      length (take (suc token) tokens ++ more) < fuel → reads fuel true (point (at_start tokens)) ≡ Stopped TooDeep token
  too_deep_stops local tokens more token a less is over fuel enough =
      let others : List Lexeme = take (suc token) tokens ++ more in
      let whole = (complete fuel a).complete true (at_start others) is.after is.taken (all_taken is.after.left is.all) enough refl in
      let stops : reads fuel true (point (at_start others)) ≡ Stopped TooDeep token = whole ∙ outcome_stopped a is.after over in
      let agrees = (local fuel).local token (point (at_start others)) (point (at_start tokens)) (same_back token (same_start tokens more token less)) in
      (rw stops at agrees).1 (le_refl token)
    where
      outcome_stopped : (a : A) (r : Reading) → r.over ≡ Some token → outcome true a r ≡ Stopped TooDeep token
      outcome_stopped a r is = rw (outcome, is) refl

  -- nor do all of the tokens have a tree where the reader stops at their end
  pub none_takes_all : (tokens : List Lexeme) (token : ℕ) (a : A) → Answers reads tokens (Stopped Unexpected token) → TakesAll (takes a) tokens → ⊥
  none_takes_all tokens token a stops is =
      let fuel : ℕ = suc (length tokens) in
      let whole = (complete fuel a).complete true (at_start tokens) is.after is.taken (all_taken is.after.left is.all) (omega arith) refl in
      absurd (let o = (stopped_over is.after.over a is.after Unexpected token refl (sym whole ∙ stops fuel (omega arith))).0 in cc)

  -- a tree within the limits is read
  pub tree_is_read : (tokens : List Lexeme) (a : A) (is : TakesAll (takes a) tokens) → is.after.over ≡ None →
      Answers reads tokens (Read a (point is.after))
  tree_is_read tokens a is fits fuel less =
      (complete fuel a).complete true (at_start tokens) is.after is.taken (all_taken is.after.left is.all) less refl ∙ outcome_read true a is.after fits
