-- Each tree that what follows does not go on is read: for each way in which readers are put together.
use Rattle.std.proofs.Common.{◌≡◌, ℕ, suc, ◌<◌, ◌≤◌, Bool, true, false, ◌&&◌, List, [], ◌∷◌, length, Option, Some, None, refl, sym, ap, ◌∙◌, arith, nat_lt, ◌==◌, le_trans}
use Rattle.std.proofs.lemmas.Bool.{eqb-true}
use Rattle.cmm_lexer.specs.declared.piece.Lexeme.{Lexeme}
use Rattle.cmm_grammar.specs.Taking.{Reading, Takes, ◌⨾◌, here as here_is, nothing, token, taken_if, first_over, operator as operator_is, opening as opening_is, enclosed as enclosed_is, outermost as outermost_is}
use Rattle.cmm_grammar.specs.Reading.{Point, TooDeep, Answer, Read, Stopped, Reads, and_then, ◌>>=◌, give, next, past, look, choice, passes, if_next, here, skip, skip_opening, skip_operator, enclosed, outermost}
use Rattle.cmm_grammar.specs.ReadingLaws.{point}
use Rattle.cmm_grammar.specs.inside.Duties.{passed, outcome, Moves, Complete}
use Rattle.cmm_grammar.proofs.Takings.{put, first_stays, after_operator, after_opening}

-- what follows: this token, or anything
abbrev pub Next : Lexeme → Option Lexeme → Type 0
Next x y = y ≡ Some x

abbrev pub Anything : Option Lexeme → Type 0
Anything y = Unit {0}

-- ---- moves

pub moves_trans : {r s t : Reading} → Moves r s → Moves s t → Moves r t
moves_trans p q = record { shrinks = le_trans q.shrinks p.shrinks; stays = λ token e. q.stays token (p.stays token e) }

passed_stays : (limited : Bool) (r after : Reading) → Moves r after → (token : ℕ) → passed limited r ≡ Some token → passed limited after ≡ Some token
passed_stays true r after moves token e = moves.stays token e
passed_stays false r after moves token e = absurd cc

pub outcome_read : {A : Type 0} (limited : Bool) (a : A) (r : Reading) → passed limited r ≡ None → outcome limited a r ≡ Read a (point r)
outcome_read limited a r e = rw (outcome, e) refl

pub outcome_stopped : {A : Type 0} (limited : Bool) (a : A) (r : Reading) (token : ℕ) → passed limited r ≡ Some token → outcome limited a r ≡ Stopped TooDeep token
outcome_stopped limited a r token e = rw (outcome, e) refl

-- what is read after a part, or the token at which that part passed a limit
pub after_outcome_if : {A B : Type 0} (limited : Bool) (a : A) (between after : Reading) (rest : A → Point → Answer B) (answer : Answer B) →
    Moves between after → ((token : ℕ) → passed limited after ≡ Some token → answer ≡ Stopped TooDeep token) →
    (passed limited between ≡ None → rest a (point between) ≡ answer) → and_then (outcome limited a between) rest ≡ answer
after_outcome_if limited a between after rest answer moves stops then_ = by (passed limited between) refl where
  by : (o : Option ℕ) → passed limited between ≡ o → and_then (outcome limited a between) rest ≡ answer
  by None e = ap (λ o. and_then o rest) (outcome_read limited a between e) ∙ then_ e
  by (Some token) e =
      ap (λ o. and_then o rest) (outcome_stopped limited a between token e)
      ∙ sym (stops token (passed_stays limited between after moves token e))

pub after_outcome : {A B : Type 0} (limited : Bool) (a : A) (b : B) (between after : Reading) (rest : A → Point → Answer B) →
    Moves between after → (passed limited between ≡ None → rest a (point between) ≡ outcome limited b after) →
    and_then (outcome limited a between) rest ≡ outcome limited b after
after_outcome limited a b between after rest moves then_ =
    after_outcome_if limited a between after rest (outcome limited b after) moves (outcome_stopped limited b after) then_

-- ---- one after the other

pub record Both (p q : Takes) (r after : Reading) : Type 0 where
  pub between : Reading
  pub first : p r ≡ Some between
  pub second : q between ≡ Some after

taken_both : (o : Option Reading) (q : Takes) (after : Reading) → elim o as (λ _. Option Reading) [ Some x ↦ q x | None ↦ None ] ≡ Some after →
    (between : Reading) × (o ≡ Some between) × (q between ≡ Some after)
taken_both (Some x) q after e = (x, refl, e)
taken_both None q after e = absurd cc

pub both : (p q : Takes) (r after : Reading) → (p ⨾ q) r ≡ Some after → Both p q r after
both p q r after e = let o = taken_both (p r) q after e in record { between = o.0; first = o.1; second = o.2 }

then_complete_if : {A B : Type 0} {fuel later : ℕ} {p q : Takes} {a : A} {b : B} {reads : Reads A} {first middle begins follow : Option Lexeme → Type 0}
    (rest : A → Reads B) → Complete fuel p a reads first middle →
    ((r between : Reading) → p r ≡ Some between → length r.left < fuel → length between.left < later) →
    ((x : Option Lexeme) → begins x → middle x) → Complete later q b (rest a) begins follow → Complete fuel (p ⨾ q) b (reads >>= rest) first follow
then_complete_if {p = p} {q = q} {a = a} {b = b} rest one fewer goes two = record {
  moves = λ r after e. let s = both p q r after e in moves_trans (one.moves r s.between s.first) (two.moves s.between after s.second);
  begins = λ r after e f.
      let s = both p q r after e in
      one.begins r s.between s.first (goes (next s.between.left) (two.begins s.between after s.second f));
  complete = λ limited r after e f less fits.
      let s = both p q r after e in
      let h = one.complete limited r s.between s.first (goes (next s.between.left) (two.begins s.between after s.second f)) less fits in
      ap (λ o. and_then o (λ a after. rest a limited after)) h
      ∙ after_outcome limited a b s.between after (λ a after. rest a limited after) (two.moves s.between after s.second)
      (two.complete limited s.between after s.second f (fewer r s.between s.first less));
}

-- where the tree of the first is known in what follows
pub then_complete : {A B : Type 0} {fuel : ℕ} {p q : Takes} {a : A} {b : B} {reads : Reads A} {first middle begins follow : Option Lexeme → Type 0}
    (rest : A → Reads B) → Complete fuel p a reads first middle →
    ((x : Option Lexeme) → begins x → middle x) → Complete fuel q b (rest a) begins follow → Complete fuel (p ⨾ q) b (reads >>= rest) first follow
then_complete rest one goes two =
    then_complete_if rest one (λ r between e less. let o = (one.moves r between e).shrinks in omega arith) goes two

pub after_complete : {A B : Type 0} {fuel : ℕ} {p q : Takes} {a : A} {b : A → B} {reads : Reads A} {rest : A → Reads B}
    {first middle begins follow : Option Lexeme → Type 0} → Complete fuel p a reads first middle →
    ((x : Option Lexeme) → begins x → middle x) → ((x : A) → Complete fuel q (b x) (rest x) begins follow) →
    Complete fuel (p ⨾ q) (b a) (reads >>= rest) first follow
after_complete {a = a} {rest = rest} one goes each = then_complete rest one goes (each a)

-- something takes a token
pub record Strict (takes : Takes) : Type 0 where
  pub strict : (r after : Reading) → takes r ≡ Some after → length after.left < length r.left

-- after a token there are fewer
pub fewer_complete : {A B : Type 0} {fuel : ℕ} {p q : Takes} {a : A} {b : A → B} {reads : Reads A} {rest : A → Reads B}
    {first middle begins follow : Option Lexeme → Type 0} → Strict p → Complete (suc fuel) p a reads first middle →
    ((x : Option Lexeme) → begins x → middle x) → ((x : A) → Complete fuel q (b x) (rest x) begins follow) →
    Complete (suc fuel) (p ⨾ q) (b a) (reads >>= rest) first follow
fewer_complete {a = a} {rest = rest} strict one goes each =
    then_complete_if rest one (λ r between e less. let o = strict.strict r between e in omega arith) goes (each a)

some_same : {r s : Reading} → Some r ≡ Some s → s ≡ r
some_same e = cc

pub moves_self : (r after : Reading) → after ≡ r → Moves r after
moves_self r after e = record { shrinks = rw e (omega arith); stays = λ token is. rw e is }

-- nothing more is read
pub give_complete : {A : Type 0} {fuel : ℕ} {follow : Option Lexeme → Type 0} (a : A) → Complete fuel nothing a (give a) follow follow
give_complete {follow = follow} a = record {
  moves = λ r after e. moves_self r after (some_same e);
  begins = λ r after e f. rw (some_same e) at f;
  complete = λ limited r after e f less fits. sym (rw (some_same e) (outcome_read limited a r fits));
}

-- the last part, of which the tree is made
pub last_complete : {A B : Type 0} {fuel : ℕ} {p : Takes} {a : A} {reads : Reads A} {first follow : Option Lexeme → Type 0} (make : A → B) →
    Complete fuel p a reads first follow → Complete fuel p (make a) (reads >>= λ a. give (make a)) first follow
last_complete {a = a} make one = record {
  moves = one.moves;
  begins = one.begins;
  complete = λ limited r after e f less fits.
      ap (λ o. and_then o (λ a after. Read (make a) after)) (one.complete limited r after e f less fits)
      ∙ after_outcome limited a (make a) after after (λ a after. Read (make a) after) (moves_self after after refl)
      (λ fits. sym (outcome_read limited (make a) after fits));
}

-- ---- what may follow and begin, and how many tokens there may be

pub follow_complete : {A : Type 0} {fuel : ℕ} {p : Takes} {a : A} {reads : Reads A} {first first' follow follow' : Option Lexeme → Type 0} →
    ((x : Option Lexeme) → first x → first' x) → ((x : Option Lexeme) → follow' x → follow x) → Complete fuel p a reads first follow →
    Complete fuel p a reads first' follow'
follow_complete begins ends one = record {
  moves = one.moves;
  begins = λ r after e f. begins (next r.left) (one.begins r after e (ends (next after.left) f));
  complete = λ limited r after e f. one.complete limited r after e (ends (next after.left) f);
}

pub less_complete : {A : Type 0} {fuel more : ℕ} {p : Takes} {a : A} {reads : Reads A} {first follow : Option Lexeme → Type 0} → fuel ≤ more →
    Complete more p a reads first follow → Complete fuel p a reads first follow
less_complete le one = record {
  moves = one.moves;
  begins = one.begins;
  complete = λ limited r after e f less. one.complete limited r after e f (le_trans less le);
}

-- ---- by the next token

-- where the next token is known
pub at_complete : {A : Type 0} {fuel : ℕ} {p : Takes} {a : A} {follow : Option Lexeme → Type 0} (by : Option Lexeme → Reads A) (x : Lexeme) →
    Complete fuel p a (by (Some x)) (Next x) follow → Complete fuel p a (look by) (Next x) follow
at_complete by x one = record {
  moves = one.moves;
  begins = one.begins;
  complete = λ limited r after e f less fits.
      ap (λ y. by y limited (point r)) (one.begins r after e f) ∙ one.complete limited r after e f less fits;
}

-- where a test of the next token holds, or fails
pub holds_complete : {A : Type 0} {fuel : ℕ} {p : Takes} {a : A} {holds fails : Reads A} {first follow : Option Lexeme → Type 0} (test : Lexeme → Bool) →
    ((x : Option Lexeme) → first x → passes test x ≡ true) → Complete fuel p a holds first follow →
    Complete fuel p a (if_next test holds fails) first follow
holds_complete {holds = holds} {fails = fails} test passing one = record {
  moves = one.moves;
  begins = one.begins;
  complete = λ limited r after e f less fits.
      ap (λ b. choice b holds fails limited (point r)) (passing (next r.left) (one.begins r after e f)) ∙ one.complete limited r after e f less fits;
}

pub fails_complete : {A : Type 0} {fuel : ℕ} {p : Takes} {a : A} {holds fails : Reads A} {first follow : Option Lexeme → Type 0} (test : Lexeme → Bool) →
    ((x : Option Lexeme) → first x → passes test x ≡ false) → Complete fuel p a fails first follow →
    Complete fuel p a (if_next test holds fails) first follow
fails_complete {holds = holds} {fails = fails} test failing one = record {
  moves = one.moves;
  begins = one.begins;
  complete = λ limited r after e f less fits.
      ap (λ b. choice b holds fails limited (point r)) (failing (next r.left) (one.begins r after e f)) ∙ one.complete limited r after e f less fits;
}

-- ---- one token

-- a test that one token alone passes
abbrev pub Only : (Lexeme → Bool) → Lexeme → Type 0
Only test x = (y : Lexeme) → test y ≡ true → y ≡ x

-- what a test of one token has taken
pub record Taken (x : Lexeme) (r after : Reading) : Type 0 where
  pub next_was : next r.left ≡ Some x
  pub after_is : after ≡ record r { left = past r.left; taken = suc r.taken }
  pub fewer : length (past r.left) < length r.left

tested : (test : Bool) (left : List Lexeme) (r after : Reading) → taken_if test left r ≡ Some after →
    (test ≡ true) × (after ≡ record r { left = left; taken = suc r.taken })
tested true left r after e = (refl, cc)
tested false left r after e = absurd cc

taken_from : (test : Lexeme → Bool) (x : Lexeme) (left : List Lexeme) (taken opens operators : ℕ) (over : Option ℕ) (after : Reading) →
    Only test x →
    token test (record { left = left; taken = taken; open_brackets = opens; operators = operators; over = over }) ≡ Some after →
    Taken x (record { left = left; taken = taken; open_brackets = opens; operators = operators; over = over }) after
taken_from test x [] taken opens operators over after only e = absurd cc
taken_from test x (y ∷ ys) taken opens operators over after only e =
    let o = tested (test y) ys (record { left = y ∷ ys; taken = taken; open_brackets = opens; operators = operators; over = over }) after e in
    record { next_was = ap Some (only y o.0); after_is = o.1; fewer = omega arith }

pub token_taken : (test : Lexeme → Bool) (x : Lexeme) (r after : Reading) → Only test x → token test r ≡ Some after → Taken x r after
token_taken test x r after only e = taken_from test x r.left r.taken r.open_brackets r.operators r.over after only e

pub taken_moves : (x : Lexeme) (r after : Reading) → Taken x r after → Moves r after
taken_moves x r after t = let less = t.fewer in record {
  shrinks = rw t.after_is (omega arith);
  stays = λ token e. rw t.after_is e;
}

pub token_strict : {test : Lexeme → Bool} {x : Lexeme} → Only test x → Strict (token test)
token_strict {test} {x} only = record { strict = λ r after e. let t = token_taken test x r after only e in rw t.after_is t.fewer }

pub passed_same : (limited : Bool) (r after : Reading) → after.over ≡ r.over → passed limited after ≡ passed limited r
passed_same true r after e = e
passed_same false r after e = refl

pub skip_complete : {fuel : ℕ} (test : Lexeme → Bool) {x : Lexeme} → Only test x → Complete fuel (token test) tt skip (Next x) Anything
skip_complete test {x} only = record {
  moves = λ r after e. taken_moves x r after (token_taken test x r after only e);
  begins = λ r after e f. (token_taken test x r after only e).next_was;
  complete = λ limited r after e f less fits.
      let t = token_taken test x r after only e in
      rw t.after_is (sym (outcome_read limited tt (record r { left = past r.left; taken = suc r.taken }) (passed_same limited r (record r { left = past r.left; taken = suc r.taken }) refl ∙ fits)));
}

-- a token that passes a limit, or none does
limit_outcome : (limited over : Bool) (r : Reading) (after : Reading) (p : Point) → p ≡ point after →
    after.over ≡ first_over r.over over r.taken → passed limited r ≡ None →
    elim (limited && over) as (λ _. Answer (Unit {0})) [ true ↦ Stopped TooDeep r.taken | false ↦ Read tt p ] ≡ outcome limited tt after
limit_outcome true true r after p same e fits =
    let f : after.over ≡ Some r.taken = e ∙ rw (fits, first_over) refl in
    sym (outcome_stopped true tt after r.taken f)
limit_outcome true false r after p same e fits =
    let f : after.over ≡ None = e ∙ rw (fits, first_over) refl in
    rw same (sym (outcome_read true tt after f))
limit_outcome false over r after p same e fits = rw same refl

mapped : (o : Option Reading) (f : Reading → Reading) (after : Reading) →
    elim o as (λ _. Option Reading) [ Some x ↦ Some (f x) | None ↦ None ] ≡ Some after → (between : Reading) × (o ≡ Some between) × (after ≡ f between)
mapped (Some x) f after e = (x, refl, cc)
mapped None f after e = absurd cc

-- and what one that is counted has
pub record Counted (x : Lexeme) (moved : Reading → Reading) (r after : Reading) : Type 0 where
  pub next_was : next r.left ≡ Some x
  pub after_is : after ≡ put (past r.left) (moved r)
  pub fewer : length (past r.left) < length r.left

counted_taken : (f : Reading → Reading → Reading) (moved : Reading → Reading) →
    ((r : Reading) → f r (record r { left = past r.left; taken = suc r.taken }) ≡ put (past r.left) (moved r)) → (test : Lexeme → Bool) (x : Lexeme) →
    Only test x → (r after : Reading) → elim (token test r) as (λ _. Option Reading) [ Some y ↦ Some (f r y) | None ↦ None ] ≡ Some after →
    Counted x moved r after
counted_taken f moved same test x only r after e =
    let o = mapped (token test r) (f r) after e in
    let t = token_taken test x r o.0 only o.1 in
    record { next_was = t.next_was; after_is = o.2 ∙ ap (f r) t.after_is ∙ same r; fewer = t.fewer }

module _ {one : Takes} {x : Lexeme} (moved : Reading → Reading) (limit : Reading → Bool) (taken : (r after : Reading) → one r ≡ Some after → Counted x moved r after) where
  counted_strict : Strict one
  counted_strict = record { strict = λ r after e. let t = taken r after e in rw t.after_is t.fewer }

  counted_complete : {fuel : ℕ} {reads : Reads (Unit {0})} → ((r : Reading) → (moved r).over ≡ first_over r.over (limit r) r.taken) →
      ((limited : Bool) (r : Reading) → reads limited (point r)
      ≡ elim (limited && limit r) as (λ _. Answer (Unit {0})) [ true ↦ Stopped TooDeep r.taken | false ↦ Read tt (point (put (past r.left) (moved r))) ]) →
      Complete fuel one tt reads (Next x) Anything
  counted_complete over answers = record {
    moves = λ r after e.
        let t = taken r after e in
        let less = t.fewer in
        record { shrinks = rw t.after_is (omega arith); stays = λ token is. rw t.after_is (over r ∙ first_stays r.over (limit r) r.taken token is) };
    begins = λ r after e f. (taken r after e).next_was;
    complete = λ limited r after e f less fits.
        let t = taken r after e in
        let there : Reading = put (past r.left) (moved r) in
        answers limited r ∙ rw t.after_is (limit_outcome limited (limit r) r there (point there) refl (over r) fits);
  }

operator_taken : (test : Lexeme → Bool) {x : Lexeme} → Only test x → (r after : Reading) → operator_is (token test) r ≡ Some after →
    Counted x after_operator r after
operator_taken test {x} only =
    counted_taken (λ r y. record y { operators = suc y.operators; over = first_over y.over (nat_lt 500 (suc y.operators)) r.taken }) after_operator
    (λ r. refl) test x only

pub operator_complete : {fuel : ℕ} (test : Lexeme → Bool) {x : Lexeme} → Only test x →
    Complete fuel (operator_is (token test)) tt skip_operator (Next x) Anything
operator_complete test only =
    counted_complete after_operator (λ r. nat_lt 500 (suc r.operators)) (operator_taken test only) (λ r. refl) (λ limited r. refl)

pub operator_strict : {test : Lexeme → Bool} {x : Lexeme} → Only test x → Strict (operator_is (token test))
operator_strict {test} only = counted_strict after_operator (λ r. false) (operator_taken test only)

opening_taken : (test : Lexeme → Bool) {x : Lexeme} → Only test x → (r after : Reading) → opening_is (token test) r ≡ Some after →
    Counted x after_opening r after
opening_taken test {x} only =
    counted_taken (λ r y. record y { open_brackets = suc y.open_brackets; over = first_over y.over (nat_lt 200 (suc y.open_brackets)) r.taken }) after_opening
    (λ r. refl) test x only

pub opening_complete : {fuel : ℕ} (test : Lexeme → Bool) {x : Lexeme} → Only test x →
    Complete fuel (opening_is (token test)) tt skip_opening (Next x) Anything
opening_complete test only =
    counted_complete after_opening (λ r. nat_lt 200 (suc r.open_brackets)) (opening_taken test only) (λ r. refl) (λ limited r. refl)

pub opening_strict : {test : Lexeme → Bool} {x : Lexeme} → Only test x → Strict (opening_is (token test))
opening_strict {test} only = counted_strict after_opening (λ r. false) (opening_taken test only)

-- ---- other takings

-- what takes these tokens takes them in a way that is read, by what is known there
pub by_taken : {A E : Type 0} {fuel : ℕ} {p : Takes} {a : A} {reads : Reads A} {first follow : Option Lexeme → Type 0} (q : E → Takes) →
    ((r after : Reading) → p r ≡ Some after → (known : E) × (q known r ≡ Some after)) → ((known : E) → Complete fuel (q known) a reads first follow) →
    Complete fuel p a reads first follow
by_taken q by one = record {
  moves = λ r after e. let o = by r after e in (one o.0).moves r after o.1;
  begins = λ r after e. let o = by r after e in (one o.0).begins r after o.1;
  complete = λ limited r after e. let o = by r after e in (one o.0).complete limited r after o.1;
}

-- nothing takes such tokens
pub never_complete : {A : Type 0} {fuel : ℕ} {p : Takes} {a : A} {reads : Reads A} {first follow : Option Lexeme → Type 0} →
    ((r after : Reading) → p r ≡ Some after → ⊥) → Complete fuel p a reads first follow
never_complete never = by_taken (λ (known : ⊥). nothing) (λ r after e. absurd (never r after e)) (λ known. absurd known)

-- trees that take the same
pub same_complete : {A : Type 0} {fuel : ℕ} {p q : Takes} {a : A} {reads : Reads A} {first follow : Option Lexeme → Type 0} → p ≡ q →
    Complete fuel q a reads first follow → Complete fuel p a reads first follow
same_complete same one = rw same one

-- ---- the number of the next token, brackets and outermost expressions

here_taken : (n : ℕ) (test : Bool) (r after : Reading) → elim test as (λ _. Option Reading) [ true ↦ Some r | false ↦ None ] ≡ Some after →
    (test ≡ true) × (after ≡ r)
here_taken n true r after e = (refl, cc)
here_taken n false r after e = absurd cc

-- the number of the next token was said
pub number_taken : (n : ℕ) (p : Takes) (r after : Reading) → (here_is n ⨾ p) r ≡ Some after → (n ≡ r.taken) × (p r ≡ Some after)
number_taken n p r after e =
    let s = both (here_is n) p r after e in
    let o = here_taken n (n == r.taken) r s.between s.first in
    let second : p r ≡ Some after = rw (sym o.1) s.second in
    (eqb-true n r.taken o.0, second)

pub here_complete : {fuel : ℕ} {follow : Option Lexeme → Type 0} (n : ℕ) → Complete fuel (here_is n) n here follow follow
here_complete {follow = follow} n = record {
  moves = λ r after e. moves_self r after (here_taken n (n == r.taken) r after e).1;
  begins = λ r after e f. rw (here_taken n (n == r.taken) r after e).1 at f;
  complete = λ limited r after e f less fits.
      let o = here_taken n (n == r.taken) r after e in
      let same = eqb-true n r.taken o.0 in
      sym (rw (o.1, same) (outcome_read limited r.taken r fits));
}

pub enclosed_complete : {A : Type 0} {fuel : ℕ} {p : Takes} {a : A} {reads : Reads A} {first follow : Option Lexeme → Type 0} →
    Complete fuel p a reads first follow → Complete fuel (enclosed_is p) a (enclosed reads) first follow
enclosed_complete {A = A} {p = p} {a = a} {reads = reads} one = record {
  moves = λ r after e.
      let o = closing r after e in
      let m = one.moves r o.0 o.1 in
      record { shrinks = rw o.2 m.shrinks; stays = λ token is. rw o.2 (m.stays token is) };
  begins = λ r after e f. let o = closing r after e in one.begins r o.0 o.1 (rw o.2 at f);
  complete = λ limited r after e f less fits.
      let o = closing r after e in
      closes limited r after o.0 o.2 (one.complete limited r o.0 o.1 (rw o.2 at f) less fits);
}
  where
    closes : (limited : Bool) (r after between : Reading) → after ≡ record between { open_brackets = r.open_brackets } →
        reads limited (point r) ≡ outcome limited a between → enclosed reads limited (point r) ≡ outcome limited a after
    closes limited r after between is read =
        let closed : Reading = record between { open_brackets = r.open_brackets } in
        let rest : A → Point → Answer A = λ a after. Read a record after { open_brackets = r.open_brackets } in
        ap (λ ans. and_then ans rest) read
        ∙ rw is (after_outcome limited a a between closed rest (record { shrinks = omega arith; stays = λ token is. is })
        (λ fits. sym (outcome_read limited a closed (passed_same limited between closed refl ∙ fits))))

    closing : (r after : Reading) → enclosed_is p r ≡ Some after →
        (between : Reading) × (p r ≡ Some between) × (after ≡ record between { open_brackets = r.open_brackets })
    closing r after e = mapped (p r) (λ between. record between { open_brackets = r.open_brackets }) after e

pub outermost_complete : {A : Type 0} {fuel : ℕ} {p : Takes} {a : A} {reads : Reads A} {first follow : Option Lexeme → Type 0} →
    Complete fuel p a reads first follow → Complete fuel (outermost_is p) a (outermost reads) first follow
outermost_complete one = record {
  moves = λ r after e.
      let m = one.moves (record r { operators = 0 }) after e in
      record { shrinks = m.shrinks; stays = m.stays };
  begins = λ r after e f. one.begins (record r { operators = 0 }) after e f;
  complete = λ limited r after e f less fits. one.complete limited (record r { operators = 0 }) after e f less fits;
}
