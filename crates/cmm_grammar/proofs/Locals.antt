-- At a point where a reader stands, its answer hangs on no token beyond the one that it looks at: for each way in which readers are put together.
use Rattle.std.proofs.Common.{◌≡◌, ℕ, suc, ◌-◌, ◌<◌, ◌≤◌, ◌⊎◌, inl, inr, Bool, true, false, List, [], ◌∷◌, take, Option, refl, sym, ap, arith, nat_lt, le_trans, true≢false}
use Rattle.cmm_lexer.specs.declared.piece.Lexeme.{Lexeme}
use Rattle.cmm_grammar.specs.Reading.{Point, Answer, Unexpected, TooDeep, Read, Stopped, Reads, and_then, ◌>>=◌, give, stop, next, past, look, choice, here, skip, skip_opening, skip_operator, enclosed, outermost}
use Rattle.cmm_grammar.specs.inside.Duties.{Same, Agrees}

-- ---- answers

same_self : (token : ℕ) (p : Point) → Same token p p
same_self token p = record { left = refl; taken = refl; open_brackets = refl; operators = refl }

-- from an earlier point
agrees_before : {A : Type 0} (token : ℕ) (p q : Point) (ans other : Answer A) → p.taken ≤ q.taken → Agrees token q ans other → Agrees token p ans other
agrees_before token p q (Read a after) other le h = (le_trans le h.0, h.1)
agrees_before token p q (Stopped fault at) other le h = (le_trans le h.0, h.1)

-- nothing is said of an answer that looks further
agrees_beyond : {A : Type 0} (token : ℕ) (p : Point) (ans same other : Answer A) → token < p.taken → Agrees token p ans same → Agrees token p ans other
agrees_beyond token p (Read a after) same other less h = (h.0, λ le. absurd (let o = h.0 in omega arith))
agrees_beyond token p (Stopped fault at) same other less h = (h.0, λ le. absurd (let o = h.0 in omega arith))

within_or_beyond : (token n : ℕ) → (n ≤ token) ⊎ (token < n)
within_or_beyond token n = grind arith

-- at this point
pub record LocalAt {A : Type 0} (reads : Reads A) (p : Point) : Type 0 where
  pub local : (token : ℕ) (q : Point) → Same token p q → Agrees token p (reads true p) (reads true q)

-- where the token is not beyond, the other answer is known
agrees_at : {A : Type 0} {reads : Reads A} {p : Point} → LocalAt reads p → (token : ℕ) (other : Answer A) →
    (p.taken ≤ token → Agrees token p (reads true p) other) → Agrees token p (reads true p) other
agrees_at {A = A} {reads = reads} {p = p} it token other h = by (within_or_beyond token p.taken) where
  by : (p.taken ≤ token) ⊎ (token < p.taken) → Agrees token p (reads true p) other
  by (inl le) = h le
  by (inr less) = agrees_beyond token p (reads true p) (reads true p) other less (it.local token p (same_self token p))

-- ---- one after the other

rest_agrees : {A B : Type 0} (rest : A → Reads B) (token : ℕ) (p : Point) (ans other : Answer A) →
    ((a : A) (mid : Point) → ans ≡ Read a mid → LocalAt (rest a) mid) → Agrees token p ans other →
    Agrees token p (and_then ans (λ a after. rest a true after)) (and_then other (λ a after. rest a true after))
rest_agrees rest token p (Stopped fault at) other each h = (h.0, λ le. rw (h.1 le) refl)
rest_agrees rest token p (Read a mid) other each h =
    agrees_before token p mid (rest a true mid) (and_then other (λ a after. rest a true after)) h.0
    (agrees_at (each a mid refl) token (and_then other (λ a after. rest a true after)) (λ le.
    let o = h.1 le in
    let there = (each a mid refl).local token o.0 o.2 in
    rw o.1 there))

pub after_local : {A B : Type 0} {reads : Reads A} {rest : A → Reads B} {p : Point} → LocalAt reads p →
    ((a : A) (mid : Point) → reads true p ≡ Read a mid → LocalAt (rest a) mid) → LocalAt (reads >>= rest) p
after_local {reads = reads} {rest = rest} {p = p} first each = record {
  local = λ token q same. rest_agrees rest token p (reads true p) (reads true q) each (first.local token q same);
}

pub give_local : {A : Type 0} {p : Point} (a : A) → LocalAt (give a) p
give_local a = record { local = λ token q same. (omega arith, λ le. (q, refl, same)) }

pub stop_local : {A : Type 0} {p : Point} → LocalAt {A = A} stop p
stop_local = record { local = λ token q same. (omega arith, λ le. ap (λ n. Stopped Unexpected n) (sym same.taken)) }

pub here_local : {p : Point} → LocalAt here p
here_local = record { local = λ token q same. (omega arith, λ le. (q, ap (λ n. Read n q) (sym same.taken), same)) }

-- a reader that answers the same
pub local_by : {A : Type 0} {reads other : Reads A} {p : Point} → ((q : Point) → reads true q ≡ other true q) → LocalAt other p → LocalAt reads p
local_by {p = p} same it = record { local = λ token q s. rw (same p, same q) (it.local token q s) }

-- ---- by the next token

same_next : (n : ℕ) (xs ys : List Lexeme) → take (suc n) xs ≡ take (suc n) ys → next xs ≡ next ys
same_next n [] [] e = refl
same_next n [] (y ∷ ys) e = absurd cc
same_next n (x ∷ xs) [] e = absurd cc
same_next n (x ∷ xs) (y ∷ ys) e = cc

pub next_same : (token : ℕ) (p q : Point) → Same token p q → p.taken ≤ token → next p.left ≡ next q.left
next_same token p q same le =
    let e : suc token - p.taken ≡ suc (token - p.taken) = omega arith in
    same_next (token - p.taken) p.left q.left (rw e at same.left)

pub look_local : {A : Type 0} {p : Point} (by : Option Lexeme → Reads A) → LocalAt (by (next p.left)) p → LocalAt (look by) p
look_local {p = p} by it = record {
  local = λ token q same. agrees_at it token (by (next q.left) true q) (λ le. rw (sym (next_same token p q same le)) (it.local token q same));
}

pub choice_local : {A : Type 0} {holds fails : Reads A} {p : Point} (test : Bool) → LocalAt holds p → LocalAt fails p → LocalAt (choice test holds fails) p
choice_local true h f = h
choice_local false h f = f

-- ---- one token

same_past : (n : ℕ) (xs ys : List Lexeme) → take (suc n) xs ≡ take (suc n) ys → take n (past xs) ≡ take n (past ys)
same_past n [] [] e = refl
same_past n [] (y ∷ ys) e = absurd cc
same_past n (x ∷ xs) [] e = absurd cc
same_past n (x ∷ xs) (y ∷ ys) e = cc

same_left : (token taken : ℕ) (xs ys : List Lexeme) → take (suc token - taken) xs ≡ take (suc token - taken) ys →
    (taken ≤ token) ⊎ (token < taken) → take (suc token - suc taken) (past xs) ≡ take (suc token - suc taken) (past ys)
same_left token taken xs ys e (inl le) =
    let f : suc token - taken ≡ suc (suc token - suc taken) = omega arith in
    same_past (suc token - suc taken) xs ys (rw f at e)
same_left token taken xs ys e (inr less) =
    let f : suc token - suc taken ≡ 0 = omega arith in
    rw f refl

left_same : (token : ℕ) (p q : Point) → Same token p q → take (suc token - suc p.taken) (past p.left) ≡ take (suc token - suc p.taken) (past q.left)
left_same token p q same = same_left token p.taken p.left q.left same.left (within_or_beyond token p.taken)

pub skip_local : {A : Type 0} {p : Point} (rest : Unit {0} → Reads A) →
    LocalAt (rest tt) (record p { left = past p.left; taken = suc p.taken }) → LocalAt (skip >>= rest) p
skip_local {p = p} rest it = record {
  local = λ token q same.
      let there : Point = record p { left = past p.left; taken = suc p.taken } in
      let other : Point = record q { left = past q.left; taken = suc q.taken } in
      agrees_before token p there (rest tt true there) (rest tt true other) (omega arith)
      (it.local token other (record { left = left_same token p q same; taken = ap suc same.taken; open_brackets = same.open_brackets; operators = same.operators }));
}

-- a limit that both points have
limit_agrees : (token : ℕ) (p after q other : Point) (over others : Bool) → over ≡ others → Same token p q → Same token after other → p.taken ≤ after.taken →
    Agrees {A = Unit {0}} token p (elim over [ true ↦ Stopped TooDeep p.taken | false ↦ Read tt after ])
    (elim others [ true ↦ Stopped TooDeep q.taken | false ↦ Read tt other ])
limit_agrees token p after q other true true e same same_after le = (omega arith, λ le. ap (λ n. Stopped TooDeep n) (sym same.taken))
limit_agrees token p after q other true false e same same_after le = absurd (true≢false e)
limit_agrees token p after q other false true e same same_after le = absurd (true≢false (sym e))
limit_agrees token p after q other false false e same same_after le = (le, λ le. (other, refl, same_after))

pub operator_local : {p : Point} → LocalAt skip_operator p
operator_local {p} = record {
  local = λ token q same.
      let after : Same token (record p { left = past p.left; taken = suc p.taken; operators = suc p.operators })
      (record q { left = past q.left; taken = suc q.taken; operators = suc q.operators }) = record {
        left = left_same token p q same;
        taken = ap suc same.taken;
        open_brackets = same.open_brackets;
        operators = ap suc same.operators;
      }
      in
      limit_agrees token p _ q _ (nat_lt 500 (suc p.operators)) (nat_lt 500 (suc q.operators))
      (ap (λ n. nat_lt 500 (suc n)) same.operators) same after (omega arith);
}

pub opening_local : {p : Point} → LocalAt skip_opening p
opening_local {p} = record {
  local = λ token q same.
      let after : Same token (record p { left = past p.left; taken = suc p.taken; open_brackets = suc p.open_brackets })
      (record q { left = past q.left; taken = suc q.taken; open_brackets = suc q.open_brackets }) = record {
        left = left_same token p q same;
        taken = ap suc same.taken;
        open_brackets = ap suc same.open_brackets;
        operators = same.operators;
      }
      in
      limit_agrees token p _ q _ (nat_lt 200 (suc p.open_brackets)) (nat_lt 200 (suc q.open_brackets))
      (ap (λ n. nat_lt 200 (suc n)) same.open_brackets) same after (omega arith);
}

-- ---- brackets and outermost expressions

pub outermost_local : {A : Type 0} {reads : Reads A} {p : Point} → LocalAt reads (record p { operators = 0 }) → LocalAt (outermost reads) p
outermost_local inner = record {
  local = λ token q same. inner.local token (record q { operators = 0 })
      (record { left = same.left; taken = same.taken; open_brackets = same.open_brackets; operators = refl });
}

enclosed_agrees : {A : Type 0} (token opens others : ℕ) (p : Point) (ans other : Answer A) → opens ≡ others → Agrees token p ans other →
    Agrees token p (and_then ans (λ a after. Read a record after { open_brackets = opens }))
    (and_then other (λ a after. Read a record after { open_brackets = others }))
enclosed_agrees token opens others p (Stopped fault at) other e h = (h.0, λ le. rw (h.1 le) refl)
enclosed_agrees token opens others p (Read a mid) other e h = (
  h.0,
  λ le.
      let o = h.1 le in
      let same = o.2 in (
        record o.0 { open_brackets = others },
        rw (o.1) refl,
        record { left = same.left; taken = same.taken; open_brackets = e; operators = same.operators },
      ),
)

pub enclosed_local : {A : Type 0} {reads : Reads A} {p : Point} → LocalAt reads p → LocalAt (enclosed reads) p
enclosed_local {reads = reads} {p = p} inner = record {
  local = λ token q same.
      enclosed_agrees token p.open_brackets q.open_brackets p (reads true p) (reads true q) same.open_brackets (inner.local token q same);
}
