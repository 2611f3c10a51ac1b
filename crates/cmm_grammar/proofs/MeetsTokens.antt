-- Single tokens, counted tokens, brackets and outermost expressions: their readers meet the grammar.
use Rattle.std.proofs.Common.{◌≡◌, ℕ, suc, ◌+◌, ◌⊎◌, inl, inr, Bool, true, false, List, [], ◌∷◌, ◌++◌, length, Option, Some, None, refl, sym, ap, ◌∙◌, nat_lt, arith, subst, append_assoc, length-append}
use Rattle.cmm_lexer.specs.declared.piece.Lexeme.{Lexeme}
use Rattle.cmm_grammar.specs.Taking.{Reading, Takes, ◌⨾◌, here as here_is, token, first_over, operator as operator_is, opening as opening_is, enclosed as enclosed_is, outermost as outermost_is}
use Rattle.cmm_grammar.specs.Reading.{Point, Fault, TooDeep, Answer, Read, Stopped, Reads, and_then, ◌>>=◌, give, stop, next, past, if_next, here, skip, skip_opening, skip_operator, enclosed, outermost}
use Rattle.cmm_grammar.specs.ReadingLaws.{within, point}
use Rattle.cmm_grammar.proofs.Takings.{taken_then, same_number, takes_nothing, put, first_stays, after_operator, after_opening}
use Rattle.cmm_grammar.proofs.Locals.{LocalAt, after_local, here_local, skip_local, operator_local, opening_local, enclosed_local, outermost_local}
use Rattle.cmm_grammar.proofs.Meets.{bound, read_same, May, Plain, Led, Reached, Ended, Ends, Halted, Leads, LeadsAt, Meets, led_put, led_taken, ended_self, read_or_stopped, stopped_same, given, whole_meets, give_leads, at_by, at_leads, stop_leads, next_leads}

-- ---- one token

-- what takes this token alone
pub record One (one : Takes) (x : Lexeme) (moved : Reading → Reading) : Type 0 where
  pub step : (q : Reading) (rest : List Lexeme) → one (put (x ∷ rest) q) ≡ Some (put rest (moved q))
  pub counts : (q : Reading) → (moved q).taken ≡ suc q.taken
  pub stays : (q : Reading) (token : ℕ) → q.over ≡ Some token → (moved q).over ≡ Some token

led_step : {first free : Bool} {was now : Option Lexeme} {so_far : Takes → Takes} {one : Takes} {x : Lexeme} {moved : Reading → Reading} {r q : Reading}
    {xs : List Lexeme} → One one x moved → (then_now : Option Lexeme) → ((rest : List Lexeme) → May free now (x ∷ rest)) →
    Led first free was now so_far r xs q → Led first true was then_now (λ k. so_far (one ⨾ k)) r (xs ++ (x ∷ [])) (moved q)
led_step {first = first} {was = was} {so_far = so_far} {one = one} {x = x} {moved = moved} {r = r} {q = q} {xs = xs} it then_now may led = record {
  again = λ k rest m.
      ap (λ t. so_far (one ⨾ k) (put t r)) (append_assoc xs (x ∷ []) rest)
      ∙ led.again (one ⨾ k) (x ∷ rest) (may rest)
      ∙ taken_then one k (put (x ∷ rest) q) (put rest (moved q)) (it.step q rest);
  quiet = λ rest m. subst (λ t. May first was t) (sym (append_assoc xs (x ∷ []) rest)) (led.quiet (x ∷ rest) (may rest));
}

next_past : (left : List Lexeme) (x : Lexeme) → next left ≡ Some x → left ≡ x ∷ past left
next_past [] x e = absurd cc
next_past (y ∷ ys) x e = let same : y ≡ x = cc in rw same refl

pub reached_step : {first free : Bool} {so_far : Takes → Takes} {one : Takes} {x : Lexeme} {moved : Reading → Reading} {r q : Reading} → One one x moved →
    next q.left ≡ Some x → Reached first free so_far r q → Reached first true (λ k. so_far (one ⨾ k)) r (put (past q.left) (moved q))
reached_step {x = x} {q = q} it is before =
    let count : length (before.tokens ++ (x ∷ [])) ≡ length before.tokens + 1 = length-append before.tokens (x ∷ []) in
    let a = before.taken in
    let b = it.counts q in
    record {
      tokens = before.tokens ++ (x ∷ []);
      left = before.left ∙ ap (λ t. before.tokens ++ t) (next_past q.left x is) ∙ sym (append_assoc before.tokens (x ∷ []) (past q.left));
      taken = omega arith;
      led = led_put (led_step it (next (past q.left)) (λ rest. inl (sym is)) before.led);
    }

-- some tree goes on with this token
pub ends_step : {B : Type 0} {first free later : Bool} {so_far : Takes → Takes} {takes : B → Takes} {one : Takes} {x : Lexeme} {moved : Reading → Reading} →
    One one x moved → Plain free x → Ends first true later (λ k. so_far (one ⨾ k)) takes → Ends first free later so_far takes
ends_step {first = first} {later = later} {takes = takes} {x = x} {moved = moved} it plain ends = record {
  ends = λ was now r tokens q led.
      let e = ends.ends was None r (tokens ++ (x ∷ [])) (moved q) (led_step it None (λ rest. inr plain) led) in
      record {
        tree = e.tree;
        more = x ∷ e.more;
        after = e.after;
        led = subst (λ t. Led first later was None (λ k. takes e.tree ⨾ k) r t e.after) (append_assoc tokens (x ∷ []) e.more) e.led;
        stays = λ token over. e.stays token (it.stays q token over);
      };
}

pub token_one : (test : Lexeme → Bool) {x : Lexeme} → test x ≡ true → One (token test) x (λ q. record q { taken = suc q.taken })
token_one test passed = record { step = λ q rest. rw passed refl; counts = λ q. refl; stays = λ q token over. over }

pub ends_token : {B : Type 0} {first free later : Bool} {so_far : Takes → Takes} {takes : B → Takes} (test : Lexeme → Bool) (x : Lexeme) → test x ≡ true →
    Plain free x → Ends first true later (λ k. so_far (token test ⨾ k)) takes → Ends first free later so_far takes
ends_token test x passed plain ends = ends_step (token_one test passed) plain ends

-- the next token is what this takes
pub one_leads : {B : Type 0} {first free later : Bool} {so_far : Takes → Takes} {one : Takes} {x : Lexeme} {rest : Unit {0} → Reads B} {takes : B → Takes} →
    One one x (λ q. record q { taken = suc q.taken }) → ((u : Unit {0}) → Leads first true later (λ k. so_far (one ⨾ k)) (rest u) takes) →
    LeadsAt (Some x) first free later so_far (skip >>= rest) takes
one_leads {rest = rest} it then_ = record {
  reached = λ r p is before b after e.
      (then_ tt).reached r (record p { left = past p.left; taken = suc p.taken }) (reached_step it is before) b after e;
  halts = λ r p is before fault token e.
      (then_ tt).halts r (record p { left = past p.left; taken = suc p.taken }) (reached_step it is before) fault token e;
  local = λ r p is before. skip_local rest ((then_ tt).local r (record p { left = past p.left; taken = suc p.taken }) (reached_step it is before));
}

pub skip_leads : {B : Type 0} {first free later : Bool} {so_far : Takes → Takes} {rest : Unit {0} → Reads B} {takes : B → Takes} (test : Lexeme → Bool) {x : Lexeme} →
    test x ≡ true → ((u : Unit {0}) → Leads first true later (λ k. so_far (token test ⨾ k)) (rest u) takes) →
    LeadsAt (Some x) first free later so_far (skip >>= rest) takes
skip_leads test passed then_ = one_leads (token_one test passed) then_

-- the token is the last
pub skip_last_leads : {B : Type 0} {first free : Bool} {so_far : Takes → Takes} {takes : B → Takes} (test : Lexeme → Bool) {x : Lexeme} (b : B) → test x ≡ true →
    takes b ≡ so_far (token test) → LeadsAt (Some x) first free true so_far (skip >>= λ _. give b) takes
skip_last_leads {so_far = so_far} test b passed same =
    skip_leads test passed (λ _. give_leads b (same ∙ ap (λ t. so_far t) (sym (takes_nothing (token test)))))

-- ---- a token that is counted

first_none : (o : Option ℕ) (test : Bool) (at : ℕ) → test ≡ false → o ≡ None → first_over o test at ≡ None
first_none (Some n) test at f e = absurd cc
first_none None test at f e = rw f refl

first_here : (o : Option ℕ) (test : Bool) (at : ℕ) → test ≡ true → o ≡ None → first_over o test at ≡ Some at
first_here (Some n) test at f e = absurd cc
first_here None test at f e = rw f refl

-- a token passes a limit where `limit` is true
record Counted (one : Takes) (x : Lexeme) (moved : Reading → Reading) (limit : Reading → Bool) : Type 0 where
  is_one : One one x moved
  below : (q : Reading) → limit q ≡ false → q.over ≡ None → (moved q).over ≡ None
  above : (q : Reading) → limit q ≡ true → q.over ≡ None → (moved q).over ≡ Some q.taken

abbrev limited_answer : Bool → ℕ → Point → Answer (Unit {0})
limited_answer over at p = elim over [ true ↦ Stopped TooDeep at | false ↦ Read tt p ]

no_over : {first free : Bool} {so_far : Takes → Takes} {r q : Reading} → q.over ≡ None → Reached first free so_far r q →
    Reached first free so_far r (within (point q))
no_over {first = first} {free = free} {so_far = so_far} {r = r} {q = q} e it = subst (λ o. Reached first free so_far r (record q { over = o })) e it

abbrev moved_to : (Reading → Reading) → Point → Point
moved_to moved p = point (put (past p.left) (moved (within p)))

module _ {one : Takes} {x : Lexeme} {moved : Reading → Reading} {limit : Reading → Bool} (counted : Counted one x moved limit) (reads : Reads (Unit {0}))
    (answers : (p : Point) → reads true p ≡ limited_answer (limit (within p)) p.taken (moved_to moved p)) (local : (p : Point) → LocalAt reads p)
    {B : Type 0} {first free later : Bool} {so_far : Takes → Takes} {rest : Unit {0} → Reads B} {takes : B → Takes}
    (then_ : (u : Unit {0}) → Leads first true later (λ k. so_far (one ⨾ k)) (rest u) takes) where
  counted_reached : (r : Reading) (p : Point) → next p.left ≡ Some x → Reached first free so_far r (within p) → (b : B) (after : Point) → (over : Bool) →
      limit (within p) ≡ over → and_then (limited_answer over p.taken (moved_to moved p)) (λ a after. rest a true after) ≡ Read b after →
      Reached first later (λ k. takes b ⨾ k) r (within after)
  counted_reached r p is before b after true l e = absurd cc
  counted_reached r p is before b after false l e =
      (then_ tt).reached r (moved_to moved p) (no_over (counted.below (within p) l refl) (reached_step counted.is_one is before)) b after e

  counted_halts : (r : Reading) (p : Point) → next p.left ≡ Some x → Reached first free so_far r (within p) → (fault : Fault) (token : ℕ) → (over : Bool) →
      limit (within p) ≡ over → and_then (limited_answer over p.taken (moved_to moved p)) (λ a after. rest a true after) ≡ Stopped fault token →
      Halted first later takes fault token r
  unfolding reached_step
  counted_halts r p is before fault token true l e =
      let o = stopped_same e in
      let there = reached_step counted.is_one is before in
      let a = there.taken in
      let b = counted.is_one.counts (within p) in
      let led : Led first true (next r.left) None (λ k. so_far (one ⨾ k)) r (before.tokens ++ (x ∷ [])) (moved (within p)) =
      led_step counted.is_one None (λ rest. inl (sym is)) before.led
      in
      rw (o.0, o.1) (record {
        front = before.tokens ++ (x ∷ []);
        back = past p.left;
        split = there.left;
        reaches = sym a ∙ b;
        ended = subst (λ o. Ended first later (next r.left) takes r (before.tokens ++ (x ∷ [])) o) (counted.above (within p) l refl)
            ((then_ tt).ends.ends (next r.left) None r (before.tokens ++ (x ∷ [])) (moved (within p)) led);
      })
  counted_halts r p is before fault token false l e =
      (then_ tt).halts r (moved_to moved p) (no_over (counted.below (within p) l refl) (reached_step counted.is_one is before)) fault token e

  counted_local : (r : Reading) (p : Point) → next p.left ≡ Some x → Reached first free so_far r (within p) → (u : Unit {0}) (mid : Point) → (over : Bool) →
      limit (within p) ≡ over → limited_answer over p.taken (moved_to moved p) ≡ Read u mid → LocalAt (rest u) mid
  counted_local r p is before u mid true l e = absurd cc
  counted_local r p is before u mid false l e =
      let o = read_same e in
      rw (o.0, o.1) ((then_ tt).local r (moved_to moved p) (no_over (counted.below (within p) l refl) (reached_step counted.is_one is before)))

  counted_leads : LeadsAt (Some x) first free later so_far (reads >>= rest) takes
  counted_leads = record {
    reached = λ r p is before b after e.
        counted_reached r p is before b after (limit (within p)) refl (ap (λ o. and_then o (λ a after. rest a true after)) (sym (answers p)) ∙ e);
    halts = λ r p is before fault token e.
        counted_halts r p is before fault token (limit (within p)) refl (ap (λ o. and_then o (λ a after. rest a true after)) (sym (answers p)) ∙ e);
    local = λ r p is before.
        after_local (local p) (λ u mid e. counted_local r p is before u mid (limit (within p)) refl (sym (answers p) ∙ e));
  }

counted_token : {moved : Reading → Reading} {limit : Reading → Bool} {one : Takes} {x : Lexeme} →
    ((q : Reading) (rest : List Lexeme) → one (put (x ∷ rest) q) ≡ Some (put rest (moved q))) → ((q : Reading) → (moved q).taken ≡ suc q.taken) →
    ((q : Reading) → (moved q).over ≡ first_over q.over (limit q) q.taken) → Counted one x moved limit
counted_token {limit = limit} step counts over = record {
  is_one = record { step = step; counts = counts; stays = λ q token e. over q ∙ first_stays q.over (limit q) q.taken token e };
  below = λ q l e. over q ∙ first_none q.over (limit q) q.taken l e;
  above = λ q l e. over q ∙ first_here q.over (limit q) q.taken l e;
}

operator_counted : (test : Lexeme → Bool) {x : Lexeme} → test x ≡ true →
    Counted (operator_is (token test)) x after_operator (λ q. nat_lt 500 (suc q.operators))
operator_counted test passed = counted_token (λ q rest. rw (operator_is, (token_one test passed).step q rest) refl) (λ q. refl) (λ q. refl)

opening_counted : (test : Lexeme → Bool) {x : Lexeme} → test x ≡ true →
    Counted (opening_is (token test)) x after_opening (λ q. nat_lt 200 (suc q.open_brackets))
opening_counted test passed = counted_token (λ q rest. rw (opening_is, (token_one test passed).step q rest) refl) (λ q. refl) (λ q. refl)

pub operator_leads : {B : Type 0} {first free later : Bool} {so_far : Takes → Takes} {rest : Unit {0} → Reads B} {takes : B → Takes} (test : Lexeme → Bool)
    {x : Lexeme} → test x ≡ true → ((u : Unit {0}) → Leads first true later (λ k. so_far (operator_is (token test) ⨾ k)) (rest u) takes) →
    LeadsAt (Some x) first free later so_far (skip_operator >>= rest) takes
operator_leads test passed then_ = counted_leads (operator_counted test passed) skip_operator (λ p. refl) (λ p. operator_local) then_

pub opening_leads : {B : Type 0} {first free later : Bool} {so_far : Takes → Takes} {rest : Unit {0} → Reads B} {takes : B → Takes} (test : Lexeme → Bool)
    {x : Lexeme} → test x ≡ true → ((u : Unit {0}) → Leads first true later (λ k. so_far (opening_is (token test) ⨾ k)) (rest u) takes) →
    LeadsAt (Some x) first free later so_far (skip_opening >>= rest) takes
opening_leads test passed then_ = counted_leads (opening_counted test passed) skip_opening (λ p. refl) (λ p. opening_local) then_

-- an opening bracket alone
pub opening_meets : {first : Bool} (test : Lexeme → Bool) (x : Lexeme) → test x ≡ true → Plain first x →
    Meets first true (if_next test skip_opening stop) (λ _. opening_is (token test))
opening_meets {first} test x passed plain = whole_meets (next_leads some (λ y e. opened y e) (λ y e. at_leads (stop_leads some))) where
  opened : (y : Lexeme) → test y ≡ true → LeadsAt (Some y) first first true (λ k. k) skip_opening (λ _. opening_is (token test))
  opened y e = at_by (λ p. given (skip_opening true p)) (opening_leads test e (λ u. give_leads u (sym (takes_nothing (opening_is (token test))))))

  some : Ends first first true (λ k. k) (λ (u : Unit {0}). opening_is (token test))
  some = ends_step (opening_counted test passed).is_one plain (give_leads tt (sym (takes_nothing (opening_is (token test))))).ends

-- ---- the number of the next token, brackets and outermost expressions

here_led : {first : Bool} {was : Option Lexeme} (q : Reading) → Led first first was was (λ k. here_is q.taken ⨾ k) q [] q
here_led q = record {
  again = λ k rest may. taken_then (here_is q.taken) k (put rest q) (put rest q) (rw (here_is, same_number q.taken) refl);
  quiet = λ rest may. may;
}

pub here_meets : {first : Bool} → Meets first first here here_is
here_meets = record {
  reached = λ p a after e. let o = read_same e in rw (o.0, o.1) (record { tokens = []; left = refl; taken = omega arith; led = here_led (within p) });
  ends = λ was r. ended_self r.taken (here_led r);
  halts = λ p fault token e. absurd cc;
  local = λ p. here_local;
}

enclosed_led : {first later : Bool} {was now : Option Lexeme} (is : Takes) {r q : Reading} {xs : List Lexeme} → Led first later was now (λ k. is ⨾ k) r xs q →
    Led first later was now (λ k. enclosed_is is ⨾ k) r xs (record q { open_brackets = r.open_brackets })
enclosed_led is {r = r} {q = q} {xs = xs} led = record {
  again = λ k rest may.
      taken_then (enclosed_is is) k (put (xs ++ rest) r) (record q { left = rest; open_brackets = r.open_brackets })
      (rw (enclosed_is, led_taken is led rest may) refl);
  quiet = led.quiet;
}

enclosed_ended : {A : Type 0} {first later : Bool} {was : Option Lexeme} {is : A → Takes} {r : Reading} {xs : List Lexeme} {over : Option ℕ} →
    Ended first later was is r xs over → Ended first later was (λ a. enclosed_is (is a)) r xs over
enclosed_ended {is = is} {r = r} e = record {
  tree = e.tree;
  more = e.more;
  after = record e.after { open_brackets = r.open_brackets };
  led = enclosed_led (is e.tree) e.led;
  stays = e.stays;
}

pub enclosed_meets : {A : Type 0} {first later : Bool} {reads : Reads A} {is : A → Takes} → Meets first later reads is →
    Meets first later (enclosed reads) (λ a. enclosed_is (is a))
enclosed_meets {A = A} {first = first} {later = later} {reads = reads} {is = is} inner = record {
  reached = λ p a after e.
      let q = bound (reads true p) (λ a after. Read a record after { open_brackets = p.open_brackets }) a after e in
      closed p a q.first after q.between (read_same q.then_read) (inner.reached p q.first q.between q.read);
  ends = λ was r. enclosed_ended (inner.ends was r);
  halts = λ p fault token e. halted p fault token (read_or_stopped (reads true p) (λ a after. Read a record after { open_brackets = p.open_brackets }) fault token e);
  local = λ p. enclosed_local (inner.local p);
}
  where
    closed : (p : Point) (a b : A) (after between : Point) → (a ≡ b) × (after ≡ record between { open_brackets = p.open_brackets }) →
        Reached first later (λ k. is b ⨾ k) (within p) (within between) → Reached first later (λ k. enclosed_is (is a) ⨾ k) (within p) (within after)
    closed p a b after between o there =
        rw (o.0, o.1) (record { tokens = there.tokens; left = there.left; taken = there.taken; led = enclosed_led (is b) there.led })

    halted : (p : Point) (fault : Fault) (token : ℕ) →
        ((a : A) × (q : Point) × (reads true p ≡ Read a q) × (◌≡◌ {A = Answer A} (Read a record q { open_brackets = p.open_brackets }) (Stopped fault token)))
        ⊎ (reads true p ≡ Stopped fault token) → Halted first later (λ a. enclosed_is (is a)) fault token (within p)
    halted p fault token (inl o) = absurd (let e = o.3 in cc)
    halted p fault token (inr e) =
        let h = inner.halts p fault token e in
        record { front = h.front; back = h.back; split = h.split; reaches = h.reaches; ended = enclosed_ended h.ended }

outermost_led : {first later : Bool} {was now : Option Lexeme} (is : Takes) {r q : Reading} {xs : List Lexeme} →
    Led first later was now (λ k. is ⨾ k) (record r { operators = 0 }) xs q → Led first later was now (λ k. outermost_is is ⨾ k) r xs q
outermost_led is led = record { again = led.again; quiet = led.quiet }

outermost_ended : {A : Type 0} {first later : Bool} {was : Option Lexeme} {is : A → Takes} {r : Reading} {xs : List Lexeme} {over : Option ℕ} →
    Ended first later was is (record r { operators = 0 }) xs over → Ended first later was (λ a. outermost_is (is a)) r xs over
outermost_ended {is = is} e = record { tree = e.tree; more = e.more; after = e.after; led = outermost_led (is e.tree) e.led; stays = e.stays }

pub outermost_meets : {A : Type 0} {first later : Bool} {reads : Reads A} {is : A → Takes} → Meets first later reads is →
    Meets first later (outermost reads) (λ a. outermost_is (is a))
outermost_meets {is = is} inner = record {
  reached = λ p a after e.
      let there = inner.reached (record p { operators = 0 }) a after e in
      record { tokens = there.tokens; left = there.left; taken = there.taken; led = outermost_led (is a) there.led };
  ends = λ was r. outermost_ended (inner.ends was (record r { operators = 0 }));
  halts = λ p fault token e.
      let h = inner.halts (record p { operators = 0 }) fault token e in
      record { front = h.front; back = h.back; split = h.split; reaches = h.reaches; ended = outermost_ended h.ended };
  local = λ p. outermost_local (inner.local (record p { operators = 0 }));
}

-- operators are counted anew from here on
pub outermost_leads : {B : Type 0} {first free later : Bool} {so_far : Takes → Takes} {reads : Reads B} {takes : B → Takes} →
    Leads first free later (λ k. so_far (outermost_is k)) reads takes → Leads first free later so_far (outermost reads) takes
outermost_leads {first = first} {free = free} {so_far = so_far} it = record {
  reached = λ r p before b after e. it.reached r (record p { operators = 0 }) (anew r (within p) before) b after e;
  ends = record { ends = λ was now r tokens q led. it.ends.ends was now r tokens (record q { operators = 0 }) (led_anew was now r tokens q led) };
  halts = λ r p before fault token e. it.halts r (record p { operators = 0 }) (anew r (within p) before) fault token e;
  local = λ r p before. outermost_local (it.local r (record p { operators = 0 }) (anew r (within p) before));
}
  where
    led_anew : (was now : Option Lexeme) (r : Reading) (tokens : List Lexeme) (q : Reading) → Led first free was now so_far r tokens q →
        Led first free was now (λ k. so_far (outermost_is k)) r tokens (record q { operators = 0 })
    led_anew was now r tokens q led = record { again = λ k rest may. led.again (outermost_is k) rest may; quiet = led.quiet }

    anew : (r q : Reading) → Reached first free so_far r q → Reached first free (λ k. so_far (outermost_is k)) r (record q { operators = 0 })
    anew r q before = record {
      tokens = before.tokens;
      left = before.left;
      taken = before.taken;
      led = led_anew (next r.left) (next q.left) r before.tokens q before.led;
    }
