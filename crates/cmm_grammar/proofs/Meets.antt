-- A reader meets the grammar: what it reads takes its tokens, where it stops some tree begins with the tokens gone through, and its answer
-- hangs on no token beyond the one that it looks at: for each way in which readers are put together.
use Rattle.std.proofs.Common.{◌≡◌, ℕ, ◌+◌, ◌-◌, ◌⊎◌, inl, inr, Bool, true, false, List, [], ◌∷◌, ◌++◌, length, take, Option, Some, None, refl, sym, ap, ◌∙◌, arith, subst, append_assoc, append-nil, length-append}
use Rattle.cmm_lexer.specs.declared.piece.Lexeme.{Lexeme}
use Rattle.cmm_grammar.specs.Taking.{Reading, Takes, ◌⨾◌, nothing, token}
use Rattle.cmm_grammar.specs.Reading.{Point, Fault, Unexpected, TooDeep, Answer, Read, Stopped, Reads, and_then, ◌>>=◌, give, stop, next, look, choice, passes, if_next, is_comma}
use Rattle.cmm_grammar.specs.ReadingLaws.{within}
use Rattle.cmm_grammar.specs.inside.Duties.{reach, Begun, Sound, Local, Viable}
use Rattle.cmm_grammar.proofs.Takings.{taken_then, takes_nothing, put}
use Rattle.cmm_grammar.proofs.Locals.{LocalAt, after_local, give_local, stop_local, local_by, look_local}

-- ---- what may follow

-- anything, or, after a list that would take it, no comma
abbrev pub Quiet : Bool → List Lexeme → Type 0
Quiet free rest = free ≡ false → passes is_comma (next rest) ≡ false

-- or the token that was next
abbrev pub May : Bool → Option Lexeme → List Lexeme → Type 0
May free was rest = (next rest ≡ was) ⊎ Quiet free rest

-- a token that may follow
abbrev pub Plain : Bool → Lexeme → Type 0
Plain free x = free ≡ false → is_comma x ≡ false

pub any_plain : (x : Lexeme) → Plain true x
any_plain x e = absurd cc

quiet_end : (free : Bool) (rest : List Lexeme) → May free None rest → Quiet free rest
quiet_end free rest (inl e) f = rw e refl
quiet_end free rest (inr q) f = q f

pub may_any : (was : Option Lexeme) (rest : List Lexeme) → May true was rest
may_any was rest = inr (λ e. absurd cc)

-- ---- what has been taken

-- these tokens take one reading to the other, before whatever may follow, and may themselves follow what was before
pub record Led (first free : Bool) (was now : Option Lexeme) (so_far : Takes → Takes) (r : Reading) (tokens : List Lexeme) (q : Reading) : Type 0 where
  pub again : (k : Takes) (rest : List Lexeme) → May free now rest → so_far k (put (tokens ++ rest) r) ≡ k (put rest q)
  pub quiet : (rest : List Lexeme) → May free now rest → May first was (tokens ++ rest)

-- and they were the next ones
pub record Reached (first free : Bool) (so_far : Takes → Takes) (r q : Reading) : Type 0 where
  pub tokens : List Lexeme
  pub left : r.left ≡ tokens ++ q.left
  pub taken : q.taken ≡ length tokens + r.taken
  pub led : Led first free (next r.left) (next q.left) so_far r tokens q

-- a tree that begins with these tokens, where a token over a limit stays the first
pub record Ended {B : Type 0} (first later : Bool) (was : Option Lexeme) (takes : B → Takes) (r : Reading) (tokens : List Lexeme) (over : Option ℕ) : Type 0 where
  pub tree : B
  pub more : List Lexeme
  pub after : Reading
  pub led : Led first later was None (λ k. takes tree ⨾ k) r (tokens ++ more) after
  pub stays : (token : ℕ) → over ≡ Some token → after.over ≡ Some token

-- some tree goes on from whatever has been taken
pub record Ends {B : Type 0} (first free later : Bool) (so_far : Takes → Takes) (takes : B → Takes) : Type 0 where
  pub ends : (was now : Option Lexeme) (r : Reading) (tokens : List Lexeme) (q : Reading) → Led first free was now so_far r tokens q →
      Ended first later was takes r tokens q.over

-- the token over a limit, if that is why a reader stops
abbrev pub over_at : Fault → ℕ → Option ℕ
over_at Unexpected token = None
over_at TooDeep token = Some token

-- a reader that stops at this token has gone through these ones, and some tree begins with them
pub record Halted {B : Type 0} (first later : Bool) (takes : B → Takes) (fault : Fault) (token : ℕ) (r : Reading) : Type 0 where
  pub front : List Lexeme
  pub back : List Lexeme
  pub split : r.left ≡ front ++ back
  pub reaches : length front + r.taken ≡ reach fault token
  pub ended : Ended first later (next r.left) takes r front (over_at fault token)

-- after a part is read, of which `so_far` says what a tree that goes on with other tokens takes: what is read takes its tokens
-- before whatever may follow, there is a tree that goes on, and one that begins with the tokens gone through where the reader stops;
-- and no answer hangs on a token beyond the one that is looked at.
-- The flags say that anything may stand before the first token (`first`), before the next one (`free`) and after the last (`later`);
-- where a flag is false a list stands there, which a comma would go on.
pub record Leads {B : Type 0} (first free later : Bool) (so_far : Takes → Takes) (reads : Reads B) (takes : B → Takes) : Type 0 where
  pub reached : (r : Reading) (p : Point) → Reached first free so_far r (within p) → (b : B) (after : Point) → reads true p ≡ Read b after →
      Reached first later (λ k. takes b ⨾ k) r (within after)
  pub ends : Ends first free later so_far takes
  pub halts : (r : Reading) (p : Point) → Reached first free so_far r (within p) → (fault : Fault) (token : ℕ) →
      reads true p ≡ Stopped fault token → Halted first later takes fault token r
  pub local : (r : Reading) (p : Point) → Reached first free so_far r (within p) → LocalAt reads p

-- the same where this is the next token
pub record LeadsAt {B : Type 0} (x : Option Lexeme) (first free later : Bool) (so_far : Takes → Takes) (reads : Reads B) (takes : B → Takes) : Type 0 where
  pub reached : (r : Reading) (p : Point) → next p.left ≡ x → Reached first free so_far r (within p) → (b : B) (after : Point) →
      reads true p ≡ Read b after → Reached first later (λ k. takes b ⨾ k) r (within after)
  pub halts : (r : Reading) (p : Point) → next p.left ≡ x → Reached first free so_far r (within p) → (fault : Fault) (token : ℕ) →
      reads true p ≡ Stopped fault token → Halted first later takes fault token r
  pub local : (r : Reading) (p : Point) → next p.left ≡ x → Reached first free so_far r (within p) → LocalAt reads p

-- a whole reader, which so is sound, local and stops no later than it must
pub record Meets {A : Type 0} (first later : Bool) (reads : Reads A) (takes : A → Takes) : Type 0 where
  pub reached : (p : Point) (a : A) (after : Point) → reads true p ≡ Read a after → Reached first later (λ k. takes a ⨾ k) (within p) (within after)
  pub ends : (was : Option Lexeme) (r : Reading) → Ended first later was takes r [] r.over
  pub halts : (p : Point) (fault : Fault) (token : ℕ) → reads true p ≡ Stopped fault token → Halted first later takes fault token (within p)
  pub local : (p : Point) → LocalAt reads p

-- ---- what has been taken, and more

led_self : {first : Bool} {was : Option Lexeme} {r : Reading} → Led first first was was (λ k. k) r [] r
led_self = record { again = λ k rest may. refl; quiet = λ rest may. may }

led_join : {first free later : Bool} {was between now : Option Lexeme} {so_far : Takes → Takes} (is : Takes) {r p q : Reading} {xs ys : List Lexeme} →
    Led first free was between so_far r xs p → Led free later between now (λ k. is ⨾ k) p ys q → Led first later was now (λ k. so_far (is ⨾ k)) r (xs ++ ys) q
led_join {first = first} {was = was} {so_far = so_far} is {r = r} {xs = xs} {ys = ys} one two = record {
  again = λ k rest may.
      ap (λ t. so_far (is ⨾ k) (put t r)) (append_assoc xs ys rest) ∙ one.again (is ⨾ k) (ys ++ rest) (two.quiet rest may) ∙ two.again k rest may;
  quiet = λ rest may. subst (λ t. May first was t) (sym (append_assoc xs ys rest)) (one.quiet (ys ++ rest) (two.quiet rest may));
}

-- what is left beside the tokens does not count
pub led_put : {first free : Bool} {was now : Option Lexeme} {so_far : Takes → Takes} {r q : Reading} {xs left : List Lexeme} →
    Led first free was now so_far r xs q → Led first free was now so_far r xs (put left q)
led_put led = record { again = led.again; quiet = led.quiet }

-- a whole tree
led_finish : {first free : Bool} {was now : Option Lexeme} {so_far : Takes → Takes} (is : Takes) {r q : Reading} {xs : List Lexeme} →
    is ≡ so_far nothing → Led first free was now so_far r xs q → Led first free was now (λ k. is ⨾ k) r xs q
led_finish is {r = r} {q = q} {xs = xs} same led = record {
  again = λ k rest may.
      taken_then is k (put (xs ++ rest) r) (put rest q) (ap (λ t. t (put (xs ++ rest) r)) same ∙ led.again nothing rest may);
  quiet = led.quiet;
}

pub led_taken : {first free : Bool} {was now : Option Lexeme} (is : Takes) {r q : Reading} {xs : List Lexeme} → Led first free was now (λ k. is ⨾ k) r xs q →
    (rest : List Lexeme) → May free now rest → is (put (xs ++ rest) r) ≡ Some (put rest q)
led_taken is {r = r} {xs = xs} led rest may = ap (λ t. t (put (xs ++ rest) r)) (sym (takes_nothing is)) ∙ led.again nothing rest may

reached_self : {first : Bool} {r : Reading} → Reached first first (λ k. k) r r
reached_self = record { tokens = []; left = refl; taken = omega arith; led = led_self }

reached_join : {first free later : Bool} {so_far : Takes → Takes} (is : Takes) {r p q : Reading} → Reached first free so_far r p →
    Reached free later (λ k. is ⨾ k) p q → Reached first later (λ k. so_far (is ⨾ k)) r q
reached_join is {q = q} one two =
    let count : length (one.tokens ++ two.tokens) ≡ length one.tokens + length two.tokens = length-append one.tokens two.tokens in
    let a = one.taken in
    let b = two.taken in
    record {
      tokens = one.tokens ++ two.tokens;
      left = one.left ∙ ap (λ t. one.tokens ++ t) two.left ∙ sym (append_assoc one.tokens two.tokens q.left);
      taken = omega arith;
      led = led_join is one.led two.led;
    }

pub ended_self : {B : Type 0} {first free : Bool} {was now : Option Lexeme} {takes : B → Takes} {r q : Reading} {xs : List Lexeme} (b : B) →
    Led first free was now (λ k. takes b ⨾ k) r xs q → Ended first free was takes r xs q.over
ended_self {first = first} {free = free} {was = was} {takes = takes} {r = r} {q = q} {xs = xs} b led = record {
  tree = b;
  more = [];
  after = q;
  led = subst (λ t. Led first free was None (λ k. takes b ⨾ k) r t q) (sym (append-nil xs))
      (record { again = λ k rest may. led.again k rest (inr (quiet_end free rest may)); quiet = λ rest may. led.quiet rest (inr (quiet_end free rest may)) });
  stays = λ token over. over;
}

-- a tree of a part, and one that goes on from it
ended_then : {A B : Type 0} {first middle later : Bool} {was : Option Lexeme} {is : A → Takes} {takes : B → Takes} {r : Reading} {xs : List Lexeme}
    {over : Option ℕ} → Ended first middle was is r xs over → ((a : A) → Ends first middle later (λ k. is a ⨾ k) takes) →
    Ended first later was takes r xs over
ended_then {first = first} {later = later} {was = was} {takes = takes} {r = r} {xs = xs} one then_ =
    let e = (then_ one.tree).ends was None r (xs ++ one.more) one.after one.led in
    record {
      tree = e.tree;
      more = one.more ++ e.more;
      after = e.after;
      led = subst (λ t. Led first later was None (λ k. takes e.tree ⨾ k) r t e.after) (append_assoc xs one.more e.more) e.led;
      stays = λ token over. e.stays token (one.stays token over);
    }

regrouped : (xs ys ms ns : List Lexeme) → ((xs ++ (ys ++ ms)) ++ ns) ≡ ((xs ++ ys) ++ (ms ++ ns))
regrouped xs ys ms ns = ap (λ t. t ++ ns) (sym (append_assoc xs ys ms)) ∙ append_assoc (xs ++ ys) ms ns

ended_join : {A B : Type 0} {first free middle later : Bool} {was between : Option Lexeme} {so_far : Takes → Takes} {is : A → Takes} {takes : B → Takes}
    {r p : Reading} {xs ys : List Lexeme} {over : Option ℕ} → Led first free was between so_far r xs p → Ended free middle between is p ys over →
    ((a : A) → Ends first middle later (λ k. so_far (is a ⨾ k)) takes) → Ended first later was takes r (xs ++ ys) over
ended_join {first = first} {later = later} {was = was} {is = is} {takes = takes} {r = r} {xs = xs} {ys = ys} one two then_ =
    let e = (then_ two.tree).ends was None r (xs ++ (ys ++ two.more)) two.after (led_join (is two.tree) one two.led) in
    record {
      tree = e.tree;
      more = two.more ++ e.more;
      after = e.after;
      led = subst (λ t. Led first later was None (λ k. takes e.tree ⨾ k) r t e.after) (regrouped xs ys two.more e.more) e.led;
      stays = λ token over. e.stays token (two.stays token over);
    }

-- ---- one after the other

-- what was read first, and what after
pub record Bound {A B : Type 0} (answer : Answer A) (rest : A → Point → Answer B) (b : B) (after : Point) : Type 0 where
  pub first : A
  pub between : Point
  pub read : answer ≡ Read first between
  pub then_read : rest first between ≡ Read b after

pub bound : {A B : Type 0} (answer : Answer A) (rest : A → Point → Answer B) (b : B) (after : Point) → and_then answer rest ≡ Read b after →
    Bound answer rest b after
bound (Read a p) rest b after e = record { first = a; between = p; read = refl; then_read = e }
bound (Stopped f k) rest b after e = absurd cc

pub read_same : {A : Type 0} {a b : A} {p q : Point} → Read a p ≡ Read b q → (b ≡ a) × (q ≡ p)
read_same e = (cc, cc)

-- what an answer comes of
pub read_or_stopped : {A B : Type 0} (answer : Answer A) (rest : A → Point → Answer B) (fault : Fault) (token : ℕ) → and_then answer rest ≡ Stopped fault token →
    ((a : A) × (p : Point) × (answer ≡ Read a p) × (rest a p ≡ Stopped fault token)) ⊎ (answer ≡ Stopped fault token)
read_or_stopped (Read a p) rest fault token e = inl (a, p, refl, e)
read_or_stopped (Stopped f t) rest fault token e = let same : (f ≡ fault) × (t ≡ token) = (cc, cc) in inr (rw (same.0, same.1) refl)

-- after a part that is a whole
pub after_leads : {A B : Type 0} {first free middle later : Bool} {so_far : Takes → Takes} {reads : Reads A} {is : A → Takes} {rest : A → Reads B} {takes : B → Takes} →
    Meets free middle reads is → ((a : A) → Leads first middle later (λ k. so_far (is a ⨾ k)) (rest a) takes) →
    Leads first free later so_far (reads >>= rest) takes
after_leads {A = A} {first = first} {free = free} {later = later} {so_far = so_far} {reads = reads} {is = is} {rest = rest} {takes = takes} one then_ = record {
  reached = λ r p before b after e.
      let q = bound (reads true p) (λ a after. rest a true after) b after e in
      (then_ q.first).reached r q.between (reached_join (is q.first) before (one.reached p q.first q.between q.read)) b after q.then_read;
  ends = record {
    ends = λ was now r tokens q led.
        subst (λ t. Ended first later was takes r t q.over) (append-nil tokens) (ended_join led (one.ends now q) (λ a. (then_ a).ends));
  };
  halts = λ r p before fault token e. halted r p before fault token (read_or_stopped (reads true p) (λ a after. rest a true after) fault token e);
  local = λ r p before. after_local (one.local p) (λ a mid e. (then_ a).local r mid (reached_join (is a) before (one.reached p a mid e)));
}
  where
    halted : (r : Reading) (p : Point) → Reached first free so_far r (within p) → (fault : Fault) (token : ℕ) →
        ((a : A) × (q : Point) × (reads true p ≡ Read a q) × (rest a true q ≡ Stopped fault token)) ⊎ (reads true p ≡ Stopped fault token) →
        Halted first later takes fault token r
    halted r p before fault token (inl o) = (then_ o.0).halts r o.1 (reached_join (is o.0) before (one.reached p o.0 o.1 o.2)) fault token o.3
    halted r p before fault token (inr e) =
        let h = one.halts p fault token e in
        let count : length (before.tokens ++ h.front) ≡ length before.tokens + length h.front = length-append before.tokens h.front in
        let a = before.taken in
        let b = h.reaches in
        record {
          front = before.tokens ++ h.front;
          back = h.back;
          split = before.left ∙ ap (λ t. before.tokens ++ t) h.split ∙ sym (append_assoc before.tokens h.front h.back);
          reaches = omega arith;
          ended = ended_join before.led h.ended (λ a. (then_ a).ends);
        }

-- after a part of which the whole so far is a tree
pub then_leads : {A B : Type 0} {first free middle later : Bool} {so_far : Takes → Takes} {reads : Reads A} {is : A → Takes} {rest : A → Reads B} {takes : B → Takes} →
    Leads first free middle so_far reads is → ((a : A) → Leads first middle later (λ k. is a ⨾ k) (rest a) takes) →
    Leads first free later so_far (reads >>= rest) takes
then_leads {A = A} {first = first} {free = free} {later = later} {so_far = so_far} {reads = reads} {rest = rest} {takes = takes} one then_ = record {
  reached = λ r p before b after e.
      let q = bound (reads true p) (λ a after. rest a true after) b after e in
      (then_ q.first).reached r q.between (one.reached r p before q.first q.between q.read) b after q.then_read;
  ends = record { ends = λ was now r tokens q led. ended_then (one.ends.ends was now r tokens q led) (λ a. (then_ a).ends) };
  halts = λ r p before fault token e. halted r p before fault token (read_or_stopped (reads true p) (λ a after. rest a true after) fault token e);
  local = λ r p before. after_local (one.local r p before) (λ a mid e. (then_ a).local r mid (one.reached r p before a mid e));
}
  where
    halted : (r : Reading) (p : Point) → Reached first free so_far r (within p) → (fault : Fault) (token : ℕ) →
        ((a : A) × (q : Point) × (reads true p ≡ Read a q) × (rest a true q ≡ Stopped fault token)) ⊎ (reads true p ≡ Stopped fault token) →
        Halted first later takes fault token r
    halted r p before fault token (inl o) = (then_ o.0).halts r o.1 (one.reached r p before o.0 o.1 o.2) fault token o.3
    halted r p before fault token (inr e) =
        let h = one.halts r p before fault token e in
        record { front = h.front; back = h.back; split = h.split; reaches = h.reaches; ended = ended_then h.ended (λ a. (then_ a).ends) }

-- the whole, where nothing was read before
pub whole_meets : {A : Type 0} {first later : Bool} {reads : Reads A} {takes : A → Takes} → Leads first first later (λ k. k) reads takes →
    Meets first later reads takes
whole_meets it = record {
  reached = λ p a after e. it.reached (within p) p reached_self a after e;
  ends = λ was r. it.ends.ends was was r [] r led_self;
  halts = λ p fault token e. it.halts (within p) p reached_self fault token e;
  local = λ p. it.local (within p) p reached_self;
}

-- nothing more is read
pub give_leads : {B : Type 0} {first free : Bool} {so_far : Takes → Takes} {takes : B → Takes} (b : B) → takes b ≡ so_far nothing →
    Leads first free free so_far (give b) takes
give_leads {takes = takes} b same = record {
  reached = λ r p before c after e.
      let o = read_same e in
      rw (o.0, o.1) (record { tokens = before.tokens; left = before.left; taken = before.taken; led = led_finish (takes b) same before.led });
  ends = record { ends = λ was now r tokens q led. ended_self b (led_finish (takes b) same led) };
  halts = λ r p before fault token e. absurd cc;
  local = λ r p before. give_local b;
}

-- the last part, of which the tree is made
pub last_leads : {A B : Type 0} {first free later : Bool} {so_far : Takes → Takes} {reads : Reads A} {is : A → Takes} {takes : B → Takes} (make : A → B) →
    Meets free later reads is → ((a : A) → takes (make a) ≡ so_far (is a)) → Leads first free later so_far (reads >>= λ a. give (make a)) takes
last_leads {so_far = so_far} {is = is} make last same =
    after_leads last (λ a. give_leads (make a) (same a ∙ ap (λ t. so_far t) (sym (takes_nothing (is a)))))

-- the last part, of which the tree is made, where it goes on with what was read before
pub made_leads : {A B : Type 0} {first free later : Bool} {so_far : Takes → Takes} {reads : Reads A} {is : A → Takes} {takes : B → Takes} (make : A → B) →
    Leads first free later so_far reads is → ((a : A) → takes (make a) ≡ is a) → Leads first free later so_far (reads >>= λ a. give (make a)) takes
made_leads {is = is} make last same = then_leads last (λ a. give_leads (make a) (same a ∙ sym (takes_nothing (is a))))

-- a reader that answers the same
pub leads_by : {B : Type 0} {first free later : Bool} {so_far : Takes → Takes} {reads other : Reads B} {takes : B → Takes} →
    ((p : Point) → reads true p ≡ other true p) → Leads first free later so_far other takes → Leads first free later so_far reads takes
leads_by same it = record {
  reached = λ r p before b after e. it.reached r p before b after (sym (same p) ∙ e);
  ends = it.ends;
  halts = λ r p before fault token e. it.halts r p before fault token (sym (same p) ∙ e);
  local = λ r p before. local_by same (it.local r p before);
}

pub at_by : {B : Type 0} {x : Option Lexeme} {first free later : Bool} {so_far : Takes → Takes} {reads other : Reads B} {takes : B → Takes} →
    ((p : Point) → reads true p ≡ other true p) → LeadsAt x first free later so_far other takes → LeadsAt x first free later so_far reads takes
at_by same it = record {
  reached = λ r p is before b after e. it.reached r p is before b after (sym (same p) ∙ e);
  halts = λ r p is before fault token e. it.halts r p is before fault token (sym (same p) ∙ e);
  local = λ r p is before. local_by same (it.local r p is before);
}

-- or as one of two
pub at_either : {B : Type 0} {x : Option Lexeme} {first free later : Bool} {so_far : Takes → Takes} {reads one other : Reads B} {takes : B → Takes} →
    ((p : Point) → (reads true p ≡ one true p) ⊎ (reads true p ≡ other true p)) →
    ((r : Reading) (p : Point) → next p.left ≡ x → Reached first free so_far r (within p) → LocalAt reads p) → LeadsAt x first free later so_far one takes →
    LeadsAt x first free later so_far other takes → LeadsAt x first free later so_far reads takes
at_either {B = B} {x = x} {first = first} {free = free} {later = later} {so_far = so_far} {reads = reads} {one = one} {other = other} {takes = takes} same at it its = record {
  reached = λ r p is before b after e. reached r p is before b after e (same p);
  halts = λ r p is before fault token e. halts r p is before fault token e (same p);
  local = at;
}
  where
    reached : (r : Reading) (p : Point) → next p.left ≡ x → Reached first free so_far r (within p) → (b : B) (after : Point) → reads true p ≡ Read b after →
        (reads true p ≡ one true p) ⊎ (reads true p ≡ other true p) → Reached first later (λ k. takes b ⨾ k) r (within after)
    reached r p is before b after e (inl s) = it.reached r p is before b after (sym s ∙ e)
    reached r p is before b after e (inr s) = its.reached r p is before b after (sym s ∙ e)

    halts : (r : Reading) (p : Point) → next p.left ≡ x → Reached first free so_far r (within p) → (fault : Fault) (token : ℕ) → reads true p ≡ Stopped fault token →
        (reads true p ≡ one true p) ⊎ (reads true p ≡ other true p) → Halted first later takes fault token r
    halts r p is before fault token e (inl s) = it.halts r p is before fault token (sym s ∙ e)
    halts r p is before fault token e (inr s) = its.halts r p is before fault token (sym s ∙ e)

pub given : {A : Type 0} (answer : Answer A) → answer ≡ and_then answer (λ a after. Read a after)
given (Read a p) = refl
given (Stopped f t) = refl

-- the last part, which is the tree
pub same_leads : {B : Type 0} {first free later : Bool} {so_far : Takes → Takes} {reads : Reads B} {is : B → Takes} {takes : B → Takes} →
    Meets free later reads is → ((b : B) → takes b ≡ so_far (is b)) → Leads first free later so_far reads takes
same_leads {reads = reads} last same = leads_by (λ p. given (reads true p)) (last_leads (λ b. b) last same)

-- trees that take the same
pub meets_same : {A : Type 0} {first later : Bool} {reads : Reads A} {takes other : A → Takes} → ((a : A) → takes a ≡ other a) →
    Meets first later reads other → Meets first later reads takes
meets_same same it = whole_meets (same_leads it same)

-- where trees go on as other ones do at the tokens that have been taken
pub leads_led : {B : Type 0} {first free later : Bool} {so_far other : Takes → Takes} {reads : Reads B} {takes : B → Takes} →
    ((was now : Option Lexeme) (r : Reading) (tokens : List Lexeme) (q : Reading) → Led first free was now so_far r tokens q → Led first free was now other r tokens q) →
    Leads first free later other reads takes → Leads first free later so_far reads takes
leads_led {first = first} {free = free} {so_far = so_far} {other = other} led it = record {
  reached = λ r p before b after e. it.reached r p (reached r (within p) before) b after e;
  ends = record { ends = λ was now r tokens q before. it.ends.ends was now r tokens q (led was now r tokens q before) };
  halts = λ r p before fault token e. it.halts r p (reached r (within p) before) fault token e;
  local = λ r p before. it.local r p (reached r (within p) before);
}
  where
    reached : (r q : Reading) → Reached first free so_far r q → Reached first free other r q
    reached r q before = record { tokens = before.tokens; left = before.left; taken = before.taken; led = led (next r.left) (next q.left) r before.tokens q before.led }

-- or at all
pub leads_same : {B : Type 0} {first free later : Bool} {so_far other : Takes → Takes} {reads : Reads B} {takes : B → Takes} →
    ((k : Takes) → so_far k ≡ other k) → Leads first free later other reads takes → Leads first free later so_far reads takes
leads_same same it =
    leads_led (λ was now r tokens q before. record {
      again = λ k rest may. ap (λ t. t (put (tokens ++ rest) r)) (sym (same k)) ∙ before.again k rest may;
      quiet = before.quiet;
    }) it

-- nothing is read from where nothing goes on
pub never_leads : {B : Type 0} {first free later : Bool} {so_far : Takes → Takes} {reads : Reads B} {takes : B → Takes} →
    ((k : Takes) (r : Reading) → so_far k r ≡ None) → Leads first free later so_far reads takes
never_leads {first = first} {free = free} {so_far = so_far} none = record {
  reached = λ r p before b after e. absurd (never (next r.left) (next p.left) r before.tokens (within p) before.led);
  ends = record { ends = λ was now r tokens q led. absurd (never was now r tokens q led) };
  halts = λ r p before fault token e. absurd (never (next r.left) (next p.left) r before.tokens (within p) before.led);
  local = λ r p before. absurd (never (next r.left) (next p.left) r before.tokens (within p) before.led);
}
  where
    some : (now : Option Lexeme) → (rest : List Lexeme) × (next rest ≡ now)
    some (Some x) = (x ∷ [], refl)
    some None = ([], refl)

    never : (was now : Option Lexeme) (r : Reading) (tokens : List Lexeme) (q : Reading) → Led first free was now so_far r tokens q → ⊥
    never was now r tokens q led =
        let o = some now in
        let e = led.again nothing o.0 (inl o.1) in
        let f = none nothing (put (tokens ++ o.0) r) in
        absurd (let g = sym f ∙ e in cc)

-- ---- by the next token

pub at_leads : {B : Type 0} {x : Option Lexeme} {first free later : Bool} {so_far : Takes → Takes} {reads : Reads B} {takes : B → Takes} →
    Leads first free later so_far reads takes → LeadsAt x first free later so_far reads takes
at_leads it = record { reached = λ r p is. it.reached r p; halts = λ r p is. it.halts r p; local = λ r p is. it.local r p }

pub look_leads : {B : Type 0} {first free later : Bool} {so_far : Takes → Takes} {by : Option Lexeme → Reads B} {takes : B → Takes} →
    Ends first free later so_far takes → ((x : Option Lexeme) → LeadsAt x first free later so_far (by x) takes) →
    Leads first free later so_far (look by) takes
look_leads {by = by} ends each = record {
  reached = λ r p before b after e. (each (next p.left)).reached r p refl before b after e;
  ends = ends;
  halts = λ r p before fault token e. (each (next p.left)).halts r p refl before fault token e;
  local = λ r p before. look_local by ((each (next p.left)).local r p refl before);
}

pub stopped_same : {A : Type 0} {f g : Fault} {t s : ℕ} → ◌≡◌ {A = Answer A} (Stopped f t) (Stopped g s) → (g ≡ f) × (s ≡ t)
stopped_same e = (cc, cc)

-- a reader may stop wherever some tree goes on
pub stop_leads : {B : Type 0} {first free later : Bool} {so_far : Takes → Takes} {takes : B → Takes} → Ends first free later so_far takes →
    Leads first free later so_far stop takes
stop_leads ends = record {
  reached = λ r p before b after e. absurd cc;
  ends = ends;
  halts = λ r p before fault token e.
      let o = stopped_same e in
      rw (o.0, o.1) (record {
        front = before.tokens;
        back = p.left;
        split = before.left;
        reaches = sym before.taken;
        ended = ends.ends (next r.left) (next p.left) r before.tokens (within p) before.led;
      });
  local = λ r p before. stop_local;
}

by_choice : {B : Type 0} (test : Bool) {x : Option Lexeme} {first free later : Bool} {so_far : Takes → Takes} {holds fails : Reads B} {takes : B → Takes} →
    (test ≡ true → LeadsAt x first free later so_far holds takes) → (test ≡ false → LeadsAt x first free later so_far fails takes) →
    LeadsAt x first free later so_far (choice test holds fails) takes
by_choice true h f = h refl
by_choice false h f = f refl

pub choice_leads : {B : Type 0} {test : Bool} {x : Option Lexeme} {first free later : Bool} {so_far : Takes → Takes} {holds fails : Reads B} {takes : B → Takes} →
    (test ≡ true → LeadsAt x first free later so_far holds takes) → (test ≡ false → LeadsAt x first free later so_far fails takes) →
    LeadsAt x first free later so_far (choice test holds fails) takes
choice_leads h f = by_choice _ h f

by_next : {B : Type 0} (test : Lexeme → Bool) {first free later : Bool} {so_far : Takes → Takes} {holds fails : Reads B} {takes : B → Takes} →
    ((x : Lexeme) → test x ≡ true → LeadsAt (Some x) first free later so_far holds takes) →
    ((x : Option Lexeme) → passes test x ≡ false → LeadsAt x first free later so_far fails takes) → (x : Option Lexeme) →
    LeadsAt x first free later so_far (choice (passes test x) holds fails) takes
by_next test h f (Some x) = choice_leads (h x) (f (Some x))
by_next test h f None = f None refl

pub next_leads : {B : Type 0} {test : Lexeme → Bool} {first free later : Bool} {so_far : Takes → Takes} {holds fails : Reads B} {takes : B → Takes} →
    Ends first free later so_far takes → ((x : Lexeme) → test x ≡ true → LeadsAt (Some x) first free later so_far holds takes) →
    ((x : Option Lexeme) → passes test x ≡ false → LeadsAt x first free later so_far fails takes) →
    Leads first free later so_far (if_next test holds fails) takes
next_leads ends h f = look_leads ends (by_next _ h f)

-- where both go on whatever the token is
pub if_next_leads : {B : Type 0} {first free later : Bool} {so_far : Takes → Takes} {holds fails : Reads B} {takes : B → Takes} (test : Lexeme → Bool) →
    Leads first free later so_far holds takes → Leads first free later so_far fails takes → Leads first free later so_far (if_next test holds fails) takes
if_next_leads test h f = next_leads f.ends (λ x passed. at_leads h) (λ x none. at_leads f)

-- ---- where less may follow

led_later : {first : Bool} {was now : Option Lexeme} {so_far : Takes → Takes} {r q : Reading} {xs : List Lexeme} (later : Bool) →
    Led first true was now so_far r xs q → Led first later was now so_far r xs q
led_later {now = now} later it = record {
  again = λ k rest may. it.again k rest (may_any now rest);
  quiet = λ rest may. it.quiet rest (may_any now rest);
}

reached_later : {first : Bool} {so_far : Takes → Takes} {r q : Reading} (later : Bool) → Reached first true so_far r q → Reached first later so_far r q
reached_later later it = record { tokens = it.tokens; left = it.left; taken = it.taken; led = led_later later it.led }

ended_later : {A : Type 0} {first : Bool} {was : Option Lexeme} {takes : A → Takes} {r : Reading} {xs : List Lexeme} {over : Option ℕ} (later : Bool) →
    Ended first true was takes r xs over → Ended first later was takes r xs over
ended_later later e = record { tree = e.tree; more = e.more; after = e.after; led = led_later later e.led; stays = e.stays }

halted_later : {A : Type 0} {first : Bool} {takes : A → Takes} {fault : Fault} {token : ℕ} {r : Reading} (later : Bool) →
    Halted first true takes fault token r → Halted first later takes fault token r
halted_later later h = record { front = h.front; back = h.back; split = h.split; reaches = h.reaches; ended = ended_later later h.ended }

-- what may follow a list may follow this too
pub meets_later : {A : Type 0} {first : Bool} {reads : Reads A} {takes : A → Takes} (later : Bool) → Meets first true reads takes → Meets first later reads takes
meets_later later it = record {
  reached = λ p a after e. reached_later later (it.reached p a after e);
  ends = λ was r. ended_later later (it.ends was r);
  halts = λ p fault token e. halted_later later (it.halts p fault token e);
  local = it.local;
}

-- what may stand after a list may stand after anything
pub meets_first : {A : Type 0} {first later : Bool} {reads : Reads A} {takes : A → Takes} → Meets first later reads takes → Meets true later reads takes
meets_first {first = first} {later = later} {takes = takes} it = record {
  reached = λ p a after e.
      let there = it.reached p a after e in
      record { tokens = there.tokens; left = there.left; taken = there.taken; led = led (takes a) there.led };
  ends = λ was r. ended (it.ends was r);
  halts = λ p fault token e.
      let h = it.halts p fault token e in
      record { front = h.front; back = h.back; split = h.split; reaches = h.reaches; ended = ended h.ended };
  local = it.local;
}
  where
    led : {was now : Option Lexeme} {r q : Reading} {xs : List Lexeme} (is : Takes) → Led first later was now (λ k. is ⨾ k) r xs q →
        Led true later was now (λ k. is ⨾ k) r xs q
    led {was = was} {xs = xs} is it = record { again = it.again; quiet = λ rest may. may_any was (xs ++ rest) }

    ended : {was : Option Lexeme} {r : Reading} {xs : List Lexeme} {over : Option ℕ} → Ended first later was takes r xs over → Ended true later was takes r xs over
    ended e = record { tree = e.tree; more = e.more; after = e.after; led = led (takes e.tree) e.led; stays = e.stays }

pub leads_later : {A : Type 0} {first free : Bool} {so_far : Takes → Takes} {reads : Reads A} {takes : A → Takes} (later : Bool) →
    Leads first free true so_far reads takes → Leads first free later so_far reads takes
leads_later later it = record {
  reached = λ r p before a after e. reached_later later (it.reached r p before a after e);
  ends = record { ends = λ was now r tokens q led. ended_later later (it.ends.ends was now r tokens q led) };
  halts = λ r p before fault token e. halted_later later (it.halts r p before fault token e);
  local = it.local;
}

-- ---- what this says of a reader

take_front : (xs ys : List Lexeme) → take (length xs) (xs ++ ys) ≡ xs
take_front [] ys = refl
take_front (x ∷ xs) ys = ap (λ t. x ∷ t) (take_front xs ys)

over_there : (fault : Fault) (token : ℕ) → fault ≡ TooDeep → over_at fault token ≡ Some token
over_there Unexpected token e = absurd cc
over_there TooDeep token e = refl

-- what is read is a tree of the tokens that are taken
pub is_sound : {A : Type 0} {first later : Bool} {reads : Reads A} {takes : A → Takes} → Meets first later reads takes → Sound reads takes
is_sound {takes = takes} it = record {
  sound = λ p a after e.
      let there = it.reached p a after e in
      ap (λ t. takes a (put t (within p))) there.left ∙ led_taken (takes a) there.led after.left (inl refl);
}

-- the answer hangs on no token beyond the one that the reader looks at
pub is_local : {A : Type 0} {first later : Bool} {reads : Reads A} {takes : A → Takes} → Meets first later reads takes → Local reads
is_local it = record { local = λ token p q same. (it.local p).local token q same }

-- it stops no later than it must
pub is_viable : {A : Type 0} {first later : Bool} {reads : Reads A} {takes : A → Takes} → Meets first later reads takes → Viable reads takes
is_viable {A = A} {first = first} {later = later} {takes = takes} it = record {
  viable = λ p fault token e. begun p fault token (it.halts p fault token e);
}
  where
    begun : (p : Point) (fault : Fault) (token : ℕ) → Halted first later takes fault token (within p) → Begun takes fault token p
    begun p fault token h =
        let tree = h.ended.tree in
        let more = h.ended.more in
        let after = h.ended.after in
        let a = h.reaches in
        let b : length p.left ≡ length h.front + length h.back = ap length h.split ∙ length-append h.front h.back in
        let n : reach fault token - p.taken ≡ length h.front = omega arith in
        let front : take (reach fault token - p.taken) p.left ≡ h.front =
        ap (λ t. take t p.left) n ∙ ap (λ t. take (length h.front) t) h.split ∙ take_front h.front h.back
        in
        let all = led_taken (takes tree) h.ended.led [] (inr (λ e. refl)) in
        record {
          tree = tree;
          more = more;
          after = put [] after;
          taken = ap (λ t. takes tree (put (t ++ more) (within p))) front ∙ ap (λ t. takes tree (put t (within p))) (sym (append-nil (h.front ++ more))) ∙ all;
          all = refl;
          over = λ deep. h.ended.stays token (over_there fault token deep);
          from = omega arith;
          up_to = omega arith;
        }
