-- One step after another: where a part is answered, and then the rest.
use Rattle.std.proofs.Common.{◌≡◌, ◌∙◌, sym, ap, refl, subst, ℕ, zero, suc, pred, ◌<◌, ◌≤◌, Bool, true, false, Option, Some, None, option_map, length, Result, Ok, Err, OnOk, IsErrAnd, arith}
use Rattle.cmm_lexer.specs.declared.piece.Lexeme.{Lexeme}
use Rattle.cmm_grammar.specs.Reading.{Point, Answer, Read, Reads, ◌>>=◌, next, passes, and_then, choice, if_next, skip, give, symbol, in_brackets, outermost, look, here, Stopped, Unexpected, TooDeep}
use Rattle.cmm_parser.specs.declared.fault.Stop.{Stop}
use Rattle.cmm_parser.specs.declared.fault.Stop.TheVariants as stop
use Rattle.cmm_parser.specs.inside.Parsing.{Answered, Fewer, Parsed, Takes, MayTake, Opens, Skips, Stays, opening, closing}
use Rattle.cmm_lexer.specs.declared.symbol.Symbol.{Symbol}

pub stop_first : {A B : Type 0} (e : Stop) (o : Answer A) (rest : A → Point → Answer B) (after after' : Point) → Answered o (Err e) after → Answered (and_then o rest) (Err e) after'
stop_first (stop.Unexpected token) o rest after after' is = ap (λ o. and_then o rest) is
stop_first (stop.TooDeep token) o rest after after' is = ap (λ o. and_then o rest) is
stop_first stop.Memory o rest after after' is = tt

-- ---- whether a token is taken

abbrev pub either : Bool → Bool → Bool
either true some = true
either false some = some

pub at_most : (some : Bool) (after before : ℕ) → Fewer some after before → after ≤ before
at_most true after before less = omega arith
at_most false after before less = less

fewer_still : {B : Type 0} (one two : Bool) (result : Result B Stop) (before between after : ℕ) → Fewer one between before → OnOk result (Fewer two after between) →
    OnOk result (Fewer (either one two) after before)
fewer_still true true (Ok b) before between after first rest = omega arith
fewer_still true false (Ok b) before between after first rest = omega arith
fewer_still false true (Ok b) before between after first rest = omega arith
fewer_still false false (Ok b) before between after first rest = omega arith
fewer_still one two (Err e) before between after first rest = tt

-- what takes a token, as what may be empty
pub loosely : {A : Type 0} {some : Bool} {reads : ℕ → Reads A} {before after : Point} {result : Result A Stop} → Parsed some reads before result after →
    MayTake reads before result after
loosely {A = A} {some = some} {before = before} {after = after} {result = result} one = record { answers = one.answers; taken = by result one.taken } where
  by : (result : Result A Stop) → OnOk result (Fewer some (length after.left) (length before.left)) → OnOk result (length after.left ≤ length before.left)
  by (Ok a) taken = at_most some (length after.left) (length before.left) taken
  by (Err e) taken = tt

-- a fault handed on by `?`
pub handed : {A : Type 0} {e : Stop} {result : Result A Stop} → IsErrAnd result (λ f. f ≡ e) → result ≡ Err e
handed {result = Ok a} is = absurd is
handed {result = Err f} is = ap Err is

-- ---- one step

-- the first part is refused
pub stops : {A B : Type 0} {some : Bool} {first : ℕ → Reads A} {before between after : Point} {e : Stop} {result : Result B Stop} (rest : A → ℕ → Reads B) →
    Parsed some first before (Err e) between → result ≡ Err e → Takes (λ fuel. first fuel >>= λ a. rest a fuel) before result after
stops {first = first} {before = before} {between = between} {after = after} {e = e} rest one is =
    subst (λ result. Takes (λ fuel. first fuel >>= λ a. rest a fuel) before result after) (sym is)
    (record { answers = λ fuel less. stop_first e (first fuel true before) (λ a. rest a fuel true) between after (one.answers fuel less); taken = tt })

-- the same, inside of more
pub halts : {A B : Type 0} {some : Bool} {first : ℕ → Reads A} {before after : Point} {e : Stop} (rest : A → ℕ → Reads B) → Parsed some first before (Err e) after →
    Takes (λ fuel. first fuel >>= λ a. rest a fuel) before (Err e) after
halts rest one = stops rest one refl

step_answered : {A B : Type 0} (a : A) (o : Answer A) (rest : A → Point → Answer B) (result : Result B Stop) (between after : Point) → o ≡ Read a between →
    Answered (rest a between) result after → Answered (and_then o rest) result after
step_answered a o rest result between after is later = subst (λ o. Answered (and_then o rest) result after) (sym is) later

-- the first part is read
pub steps : {A B : Type 0} {one two : Bool} {first : ℕ → Reads A} {before between after : Point} {a : A} {result : Result B Stop} (rest : A → ℕ → Reads B) →
    Parsed one first before (Ok a) between → Parsed two (rest a) between result after →
    Parsed (either one two) (λ fuel. first fuel >>= λ a. rest a fuel) before result after
steps {one = one} {two = two} {first = first} {before = before} {between = between} {after = after} {a = a} {result = result} rest now later =
    let below = at_most one (length between.left) (length before.left) now.taken in record {
      answers = λ fuel less.
          step_answered a (first fuel true before) (λ a. rest a fuel true) result between after (now.answers fuel less) (later.answers fuel (omega arith));
      taken = fewer_still one two result (length before.left) (length between.left) (length after.left) now.taken later.taken;
    }

-- by the next token
pub holds : {A : Type 0} {some : Bool} {test : Lexeme → Bool} {yes_ no_ : ℕ → Reads A} {before after : Point} {result : Result A Stop} →
    passes test (next before.left) ≡ true → Parsed some yes_ before result after → Parsed some (λ fuel. if_next test (yes_ fuel) (no_ fuel)) before result after
holds {yes_ = yes_} {no_ = no_} {before = before} {after = after} {result = result} passing one = record {
  answers = λ fuel less. subst (λ o. Answered o result after) (sym (ap (λ t. choice t (yes_ fuel) (no_ fuel) true before) passing)) (one.answers fuel less);
  taken = one.taken;
}

pub fails : {A : Type 0} {some : Bool} {test : Lexeme → Bool} {yes_ no_ : ℕ → Reads A} {before after : Point} {result : Result A Stop} →
    passes test (next before.left) ≡ false → Parsed some no_ before result after → Parsed some (λ fuel. if_next test (yes_ fuel) (no_ fuel)) before result after
fails {yes_ = yes_} {no_ = no_} {before = before} {after = after} {result = result} failing one = record {
  answers = λ fuel less. subst (λ o. Answered o result after) (sym (ap (λ t. choice t (yes_ fuel) (no_ fuel) true before) failing)) (one.answers fuel less);
  taken = one.taken;
}

pub gives : {A : Type 0} {p : Point} {a : A} → MayTake (λ fuel. give a) p (Ok a) p
gives = record { answers = λ fuel less. refl; taken = omega arith }

-- a value by another name
pub gives_same : {A : Type 0} {p : Point} {a b : A} → b ≡ a → MayTake (λ fuel. give a) p (Ok b) p
gives_same {p = p} {a = a} same = subst (λ b. MayTake (λ fuel. give a) p (Ok b) p) (sym same) gives

-- the next token is taken where it passes a test, and left where it doesn't
pub takes : {A : Type 0} {some : Bool} {test : Lexeme → Bool} {then_ else_ : ℕ → Reads A} {before between after : Point} {result : Result A Stop} →
    Skips test before between → Parsed some then_ between result after →
    Takes (λ fuel. if_next test (skip >>= λ _. then_ fuel) (else_ fuel)) before result after
takes {some = some} {test = test} {then_ = then_} {else_ = else_} {before = before} {between = between} {after = after} {result = result} skips one =
    let less = skips.fewer in record {
      answers = λ fuel under.
          subst (λ o. Answered o result after)
          (sym (ap (λ t. choice t (skip >>= λ _. then_ fuel) (else_ fuel) true before) skips.passing ∙ ap (λ p. then_ fuel true p) (sym skips.there)))
          (one.answers fuel (omega arith));
      taken = fewer_still true some result (length before.left) (length between.left) (length after.left) less one.taken;
    }

pub leaves : {A : Type 0} {some : Bool} {test : Lexeme → Bool} {then_ else_ : ℕ → Reads A} {before between after : Point} {result : Result A Stop} →
    Stays test before between → Parsed some else_ between result after → Parsed some (λ fuel. if_next test (then_ fuel) (else_ fuel)) before result after
leaves {some = some} {test = test} {then_ = then_} {else_ = else_} {before = before} {after = after} {result = result} stays one =
    fails stays.failing (subst (λ p. Parsed some else_ p result after) stays.there one)

-- what was read, by another name
pub renamed : {A : Type 0} {some : Bool} {reads : ℕ → Reads A} {before after : Point} {a b : A} → b ≡ a → Parsed some reads before (Ok a) after →
    Parsed some reads before (Ok b) after
renamed {some = some} {reads = reads} {before = before} {after = after} same one = subst (λ b. Parsed some reads before (Ok b) after) (sym same) one

-- ---- in brackets

-- what was read inside is answered outside
abbrev outside_of : {A : Type 0} → ℕ → A → Point → Answer A
outside_of outside a after = Read a record after { open_brackets = outside }

closed : {A : Type 0} (last : Symbol) (outside : ℕ) (a : A) (before after : Point) → closing last outside true before ≡ Read (tt {0}) after →
    and_then (and_then (symbol last true before) (λ _ after. Read a after)) (outside_of outside) ≡ Read a after
closed {A} last outside a before after is = by (symbol last true before) is where
  by : (o : Answer (Unit {0})) → and_then o (λ _ after. Read (tt {0}) record after { open_brackets = outside }) ≡ Read tt after →
      and_then (and_then o (λ _ after. Read a after)) (outside_of outside) ≡ Read a after
  by (Read u p) is = cc
  by (Stopped fault token) is = absurd cc

closed_stops : {A : Type 0} (e : Stop) (last : Symbol) (outside : ℕ) (a : A) (before after after' : Point) → Answered (closing last outside true before) (Err e) after →
    Answered {A = A} (and_then (and_then (symbol last true before) (λ _ after. Read a after)) (outside_of outside)) (Err e) after'
closed_stops {A} (stop.Unexpected token) last outside a before after after' is = by (symbol last true before) is where
  by : (o : Answer (Unit {0})) → and_then o (λ _ after. Read (tt {0}) record after { open_brackets = outside }) ≡ Stopped Unexpected token →
      and_then (and_then o (λ _ after. Read a after)) (outside_of outside) ≡ Stopped Unexpected token
  by (Read u p) is = absurd cc
  by (Stopped fault token) is = cc
closed_stops {A} (stop.TooDeep token) last outside a before after after' is = by (symbol last true before) is where
  by : (o : Answer (Unit {0})) → and_then o (λ _ after. Read (tt {0}) record after { open_brackets = outside }) ≡ Stopped TooDeep token →
      and_then (and_then o (λ _ after. Read a after)) (outside_of outside) ≡ Stopped TooDeep token
  by (Read u p) is = absurd cc
  by (Stopped fault token) is = cc
closed_stops stop.Memory last outside a before after after' is = tt

-- what is answered inside of a bracket, and after it
abbrev inside_of : {A : Type 0} → Symbol → ℕ → Answer A → Answer A
inside_of closes outside o = and_then (and_then o (λ a after. and_then (symbol closes true after) (λ _ after. Read a after))) (outside_of outside)

opened : {A : Type 0} {inside : Point} (result : Result A Stop) (after : Point) (opening_ closing_ : Symbol) (reads : Reads A) (before : Point) →
    opening opening_ true before ≡ Read tt inside → Answered (inside_of closing_ before.open_brackets (reads true inside)) result after →
    Answered (in_brackets opening_ reads closing_ true before) result after
opened result after opening_ closing_ reads before is later =
    subst
    (λ o. Answered (and_then (and_then o (λ _ q. and_then (reads true q) (λ a q. and_then (symbol closing_ true q) (λ _ q. Read a q)))) (outside_of before.open_brackets)) result after)
    (sym is) later

module _ {A : Type 0} {reads : ℕ → Reads A} {before inside : Point} {outside : ℕ} (first last : Symbol) (lower : ℕ → ℕ)
    (enough : (fuel : ℕ) → length before.left < fuel → length inside.left < lower fuel)
    (opener : Opens (opening first) before (Ok outside) inside)
  where
    pub all_read : {some : Bool} {within after : Point} {a : A} → Parsed some reads inside (Ok a) within → Takes (λ fuel. closing last outside) within (Ok tt) after →
        Takes (λ fuel. in_brackets first (reads (lower fuel)) last) before (Ok a) after
    all_read {some} {within} {after} {a} one closer = record {
      answers = λ fuel less.
          opened (Ok a) after first last (reads (lower fuel)) before (opener.answers.answers fuel less)
          (ap (inside_of last before.open_brackets) (one.answers (lower fuel) (enough fuel less))
          ∙ closed last before.open_brackets a within after
          (subst (λ outside. closing last outside true within ≡ Read (tt {0}) after) opener.outside (closer.answers (suc (length within.left)) (omega arith))));
      taken =
          let x = opener.answers.taken in let y = at_most some (length within.left) (length inside.left) one.taken in let z = closer.taken in
          omega arith;
    }

    pub inside_stops : {some : Bool} {within after : Point} {e : Stop} {result : Result A Stop} → Parsed some reads inside (Err e) within → result ≡ Err e →
        Takes (λ fuel. in_brackets first (reads (lower fuel)) last) before result after
    inside_stops {some} {within} {after} {e} {result} one is =
        subst (λ result. Takes (λ fuel. in_brackets first (reads (lower fuel)) last) before result after) (sym is) record {
          answers = λ fuel less.
              opened (Err e) after first last (reads (lower fuel)) before (opener.answers.answers fuel less)
              (stop_first e (and_then (reads (lower fuel) true inside) (λ a q. and_then (symbol last true q) (λ _ q. Read a q))) (outside_of before.open_brackets) within after
              (stop_first e (reads (lower fuel) true inside) (λ a q. and_then (symbol last true q) (λ _ q. Read a q)) within within (one.answers (lower fuel) (enough fuel less))));
          taken = tt;
        }

    pub closer_stops : {some : Bool} {within after between : Point} {a : A} {e : Stop} {result : Result A Stop} → Parsed some reads inside (Ok a) within →
        Takes (λ fuel. closing last outside) within (Err e) between → result ≡ Err e →
        Takes (λ fuel. in_brackets first (reads (lower fuel)) last) before result after
    closer_stops {some} {within} {after} {between} {a} {e} {result} one closer is =
        subst (λ result. Takes (λ fuel. in_brackets first (reads (lower fuel)) last) before result after) (sym is) record {
          answers = λ fuel less.
              opened (Err e) after first last (reads (lower fuel)) before (opener.answers.answers fuel less)
              (subst (λ o. Answered (inside_of last before.open_brackets o) (Err e) after) (sym (one.answers (lower fuel) (enough fuel less)))
              (closed_stops e last before.open_brackets a within between after
              (subst (λ outside. Answered (closing last outside true within) (Err e) between) opener.outside (closer.answers (suc (length within.left)) (omega arith)))));
          taken = tt;
        }

enough_inside : {outside : ℕ} (before inside : Point) (first : Symbol) → Opens (opening first) before (Ok outside) inside → (fuel : ℕ) → length before.left < fuel →
    length inside.left < fuel
enough_inside before inside first opener fuel less = let fewer = opener.answers.taken in omega arith

enough_below : {outside : ℕ} (before inside : Point) (first : Symbol) → Opens (opening first) before (Ok outside) inside → (fuel : ℕ) → length before.left < fuel →
    length inside.left < pred fuel
enough_below before inside first opener (suc fuel) less = let fewer = opener.answers.taken in omega arith
enough_below before inside first opener zero less = absurd (omega arith)

-- the opening bracket, what is inside, and the closing one
pub brackets : {A : Type 0} {some : Bool} {reads : ℕ → Reads A} {before inside within after : Point} {outside : ℕ} {a : A} (first last : Symbol) →
    Opens (opening first) before (Ok outside) inside → Parsed some reads inside (Ok a) within → Takes (λ fuel. closing last outside) within (Ok tt) after →
    Takes (λ fuel. in_brackets first (reads fuel) last) before (Ok a) after
brackets {before = before} {inside = inside} first last opener = all_read first last (λ fuel. fuel) (enough_inside before inside first opener) opener

pub stops_inside : {A : Type 0} {some : Bool} {reads : ℕ → Reads A} {before inside within : Point} {outside : ℕ} {e : Stop} (first last : Symbol) →
    Opens (opening first) before (Ok outside) inside → Parsed some reads inside (Err e) within →
    Takes (λ fuel. in_brackets first (reads fuel) last) before (Err e) within
stops_inside {before = before} {inside = inside} first last opener one =
    inside_stops first last (λ fuel. fuel) (enough_inside before inside first opener) opener one refl

pub stops_closing : {A : Type 0} {some : Bool} {reads : ℕ → Reads A} {before inside within after : Point} {outside : ℕ} {a : A} {e : Stop} (first last : Symbol) →
    Opens (opening first) before (Ok outside) inside → Parsed some reads inside (Ok a) within → Takes (λ fuel. closing last outside) within (Err e) after →
    Takes (λ fuel. in_brackets first (reads fuel) last) before (Err e) after
stops_closing {before = before} {inside = inside} first last opener one closer =
    closer_stops first last (λ fuel. fuel) (enough_inside before inside first opener) opener one closer refl

pub stops_opening : {A : Type 0} {before after : Point} {e : Stop} (reads : ℕ → Reads A) (first last : Symbol) → Opens (opening first) before (Err e) after →
    Takes (λ fuel. in_brackets first (reads fuel) last) before (Err e) after
stops_opening {before = before} {after = after} {e = e} reads first last opener = record {
  answers = λ fuel less.
      stop_first e (and_then (opening first true before) (λ _ q. and_then (reads fuel true q) (λ a q. and_then (symbol last true q) (λ _ q. Read a q)))) (outside_of before.open_brackets) after after
      (stop_first e (opening first true before) (λ _ q. and_then (reads fuel true q) (λ a q. and_then (symbol last true q) (λ _ q. Read a q))) after after (opener.answers.answers fuel less));
  taken = tt;
}

-- the same where what is inside is read with one turn less
pub brackets_below : {A : Type 0} {some : Bool} {before inside within after : Point} {outside : ℕ} {a : A} (reads : ℕ → Reads A) (first last : Symbol) →
    Opens (opening first) before (Ok outside) inside → Parsed some reads inside (Ok a) within → Takes (λ fuel. closing last outside) within (Ok tt) after →
    Takes (λ fuel. in_brackets first (reads (pred fuel)) last) before (Ok a) after
brackets_below {before = before} {inside = inside} reads first last opener = all_read first last pred (enough_below before inside first opener) opener

pub stops_inside_below : {A : Type 0} {some : Bool} {before inside within : Point} {outside : ℕ} {e : Stop} (reads : ℕ → Reads A) (first last : Symbol) →
    Opens (opening first) before (Ok outside) inside → Parsed some reads inside (Err e) within →
    Takes (λ fuel. in_brackets first (reads (pred fuel)) last) before (Err e) within
stops_inside_below {before = before} {inside = inside} reads first last opener one =
    inside_stops first last pred (enough_below before inside first opener) opener one refl

pub stops_closing_below : {A : Type 0} {some : Bool} {before inside within after : Point} {outside : ℕ} {a : A} {e : Stop} (reads : ℕ → Reads A) (first last : Symbol) →
    Opens (opening first) before (Ok outside) inside → Parsed some reads inside (Ok a) within → Takes (λ fuel. closing last outside) within (Err e) after →
    Takes (λ fuel. in_brackets first (reads (pred fuel)) last) before (Err e) after
stops_closing_below {before = before} {inside = inside} reads first last opener one closer =
    closer_stops first last pred (enough_below before inside first opener) opener one closer refl

-- operators are counted from 0
pub outer : {A : Type 0} {some : Bool} {reads : ℕ → Reads A} {before between after : Point} {result : Result A Stop} → between ≡ record before { operators = 0 } →
    Parsed some reads between result after → Parsed some (λ fuel. outermost (reads fuel)) before result after
outer {A} {some} {reads} {before} {between} {after} {result} same one = from (subst (λ p. Parsed some reads p result after) same one) where
  from : Parsed some reads (record before { operators = 0 }) result after → Parsed some (λ fuel. outermost (reads fuel)) before result after
  from o = record { answers = o.answers; taken = o.taken }

-- what is read with one turn less is read with as many
pub with_more : {A : Type 0} {some : Bool} {before after : Point} {result : Result A Stop} (reads : ℕ → Reads A) → Parsed some (λ fuel. reads (pred fuel)) before result after →
    Parsed some reads before result after
with_more reads one = record { answers = λ fuel less. one.answers (suc fuel) (omega arith); taken = one.taken }

still_below : (before between : Point) → length between.left < length before.left → (fuel : ℕ) → length before.left < fuel → length between.left < pred fuel
still_below before between taken (suc fuel) less = omega arith
still_below before between taken zero less = absurd (omega arith)

-- after a token what follows is read with one turn less
pub steps_below : {A B : Type 0} {some : Bool} {first : ℕ → Reads A} {before between after : Point} {a : A} {result : Result B Stop} (rest : A → ℕ → Reads B) →
    Takes first before (Ok a) between → Parsed some (rest a) between result after →
    Takes (λ fuel. first fuel >>= λ a. rest a (pred fuel)) before result after
steps_below {some = some} {first = first} {before = before} {between = between} {after = after} {a = a} {result = result} rest one later = record {
  answers = λ fuel less.
      step_answered a (first fuel true before) (λ a. rest a (pred fuel) true) result between after (one.answers fuel less)
      (later.answers (pred fuel) (still_below before between one.taken fuel less));
  taken = fewer_still true some result (length before.left) (length between.left) (length after.left) one.taken later.taken;
}

-- a fault handed on
pub stopped : {A : Type 0} {some : Bool} {reads : ℕ → Reads A} {before after : Point} {e : Stop} {result : Result A Stop} → Parsed some reads before (Err e) after →
    result ≡ Err e → Takes reads before result after
stopped {reads = reads} {before = before} {after = after} one is =
    subst (λ result. Takes reads before result after) (sym is) (record { answers = one.answers; taken = tt })

-- a reader by another name
pub same_reader : {A B : Type 0} {some : Bool} {before after : Point} {a b : B} {result : Result A Stop} (reads : B → ℕ → Reads A) → a ≡ b →
    Parsed some (reads a) before result after → Parsed some (reads b) before result after
same_reader {some = some} {before = before} {after = after} {result = result} reads same one = subst (λ x. Parsed some (reads x) before result after) same one

-- by the next token, which is known
pub looks : {A : Type 0} {some : Bool} {before after : Point} {result : Result A Stop} {x : Option Lexeme} (by : ℕ → Option Lexeme → Reads A) → next before.left ≡ x →
    Parsed some (λ fuel. by fuel x) before result after → Parsed some (λ fuel. look (by fuel)) before result after
looks {before = before} {after = after} {result = result} by is one = record {
  answers = λ fuel less. subst (λ o. Answered o result after) (sym (ap (λ x. by fuel x true before) is)) (one.answers fuel less);
  taken = one.taken;
}

-- the next token, by how it was found out
pub found : {A B : Type 0} {x : Option B} {o : Option A} {a b : A} (f : A → B) → x ≡ option_map f o → o ≡ Some a → a ≡ b → x ≡ Some (f b)
found f seen is same = seen ∙ ap (option_map f) is ∙ ap (λ a. Some (f a)) same

pub found_none : {A B : Type 0} {x : Option B} {o : Option A} (f : A → B) → x ≡ option_map f o → o ≡ None → x ≡ None
found_none f seen is = seen ∙ ap (option_map f) is

-- the number of the next token
pub numbered : {p : Point} {n : ℕ} → n ≡ p.taken → MayTake (λ fuel. here) p (Ok n) p
numbered {p} {n} is = record { answers = λ fuel less. ap (λ n. Read n p) (sym is); taken = omega arith }

-- readers that are the same for each count
pub same_readers : {A : Type 0} {some : Bool} {before after : Point} {result : Result A Stop} (reads others : ℕ → Reads A) → ((fuel : ℕ) → reads fuel ≡ others fuel) →
    Parsed some others before result after → Parsed some reads before result after
same_readers {before = before} {after = after} {result = result} reads others same one = record {
  answers = λ fuel less. subst (λ r. Answered (r true before) result after) (sym (same fuel)) (one.answers fuel less);
  taken = one.taken;
}

-- after the number of its first token a part is refused
pub halts_numbered : {A B : Type 0} {some : Bool} {reads : ℕ → Reads A} {before after : Point} {e : Stop} (make : ℕ → A → B) → Parsed some reads before (Err e) after →
    Takes (λ fuel. here >>= λ token. reads fuel >>= λ a. give (make token a)) before (Err e) after
halts_numbered {reads = reads} {before = before} {after = after} {e = e} make one = record {
  answers = λ fuel less. stop_first e (reads fuel true before) (λ a p. Read (make before.taken a) p) after after (one.answers fuel less);
  taken = tt;
}
