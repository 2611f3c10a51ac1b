-- How far a loop has come: what its reader answers from the start is what the rest of the reader answers from there.
use Rattle.std.proofs.Common.{◌≡◌, ◌∙◌, sym, ap, subst, ℕ, zero, suc, ◌<◌, ◌≤◌, Bool, true, false, List, [], ◌∷◌, ◌++◌, length, Result, Ok, Err, arith}
use Rattle.cmm_lexer.specs.declared.piece.Lexeme.{Lexeme}
use Rattle.cmm_grammar.specs.Reading.{Point, Answer, Read, Reads, next, past, passes, and_then, choice, many, more_commas, more_listed, is_comma}
use Rattle.cmm_parser.specs.declared.fault.Stop.{Stop}
use Rattle.cmm_parser.specs.inside.Parsing.{Answered, Fewer, Parsed, Takes, Skips, Stays, skipped}
use Rattle.cmm_parser.proofs.Steps.{stop_first, at_most}

-- some turns are left, above the tokens that are
pub record Turns {A : Type 0} (answer : Answer A) (rest : ℕ → Answer A) (tokens : ℕ) : Type 0 where
  pub turns : ℕ
  pub enough : tokens < turns
  pub same : answer ≡ rest turns

-- and whether a token was taken before
pub record Reaches {A : Type 0} (some : Bool) (whole : ℕ → Reads A) (before : Point) (rest : ℕ → ℕ → Reads A) (now : Point) : Type 0 where
  pub goes : (fuel : ℕ) → length before.left < fuel → Turns (whole fuel true before) (λ turns. rest fuel turns true now) (length now.left)
  pub taken : Fewer some (length now.left) (length before.left)

pub starts : {A : Type 0} {whole : ℕ → Reads A} {before : Point} {rest : ℕ → ℕ → Reads A} → ((fuel : ℕ) → whole fuel ≡ rest fuel fuel) → Reaches false whole before rest before
starts {before = before} same = record { goes = λ fuel less. record { turns = fuel; enough = less; same = ap (λ r. r true before) (same fuel) }; taken = omega arith }

further : (some : Bool) (later now before : ℕ) → Fewer some now before → later ≤ now → Fewer some later before
further true later now before taken more = omega arith
further false later now before taken more = omega arith

-- one more turn
turn : {A : Type 0} {answer : Answer A} {rest rest' : ℕ → Answer A} {tokens less : ℕ} → Turns answer rest tokens → less < tokens →
    ((turns : ℕ) → rest (suc turns) ≡ rest' turns) → Turns answer rest' less
turn {answer = answer} {rest = rest} {rest' = rest'} {tokens = tokens} {less = less} t fewer step = by t.turns t.enough t.same where
  by : (turns : ℕ) → tokens < turns → answer ≡ rest turns → Turns answer rest' less
  by zero enough same = absurd (omega arith)
  by (suc turns) enough same = record { turns = turns; enough = omega arith; same = same ∙ step turns }

pub goes_on : {A : Type 0} {some : Bool} {whole : ℕ → Reads A} {before now later : Point} {rest rest' : ℕ → ℕ → Reads A} → Reaches some whole before rest now →
    length later.left < length now.left →
    ((fuel turns : ℕ) → length now.left < fuel → rest fuel (suc turns) true now ≡ rest' fuel turns true later) → Reaches some whole before rest' later
goes_on {some = some} {before = before} {now = now} {later = later} reached fewer step =
    let below = at_most some (length now.left) (length before.left) reached.taken in record {
      goes = λ fuel less. turn (reached.goes fuel less) fewer (λ turns. step fuel turns (omega arith));
      taken = further some (length later.left) (length now.left) (length before.left) reached.taken (omega arith);
    }

-- the last turn
last : {A : Type 0} {answer : Answer A} {rest : ℕ → Answer A} {tokens : ℕ} (result : Result A Stop) (after : Point) → Turns answer rest tokens →
    ((turns : ℕ) → Answered (rest (suc turns)) result after) → Answered answer result after
last {answer = answer} {rest = rest} {tokens = tokens} result after t step = by t.turns t.enough t.same where
  by : (turns : ℕ) → tokens < turns → answer ≡ rest turns → Answered answer result after
  by zero enough same = absurd (omega arith)
  by (suc turns) enough same = subst (λ a. Answered a result after) (sym same) (step turns)

pub ends : {A : Type 0} {some : Bool} {whole : ℕ → Reads A} {before now after : Point} {rest : ℕ → ℕ → Reads A} {a : A} → Reaches some whole before rest now →
    length after.left ≤ length now.left →
    ((fuel turns : ℕ) → length now.left < fuel → rest fuel (suc turns) true now ≡ Read a after) → Parsed some whole before (Ok a) after
ends {some = some} {before = before} {now = now} {after = after} {a = a} reached fewer step =
    let below = at_most some (length now.left) (length before.left) reached.taken in record {
      answers = λ fuel less. last (Ok a) after (reached.goes fuel less) (λ turns. step fuel turns (omega arith));
      taken = further some (length after.left) (length now.left) (length before.left) reached.taken fewer;
    }

pub breaks : {A : Type 0} {some : Bool} {whole : ℕ → Reads A} {before now after : Point} {rest : ℕ → ℕ → Reads A} (e : Stop) → Reaches some whole before rest now →
    ((fuel turns : ℕ) → length now.left < fuel → Answered (rest fuel (suc turns) true now) (Err e) after) → Parsed some whole before (Err e) after
breaks {some = some} {before = before} {now = now} {after = after} e reached step =
    let below = at_most some (length now.left) (length before.left) reached.taken in record {
      answers = λ fuel less. last (Err e) after (reached.goes fuel less) (λ turns. step fuel turns (omega arith));
      taken = tt;
    }

-- ---- as long as the next token begins one

pub many_turn : {A : Type 0} {some : Bool} {whole : ℕ → Reads (List A)} {before now later : Point} {begins : Lexeme → Bool} {reads : ℕ → Reads A} {so_far more : List A} {a : A} →
    Reaches some whole before (λ fuel turns. many turns begins (reads fuel) so_far) now → passes begins (next now.left) ≡ true →
    Takes reads now (Ok a) later → more ≡ so_far ++ a ∷ [] →
    Reaches some whole before (λ fuel turns. many turns begins (reads fuel) more) later
many_turn {some = some} {whole = whole} {before = before} {now = now} {later = later} {begins = begins} {reads = reads} {so_far = so_far} reached passing one pushed =
    subst (λ more. Reaches some whole before (λ fuel turns. many turns begins (reads fuel) more) later) (sym pushed)
    (goes_on reached one.taken (λ fuel turns less.
    ap (λ test. choice test (λ limited p. and_then (reads fuel limited p) (λ a. many turns begins (reads fuel) (so_far ++ a ∷ []) limited)) (λ limited p. Read so_far p) true now) passing
    ∙ ap (λ o. and_then o (λ a. many turns begins (reads fuel) (so_far ++ a ∷ []) true)) (one.answers fuel less)))

pub many_ends : {A : Type 0} {some : Bool} {whole : ℕ → Reads (List A)} {before now : Point} {begins : Lexeme → Bool} {reads : ℕ → Reads A} {so_far : List A} →
    Reaches some whole before (λ fuel turns. many turns begins (reads fuel) so_far) now → passes begins (next now.left) ≡ false → Parsed some whole before (Ok so_far) now
many_ends {now = now} {begins = begins} {reads = reads} {so_far = so_far} reached failing =
    ends reached (omega arith) (λ fuel turns less.
    ap (λ test. choice test (λ limited p. and_then (reads fuel limited p) (λ a. many turns begins (reads fuel) (so_far ++ a ∷ []) limited)) (λ limited p. Read so_far p) true now) failing)

pub many_breaks : {A : Type 0} {some : Bool} {whole : ℕ → Reads (List A)} {before now later : Point} {begins : Lexeme → Bool} {reads : ℕ → Reads A} {so_far : List A} {e : Stop} {result : Result (List A) Stop} →
    Reaches some whole before (λ fuel turns. many turns begins (reads fuel) so_far) now → passes begins (next now.left) ≡ true →
    Takes reads now (Err e) later → result ≡ Err e → Parsed some whole before result later
many_breaks {some = some} {whole = whole} {before = before} {now = now} {later = later} {begins = begins} {reads = reads} {so_far = so_far} {e = e} reached passing one is =
    subst (λ result. Parsed some whole before result later) (sym is)
    (breaks e reached (λ fuel turns less.
    subst (λ o. Answered o (Err e) later)
    (sym (ap (λ test. choice test (λ limited p. and_then (reads fuel limited p) (λ a. many turns begins (reads fuel) (so_far ++ a ∷ []) limited)) (λ limited p. Read so_far p) true now) passing))
    (stop_first e (reads fuel true now) (λ a. many turns begins (reads fuel) (so_far ++ a ∷ []) true) later later (one.answers fuel less))))

-- ---- after a first part

pub starts_after : {A B : Type 0} {some : Bool} {before now : Point} {first : ℕ → Reads B} {b : B} (rest : B → ℕ → ℕ → Reads A) → Parsed some first before (Ok b) now →
    Reaches some (λ fuel limited p. and_then (first fuel limited p) (λ b. rest b fuel fuel limited)) before (rest b) now
starts_after {some = some} {before = before} {now = now} rest one =
    let below = at_most some (length now.left) (length before.left) one.taken in record {
      goes = λ fuel less. record { turns = fuel; enough = omega arith; same = ap (λ o. and_then o (λ b. rest b fuel fuel true)) (one.answers fuel less) };
      taken = one.taken;
    }

-- ---- with a comma between two

abbrev comma_choice : {A : Type 0} → Reads A → List A → (List A → Reads (List A)) → Bool → Point → Answer (List A)
comma_choice reads so_far later test now =
    choice test (λ limited p. and_then (reads limited (skipped p)) (λ a. later (so_far ++ a ∷ []) limited)) (λ limited p. Read so_far p) true now

pub comma_turn : {A : Type 0} {some : Bool} {whole : ℕ → Reads (List A)} {before now between later : Point} {reads : ℕ → Reads A} {so_far more : List A} {a : A} →
    Reaches some whole before (λ fuel turns. more_commas turns (reads fuel) so_far) now → Skips is_comma now between → Takes reads between (Ok a) later →
    more ≡ so_far ++ a ∷ [] → Reaches some whole before (λ fuel turns. more_commas turns (reads fuel) more) later
comma_turn {some = some} {whole = whole} {before = before} {now = now} {between = between} {later = later} {reads = reads} {so_far = so_far} reached comma one pushed =
    let fewer = one.taken in let less = comma.fewer in
    subst (λ more. Reaches some whole before (λ fuel turns. more_commas turns (reads fuel) more) later) (sym pushed)
    (goes_on reached (omega arith) (λ fuel turns less.
    ap (λ test. comma_choice (reads fuel) so_far (λ more. more_commas turns (reads fuel) more) test now) comma.passing
    ∙ ap (λ p. and_then (reads fuel true p) (λ a. more_commas turns (reads fuel) (so_far ++ a ∷ []) true)) (sym comma.there)
    ∙ ap (λ o. and_then o (λ a. more_commas turns (reads fuel) (so_far ++ a ∷ []) true)) (one.answers fuel (omega arith))))

pub comma_ends : {A : Type 0} {some : Bool} {whole : ℕ → Reads (List A)} {before now after : Point} {reads : ℕ → Reads A} {so_far : List A} →
    Reaches some whole before (λ fuel turns. more_commas turns (reads fuel) so_far) now → Stays is_comma now after → Parsed some whole before (Ok so_far) after
comma_ends {now = now} {reads = reads} {so_far = so_far} reached none =
    ends reached (subst (λ p. length p.left ≤ length now.left) (sym none.there) (omega arith)) (λ fuel turns less.
    ap (λ test. comma_choice (reads fuel) so_far (λ more. more_commas turns (reads fuel) more) test now) none.failing
    ∙ ap (λ p. Read so_far p) (sym none.there))

pub comma_breaks : {A : Type 0} {some : Bool} {whole : ℕ → Reads (List A)} {before now between later : Point} {reads : ℕ → Reads A} {so_far : List A} {e : Stop} {result : Result (List A) Stop} →
    Reaches some whole before (λ fuel turns. more_commas turns (reads fuel) so_far) now → Skips is_comma now between → Takes reads between (Err e) later →
    result ≡ Err e → Parsed some whole before result later
comma_breaks {some = some} {whole = whole} {before = before} {now = now} {later = later} {reads = reads} {so_far = so_far} {e = e} reached comma one is =
    let less = comma.fewer in
    subst (λ result. Parsed some whole before result later) (sym is)
    (breaks e reached (λ fuel turns less.
    subst (λ o. Answered o (Err e) later)
    (sym (ap (λ test. comma_choice (reads fuel) so_far (λ more. more_commas turns (reads fuel) more) test now) comma.passing
    ∙ ap (λ p. and_then (reads fuel true p) (λ a. more_commas turns (reads fuel) (so_far ++ a ∷ []) true)) (sym comma.there)))
    (stop_first e (reads fuel true _) (λ a. more_commas turns (reads fuel) (so_far ++ a ∷ []) true) later later (one.answers fuel (omega arith)))))

-- ---- with a comma between two, and perhaps one after the last

abbrev listed_choice : {A : Type 0} → (Lexeme → Bool) → Reads A → List A → (List A → Reads (List A)) → Bool → Point → Answer (List A)
listed_choice begins reads so_far later test now =
    choice test
    (λ limited p. choice (passes begins (next (past p.left))) (λ limited p. and_then (reads limited p) (λ a. later (so_far ++ a ∷ []) limited)) (λ limited p. Read so_far p) limited (skipped p))
    (λ limited p. Read so_far p) true now

abbrev begun : {A : Type 0} → Reads A → List A → (List A → Reads (List A)) → Bool → Point → Answer (List A)
begun reads so_far later test p = choice test (λ limited p. and_then (reads limited p) (λ a. later (so_far ++ a ∷ []) limited)) (λ limited p. Read so_far p) true p

-- what is answered after a comma
after_comma : {A : Type 0} (begins : Lexeme → Bool) (reads : Reads A) (so_far : List A) (later : List A → Reads (List A)) (now between : Point) (test : Bool) →
    Skips is_comma now between → passes begins (next between.left) ≡ test →
    listed_choice begins reads so_far later (passes is_comma (next now.left)) now ≡ begun reads so_far later test between
after_comma begins reads so_far later now between test comma begin =
    ap (λ test. listed_choice begins reads so_far later test now) comma.passing
    ∙ ap (λ p. begun reads so_far later (passes begins (next p.left)) p) (sym comma.there)
    ∙ ap (λ test. begun reads so_far later test between) begin

pub listed_turn : {A : Type 0} {some : Bool} {whole : ℕ → Reads (List A)} {before now between later : Point} {begins : Lexeme → Bool} {reads : ℕ → Reads A} {so_far more : List A} {a : A} →
    Reaches some whole before (λ fuel turns. more_listed turns begins (reads fuel) so_far) now → Skips is_comma now between →
    passes begins (next between.left) ≡ true → Takes reads between (Ok a) later →
    more ≡ so_far ++ a ∷ [] → Reaches some whole before (λ fuel turns. more_listed turns begins (reads fuel) more) later
listed_turn {some = some} {whole = whole} {before = before} {now = now} {between = between} {later = later} {begins = begins} {reads = reads} {so_far = so_far} reached comma begin one pushed =
    let fewer = one.taken in let less = comma.fewer in
    subst (λ more. Reaches some whole before (λ fuel turns. more_listed turns begins (reads fuel) more) later) (sym pushed)
    (goes_on reached (omega arith) (λ fuel turns less.
    after_comma begins (reads fuel) so_far (λ more. more_listed turns begins (reads fuel) more) now between true comma begin
    ∙ ap (λ o. and_then o (λ a. more_listed turns begins (reads fuel) (so_far ++ a ∷ []) true)) (one.answers fuel (omega arith))))

pub listed_ends : {A : Type 0} {some : Bool} {whole : ℕ → Reads (List A)} {before now after : Point} {begins : Lexeme → Bool} {reads : ℕ → Reads A} {so_far : List A} →
    Reaches some whole before (λ fuel turns. more_listed turns begins (reads fuel) so_far) now → Stays is_comma now after → Parsed some whole before (Ok so_far) after
listed_ends {now = now} {begins = begins} {reads = reads} {so_far = so_far} reached none =
    ends reached (subst (λ p. length p.left ≤ length now.left) (sym none.there) (omega arith)) (λ fuel turns less.
    ap (λ test. listed_choice begins (reads fuel) so_far (λ more. more_listed turns begins (reads fuel) more) test now) none.failing
    ∙ ap (λ p. Read so_far p) (sym none.there))

-- the comma was the last
pub listed_ends_at : {A : Type 0} {some : Bool} {whole : ℕ → Reads (List A)} {before now after : Point} {begins : Lexeme → Bool} {reads : ℕ → Reads A} {so_far : List A} →
    Reaches some whole before (λ fuel turns. more_listed turns begins (reads fuel) so_far) now → Skips is_comma now after →
    passes begins (next after.left) ≡ false → Parsed some whole before (Ok so_far) after
listed_ends_at {now = now} {after = after} {begins = begins} {reads = reads} {so_far = so_far} reached comma none =
    let less = comma.fewer in
    ends reached (omega arith) (λ fuel turns less.
    after_comma begins (reads fuel) so_far (λ more. more_listed turns begins (reads fuel) more) now after false comma none)

pub listed_breaks : {A : Type 0} {some : Bool} {whole : ℕ → Reads (List A)} {before now between later : Point} {begins : Lexeme → Bool} {reads : ℕ → Reads A} {so_far : List A} {e : Stop} {result : Result (List A) Stop} →
    Reaches some whole before (λ fuel turns. more_listed turns begins (reads fuel) so_far) now → Skips is_comma now between →
    passes begins (next between.left) ≡ true → Takes reads between (Err e) later → result ≡ Err e → Parsed some whole before result later
listed_breaks {some = some} {whole = whole} {before = before} {now = now} {between = between} {later = later} {begins = begins} {reads = reads} {so_far = so_far} {e = e} reached comma begin one is =
    let less = comma.fewer in
    subst (λ result. Parsed some whole before result later) (sym is)
    (breaks e reached (λ fuel turns less.
    subst (λ o. Answered o (Err e) later)
    (sym (after_comma begins (reads fuel) so_far (λ more. more_listed turns begins (reads fuel) more) now between true comma begin))
    (stop_first e (reads fuel true between) (λ a. more_listed turns begins (reads fuel) (so_far ++ a ∷ []) true) later later (one.answers fuel (omega arith)))))
