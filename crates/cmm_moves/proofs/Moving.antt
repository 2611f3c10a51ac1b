-- What places have after moves.
use Rattle.std.proofs.Common.{◌≡◌, ◌≢◌, ℕ, ◌==◌, if◌then◌else◌, Bool, true, false, List, [], ◌∷◌, ◌++◌, refl, sym, ap, ◌∙◌, append-nil}
use Rattle.std.proofs.lemmas.Bool.{cond-true, cond-false, or_parts, eqb-true, eqb-false, eq-eqb}
use Rattle.cmm_moves.specs.declared.sequencing.Move.{Move}
use Rattle.cmm_moves.specs.Moves.{given, in_order, at_once, is_target, is_source}
use Rattle.cmm_moves.proofs.Places.{differ, differ_both, none_of}

-- ---- choices

same_choice : (test : Bool) (a b c d : ℕ) → a ≡ c → b ≡ d → (if test then a else b) ≡ (if test then c else d)
same_choice true a b c d e f = e
same_choice false a b c d e f = f

-- two choices, of which at most one is taken, may be asked in either order
other_order : (test other : Bool) (a b c : ℕ) → (test ≡ true → other ≡ false) →
    (if test then a else (if other then b else c)) ≡ (if other then b else (if test then a else c))
other_order true other a b c not_both = sym (cond-false other b a (not_both refl))
other_order false other a b c not_both = refl

-- ---- moves

-- a move after others
pub in_order_after : (ms : List Move) (m : Move) (has : ℕ → ℕ) → in_order (ms ++ m ∷ []) has ≡ given (in_order ms has) m.to (in_order ms has m.from)
in_order_after [] m has = refl
in_order_after (n ∷ ns) m has = in_order_after ns m (given has n.to (has n.from))

-- a place that no move writes
pub unwritten : (ms : List Move) (has : ℕ → ℕ) (x : ℕ) → is_target x ms ≡ false → at_once ms has x ≡ has x
unwritten [] has x none = refl
unwritten (m ∷ ms) has x none =
    let parts : ((x == m.to) ≡ false) × (is_target x ms ≡ false) = or_parts (x == m.to) (is_target x ms) none in
    cond-false (x == m.to) (has m.from) (at_once ms has x) parts.0 ∙ unwritten ms has x parts.1

-- a place that no move reads, given another number
pub unread : (ms : List Move) (has : ℕ → ℕ) (place number x : ℕ) → is_source place ms ≡ false → x ≢ place → at_once ms (given has place number) x ≡ at_once ms has x
unread [] has place number x none other = cond-false (x == place) number (has x) (differ x place other)
unread (m ∷ ms) has place number x none other =
    let parts : ((place == m.from) ≡ false) × (is_source place ms ≡ false) = or_parts (place == m.from) (is_source place ms) none in
    same_choice (x == m.to) (given has place number m.from) (at_once ms (given has place number) x) (has m.from) (at_once ms has x)
    (cond-false (m.from == place) number (has m.from) (differ_both place m.from parts.0)) (unread ms has place number x parts.1 other)

not_both : (a b x : ℕ) → (b == a) ≡ false → (x == a) ≡ true → (x == b) ≡ false
not_both a b x isnt holds = differ x b (λ e. eqb-false b a isnt (sym e ∙ eqb-true x a holds))

-- a move whose target no other has may stand anywhere
pub stands_first : (as_ bs : List Move) (m : Move) (has : ℕ → ℕ) (x : ℕ) → is_target m.to as_ ≡ false → at_once (as_ ++ m ∷ bs) has x ≡ at_once (m ∷ (as_ ++ bs)) has x
stands_first [] bs m has x none = refl
stands_first (a ∷ as_) bs m has x none =
    let parts : ((m.to == a.to) ≡ false) × (is_target m.to as_ ≡ false) = or_parts (m.to == a.to) (is_target m.to as_) none in
    same_choice (x == a.to) (has a.from) (at_once (as_ ++ m ∷ bs) has x) (has a.from) (at_once (m ∷ (as_ ++ bs)) has x) refl (stands_first as_ bs m has x parts.1)
    ∙ other_order (x == a.to) (x == m.to) (has a.from) (has m.from) (at_once (as_ ++ bs) has x) (not_both a.to m.to x parts.0)

-- ---- what comes to the same

-- a move that no other reads or writes the target of is done
pub done_first : (as_ bs : List Move) (m : Move) (has : ℕ → ℕ) (x : ℕ) → is_target m.to (as_ ++ bs) ≡ false → is_source m.to (as_ ++ bs) ≡ false →
    at_once (as_ ++ bs) (given has m.to (has m.from)) x ≡ at_once (as_ ++ m ∷ bs) has x
done_first as_ bs m has x unwritten_else unread_else =
    done (x == m.to) refl ∙ sym (stands_first as_ bs m has x (none_of (λ n. m.to == n.to) as_ bs unwritten_else).0)
  where
    after : ℕ → ℕ
    after = given has m.to (has m.from)

    done : (test : Bool) → (x == m.to) ≡ test → at_once (as_ ++ bs) after x ≡ (if test then has m.from else at_once (as_ ++ bs) has x)
    done true holds =
        unwritten (as_ ++ bs) after x (ap (λ y. is_target y (as_ ++ bs)) (eqb-true x m.to holds) ∙ unwritten_else)
        ∙ cond-true (x == m.to) (has m.from) (has x) holds
    done false isnt = unread (as_ ++ bs) has m.to (has m.from) x unread_else (eqb-false x m.to isnt)

-- a move's source is saved in a place that no other move reads, and it reads that
pub saved_first : (m : Move) (ms : List Move) (scratch : ℕ) (has : ℕ → ℕ) (x : ℕ) → is_source scratch ms ≡ false → x ≢ scratch →
    at_once (record { to = m.to; from = scratch } ∷ ms) (given has scratch (has m.from)) x ≡ at_once (m ∷ ms) has x
saved_first m ms scratch has x none other =
    same_choice (x == m.to) (given has scratch (has m.from) scratch) (at_once ms (given has scratch (has m.from)) x) (has m.from) (at_once ms has x)
    (cond-true (scratch == scratch) (has m.from) (has scratch) (eq-eqb scratch scratch refl)) (unread ms has scratch (has m.from) x none other)

-- a move from a place to itself
pub idle : (as_ : List Move) (m : Move) (has : ℕ → ℕ) (x : ℕ) → is_target m.to as_ ≡ false → m.from ≡ m.to → at_once (as_ ++ m ∷ []) has x ≡ at_once as_ has x
idle as_ m has x none itself = stands_first as_ [] m has x none ∙ moved (x == m.to) refl
  where
    moved : (test : Bool) → (x == m.to) ≡ test → (if test then has m.from else at_once (as_ ++ []) has x) ≡ at_once as_ has x
    moved true holds = ap has (itself ∙ sym (eqb-true x m.to holds)) ∙ sym (unwritten as_ has x (ap (λ y. is_target y as_) (eqb-true x m.to holds) ∙ none))
    moved false isnt = ap (λ ms. at_once ms has x) (append-nil as_)
