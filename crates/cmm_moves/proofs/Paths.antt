-- Paths of moves: what keeps them as they grow, as a cycle is broken, and as their youngest move is done.
use Rattle.std.specs.Prelude.{◌&&◌}
use Rattle.std.proofs.Common.{◌≡◌, ℕ, ◌+◌, ◌*◌, ◌≤◌, ◌==◌, not, Bool, true, false, List, [], ◌∷◌, ◌++◌, length, refl, sym, ap, subst, ◌∙◌, append_assoc, append-nil, arith, length-append}
use Rattle.std.specs.List.{list_any}
use Rattle.std.proofs.lemmas.Bool.{or_from, or_parts, eqb-true, eq-eqb, and_parts, not-false}
use Rattle.cmm_moves.specs.declared.sequencing.Move.{Move}
use Rattle.cmm_moves.specs.Moves.{in_order, at_once, is_outside, is_target, is_source, are_apart}
use Rattle.cmm_moves.specs.inside.Pending.{IsChain, IsPath, is_spare, CanBeDone, IsTaken, IsFollowed, one_if, most_of, saved, redirected}
use Rattle.cmm_moves.proofs.Places.{differ_both, none_of, none_in, none_between, none_with, apart_out, apart_in}
use Rattle.cmm_moves.proofs.Moving.{in_order_after, stands_first, done_first, saved_first, idle}

-- ---- chains

chain_push : (place : ℕ) (ms : List Move) (top r : Move) → IsChain place (ms ++ top ∷ []) → r.from ≡ top.to → IsChain place ((ms ++ top ∷ []) ++ r ∷ [])
chain_push place [] top r chain reads = (chain.0, (reads, tt))
chain_push place (m ∷ ms) top r chain reads = (chain.0, chain_push m.to ms top r chain.1 reads)

chain_pop : (place : ℕ) (ms : List Move) (top : Move) → IsChain place (ms ++ top ∷ []) → IsChain place ms
chain_pop place [] top chain = tt
chain_pop place (m ∷ ms) top chain = (chain.0, chain_pop m.to ms top chain.1)

path_push : (p : List Move) (top r : Move) → IsPath (p ++ top ∷ []) → r.from ≡ top.to → IsPath ((p ++ top ∷ []) ++ r ∷ [])
path_push [] top r path reads = (reads, tt)
path_push (m ∷ ms) top r path reads = chain_push m.to ms top r path reads

path_pop : (p : List Move) (top : Move) → IsPath (p ++ top ∷ []) → IsPath p
path_pop [] top path = tt
path_pop (m ∷ ms) top path = chain_pop m.to ms top path

-- a chain reads what it writes, but for where it begins
chain_unread : (place : ℕ) (ms : List Move) (top : Move) (x : ℕ) → IsChain place (ms ++ top ∷ []) → (x == place) ≡ false → is_target x ms ≡ false → is_source x ms ≡ false
chain_unread place [] top x chain other none = refl
chain_unread place (m ∷ ms) top x chain other none =
    let parts : ((x == m.to) ≡ false) × (is_target x ms ≡ false) = or_parts (x == m.to) (is_target x ms) none in
    or_from (x == m.from) (is_source x ms) (ap (λ y. x == y) chain.0 ∙ other) (chain_unread m.to ms top x chain.1 parts.0 parts.1)

spare_push : (scratch : ℕ) (path : List Move) (r : Move) → is_spare scratch path ≡ false → (scratch == r.from) ≡ false → is_spare scratch (path ++ r ∷ []) ≡ false
spare_push scratch [] r spare other = refl
spare_push scratch (m ∷ ms) r spare other = none_in (λ n. scratch == n.from) ms (r ∷ []) spare (or_from (scratch == r.from) false other refl)

spare_pop : (scratch : ℕ) (p : List Move) (top : Move) → is_spare scratch (p ++ top ∷ []) ≡ false → is_spare scratch p ≡ false
spare_pop scratch [] top spare = refl
spare_pop scratch (m ∷ ms) top spare = (none_of (λ n. scratch == n.from) ms (top ∷ []) spare).0

most_push : (scratch : ℕ) (p : List Move) (top r : Move) → most_of scratch ((p ++ top ∷ []) ++ r ∷ []) ≡ most_of scratch (p ++ top ∷ []) + 1
most_push scratch [] top r = omega arith
most_push scratch (m ∷ ms) top r =
    let more : length ((ms ++ top ∷ []) ++ r ∷ []) ≡ length (ms ++ top ∷ []) + 1 = length-append (ms ++ top ∷ []) (r ∷ []) in omega arith

most_pop : (scratch : ℕ) (p : List Move) (top : Move) → most_of scratch p + 1 ≤ most_of scratch (p ++ top ∷ [])
most_pop scratch [] top = omega arith
most_pop scratch (m ∷ ms) top = let more : length (ms ++ top ∷ []) ≡ length ms + 1 = length-append ms (top ∷ []) in omega arith

-- ---- places inside a test

passes : (a b : Bool) → a ≡ true → b ≡ true → not (a && b) ≡ false
passes a b f g = rw (f, g) refl

-- ---- a path grows by a move that waited

taken_out : (path before after : List Move) (r : Move) → path ++ (before ++ r ∷ after) ≡ (path ++ before) ++ r ∷ after
taken_out path before after r = sym (append_assoc path before (r ∷ after))

put_on : (path rest : List Move) (r : Move) → (path ++ r ∷ []) ++ rest ≡ path ++ r ∷ rest
put_on path rest r = append_assoc path (r ∷ []) rest

none_moved : (p : Move → Bool) (path before after : List Move) (r : Move) → list_any p (path ++ (before ++ r ∷ after)) ≡ false → list_any p ((path ++ r ∷ []) ++ (before ++ after)) ≡ false
none_moved p path before after r none =
    let parts : (p r ≡ false) × (list_any p ((path ++ before) ++ after) ≡ false) =
    none_between p (path ++ before) after r (ap (list_any p) (sym (taken_out path before after r)) ∙ none) in
    ap (list_any p) (put_on path (before ++ after) r)
    ∙ none_with p path (before ++ after) r parts.0 (ap (list_any p) (sym (append_assoc path before after)) ∙ parts.1)

taken_apart : (path before after : List Move) (r : Move) → are_apart (path ++ (before ++ r ∷ after)) ≡ true → (is_target r.to (path ++ (before ++ after)) ≡ false) × (are_apart (path ++ (before ++ after)) ≡ true)
taken_apart path before after r apart =
    let parts : (is_target r.to ((path ++ before) ++ after) ≡ false) × (are_apart ((path ++ before) ++ after) ≡ true) =
    apart_out (path ++ before) after r (ap are_apart (sym (taken_out path before after r)) ∙ apart) in
    (ap (is_target r.to) (sym (append_assoc path before after)) ∙ parts.0, ap are_apart (sym (append_assoc path before after)) ∙ parts.1)

apart_moved : (path before after : List Move) (r : Move) → are_apart (path ++ (before ++ r ∷ after)) ≡ true → are_apart ((path ++ r ∷ []) ++ (before ++ after)) ≡ true
apart_moved path before after r apart =
    let parts : (is_target r.to (path ++ (before ++ after)) ≡ false) × (are_apart (path ++ (before ++ after)) ≡ true) = taken_apart path before after r apart in
    ap are_apart (put_on path (before ++ after) r) ∙ apart_in path (before ++ after) r parts.0 parts.1

value_moved : (path before after : List Move) (r : Move) (has : ℕ → ℕ) (x : ℕ) → are_apart (path ++ (before ++ r ∷ after)) ≡ true →
    at_once ((path ++ r ∷ []) ++ (before ++ after)) has x ≡ at_once (path ++ (before ++ r ∷ after)) has x
value_moved path before after r has x apart =
    let none : is_target r.to (path ++ (before ++ after)) ≡ false = (taken_apart path before after r apart).0 in
    let in_path : is_target r.to path ≡ false = (none_of (λ n. r.to == n.to) path (before ++ after) none).0 in
    let in_both : is_target r.to (path ++ before) ≡ false =
    (none_of (λ n. r.to == n.to) (path ++ before) after (ap (is_target r.to) (append_assoc path before after) ∙ none)).0 in
    ap (λ ms. at_once ms has x) (put_on path (before ++ after) r)
    ∙ stands_first path (before ++ after) r has x in_path
    ∙ ap (λ ms. at_once (r ∷ ms) has x) (sym (append_assoc path before after))
    ∙ sym (stands_first (path ++ before) after r has x in_both)
    ∙ ap (λ ms. at_once ms has x) (append_assoc path before (r ∷ after))

can_push : (scratch : ℕ) (p before after : List Move) (top r : Move) → r.from ≡ top.to → CanBeDone scratch (p ++ top ∷ []) (before ++ r ∷ after) →
    CanBeDone scratch ((p ++ top ∷ []) ++ r ∷ []) (before ++ after)
can_push scratch p before after top r reads can =
    let other : ((scratch == r.from) ≡ false) × (is_source scratch (before ++ after) ≡ false) = none_between (λ n. scratch == n.from) before after r can.unread in
    record {
      apart = apart_moved (p ++ top ∷ []) before after r can.apart;
      untouched = none_moved (λ n. scratch == n.to) (p ++ top ∷ []) before after r can.untouched;
      unread = other.1;
      spare = spare_push scratch (p ++ top ∷ []) r can.spare other.0;
      chained = path_push p top r can.chained reads;
    }

few_pushed : (scratch : ℕ) (p before after : List Move) (top r : Move) →
    most_of scratch ((p ++ top ∷ []) ++ r ∷ []) + 2 * length (before ++ after) ≤ most_of scratch (p ++ top ∷ []) + 2 * length (before ++ r ∷ after)
few_pushed scratch p before after top r =
    let grown : most_of scratch ((p ++ top ∷ []) ++ r ∷ []) ≡ most_of scratch (p ++ top ∷ []) + 1 = most_push scratch p top r in
    let old : length (before ++ r ∷ after) ≡ length before + (length after + 1) = length-append before (r ∷ after) ∙ omega arith in
    let new : length (before ++ after) ≡ length before + length after = length-append before after in
    omega arith

module _ (scratch : ℕ) (first : Move) (waited begun : List Move) where
  pushed_in : (p before after done : List Move) (top r : Move) → r.from ≡ top.to → IsFollowed scratch first waited begun (p ++ top ∷ []) (before ++ r ∷ after) done →
      IsFollowed scratch first waited begun ((p ++ top ∷ []) ++ r ∷ []) (before ++ after) done
  pushed_in p before after done top r reads followed = record {
    can = can_push scratch p before after top r reads followed.can;
    values = λ has x other. value_moved (p ++ top ∷ []) before after r (in_order done has) x followed.can.apart ∙ followed.values has x other;
    fewer =
        let old : length (before ++ r ∷ after) ≡ length before + (length after + 1) = length-append before (r ∷ after) ∙ omega arith in
        let new : length (before ++ after) ≡ length before + length after = length-append before after in
        omega (arith, followed.fewer);
    few = let same : most_of scratch ((p ++ top ∷ []) ++ r ∷ []) + 2 * length (before ++ after) ≤ most_of scratch (p ++ top ∷ []) + 2 * length (before ++ r ∷ after) = few_pushed scratch p before after top r in
        omega (arith, followed.few);
    inside = λ test spare pending old.
        let stays = followed.inside test spare pending old in
        (stays.0, none_moved (λ n. not (test n.to && test n.from)) (p ++ top ∷ []) before after r stays.1);
  }

  -- a move that reads what the youngest of a path writes is added to it
  pub pushed : (path p waiting left done : List Move) (top r : Move) → path ≡ p ++ top ∷ [] → IsTaken top.to waiting r left → IsFollowed scratch first waited begun path waiting done →
      IsFollowed scratch first waited begun ((p ++ top ∷ []) ++ r ∷ []) left done
  pushed path p waiting left done top r path_is taken followed =
      subst (λ ms. IsFollowed scratch first waited begun ((p ++ top ∷ []) ++ r ∷ []) ms done) (sym taken.new_is)
      (pushed_in p taken.before taken.after done top r taken.reads
      (subst (λ ms. IsFollowed scratch first waited begun (p ++ top ∷ []) ms done) taken.old_is (subst (λ ms. IsFollowed scratch first waited begun ms waiting done) path_is followed)))

-- ---- a cycle is broken, where there is one

module _ (scratch : ℕ) (first : Move) (waited begun : List Move) (top : Move) (waiting done : List Move) where
  abbrev Before : List Move → Type 0
  Before p = IsFollowed scratch first waited begun (p ++ top ∷ []) waiting done

  -- no move of the path reads what the youngest writes
  abbrev Broken : List Move → List Move → Type 0
  Broken p saves = IsFollowed scratch first waited begun (p ++ top ∷ []) waiting (done ++ saves) × (is_source top.to p ≡ false)

  -- what the youngest writes is written by no other
  written_once : (p : List Move) → Before p → is_target top.to p ≡ false
  written_once p before =
      let out : (is_target top.to (p ++ waiting) ≡ false) × (are_apart (p ++ waiting) ≡ true) = apart_out p waiting top (ap are_apart (sym (put_on p waiting top)) ∙ before.can.apart) in
      (none_of (λ n. top.to == n.to) p waiting out.0).0

  rest_unread : (m : Move) (ms : List Move) → Before (m ∷ ms) → is_source top.to ms ≡ false
  rest_unread m ms before =
      let parts : ((top.to == m.to) ≡ false) × (is_target top.to ms ≡ false) = or_parts (top.to == m.to) (is_target top.to ms) (written_once (m ∷ ms) before) in
      chain_unread m.to ms top top.to before.can.chained parts.0 parts.1

  scratch_other : (p : List Move) → Before p → (scratch == top.to) ≡ false
  scratch_other p before = (none_between (λ n. scratch == n.to) p waiting top (ap (is_target scratch) (sym (put_on p waiting top)) ∙ before.can.untouched)).0

  kept : (p : List Move) → Before p → is_source top.to p ≡ false → Broken p []
  kept p before unread = (subst (λ ds. IsFollowed scratch first waited begun (p ++ top ∷ []) waiting ds) (sym (append-nil done)) before, unread)

  -- the move that reads the scratch place in place of its source
  abbrev aside : Move → Move
  aside m = record { to = m.to; from = scratch }

  abbrev save : Move → Move
  save m = record { to = scratch; from = m.from }

  all_unread : (m : Move) (ms : List Move) → Before (m ∷ ms) → is_source scratch ((ms ++ top ∷ []) ++ waiting) ≡ false
  all_unread m ms before = none_in (λ n. scratch == n.from) (ms ++ top ∷ []) waiting before.can.spare before.can.unread

  few_broken : (m : Move) (ms : List Move) → (m.from == top.to) ≡ true → Before (m ∷ ms) →
      length (done ++ save m ∷ []) + most_of scratch (aside m ∷ ms ++ top ∷ []) ≤ length done + most_of scratch (m ∷ ms ++ top ∷ [])
  few_broken m ms reads before =
      let more : length (done ++ save m ∷ []) ≡ length done + 1 = length-append done (save m ∷ []) in
      let one : one_if (not (m.from == scratch)) ≡ 1 =
      ap (λ t. one_if (not t)) (ap (λ y. y == scratch) (eqb-true m.from top.to reads) ∙ differ_both scratch top.to (scratch_other (m ∷ ms) before)) in
      let none : one_if (not (scratch == scratch)) ≡ 0 = ap (λ t. one_if (not t)) (eq-eqb scratch scratch refl) in
      omega arith

  inside_broken : (test : ℕ → Bool) (m : Move) (rest : List Move) → test scratch ≡ true → is_outside test done ≡ false → is_outside test (m ∷ rest) ≡ false →
      (is_outside test (done ++ save m ∷ []) ≡ false) × (is_outside test (aside m ∷ rest) ≡ false)
  inside_broken test m rest spare old stays =
      let parts : (not (test m.to && test m.from) ≡ false) × (is_outside test rest ≡ false) = or_parts (not (test m.to && test m.from)) (is_outside test rest) stays in
      let both : (test m.to ≡ true) × (test m.from ≡ true) = (and_parts (test m.to) (test m.from) (not-false _ parts.0)) in (
        none_in (λ n. not (test n.to && test n.from)) done (save m ∷ []) old (or_from (not (test scratch && test m.from)) false (passes (test scratch) (test m.from) spare both.1) refl),
        or_from (not (test m.to && test scratch)) (is_outside test rest) (passes (test m.to) (test scratch) both.0 spare) parts.1,
      )

  cycle : (m : Move) (ms : List Move) → (m.from == top.to) ≡ true → Before (m ∷ ms) → Broken (aside m ∷ ms) (save m ∷ [])
  cycle m ms reads before = (
    record {
      can = record { apart = before.can.apart; untouched = before.can.untouched; unread = before.can.unread; spare = before.can.spare; chained = before.can.chained };
      values = λ has x other.
          ap (λ has'. at_once (aside m ∷ (ms ++ top ∷ []) ++ waiting) has' x) (in_order_after done (save m) has)
          ∙ saved_first m ((ms ++ top ∷ []) ++ waiting) scratch (in_order done has) x (all_unread m ms before) other
          ∙ before.values has x other;
      fewer = before.fewer;
      few = let same : length (done ++ save m ∷ []) + most_of scratch (aside m ∷ ms ++ top ∷ []) ≤ length done + most_of scratch (m ∷ ms ++ top ∷ []) = few_broken m ms reads before in
          omega (arith, before.few);
      inside = λ test spare pending old.
          let stays = before.inside test spare pending old in
          inside_broken test m ((ms ++ top ∷ []) ++ waiting) spare stays.0 stays.1;
    },
    or_from (top.to == scratch) (is_source top.to ms) (differ_both scratch top.to (scratch_other (m ∷ ms) before)) (rest_unread m ms before),
  )

  broken : (p : List Move) → Before p → Broken (redirected top.to scratch p) (saved top.to scratch p)
  broken [] before = kept [] before refl
  broken (m ∷ ms) before = by (m.from == top.to) refl
    where
      by : (test : Bool) → (m.from == top.to) ≡ test →
          Broken (elim test [ true ↦ aside m ∷ ms | false ↦ m ∷ ms ]) (elim test [ true ↦ save m ∷ [] | false ↦ [] ])
      by true reads = cycle m ms reads before
      by false other = kept (m ∷ ms) before (or_from (top.to == m.from) (is_source top.to ms) (differ_both m.from top.to other) (rest_unread m ms before))

-- ---- the youngest move of a path is done

module _ (scratch : ℕ) (first : Move) (waited begun : List Move) (top : Move) (waiting : List Move) (none : is_source top.to waiting ≡ false) where
  can_pop : (p : List Move) → CanBeDone scratch (p ++ top ∷ []) waiting → CanBeDone scratch p waiting
  can_pop p can = record {
    apart = (apart_out p waiting top (ap are_apart (sym (put_on p waiting top)) ∙ can.apart)).1;
    untouched = (none_between (λ n. scratch == n.to) p waiting top (ap (is_target scratch) (sym (put_on p waiting top)) ∙ can.untouched)).1;
    unread = can.unread;
    spare = spare_pop scratch p top can.spare;
    chained = path_pop p top can.chained;
  }

  popped : (p done : List Move) → IsFollowed scratch first waited begun (p ++ top ∷ []) waiting done → is_source top.to p ≡ false →
      IsFollowed scratch first waited begun p waiting (done ++ top ∷ [])
  popped p done followed unread_there = record {
    can = can_pop p followed.can;
    values = λ has x other.
        ap (λ has'. at_once (p ++ waiting) has' x) (in_order_after done top has)
        ∙ done_first p waiting top (in_order done has) x (apart_out p waiting top (ap are_apart (sym (put_on p waiting top)) ∙ followed.can.apart)).0
        (none_in (λ n. top.to == n.from) p waiting unread_there none)
        ∙ ap (λ ms. at_once ms (in_order done has) x) (sym (put_on p waiting top))
        ∙ followed.values has x other;
    fewer = followed.fewer;
    few = let more : length (done ++ top ∷ []) ≡ length done + 1 = length-append done (top ∷ []) in
        let less : most_of scratch p + 1 ≤ most_of scratch (p ++ top ∷ []) = most_pop scratch p top in
        omega (arith, followed.few);
    inside = λ test spare pending old.
        let stays = followed.inside test spare pending old in
        let out : Move → Bool = λ n. not (test n.to && test n.from) in
        let parts : (out top ≡ false) × (list_any out (p ++ waiting) ≡ false) = none_between out p waiting top (ap (list_any out) (sym (put_on p waiting top)) ∙ stays.1) in
        (none_in out done (top ∷ []) stays.0 (or_from (out top) false parts.0 refl), parts.1);
  }

  -- the youngest move of a path is done where no move that waits reads what it writes
  pub settled : (path p done : List Move) → path ≡ p ++ top ∷ [] → IsFollowed scratch first waited begun path waiting done →
      IsFollowed scratch first waited begun (redirected top.to scratch p) waiting ((done ++ saved top.to scratch p) ++ top ∷ [])
  settled path p done path_is followed =
      let after : Broken scratch first waited begun top waiting done (redirected top.to scratch p) (saved top.to scratch p) =
      broken scratch first waited begun top waiting done p (subst (λ ms. IsFollowed scratch first waited begun ms waiting done) path_is followed) in
      popped (redirected top.to scratch p) (done ++ saved top.to scratch p) after.0 after.1

-- ---- where a chain begins

-- the last of the moves that wait is taken
pub can_begin : (scratch : ℕ) (ms waiting : List Move) (first : Move) → ms ≡ waiting ++ first ∷ [] → CanBeDone scratch [] ms → CanBeDone scratch (first ∷ []) waiting
can_begin scratch ms waiting first ms_is can =
    let out : (is_target first.to (waiting ++ []) ≡ false) × (are_apart (waiting ++ []) ≡ true) = apart_out waiting [] first (ap are_apart (sym ms_is) ∙ can.apart) in
    let same : waiting ++ [] ≡ waiting = append-nil waiting in
    let unwritten : ((scratch == first.to) ≡ false) × (is_target scratch (waiting ++ []) ≡ false) =
    none_between (λ n. scratch == n.to) waiting [] first (ap (is_target scratch) (sym ms_is) ∙ can.untouched) in
    record {
      apart = apart_in [] waiting first (ap (is_target first.to) (sym same) ∙ out.0) (ap are_apart (sym same) ∙ out.1);
      untouched = or_from (scratch == first.to) (is_target scratch waiting) unwritten.0 (ap (is_target scratch) (sym same) ∙ unwritten.1);
      unread = (none_of (λ n. scratch == n.from) waiting (first ∷ []) (ap (is_source scratch) (sym ms_is) ∙ can.unread)).0;
      spare = refl;
      chained = tt;
    }

pub begun_with : (scratch : ℕ) (first : Move) (waiting done : List Move) → CanBeDone scratch (first ∷ []) waiting → IsFollowed scratch first waiting done (first ∷ []) waiting done
begun_with scratch first waiting done can = record {
  can = can;
  values = λ has x other. refl;
  fewer = omega arith;
  few = let most : one_if (not (first.from == scratch)) ≤ 1 = one_at_most (not (first.from == scratch)) in omega arith;
  inside = λ test spare pending old. (old, pending);
}
  where
    one_at_most : (test : Bool) → one_if test ≤ 1
    one_at_most true = omega arith
    one_at_most false = omega arith

-- the last of the moves that wait is done first as well as last
pub last_is_first : (scratch : ℕ) (ms waiting : List Move) (first : Move) (has : ℕ → ℕ) (x : ℕ) → ms ≡ waiting ++ first ∷ [] → CanBeDone scratch [] ms →
    at_once (first ∷ waiting) has x ≡ at_once ms has x
last_is_first scratch ms waiting first has x ms_is can =
    let out : (is_target first.to (waiting ++ []) ≡ false) × (are_apart (waiting ++ []) ≡ true) = apart_out waiting [] first (ap are_apart (sym ms_is) ∙ can.apart) in
    ap (λ l. at_once (first ∷ l) has x) (sym (append-nil waiting))
    ∙ sym (stands_first waiting [] first has x (ap (is_target first.to) (sym (append-nil waiting)) ∙ out.0))
    ∙ ap (λ l. at_once l has x) (sym ms_is)

-- a move from a place to itself is left out
pub can_skip : (scratch : ℕ) (ms waiting : List Move) (first : Move) → ms ≡ waiting ++ first ∷ [] → CanBeDone scratch [] ms → CanBeDone scratch [] waiting
can_skip scratch ms waiting first ms_is can =
    let begun : CanBeDone scratch (first ∷ []) waiting = can_begin scratch ms waiting first ms_is can in
    record {
      apart = (apart_out [] waiting first begun.apart).1;
      untouched = (or_parts (scratch == first.to) (is_target scratch waiting) begun.untouched).1;
      unread = begun.unread;
      spare = refl;
      chained = tt;
    }

pub skipped : (scratch : ℕ) (ms waiting : List Move) (first : Move) (has : ℕ → ℕ) (x : ℕ) → ms ≡ waiting ++ first ∷ [] → CanBeDone scratch [] ms → first.from ≡ first.to →
    at_once waiting has x ≡ at_once ms has x
skipped scratch ms waiting first has x ms_is can itself =
    let out : (is_target first.to (waiting ++ []) ≡ false) × (are_apart (waiting ++ []) ≡ true) = apart_out waiting [] first (ap are_apart (sym ms_is) ∙ can.apart) in
    sym (idle waiting first has x (ap (is_target first.to) (sym (append-nil waiting)) ∙ out.0) itself) ∙ ap (λ l. at_once l has x) (sym ms_is)

-- the last of them, and the others, stay inside a test
pub first_inside : (test : ℕ → Bool) (ms waiting : List Move) (first : Move) → ms ≡ waiting ++ first ∷ [] → is_outside test ms ≡ false → is_outside test (first ∷ waiting) ≡ false
first_inside test ms waiting first ms_is inside =
    let out : Move → Bool = λ n. not (test n.to && test n.from) in
    let parts : (list_any out waiting ≡ false) × (list_any out (first ∷ []) ≡ false) = none_of out waiting (first ∷ []) (ap (list_any out) (sym ms_is) ∙ inside) in
    or_from (out first) (list_any out waiting) (or_parts (out first) false parts.1).0 parts.0

pub left_inside : (test : ℕ → Bool) (ms waiting : List Move) (first : Move) → ms ≡ waiting ++ first ∷ [] → is_outside test ms ≡ false → is_outside test waiting ≡ false
left_inside test ms waiting first ms_is inside =
    let out : Move → Bool = λ n. not (test n.to && test n.from) in
    (none_of out waiting (first ∷ []) (ap (list_any out) (sym ms_is) ∙ inside)).0
