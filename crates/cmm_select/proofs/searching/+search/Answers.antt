use Rattle.std.proofs.Common.{◌≡◌, ℕ, zero, suc, ◌+◌, ◌-◌, ◌*◌, ◌/◌, ◌≤◌, ◌^◌, ◌++◌, ◌∷◌, [], List, length, length-append, false, sym, ap, ◌∙◌, subst, arith, true}
use Rattle.std.specs.List.{All}
use Rattle.rv_asm.specs.Assembly.{IsInner}
use Rattle.rv_asm.specs.Parts.{Does}
use Rattle.rv_asm.specs.declared.part.Meaning.{Meaning}
use Rattle.rv_asm.specs.declared.part.Meaning.TheVariants.{Inner}
use Rattle.rv_asm.specs.declared.part.Part.TheVariants.{Jump, Place}
use Rattle.cmm_effects.proofs.Shared.{adds_part, adds_then, adds_weaker}
use Rattle.cmm_effects.specs.Pieces.{Adds}
use Rattle.cmm_select.proofs.Halving.{all_inner_more, by_halves, fresh_there, half_few, inner_more, made_count, made_inner, made_one, makes_one, makes_then, makes_weaker, searches_weaker, take_then_drop, then_end}
use Rattle.cmm_select.proofs.Spans.{all_back, all_front, ascend_back, ascend_front, first_is}
use Rattle.cmm_select.specs.inside.Searches.{GoesFrom, Searches, ascend, first_of}
use Rattle.cmm_select.specs.declared.span.Span.{Span}
use Rattle.cmm_select.proofs.searching.+search.Goals as goal

pub returns-in-Some-clause-searches : goal.returns-in-Some-clause-searches
returns-in-Some-clause-searches t c = λ k few.
    let mid = c.jump_in_spans.new.asm.parts in
    let ss = c.args.spans.now in
    let jump : Adds 2 mid c.jump.new.self.parts (λ x from on. Does x (Jump c.args.end) from on) = rw c.in_ok-jump.ensures.parts (adds_part mid (Jump c.args.end) 2 (omega arith)) in
    adds_weaker (adds_then c.in_ok-jump_in_spans.ensures.goes jump) (omega (arith, c.requires.some))
    (λ x from on does. searches_weaker x 22 (82 + 11 * k) ss c.args.end from on (omega arith) (then_end x ss c.args.end 20 from on does))

pub returns-then-spans-le-FEW-clause-searches : goal.returns-then-spans-le-FEW-clause-searches
returns-then-spans-le-FEW-clause-searches t c = λ k few.
    let mid = c.branch_in_spans.new.asm.parts in
    let ss = c.args.spans.now in
    let jump : Adds 2 mid c.jump-then-spans-le-FEW.new.self.parts (λ x from on. Does x (Jump c.args.end) from on) = rw c.in_ok-jump-2.ensures.parts (adds_part mid (Jump c.args.end) 2 (omega arith)) in
    adds_weaker (adds_then c.in_ok-branch_in_spans.ensures.goes jump) (omega (arith, c.requires.some))
    (λ x from on does. searches_weaker x (20 * length ss + 2) (82 + 11 * k) ss c.args.end from on (omega (arith, c.if-spans-le-FEW.true)) (then_end x ss c.args.end (20 * length ss) from on does))

pub search-requires : goal.search-requires
search-requires t c =
    let ss = c.args.spans.now in
    let lower = c.split_at.result.0.now in
    let upper = c.split_at.result.1.now in
    let old = c.args.asm.now.labels in
    let whole : lower ++ upper ≡ ss = rw (c.split_at.ensures.front, c.split_at.ensures.back) (take_then_drop (length ss / 2) ss) in
    let up : ascend 0 (lower ++ upper) ≡ true = subst (λ (xs : List Span). ascend 0 xs ≡ true) (sym whole) c.requires.apart in
    let made : c.branch_from.new.asm.labels ≡ old ++ Inner false ∷ [] = c.in_ok-branch_from.ensures.labels ∙ c.in_ok-above.ensures.labels in
    let count : length c.branch_from.new.asm.labels ≡ length old + 1 = ap length made ∙ length-append old (Inner false ∷ []) in
    let inner : All (λ s. IsInner old s.label) lower = all_front (λ s. IsInner old s.label) lower upper (subst (λ (xs : List Span). All (λ s. IsInner old s.label) xs) (sym whole) c.requires.inner) in (
      omega (arith, c.decreases, c.split_at.ensures.front_len, c.if-spans-le-FEW.false),
      (
        omega (arith, c.split_at.ensures.front_len, c.if-spans-le-FEW.false),
        (ascend_front 0 lower upper up, (omega (arith, count, c.split_at.ensures.front_len, c.if-spans-le-FEW.false, c.requires.room), (subst (λ (labels : List Meaning). All (λ s. IsInner labels s.label) lower) (sym made) (all_inner_more old (Inner false ∷ []) lower inner), subst (λ (labels : List Meaning). IsInner labels c.args.end) (sym made) (inner_more old (Inner false ∷ []) c.args.end c.requires.end)))),
      ),
    )

pub place-requires : goal.place-requires
place-requires t c =
    let old = c.args.asm.now.labels in
    let made : c.branch_from.new.asm.labels ≡ old ++ Inner false ∷ [] = c.in_ok-branch_from.ensures.labels ∙ c.in_ok-above.ensures.labels in
    rw (c.in_ok-search.ensures.labels.is, made) (fresh_there old _ c.in_ok-above.above.number c.in_ok-above.ensures.number)

pub search-requires-2 : goal.search-requires-2
search-requires-2 t c =
    let ss = c.args.spans.now in
    let lower = c.split_at.result.0.now in
    let upper = c.split_at.result.1.now in
    let old = c.args.asm.now.labels in
    let whole : lower ++ upper ≡ ss = rw (c.split_at.ensures.front, c.split_at.ensures.back) (take_then_drop (length ss / 2) ss) in
    let up : ascend 0 (lower ++ upper) ≡ true = subst (λ (xs : List Span). ascend 0 xs ≡ true) (sym whole) c.requires.apart in
    let made : c.branch_from.new.asm.labels ≡ old ++ Inner false ∷ [] = c.in_ok-branch_from.ensures.labels ∙ c.in_ok-above.ensures.labels in
    let one = makes_one (length lower - 2) old c.branch_from.new.asm.labels c.search.new.asm.labels c.place.new.self.labels c.in_ok-above.above.number c.in_ok-above.ensures.number made
    c.in_ok-search.ensures.labels c.place.ensures.labels in
    let count = made_count (length lower - 2 + 1) old c.place.new.self.labels one in
    let inner : All (λ s. IsInner old s.label) upper = all_back (λ s. IsInner old s.label) lower upper (subst (λ (xs : List Span). All (λ s. IsInner old s.label) xs) (sym whole) c.requires.inner) in (
      omega (arith, c.decreases, c.split_at.ensures.back_len, c.if-spans-le-FEW.false),
      (
        omega (arith, c.split_at.ensures.back_len, c.if-spans-le-FEW.false),
        (ascend_back 0 lower upper up, (omega (arith, count, c.split_at.ensures.front_len, c.split_at.ensures.back_len, c.if-spans-le-FEW.false, c.requires.room), (made_inner (length lower - 2 + 1) old c.place.new.self.labels upper one inner, made_one (length lower - 2 + 1) old c.place.new.self.labels c.args.end one c.requires.end))),
      ),
    )

pub returns-clause-searches : goal.returns-clause-searches
returns-clause-searches t c = λ k few. by k few
  where
    by : (k : ℕ) → length c.args.spans.now ≤ 4 * 2 ^ k → Adds (27 * length c.args.spans.now - 11) c.args.asm.now.parts c.search-2.new.asm.parts (Searches (82 + 11 * k) c.args.spans.now c.args.end)
    by zero few = absurd (omega (arith, few, c.if-spans-le-FEW.false))
    by (suc j) few =
        let ss = c.args.spans.now in
        let lower = c.split_at.result.0.now in
        let upper = c.split_at.result.1.now in
        let above = c.in_ok-above.above in
        let whole : lower ++ upper ≡ ss = rw (c.split_at.ensures.front, c.split_at.ensures.back) (take_then_drop (length ss / 2) ss) in
        let up : ascend 0 (lower ++ upper) ≡ true = subst (λ (xs : List Span). ascend 0 xs ≡ true) (sym whole) c.requires.apart in
        let some : 2 ≤ length upper = omega (arith, c.split_at.ensures.back_len, c.if-spans-le-FEW.false) in
        let both = half_few j (length ss) few in
        let first : Adds 11 c.args.asm.now.parts c.branch_from.new.asm.parts (GoesFrom (first_of upper) above) =
        subst (λ (n : ℕ). Adds 11 c.args.asm.now.parts c.branch_from.new.asm.parts (GoesFrom n above)) (first_is upper _ (omega (arith, some)))
        (rw c.in_ok-above.ensures.parts at c.in_ok-branch_from.ensures.turns) in
        let second = c.in_ok-search.ensures.searches j (omega (arith, both.0, c.split_at.ensures.front_len)) in
        let place : Adds 0 c.search.new.asm.parts c.place.new.self.parts (λ x from on. Does x (Place above) from on) =
        rw c.place.ensures.parts (adds_part c.search.new.asm.parts (Place above) 0 (omega arith)) in
        let fourth = c.in_ok-search-2.ensures.searches j (omega (arith, both.1, c.split_at.ensures.back_len)) in
        adds_weaker (adds_then first (adds_then second (adds_then place fourth)))
        (omega (arith, c.split_at.ensures.front_len, c.split_at.ensures.back_len, c.if-spans-le-FEW.false))
        (λ x from on does.
        searches_weaker x (11 + (82 + 11 * j)) (82 + 11 * suc j) ss c.args.end from on (omega arith)
        (subst (λ (xs : List Span). Searches (11 + (82 + 11 * j)) xs c.args.end x from on) whole
        (by_halves x lower upper c.args.end above (82 + 11 * j) (omega (arith, some)) up from on does)))

pub returns-clause-labels : goal.returns-clause-labels
returns-clause-labels t c =
    let lower = c.split_at.result.0.now in
    let upper = c.split_at.result.1.now in
    let old = c.args.asm.now.labels in
    let made : c.branch_from.new.asm.labels ≡ old ++ Inner false ∷ [] = c.in_ok-branch_from.ensures.labels ∙ c.in_ok-above.ensures.labels in
    let one = makes_one (length lower - 2) old c.branch_from.new.asm.labels c.search.new.asm.labels c.place.new.self.labels c.in_ok-above.above.number c.in_ok-above.ensures.number made
    c.in_ok-search.ensures.labels c.place.ensures.labels in
    makes_weaker (length lower - 2 + 1 + (length upper - 2)) (length c.args.spans.now - 2) old c.search-2.new.asm.labels
    (omega (arith, c.split_at.ensures.front_len, c.split_at.ensures.back_len, c.if-spans-le-FEW.false))
    (makes_then (length lower - 2 + 1) (length upper - 2) old c.place.new.self.labels c.search-2.new.asm.labels one c.in_ok-search-2.ensures.labels)
