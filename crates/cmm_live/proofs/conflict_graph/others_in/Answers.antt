use Rattle.std.proofs.Common.{◌≡◌, ◌<◌, inl, inr, length, get_or, sym, ◌∙◌, arith}
use Rattle.std.proofs.lemmas.List.{get_or_default}
use Rattle.cmm_live.proofs.Pairing.{found_all, found_more, found_skip, member_below}
use Rattle.cmm_live.proofs.conflict_graph.others_in.Goals.{then-other-number+then-has+in_ok-push, else-other-number, else-other-number-via-then-other-number+else-has, else-other-number-via-else-other-number}
use Rattle.cmm_live.proofs.conflict_graph.others_in.Goals as goal

pub has-requires : goal.has-requires
has-requires c =
    let below = member_below c.args.set.now c.deref-other-items.result.now c.loop-other.other-index 0 (c.deref-other-items.ensures.value ∙ c.in_ok-members.ensures) c.loop-other-test.true in
    omega (arith, below, c.requires)

pub loop-other-preserved : goal.loop-other-preserved
loop-other-preserved c =
    let numbers = c.deref-other-items.result.now in
    let i = c.loop-other.other-index in
    let m = get_or numbers i 0 in
    let is : m ≡ get_or numbers i m = get_or_default numbers i 0 m c.loop-other-test.true in
    let below : m < length c.args.class.now =
    (let at = member_below c.args.set.now numbers i 0 (c.deref-other-items.ensures.value ∙ c.in_ok-members.ensures) c.loop-other-test.true in omega (arith, at, c.requires)) in
    elim c.if-other-number.branch [
      | then-other-number+then-has+in_ok-push w ↦ rw (w.others-is, w.in_ok-push.ensures.items)
          (found_more c.args.class.now c.args.number i m numbers c.loop-other.others.items c.loop-other-test.true is c.loop-other.invariant below w.if-other-number.true (sym w.has.ensures ∙ w.if-has.true))
      | else-other-number w ↦ rw w.others-is
          (found_skip c.args.class.now c.args.number i m numbers c.loop-other.others.items c.loop-other-test.true is c.loop-other.invariant (elim w.else-other-number.branch [
            | else-other-number-via-then-other-number+else-has v ↦ inr (sym v.has.ensures ∙ v.if-has.false)
            | else-other-number-via-else-other-number v ↦ inl v.if-other-number.false
          ]))
    ]

pub returns-clause-exact : goal.returns-clause-exact
returns-clause-exact c b = found_all c.args.class.now c.args.set.now c.args.number c.loop-other.other-index c.deref-other-items.result.now c.loop-other.others.items
    (c.deref-other-items.ensures.value ∙ c.in_ok-members.ensures) c.loop-other-test.false c.loop-other.invariant b
