use Rattle.std.proofs.Common.{◌≡◌, ◌+◌, ◌-◌, drop, map, subst, arith}
use Rattle.cmm_proc_scope.specs.Bodies.{scope_of_body}
use Rattle.cmm_lower_parts.proofs.Behind.{AreBehind, behind_next}
use Rattle.cmm_lower_parts.proofs.stackdata.from_behind.Goals as goal

pub loop-index-preserved : goal.loop-index-preserved
loop-index-preserved g c =
    let s = scope_of_body g.N.Names.senses c.args.names.now in
    let rooms = c.args.rooms.now in
    let i = c.loop-index.index - 1 in
    let next : c.loop-index.index ≡ i + 1 = omega arith in
    behind_next s rooms i c.index-rooms-index.result c.loop-index.items.items c.push.new.self.items c.loop-index.behind c.alignment_before-behind.result c.item_of-item.result
    (omega arith) c.index-rooms-index.is
    (subst (λ k. AreBehind s c.loop-index.items.items c.loop-index.behind (map (λ r. r.now) (drop k rooms))) next c.loop-index.invariant)
    c.item_of-item.ensures c.in_ok-push.ensures.items c.alignment_before-behind.ensures
