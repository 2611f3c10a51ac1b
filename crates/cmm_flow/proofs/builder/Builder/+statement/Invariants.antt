use Rattle.std.proofs.Common.{map, reverse}
use Rattle.cmm_flow.specs.inside.LayingBlocks.{LaysArms, LaysBlock}
use Rattle.cmm_flow.proofs.builder.Builder.+statement.Given as goal

abbrev pub invariant-block-loop-statement : goal.invariant-block-loop-statement
invariant-block-loop-statement l = LaysBlock l.initial.self l.self l.q (reverse (map (λ s. s.now) l.yielded)) l.node l.fn.next

abbrev pub invariant-arms-loop-arm : goal.invariant-arms-loop-arm
invariant-arms-loop-arm l =
    LaysArms l.initial.self l.self l.q (reverse (map (λ a. a.now) l.yielded)) (reverse l.ways.backward) l.ways.otherwise l.next
