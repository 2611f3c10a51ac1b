use Rattle.std.proofs.Common.{◌≡◌, drop}
use Rattle.std.specs.List.{list_all}
use Rattle.cmm_program.specs.Placed.{apart}
use Rattle.cmm_program.proofs.placement.lies_apart.Given as goal

-- the answer depends on what is left alone
abbrev pub invariant-loop-other : goal.invariant-loop-other
invariant-loop-other l =
    list_all (λ other. apart l.place l.size other) l.pairs ≡ list_all (λ other. apart l.place l.size other) (drop l.other-index l.pairs)
