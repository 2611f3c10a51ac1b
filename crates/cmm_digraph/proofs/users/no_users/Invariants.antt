use Rattle.std.proofs.Common.{◌≡◌}
use Rattle.cmm_digraph.specs.inside.Listed.{nobody}
use Rattle.cmm_digraph.proofs.users.no_users.Given as goal

abbrev pub invariant-loop : goal.invariant-loop
invariant-loop l = l.users.items ≡ nobody l.index
