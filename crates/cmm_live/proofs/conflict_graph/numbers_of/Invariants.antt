use Rattle.std.proofs.Common.{◌≡◌, ◌<◌, ℕ, take}
use Rattle.std.specs.List.{All}
use Rattle.cmm_live.specs.Locals.{local_count}
use Rattle.cmm_live.specs.inside.Interfering.{is_number_of, is_one_of}
use Rattle.cmm_live.proofs.conflict_graph.numbers_of.Given as goal

abbrev pub invariant-loop-local : goal.invariant-loop-local
invariant-loop-local l = record {
  within : All (λ number. number < local_count l.g) l.numbers.items;
  exact : (a : ℕ) → is_one_of l.numbers.items a ≡ is_number_of l.g (take l.local-index l.locals) a;
}
