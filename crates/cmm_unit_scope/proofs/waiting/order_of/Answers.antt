use Rattle.std.proofs.Common.{◌∙◌, List, ℕ, ap, map}
use Rattle.cmm_symbols.specs.Shown.{shown}
use Rattle.cmm_digraph.specs.Graphs.{is_graph}
use Rattle.cmm_unit_scope.specs.inside.Evaluating.{flag_at}
use Rattle.cmm_unit_scope.proofs.Order.{waiting_is_graph}
use Rattle.cmm_unit_scope.proofs.waiting.order_of.Goals as goal

pub peel-requires : goal.peel-requires
peel-requires c =
    ap (λ (g : List (List ℕ)). is_graph g) c.as_slice.ensures
    ∙ waiting_is_graph (map shown c.args.declared.now) (flag_at c.args.cyclic.now) c.in_ok-waits.waits c.in_ok-waits.ensures
