use Rattle.std.proofs.Common.{◌≡◌, map, drop}
use Rattle.cmm_static_semantics.specs.Operators as operators
use Rattle.cmm_operators.proofs.operators.operator_in.Given as goal

-- the rows that are left say what all rows do
abbrev pub invariant-loop-spelling : goal.invariant-loop-spelling
invariant-loop-spelling l =
    operators.operator_in (map (λ r. operators.row r.0.now r.1) (drop l.spelling-index l.table)) l.name
    ≡ operators.operator_in (map (λ r. operators.row r.0.now r.1) l.table) l.name
