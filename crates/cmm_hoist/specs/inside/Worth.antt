-- Constants that are operands of nodes.
use Rattle.std.specs.Prelude.{Contains, IfSome, List}
use Rattle.std.specs.List.{All}
use Rattle.cmm_words.specs.declared.constant.Constant.{Constant}
use Rattle.cmm_graph.specs.declared.operand.Operand.{Operand}
use Rattle.cmm_graph.specs.declared.operand.Operand.TheVariants as operand
use Rattle.cmm_hoist.specs.declared.worth.Worthy.{Worthy}

-- constants are among some operands
abbrev pub AreNamed : List Operand → List Constant → Type 0
AreNamed among kept = All (λ constant. Contains among (operand.Constant constant)) kept

-- what one list has another has
abbrev pub IsWithin : List Operand → List Operand → Type 0
IsWithin some all = (o : Operand) → Contains some o → Contains all o

-- so are the constants of a node
pub record AreAmong (among : List Operand) (w : Worthy) : Type 0 where
  pub first : IfSome w.first (λ constant. Contains among (operand.Constant constant))
  pub second : IfSome w.second (λ constant. Contains among (operand.Constant constant))
