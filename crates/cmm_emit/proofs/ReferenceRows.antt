-- A worked row: what a unit names, by the graphs of its procedures. Procedure 0 calls 1 and puts the address of data label 2, 8 bytes on, into global register 1.
use Rattle.std.proofs.Common.{◌≡◌, refl, [], ◌∷◌}
use Rattle.std.specs.Prelude.{filter}
use Rattle.cmm_words.specs.declared.constant.Constant.TheVariants.{Address, Code}
use Rattle.cmm_words.specs.declared.width.Width.TheVariants.{W64}
use Rattle.cmm_program.specs.declared.procedure.Target.TheVariants as target
use Rattle.cmm_graph.proofs.Shared.{arg, exits, graph, n, num, s}
use Rattle.cmm_graph.specs.declared.graph.Graph.{Graph}
use Rattle.cmm_graph.specs.declared.node.NodeKind.TheVariants.{Assign, Call, CopyIn, Entry, Return}
use Rattle.cmm_graph.specs.declared.operand.Destination.TheVariants.{Target}
use Rattle.cmm_graph.specs.declared.operand.Operand.TheVariants.{Constant}
use Rattle.cmm_graph.specs.declared.operand.Rvalue.TheVariants.{Copy}
use Rattle.cmm_unit_code.specs.declared.unit_code.Reference.TheVariants.{Register, Label, Procedure}
use Rattle.cmm_emit.specs.Mentions.{each_of, is_reference}

abbrev first : Graph
first = graph 0 0
    (Entry [] (n 1) ∷ Call (s 0) (Constant (Code 1 0)) [] (exits (n 2) [] [] []) ∷ CopyIn [] (n 3)
    ∷ Assign (Target (target.Register 1 W64)) (Copy (Constant (Address 2 8))) (n 4) ∷ Return 0 0 (arg (num 7) ∷ []) ∷ []) []

abbrev second : Graph
second = graph 0 0 (Entry [] (n 1) ∷ Return 0 0 [] ∷ []) []

registers : filter (is_reference (first ∷ []) 0 1) (each_of Register 3) ≡ Register 1 ∷ []
registers = refl

labels : filter (is_reference (first ∷ []) 0 1) (each_of Label 3) ≡ Label 2 ∷ []
labels = refl

-- a procedure of another unit is named, one of the unit's own is not
another : filter (is_reference (first ∷ []) 0 1) (each_of Procedure 2) ≡ Procedure 1 ∷ []
another = refl

own : filter (is_reference (first ∷ second ∷ []) 0 2) (each_of Procedure 2) ≡ []
own = refl

-- what nobody names is not there
none : filter (is_reference (second ∷ []) 1 1) (each_of Procedure 2) ≡ []
none = refl
