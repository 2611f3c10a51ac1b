-- The finished code of a compiled program, by addresses.
use Rattle.std.specs.Prelude.{ℕ}
use Rattle.cmm_graph.specs.declared.number.NodeId.{NodeId}
use Rattle.rv_asm.specs.Parts.{Code}
use Rattle.cmm_image_machine.specs.Machine.{Launch, map_of}
use Rattle.cmm_emit_laws.specs.Words.{Symbols}

pub record Finished : Type 0 where
  -- what the labels stand for in the code of a procedure, by its number and theirs
  pub labels : ℕ → ℕ → ℕ
  -- where the code of a node begins, by the number of its procedure
  pub node_at : ℕ → NodeId → ℕ
  pub symbols : Symbols

-- the code of an image, as the labels of a procedure stand in it
abbrev pub code_of : Launch → Finished → ℕ → Code
code_of l f q = record { map = map_of l; at = f.labels q }
