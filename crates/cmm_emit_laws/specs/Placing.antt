-- Finished bytes in the code of an image.
use Rattle.std.specs.Prelude.{◌≡◌, ℕ, ◌+◌, ◌%◌, ◌<◌, ◌^◌, List, length}
use Rattle.std.specs.List.{All}
use Rattle.rv_asm.specs.Filling.{IsReached, filled}
use Rattle.rv_asm.specs.Finishing.{Contains, GoesToCode, RunAsParts, address_of}
use Rattle.rv_asm.specs.Parts.{Stand}
use Rattle.rv_asm.specs.declared.filling.CodeFix.{CodeFix}
use Rattle.rv_asm.specs.declared.part.Meaning.{Meaning}
use Rattle.rv_asm.specs.declared.part.Part.{Part}
use Rattle.cmm_image_machine.specs.Machine.{Launch, map_of}
use Rattle.cmm_emit_laws.specs.Finished.{Finished, code_of}

-- Bytes that were finished for parts stand in the code of an image, n bytes above the address for which they were made. Each place that waits
-- for a symbol is filled by its value, which it reaches; and these are the numbers for which the labels of a procedure stand in finished code.
pub record IsPlacedIn (l : Launch) (f : Finished) (q : ℕ) (labels : List Meaning) (parts : List Part) (base up : ℕ) (bytes places : List ℕ) (fixes : List CodeFix) (value : ℕ → ℕ) : Type 0 where
  pub aligned : up % 4 ≡ 0
  pub near : up < 2 ^ 63
  pub reached : All (IsReached value (base + up)) fixes
  pub targets : All (GoesToCode labels value) parts
  pub contains : Contains (map_of l) (base + up) (filled value (base + up) fixes bytes)
  pub is_labels : f.labels q ≡ address_of labels places up value

-- What `finish` answers for parts (`RunAsParts`) is code in which these parts stand, so pieces that were appended do there what their contracts say.
abbrev pub FinishedCodeStands : Type 0
FinishedCodeStands = (l : Launch) (f : Finished) (q : ℕ) (labels : List Meaning) (parts : List Part) (base up : ℕ) (bytes places : List ℕ) (fixes : List CodeFix) (value : ℕ → ℕ) →
    RunAsParts labels parts base bytes places fixes → IsPlacedIn l f q labels parts base up bytes places fixes value →
    Stand (code_of l f q) parts (base + up) (base + up + length bytes)
