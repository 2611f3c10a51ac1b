-- In which order labels have their places.
use Rattle.std.specs.Prelude.{◌≡◌, ◌≤◌, List, [], ◌∷◌, ◌++◌}
use Rattle.rv_asm.specs.Sizes.{all_shortest}
use Rattle.rv_asm.specs.declared.part.Label.{Label}
use Rattle.rv_asm.specs.declared.part.Part.{Part}
use Rattle.rv_asm.specs.declared.part.Part.TheVariants.{Place, Single}
use Rattle.rv_table.specs.declared.instruction.Instr.{Instr}

-- the last part is an instruction
pub record IsClosed (parts : List Part) : Type 0 where
  pub front : List Part
  pub last : Instr
  pub is : parts ≡ front ++ Single last ∷ []

-- a label has its place before some parts, which have a word at least
pub record IsBefore (l : Label) (parts back : List Part) : Type 0 where
  pub front : List Part
  pub piece : List Part
  pub is : parts ≡ front ++ ((Place l ∷ piece) ++ back)
  pub word : 4 ≤ all_shortest piece

-- labels have their places in this order, with a word at least behind each
abbrev pub AreInOrder : List Label → List Part → Type 0
AreInOrder [] parts = Unit {0}
AreInOrder (l ∷ ls) parts = (back : List Part) × IsBefore l parts back × AreInOrder ls back
