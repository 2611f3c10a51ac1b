-- The code of a unit that was laid: its bytes, and the places in it.
use Rattle.std.specs.Prelude.{◌≡◌, ℕ, ◌%◌, ◌≤◌, List, length, map, slice_index}
use Rattle.std.specs.List.{All}
use Rattle.rv_asm.specs.Assembly.{Fits}
use Rattle.rv_asm.specs.Filling.{AreApart}
use Rattle.rv_asm.specs.Finishing.{HavePlaces, RunAsParts, fix_symbols, symbols_of}
use Rattle.rv_asm.specs.Sizes.{all_longest}
use Rattle.rv_asm.specs.declared.part.Label.{Label}
use Rattle.rv_asm.specs.declared.part.Meaning.{Meaning}
use Rattle.rv_asm.specs.declared.part.Part.{Part}
use Rattle.cmm_unit_code.specs.declared.unit_code.UnitCode.{UnitCode}
use Rattle.cmm_emit.specs.declared.outline.Outline.{Outline}

-- the places that labels have
abbrev pub places_at : List ℕ → List Label → List ℕ
places_at places labels = map (λ l. slice_index places l.number) labels

-- The parts were finished, with places that count from the beginning.
pub record AreFinished (labels : List Meaning) (parts : List Part) (places : List ℕ) (u : UnitCode) : Type 0 where
  pub runs : RunAsParts labels parts 0 u.code places u.fixes
  pub have : HavePlaces labels parts 0 (length u.code) places
  pub symbols : fix_symbols u.fixes ≡ symbols_of labels parts
  pub fit : All (Fits labels) parts
  pub few : length u.code ≤ all_longest parts
  pub apart : AreApart 0 u.fixes (length u.code)
  pub whole : length u.code % 4 ≡ 0

-- so they are the code of a unit
pub record IsFinished (labels : List Meaning) (parts : List Part) (o : Outline) (u : UnitCode) : Type 0 where
  pub places : List ℕ
  pub done : AreFinished labels parts places u
  pub references : u.references ≡ o.references
  pub procedures : u.procedures ≡ places_at places o.entries
  pub landings : u.landings ≡ map (λ c. places_at places c.landings) o.contexts
  pub sites : u.sites ≡ map (λ c. places_at places c.sites) o.contexts
