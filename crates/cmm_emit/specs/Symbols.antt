-- What a unit names that is not in its code, and the labels of it.
use Rattle.std.specs.Prelude.{◌≡◌, ℕ, ◌+◌, ◌<◌, ◌&&◌, nat_le, nat_lt, not, Bool, true, List, length, slice_get, slice_index_or, Option, Some, None}
use Rattle.cmm_bitset.specs.Sets.{has}
use Rattle.rv_asm.specs.declared.part.Label.{Label}
use Rattle.cmm_program.specs.declared.program.Program.{Program}
use Rattle.cmm_graph.specs.declared.graph.Graph.{Graph}
use Rattle.cmm_unit_code.specs.declared.unit_code.Reference.{Reference}
use Rattle.cmm_unit_code.specs.declared.unit_code.Reference.TheVariants as reference
use Rattle.cmm_emit.specs.Mentions.{is_reference, references_of}
use Rattle.cmm_emit.specs.Naming.{has_named}
use Rattle.cmm_emit.specs.declared.symbols.Symbols.{Symbols}

-- Of so many numbers of a sort each that is named has a label, and a label has the place of its number's reference in a list.
pub record AreLabelsOf (make : ℕ → Reference) (is_named : ℕ → Bool) (count : ℕ) (references : List Reference) (labels : List (Option Label)) : Type 0 where
  pub counted : length labels ≡ count
  pub each : (n : ℕ) (l : Label) → slice_index_or labels n None ≡ Some l → slice_get references l.number ≡ Some (make n)
  pub there : (n : ℕ) → n < count → is_named n ≡ true → has_named labels n ≡ true

-- so many numbers are no members any more, from one on
pub record IsWithout (first count : ℕ) (old new : List Bool) : Type 0 where
  pub size : length new ≡ length old
  pub each : (n : ℕ) → has new n ≡ (has old n && not (nat_le first n && nat_lt n (first + count)))

-- what a unit names that has so many procedures of a program, from one on, with these graphs
pub record AreSymbols (p : Program) (graphs : List Graph) (first count : ℕ) (s : Symbols) : Type 0 where
  pub references : s.references ≡ references_of p graphs first count
  pub registers : AreLabelsOf reference.Register (λ n. is_reference graphs first count (reference.Register n)) (length p.globals) s.references s.registers
  pub data_labels : AreLabelsOf reference.Label (λ n. is_reference graphs first count (reference.Label n)) (length p.labels) s.references s.data_labels
  pub procedures : AreLabelsOf reference.Procedure (λ n. is_reference graphs first count (reference.Procedure n)) (length p.procs) s.references s.procedures
