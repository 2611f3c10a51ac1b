-- Finished bytes in an image run as their parts, and what was appended does what it is to do.
use Rattle.std.proofs.Common.{◌≡◌, ℕ, ◌+◌, refl, sym, ◌∙◌, subst, arith, List, [], length}
use Rattle.std.specs.List.{All}
use Rattle.std.proofs.lemmas.List.{append-nil}
use Rattle.rv_table.specs.Memory.{code_base}
use Rattle.rv_asm.proofs.Shared.{Stand-append}
use Rattle.rv_asm.specs.Appending.{Appends}
use Rattle.rv_asm.specs.Finishing.{GoesToCode, address_of}
use Rattle.rv_asm.specs.Parts.{Code, Stand}
use Rattle.rv_asm.specs.declared.part.Meaning.{Meaning}
use Rattle.rv_asm.specs.declared.part.Part.{Part}
use Rattle.cmm_image_machine.specs.Machine.{Launch, map_of}
use Rattle.cmm_emit_laws.specs.Finished.{Finished}
use Rattle.cmm_emit_laws.specs.Placing.{FinishedCodeStands, IsPlacedIn}

pub finished_code_stands : FinishedCodeStands
finished_code_stands l f q labels parts base up bytes places fixes value runs placed =
    subst (λ (at : ℕ → ℕ). Stand (record { map = map_of l; at = at }) parts (base + up) (base + up + length bytes)) (sym placed.is_labels)
    (runs (map_of l) up value placed.aligned placed.near placed.reached placed.targets placed.contains)

-- a piece that was appended last does what it is to do where all parts stand
pub appended_does : (old new : List Part) (So : Code → ℕ → ℕ → Type 0) → Appends old new So → (x : Code) (from to : ℕ) → Stand x new from to → (mid : ℕ) × So x mid to
appended_does old new So piece x from to stand =
    let both = Stand-append x old piece.parts from to (subst (λ (ps : List Part). Stand x ps from to) piece.added stand) in
    (both.0, piece.so x both.0 to both.2)

-- an image whose code is these bytes, which wait for no symbol, has them at the code's base
pub placed_alone : (l : Launch) (f : Finished) (q : ℕ) (labels : List Meaning) (parts : List Part) (bytes places : List ℕ) (value : ℕ → ℕ) → l.image.code ≡ bytes →
    f.labels q ≡ address_of labels places 0 value → All (GoesToCode labels value) parts → IsPlacedIn l f q labels parts code_base 0 bytes places [] value
placed_alone l f q labels parts bytes places value is labels_are targets = record {
  aligned = refl;
  near = omega arith;
  reached = λ k fix less. absurd (omega (arith, less));
  targets = targets;
  contains = record { front = []; back = []; whole = is ∙ sym (append-nil bytes); place = refl };
  is_labels = labels_are;
}
