-- Walks that were written.
use Rattle.std.proofs.Common.{◌≡◌, ℕ, List, None, inl, sym, subst}
use Rattle.std.specs.Prelude.{◌⊎◌}
use Rattle.rv_table.specs.declared.registers.Regs.{Regs}
use Rattle.rv_memory.specs.Regions.{Regions}
use Rattle.cmm_image.specs.declared.parts.ImageParts.{ImageParts}
use Rattle.cmm_image.specs.Images.{SpellsImage}
use Rattle.cmm_snapshot.specs.SnapshotFormat.{taken_of}
use Rattle.cmm_snapshot.specs.Snapshots.{SpellsSnapshot}
use Rattle.cmm_work.specs.Files.{HasBytes}
use Rattle.cmm_work.specs.Walking.{FailsToWalk, IsTorn, IsWhole, SameButOutput, Stopped, Walks}
use Rattle.cmm_work.specs.Work.{Work}

-- the walk is that of the program whose snapshot is in the file
pub has_walked : (name snapshot : List ℕ) (image : ImageParts) (regs regs' : Regs) (memory memory' : Regions) (w : Work) → regs ≡ regs' → memory ≡ memory' → w.image ≡ None →
    HasBytes w.before.files name (λ bytes. SpellsImage bytes image) → HasBytes w.before.files snapshot (λ bytes. SpellsSnapshot image bytes (taken_of regs' memory')) →
    SameButOutput w.before w.after →
    (let p : Stopped = record { image = image; regs = regs; memory = memory } in IsWhole p w ⊎ (IsTorn p w ⊎ FailsToWalk p w)) → Walks name snapshot w
has_walked name snapshot image regs regs' memory memory' w same same' none spelled stopped rest walked = inl record {
  program = record { image = image; regs = regs; memory = memory };
  no_image = none;
  spelled = spelled;
  stopped = subst (λ (r : Regs). HasBytes w.before.files snapshot (λ bytes. SpellsSnapshot image bytes (taken_of r memory))) (sym same)
      (subst (λ (m : Regions). HasBytes w.before.files snapshot (λ bytes. SpellsSnapshot image bytes (taken_of regs' m))) (sym same') stopped);
  same = rest;
  walked = walked;
}
