use Rattle.std.proofs.Common.{◌≡◌, refl, sym}
use Rattle.cmm_outside.proofs.Places.{find-position, find-nowhere}
use Rattle.cmm_outside.proofs.memory_files.MemFiles.get.Goals as goal

pub returns-in_err-position : goal.returns-in_err-position
returns-in_err-position c =
    rw (c.from_residual.ensures, find-nowhere _ _ (sym c.in_err-position.ensures)) refl

pub returns : goal.returns
returns c =
    let places : c.self.inside.places.items ≡ c.args.self.now.places = cc in
    rw (c.file.ensures, find-position _ _ _ c.index.result.now (sym c.in_ok-position.ensures), ← places, ← c.index.ensures) refl
