use Rattle.std.proofs.Common.{◌≡◌, refl, sym}
use Rattle.cmm_outside.proofs.Places.{find-nowhere, find-position}
use Rattle.cmm_outside.proofs.memory_files.MemFiles.find.Goals as goal

pub returns-in_err-i-clause-possible : goal.returns-in_err-i-clause-possible
returns-in_err-i-clause-possible c =
    rw (c.from_residual.ensures, find-nowhere _ _ (sym c.in_err-i.ensures)) refl

pub returns-then-serves-clause-possible : goal.returns-then-serves-clause-possible
returns-then-serves-clause-possible c =
    let places : c.self.inside.places.items ≡ c.args.self.now.places = cc in
    rw (find-position _ _ _ c.index.result.now (sym c.in_ok-i.ensures), ← places, ← c.index.ensures) c.if-serves.ensures

pub returns-else-serves-clause-possible : goal.returns-else-serves-clause-possible
returns-else-serves-clause-possible c =
    let places : c.self.inside.places.items ≡ c.args.self.now.places = cc in
    rw (find-position _ _ _ c.index.result.now (sym c.in_ok-i.ensures), ← places, ← c.index.ensures) c.if-serves.ensures
