use Rattle.std.proofs.Common.{◌≡◌, refl, sym}
use Rattle.cmm_outside.proofs.Places.{Puts-push, Puts-set}
use Rattle.cmm_outside.proofs.memory_files.MemFiles.put.Goals as goal

pub returns-in-Some-clause-ok : goal.returns-in-Some-clause-ok
returns-in-Some-clause-ok c =
    let places : c.self.inside.places.items ≡ c.args.self.now.places = cc in
    rw (places, c.in_ok-place.ensures) (Puts-set _ _ _ _ (sym c.in-Some.ensures) refl)

pub returns-in_ok-push-in-None-clause-ok : goal.returns-in_ok-push-in-None-clause-ok
returns-in_ok-push-in-None-clause-ok c =
    let places : c.self.inside.places.items ≡ c.args.self.now.places = cc in
    rw (c.in_ok-push-in-None.ensures.items, places, c.in_ok-place.ensures) (Puts-push _ _ _ (sym c.in-None.ensures) refl)
