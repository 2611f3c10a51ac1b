use Rattle.std.proofs.Common.{◌≡◌, ◌∙◌, refl, sym, ap, max, arith}
use Rattle.cmm_outside.specs.MemoryFiles.{Place}
use Rattle.cmm_outside.proofs.Places.{Puts-push, Puts-set, find-nowhere, find-position, position-name}
use Rattle.cmm_outside.proofs.memory_files.MemFiles.room.Goals as goal

pub returns-in_ok-grow-in-Some-clause-ok : goal.returns-in_ok-grow-in-Some-clause-ok
returns-in_ok-grow-in-Some-clause-ok c =
    let places : c.self.inside.places.items ≡ c.args.self.now.places = cc in
    let at = sym c.in-Some.ensures in
    let here = rw (places) at c.index_mut.ensures.value in
    let name : c.index_mut.result.now.name ≡ c.args.name.now =
    ap (λ (p : Place). p.name) here ∙ position-name _ _ _ c.index_mut.result.now at in
    rw (places, c.in_ok-grow-in-Some.ensures.ok, find-position _ _ _ c.index_mut.result.now at, ← here, name)
    (Puts-set _ _ _ _ at refl)

pub returns-in_ok-push-in-None-clause-ok : goal.returns-in_ok-push-in-None-clause-ok
returns-in_ok-push-in-None-clause-ok c =
    let places : c.self.inside.places.items ≡ c.args.self.now.places = cc in
    let at = sym c.in-None.ensures in
    let room : max 0 c.args.bytes ≡ c.args.bytes = omega arith in
    rw (c.in_ok-push-in-None.ensures.items, places, c.in_ok-new-in-None.ensures, find-nowhere _ _ at, room)
    (Puts-push _ _ _ at refl)
