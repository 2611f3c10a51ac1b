use Rattle.std.proofs.Common.{◌≡◌, ◌++◌, refl, set, take, arith, nat_lt, true, Some}
use Rattle.std.proofs.lemmas.Bool.Decides.{nat_tests}
use Rattle.cmm_outside.specs.MemoryFiles.{FilesState, file_of, place_of, room_left}
use Rattle.cmm_outside.specs.Storage.{bytes_of}
use Rattle.cmm_outside.proofs.Places.{Rewrites, Rewrites→Sets, Rewrites→same_rooms, find-position}
use Rattle.cmm_outside.proofs.memory_files.MemFilesFiles.append.Goals as goal
use Rattle.cmm_outside.proofs.memory_files.MemFilesFiles.append.Goals.{After-append}

-- the state after the call
abbrev after : After-append → FilesState
after c = record {
  places = set c.self.inside.places.items c.in_ok-i.i c.append.new.self;
  calls = c.self.inside.calls;
  last_failed = c.self.inside.last_failed;
}

-- the place that the call works on
found : (c : After-append) → place_of c.args.self.now.places c.args.name.now ≡ Some c.index_mut-place.result.now
found c =
    let places : c.self.inside.places.items ≡ c.args.self.now.places = cc in
    let at = rw c.in_ok-i.ensures.same at c.in_ok-i.ensures.place in
    rw (find-position _ _ _ c.index_mut-place.result.now at, ← places, ← c.index_mut-place.ensures.value) refl

-- the place of the name is rewritten
rewrites : (c : After-append) →
    Rewrites c.args.self.now (after c) c.args.name.now c.in_ok-i.i c.index_mut-place.result.now c.append.new.self
    (bytes_of (file_of c.args.self.now c.args.name.now) ++ take c.min-count.result c.args.bytes.now)
rewrites c =
    let places : c.self.inside.places.items ≡ c.args.self.now.places = cc in
    record {
      at = rw c.in_ok-i.ensures.same at c.in_ok-i.ensures.place;
      old_is = rw places at c.index_mut-place.ensures.value;
      written = rw places refl;
      same_name = rw c.append.ensures refl;
      same_room = rw c.append.ensures refl;
      file = rw (c.append.ensures, found c) refl;
    }

pub returns-clause-all : goal.returns-clause-all
returns-clause-all c = rw (found (goal.at.returns-clause-all c).After-append) cc

pub returns-clause-progress : goal.returns-clause-progress
returns-clause-progress c =
    let room : nat_lt 0 (room_left c.index_mut-place.result.now) ≡ true =
    rw (found (goal.at.returns-clause-progress c).After-append) at c.in_ok-i.ensures.served in
    grind (arith, nat_tests)

pub returns-clause-appended : goal.returns-clause-appended
returns-clause-appended c = λ some. Rewrites→Sets _ _ _ _ _ _ _ (rewrites (goal.at.returns-clause-appended c).After-append)

pub returns-clause-same_rooms : goal.returns-clause-same_rooms
returns-clause-same_rooms c = Rewrites→same_rooms _ _ _ _ _ _ _ (rewrites (goal.at.returns-clause-same_rooms c).After-append)
