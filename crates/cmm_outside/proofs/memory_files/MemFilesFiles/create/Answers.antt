use Rattle.std.proofs.Common.{◌≡◌, [], refl, set}
use Rattle.cmm_outside.specs.MemoryFiles.{FilesState}
use Rattle.cmm_outside.proofs.Places.{Rewrites, Rewrites→Sets, Rewrites→same_rooms}
use Rattle.cmm_outside.proofs.memory_files.MemFilesFiles.create.Goals as goal
use Rattle.cmm_outside.proofs.memory_files.MemFilesFiles.create.Goals.{After-create}

-- the state after the call
abbrev after : After-create → FilesState
after c = record {
  places = set c.self.inside.places.items c.in_ok-i.i c.create.new.self;
  calls = c.self.inside.calls;
  last_failed = c.self.inside.last_failed;
}

-- the place of the name is rewritten
rewrites : (c : After-create) →
    Rewrites c.args.self.now (after c) c.args.name.now c.in_ok-i.i c.index_mut.result.now c.create.new.self []
rewrites c =
    let places : c.self.inside.places.items ≡ c.args.self.now.places = cc in
    record {
      at = rw c.in_ok-i.ensures.same at c.in_ok-i.ensures.place;
      old_is = rw places at c.index_mut.ensures.value;
      written = rw places refl;
      same_name = rw c.create.ensures refl;
      same_room = rw c.create.ensures refl;
      file = rw c.create.ensures refl;
    }

pub returns-clause-created : goal.returns-clause-created
returns-clause-created c = Rewrites→Sets _ _ _ _ _ _ _ (rewrites (goal.at.returns-clause-created c).After-create)

pub returns-clause-same_rooms : goal.returns-clause-same_rooms
returns-clause-same_rooms c = Rewrites→same_rooms _ _ _ _ _ _ _ (rewrites (goal.at.returns-clause-same_rooms c).After-create)
